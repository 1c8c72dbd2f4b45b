-- When a cache isn't altered since it would be too small for what there is.
use Rattle.std.specs.Prelude.{◌≡◌, ℕ, ◌≤◌, ◌<◌, ◌⊎◌, ◌∷◌, ◌++◌, Option, None, Some, option_map}
use Rattle.cf_types.specs.declared.alter_commands.AlterCmd.{AlterCmd}
use Rattle.cf_types.specs.declared.alter_commands.AlterCmd.TheVariants as alter
use Rattle.cf_types.specs.declared.cache_commands.CacheCmd.{CacheCmd}
use Rattle.cf_types.specs.declared.forms.Caps.{Caps}
use Rattle.cf_types.specs.declared.forms.StrForm.{StrForm}
use Rattle.cf_types.specs.declared.numbers.ConnId.{ConnId}
use Rattle.engine_api.specs.declared.asks.Ask.TheVariants as ask
use Rattle.engine_api.specs.declared.asks.What.TheVariants as what
use Rattle.engine_api.specs.History.{replay}
use Rattle.engine_api.specs.Instances.{units_of}
use Rattle.engine_api.specs.Shapes.{shape_of}
use Rattle.engine_api.specs.Shell.{content_cause}
use Rattle.cache_model.specs.Meaning.{cache_meaning}
use Rattle.alter_model.specs.Meaning.{IsWithin, caps_toward, need_of}
use Rattle.run_shown.specs.Meanings.{altered_caches}
use Rattle.run_laws.specs.CacheHistories.{CacheEntry, CacheHistory, capacity_after, limits_after}

-- the capacity that an alteration goes towards after a history
abbrev pub target_after : StrForm → CacheHistory → Option Caps
target_after form history = (replay altered_caches form history).content.target

-- what the entries and their data need
abbrev pub need_after : StrForm → CacheHistory → Caps
need_after form history = need_of cache_meaning (shape_of form) (replay altered_caches form history).content

-- the capacity that a command asks for: a START its target, a STEP the limits that it comes to
abbrev pub asked_for : StrForm → CacheHistory → AlterCmd CacheCmd → Option Caps
asked_for form history (alter.Inner cmd) = None
asked_for form history (alter.Start target) = Some target
asked_for form history (alter.Step n) =
    option_map (caps_toward n (limits_after form history)) (target_after form history)
asked_for form history alter.Stop = None

-- so many are needed, and fewer there: in entries first, and then in elements
abbrev pub IsShort : (need caps : Caps) → (needed there : ℕ) → Type 0
IsShort need caps needed there =
    ((caps.entries < need.entries) × (needed ≡ need.entries) × (there ≡ caps.entries))
    ⊎ ((need.entries ≤ caps.entries) × (caps.elements < need.elements) × (needed ≡ need.elements)
    × (there ≡ caps.elements))

-- the command asks for a capacity that is too small for what there is
pub record IsTooSmall (form : StrForm) (history : CacheHistory) (cmd : AlterCmd CacheCmd) (needed there : ℕ) : Type 0
  where
    pub caps : Caps
    pub asked : asked_for form history cmd ≡ Some caps
    pub short : IsShort (need_after form history) caps needed there

-- an entry of the history, behind some others, is a command on the content
pub record IsAskedAt (history before : CacheHistory) (entry : CacheEntry) (cmd : AlterCmd CacheCmd) : Type 0 where
  pub after : CacheHistory
  pub split : history ≡ before ++ entry ∷ after
  pub asks : entry.what ≡ what.Call (ask.Content cmd)

-- the structure's shell doesn't refuse the command, and it asks for no more units than the capacity has
pub record IsLetThrough (form : StrForm) (history : CacheHistory) (by : ConnId) (cmd : AlterCmd CacheCmd) : Type 0 where
  pub shell : content_cause (replay altered_caches form history).shell by ≡ None
  pub units : IsWithin (units_of (capacity_after form history)) (asked_for form history cmd)
