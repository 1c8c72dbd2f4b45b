-- A rebuild that ends without its new instance.
use Rattle.std.specs.Prelude.{◌≡◌, List, [], ◌∷◌, ◌++◌, None}
use Rattle.cf_types.specs.declared.forms.StrForm.{StrForm}
use Rattle.engine_api.specs.declared.histories.Entry.{Entry}
use Rattle.engine_api.specs.History.{replay}
use Rattle.engine_api.specs.Machine.{Machine}
use Rattle.engine_api.specs.Meaning.{Meaning}
use Rattle.engine_api.specs.Rebuilds.{fresh_of}
use Rattle.shell_laws.specs.Tellings.{telling_entry}
use Rattle.shell_laws.specs.Tellings.Telling.{Stops}

-- the content as it was, the instances where they stood, and no new instance
abbrev pub KeepsTheOld : {State : Type 0} (before after : Machine State) → Type 0
KeepsTheOld before after =
    (after.content ≡ before.content)
    × (after.shell.instances ≡ before.shell.instances)
    × (fresh_of after.shell.rebuild ≡ None)

-- so does each entry by which a rebuild is stopped: a REBUILD STOP, or the loss of its new instance
abbrev pub StopsKeepTheOld : {C R I S : Type 0} → Meaning C R I S → StrForm → List (Entry C R) → Type 0
StopsKeepTheOld {C} {R} meaning form history =
    (before behind : List (Entry C R)) (entry : Entry C R) → history ≡ before ++ entry ∷ behind
    → (telling_entry entry).telling ≡ Stops
    → KeepsTheOld (replay meaning form before) (replay meaning form (before ++ entry ∷ []))
