-- The history of a cache structure: what it leads to, and which of its entries are accepted commands on the content.
use Rattle.std.specs.Prelude.{Bool, IsTrue, false, List, [], ◌∷◌, ◌++◌, Option, None, Some, is_some, option_and_then, option_map, unwrap_or}
use Rattle.cf_types.specs.declared.alter_commands.AlterCmd.{AlterCmd}
use Rattle.cf_types.specs.declared.alter_commands.AlterCmd.TheVariants as alter
use Rattle.cf_types.specs.declared.alter_commands.AlterReply.{AlterReply}
use Rattle.cf_types.specs.declared.alter_commands.AlterReply.TheVariants as answers
use Rattle.cf_types.specs.declared.cache_commands.CacheCmd.{CacheCmd}
use Rattle.cf_types.specs.declared.cache_commands.CacheReply.{CacheReply}
use Rattle.cf_types.specs.declared.forms.Caps.{Caps}
use Rattle.cf_types.specs.declared.forms.StrForm.{StrForm}
use Rattle.cf_types.specs.Forms.{is_cache}
use Rattle.engine_api.specs.declared.histories.Entry.{Entry}
use Rattle.engine_api.specs.History.{IsLegal, replay}
use Rattle.cache_model.specs.Contents.{Content, IsContent}
use Rattle.alter_model.specs.declared.contents.AlterContent.{AlterContent}
use Rattle.alter_model.specs.Meaning.{caps_or}
use Rattle.shell_laws.specs.Accepted.{Accepted as AcceptedOf, accepted_as}
use Rattle.run_shown.specs.Meanings.{altered_caches}

abbrev pub CacheEntry : Type 0
CacheEntry = Entry (AlterCmd CacheCmd) (AlterReply CacheReply)

abbrev pub CacheHistory : Type 0
CacheHistory = List CacheEntry

-- ---- the cache in a structure, whose capacity is altered round it

-- the cache in a structure's content
abbrev pub cache_in : AlterContent Content → Content
cache_in content = content.inner

abbrev pub told_inside : AlterCmd CacheCmd → AlterReply CacheReply → Option (AcceptedOf CacheCmd CacheReply)
told_inside (alter.Inner command) (answers.Inner answer) = Some (record { command = command; answer = answer })
told_inside command answer = None

-- the cache's command in an accepted one of the structure, unless that alters it
abbrev pub cache_told : AcceptedOf (AlterCmd CacheCmd) (AlterReply CacheReply) → Option (AcceptedOf CacheCmd CacheReply)
cache_told told = told_inside told.command told.answer

-- ---- what a history leads to

abbrev pub IsLegalCache : StrForm → CacheHistory → Type 0
IsLegalCache form history = IsLegal altered_caches form history

-- the directory and the registrations after a history
abbrev pub content_after : StrForm → CacheHistory → Content
content_after form history = cache_in (replay altered_caches form history).content

-- the capacity of its instances
abbrev pub capacity_after : StrForm → CacheHistory → Caps
capacity_after form history = (replay altered_caches form history).shell.caps

-- the limits, where an alteration has set some, or else that capacity
abbrev pub limits_after : StrForm → CacheHistory → Caps
limits_after form history = caps_or (replay altered_caches form history).content.limits (capacity_after form history)

-- the form being a cache's, entries and data are within them
abbrev pub IsWithin : StrForm → CacheHistory → Type 0
IsWithin form history =
    IsTrue (is_cache form.kind) → IsContent (limits_after form history) (content_after form history)

-- an instance of the structure stands
abbrev pub is_allocated : StrForm → CacheHistory → Bool
is_allocated form history = is_some (replay altered_caches form history).shell.instances.primary

-- the structure isn't deallocated by these further entries: an instance stands after each of them
abbrev pub StaysAllocated : StrForm → CacheHistory → CacheHistory → Type 0
StaysAllocated form history [] = Unit {0}
StaysAllocated form history (entry ∷ entries) =
    IsTrue (is_allocated form (history ++ entry ∷ [])) × StaysAllocated form (history ++ entry ∷ []) entries

-- ---- accepted commands

abbrev pub Accepted : Type 0
Accepted = AcceptedOf CacheCmd CacheReply

-- the accepted command that an entry tells, if it tells one
abbrev pub acceptance_of : CacheEntry → Option Accepted
acceptance_of entry = option_and_then cache_told (accepted_as entry.what entry.reply)

-- the entry tells an accepted command of this sort
abbrev pub is_accepted : (CacheCmd → Bool) → CacheEntry → Bool
is_accepted is entry = unwrap_or (option_map (λ told. is told.command) (acceptance_of entry)) false
