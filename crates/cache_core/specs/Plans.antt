-- What is got ready for a command: its reply, and the names of the rows that are reclaimed.
use Rattle.std.specs.Prelude.{◌≡◌, ℕ, ◌<◌, false, List, [], Option, Some, None, Ok, Err}
use Rattle.cf_types.specs.declared.forms.Caps.{Caps}
use Rattle.cf_types.specs.declared.names.Name16.{Name16}
use Rattle.cf_types.specs.declared.numbers.ConnId.{ConnId}
use Rattle.cf_types.specs.declared.refusals.Refusal.{Refusal}
use Rattle.cf_types.specs.declared.cache_commands.CacheCmd.{CacheCmd}
use Rattle.cf_types.specs.declared.cache_commands.CacheCmd.TheVariants.{Read, Write, CrossInval, RegList, Castout, Unlock, CoClass, CoStats, DirInfo, Delete, StgStats}
use Rattle.cache_core.specs.declared.plans.Plan.{Plan}
use Rattle.cache_model.specs.Contents.{Content, is_among}
use Rattle.cache_model.specs.Step.{cause, reply, victims}

-- a refused command asks for nothing
abbrev pub plan_unless : Option Refusal → Caps → Content → ConnId → CacheCmd → Plan
plan_unless None caps content by cmd =
    record { reply = Ok (reply content by cmd); gone = victims caps content.rows cmd }
plan_unless (Some refusal) caps content by cmd = record { reply = Err refusal; gone = [] }

abbrev pub plan_for : ℕ → Caps → Content → ConnId → CacheCmd → Plan
plan_for vector caps content by cmd = plan_unless (cause vector caps content by cmd) caps content by cmd

-- the name of a command that may reclaim isn't among those that are reclaimed
abbrev pub IsSpared : List Name16 → CacheCmd → Type 0
IsSpared gone (Read name index old stg) = is_among gone name ≡ false
IsSpared gone (Write name index body class adj old stg when_reg) = is_among gone name ≡ false
IsSpared gone (CrossInval name) = Unit {0}
IsSpared gone RegList = Unit {0}
IsSpared gone (Castout name) = Unit {0}
IsSpared gone (Unlock name) = Unit {0}
IsSpared gone (CoClass class) = Unit {0}
IsSpared gone CoStats = Unit {0}
IsSpared gone (DirInfo name) = Unit {0}
IsSpared gone (Delete name) = Unit {0}
IsSpared gone (StgStats stg) = Unit {0}

-- the index at which a command registers the caller is one of the vector's
abbrev pub IsIndexed : ℕ → CacheCmd → Type 0
IsIndexed len (Read name index old stg) = index < len
IsIndexed len (Write name index body class adj old stg when_reg) = index < len
IsIndexed len (CrossInval name) = Unit {0}
IsIndexed len RegList = Unit {0}
IsIndexed len (Castout name) = Unit {0}
IsIndexed len (Unlock name) = Unit {0}
IsIndexed len (CoClass class) = Unit {0}
IsIndexed len CoStats = Unit {0}
IsIndexed len (DirInfo name) = Unit {0}
IsIndexed len (Delete name) = Unit {0}
IsIndexed len (StgStats stg) = Unit {0}
