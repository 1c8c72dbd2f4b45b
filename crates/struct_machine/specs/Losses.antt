-- What becomes of the instances where one is lost.
use Rattle.std.specs.Prelude.{None}
use Rattle.cf_types.specs.declared.numbers.CfId.{CfId}
use Rattle.plex_shell.specs.declared.lost_as.LostAs.{LostAs}
use Rattle.plex_shell.specs.declared.lost_as.LostAs.TheVariants.{Simplex, Stopped, FailedNow}
use Rattle.struct_machine.specs.Content.{Kept, nothing_kept}
use Rattle.struct_machine.specs.Deeds.{MayDrop, at_left}

-- of two the one in the facility ends; a rebuild's new one; or all
abbrev pub kept_without : {S : Type 0} → LostAs → CfId → Kept S → Kept S
kept_without (Simplex left) cf kept = record kept { at = at_left cf kept.at }
kept_without (Stopped number) cf kept = record kept { fresh = None }
kept_without FailedNow cf kept = nothing_kept

-- there are two, where one of them is to be left
abbrev pub IsEnding : {S : Type 0} → LostAs → CfId → Kept S → Type 0
IsEnding (Simplex left) cf kept = MayDrop kept cf
IsEnding (Stopped number) cf kept = Unit {0}
IsEnding FailedNow cf kept = Unit {0}
