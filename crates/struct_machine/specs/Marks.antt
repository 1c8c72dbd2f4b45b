-- What marks tell.
use Rattle.std.specs.Prelude.{Bool, true, false}
use Rattle.plex_shell.specs.declared.lost_as.LostAs.{LostAs}
use Rattle.plex_shell.specs.declared.lost_as.LostAs.TheVariants.{FailedNow}

-- the structure failed
abbrev pub is_failure : LostAs → Bool
is_failure FailedNow = true
is_failure _ = false
