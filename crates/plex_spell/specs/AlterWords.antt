-- The words of the commands of a cache structure whose capacity can be altered.
use Rattle.std.specs.Prelude.{◌≡◌, ℕ, List, [], ◌∷◌, Option, None, codes}
use Rattle.cf_types.specs.declared.limits.TheConstants.{ALTER_STEP}
use Rattle.cf_types.specs.declared.alter_commands.AlterCmd.{AlterCmd}
use Rattle.cf_types.specs.declared.alter_commands.AlterCmd.TheVariants.{Inner, Start, Step, Stop}
use Rattle.cf_types.specs.declared.cache_commands.CacheCmd.{CacheCmd}
use Rattle.plex_spell.specs.Tokens.{Token}
use Rattle.plex_spell.specs.Tokens.Token.{Literal, Number}
use Rattle.plex_spell.specs.ShellWords.{amount}
use Rattle.plex_spell.specs.CacheWords.{cache_tokens, IsGiven}

-- a command, with the storage class that is written out, if one is
abbrev pub alter_tokens : Option ℕ → AlterCmd CacheCmd → List Token
alter_tokens given (Inner cmd) = cache_tokens given cmd
alter_tokens given (Start caps) =
    Literal (codes "ALTER") ∷ Literal (codes "START") ∷ amount caps.entries ∷ amount caps.elements ∷ []
alter_tokens given (Step n) = Literal (codes "ALTER") ∷ Literal (codes "STEP") ∷ Number 1 ALTER_STEP n ∷ []
alter_tokens given Stop = Literal (codes "ALTER") ∷ Literal (codes "STOP") ∷ []

-- the storage class of an entry that the command makes is 1, unless it is written out
abbrev pub IsAlterGiven : Option ℕ → AlterCmd CacheCmd → Type 0
IsAlterGiven given (Inner cmd) = IsGiven given cmd
IsAlterGiven given (Start caps) = given ≡ None
IsAlterGiven given (Step n) = given ≡ None
IsAlterGiven given Stop = given ≡ None
