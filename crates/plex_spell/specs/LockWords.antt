-- The words of the commands of a lock structure.
use Rattle.std.specs.Prelude.{List, [], ◌∷◌, codes}
use Rattle.cf_types.specs.declared.lock_commands.Decision.{Decision}
use Rattle.cf_types.specs.declared.lock_commands.Decision.TheVariants.{Keep, Deny, Notify}
use Rattle.cf_types.specs.declared.lock_commands.LockCmd.{LockCmd}
use Rattle.cf_types.specs.declared.lock_commands.LockCmd.TheVariants.{Obtain, Alter, Release, Decide, RtRead, RtDelete}
use Rattle.plex_spell.specs.Tokens.{Token}
use Rattle.plex_spell.specs.Tokens.Token.{Literal, OnResource, OfConnector}
use Rattle.plex_spell.specs.Fields.{all_tokens, short_tokens, option_tokens, state}

abbrev pub decision : Decision → Token
decision Keep = Literal (codes "KEEP")
decision Deny = Literal (codes "DENY")
decision Notify = Literal (codes "NOTIFY")

abbrev pub lock_tokens : LockCmd → List Token
lock_tokens (Obtain r excl rec) = Literal (codes "OBTAIN") ∷ OnResource r ∷ state excl ∷ all_tokens
    (option_tokens (codes "REC") short_tokens rec ∷ [])
lock_tokens (Alter r excl rec) = Literal (codes "ALTER") ∷ OnResource r ∷ state excl ∷ all_tokens
    (option_tokens (codes "REC") short_tokens rec ∷ [])
lock_tokens (Release r) = Literal (codes "RELEASE") ∷ OnResource r ∷ []
lock_tokens (Decide r conn how) = Literal (codes "DECIDE") ∷ OnResource r ∷ OfConnector conn ∷ decision how ∷ []
lock_tokens (RtRead conn) = Literal (codes "RTREAD") ∷ OfConnector conn ∷ []
lock_tokens (RtDelete conn r) = Literal (codes "RTDELETE") ∷ OfConnector conn ∷ OnResource r ∷ []
