-- The words of the commands of a cache structure.
use Rattle.std.specs.Prelude.{◌≡◌, ℕ, List, [], ◌∷◌, Option, None, Some, codes, unwrap_or}
use Rattle.cf_types.specs.declared.cache_commands.CacheCmd.{CacheCmd}
use Rattle.cf_types.specs.declared.cache_commands.CacheCmd.TheVariants.{Read, Write, CrossInval, RegList, Castout, Unlock, CoClass, CoStats, DirInfo, Delete, StgStats}
use Rattle.plex_spell.specs.Tokens.{Token}
use Rattle.plex_spell.specs.Tokens.Token.{Literal, Term, Data}
use Rattle.plex_spell.specs.Fields.{all_tokens, number, name_tokens, number_tokens, short_tokens, option_tokens, flag_tokens}

-- the castout class, where the entry is written as changed
abbrev pub class_tokens : Option ℕ → List Token
class_tokens None = Literal (codes "UNCHANGED") ∷ []
class_tokens (Some class) = Literal (codes "CHANGED") ∷ number class ∷ []

-- a command, with the storage class that is written out, if one is
abbrev pub cache_tokens : Option ℕ → CacheCmd → List Token
cache_tokens given (Read name index old stg) =
    Literal (codes "READ") ∷ Term name.0 ∷ number index
    ∷ all_tokens (option_tokens (codes "OLD") name_tokens old ∷ option_tokens (codes "STG") number_tokens given ∷ [])
cache_tokens given (Write name index body class adj old stg when_reg) =
    Literal (codes "WRITE") ∷ Term name.0 ∷ number index ∷ Data body
    ∷ all_tokens (class_tokens class ∷ option_tokens (codes "ADJ") short_tokens adj ∷ option_tokens (codes "OLD")
    name_tokens old
    ∷ option_tokens (codes "STG") number_tokens given ∷ flag_tokens (codes "WHENREG") when_reg ∷ [])
cache_tokens given (CrossInval name) = Literal (codes "CROSSINVAL") ∷ Term name.0 ∷ []
cache_tokens given RegList = Literal (codes "REGLIST") ∷ []
cache_tokens given (Castout name) = Literal (codes "CASTOUT") ∷ Term name.0 ∷ []
cache_tokens given (Unlock name) = Literal (codes "UNLOCK") ∷ Term name.0 ∷ []
cache_tokens given (CoClass class) = Literal (codes "COCLASS") ∷ number class ∷ []
cache_tokens given CoStats = Literal (codes "COSTATS") ∷ []
cache_tokens given (DirInfo name) = Literal (codes "DIRINFO") ∷ Term name.0 ∷ []
cache_tokens given (Delete name) = Literal (codes "DELETE") ∷ Term name.0 ∷ []
cache_tokens given (StgStats stg) = Literal (codes "STGSTATS") ∷ number stg ∷ []

-- the storage class of an entry that the command makes is 1, unless it is written out
abbrev pub IsGiven : Option ℕ → CacheCmd → Type 0
IsGiven given (Read name index old stg) = stg ≡ unwrap_or given 1
IsGiven given (Write name index body class adj old stg when_reg) = stg ≡ unwrap_or given 1
IsGiven given (CrossInval name) = given ≡ None
IsGiven given RegList = given ≡ None
IsGiven given (Castout name) = given ≡ None
IsGiven given (Unlock name) = given ≡ None
IsGiven given (CoClass class) = given ≡ None
IsGiven given CoStats = given ≡ None
IsGiven given (DirInfo name) = given ≡ None
IsGiven given (Delete name) = given ≡ None
IsGiven given (StgStats stg) = given ≡ None
