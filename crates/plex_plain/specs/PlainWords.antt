-- The words of a command in plain form, as a report and a printed script have them.
use Rattle.std.specs.Prelude.{ℕ, ◌==◌, Bool, true, false, if◌then◌else◌, List, [], ◌∷◌, Option, None, Some, codes, map}
use Rattle.std.specs.Fmt.{decimal}
use Rattle.cf_types.specs.declared.names.Name16.{Name16}
use Rattle.cf_types.specs.declared.names.Key16.{Key16}
use Rattle.cf_types.specs.declared.forms.Refs.{Refs}
use Rattle.cf_types.specs.declared.forms.Refs.TheVariants as refs
use Rattle.cf_types.specs.declared.forms.StrForm.{StrForm}
use Rattle.cf_types.specs.Term.{text_in_block}
use Rattle.cf_types.specs.declared.shell_commands.ShellCmd.{ShellCmd}
use Rattle.cf_types.specs.declared.cache_commands.CacheCmd.{CacheCmd}
use Rattle.cf_types.specs.declared.cache_commands.CacheCmd.TheVariants.{Read, Write, CrossInval, RegList, Castout, Unlock, CoClass, CoStats, DirInfo, Delete, StgStats}
use Rattle.cf_types.specs.declared.alter_commands.AlterCmd.{AlterCmd}
use Rattle.cf_types.specs.declared.alter_commands.AlterCmd.TheVariants.{Inner, Start, Step, Stop}
use Rattle.cf_types.specs.declared.list_commands.ListCmd.{ListCmd}
use Rattle.cf_types.specs.declared.list_commands.QueueCmd.{QueueCmd}
use Rattle.cf_types.specs.declared.lock_commands.LockCmd.{LockCmd}
use Rattle.plex_spell.specs.Tokens.{Token, name_word}
use Rattle.plex_spell.specs.Tokens.Token.{Literal, Number, Term, Short, Data, OnResource, Record, OfFacility, OfConnector, OfStructure, NewFacility, NewName}
use Rattle.plex_spell.specs.ShellWords.{shell_tokens}
use Rattle.plex_spell.specs.CacheWords.{cache_tokens}
use Rattle.plex_spell.specs.AlterWords.{alter_tokens}
use Rattle.plex_spell.specs.ListWords.{list_tokens}
use Rattle.plex_spell.specs.QueueWords.{queue_tokens}
use Rattle.plex_spell.specs.LockWords.{lock_tokens}
use Rattle.plex_plain.specs.Naming.{facility_word, record_word, resource_word, caller_name, structure_name}

-- each token has one plain word: data in full
abbrev pub plain_word : List StrForm → List Name16 → Token → List ℕ
plain_word structures connectors (Literal text) = text
plain_word structures connectors (Number low high n) = decimal n
plain_word structures connectors (Term bytes) = text_in_block bytes
plain_word structures connectors (Short text) = text
plain_word structures connectors (Data text) = text
plain_word structures connectors (OnResource r) = resource_word r
plain_word structures connectors (Record id) = record_word id
plain_word structures connectors (OfFacility cf) = facility_word cf
plain_word structures connectors (OfConnector conn) = caller_name connectors conn.0
plain_word structures connectors (OfStructure on) = structure_name structures on.0
plain_word structures connectors (NewFacility cf) = facility_word cf
plain_word structures connectors (NewName name) = name_word name

abbrev pub plain_words : List StrForm → List Name16 → List Token → List (List ℕ)
plain_words structures connectors tokens = map (plain_word structures connectors) tokens

-- ---- commands

-- storage class 1 is left out
abbrev pub class_told : ℕ → Option ℕ
class_told stg = if stg == 1 then None else Some stg

-- the storage class that is written out, if one is
abbrev pub storage_told : CacheCmd → Option ℕ
storage_told (Read name index old stg) = class_told stg
storage_told (Write name index body class adj old stg when_reg) = class_told stg
storage_told (CrossInval name) = None
storage_told RegList = None
storage_told (Castout name) = None
storage_told (Unlock name) = None
storage_told (CoClass class) = None
storage_told CoStats = None
storage_told (DirInfo name) = None
storage_told (Delete name) = None
storage_told (StgStats stg) = None

abbrev pub alter_storage_told : AlterCmd CacheCmd → Option ℕ
alter_storage_told (Inner cmd) = storage_told cmd
alter_storage_told (Start caps) = None
alter_storage_told (Step n) = None
alter_storage_told Stop = None

abbrev pub shell_words : List Name16 → ShellCmd → List (List ℕ)
shell_words connectors cmd = plain_words [] connectors (shell_tokens cmd)

abbrev pub cache_words : CacheCmd → List (List ℕ)
cache_words cmd = plain_words [] [] (cache_tokens (storage_told cmd) cmd)

abbrev pub alter_words : AlterCmd CacheCmd → List (List ℕ)
alter_words cmd = plain_words [] [] (alter_tokens (alter_storage_told cmd) cmd)

abbrev pub list_words : ListCmd → List (List ℕ)
list_words cmd = plain_words [] [] (list_tokens cmd)

abbrev pub queue_words : QueueCmd → List (List ℕ)
queue_words cmd = plain_words [] [] (queue_tokens cmd)

abbrev pub lock_words : List Name16 → LockCmd → List (List ℕ)
lock_words connectors cmd = plain_words [] connectors (lock_tokens cmd)

-- ---- parts of commands and replies

-- what may be told: a word, and the words of the value, where there is one
abbrev pub told_words : {X : Type 0} → List ℕ → (X → List (List ℕ)) → Option X → List (List ℕ)
told_words word value None = []
told_words word value (Some x) = word ∷ value x

abbrev pub number_words : ℕ → List (List ℕ)
number_words n = decimal n ∷ []

abbrev pub text_words : List ℕ → List (List ℕ)
text_words text = text ∷ []

abbrev pub name_words : Name16 → List (List ℕ)
name_words name = name_word name ∷ []

abbrev pub key_words : Key16 → List (List ℕ)
key_words key = text_in_block key.0 ∷ []

abbrev pub keep_word : Bool → List ℕ
keep_word true = codes "KEEP"
keep_word false = codes "DELETE"

abbrev pub refs_word : Refs → List ℕ
refs_word refs.Names = codes "NAMES"
refs_word refs.Keys = codes "KEYS"
refs_word refs.Nothing = codes "NOTHING"

-- how an entry is written
abbrev pub castout_words : Option ℕ → List (List ℕ)
castout_words None = codes "UNCHANGED" ∷ []
castout_words (Some class) = codes "CHANGED" ∷ decimal class ∷ []

-- the first of a header, or the last
abbrev pub end_word : Bool → List ℕ
end_word true = codes "HEAD"
end_word false = codes "TAIL"

-- the state of a lock
abbrev pub state_word : Bool → List ℕ
state_word true = codes "EXCL"
state_word false = codes "SHR"
