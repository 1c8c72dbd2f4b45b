-- What a reader makes of the words of a line, behind who and structure.
use Rattle.std.specs.Prelude.{ℕ, ◌||◌, Bool, if◌then◌else◌, List, [], ◌∷◌, Option, None, Some, option_map, codes, unwrap_or}
use Rattle.cf_types.specs.declared.limits.TheConstants.{RETRIES}
use Rattle.cf_types.specs.declared.numbers.ConnId.{ConnId}
use Rattle.cf_types.specs.declared.forms.Kind.{Kind}
use Rattle.cf_types.specs.declared.forms.Kind.TheVariants as kind
use Rattle.cf_types.specs.declared.shell_commands.ShellCmd.{ShellCmd}
use Rattle.cf_types.specs.declared.cache_commands.CacheCmd.{CacheCmd}
use Rattle.cf_types.specs.declared.alter_commands.AlterCmd.{AlterCmd}
use Rattle.cf_types.specs.declared.list_commands.QueueCmd.{QueueCmd}
use Rattle.cf_types.specs.declared.lock_commands.LockCmd.{LockCmd}
use Rattle.engine_api.specs.declared.asks.Ask.{Ask}
use Rattle.engine_api.specs.declared.asks.Ask.TheVariants.{Shell, Content}
use Rattle.plex_plain.specs.PlexSpell.declared.rigour.Rigour.{Rigour}
use Rattle.plex_plain.specs.PlexSpell.Words.{begins_with, words_behind}
use Rattle.plex_plain.specs.PlexSpell.Tokens.{Declared}
use Rattle.plex_plain.specs.PlexSpell.Places.{◌>>=◌, on_first, number_of}
use Rattle.plex_plain.specs.PlexSpell.Patterns.{option_at, number_at}
use Rattle.plex_plain.specs.PlexSpell.ShellWords.{may_give, is_operator}
use Rattle.plex_plain.specs.PlexSpell.ShellReading.{shell_at}
use Rattle.plex_plain.specs.PlexSpell.AlterReading.{alter_at}
use Rattle.plex_plain.specs.PlexSpell.QueueReading.{queue_at}
use Rattle.plex_plain.specs.PlexSpell.LockReading.{lock_at}
use Rattle.plex_script.specs.declared.scripts.AnyAsk.{AnyAsk}
use Rattle.plex_script.specs.declared.scripts.AnyAsk.TheVariants as any
use Rattle.plex_script.specs.declared.scripts.Act.{Act}
use Rattle.plex_script.specs.declared.scripts.Act.TheVariants.{Call, Test, TestWord, Post, Take, Events}
use Rattle.plex_script.specs.LineWords.{has_vectors}

-- a common command, by who may give it; else one on the content, by a connector
abbrev pub ask_at : {C : Type 0} → ConnId → Option (ShellCmd × List (List ℕ)) → Option (C × List (List ℕ))
    → Option (Ask C × List (List ℕ))
ask_at by None content = if is_operator by then None else option_map (λ read. (Content read.0, read.1)) content
ask_at by (Some read) content = if may_give by read.0 then Some (Shell read.0, read.1) else None

abbrev pub cache_ask_at : Rigour → Declared → ConnId → List (List ℕ) → Option (Ask (AlterCmd CacheCmd) × List (List ℕ))
cache_ask_at rigour declared by words = ask_at by (shell_at rigour declared words) (alter_at rigour declared words)

abbrev pub list_ask_at : Rigour → Declared → ConnId → List (List ℕ) → Option (Ask QueueCmd × List (List ℕ))
list_ask_at rigour declared by words = ask_at by (shell_at rigour declared words) (queue_at rigour declared words)

abbrev pub lock_ask_at : Rigour → Declared → ConnId → List (List ℕ) → Option (Ask LockCmd × List (List ℕ))
lock_ask_at rigour declared by words = ask_at by (shell_at rigour declared words) (lock_at rigour declared words)

abbrev pub any_ask_at : Rigour → Declared → ConnId → Kind → List (List ℕ) → Option (AnyAsk × List (List ℕ))
any_ask_at rigour declared by kind.Cache words = option_map (λ read. (any.Cache read.0, read.1))
    (cache_ask_at rigour declared by words)
any_ask_at rigour declared by (kind.List headers locks refs) words = option_map (λ read. (any.List read.0, read.1))
    (list_ask_at rigour declared by words)
any_ask_at rigour declared by kind.Lock words = option_map (λ read. (any.Lock read.0, read.1))
    (lock_ask_at rigour declared by words)

abbrev pub retry_at : Rigour → List (List ℕ) → Option (Option ℕ × List (List ℕ))
retry_at rigour words = option_at (codes "RETRY") (on_first (number_of rigour 1 RETRIES)) words

abbrev pub call_at : Rigour → Declared → ConnId → Kind → List (List ℕ) → Option ((Act × ℕ) × List (List ℕ))
call_at rigour declared by kind words =
    any_ask_at rigour declared by kind words
    >>= (λ asked. option_map (λ read. ((Call asked.0, unwrap_or read.0 0), read.1)) (retry_at rigour asked.1))

-- what asks the structure nothing
abbrev pub own_at : Rigour → Kind → List (List ℕ) → Option ((Act × ℕ) × List (List ℕ))
own_at rigour kind words =
    if begins_with (codes "TEST") words
    then (if has_vectors kind then option_map (λ read. ((Test read.0, 0), read.1))
    (number_at rigour (words_behind words))
    else None)
    else if begins_with (codes "TESTWORD") words
    then (if has_vectors kind then option_map (λ read. ((TestWord read.0, 0), read.1))
    (number_at rigour (words_behind words)) else None)
    else if begins_with (codes "POST") words then Some ((Post, 0), words_behind words)
    else if begins_with (codes "TAKE") words then Some ((Take, 0), words_behind words)
    else if begins_with (codes "EVENTS") words then Some ((Events, 0), words_behind words)
    else None

abbrev pub is_own : List (List ℕ) → Bool
is_own words =
    begins_with (codes "TEST") words || begins_with (codes "TESTWORD") words || begins_with (codes "POST") words
    || begins_with (codes "TAKE") words || begins_with (codes "EVENTS") words

abbrev pub done_at : Rigour → Declared → ConnId → Kind → List (List ℕ) → Option ((Act × ℕ) × List (List ℕ))
done_at rigour declared by kind words =
    if is_own words then (if is_operator by then None else own_at rigour kind words) else call_at rigour declared by
    kind words

-- what was read, where no word is left
abbrev pub whole_read : {V : Type 0} → V × List (List ℕ) → Option V
whole_read read = left read.0 read.1
  where
    left : {V : Type 0} → V → List (List ℕ) → Option V
    left value [] = Some value
    left value (word ∷ words) = None

abbrev pub act_at : Rigour → Declared → ConnId → Kind → List (List ℕ) → Option (Act × ℕ)
act_at rigour declared by kind words = done_at rigour declared by kind words >>= whole_read
