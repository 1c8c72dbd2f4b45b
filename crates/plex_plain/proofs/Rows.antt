-- The tokens of each command: which they are made of, and how much room their words take.
use Rattle.plex_plain.proofs.Imports.{◌≡◌, ℕ, Bool, true, List, [], ◌∷◌, Option, refl, arith, Resource, ShellCmd, Connect, Vary, CacheCmd, AlterCmd, At, Cond, ListCmd, QueueCmd, LockCmd, Token, Literal, OnResource, number, end, state, shell_tokens, class_tokens, cache_tokens, alter_tokens, at_tokens, cond_tokens, list_tokens, queue_tokens, lock_tokens}
use Rattle.plex_plain.proofs.Said.{is_short_word}
use Rattle.plex_plain.proofs.Rooms.{IsRow, token-first, no_tokens, row-append, row-wider, row-option, row-flag}

-- the most bytes that the words of a command take
abbrev pub IsCommandRow : List Token → Type 0
IsCommandRow tokens = IsRow 6000 tokens

pub shell-row : (cmd : ShellCmd) → IsCommandRow (shell_tokens cmd)
shell-row (Connect keep) = grind arith
shell-row (Vary cf off) = grind arith
shell-row cmd = record { plain = refl; short = omega arith }

-- ---- caches

class-row : (class : Option ℕ) → IsRow 130 (class_tokens class)
class-row class = grind arith

pub cache-row : (given : Option ℕ) (cmd : CacheCmd) → IsCommandRow (cache_tokens given cmd)
cache-row given (CacheCmd.Read name index old stg) = grind (arith, row-wider, row-append, row-option, no_tokens)
cache-row given (CacheCmd.Write name index body class adj old stg when_reg) =
    grind (arith, row-wider, row-append, class-row, row-option, row-flag, no_tokens)
cache-row given cmd = record { plain = refl; short = omega arith }

pub alter-row : (given : Option ℕ) (cmd : AlterCmd CacheCmd) → IsCommandRow (alter_tokens given cmd)
alter-row given (AlterCmd.Inner cmd) = cache-row given cmd
alter-row given cmd = record { plain = refl; short = omega arith }

-- ---- lists

at-row : (ref : At) → IsRow 195 (at_tokens ref)
at-row ref = grind arith

cond-row : (cond : Option Cond) → IsRow 130 (cond_tokens cond)
cond-row cond = grind arith

place-row : (header : ℕ) (head : Bool) → IsRow 130 (number header ∷ end head ∷ [])
place-row header head = grind arith

pub list-row : (cmd : ListCmd) → IsCommandRow (list_tokens cmd)
list-row (ListCmd.Write header head name key body adj cond) =
    grind (arith, row-wider, row-append, token-first, place-row, row-option, cond-row, no_tokens)
list-row (ListCmd.Update ref body adj version cond) =
    grind (arith, row-wider, row-append, at-row, row-option, cond-row, no_tokens)
list-row (ListCmd.Read ref cond) = grind (arith, row-wider, row-append, at-row, cond-row, no_tokens)
list-row (ListCmd.Move ref header head key version cond) =
    grind (arith, row-wider, row-append, at-row, place-row, row-option, cond-row, no_tokens)
list-row (ListCmd.Delete ref version cond) =
    grind (arith, row-wider, row-append, at-row, row-option, cond-row, no_tokens)
list-row cmd = record { plain = refl; short = omega arith }

pub queue-row : (cmd : QueueCmd) → IsCommandRow (queue_tokens cmd)
queue-row (QueueCmd.List cmd) = list-row cmd
queue-row cmd = record { plain = refl; short = omega arith }

-- ---- locks

request-row : (word : List ℕ) (r : Resource) (excl : Bool) → is_short_word word ≡ true
    → IsRow 195 (Literal word ∷ OnResource r ∷ state excl ∷ [])
request-row word r excl fine = grind (arith, token-first)

pub lock-row : (cmd : LockCmd) → IsCommandRow (lock_tokens cmd)
lock-row (LockCmd.Obtain r excl rec) = grind (arith, row-wider, row-append, request-row, row-option, no_tokens)
lock-row (LockCmd.Alter r excl rec) = grind (arith, row-wider, row-append, request-row, row-option, no_tokens)
lock-row (LockCmd.Decide r conn how) = grind arith
lock-row cmd = record { plain = refl; short = omega arith }
