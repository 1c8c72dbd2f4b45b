-- Which commands their first words tell apart.
use Rattle.plex_script.proofs.Imports.{arith, ◌≡◌, ℕ, ◌||◌, Bool, true, false, not, cond, List, [], ◌∷◌, Option, None, codes, ConnId, ShellCmd, AlterCmd, CacheCmd, QueueCmd, ListCmd, LockCmd, Rigour, begins_with, words_behind, Declared, Token, Spells, Literal, shell_tokens, may_give, is_operator, alter_tokens, queue_tokens, lock_tokens, shell_at, Words, is_own}

-- ---- first words

module _ (rigour : Rigour) (declared : Declared) where
  pub at_one : (word : List ℕ) (tokens : List Token) (ws rest : Words) (G : Words → Type 0)
      → ((us : Words) → G (word ∷ us)) → Spells rigour declared (Literal word ∷ tokens) ws rest → G ws
  at_one word tokens [] rest G f h = absurd h
  at_one word tokens (w ∷ ws) rest G f h = let same : w ≡ word = h.0 in rw same (f ws)

  pub at_two : (word second : List ℕ) (tokens : List Token) (ws rest : Words) (G : Words → Type 0) → ((us : Words)
      → G (word ∷ second ∷ us)) → Spells rigour declared (Literal word ∷ Literal second ∷ tokens) ws rest → G ws
  at_two word second tokens [] rest G f h = absurd h
  at_two word second tokens (w ∷ []) rest G f h = absurd h.1
  at_two word second tokens (w ∷ v ∷ ws) rest G f h = grind arith

-- whether the caller may give a common command, by its first words
abbrev pub gives_by : ConnId → Words → Bool
gives_by by ws = cond (begins_with (codes "REBUILD") ws)
    (cond (begins_with (codes "START") (words_behind ws) || begins_with (codes "STOP") (words_behind ws))
    true (not (is_operator by))) (cond (begins_with (codes "FORCECONN") ws || begins_with
    (codes "FORCESTR") ws || begins_with (codes "LOSECONN") ws || begins_with (codes "RESTORECONN") ws
    || begins_with (codes "VARY") ws || begins_with (codes "DUPLEX") ws) (is_operator by) (not (is_operator by)))

module _ (rigour : Rigour) (declared : Declared) where
  pub gives : (by : ConnId) (ws rest : Words) (cmd : ShellCmd)
      → Spells rigour declared (shell_tokens cmd) ws rest → may_give by cmd ≡ gives_by by ws
  gives by ws rest (ShellCmd.RebuildStart caps) h = grind (arith, at_two)
  gives by ws rest ShellCmd.RebuildStop h = grind (arith, at_two)
  gives by ws rest ShellCmd.RebuildConnect h = grind (arith, at_two)
  gives by ws rest ShellCmd.RebuildComplete h = grind (arith, at_two)
  gives by ws rest cmd h = grind (arith, at_one)

  pub shell-not_own : (ws rest : Words) (cmd : ShellCmd)
      → Spells rigour declared (shell_tokens cmd) ws rest → is_own ws ≡ false
  shell-not_own ws rest (ShellCmd.Connect keep) h = grind (arith, at_one)
  shell-not_own ws rest cmd h = grind (arith, at_one)

-- the words are no common command, and ask the structure something
abbrev pub IsContent : Rigour → Declared → Words → Type 0
IsContent rigour declared ws = (shell_at rigour declared ws ≡ None) × (is_own ws ≡ false)

module _ (rigour : Rigour) (declared : Declared) where
  pub alter-content : (ws rest : Words) (given : Option ℕ) (cmd : AlterCmd CacheCmd)
      → Spells rigour declared (alter_tokens given cmd) ws rest → IsContent rigour declared ws
  alter-content ws rest given (AlterCmd.Inner (CacheCmd.Read name index old stg)) h = grind (arith, at_one)
  alter-content ws rest given (AlterCmd.Inner cmd) h = grind (arith, at_one)
  alter-content ws rest given cmd h = grind (arith, at_one)

  pub queue-content : (ws rest : Words) (cmd : QueueCmd) → Spells rigour declared
      (queue_tokens cmd) ws rest → IsContent rigour declared ws
  queue-content ws rest (QueueCmd.List (ListCmd.Write header head name key body adj cond)) h = grind (arith, at_one)
  queue-content ws rest (QueueCmd.List cmd) h = grind (arith, at_one)
  queue-content ws rest cmd h = grind (arith, at_one)

  pub lock-content : (ws rest : Words) (cmd : LockCmd) → Spells rigour declared
      (lock_tokens cmd) ws rest → IsContent rigour declared ws
  lock-content ws rest (LockCmd.Obtain r excl rec) h = grind (arith, at_one)
  lock-content ws rest cmd h = grind (arith, at_one)
