-- Which texts are taken for lock words, and what their status tells.
use Rattle.plex_run.proofs.Imports.{◌≡◌, ℕ, ◌≤◌, ◌⊎◌, inl, inr, List, length, refl, arith, codes, Why, Script, SaysOne, IsExclusive, Locked, IsLocked, locks_text, Untaken, Output, HasFailed, Writes, WritesFront, Gains, why_word, memory_line, script_limit, IsTaken, IsUntakenAt, TellsUntaken, EndsLocks, locks_word}
use Rattle.plex_run.proofs.{TextLaws.IsFair, TextLaws.task_told, TextLaws.done_ends, OutcomeLaws.fits}

-- ---- texts that aren't taken

-- what is told of a fault
pub fault_told : (text : List ℕ) {line : ℕ} {why : Why} {told : List ℕ} {because : Untaken}
    → because ≡ Untaken.Fault line why → TellsUntaken text because → told ≡ why_word why → IsUntakenAt text line told
fault_told text {why = why} e tells spelled = inl (why, rw e at tells, spelled)

-- and of a line that lock words can't do
pub not_words_told : (text : List ℕ) {line : ℕ} {because : Untaken} → because ≡ Untaken.NotWords line
    → TellsUntaken text because → IsUntakenAt text line (codes "NOTWORDS")
not_words_told text e tells = inr (let other = rw e at tells in (other.0, other.1, other.2, refl))

taken_untaken : (text : List ℕ) (script : Script) (line : ℕ) (told : List ℕ) → SaysOne → IsExclusive
    → IsTaken text script → IsUntakenAt text line told → ⊥
taken_untaken text script line told one never taken (inl fault) = never text script line fault.0 taken.says fault.1
taken_untaken text script line told one never taken (inr other) = grind arith

-- no text is taken and refused
pub locks_fair : SaysOne → IsExclusive → IsFair locks_word
locks_fair one never text line told taken un = taken_untaken text taken.0 line told one never taken.1 un

-- ---- ends

-- the locks of a script that the text says were done
pub locks_end : {text : List ℕ} {script : Script} (told : Locked) {out : Output} {status : ℕ}
    → SaysOne → IsExclusive → length text ≤ script_limit → IsTaken text script → IsLocked script told → (status ≡ 0
    → Writes out (locks_text script told)) → (status ≡ 5 → HasFailed out × WritesFront out (locks_text script told))
    → (status ≡ 6 → Gains out memory_line) → (status ≡ 0) ⊎ ((status ≡ 5) ⊎ (status ≡ 6)) → EndsLocks text out status
locks_end {text} {script} told one never short taken true wrote front memory statuses =
    done_ends (locks_fair one never) (fits text short) (script, taken) (task_told (script, told)
    (taken, true) refl tt wrote front memory statuses) (λ is. grind arith) (λ is. grind arith) (λ found. grind arith)
