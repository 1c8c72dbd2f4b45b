-- How tasks, and words that read a text, end: each way once, whatever the task and the word.
use Rattle.plex_run.proofs.Imports.{◌≡◌, ◌≢◌, ℕ, ◌<◌, ◌⊎◌, inl, inr, List, length, Option, None, Some, refl, arith, IfSome, Output, HasFailed, Writes, WritesFront, Gains, script_line, memory_line, too_long_line, Task, EndsTask, Word, IsLong, EndsText, OfText}
use Rattle.plex_run.proofs.UnreadLaws.{longer}

-- ---- tasks

-- nothing came of it that was told
task_untold : {task : Task} {out : Output} {status : ℕ} → (status ≡ 3) ⊎ ((status ≡ 4) ⊎ (status ≡ 7))
    → EndsTask task out status
task_untold statuses = grind arith

-- there was no memory for it
pub task_without_memory : {task : Task} {out : Output} {status : ℕ} → status ≡ 6 → Gains out memory_line
    → EndsTask task out status
task_without_memory six tells = grind arith

-- this came, has the status 0, and was told in one piece
pub task_told : {task : Task} {out : Output} {status : ℕ} (it : task.Outcome) → task.Comes it → task.status it ≡ 0
    → task.Seals it → (status ≡ 0 → Writes out (task.told it))
    → (status ≡ 5 → HasFailed out × WritesFront out (task.told it)) → (status ≡ 6 → Gains out memory_line)
    → (status ≡ 0) ⊎ ((status ≡ 5) ⊎ (status ≡ 6)) → EndsTask task out status
task_told it comes zero seals whole front memory statuses = grind arith

-- ---- words that read a text

-- no text is taken and refused
abbrev pub IsFair : Word → Type 0
IsFair word = (text : List ℕ) (line : ℕ) (told : List ℕ) → word.Takes text → word.Refuses text line told → ⊥

-- there was no memory for the text, or for the task
pub memory_ends : {word : Word} {text : List ℕ} {out : Output} {status : ℕ} → status ≡ 6 → Gains out memory_line
    → EndsText word text out status
memory_ends six tells = record {
  task = task_without_memory six tells;
  refused = λ three. absurd (omega (arith, six, three));
  long = λ seven. absurd (omega (arith, six, seven));
  exact = λ read lack. absurd (lack six);
  settled = λ read lack. absurd (lack six);
}

-- the text is too long, and the limit was told
pub long_ends : {word : Word} {text : List ℕ} (limit : ℕ) {out : Output} {status : ℕ} → status ≡ 7
    → word.IsTooLong text limit → Gains out (too_long_line limit) → EndsText word text out status
long_ends limit seven long told = record {
  task = task_untold (inr (inr seven));
  refused = λ three. absurd (omega (arith, seven, three));
  long = λ is. (limit, long, told);
  exact = λ read memory. (
    (λ is. (limit, long), λ is. seven),
    (λ three. absurd (omega (arith, seven, three)), λ it. absurd (it.0 (limit, long))),
  );
  settled = λ read memory takes short. absurd (short (limit, long));
}

-- a read failed
fault_ends : {word : Word} {text : List ℕ} {out : Output} {status : ℕ} → status ≡ 4 → EndsText word text out status
fault_ends four = record {
  task = task_untold (inr (inl four));
  refused = λ three. absurd (omega (arith, four, three));
  long = λ seven. absurd (omega (arith, four, seven));
  exact = λ read memory. absurd (read four);
  settled = λ read memory. absurd (read four);
}

-- no text came, and with 7 this one is too long
unread : {word : Word} {text : List ℕ} (limit : ℕ) {out : Output} {status : ℕ} → (status ≡ 4) ⊎ ((status ≡ 6)
    ⊎ (status ≡ 7)) → (status ≡ 7 → word.IsTooLong text limit) → (status ≡ 7 → Gains out (too_long_line limit))
    → (status ≡ 6 → Gains out memory_line) → EndsText word text out status
unread limit (inl four) long told memory = fault_ends four
unread limit (inr (inl six)) long told memory = memory_ends six (memory six)
unread limit (inr (inr seven)) long told memory = long_ends limit seven (long seven) (told seven)

-- no text came: it ends so over what is left, and where that isn't told, over some text that is too long
pub unread_ends : {word : Word} (limit : ℕ) (left : Option (List ℕ)) {out : Output} {status : ℕ} → ((text : List ℕ)
    → limit < length text → word.IsTooLong text limit) → (status ≡ 4) ⊎ ((status ≡ 6) ⊎ (status ≡ 7)) → (status ≡ 7
    → IfSome left (λ bytes. limit < length bytes)) → (status ≡ 7 → Gains out (too_long_line limit))
    → (status ≡ 6 → Gains out memory_line) → OfText left (λ text. EndsText word text out status)
unread_ends limit None too_long statuses long told memory =
    let some = longer limit in
    (some.0, tt, unread limit statuses (λ is. too_long some.0 some.1) told memory)
unread_ends limit (Some text) too_long statuses long told memory =
    (text, refl, unread limit statuses (λ seven. too_long text (long seven)) told memory)

-- the text is refused
pub refused_ends : {word : Word} {text : List ℕ} (line : ℕ) (told : List ℕ) {out : Output} {status : ℕ} → IsFair word
    → (IsLong word text → ⊥) → word.Refuses text line told → (status ≡ 3 → Gains out (script_line line told))
    → (status ≡ 6 → Gains out memory_line) → (status ≡ 3) ⊎ (status ≡ 6) → EndsText word text out status
refused_ends {text = text} line told fair short refuses wrote memory (inl three) = record {
  task = task_untold (inl three);
  refused = λ is. (line, told, refuses, wrote three);
  long = λ seven. absurd (omega (arith, three, seven));
  exact = λ read lack. (
    (λ seven. absurd (omega (arith, three, seven)), λ long. absurd (short long)),
    (λ is. (short, (line, told, refuses)), λ is. three),
  );
  settled = λ read lack takes not_long. absurd (fair text line told takes refuses);
}
refused_ends line told fair short refuses wrote memory (inr six) = memory_ends six (memory six)

-- the task was done that the text asks for
pub done_ends : {word : Word} {text : List ℕ} {out : Output} {status : ℕ} → IsFair word → (IsLong word text → ⊥)
    → word.Takes text → EndsTask (word.task text) out status → status ≢ 3 → status ≢ 7
    → (status ≢ 6 → word.Settles text status) → EndsText word text out status
done_ends {text = text} fair short takes ends not_three not_seven settles = record {
  task = ends;
  refused = λ three. absurd (not_three three);
  long = λ seven. absurd (not_seven seven);
  exact = λ read lack. (
    (λ seven. absurd (not_seven seven), λ long. absurd (short long)),
    (λ three. absurd (not_three three), λ it. absurd (fair text it.1.0 it.1.1 takes it.1.2)),
  );
  settled = λ read lack again not_long. settles lack;
}
