-- The letters so far, and those to the members that are left, are all. Each mailbox so far has room for one letter
-- less at most, and those that are left are as before.
use Rattle.event_mail.proofs.Imports.{◌≡◌, ℕ, ◌+◌, ◌<◌, ◌≤◌, length, slice_index_or, Box, mailboxes_of, letters_to, with_letters}
use Rattle.event_mail.proofs.CallerSets.{members_from}
use Rattle.event_mail.proofs.mail.put_each.Given as goal

abbrev pub invariant-loop-number : goal.invariant-loop-number
invariant-loop-number l = record {
  letters : with_letters (mailboxes_of l.boxes) (letters_to (members_from l.to l.number) l.event)
      ≡ with_letters (mailboxes_of l.fn.boxes) (letters_to l.to l.event);
  places : length l.boxes ≡ length l.fn.boxes;
  before : (k : ℕ) (d : Box) → k < length l.fn.boxes
      → (slice_index_or l.fn.boxes k d).room ≤ (slice_index_or l.boxes k d).room + 1;
  behind : (k : ℕ) (d : Box) → l.number ≤ k → slice_index_or l.boxes k d ≡ slice_index_or l.fn.boxes k d;
}
