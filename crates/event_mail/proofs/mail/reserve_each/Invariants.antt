use Rattle.event_mail.proofs.Imports.{◌≡◌, ℕ, ◌<◌, ◌≤◌, length, slice_index_or, Box, mailboxes_of}
use Rattle.event_mail.proofs.mail.reserve_each.Given as goal

-- what is in the mailboxes stays, no room is lost, and those before this place have the room
abbrev pub invariant-loop-mailbox : goal.invariant-loop-mailbox
invariant-loop-mailbox l = (mailboxes_of l.boxes ≡ mailboxes_of l.fn.boxes) × ((k : ℕ) (d : Box)
    → k < length l.fn.boxes → (slice_index_or l.fn.boxes k d).room ≤ (slice_index_or l.boxes k d).room)
    × ((k : ℕ) (d : Box) → k < l.mailbox-index → l.letters ≤ (slice_index_or l.boxes k d).room)
