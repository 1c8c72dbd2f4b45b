-- Mailboxes with the room that is taken for more letters.
use Rattle.std.specs.Prelude.{◌≡◌, ℕ, ◌+◌, ◌≤◌, List, length, map, All}
use Rattle.cf_types.specs.declared.limits.TheConstants.{CALLERS}
use Rattle.cf_types.specs.Mailboxes.{Mailbox, Mailboxes}

-- one connector's
pub record Box : Type 0 where
  pub mailbox : Mailbox
  pub room : ℕ

-- all connectors'; the room is for so many letters to each of them
pub record Post : Type 0 where
  pub boxes : Mailboxes
  pub room : ℕ

abbrev pub mailboxes_of : List Box → Mailboxes
mailboxes_of boxes = map (λ box. box.mailbox) boxes

-- there is a mailbox for each connector's number, and each has this room
pub record HaveRoom (boxes : List Box) (room : ℕ) : Type 0 where
  pub places : length boxes ≡ CALLERS
  pub each : All (λ box. room ≤ box.room) boxes
