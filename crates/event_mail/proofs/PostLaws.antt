-- The mailboxes of a structure, one of which changes or is added.
use Rattle.event_mail.proofs.Imports.{◌≡◌, ℕ, ◌<◌, ◌≤◌, List, length, get_or, set, map, slice_set, sym, ap, ◌∙◌, ⊎_elim, ◌≢◌, arith, map-set, set-get_or, get_or-set_other, get_or-map, cases_eq, get_or-set_at, unwrap_or-slice_get, ConnId, Mailbox, Mailboxes, no_events, mailbox_of, Box, mailboxes_of}

-- one mailbox changes
pub mailboxes_of-set : (boxes : List Box) (mail : Mailboxes)
    (conn : ConnId) (at : ℕ) (old new : Box) (change : Mailbox → Mailbox) → mailboxes_of boxes ≡ mail
    → at ≡ conn.0 → at < length boxes → old ≡ get_or boxes at old → new.mailbox ≡ change old.mailbox
    → mailboxes_of (slice_set boxes at new) ≡ slice_set mail conn.0 (change (mailbox_of mail conn))
mailboxes_of-set boxes mail conn at old new change is here within was now =
    grind (arith, unwrap_or-slice_get, get_or-map, map-set)

-- the room of one mailbox changes, and not what is in it
pub mailboxes_of-same : (boxes : List Box) (at : ℕ) (new d : Box) → at < length boxes
    → new.mailbox ≡ (get_or boxes at d).mailbox → mailboxes_of (slice_set boxes at new) ≡ mailboxes_of boxes
mailboxes_of-same boxes at new d within same =
    let of : Box → Mailbox = λ box. box.mailbox in
    let here : new.mailbox ≡ get_or (map of boxes) at no_events = same
    ∙ sym (get_or-map of boxes at d no_events within) in
    map-set of boxes at new ∙ ap (λ (m : Mailbox). set (map of boxes) at m) here
    ∙ set-get_or (map of boxes) at no_events

-- a room that each mailbox has, where one is replaced
pub room_at-set : (boxes : List Box) (at k room : ℕ) (new d : Box) → k < length boxes → (k ≡ at → room ≤ new.room)
    → (k ≢ at → room ≤ (get_or boxes k d).room) → room ≤ (get_or (slice_set boxes at new) k d).room
room_at-set boxes at k room new d within here elsewhere =
    grind (arith, ⊎_elim, get_or-set_at, get_or-set_other, cases_eq)
