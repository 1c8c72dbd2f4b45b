-- The grant rule: which waiters of a resource become its owners.
use Rattle.std.specs.Prelude.{false, if◌then◌else◌, List, [], ◌∷◌, ◌++◌}
use Rattle.std.specs.Option.{option_or}
use Rattle.cf_types.specs.declared.events.Event.TheVariants as events
use Rattle.cf_types.specs.declared.events.Letter.{Letter}
use Rattle.cf_types.specs.declared.resources.Resource.{Resource}
use Rattle.lock_table.specs.declared.holdings.Held.{Held}
use Rattle.lock_queue.specs.declared.waiters.Waiter.{Waiter}
use Rattle.lock_model.specs.Interests.{Interest, interests_with, interests_changed, may_own}
use Rattle.lock_queue.specs.Waiters.{waiters_of, waiters_without}
use Rattle.lock_model.specs.Contents.{Content}

-- the state for which one waits
abbrev pub held_by : Waiter → Held
held_by w = record { r = w.r; conn = w.conn; excl = w.excl; retained = false }

-- an interest that is altered takes the state, and the record data where they are given
abbrev pub with_alteration : Waiter → Interest → Interest
with_alteration w interest =
    record { held = record interest.held { excl = w.excl }; rec = option_or w.rec interest.rec }

-- one that alters has its interest altered, another one becomes the last owner
abbrev pub interests_granted : Waiter → List Interest → List Interest
interests_granted w interests =
    if w.alter then interests_changed w.r w.conn (with_alteration w) interests
    else interests_with (record { held = held_by w; rec = w.rec }) interests

-- a waiter is granted, and waits no more
abbrev pub content_granted : Waiter → Content → Content
content_granted w content =
    record {
      interests = interests_granted w content.interests;
      waiters = waiters_without w.r w.conn content.waiters;
    }

abbrev pub granted_letter : Waiter → Letter
granted_letter w = record { to = w.conn; event = events.Granted w.r w.excl }

-- what is left, and the letters that are sent
pub record Settlement : Type 0 where
  pub content : Content
  pub letters : List Letter

abbrev pub settlement_of : Content → Settlement
settlement_of content = record { content = content; letters = [] }

-- these letters are sent before
abbrev pub with_letters_before : List Letter → Settlement → Settlement
with_letters_before letters left = record left { letters = letters ++ left.letters }

-- of these waiters the first are granted, as long as they are compatible with all other owners
abbrev pub grants : List Waiter → Content → Settlement
grants [] content = settlement_of content
grants (w ∷ waiters) content =
    if may_own (held_by w) content.interests
    then with_letters_before (granted_letter w ∷ []) (grants waiters (content_granted w content))
    else settlement_of content

-- the grant rule for a resource; for several, one after another
abbrev pub grant : Resource → Content → Settlement
grant r content = grants (waiters_of r content.waiters) content

abbrev pub grant_each : List Resource → Content → Settlement
grant_each [] content = settlement_of content
grant_each (r ∷ rs) content =
    let first = grant r content in with_letters_before first.letters (grant_each rs first.content)
