-- DECIDE: the manager of a resource decides about a waiter.
use Rattle.std.specs.Prelude.{Bool, not, ◌&&◌, List, [], ◌∷◌, Option, filter, map}
use Rattle.cf_types.specs.declared.events.Event.TheVariants as events
use Rattle.cf_types.specs.declared.events.Letter.{Letter}
use Rattle.cf_types.specs.declared.numbers.ConnId.{ConnId}
use Rattle.cf_types.specs.declared.refusals.Refusal.{Refusal}
use Rattle.cf_types.specs.declared.resources.Resource.{Resource}
use Rattle.cf_types.specs.declared.lock_commands.Decision.{Decision}
use Rattle.cf_types.specs.declared.lock_commands.Decision.TheVariants.{Keep, Deny, Notify}
use Rattle.lock_queue.specs.Waiters.{waiters_without}
use Rattle.lock_model.specs.Interests.{Interest, is_managing, is_by, manager_of}
use Rattle.lock_model.specs.Contents.{Content}
use Rattle.lock_model.specs.Grants.{Settlement, settlement_of, with_letters_before, grant}
use Rattle.lock_model.specs.Refusals.{manager_refusal, waiter_refusal}

abbrev pub causes : ConnId → Resource → ConnId → Content → List (Option Refusal)
causes by r conn content =
    manager_refusal by (manager_of r content.interests) ∷ waiter_refusal r conn content.waiters ∷ []

-- a waiter is denied, and waits no more
abbrev pub denied_letter : Resource → ConnId → Letter
denied_letter r conn = record { to = conn; event = events.Denied r }

abbrev pub content_denied : Resource → ConnId → Content → Content
content_denied r conn content = record content { waiters = waiters_without r conn content.waiters }

-- the owners that aren't retained are told of the waiter, but for itself
abbrev pub is_told : Resource → ConnId → Interest → Bool
is_told r conn interest = is_managing r interest && not (is_by conn interest)

abbrev pub notify_letter : Resource → ConnId → Interest → Letter
notify_letter r conn interest = record { to = interest.held.conn; event = events.Notify r conn }

abbrev pub notify_letters : Resource → ConnId → List Interest → List Letter
notify_letters r conn interests = map (notify_letter r conn) (filter (is_told r conn) interests)

abbrev pub after : Decision → Resource → ConnId → Content → Settlement
after Keep r conn content = settlement_of content
after Deny r conn content =
    with_letters_before (denied_letter r conn ∷ []) (grant r (content_denied r conn content))
after Notify r conn content =
    record { content = content; letters = notify_letters r conn content.interests }
