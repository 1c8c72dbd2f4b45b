-- OBTAIN: the caller asks to own a resource.
use Rattle.std.specs.Prelude.{if◌then◌else◌, ℕ, Bool, true, false, not, ◌&&◌, List, [], ◌∷◌, Option}
use Rattle.std.specs.List.{list_any}
use Rattle.cf_types.specs.declared.forms.Caps.{Caps}
use Rattle.cf_types.specs.declared.numbers.ConnId.{ConnId}
use Rattle.cf_types.specs.declared.refusals.Refusal.{Refusal}
use Rattle.cf_types.specs.declared.resources.Resource.{Resource}
use Rattle.cf_types.specs.declared.lock_commands.LockReply.{LockReply}
use Rattle.lock_queue.specs.declared.waiters.Waiter.{Waiter}
use Rattle.lock_model.specs.Interests.{interest_of, may_own}
use Rattle.lock_queue.specs.Waiters.{is_on}
use Rattle.lock_model.specs.Contents.{Content}
use Rattle.lock_model.specs.Grants.{Settlement, settlement_of, held_by}
use Rattle.lock_model.specs.Refusals.{pending_refusal, interested_refusal, records_refusal}
use Rattle.lock_model.specs.Requests as requests

abbrev pub request : ConnId → Resource → Bool → Option (List ℕ) → Waiter
request by r excl rec = record { r = r; conn = by; excl = excl; alter = false; rec = rec }

abbrev pub is_awaited : Resource → List Waiter → Bool
is_awaited r waiters = list_any (is_on r) waiters

-- it is granted at once where nobody waits and it is compatible with all other owners
abbrev pub at_once : Waiter → Content → Bool
at_once w content = not (is_awaited w.r content.waiters) && may_own (held_by w) content.interests

abbrev pub causes : Caps → Waiter → Content → List (Option Refusal)
causes caps w content =
    pending_refusal w.r w.conn content.waiters
    ∷ interested_refusal (interest_of w.r w.conn content.interests)
    ∷ records_refusal caps (requests.content_asked (at_once w content) w content) ∷ []

abbrev pub reply : Waiter → Content → LockReply
reply w content = requests.reply (at_once w content) w content

abbrev pub after : Waiter → Content → Settlement
after w content =
    if at_once w content
    then settlement_of (requests.content_asked true w content)
    else requests.wait_settlement w content
