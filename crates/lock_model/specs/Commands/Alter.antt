-- ALTER: an owner asks for another state.
use Rattle.std.specs.Prelude.{if◌then◌else◌, ℕ, Bool, true, List, [], ◌∷◌, Option}
use Rattle.cf_types.specs.declared.forms.Caps.{Caps}
use Rattle.cf_types.specs.declared.numbers.ConnId.{ConnId}
use Rattle.cf_types.specs.declared.refusals.Refusal.{Refusal}
use Rattle.cf_types.specs.declared.resources.Resource.{Resource}
use Rattle.cf_types.specs.declared.lock_commands.LockReply.{LockReply}
use Rattle.lock_queue.specs.declared.waiters.Waiter.{Waiter}
use Rattle.lock_model.specs.Interests.{interest_of, may_own}
use Rattle.lock_model.specs.Contents.{Content}
use Rattle.lock_model.specs.Grants.{Settlement, held_by, grant}
use Rattle.lock_model.specs.Refusals.{pending_refusal, interest_refusal, records_refusal}
use Rattle.lock_model.specs.Requests as requests

abbrev pub request : ConnId → Resource → Bool → Option (List ℕ) → Waiter
request by r excl rec = record { r = r; conn = by; excl = excl; alter = true; rec = rec }

-- it is granted at once where it is compatible with all other owners, whoever waits
abbrev pub at_once : Waiter → Content → Bool
at_once w content = may_own (held_by w) content.interests

abbrev pub causes : Caps → Waiter → Content → List (Option Refusal)
causes caps w content =
    pending_refusal w.r w.conn content.waiters
    ∷ interest_refusal (interest_of w.r w.conn content.interests)
    ∷ records_refusal caps (requests.content_asked (at_once w content) w content) ∷ []

abbrev pub reply : Waiter → Content → LockReply
reply w content = requests.reply (at_once w content) w content

-- its interest is altered, and others may be granted then; or it waits, and its old interest stays
abbrev pub after : Waiter → Content → Settlement
after w content =
    if at_once w content
    then grant w.r (requests.content_asked true w content)
    else requests.wait_settlement w content
