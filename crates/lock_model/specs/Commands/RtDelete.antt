-- IXLRT DELETE: record data go, and a retained interest with them.
use Rattle.std.specs.Prelude.{if◌then◌else◌, Bool, ◌&&◌, List, [], ◌∷◌, Option, None, is_some, filter}
use Rattle.std.specs.List.{list_any}
use Rattle.cf_types.specs.declared.numbers.ConnId.{ConnId}
use Rattle.cf_types.specs.declared.refusals.Refusal.{Refusal}
use Rattle.cf_types.specs.declared.resources.Resource.{Resource}
use Rattle.lock_queue.specs.Waiters.{waiters_without}
use Rattle.lock_model.specs.Interests.{Interest, is_of, interests_without, interests_changed}
use Rattle.lock_model.specs.Contents.{Content}
use Rattle.lock_model.specs.Grants.{Settlement, settlement_of, grant}
use Rattle.lock_model.specs.Refusals.{record_refusal}

abbrev pub is_recorded : Resource → ConnId → Interest → Bool
is_recorded r conn interest = is_of r conn interest && is_some interest.rec

abbrev pub causes : Resource → ConnId → List Interest → List (Option Refusal)
causes r conn interests = record_refusal (filter (is_recorded r conn) interests) ∷ []

abbrev pub is_retained : Resource → ConnId → List Interest → Bool
is_retained r conn interests =
    list_any (λ interest. is_of r conn interest && interest.held.retained) interests

abbrev pub without_record : Interest → Interest
without_record interest = record interest { rec = None }

abbrev pub content_unrecorded : Resource → ConnId → Content → Content
content_unrecorded r conn content =
    record content { interests = interests_changed r conn without_record content.interests }

-- the connector neither owns the resource nor waits for it any more
abbrev pub content_unowned : Resource → ConnId → Content → Content
content_unowned r conn content =
    record {
      interests = interests_without r conn content.interests;
      waiters = waiters_without r conn content.waiters;
    }

abbrev pub after : Resource → ConnId → Content → Settlement
after r conn content =
    if is_retained r conn content.interests
    then grant r (content_unowned r conn content)
    else settlement_of (content_unrecorded r conn content)
