-- RELEASE: the caller's interest and its record data go, and others may be granted then.
use Rattle.std.specs.Prelude.{List, [], ◌∷◌, Option}
use Rattle.cf_types.specs.declared.refusals.Refusal.{Refusal}
use Rattle.cf_types.specs.declared.numbers.ConnId.{ConnId}
use Rattle.cf_types.specs.declared.resources.Resource.{Resource}
use Rattle.lock_model.specs.Interests.{interest_of, interests_without}
use Rattle.lock_model.specs.Contents.{Content}
use Rattle.lock_model.specs.Grants.{Settlement, grant}
use Rattle.lock_model.specs.Refusals.{pending_refusal, interest_refusal}

abbrev pub causes : ConnId → Resource → Content → List (Option Refusal)
causes by r content =
    pending_refusal r by content.waiters
    ∷ interest_refusal (interest_of r by content.interests) ∷ []

abbrev pub after : ConnId → Resource → Content → Settlement
after by r content =
    grant r (record content { interests = interests_without r by content.interests })
