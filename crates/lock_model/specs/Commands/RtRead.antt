-- IXLRT READ: a connector's record data, by resource.
use Rattle.std.specs.Prelude.{ℕ, Bool, ◌&&◌, List, [], ◌∷◌, Option, is_some, filter, option_map}
use Rattle.std.specs.List.{filter_map}
use Rattle.cf_types.specs.declared.numbers.ConnId.{ConnId}
use Rattle.cf_types.specs.declared.refusals.Refusal.{Refusal}
use Rattle.cf_types.specs.declared.resources.Resource.{Resource}
use Rattle.cf_types.specs.declared.lock_commands.LockReply.{LockReply}
use Rattle.cf_types.specs.declared.lock_commands.LockReply.TheVariants as replies
use Rattle.lock_model.specs.Interests.{Interest, is_by}
use Rattle.lock_model.specs.Refusals.{record_refusal}

abbrev pub is_recorded : ConnId → Interest → Bool
is_recorded conn interest = is_by conn interest && is_some interest.rec

abbrev pub causes : ConnId → List Interest → List (Option Refusal)
causes conn interests = record_refusal (filter (is_recorded conn) interests) ∷ []

-- the resource, the state and the record data
abbrev pub record_in : Interest → Option (Resource × Bool × List ℕ)
record_in interest = option_map (λ rec. (interest.held.r, interest.held.excl, rec)) interest.rec

abbrev pub reply : ConnId → List Interest → LockReply
reply conn interests = replies.Records (filter_map record_in (filter (is_by conn) interests))
