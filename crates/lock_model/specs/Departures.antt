-- What a departure leaves, and what a connection that is taken up again finds.
use Rattle.std.specs.Prelude.{Bool, true, false, not, ◌&&◌, ◌||◌, if◌then◌else◌, List, [], ◌++◌, is_some, filter, fold, map}
use Rattle.std.specs.List.{list_any}
use Rattle.cf_types.specs.declared.numbers.ConnId.{ConnId}
use Rattle.cf_types.specs.declared.resources.Resource.{Resource}
use Rattle.cf_types.specs.Resources.{same_resource, resource_before}
use Rattle.cf_lists.specs.Insertions.{insertion}
use Rattle.lock_table.specs.Holdings.{in_retention_of}
use Rattle.lock_queue.specs.Waiters as queue
use Rattle.lock_queue.specs.Waiters.{waiters_without_conn}
use Rattle.lock_model.specs.Interests.{Interest, is_by}
use Rattle.lock_model.specs.Contents.{Content}
use Rattle.lock_model.specs.Grants.{Settlement, grant_each}

-- interests of others stay; with `keep` the connector's own stay that have record data
abbrev pub stays : ConnId → Bool → Interest → Bool
stays conn keep interest = not (is_by conn interest) || keep && is_some interest.rec

-- a connector's interest becomes retained, or its own again
abbrev pub with_retained : ConnId → Bool → Interest → Interest
with_retained conn retained interest =
    record interest { held = in_retention_of conn retained interest.held }

abbrev pub interests_left : ConnId → Bool → List Interest → List Interest
interests_left conn keep interests =
    map (with_retained conn true) (filter (stays conn keep) interests)

-- the resources that a connector owns or waits for, each once, in their order
abbrev pub resources_with : List Resource → Resource → List Resource
resources_with rs r =
    if list_any (same_resource r) rs then rs else insertion (λ other. resource_before other r) r rs

abbrev pub resources_of : ConnId → Content → List Resource
resources_of conn content =
    fold resources_with []
    (map (λ interest. interest.held.r) (filter (is_by conn) content.interests)
    ++ map (λ w. w.r) (filter (queue.is_by conn) content.waiters))

-- the connector's part goes, or is retained; then the grant rule runs for each resource of it
abbrev pub departure_of : ConnId → Bool → Content → Settlement
departure_of conn keep content =
    grant_each (resources_of conn content) (record {
      interests = interests_left conn keep content.interests;
      waiters = waiters_without_conn conn content.waiters;
    })

abbrev pub with_returned : ConnId → Content → Content
with_returned conn content =
    record content { interests = map (with_retained conn false) content.interests }
