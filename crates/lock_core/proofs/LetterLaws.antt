-- How many letters a command sends at most.
use Rattle.lock_core.proofs.Imports.{◌+◌, ◌≤◌, Bool, true, false, if◌then◌else◌, ◌∷◌, [], List, length, arith, ConnId, Resource, Deny, filter_swap, length-filter-le, Waiter, waiters_of, waiters_without, interests_without, Content, settlement_of, grants, grant, content_granted}
use Rattle.lock_model.specs.Requests as requests
use Rattle.lock_model.specs.Commands.Alter as alter
use Rattle.lock_model.specs.Commands.Release as release
use Rattle.lock_model.specs.Commands.Decide as decide
use Rattle.lock_model.specs.Commands.RtDelete as rt_delete

-- ---- those that are granted

grants_few : (ws : List Waiter) (content : Content) → length (grants ws content).letters ≤ length ws
grants_few [] content = omega arith
grants_few (w ∷ ws) content = grind (arith, grants_few ws (content_granted w content))

pub grant_few : (r : Resource) (content : Content)
    → length (grant r content).letters ≤ length (waiters_of r content.waiters)
grant_few r content = grants_few (waiters_of r content.waiters) content

fewer_without : (r : Resource) (conn : ConnId) (waiters : List Waiter)
    → length (waiters_of r (waiters_without r conn waiters)) ≤ length (waiters_of r waiters)
fewer_without r conn waiters = grind (arith, filter_swap, length-filter-le)

-- ---- those of a command

alter_step : (b : Bool) (w : Waiter) (content : Content) → length (if b then grant w.r (requests.content_asked
    true w content) else requests.wait_settlement w content).letters ≤ length (waiters_of w.r content.waiters) + 1
alter_step true w content = omega (arith, grant_few w.r (requests.content_asked true w content))
alter_step false w content = grind arith

pub alter_few : (w : Waiter) (content : Content)
    → length (alter.after w content).letters ≤ length (waiters_of w.r content.waiters) + 1
alter_few w content = alter_step (alter.at_once w content) w content

pub release_few : (by : ConnId) (r : Resource) (content : Content)
    → length (release.after by r content).letters ≤ length (waiters_of r content.waiters)
release_few by r content = grant_few r (record content { interests = interests_without r by content.interests })

pub denied_few : (r : Resource) (conn : ConnId) (content : Content)
    → length (decide.after Deny r conn content).letters ≤ length (waiters_of r content.waiters) + 1
denied_few r conn content = omega (
  arith,
  grant_few r (decide.content_denied r conn content),
  fewer_without r conn content.waiters,
)

delete_step : (b : Bool) (r : Resource) (conn : ConnId) (content : Content)
    → length (if b then grant r (rt_delete.content_unowned r conn content) else settlement_of
    (rt_delete.content_unrecorded r conn content)).letters ≤ length (waiters_of r content.waiters)
delete_step true r conn content = omega (
  arith,
  grant_few r (rt_delete.content_unowned r conn content),
  fewer_without r conn content.waiters,
)
delete_step false r conn content = omega arith

pub delete_few : (r : Resource) (conn : ConnId) (content : Content)
    → length (rt_delete.after r conn content).letters ≤ length (waiters_of r content.waiters)
delete_few r conn content = delete_step (rt_delete.is_retained r conn content.interests) r conn content
