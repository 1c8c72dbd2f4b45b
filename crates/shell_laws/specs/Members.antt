-- What is true of the machine between two calls.
use Rattle.std.specs.Prelude.{◌≡◌, ◌≢◌, ◌⊎◌, true, false, is_some, List, ◌∷◌, length, Option, None, Some}
use Rattle.cf_types.specs.declared.events.Stage.{Stage}
use Rattle.cf_types.specs.declared.events.Stage.TheVariants.{Quiesce, Connect, Copy, Cleanup, Stopping}
use Rattle.cf_types.specs.declared.limits.TheConstants.{CALLERS}
use Rattle.cf_types.specs.declared.numbers.CfId.{CfId}
use Rattle.cf_types.specs.declared.numbers.ConnId.{ConnId}
use Rattle.cf_types.specs.Connections.{actives}
use Rattle.engine_api.specs.RebuildCore.declared.rebuild.Rebuild.{Rebuild}
use Rattle.engine_api.specs.Instances.{no_instance}
use Rattle.engine_api.specs.Shell.{Shell}

abbrev pub Somebody : List ConnId → Type 0
Somebody conns = (conn : ConnId) × ((others : List ConnId) × (conns ≡ conn ∷ others))

-- these are the members of a rebuild, where one is under way, and there are some
abbrev pub HasMembers : Option Rebuild → List ConnId → Type 0
HasMembers None conns = Unit {0}
HasMembers (Some rebuild) conns = (rebuild.members ≡ conns) × Somebody conns

-- a new instance goes with CONNECT and COPY alone; it stands in CONNECT once a member gave its part, and in COPY always
abbrev pub IsPlaced : Stage → (members owing : List ConnId) → Option CfId → Type 0
IsPlaced Quiesce members owing fresh = fresh ≡ None
IsPlaced Connect members owing fresh = (owing ≡ members) ⊎ (is_some fresh ≡ true)
IsPlaced Copy members owing fresh = is_some fresh ≡ true
IsPlaced Cleanup members owing fresh = fresh ≡ None
IsPlaced Stopping members owing fresh = fresh ≡ None

abbrev pub HasPlace : Option Rebuild → Type 0
HasPlace None = Unit {0}
HasPlace (Some rebuild) = IsPlaced rebuild.stage rebuild.members rebuild.owing rebuild.fresh

-- a primary stands where somebody is active, unless the structure failed
abbrev pub HasPrimary : Shell → Type 0
HasPrimary shell =
    Somebody (actives shell.conns) → shell.failed ≡ false → is_some shell.instances.primary ≡ true

-- a structure that failed has no instance, and no rebuild
pub record IsBare (shell : Shell) : Type 0 where
  pub instances : shell.instances ≡ no_instance
  pub rebuild : shell.rebuild ≡ None

-- a secondary stands beside a primary, in another facility, and in no rebuild
pub record IsPaired (shell : Shell) : Type 0 where
  pub primary : is_some shell.instances.secondary ≡ true → is_some shell.instances.primary ≡ true
  pub apart : (one other : CfId) → shell.instances.primary ≡ Some one → shell.instances.secondary ≡ Some other
      → other.0 ≢ one.0
  pub rebuild : is_some shell.instances.secondary ≡ true → shell.rebuild ≡ None

-- there is a place for each connection, in a rebuild the members are just the connectors that are active, and the
-- instances stand that there are to be
pub record IsManned (shell : Shell) : Type 0 where
  pub places : length shell.conns ≡ CALLERS
  pub members : HasMembers shell.rebuild (actives shell.conns)
  pub placed : HasPlace shell.rebuild
  pub primary : HasPrimary shell
  pub paired : IsPaired shell
  pub bare : shell.failed ≡ true → IsBare shell
