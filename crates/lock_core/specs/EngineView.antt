-- The engine as contracts see it.
use Rattle.std.specs.Prelude.{◌≡◌, ◌+◌, ◌≤◌, ◌<◌, Bool, IsTrue, List, length, Option, Some}
use Rattle.cf_types.specs.declared.effects.Effects.{Effects}
use Rattle.cf_types.specs.declared.events.Letter.{Letter}
use Rattle.cf_types.specs.declared.resources.Resource.{Resource}
use Rattle.cf_types.specs.declared.lock_commands.LockCmd.{LockCmd}
use Rattle.cf_types.specs.declared.numbers.ConnId.{ConnId}
use Rattle.cf_types.specs.Forms.{IsCapacity, is_lock}
use Rattle.engine_api.specs.Meaning.{Held, Wish}
use Rattle.engine_api.specs.Meaning.Wish.{ForCmd, ForLeave, ForForget}
use Rattle.lock_model.specs.Contents.{Content, IsContent}
use Rattle.lock_model.specs.Departures.{departure_of}
use Rattle.lock_model.specs.Step.{after}
use Rattle.lock_core.specs.declared.plans.Plan.{Plan}
use Rattle.lock_core.specs.declared.engine.LockEngine.TheInside.{Inside}
use Rattle.lock_core.specs.Awaited.{awaited_of}
use Rattle.lock_core.specs.Plans.{plan_for}
use Rattle.lock_core.specs.Stock.{Stock, HasRoom}

-- what it holds, what it is ready for, and its locks with their room
pub record EngineView : Type 0 where
  pub held : Held Content
  pub plan : Option Plan
  pub leaving : Option (List Resource)
  pub stock : Stock

abbrev pub view_of : Inside → EngineView
view_of e =
    record {
      held = record { shape = e.shape; base = e.caps; caps = e.caps; state = e.locks.content };
      plan = e.plan;
      leaving = e.leaving;
      stock = e.locks;
    }

-- so many items that their number is one of 32 bits
abbrev pub IsCounted : Content → Type 0
IsCounted content = length content.interests + length content.waiters < 4294967296

pub record IsKept (e : Inside) : Type 0 where
  pub lock : IsTrue (is_lock e.shape.kind)
  pub caps : IsCapacity e.caps
  pub limit : e.locks.limit ≡ e.caps.elements
  pub content : IsContent e.caps e.locks.content
  pub counted : IsCounted e.locks.content

-- the plan is that for the command, and there is room for all that it can do, with one item more,
-- and for the letters that it sends
pub record IsReadyFor (e : EngineView) (plan : Plan) (sent : List Letter) (out : Effects) :
    Type 0 where
  pub planned : e.plan ≡ Some plan
  pub room : HasRoom 1 e.stock
  pub waiter : 1 ≤ e.stock.waiter_room
  pub letters : length sent ≤ out.mail.room
  pub counted : length e.stock.content.interests + length e.stock.content.waiters < 4294967295

-- the connector's resources that anybody waits for are there, and there is room for all that wait to be granted, and
-- for the letters of its departure
pub record IsReadyToLeave (e : EngineView) (conn : ConnId) (out : Effects) : Type 0 where
  pub planned : e.leaving ≡ Some (awaited_of conn e.stock.content)
  pub room : HasRoom 0 e.stock
  pub letters : (keep : Bool) → length (departure_of conn keep e.stock.content).letters ≤ out.mail.room

abbrev pub IsReady : EngineView → Wish LockCmd → Effects → Type 0
IsReady e (ForCmd by cmd) out =
    IsReadyFor e (plan_for e.held.caps e.stock.content by cmd) (after e.stock.content by cmd).letters
    out
IsReady e (ForLeave conn) out = IsReadyToLeave e conn out
IsReady e ForForget out = Unit {0}
