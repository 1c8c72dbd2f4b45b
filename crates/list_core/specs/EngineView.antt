-- The engine as contracts see it.
use Rattle.std.specs.Prelude.{◌≡◌, ◌≤◌, IsTrue, [], length, Option, Some}
use Rattle.cf_types.specs.declared.effects.Effects.{Effects}
use Rattle.cf_types.specs.declared.list_commands.ListCmd.{ListCmd}
use Rattle.cf_types.specs.Forms.{IsCapacity, is_list}
use Rattle.engine_api.specs.Meaning.{Held, Wish}
use Rattle.engine_api.specs.Meaning.Wish.{ForCmd, ForLeave, ForForget}
use Rattle.list_core.specs.declared.plans.Plan.{Plan}
use Rattle.list_core.specs.declared.engine.ListEngine.TheInside.{Inside}
use Rattle.list_model.specs.Contents.{Content, IsContent}
use Rattle.list_kept.specs.ContentView.{ContentView, IsRoomy}
use Rattle.list_core.specs.Plans.{plan_for}

-- what it holds, what it is ready for, and its content as it is kept, with room for more
pub record EngineView : Type 0 where
  pub held : Held Content
  pub plan : Option Plan
  pub kept : ContentView

abbrev pub view_of : Inside → EngineView
view_of e =
    record {
      held = record { shape = e.shape; base = e.caps; caps = e.caps; state = e.kept.content };
      plan = e.plan;
      kept = e.kept;
    }

pub record IsKept (e : Inside) : Type 0 where
  pub list : IsTrue (is_list e.shape.kind)
  pub caps : IsCapacity e.caps
  pub content : IsContent e.shape e.caps e.kept.content
  pub pool : e.kept.elements ≡ e.caps.elements
  pub vector : e.kept.vector ≡ e.shape.vector

-- the plan is that for the command, and there is room for what it brings
pub record IsReadyFor (e : EngineView) (plan : Plan) (out : Effects) : Type 0 where
  pub planned : e.plan ≡ Some plan
  pub room : IsRoomy e.kept out.bits.room

abbrev pub IsReady : EngineView → Wish ListCmd → Effects → Type 0
IsReady e (ForCmd by cmd) out =
    IsReadyFor e (plan_for e.held.shape e.held.caps e.held.state by cmd) out
IsReady e (ForLeave conn) out = length e.held.state.monitors ≤ out.bits.room
IsReady e ForForget out = Unit {0}

-- nothing, in no headers
abbrev pub no_content : Content
no_content = record { lists = []; limits = []; locks = []; monitors = []; next = 1 }
