-- The engine as contracts see it.
use Rattle.std.specs.Prelude.{◌≡◌, ℕ, ◌+◌, ◌≤◌, IsTrue, length, Option, Some}
use Rattle.cf_types.specs.declared.effects.Effects.{Effects}
use Rattle.cf_types.specs.declared.cache_commands.CacheCmd.{CacheCmd}
use Rattle.cf_types.specs.Forms.{IsCapacity, is_cache}
use Rattle.cf_types.specs.declared.forms.Caps.{Caps}
use Rattle.engine_api.specs.Instances.{units_of}
use Rattle.engine_api.specs.Meaning.{Held, Wish}
use Rattle.engine_api.specs.Meaning.Wish.{ForCmd, ForLeave, ForForget}
use Rattle.cache_core.specs.declared.plans.Plan.{Plan}
use Rattle.cache_core.specs.declared.engine.CacheEngine.TheInside.{Inside}
use Rattle.cache_model.specs.Contents.{Content, IsContent}
use Rattle.cache_core.specs.Plans.{plan_for}

-- what it holds, what it is ready for, and for how many rows and registrations it has room
pub record EngineView : Type 0 where
  pub held : Held Content
  pub plan : Option Plan
  pub row_room : ℕ
  pub reg_room : ℕ

abbrev pub content_of : Inside → Content
content_of e = record { rows = e.rows.rows; regs = e.regs.regs }

abbrev pub view_of : Inside → EngineView
view_of e =
    record {
      held = record { shape = e.shape; base = e.base; caps = e.caps; state = content_of e };
      plan = e.plan;
      row_room = e.rows.room;
      reg_room = e.regs.room;
    }

-- all units of the base as rows, and as elements
abbrev pub bound_of : Caps → Caps
bound_of base = record { entries = units_of base; elements = units_of base }

pub record IsKept (e : Inside) : Type 0 where
  pub cache : IsTrue (is_cache e.shape.kind)
  pub base : IsCapacity e.base
  pub within : units_of e.caps ≤ units_of e.base
  pub content : IsContent (bound_of e.base) (content_of e)
  pub vector : e.regs.len ≡ e.shape.vector
  pub places : e.rows.entries ≡ units_of e.base + 1
  pub elements : e.rows.elements ≡ units_of e.base

-- the plan is that for the command, and there is room for a row, a registration and the bits that change
pub record IsReadyFor (e : EngineView) (plan : Plan) (out : Effects) : Type 0 where
  pub planned : e.plan ≡ Some plan
  pub row : 1 ≤ e.row_room
  pub reg : 1 ≤ e.reg_room
  pub bits : length e.held.state.regs + 3 ≤ out.bits.room

abbrev pub IsReady : EngineView → Wish CacheCmd → Effects → Type 0
IsReady e (ForCmd by cmd) out = IsReadyFor e (plan_for e.held.shape.vector e.held.caps e.held.state by cmd) out
IsReady e (ForLeave conn) out = length e.held.state.regs ≤ out.bits.room
IsReady e ForForget out = length e.held.state.regs ≤ out.bits.room
