-- The engine of the trials as contracts see it.
use Rattle.std.specs.Prelude.{ℕ, ◌-◌, ◌≤◌, ◌<◌, List, length}
use Rattle.std.specs.Vec.{vec_len, vec_capacity}
use Rattle.engine_api.specs.CfTypes.declared.effects.Effects.{Effects}
use Rattle.engine_api.specs.Meaning.{Held, Wish}
use Rattle.engine_api.specs.Meaning.Wish.{ForCmd, ForLeave, ForForget}
use Rattle.part_tests.specs.declared.counted.Counted.TheInside.{Inside}

-- what it holds, and for how many more numbers there is room
pub record CountedView : Type 0 where
  pub held : Held (List ℕ)
  pub room : ℕ

abbrev pub counted_view : Inside → CountedView
counted_view e =
    record {
      held = record { shape = e.shape; base = e.caps; caps = e.caps; state = e.numbers.items };
      room = vec_capacity e.numbers - vec_len e.numbers;
    }

-- there is room for one number more, and there are fewer than the most
abbrev pub IsReady : CountedView → Wish ℕ → Effects → Type 0
IsReady e (ForCmd by number) out = (1 ≤ e.room) × (length e.held.state < 4294967295)
IsReady e (ForLeave conn) out = Unit {0}
IsReady e ForForget out = Unit {0}
