-- The steps of a line: each call leaves fewer, they go with the line's call, and only where nothing is left they rest.
use Rattle.plex_script.proofs.Imports.{◌≡◌, ◌≢◌, ℕ, zero, suc, ◌+◌, ◌*◌, ◌≤◌, Bool, cond, Some, None, Option, refl, arith, Kind, Told, Step, AnyAsk, step_after, most_asks, asks_behind, asked_by, round_step, after_round, shell_ask, IsReady, ShellCmd}

-- ---- how many asks are left

-- a step rests where no ask is left
pub rests : (now : Step) → most_asks now ≤ 0 → now ≡ Step.Rest
rests now none = grind arith

either_le : (b : Bool) (x y : Step) (n : ℕ) → suc (most_asks x) ≤ n → suc (most_asks y) ≤ n
    → suc (most_asks (cond b x y)) ≤ n
either_le b x y n first second = grind arith

round_asks : (behind : Option ℕ) → most_asks (after_round behind) ≡ asks_behind behind
round_asks behind = grind arith

taking_asks : (left : ℕ) (behind : Option ℕ) → most_asks (round_step left behind) ≤ 2 * left + asks_behind behind
taking_asks zero behind = omega (arith, round_asks behind)
taking_asks (suc left) behind = omega arith

-- each call leaves fewer
pub fewer_asks : (now : Step) (told : Told) → now ≢ Step.Rest → suc (most_asks (step_after now told)) ≤ most_asks now
fewer_asks (Step.Call zero) told goes = omega arith
fewer_asks (Step.Call (suc asks)) told goes = grind (arith, either_le)
fewer_asks (Step.Next left behind) told goes = grind (arith, either_le, taking_asks, round_asks)
fewer_asks (Step.Respond left behind) told goes = omega (arith, taking_asks left behind)
fewer_asks Step.Rest told goes = absurd (goes refl)

-- ---- steps go with the line

either_ready : (line : Option AnyAsk) (b : Bool) (x y : Step) → IsReady line x → IsReady line y
    → IsReady line (cond b x y)
either_ready line b x y first second = grind arith

taking_ready : (left : ℕ) → IsReady None (round_step left None)
taking_ready left = grind arith

pub ready_after : (line : Option AnyAsk) (now : Step) (told : Told) → IsReady line now
    → IsReady line (step_after now told)
ready_after (Some asked) now told ready = tt
ready_after None (Step.Call asks) told ready = absurd ready
ready_after None (Step.Next left (Some asks)) told ready = absurd cc
ready_after None (Step.Next left None) told ready = grind (arith, either_ready, taking_ready)
ready_after None (Step.Respond left (Some asks)) told ready = absurd cc
ready_after None (Step.Respond left None) told ready = taking_ready left
ready_after None Step.Rest told ready = tt

-- a step that isn't the last asks something
pub asks_some : (kind : Kind) (line : Option AnyAsk) (now : Step) → IsReady line now → now ≢ Step.Rest
    → (asked : AnyAsk) × (asked_by kind line now ≡ Some asked)
asks_some kind (Some asked) (Step.Call asks) ready goes = (asked, refl)
asks_some kind None (Step.Call asks) ready goes = absurd ready
asks_some kind line (Step.Next left behind) ready goes = (shell_ask kind ShellCmd.Next, refl)
asks_some kind line (Step.Respond left behind) ready goes = (shell_ask kind ShellCmd.Respond, refl)
asks_some kind line Step.Rest ready goes = absurd (goes refl)

-- a step that asks isn't the last
pub some_goes : (kind : Kind) (line : Option AnyAsk) (now : Step) (asked : AnyAsk)
    → asked_by kind line now ≡ Some asked → now ≢ Step.Rest
some_goes kind line now asked asks rest = grind arith
