-- What a call does to its caller's pass.
use Rattle.std.specs.Prelude.{◌≡◌, ℕ, ◌≤◌, ◌==◌, ◌++◌, ◌∷◌, [], List, Option, find, option_map}
use Rattle.engine_api.specs.declared.asks.Ask.{Ask}
use Rattle.engine_api.specs.declared.asks.Reply.{Reply}
use Rattle.engine_api.specs.declared.told.Told.{Told}
use Rattle.engine_api.specs.Told.{told_of}
use Rattle.vec_words.specs.Tokens.{PassSeen}
use Rattle.struct_cell.specs.Cells.{About}

-- The call was answered: it is the pass's last one, of which the caller was told, and the pass knows its number and
-- has seen it complete. Nothing else of the pass is different.
pub record IsAnswered {C R : Type 0} (ask : Ask C) (it : Told) (before after : PassSeen (About C R)) : Type 0 where
  pub reply : Reply R
  pub told : it ≡ told_of it.no ask reply
  pub pass : after ≡ record before { known = it.no; sure = it.no; mine = before.mine ++ (it.no, (ask, reply)) ∷ [] }

-- The pass knows as much as before, or more.
pub record IsLater {C R : Type 0} (before after : PassSeen (About C R)) : Type 0 where
  pub known : before.known ≤ after.known
  pub sure : before.sure ≤ after.sure
  pub same : after ≡ record before { known = after.known; sure = after.sure }

-- ---- replies

module _ {C R : Type 0} where
  -- the reply to the call of this number, where it is among a caller's calls
  abbrev pub reply_to : ℕ → List (ℕ × About C R) → Option (Reply R)
  reply_to number mine = option_map (λ it. it.1.1) (find (λ it. it.0 == number) mine)
