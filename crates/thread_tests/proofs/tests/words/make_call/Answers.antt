-- A number that begins has no store, and the two words are two.
use Rattle.std.proofs.Common.{◌≡◌, ℕ, subst, ⊎_elim, arith}
use Rattle.plex_board.specs.VecWords.Tokens.{SeatSeen}
use Rattle.plex_board.specs.{VecWorld.Log.HasStore, VecWords.Logged.steps_of, VecWords.Logged.word_number}
use Rattle.plex_board.proofs.VecWords.Logs.{has_store-store}
use Rattle.thread_tests.proofs.tests.words.make_call.Goals as goal

abbrev Stores : ℕ → SeatSeen ℕ → Type 0
Stores word seat = HasStore (steps_of seat.log) word seat.number

pub store_word-requires-clause-once : goal.store_word-requires-clause-once
store_word-requires-clause-once c = c.begin.ensures.fresh (word_number c.args.vectors.now.len 1 0)

pub store_word-requires-2-clause-once : goal.store_word-requires-2-clause-once
store_word-requires-2-clause-once c h =
    let word = word_number c.args.vectors.now.len 1 1 in
    let first = word_number c.args.vectors.now.len 1 0 in
    ⊎_elim (λ (s : Stores word c.begin.new.seat). c.begin.ensures.fresh word s)
    (λ (e : (first ≡ word) × (c.begin.new.seat.number ≡ c.begin.new.seat.number)). let same = e.0 in
    omega (arith, same)) (has_store-store c.begin.new.seat.log first
    c.stored.result c.begin.new.seat.number word c.begin.new.seat.number (subst (Stores word) c.store_word.ensures h))
