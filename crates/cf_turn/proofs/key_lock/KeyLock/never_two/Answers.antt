use Rattle.cf_turn.proofs.Imports.{rules, ◌≡◌, ◌+◌, ◌<◌, ap, sym, ◌∙◌, arith}
use Rattle.cf_turn.proofs.Steps.{splits, joins, never}
use Rattle.cf_turn.proofs.key_lock.KeyLock.never_two.Goals as goal

pub split_seat-turns-requires : goal.split_seat-turns-requires
split_seat-turns-requires g c = let seat = c.second.inside.seat in (
  c.second.view_is ∙ (c.requires.second ∙ sym (ap (λ l. l.name) c.self.view_is)),
  search rules,
  splits g.F.Keeps.stands (g.F.Keeps.key_of c.self.inside.table.shared.key.value) seat.id seat.me.0,
)

pub join_seat-requires : goal.join_seat-requires
join_seat-requires g c =
    let mine = c.first.inside.seat in let made = c.split_seat-turns.ensures in let turns =
    c.split_seat-turns.result in let here = sym (ap (λ l. l.name) c.self.view_is) in
    let one : turns.me.0.turns ≡ 1 = ap (λ m. m.0.turns) made.4 ∙ c.second.invariant.0 in (
      c.first.view_is ∙ (c.requires.first ∙ here),
      made.3 ∙ (c.second.view_is ∙ (c.requires.second ∙ here)),
      ap (λ m. m.1) made.4,
      search rules,
      joins g.F.Keeps.stands (g.F.Keeps.key_of c.self.inside.table.shared.key.value) mine.id mine.me.0 turns.id
          turns.me.0 c.first.invariant.0 one,
    )

pub load-requires : goal.load-requires
load-requires g c =
    let joined = c.join_seat.ensures in let seat = c.join_seat.new.seat in let here =
    sym (ap (λ l. l.name) c.self.view_is) in
    let all : seat.me.0.turns ≡ c.first.inside.seat.me.0.turns + c.split_seat-turns.result.me.0.turns =
    ap (λ m. m.0.turns) joined.2 in
    let one = c.first.invariant.0 in let other : c.split_seat-turns.result.me.0.turns ≡ 1 =
    ap (λ m. m.0.turns) c.split_seat-turns.ensures.4 ∙ c.second.invariant.0 in
    let two : 1 < seat.me.0.turns = omega arith in (
      joined.0 ∙ (c.first.view_is ∙ (c.requires.first ∙ here)),
      search rules,
      never g.F.Keeps.stands (g.F.Keeps.key_of c.self.inside.table.shared.key.value) _ seat.id seat.me two,
    )
