use Rattle.list_kept.proofs.Imports.{arith, ◌≡◌, ℕ, ◌==◌, true, List, length, refl, sym, ap, ◌∙◌, Option, list_any, list_all, false≢true, eqb-true, all_records, is_id, any_all, unplaced, spot_with, gains_two, with_new_key, is_told}
use Rattle.list_kept.proofs.NamedLaws.{named_other, taken, came_back, some_found}
use Rattle.list_kept.proofs.ToldLaws.{told-two, told_here, told_there, gains-told, full-put_back}
use Rattle.list_kept.proofs.keeping.Kept.shift.Goals as goal

still_told : (c : goal.After-tell-in-Some) → list_all (is_told c.put_again.new.store.lists)
    c.tell-in-Some.new.watch.rows ≡ true
still_told c = grind (arith, spot_with, told-two, full-put_back)

pub tell-requires-clause-known : goal.tell-requires-clause-known
tell-requires-clause-known c e = told_here c.self.inside.store.lists c.in-Some.from c.has_records-full.result
    c.self.inside.watch.rows (sym c.has_records-had.ensures ∙ e) c.self.invariant.told

pub tell-requires-in-Some-clause-known : goal.tell-requires-in-Some-clause-known
tell-requires-in-Some-clause-known c e =
    let x = c.has_records-full.result in
    let y = c.has_records-full_there.result in
    let same : (c.in-Some.from == c.args.header) ≡ true → y ≡ x = grind (arith, eqb-true) in
    rw c.tell.ensures.rows (told_there c.self.inside.store.lists c.in-Some.from c.args.header x y
    c.self.inside.watch.rows (sym c.has_records-had_there.ensures ∙ e) same c.self.invariant.told)

pub invariant_of-self : goal.invariant_of-self
invariant_of-self c =
    let lists = c.self.inside.store.lists in
    let is = rw (← c.self.view_is) at c.requires.orderly in
    let lt = rw (← c.self.view_is) at c.requires.header in
    let there = rw (← c.self.view_is) at c.requires.there in
    let one = some_found c.args.id lists there in
    let with = taken c.args.id lists one.0 c.header_of.ensures.apart one.1 in
    let back = came_back c.args.head c.args.header c.args.key c.args.id one.0 lists lt one.1 in
    record {
      told = still_told c;
      orderly = rw c.put_again.ensures.lists is;
      named = rw c.put_again.ensures.lists (named_other _ one.0 (with_new_key c.args.key one.0) _ _ _ with back
          c.self.invariant.orderly.one_for_name is.one_for_name refl refl c.self.invariant.named);
      used = rw c.put_again.ensures.loose c.self.invariant.used;
      whole = ap (λ (l : List (Option (List ℕ))). length l) c.put_again.ensures.chains ∙ c.self.invariant.whole;
    }

pub unreachable-requires : goal.unreachable-requires
unreachable-requires c =
    let lists = c.self.inside.store.lists in
    let there : list_any (is_id c.args.id) (all_records lists) ≡ true = grind arith in
    false≢true (sym (unplaced c.args.id lists (grind arith)) ∙ sym (any_all (is_id c.args.id) lists) ∙ there)

pub returns-clause-bits : goal.returns-clause-bits
returns-clause-bits c =
    let k = c.self.inside in
    let from = c.in-Some.from in
    let later = c.put_again.new.store.lists in
    let x = c.has_records-full.result in
    let y = c.has_records-full_there.result in
    let same : (from == c.args.header) ≡ true → y ≡ x = grind (arith, eqb-true) in
    let first = rw c.tell.ensures.rows at c.tell.ensures.bits in
    let second = rw (c.tell-in-Some.ensures.rows, c.tell.ensures.rows) at c.tell-in-Some.ensures.bits in
    let both = gains_two from c.args.header x y k.watch.rows c.args.out.now.bits.items c.tell.new.out.bits.items
    c.tell-in-Some.new.out.bits.items same c.tell.ensures.monitors.one_at_index first second in
    rw (← c.self.view_is) (gains-told k.store.lists later k.watch.rows c.tell-in-Some.new.watch.rows _ _
    c.self.invariant.told (still_told c) (grind arith))
