use Rattle.list_kept.proofs.Imports.{arith, ◌≡◌, true, sym, ◌∙◌, list_any, list_all, false≢true, all_records, is_id, lists_without, record_in, any_all, unplaced, spot_with, full-others, is_told}
use Rattle.list_kept.proofs.ToldLaws.{told-one, gains-told, sym_test}
use Rattle.list_kept.proofs.{NamedLaws.named_less, NamedLaws.taken, PlaceLaws.orderly-without}
use Rattle.list_kept.proofs.keeping.Kept.remove.Goals as goal

gone : (c : goal.After-tell) → c.give.new.store.lists ≡ lists_without c.args.id c.self.inside.store.lists
gone c = c.give.ensures.lists ∙ c.take-rec.ensures.lists

still_told : (c : goal.After-tell) → list_all (is_told c.give.new.store.lists) c.tell.new.watch.rows ≡ true
still_told c = grind (arith, spot_with, told-one, gone, full-others, sym_test)

pub invariant_of-self : goal.invariant_of-self
invariant_of-self c =
    let rec = record_in c.self.inside.store.chains c.take-rec.result in
    let with = taken c.args.id c.self.inside.store.lists rec c.take-rec.ensures.apart c.take-rec.ensures.«record» in
    record {
      told = still_told c;
      orderly = rw (gone c) (orderly-without _ c.args.id _ c.self.invariant.orderly);
      named = rw (gone c) (named_less _ _ rec _ _ with c.self.invariant.orderly.one_for_name c.self.invariant.named
          c.drop_name.ensures);
      used = rw (c.give.ensures.loose, ← c.take-rec.ensures.was) c.self.invariant.used;
      whole = grind arith;
    }

pub unreachable-requires : goal.unreachable-requires
unreachable-requires c =
    let lists = c.self.inside.store.lists in
    let there : list_any (is_id c.args.id) (all_records lists) ≡ true = grind arith in
    false≢true (sym (unplaced c.args.id lists (grind arith)) ∙ sym (any_all (is_id c.args.id) lists) ∙ there)

pub returns-clause-bits : goal.returns-clause-bits
returns-clause-bits c = rw (← c.self.view_is)
    (gains-told _ _ _ _ _ _ c.self.invariant.told (still_told c) c.tell.ensures.bits)
