use Rattle.list_kept.proofs.Imports.{◌≡◌, ◌∙◌, arith, lists_popped, record_in, monitors-turned, records-elsewhere}
use Rattle.list_kept.proofs.LastLaws.{last-count, last-gone, some_test}
use Rattle.list_kept.proofs.ToldLaws.{told-one, sym_test, content_at}
use Rattle.list_kept.proofs.{NamedLaws.named_less, NamedLaws.taken, PlaceLaws.orderly-without}
use Rattle.list_kept.proofs.keeping.Kept.pop_record.Goals as goal

popped : (c : goal.After-settle) → c.give.new.store.lists ≡ lists_popped c.in-Some.header c.self.inside.store.lists
popped c = c.give.ensures.lists ∙ c.in-Some.ensures.lists

pub invariant_of-self : goal.invariant_of-self
invariant_of-self c =
    let lists = c.self.inside.store.lists in
    let rec = record_in c.self.inside.store.chains c.in-Some.rec in
    let with = taken c.in-Some.rec.id lists rec c.pop.ensures.apart c.in-Some.ensures.found in
    let gone = c.give.ensures.lists ∙ c.in-Some.ensures.without in
    record {
      told = grind (arith, told-one, popped, records-elsewhere, sym_test);
      orderly = rw gone (orderly-without _ c.in-Some.rec.id lists c.self.invariant.orderly);
      named = rw gone (named_less _ _ rec _ _ with c.self.invariant.orderly.one_for_name c.self.invariant.named
          c.drop_name.ensures);
      used = rw (c.give.ensures.loose, ← c.in-Some.ensures.was) c.self.invariant.used;
      whole = grind arith;
    }

pub returns-in-Some-clause-there : goal.returns-in-Some-clause-there
returns-in-Some-clause-there c = grind (arith, some_test, last-count)

pub returns-in-Some-clause-content : goal.returns-in-Some-clause-content
returns-in-Some-clause-content c = grind (arith, content_at, monitors-turned, popped, last-gone)
