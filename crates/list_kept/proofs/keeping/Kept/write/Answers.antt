use Rattle.list_kept.proofs.Imports.{◌≡◌, true, ◌∙◌, arith, list_all, with_data, full-elsewhere, is_told}
use Rattle.list_kept.proofs.NamedLaws.{named_new, named_more, came, elements_with}
use Rattle.list_kept.proofs.ToldLaws.{told-one, gains-told, sym_test}
use Rattle.list_kept.proofs.keeping.Kept.write.Goals as goal

still_told : (c : goal.After-tell) → list_all (is_told c.put.new.store.lists) c.tell.new.watch.rows ≡ true
still_told c = grind (arith, told-one, full-elsewhere, sym_test)

pub add_name-requires-clause-new : goal.add_name-requires-clause-new
add_name-requires-clause-new c =
    let rec = with_data c.args.bare c.args.body.now in
    let lt = rw (← c.self.view_is) at c.requires.header in
    let is = rw (← c.self.view_is) at c.requires.orderly in
    let with = came c.args.head c.args.header rec c.self.inside.store.lists lt in
    named_new _ rec _ _ with is.one_for_name c.self.invariant.named

pub put-requires-clause-elements : goal.put-requires-clause-elements
put-requires-clause-elements c =
    let rec = with_data c.args.bare c.args.body.now in
    let lt = rw (← c.self.view_is) at c.requires.header in
    let is = rw (← c.self.view_is) at c.requires.orderly in
    let with = came c.args.head c.args.header rec c.self.inside.store.lists lt in
    omega (arith, c.self.invariant.whole, elements_with rec _ _ with, is.enough)

pub invariant_of-self : goal.invariant_of-self
invariant_of-self c =
    let rec = with_data c.args.bare c.args.body.now in
    let lt = rw (← c.self.view_is) at c.requires.header in
    let is = rw (← c.self.view_is) at c.requires.orderly in
    let with = came c.args.head c.args.header rec c.self.inside.store.lists lt in
    record {
      told = still_told c;
      orderly = rw c.put.ensures.lists is;
      named = rw c.put.ensures.lists (named_more _ _ rec _ _ with is.one_for_name c.self.invariant.named
          c.add_name.ensures);
      used = rw c.put.ensures.loose c.self.invariant.used;
      whole = c.put.ensures.size ∙ c.self.invariant.whole;
    }

pub returns-clause-bits : goal.returns-clause-bits
returns-clause-bits c = rw (← c.self.view_is)
    (gains-told _ _ _ _ _ _ c.self.invariant.told (still_told c) c.tell.ensures.bits)
