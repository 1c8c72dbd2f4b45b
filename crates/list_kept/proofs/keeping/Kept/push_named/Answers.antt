use Rattle.list_kept.proofs.Imports.{arith, sym, ◌≡◌, ◌++◌, ◌∷◌, [], ◌∙◌, records_of, with_records, with_data, monitors-turned, records-elsewhere}
use Rattle.list_kept.proofs.NamedLaws.{named_new, named_more, came_last}
use Rattle.list_kept.proofs.ToldLaws.{told-one, told_here, sym_test, content_at}
use Rattle.list_kept.proofs.keeping.Kept.push_named.Goals as goal

pushed : (c : goal.After-settle) → c.push.new.store.lists ≡ with_records c.self.inside.store.lists
    c.args.header (records_of c.self.inside.store.lists c.args.header ++ (with_data c.args.bare c.args.body.now) ∷ [])
pushed c = rw c.in-Ok.is at c.push.ensures.ok

pub settle-requires : goal.settle-requires
settle-requires c = record {
  known = λ e. told_here c.self.inside.store.lists c.args.header c.has_records-full.result c.self.inside.watch.rows
      (sym c.has_records-had.ensures ∙ e) c.self.invariant.told;
}

pub add_name-requires-clause-new : goal.add_name-requires-clause-new
add_name-requires-clause-new c =
    let rec = with_data c.args.bare c.args.body.now in
    let lt = rw (← c.self.view_is) at c.requires.header in
    let is = rw (← c.self.view_is) at c.requires.orderly in
    let with = came_last c.args.header rec c.self.inside.store.lists lt in
    named_new _ rec _ _ with is.one_for_name c.self.invariant.named

pub invariant_of-self : goal.invariant_of-self
invariant_of-self c =
    let rec = with_data c.args.bare c.args.body.now in
    let lt = rw (← c.self.view_is) at c.requires.header in
    let is = rw (← c.self.view_is) at c.requires.orderly in
    let with = came_last c.args.header rec c.self.inside.store.lists lt in
    record {
      told = grind (arith, told-one, pushed, records-elsewhere, sym_test);
      orderly = rw (pushed c) is;
      named = rw (pushed c) (named_more _ _ rec _ _ with is.one_for_name c.self.invariant.named c.add_name.ensures);
      used = rw c.push.ensures.loose c.self.invariant.used;
      whole = c.push.ensures.size ∙ c.self.invariant.whole;
    }

pub returns-in-Ok-clause-ok : goal.returns-in-Ok-clause-ok
returns-in-Ok-clause-ok c = grind (arith, content_at, monitors-turned, pushed)

pub invariant_of-self-in-Err : goal.invariant_of-self-in-Err
invariant_of-self-in-Err c = grind arith
