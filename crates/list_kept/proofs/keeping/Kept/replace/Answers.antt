use Rattle.list_kept.proofs.Imports.{ap, ◌∙◌, arith, Lists, record_of, has_records, full-replaced, renewed}
use Rattle.list_kept.proofs.{DataLaws.named-renewed, ToldLaws.told-same}
use Rattle.list_kept.proofs.keeping.Kept.replace.Goals as goal

pub renew-requires-clause-elements : goal.renew-requires-clause-elements
renew-requires-clause-elements c = grind arith

pub invariant_of-self : goal.invariant_of-self
invariant_of-self c =
    let lists = c.self.inside.store.lists in
    let rec = renewed c.args.bare c.args.body.now (record_of c.args.bare.id lists) in
    let is = rw (← c.self.view_is) at c.requires.orderly in
    let there = rw (← c.self.view_is) at c.requires.there in
    let same = rw (← c.self.view_is) at c.requires.named in
    record {
      told = told-same lists _ _ (λ header. ap (λ (l : Lists). has_records l header) c.renew.ensures.lists
          ∙ full-replaced rec lists header) c.self.invariant.told;
      orderly = rw c.renew.ensures.lists is;
      named = rw c.renew.ensures.lists (named-renewed _ lists c.args.bare c.args.body.now c.renew.ensures.apart there
          same c.self.invariant.orderly.one_for_name is.one_for_name c.self.invariant.named);
      used = rw c.renew.ensures.loose c.self.invariant.used;
      whole = c.renew.ensures.size ∙ c.self.invariant.whole;
    }
