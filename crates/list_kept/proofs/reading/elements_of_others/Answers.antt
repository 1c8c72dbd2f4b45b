use Rattle.list_kept.proofs.Imports.{◌≡◌, Some, arith, record_in, record_of}
use Rattle.list_kept.proofs.NamedLaws.{elements_found}
use Rattle.list_kept.proofs.reading.elements_of_others.Goals as goal

pub overflow_sub-result : goal.overflow_sub-result
overflow_sub-result c =
    let lists = c.args.kept.now.content.lists in
    let there : record_of c.args.id lists ≡ Some (record_in c.args.kept.now.chains c.in-Some.rec.now) = grind arith in
    omega (
      arith,
      c.elements.ensures,
      c.need.ensures,
      elements_found c.args.id lists (record_in c.args.kept.now.chains c.in-Some.rec.now) c.get.ensures.apart there,
    )

pub returns-in-Some : goal.returns-in-Some
returns-in-Some c =
    let lists = c.args.kept.now.content.lists in
    let there : record_of c.args.id lists ≡ Some (record_in c.args.kept.now.chains c.in-Some.rec.now) = grind arith in
    omega (
      arith,
      c.elements.ensures,
      c.need.ensures,
      elements_found c.args.id lists (record_in c.args.kept.now.chains c.in-Some.rec.now) c.get.ensures.apart there,
    )
