use Rattle.lock_record.proofs.Imports.{◌≡◌, is_some, true, false, sym, ap, arith, ◌∙◌, has_record}
use Rattle.lock_record.proofs.MapLaws.{as_many, fewer_by_one, there_is}
use Rattle.lock_record.proofs.records.Records.count_others.Goals as goal

pub returns-then-is_some-clause-count : goal.returns-then-is_some-clause-count
returns-then-is_some-clause-count c =
    let there : has_record c.args.r.now c.args.conn c.args.self.now.records ≡ true =
    sym (there_is (c.args.r.now, c.args.conn) c.args.self.now.records) ∙ ap is_some (sym c.get.ensures)
    ∙ sym (grind arith) ∙ sym c.is_some.ensures ∙ c.if-is_some.true in
    let fewer = fewer_by_one (c.args.r.now, c.args.conn) c.args.self.now.records c.count.ensures.records there in
    omega (arith, fewer, c.count.ensures.count)

pub returns-clause-count : goal.returns-clause-count
returns-clause-count c =
    let none : has_record c.args.r.now c.args.conn c.args.self.now.records ≡ false =
    sym (there_is (c.args.r.now, c.args.conn) c.args.self.now.records) ∙ ap is_some (sym c.get.ensures)
    ∙ sym (grind arith) ∙ sym c.is_some.ensures ∙ c.if-is_some.false in
    c.count-2.ensures.count ∙ sym (as_many (c.args.r.now, c.args.conn) c.args.self.now.records none)
