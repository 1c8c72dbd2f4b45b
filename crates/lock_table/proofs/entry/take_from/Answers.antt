use Rattle.lock_table.proofs.Imports.{sym, ◌∙◌}
use Rattle.lock_table.proofs.EntryLaws.{masked_less, cut_out}
use Rattle.lock_table.proofs.entry.take_from.Goals as goal

pub returns-in-Some-clause-mask : goal.returns-in-Some-clause-mask
returns-in-Some-clause-mask c =
    let out = c.cut.ensures.list ∙ cut_out c.args.r.now c.args.conn
    c.args.owners.now c.in-Some.at c.requires.one_each (sym c.place_of.ensures ∙ c.in-Some.is) in
    rw (c.unmarked.ensures, out)
    (masked_less c.args.mask.now c.args.owners.now c.args.r.now c.args.conn c.requires.mask)
