use Rattle.lock_record.proofs.Imports.{ap, ◌∙◌, Book, record_of}
use Rattle.lock_record.proofs.MapLaws.{looked_up}
use Rattle.lock_record.proofs.records.Records.get.Goals as goal

pub returns : goal.returns
returns c = c.get.ensures.value ∙ looked_up c.self.inside.map.entries c.self.invariant.unique
    (c.args.r.now, c.args.conn) ∙ ap (λ (b : Book). record_of c.args.r.now c.args.conn b.records) c.self.view_is
