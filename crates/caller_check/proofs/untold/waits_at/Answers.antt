use Rattle.std.proofs.Common.{sym, ap}
use Rattle.caller_slots.specs.RunShown.CfTypes.declared.forms.StrForm.{StrForm}
use Rattle.caller_check.proofs.UntoldLaws.{in_row, queue_found, less_of_same}
use Rattle.caller_check.proofs.untold.waits_at.Goals as goal

pub index-queue-requires : goal.index-queue-requires
index-queue-requires c = less_of_same _ _ _ (in_row c.args.structures.now c.args.tables.now c.args.conn c.args.on
    c.requires.rows c.requires.known c.from-place.result c.from-place.ensures c.index-tables-place.result
    c.index-tables-place.is c.from.result c.from.ensures) c.index-tables-place.result.ok.0

pub returns : goal.returns
returns c = queue_found c.args.structures.now c.args.tables.now c.args.conn c.args.on c.requires.rows c.requires.known
    c.from-place.result c.from-place.ensures c.index-structures-place.result c.index-structures-place.is _
    (ap (λ (f : StrForm). f.vector) (sym c.index-structures-place.is)) c.index-tables-place.result
    c.index-tables-place.is c.from.result c.from.ensures c.index-queue.result.now c.index-queue.ensures
    c.waits.result.now c.waits.ensures
