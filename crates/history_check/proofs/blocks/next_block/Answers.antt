use Rattle.std.proofs.Common.{◌≡◌, refl, slice_get, Some}
use Rattle.std.proofs.lemmas.Option.{slice_get_read}
use Rattle.history_check.specs.Queues.{HasTestsOf}
use Rattle.history_check.proofs.Asked.{has_itself, later_queues}
use Rattle.history_check.proofs.Pairing.{pairs_same}
use Rattle.history_check.proofs.Steps.{mark_more, found_good, found_bad, found_asked}
use Rattle.history_check.proofs.blocks.next_block.Goals as goal

pub block_told-requires-clause-queues : goal.block_told-requires-clause-queues
block_told-requires-clause-queues g c κs within = later_queues g.E.Engine.meaning c.args.machine.now.form
    c.args.entries.now c.args.start c.args.now c.args.queues.now c.requires.at.begun c.requires.asked

pub returns-then-not-fits-clause-bad : goal.returns-then-not-fits-clause-bad
returns-then-not-fits-clause-bad g c none =
    let there : slice_get c.args.entries.now c.args.now ≡ Some c.index-entries-now.result =
    slice_get_read _ _ _ _ refl c.requires.more c.index-entries-now.is in
    found_bad g.E.Engine.meaning c.args.machine.now.form c.args.entries.now c.args.machine.now.machine
    c.block_told.new.machine.machine c.args.start c.args.now c.index-entries-now.result c.in-Call.ask c.requires.at
    there c.in-Call.is c.block_told.new.machine.form c.in_ok-fits-in-Call.fits c.block_told.ensures.form
    c.if-not-fits.true c.in_ok-fits-in-Call.ensures.judged

pub returns-in-Lost-clause-at : goal.returns-in-Lost-clause-at
returns-in-Lost-clause-at g c =
    let there : slice_get c.args.entries.now c.args.now ≡ Some c.index-entries-now.result =
    slice_get_read _ _ _ _ refl c.requires.more c.index-entries-now.is in
    mark_more g.E.Engine.meaning c.args.machine.now.form c.args.entries.now c.args.machine.now.machine c.args.start
    c.args.now c.index-entries-now.result c.in-Lost.field-0 c.requires.at there c.in-Lost.is

pub returns-in-Lost-clause-same : goal.returns-in-Lost-clause-same
returns-in-Lost-clause-same g c = pairs_same HasTestsOf has_itself c.args.queues.now

pub returns-else-not-fits-clause-at : goal.returns-else-not-fits-clause-at
returns-else-not-fits-clause-at g c =
    let there : slice_get c.args.entries.now c.args.now ≡ Some c.index-entries-now.result =
    slice_get_read _ _ _ _ refl c.requires.more c.index-entries-now.is in
    found_good g.E.Engine.meaning c.args.machine.now.form c.args.entries.now c.args.machine.now.machine
    c.block_told.new.machine.machine c.args.start c.args.now c.index-entries-now.result c.in-Call.ask c.requires.at
    there c.in-Call.is c.block_told.new.machine.form c.in_ok-fits-in-Call.fits c.block_told.ensures.form
    c.if-not-fits.false c.in_ok-fits-in-Call.ensures.judged

pub returns-else-not-fits-clause-asked : goal.returns-else-not-fits-clause-asked
returns-else-not-fits-clause-asked g c =
    let there : slice_get c.args.entries.now c.args.now ≡ Some c.index-entries-now.result =
    slice_get_read _ _ _ _ refl c.requires.more c.index-entries-now.is in
    found_asked g.E.Engine.meaning c.args.machine.now.form c.args.entries.now c.args.machine.now.machine
    c.block_told.new.machine.machine c.args.start c.args.now c.index-entries-now.result c.in-Call.ask c.requires.at
    there c.in-Call.is c.block_told.new.machine.form c.in_ok-fits-in-Call.fits c.block_told.ensures.form
    c.if-not-fits.false c.in_ok-fits-in-Call.ensures.judged c.args.queues.now c.block_told.new.queues
    c.in_ok-fits-in-Call.ensures.told c.requires.asked
