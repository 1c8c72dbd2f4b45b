use Rattle.struct_cell.proofs.Imports.{arith, ◌∙◌, take_all, words_in}
use Rattle.struct_cell.proofs.MirrorLaws.{looked_more}
use Rattle.struct_cell.proofs.mirror.Mirror.look_up.Goals as goal

pub word_of-bits-requires-clause-conn : goal.word_of-bits-requires-clause-conn
word_of-bits-requires-clause-conn g c κs within = grind arith

pub word_of-bits-requires-clause-word : goal.word_of-bits-requires-clause-word
word_of-bits-requires-clause-word g c κs within = grind arith

pub loop-place-preserved : goal.loop-place-preserved
loop-place-preserved g c = (
  (c.put.ensures.table.0 ∙ c.loop-place.invariant.0.0, c.put.ensures.table.1 ∙ c.loop-place.invariant.0.1),
  looked_more c.args.self.now c.loop-place.self c.put.new.self
      (words_in g.E.Engine.meaning c.args.machine.now.form c.args.machine.now.machine) c.args.places.now
      c.loop-place.place-index _ c.loop-place-test.true c.loop-place.invariant.0
      (c.put.ensures.here ∙ c.word_of-bits.ensures) c.put.ensures.others c.loop-place.invariant.1,
)

pub returns-clause-words : goal.returns-clause-words
returns-clause-words g c = grind (arith, take_all)
