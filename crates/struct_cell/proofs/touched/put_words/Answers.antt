use Rattle.struct_cell.proofs.Imports.{arith}
use Rattle.struct_cell.proofs.PlaceLaws.{words-more}
use Rattle.struct_cell.proofs.touched.put_words.Goals as goal

pub loop-word-preserved : goal.loop-word-preserved
loop-word-preserved c =
    let inv = c.loop-word.invariant in
    let put = c.in_ok-put_word.ensures in
    record {
      within = put.within;
      distinct = put.distinct;
      ordered = put.before;
      others = λ other word spared. inv.others other word (put.others other word spared);
      here = words-more c.loop-word.places.items c.put_word.new.places.items c.args.conn.0 c.loop-word.word put.others
          put.here inv.here;
    }

pub returns-clause-before : goal.returns-clause-before
returns-clause-before c = grind arith
