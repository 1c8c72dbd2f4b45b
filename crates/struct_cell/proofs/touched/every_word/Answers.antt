use Rattle.struct_cell.proofs.Imports.{words_of}
use Rattle.struct_cell.proofs.PlaceLaws.{vectors-more}
use Rattle.struct_cell.proofs.touched.every_word.Goals as goal

pub loop-before-preserved : goal.loop-before-preserved
loop-before-preserved c =
    let put = c.in_ok-put_words.ensures in
    record {
      within = put.within;
      distinct = put.distinct;
      ordered = put.before;
      every = vectors-more c.loop-before.places.items c.put_words.new.places.items
          (words_of c.args.len) c.loop-before.before put.others put.here c.loop-before.invariant.every;
    }
