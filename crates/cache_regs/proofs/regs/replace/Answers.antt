use Rattle.cache_regs.proofs.Imports.{arith, none_filtered, length-filter-le, length-insertion, is_at}
use Rattle.cache_regs.proofs.EndLaws.{unnamed}
use Rattle.cache_regs.proofs.regs.replace.Goals as goal

pub put-requires-clause-free : goal.put-requires-clause-free
put-requires-clause-free c =
    rw c.take.ensures.regs (none_filtered (is_at c.args.new.conn c.args.new.index) c.args.maps.now.regs)

pub put-requires-clause-unnamed : goal.put-requires-clause-unnamed
put-requires-clause-unnamed c = rw c.take.ensures.regs
    (unnamed c.args.new.conn c.args.new.index c.args.new.name c.args.maps.now.regs c.requires.nowhere)

pub returns-clause-more : goal.returns-clause-more
returns-clause-more c = grind (arith, length-insertion, length-filter-le)
