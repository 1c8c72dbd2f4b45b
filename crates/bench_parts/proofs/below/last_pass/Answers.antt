use Rattle.bench_parts.proofs.LastLaws.{last-passes}
use Rattle.bench_parts.proofs.below.last_pass.Goals as goal

pub returns : goal.returns
returns c = last-passes c.args.vectors.now c.args.passes.items
    c.pop.new.self.items c.pop.result c.requires c.pop.ensures.items
