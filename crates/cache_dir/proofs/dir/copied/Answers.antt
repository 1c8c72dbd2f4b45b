use Rattle.cache_dir.proofs.EntryLaws.{copy_moved, copy_absent, copy_all}
use Rattle.cache_dir.proofs.dir.copied.Goals as goal

pub add_copy-requires : goal.add_copy-requires
add_copy-requires c =
    copy_absent _ _ _ _ _ c.in-Some.ensures.steps c.loop-name.invariant c.iter-name-items.ensures.unique

pub loop-name-preserved : goal.loop-name-preserved
loop-name-preserved c = copy_moved _ _ _ _ _ _ c.in-Some.ensures.steps c.in_ok-add_copy.ensures c.loop-name.invariant

pub returns : goal.returns
returns c = copy_all _ _ _ c.in-None.ensures.steps.0 c.loop-name.invariant
