use Rattle.cf_lists.proofs.Imports.{rules, Bool, IsPartitionPoint-from_clause, Resource, resource_before, resource_up_to}
use Rattle.cf_lists.proofs.{PlaceLaws.partitioned, PlaceLaws.partition_is, EntryKeyLaws.before_front}
use Rattle.cf_lists.proofs.keys.start_of.Goals as goal

pub returns : goal.returns
returns c =
    let p : Resource → Bool = λ (other : Resource). resource_before other c.args.r.now in
    partition_is p c.args.keys.now c.partition_point.result c.args.r.now c.partition_point.ensures.bound
    (IsPartitionPoint-from_clause p c.args.keys.now c.partition_point.result c.partition_point.ensures.partitioned
    (partitioned resource_up_to p c.args.keys.now (before_front c.args.r.now) c.requires) (λ a r f h. search rules))
