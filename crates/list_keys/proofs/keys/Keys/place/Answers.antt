use Rattle.std.proofs.Common.{rules, Bool}
use Rattle.std.proofs.lemmas.List.Sorted.{IsPartitionPoint-from_clause}
use Rattle.cf_types.specs.declared.names.Key16.{Key16}
use Rattle.cf_lists.proofs.PlaceLaws.{partitioned, partition_is}
use Rattle.list_keys.specs.KeyOrder.{keys_up_to, stands_before}
use Rattle.list_keys.proofs.KeyLaws.{front_of}
use Rattle.list_keys.proofs.keys.Keys.place.Goals as goal

pub returns-clause-place : goal.returns-clause-place
returns-clause-place c =
    let p : Key16 → Bool = stands_before c.args.head c.args.key.now in
    partition_is p c.args.keys.now c.partition_point.result c.args.key.now c.partition_point.ensures.bound
    (IsPartitionPoint-from_clause p c.args.keys.now c.partition_point.result c.partition_point.ensures.partitioned
    (partitioned keys_up_to p c.args.keys.now (front_of c.args.head c.args.key.now) c.requires.ascending)
    (λ a r f h. search rules))
