-- Where events come to stand.
use Rattle.std.proofs.lemmas.List.Sums.{prefix_len-le-length}
use Rattle.cf_lists.proofs.InsertionLaws.{insert-prefix_len}

pub ruleset event_placed = (insert-prefix_len, prefix_len-le-length)
