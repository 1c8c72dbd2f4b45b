use Rattle.bench_parts.proofs.Imports.{word_number}
use Rattle.bench_parts.proofs.vectors.make_calls.Goals as goal

pub store_word-requires-clause-once : goal.store_word-requires-clause-once
store_word-requires-clause-once c = c.begin.ensures.fresh (word_number c.args.vectors.now.len 1 0)
