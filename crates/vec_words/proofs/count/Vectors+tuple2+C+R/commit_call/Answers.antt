use Rattle.vec_words.proofs.Imports.{refl}
use Rattle.vec_words.proofs.count.Vectors+tuple2+C+R.commit_call.Goals as goal

pub commit_of-requires-clause-one : goal.commit_of-requires-clause-one
commit_of-requires-clause-one g c = ((c.args.cmd.now, c.args.reply.now), refl)
