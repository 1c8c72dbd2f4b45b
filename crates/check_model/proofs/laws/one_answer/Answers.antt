use Rattle.check_model.proofs.Answers.{one_answer}
use Rattle.check_model.proofs.laws.one_answer.Goals as goal

pub returns : goal.returns
returns c one other a b = one_answer c.args.script.now c.args.printed.now c.requires.structures c.requires.done one other
    a b
