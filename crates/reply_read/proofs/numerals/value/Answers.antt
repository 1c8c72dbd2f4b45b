use Rattle.std.proofs.Common.{◌≡◌, ◌∙◌}
use Rattle.plex_spell.proofs.NumberLaws.{IsUtf8-numeral}
use Rattle.reply_read.proofs.Wide.{parsed-wide}
use Rattle.reply_read.proofs.numerals.value.Goals as goal

pub returns-in_default : goal.returns-in_default
returns-in_default c = absurd (c.in_default.ensures.cases.0 (IsUtf8-numeral c.args.word.now c.requires))

pub returns : goal.returns
returns c =
    let same : c.in-Ok.text.now ≡ c.args.word.now = c.in-Ok.ensures.cases.0 in
    c.ok.ensures.value ∙ parsed-wide c.args.word.now c.parse.result c.requires (rw same at c.parse.ensures.value.0)
