use Rattle.std.proofs.Common.{◌≡◌, false, ◌∷◌, List, sym, ◌∙◌, subst}
use Rattle.cf_types.specs.declared.names.Name16.{Name16}
use Rattle.plex_spell.specs.Words.{same_word, tail_of}
use Rattle.report_lines.specs.Entries.{any_words}
use Rattle.report_lines.proofs.EntryLaws.{keeps_formed}
use Rattle.report_lines.proofs.MadeLaws.{no_call, other_call}
use Rattle.report_lines.proofs.entries.plain_command.Goals as goal

pub read_command-requires-clause-formed : goal.read_command-requires-clause-formed
read_command-requires-clause-formed c = keeps_formed c.args.script.now c.requires.keeps

pub returns-in-Err-NotOne-clause-none : goal.returns-in-Err-NotOne-clause-none
returns-in-Err-NotOne-clause-none c = λ asked other makes stands.
    no_call c.args.script.now c.args.on c.requires.keeps c.requires.known c.args.by c.requires.caller c.args.text.now
    other
    asked makes stands (c.in-Err-NotOne.ensures.not_one c.in-Err-NotOne.field-0-is)

pub returns-else-branch-clause-none : goal.returns-else-branch-clause-none
returns-else-branch-clause-none c = λ asked other makes stands.
    let differs = sym c.in_ok-stands_as.ensures ∙ c.if-branch.false in
    other_call c.args.script.now c.args.on c.requires.keeps c.requires.known c.args.by c.requires.caller c.args.text.now
    other asked makes stands c.in-Ok.asked c.in-Ok.ensures.made
    (subst (λ (names : List Name16). same_word (tail_of (any_words names c.in-Ok.asked)) (32 ∷ c.args.text.now) ≡ false)
    c.items.ensures differs)
