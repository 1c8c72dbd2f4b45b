use Rattle.plex_script.proofs.Imports.{arith, ◌≡◌, ◌∙◌, ap, Some, err_from_is_err_and, structure_of, kind_of, script_of}
use Rattle.plex_script.proofs.CauseLaws.{caller-fault, adds-done}
use Rattle.plex_script.proofs.line_reader.perform.Goals as goal

pub returns-in_err-act-clause-wrong : goal.returns-in_err-act-clause-wrong
returns-in_err-act-clause-wrong c =
    let script = script_of c.args.draft.now in
    let second = c.in-Some.second.now in
    let on = c.in-Some-structure_number.on in
    let found : structure_of script.structures second ≡ Some on = grind arith in
    let kind = c.kind_of-kind.ensures ∙ ap (λ fs. kind_of fs on) c.as_slice-2.ensures.value in
    let judged = rw kind at c.in_err-act.ensures in
    let p = err_from_is_err_and c.from_residual.result c.from_residual.ensures.1 in
    rw (p.1, p.2) (caller-fault script c.args.long c.args.by second c.next.new.self c.args.words on
    c.in_err-act.field-0.0 c.in-Some.ensures.word found judged)

pub returns-clause-ok : goal.returns-clause-ok
returns-clause-ok c =
    let script = script_of c.args.draft.now in
    let second = c.in-Some.second.now in
    let on = c.in-Some-structure_number.on in
    let found : structure_of script.structures second ≡ Some on = grind arith in
    let kind = c.kind_of-kind.ensures ∙ ap (λ fs. kind_of fs on) c.as_slice-2.ensures.value in
    let judged = rw kind at c.in_ok-act.ensures in
    let same = ap (λ ls. (let s = record script { lines = ls } in s)) c.in_ok-push.ensures.items in
    adds-done _ _ _ _ _ _ _ _ _ _ _ c.in-Some.ensures.word found judged same
