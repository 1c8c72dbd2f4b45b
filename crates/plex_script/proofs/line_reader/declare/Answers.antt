use Rattle.plex_script.proofs.Imports.{arith, sym, err_from_is_err_and, on_ok_weaker, words_of, script_of}
use Rattle.plex_script.proofs.CauseLaws.{policy-fault, policy-twice, policy-space, fits-judged, room-fits, adds-fits}
use Rattle.plex_script.proofs.line_reader.declare.Goals as goal

pub returns-in_err-declaration-clause-wrong : goal.returns-in_err-declaration-clause-wrong
returns-in_err-declaration-clause-wrong c =
    let p = err_from_is_err_and c.from_residual.result c.from_residual.ensures.1 in
    rw (p.1, p.2) (policy-fault (script_of c.args.draft.now) c.args.long c.args.first.now (words_of c.args.line.now)
    c.is_excess-excess.result c.in_err-declaration.field-0.0 (sym c.if-has_lines.ensures) c.is_excess-excess.ensures
    c.in_err-declaration.ensures)

pub returns-then-is_twice-clause-wrong : goal.returns-then-is_twice-clause-wrong
returns-then-is_twice-clause-wrong c =
    let fits = fits-judged (script_of c.args.draft.now) c.args.long c.args.first.now (words_of c.args.line.now) _ _
    c.is_excess-excess.ensures c.in_ok-declaration.ensures in
    policy-twice _ _ _ _ _ (sym c.if-has_lines.ensures) fits (sym c.if-is_twice.ensures)

pub returns-then-is_too_much-clause-wrong : goal.returns-then-is_too_much-clause-wrong
returns-then-is_too_much-clause-wrong c =
    let fits = fits-judged (script_of c.args.draft.now) c.args.long c.args.first.now (words_of c.args.line.now) _ _
    c.is_excess-excess.ensures c.in_ok-declaration.ensures in
    policy-space _ _ _ _ _ (sym c.if-has_lines.ensures) fits (sym c.if-is_twice.ensures)
    (sym c.if-is_too_much.ensures)

pub add_declaration-requires : goal.add_declaration-requires
add_declaration-requires c =
    room-fits (script_of c.args.draft.now) c.args.long c.args.first.now (words_of c.args.line.now) c.requires.0 _
    c.requires.1 (fits-judged _ _ _ _ _ _ c.is_excess-excess.ensures c.in_ok-declaration.ensures)

pub returns-clause-ok : goal.returns-clause-ok
returns-clause-ok c =
    let fits = fits-judged (script_of c.args.draft.now) c.args.long c.args.first.now (words_of c.args.line.now) _ _
    c.is_excess-excess.ensures c.in_ok-declaration.ensures in
    on_ok_weaker c.add_declaration.result (grind (arith, adds-fits)) c.add_declaration.ensures.ok
