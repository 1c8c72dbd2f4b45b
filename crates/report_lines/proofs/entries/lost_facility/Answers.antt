use Rattle.std.proofs.Common.{sym, ◌∙◌}
use Rattle.report_lines.proofs.EntryLaws.{lost_told}
use Rattle.report_lines.proofs.PartLaws.{if_none}
use Rattle.report_lines.proofs.MissedLaws.{lost_blank, lost_number, when_none}
use Rattle.report_lines.proofs.entries.lost_facility.Goals as goal

pub returns-in_err-word-clause-none : goal.returns-in_err-word-clause-none
returns-in_err-word-clause-none c = if_none c.from_residual.result _ (λ cf facility is.
    lost_blank c.args.done.now cf facility is c.in_err-word.ensures.none)

pub returns-then-is-clause-found : goal.returns-then-is-clause-found
returns-then-is-clause-found c =
    lost_told _ _ _ _ c.in_ok-word.ensures.found (sym c.if-is.ensures) c.facility_number.ensures

pub returns-then-is-clause-none : goal.returns-then-is-clause-none
returns-then-is-clause-none c = when_none c.facility_number.result _ (λ none cf facility is.
    lost_number c.args.done.now cf facility is _ c.in_ok-word.ensures.found.2 (none ∙ c.facility_number.ensures))
