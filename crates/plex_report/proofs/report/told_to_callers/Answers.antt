use Rattle.plex_report.proofs.Imports.{◌≡◌, [], ◌∷◌, codes, Some, ap, sym, ◌∙◌, arith, slice_get}
use Rattle.plex_report.proofs.Sections.{transcript_spot, transcripts_after, past_end}
use Rattle.plex_report.proofs.report.told_to_callers.Goals as goal

pub returns-in-Within : goal.returns-in-Within
returns-in-Within c = rw (transcript_spot c.args.script.now c.args.transcripts.now (codes "END" ∷ [])
    c.in-Within.section c.args.k c.in-Within.line c.index-transcripts-section.result c.in-Within.ensures.0
    c.index-transcripts-section.is c.in-Within.ensures.1 c.in-Within.ensures.2) c.transcript_line.ensures

pub returns-then-lines-gt0 : goal.returns-then-lines-gt0
returns-then-lines-gt0 c = sym (transcripts_after c.args.script.now c.args.transcripts.now (codes "END" ∷ [])
    c.args.k c.in-Past.lines c.in-Past.ensures ∙ past_end (codes "END") c.in-Past.lines (omega arith))

pub returns-in_ok-line-in-Past : goal.returns-in_ok-line-in-Past
returns-in_ok-line-in-Past c =
    let none : c.in-Past.lines ≡ 0 = omega arith in
    ap Some c.in_ok-line-in-Past.ensures.items ∙ sym (transcripts_after c.args.script.now c.args.transcripts.now
    (codes "END" ∷ []) c.args.k c.in-Past.lines c.in-Past.ensures ∙ ap (λ n. slice_get (codes "END" ∷ []) n) none)
