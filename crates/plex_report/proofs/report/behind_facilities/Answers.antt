use Rattle.plex_report.proofs.Imports.{[], ◌∷◌, ◌++◌, codes, map, connector_line, histories_lines, transcripts_lines}
use Rattle.plex_report.proofs.Sections.{structure_spot, structures_after}
use Rattle.plex_report.proofs.report.behind_facilities.Goals as goal

pub returns-in-Within : goal.returns-in-Within
returns-in-Within c =
    let rest = map connector_line c.args.script.now.connectors ++ (histories_lines c.args.script.now
    c.args.histories.now ++ (transcripts_lines c.args.script.now c.args.transcripts.now ++ codes "END" ∷ [])) in
    let at = rw c.items-forms.ensures at c.in-Within.ensures in
    rw (structure_spot c.args.script.now rest c.in-Within.section c.args.k c.in-Within.line
    c.index-forms-section.result at.0 (rw c.items-forms.ensures at c.index-forms-section.is) at.1 at.2)
    c.structure_line.ensures

pub returns-in-Past : goal.returns-in-Past
returns-in-Past c =
    let rest = map connector_line c.args.script.now.connectors ++ (histories_lines c.args.script.now
    c.args.histories.now ++ (transcripts_lines c.args.script.now c.args.transcripts.now ++ codes "END" ∷ [])) in
    rw (structures_after c.args.script.now rest c.args.k c.in-Past.lines
    (rw c.items-forms.ensures at c.in-Past.ensures)) c.behind_structures.ensures
