-- A printed script is read back.
use Rattle.plex_script.proofs.Imports.{◌≡◌, ℕ, ◌+◌, List, [], length, map, sym, arith, subst, flat_map, facility_line, structure_lines, connector_line, lines-back, Script, empty_script, AddsAll, IsScript, policy_lines, script_text, with_line_numbers, KeepsLimits, IsReadBack}
use Rattle.plex_script.proofs.PolicyPrinted.{structures-named, facilities-add, structures-add, connectors-add}
use Rattle.plex_script.proofs.{Chains.Leads, Chains.leads-append, LinesPrinted.lines-add}

abbrev declaring : Script → Script
declaring script = record script { lines = [] }

policy-reads : (script : Script) → KeepsLimits script → Leads empty_script 0 (policy_lines script) (declaring script)
policy-reads script h =
    let facilities = map facility_line script.facilities in
    let structures = flat_map structure_lines script.structures in
    let connectors = map connector_line script.connectors in
    let fs = record empty_script { facilities = script.facilities } in
    let ss = record fs { structures = script.structures } in
    leads-append _ _ _ _ _ 0 (facilities-add _ h.facilities) (leads-append _ _ _ _ _ _ (structures-add _ _
    _ h.structure_names h.few_structures h.structures h.room) (connectors-add _ _ _ _ h.connectors h.few_connectors))

pub script-reads : IsReadBack
script-reads script h =
    let base = length (policy_lines script) in
    let none : base ≡ 0 + base = omega arith in
    let lines = lines-add script base h.connectors (structures-named _ h.structure_names) h.lines in
    let all = leads-append _ _ _ _ _ 0 (policy-reads _ h) (grind (arith, Leads)) in
    subst (λ ls. AddsAll empty_script 0 ls (with_line_numbers script)) (sym (lines-back _ all.clear_lines)) all.adds

pub read_again : (script : Script) (text : List ℕ) → text ≡ script_text script → KeepsLimits script
    → IsScript text (with_line_numbers script)
read_again script text is h = grind (arith, script-reads)
