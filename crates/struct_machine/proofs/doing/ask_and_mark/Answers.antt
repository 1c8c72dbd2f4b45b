-- The links of a command on the content are asked, and each that is down makes a mark.
use Rattle.struct_machine.proofs.Imports.{arith, ◌≡◌, [], refl, listed, kept_of, machine_of, AreTold, asks_in, content_asks_of}
use Rattle.struct_machine.proofs.TurnLaws.{behind_both, behind_equal, told_equal, marks_made}
use Rattle.struct_machine.proofs.doing.ask_and_mark.Goals as goal

pub returns-clause-marked : goal.returns-clause-marked
returns-clause-marked g c =
    let meaning = g.E.Engine.meaning in
    let form = c.args.shell.now.form in
    let places = c.requires.of_form.places in
    let machine = machine_of meaning c.args.shell.now (kept_of g.E.Engine.held c.args.content.now) in
    let lost = c.ask_links-lost.result in
    let asked = machine_of meaning c.args.shell.now (kept_of g.E.Engine.held c.ask_links-lost.new.content) in
    let same : asked ≡ machine = grind arith in
    let alone = machine_of meaning c.mark-alone.new.shell (kept_of g.E.Engine.held c.mark-alone.new.content) in
    let both = machine_of meaning c.mark-both.new.shell (kept_of g.E.Engine.held c.mark-both.new.content) in
    let one = behind_equal meaning form form asked machine alone (listed lost.first) refl same
    c.mark-alone.ensures.machine in
    let two = behind_both meaning form machine alone both lost.first lost.second one (behind_equal meaning form
    c.mark-alone.new.shell.form alone alone both (listed lost.second) c.mark-alone.ensures.form refl
    c.mark-both.ensures.machine) in
    let unmarked : AreTold meaning form machine [] c.args.marks.now = grind arith in
    let first_told = c.mark-alone.ensures.told machine [] (same, unmarked) in
    let told = told_equal meaning form c.mark-alone.new.shell.form alone c.mark-alone.new.marks (listed lost.second)
    c.mark-both.new.marks c.mark-alone.ensures.form c.mark-both.ensures.told machine (listed lost.first)
    (one, first_told) in
    marks_made meaning form g.L.Link.calls g.L.Link.downs g.L.Link.faults machine both c.args.content.now.pair.links
    c.mark-both.new.content.pair.links (asks_in c.both.result) (content_asks_of c.args.shell.now.shell)
    lost c.mark-both.new.marks (grind arith) c.ask_links-lost.ensures.marks (grind arith) told two
