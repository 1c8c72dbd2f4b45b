use Rattle.std.proofs.Common.{rules, false, ◌<◌, length, get_or}
use Rattle.struct_machine.specs.StructureView.{stands_at}
use Rattle.vector_waits.specs.declared.wait.Wait.{Wait}
use Rattle.vector_waits.proofs.Waiting.{before_starts, before_exits, before_step}
use Rattle.vector_waits.proofs.asking.ask_before.Goals as goal

abbrev default : Wait
default = record { at = 0; sure = 0; index = 0; bit = false; told = false }

pub loop-k-init : goal.loop-k-init
loop-k-init g c = before_starts c.args.waits.now c.args.next c.args.number
    (stands_at g.E.Engine.meaning c.args.machine.now.machine c.args.conn) c.requires.past

pub returns-then-wait-number : goal.returns-then-wait-number
returns-then-wait-number g c =
    let within : c.loop-k.k < length c.args.waits.now = search rules in
    let high : (let y = get_or c.loop-k.waits c.loop-k.k default in c.args.number < y.at) = search rules in
    before_exits c.args.waits.now c.loop-k.waits c.loop-k.k c.args.number (stands_at g.E.Engine.meaning
    c.args.machine.now.machine c.args.conn) default within c.loop-k.invariant c.requires.rising high

pub loop-k-preserved : goal.loop-k-preserved
loop-k-preserved g c =
    let within : c.loop-k.k < length c.args.waits.now = search rules in
    before_step c.args.waits.now c.loop-k.waits c.loop-k.k c.args.number
    (stands_at g.E.Engine.meaning c.args.machine.now.machine c.args.conn) default within c.loop-k.invariant
    c.told_before.result c.told_before.ensures
