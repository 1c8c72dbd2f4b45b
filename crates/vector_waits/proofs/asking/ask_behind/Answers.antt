use Rattle.std.proofs.Common.{rules, false, ◌<◌, ◌≤◌, ◌+◌, length, get_or}
use Rattle.struct_machine.specs.StructureView.{stands_at}
use Rattle.vector_waits.specs.declared.wait.Wait.{Wait}
use Rattle.vector_waits.proofs.Waiting.{behind_starts, behind_exits, behind_step, past_step, past_more, past_less}
use Rattle.vector_waits.proofs.asking.ask_behind.Goals as goal

abbrev default : Wait
default = record { at = 0; sure = 0; index = 0; bit = false; told = false }

pub loop-k-init : goal.loop-k-init
loop-k-init g c = (
  behind_starts c.args.waits.now c.args.next c.args.number
      (stands_at g.E.Engine.meaning c.args.machine.now.machine c.args.conn) c.requires.past,
  past_more c.args.waits.now c.args.next c.args.number c.requires.past,
)

pub returns-then-wait-number-clause-waits : goal.returns-then-wait-number-clause-waits
returns-then-wait-number-clause-waits g c =
    let within : c.loop-k.k < length c.args.waits.now = search rules in
    let high : (let y = get_or c.loop-k.waits c.loop-k.k default in c.args.number < y.at) = search rules in
    behind_exits c.args.waits.now c.loop-k.waits c.loop-k.k c.args.number (stands_at g.E.Engine.meaning
    c.args.machine.now.machine c.args.conn) default within c.loop-k.invariant.0 c.requires.rising high

pub returns-then-wait-number-clause-past : goal.returns-then-wait-number-clause-past
returns-then-wait-number-clause-past g c = c.loop-k.invariant.1

pub loop-k-preserved : goal.loop-k-preserved
loop-k-preserved g c =
    let within : c.loop-k.k < length c.args.waits.now = search rules in
    let low : (let y = get_or c.loop-k.waits c.loop-k.k default in y.at ≤ c.args.number) = search rules in (
      behind_step c.args.waits.now c.loop-k.waits c.loop-k.k c.args.number
          (stands_at g.E.Engine.meaning c.args.machine.now.machine c.args.conn) default within c.loop-k.invariant.0
          c.told_behind.result c.told_behind.ensures,
      past_step c.args.waits.now c.loop-k.waits c.loop-k.k c.args.number (stands_at g.E.Engine.meaning
          c.args.machine.now.machine c.args.conn) default within c.loop-k.invariant.0 c.loop-k.invariant.1 low,
    )

pub returns-clause-past : goal.returns-clause-past
returns-clause-past g c =
    let all : length c.loop-k.waits ≤ c.loop-k.k = search rules in
    past_less c.args.waits.now c.loop-k.k (length c.loop-k.waits) (c.args.number + 1) all c.loop-k.invariant.1
