use Rattle.lock_core.proofs.Imports.{◌≡◌, ◌≤◌, Bool, List, Some, length, sym, ap, ◌∙◌, arith, Resource, Content, departure_of, awaited_of, waiting_for}
use Rattle.lock_core.proofs.AwaitedLaws.{departure_few, ordered_awaited}
use Rattle.lock_core.proofs.engine.LockEngineEngine.leave_ready.Goals as goal

pub most_left-letters-requires : goal.most_left-letters-requires
most_left-letters-requires c = rw (c.deref.ensures.value, c.in_ok-resources.ensures)
    (ordered_awaited c.args.conn c.self.inside.locks.content)

pub returns-clause-ready : goal.returns-clause-ready
returns-clause-ready c =
    let conn = c.args.conn in
    let old = c.self.inside.locks.content in
    let same : c.reserve.new.self.content ≡ old = c.in_ok-reserve.ensures.content in
    let found : c.in_ok-resources.resources.items ≡ awaited_of conn old = c.in_ok-resources.ensures in
    let few : (keep : Bool) → length (departure_of conn keep old).letters ≤ c.reserve.new.out.mail.room = λ keep. omega (
      arith,
      departure_few conn keep old,
      c.most_left-letters.ensures.sum,
      ap (waiting_for old.waiters) (c.deref.ensures.value ∙ found),
      c.in_ok-reserve.ensures.letters,
    ) in
    record {
      planned = ap (λ (l : List Resource). Some l) (c.from_vec.ensures ∙ found)
          ∙ ap (λ (k : Content). Some (awaited_of conn k)) (sym same);
      room = record {
        owners = omega (arith, c.in_ok-reserve.ensures.room.owners);
        records = omega (arith, c.in_ok-reserve.ensures.room.records);
      };
      letters = λ keep. rw same (few keep);
    }
