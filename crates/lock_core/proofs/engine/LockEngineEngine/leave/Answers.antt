use Rattle.lock_core.proofs.Imports.{◌≡◌, ◌≤◌, Some, length, sym, subst, ◌∙◌, arith, Content, IsContent, departure_of, awaited_of, led_departed, EngineView, IsCounted}
use Rattle.lock_core.proofs.EngineLaws.{taken_is}
use Rattle.lock_core.proofs.engine.LockEngineEngine.leave.Goals as goal

pub depart-requires-clause-resources : goal.depart-requires-clause-resources
depart-requires-clause-resources c =
    let planned : c.self.inside.leaving ≡ Some (awaited_of c.args.conn c.self.inside.locks.content) =
    subst (λ (s : EngineView). s.leaving ≡ Some (awaited_of c.args.conn s.stock.content)) (sym c.self.view_is)
    c.requires.ready.planned in
    let same : c.in-Some.resources ≡ awaited_of c.args.conn c.self.inside.locks.content = grind (arith, taken_is) in
    c.items.ensures ∙ same

pub depart-requires-clause-letters : goal.depart-requires-clause-letters
depart-requires-clause-letters c = subst (λ (s : EngineView).
    length (departure_of c.args.conn c.args.keep s.stock.content).letters ≤ c.args.out.now.mail.room)
    (sym c.self.view_is) (c.requires.ready.letters c.args.keep)

pub invariant_of-self : goal.invariant_of-self
invariant_of-self c =
    let e = c.self.inside in
    let left : c.depart.new.locks.content ≡ (departure_of c.args.conn c.args.keep e.locks.content).content =
    c.depart.ensures.content in
    let led = led_departed e.caps c.args.conn c.args.keep e.locks.content c.self.invariant.content in
    record {
      lock = c.self.invariant.lock;
      caps = c.self.invariant.caps;
      limit = c.depart.ensures.limit ∙ c.self.invariant.limit;
      content = subst (λ (k : Content). IsContent e.caps k) (sym left) led.content;
      counted = subst (λ (k : Content). IsCounted k) (sym left) (omega (arith, led.items, c.self.invariant.counted));
    }
