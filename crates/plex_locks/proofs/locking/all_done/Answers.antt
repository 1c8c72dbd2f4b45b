use Rattle.plex_locks.proofs.Imports.{arith, ◌≡◌, ℕ, map, sym, ◌∙◌, subst, List, AreAll, HandTold, AtLocks, AreIdle, IsLocked, told_of}
use Rattle.plex_locks.proofs.ToldLaws.{all-ready, all-hands, told-right}
use Rattle.plex_locks.proofs.locking.all_done.Goals as goal

pub work_each-requires-clause-ready : goal.work_each-requires-clause-ready
work_each-requires-clause-ready g c κs within = grind (arith, all-ready)

pub close-words-requires : goal.close-words-requires
close-words-requires g c =
    let locks = c.in_ok-locks.locks in
    let idle = c.in_ok-workers.workers.items in
    let after = c.work_each.new.workers.items in
    let hands : c.in_ok-hands.hands.items ≡ map (λ (w : AtLocks). w.hand) after = c.in_ok-hands.ensures.hands in
    let idles : AreIdle c.args.script.now.connectors c.args.script.now.lines c.in_ok-locks.hands.items idle =
    grind arith in
    let form = c.in_ok-locks.ensures.form in
    let some_hands = c.requires.callers.0 in record {
      hands = (
        omega (arith, form.1, some_hands),
        subst (AreAll locks) (sym hands)
            (all-hands c.args.script.now locks c.args.callers idle after c.in_ok-locks.hands.items
            (grind arith) c.requires.callers.2 c.in_ok-locks.ensures.hands idles c.work_each.ensures form.1),
      );
    }

pub returns : goal.returns
returns g c =
    let locks = c.in_ok-locks.locks in
    let idle = c.in_ok-workers.workers.items in
    let after = c.work_each.new.workers.items in
    let hands : c.in_ok-hands.hands.items ≡ map (λ (w : AtLocks). w.hand) after = c.in_ok-hands.ensures.hands in
    let told : c.in_ok-hands.told.items ≡ map told_of after = c.in_ok-hands.ensures.told in
    let idles : AreIdle c.args.script.now.connectors c.args.script.now.lines c.in_ok-locks.hands.items idle =
    grind arith in
    let form = c.in_ok-locks.ensures.form in
    let words = c.close-words.result.items in
    subst (λ (t : List HandTold × List ℕ). IsLocked c.args.script.now (record { hands = t.0; words = t.1 }))
    (λ i. (sym (c.from_vec.ensures ∙ told) i, sym c.from_vec-2.ensures i))
    (told-right c.args.script.now locks c.args.callers idle after c.in_ok-locks.hands.items
    (form.0 ∙ c.requires.entries.1) c.requires.callers.2 c.in_ok-locks.ensures.hands idles c.work_each.ensures words c.close-words.ensures.count (
    grind arith) (grind arith) (grind arith))
