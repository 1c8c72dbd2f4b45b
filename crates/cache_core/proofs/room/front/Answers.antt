use Rattle.cache_core.proofs.Imports.{◌≡◌, ◌∙◌, false, vec_len, sym, ap, arith, Vec, Global, Name16, is_enough}
use Rattle.cache_core.proofs.FrontLaws.{fronting_start, fronting_enough, fronting_fits, fronting_some, fronting_none, fronting_end}
use Rattle.cache_core.proofs.room.front.Goals.{in-Some+in_ok-push-in-Some, in-None}
use Rattle.cache_core.proofs.room.front.Goals as goal

pub loop-k-init : goal.loop-k-init
loop-k-init c = rw (c.new-names.ensures.items, c.new-names.ensures.len)
    (fronting_start c.args.request.now c.args.rows.now.rows c.args.room.now)

pub returns-then-is_enough : goal.returns-then-is_enough
returns-then-is_enough c = grind (arith, fronting_enough)

pub overflow_add-given : goal.overflow_add-given
overflow_add-given c = grind (arith, fronting_fits)

pub loop-k-preserved : goal.loop-k-preserved
loop-k-preserved c =
    let l = c.loop-k in
    let next = c.match-victim_at in
    let lacks : is_enough c.args.room.now (vec_len l.names) l.given ≡ false =
    rw c.len.ensures at (sym c.if-is_enough.ensures) in
    let items = λ (v : Vec Name16 Global). v.items in
    let long = λ (v : Vec Name16 Global). vec_len v in
    elim c.match-victim_at.branch [
      | in-Some+in_ok-push-in-Some w ↦ fronting_some _ _ _ _ _ _ _ l.invariant _ w.in-Some.row
          c.victim_at.ensures w.in-Some.is _ _ _ lacks (ap items w.names-is ∙ w.in_ok-push-in-Some.ensures.items)
          (ap long w.names-is ∙ w.in_ok-push-in-Some.ensures.len) w.given-is
      | in-None w ↦ fronting_none _ _ _ _ _ _ _ l.invariant
          _ _ _ _ c.victim_at.ensures w.in-None.is (ap items w.names-is) (ap long w.names-is) w.given-is
    ]

pub returns : goal.returns
returns c = grind (arith, fronting_end)
