use Rattle.std.proofs.Common.{arith, ℕ, ◌+◌, ◌<◌, length, List, sym, ap, subst, ◌∙◌}
use Rattle.list_model.specs.declared.items.ListItem.{ListItem}
use Rattle.queue_model.specs.declared.items.FirstItem.{FirstItem}
use Rattle.queue_model.specs.declared.subs.Queued.{Queued}
use Rattle.queue_model.proofs.ItemLaws.{few-items, items-more, items-plain, length-inners}
use Rattle.list_queues.proofs.PlaceLaws.{length-more}
use Rattle.list_queues.proofs.engine.QueueEngineEngine.count.Goals as goal

pub overflow_add-result : goal.overflow_add-result
overflow_add-result c =
    let few : 1 + c.count-count.result < 4294967296 = subst (λ (n : ℕ). 1 + n < 4294967296) (sym c.count-count.ensures)
    (few-items _ _ _ c.content_is.ensures.content c.content_is.ensures.caps) in
    grind arith

pub returns-then-is_unmonitored : goal.returns-then-is_unmonitored
returns-then-is_unmonitored c =
    let e = c.self.inside in
    rw (← c.self.view_is) (c.count-count.ensures ∙ sym (length-inners _)
    ∙ ap (λ (l : List (FirstItem Queued ListItem)). length l) (sym (items-plain e.inner.held.shape
    (record { inner = e.inner.held.state; more = e.queues.queued })
    (sym c.is_unmonitored.ensures ∙ c.if-is_unmonitored.true))))

pub returns-else-is_unmonitored : goal.returns-else-is_unmonitored
returns-else-is_unmonitored c =
    let e = c.self.inside in
    rw (← c.self.view_is) (ap (λ (n : ℕ). 1 + n) c.count-count.ensures ∙ length-more e.queues.queued _
    ∙ ap (λ (l : List (FirstItem Queued ListItem)). length l) (sym (items-more e.inner.held.shape
    (record { inner = e.inner.held.state; more = e.queues.queued })
    (sym c.is_unmonitored.ensures ∙ c.if-is_unmonitored.false))))
