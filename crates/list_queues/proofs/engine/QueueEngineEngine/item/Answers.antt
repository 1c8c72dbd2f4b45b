use Rattle.std.proofs.Common.{◌≡◌, ◌<◌, length, slice_get, List, sym, ap, subst, ◌∙◌}
use Rattle.queue_model.specs.declared.items.FirstItem.{FirstItem}
use Rattle.queue_model.specs.declared.subs.Queued.{Queued}
use Rattle.list_model.specs.declared.items.ListItem.{ListItem}
use Rattle.list_model.specs.Contents.{Content}
use Rattle.list_model.specs.Meaning.{list_meaning}
use Rattle.queue_model.specs.Meaning.{QueueState}
use Rattle.queue_model.proofs.ItemLaws.{get-inners, items-more, items-plain}
use Rattle.list_queues.proofs.PlaceLaws.{get-more, within-more, within-plain}
use Rattle.list_queues.proofs.engine.QueueEngineEngine.item.Goals as goal

pub item-requires : goal.item-requires
item-requires c =
    let e = c.self.inside in
    let state : QueueState Content = record { inner = e.inner.held.state; more = e.queues.queued } in
    let within = rw (← c.self.view_is) at c.requires in
    within-plain (list_meaning.items e.inner.held.shape e.inner.held.state) c.args.k
    (subst (λ (l : List (FirstItem Queued ListItem)). c.args.k < length l) (items-plain e.inner.held.shape state
    (sym c.is_unmonitored.ensures ∙ c.if-is_unmonitored.true)) within)

pub returns-then-is_unmonitored : goal.returns-then-is_unmonitored
returns-then-is_unmonitored c =
    let e = c.self.inside in
    let state : QueueState Content = record { inner = e.inner.held.state; more = e.queues.queued } in
    rw (← c.self.view_is) (ap (λ (l : List (FirstItem Queued ListItem)). slice_get l c.args.k)
    (items-plain e.inner.held.shape state (sym c.is_unmonitored.ensures ∙ c.if-is_unmonitored.true))
    ∙ get-inners (list_meaning.items e.inner.held.shape e.inner.held.state) c.args.k c.in_ok-item.item
    c.in_ok-item.ensures)

pub item-requires-2 : goal.item-requires-2
item-requires-2 c =
    let e = c.self.inside in
    let state : QueueState Content = record { inner = e.inner.held.state; more = e.queues.queued } in
    let within = rw (← c.self.view_is) at c.requires in
    within-more e.queues.queued (list_meaning.items e.inner.held.shape e.inner.held.state) c.args.k c.if-k-eq0.false
    (subst (λ (l : List (FirstItem Queued ListItem)). c.args.k < length l) (items-more e.inner.held.shape state
    (sym c.is_unmonitored.ensures ∙ c.if-is_unmonitored.false)) within)

pub returns : goal.returns
returns c =
    let e = c.self.inside in
    let state : QueueState Content = record { inner = e.inner.held.state; more = e.queues.queued } in
    rw (← c.self.view_is) (ap (λ (l : List (FirstItem Queued ListItem)). slice_get l c.args.k)
    (items-more e.inner.held.shape state (sym c.is_unmonitored.ensures ∙ c.if-is_unmonitored.false))
    ∙ get-more e.queues.queued (list_meaning.items e.inner.held.shape e.inner.held.state) c.args.k c.in_ok-item-2.item
    c.if-k-eq0.false c.in_ok-item-2.ensures)
