use Rattle.std.proofs.Common.{sym, ◌∙◌}
use Rattle.queue_model.proofs.ItemLaws.{queued-need}
use Rattle.list_queues.proofs.engine.QueueEngineEngine.need.Goals as goal

pub returns : goal.returns
returns c =
    let e = c.self.inside in
    rw (← c.self.view_is) (c.need.ensures
    ∙ sym (queued-need e.inner.held.shape (record { inner = e.inner.held.state; more = e.queues.queued })))
