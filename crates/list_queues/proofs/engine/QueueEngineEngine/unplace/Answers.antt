use Rattle.queue_model.proofs.ItemLaws.{queued-alone}
use Rattle.list_queues.proofs.engine.QueueEngineEngine.unplace.Goals as goal

pub unplace-requires-clause-alone : goal.unplace-requires-clause-alone
unplace-requires-clause-alone c =
    let e = c.self.inside in
    let alone = rw (← c.self.view_is) at c.requires.alone in
    queued-alone e.inner.held.shape (record { inner = e.inner.held.state; more = e.queues.queued }) alone
