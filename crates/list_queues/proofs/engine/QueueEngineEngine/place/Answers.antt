use Rattle.std.proofs.Common.{◌∷◌, [], ◌++◌, subst}
use Rattle.cf_types.specs.declared.forms.Caps.{Caps}
use Rattle.engine_api.specs.Items.{Fits}
use Rattle.list_model.specs.Contents.{Content}
use Rattle.queue_model.specs.Meaning.{QueueState}
use Rattle.queue_model.proofs.ItemLaws.{queued-need-next, queued-next}
use Rattle.list_queues.proofs.engine.QueueEngineEngine.place.Goals as goal

pub place-requires-clause-next : goal.place-requires-clause-next
place-requires-clause-next c =
    let e = c.self.inside in
    let next = rw (← c.self.view_is, c.in-Inner.is) at c.requires.next in
    queued-next e.inner.held.shape (record { inner = e.inner.held.state; more = e.queues.queued }) c.in-Inner.item next

pub place-requires-clause-fits : goal.place-requires-clause-fits
place-requires-clause-fits c =
    let e = c.self.inside in
    let state : QueueState Content = record { inner = e.inner.held.state; more = e.queues.queued } in
    let fits = rw (← c.self.view_is, c.in-Inner.is) at c.requires.fits in
    subst (λ (need : Caps). Fits e.inner.held.shape.kind need e.inner.held.caps)
    (queued-need-next e.inner.held.shape state c.in-Inner.item) fits
