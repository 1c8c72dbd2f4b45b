use Rattle.list_store.proofs.StoreLaws.{put_held, put_view, put_whole}
use Rattle.list_store.proofs.store.Store.put_body.Goals as goal

pub invariant_of-self : goal.invariant_of-self
invariant_of-self c = record {
  held = put_held c.self.inside.table c.self.inside.pool c.put.new.self c.self.invariant.held c.args.bytes.now
      c.put.result c.put.ensures.fresh c.put.ensures.put c.put.ensures.same;
  whole = put_whole c.self.inside.pool c.put.new.self c.args.bytes.now c.requires.some c.requires.few
      c.self.invariant.whole c.put.result c.put.ensures.put c.put.ensures.same;
}

pub returns-clause-put : goal.returns-clause-put
returns-clause-put c = rw (← c.self.view_is) (put_view c.self.inside.table c.self.inside.pool
    c.put.new.self c.self.invariant.held c.args.bytes.now c.put.result c.put.ensures.fresh c.put.ensures.put)
