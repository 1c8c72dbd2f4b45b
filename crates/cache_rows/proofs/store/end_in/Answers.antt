use Rattle.cache_rows.proofs.Imports.{arith, ◌∙◌, ap, chain_of}
use Rattle.cache_rows.proofs.StoreLaws.{ended_stored, ended_items, body_at}
use Rattle.cache_rows.proofs.store.end_in.Goals as goal

pub give_back-requires : goal.give_back-requires
give_back-requires c = grind arith

pub returns-clause-stored : goal.returns-clause-stored
returns-clause-stored c = ended_stored _ _ _ _ c.args.name.now c.data_of.result c.requires
    c.take-old.ensures.writes (c.data_of.ensures ∙ ap chain_of c.take-old.ensures.row) c.give_back.ensures.chains

pub returns-clause-writes : goal.returns-clause-writes
returns-clause-writes c = ended_items _ _ _ _ c.args.name.now c.data_of.result c.requires
    c.take-old.ensures.writes (c.data_of.ensures ∙ ap chain_of c.take-old.ensures.row) c.give_back.ensures.chains

pub returns-clause-free : goal.returns-clause-free
returns-clause-free c = grind (arith, body_at)
