use Rattle.lock_interests.proofs.Imports.{◌++◌, ◌==◌, List, Option, find, ap, ◌∙◌, option_to_list, Held, held_read, read_in}
use Rattle.lock_interests.proofs.OwnerLaws.{read_more}
use Rattle.lock_interests.proofs.interests.read_each.Goals as goal

pub loop-r-preserved : goal.loop-r-preserved
loop-r-preserved c = read_more (read_in c.args.conn c.args.records.now.records c.args.owners.now.owners)
    c.args.resources.now c.loop-r.r-index _ c.loop-r.list.items c.push_held.new.list.items
    _ c.loop-r-test.true (c.in_ok-push_held.ensures ∙ ap (λ (o : Option Held). c.loop-r.list.items ++ option_to_list
    (held_read c.args.records.now.records o)) (c.find_by.ensures ∙ ap
    (λ (l : List Held). find (λ (held : Held). held.conn.0 == c.args.conn.0) l) c.owners.ensures)) c.loop-r.invariant
