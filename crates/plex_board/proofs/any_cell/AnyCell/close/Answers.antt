use Rattle.plex_board.proofs.Imports.{altered_caches, queued_lists, lock_meaning, OfCache, OfList, OfLock, AnyAsk, AnyReply}
use Rattle.plex_board.proofs.ShownLaws.{shown_tables, are_shown}
use Rattle.plex_board.proofs.MeansLaws.{told_means, asked_means}
use Rattle.plex_board.proofs.any_cell.AnyCell.close.Goals as goal

pub close-history-requires-clause-passes : goal.close-history-requires-clause-passes
close-history-requires-clause-passes g c κs within =
    shown_tables OfCache AnyAsk.Cache AnyReply.Cache c.in-Cache-Cache.cell
    c.in-Cache-Cache.passes.items (rw (c.in-Cache-Cache.is-0, c.in-Cache-Cache.is-1) at c.requires.passes)

pub returns-in-Cache-Cache : goal.returns-in-Cache-Cache
returns-in-Cache-Cache g c =
    let said = c.close-history.ensures in
    let means = g.met.K.Kinds.cache_means in
    let legal = means.legal c.in-Cache-Cache.cell.form c.close-history.result.history said.legal in
    let tests = told_means _ _ means
    c.in-Cache-Cache.cell.form c.close-history.result.history c.in-Cache-Cache.passes.items said.tests in
    let links = asked_means _ _ means c.in-Cache-Cache.cell.form
    c.close-history.result.history g.L.Link.calls g.L.Link.downs g.L.Link.faults _ _ said.links in
    let are = are_shown OfCache AnyAsk.Cache AnyReply.Cache c.in-Cache-Cache.cell c.in-Cache-Cache.passes.items
    altered_caches c.close-history.result.history said.callers said.mine tests said.known in
    rw (c.in-Cache-Cache.is-0, c.in-Cache-Cache.is-1) (assumption (are, legal, links, said))

pub close-history-requires-in-List-List-clause-passes : goal.close-history-requires-in-List-List-clause-passes
close-history-requires-in-List-List-clause-passes g c κs within =
    shown_tables OfList AnyAsk.List AnyReply.List c.in-List-List.cell
    c.in-List-List.passes.items (rw (c.in-List-List.is-0, c.in-List-List.is-1) at c.requires.passes)

pub returns-in-List-List : goal.returns-in-List-List
returns-in-List-List g c =
    let said = c.close-history-in-List-List.ensures in
    let means = g.met.K.Kinds.list_means in
    let legal = means.legal c.in-List-List.cell.form c.close-history-in-List-List.result.history said.legal in
    let tests = told_means _ _ means
    c.in-List-List.cell.form c.close-history-in-List-List.result.history c.in-List-List.passes.items said.tests in
    let links = asked_means _ _ means c.in-List-List.cell.form
    c.close-history-in-List-List.result.history g.L.Link.calls g.L.Link.downs g.L.Link.faults _ _ said.links in
    let are = are_shown OfList AnyAsk.List AnyReply.List c.in-List-List.cell c.in-List-List.passes.items
    queued_lists c.close-history-in-List-List.result.history said.callers said.mine tests said.known in
    rw (c.in-List-List.is-0, c.in-List-List.is-1) (assumption (are, legal, links, said))

pub close-history-requires-in-Lock-Lock-clause-passes : goal.close-history-requires-in-Lock-Lock-clause-passes
close-history-requires-in-Lock-Lock-clause-passes g c κs within =
    shown_tables OfLock AnyAsk.Lock AnyReply.Lock c.in-Lock-Lock.cell
    c.in-Lock-Lock.passes.items (rw (c.in-Lock-Lock.is-0, c.in-Lock-Lock.is-1) at c.requires.passes)

pub returns-in-Lock-Lock : goal.returns-in-Lock-Lock
returns-in-Lock-Lock g c =
    let said = c.close-history-in-Lock-Lock.ensures in
    let means = g.met.K.Kinds.lock_means in
    let legal = means.legal c.in-Lock-Lock.cell.form c.close-history-in-Lock-Lock.result.history said.legal in
    let tests = told_means _ _ means
    c.in-Lock-Lock.cell.form c.close-history-in-Lock-Lock.result.history c.in-Lock-Lock.passes.items said.tests in
    let links = asked_means _ _ means c.in-Lock-Lock.cell.form
    c.close-history-in-Lock-Lock.result.history g.L.Link.calls g.L.Link.downs g.L.Link.faults _ _ said.links in
    let are = are_shown OfLock AnyAsk.Lock AnyReply.Lock c.in-Lock-Lock.cell c.in-Lock-Lock.passes.items
    lock_meaning c.close-history-in-Lock-Lock.result.history said.callers said.mine tests said.known in
    rw (c.in-Lock-Lock.is-0, c.in-Lock-Lock.is-1) (assumption (are, legal, links, said))
