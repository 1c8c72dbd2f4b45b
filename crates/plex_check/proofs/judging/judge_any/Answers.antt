use Rattle.plex_check.proofs.KindLaws.{cache_asks, cache_told, list_asks, list_told, lock_asks, lock_told}
use Rattle.plex_check.proofs.judging.judge_any.Goals as goal

pub judge_cache-requires-clause-askable : goal.judge_cache-requires-clause-askable
judge_cache-requires-clause-askable c = cache_asks c.args.entries.now c.in-Cache.history c.entries.result.now c.in-Cache.is
    c.entries.ensures c.requires.askable

pub returns-in-Cache-clause-told : goal.returns-in-Cache-clause-told
returns-in-Cache-clause-told c = cache_told c.args.entries.now c.in-Cache.history c.entries.result.now c.in-Cache.is c.entries.ensures
    c.args.form.now c.judge_cache.result c.judge_cache.new.queues c.judge_cache.ensures.told

pub judge_list-requires-clause-askable : goal.judge_list-requires-clause-askable
judge_list-requires-clause-askable c = list_asks c.args.entries.now c.in-List.history c.entries-in-List.result.now c.in-List.is
    c.entries-in-List.ensures c.requires.askable

pub returns-in-List-clause-told : goal.returns-in-List-clause-told
returns-in-List-clause-told c = list_told c.args.entries.now c.in-List.history c.entries-in-List.result.now c.in-List.is c.entries-in-List.ensures
    c.args.form.now c.judge_list.result c.judge_list.new.queues c.judge_list.ensures.told

pub judge_lock-requires-clause-askable : goal.judge_lock-requires-clause-askable
judge_lock-requires-clause-askable c = lock_asks c.args.entries.now c.in-Lock.history c.entries-in-Lock.result.now c.in-Lock.is
    c.entries-in-Lock.ensures c.requires.askable

pub returns-in-Lock-clause-told : goal.returns-in-Lock-clause-told
returns-in-Lock-clause-told c = lock_told c.args.entries.now c.in-Lock.history c.entries-in-Lock.result.now c.in-Lock.is c.entries-in-Lock.ensures
    c.args.form.now c.judge_lock.result c.judge_lock.new.queues c.judge_lock.ensures.told
