use Rattle.plex_locks.proofs.Imports.{◌≡◌, ◌++◌, drop, filter_map, task_by}
use Rattle.plex_locks.proofs.requests.tasks_by.Given as goal

-- with those of the lines that are left they are all
abbrev pub invariant-loop-line : goal.invariant-loop-line
invariant-loop-line l =
    l.tasks.items ++ filter_map (task_by l.by) (drop l.line-index l.lines) ≡ filter_map (task_by l.by) l.lines
