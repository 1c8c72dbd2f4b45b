use Rattle.plex_locks.proofs.Imports.{◌≡◌, ◌++◌, drop, length, IsReady, IsStill, asked_by, asked_in}
use Rattle.plex_locks.proofs.worker.Worker.work.Given as goal

-- with the tasks that are left it is asked for all
abbrev pub invariant-loop-place : goal.invariant-loop-place
invariant-loop-place g l = record {
  ready : IsReady l.locks l.self;
  still : IsStill l.fn.self l.self;
  asked : asked_by l.self.done ++ asked_in (drop l.place l.self.tasks) ≡ asked_in l.self.tasks;
  count : length l.self.done ≡ l.place;
}
