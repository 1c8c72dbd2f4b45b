-- The lines that lock words can do.
use Rattle.std.specs.Prelude.{◌==◌, ℕ, Bool, not, if◌then◌else◌, List, Option, None, Some, option_map, find, is_some}
use Rattle.std.specs.List.{filter_map}
use Rattle.plex_script.specs.CfTypes.declared.numbers.ConnId.{ConnId}
use Rattle.plex_script.specs.CfTypes.declared.adjuncts.Adjunct.{Adjunct}
use Rattle.plex_script.specs.CfTypes.declared.resources.Resource.{Resource}
use Rattle.plex_script.specs.CfTypes.declared.lock_commands.LockCmd.{LockCmd}
use Rattle.plex_script.specs.CfTypes.declared.lock_commands.LockCmd.TheVariants as lock
use Rattle.plex_script.specs.EngineApi.declared.asks.Ask.TheVariants as ask
use Rattle.plex_script.specs.declared.scripts.AnyAsk.{AnyAsk}
use Rattle.plex_script.specs.declared.scripts.AnyAsk.TheVariants as any
use Rattle.plex_script.specs.declared.scripts.Act.{Act}
use Rattle.plex_script.specs.declared.scripts.Act.TheVariants as act
use Rattle.plex_script.specs.declared.scripts.Line.{Line}
use Rattle.plex_locks.specs.declared.requests.Request.{Request}
use Rattle.plex_locks.specs.declared.requests.Request.TheVariants.{Obtain, Release}
use Rattle.plex_locks.specs.declared.requests.Task.{Task}

-- record data isn't kept in words
abbrev pub obtain_without : Resource → Bool → Option Adjunct → Option Request
obtain_without r excl None = Some (Obtain r excl)
obtain_without r excl (Some rec) = None

-- what a command asks of a lock word
abbrev pub request_in : LockCmd → Option Request
request_in (lock.Obtain r excl rec) = obtain_without r excl rec
request_in (lock.Alter r excl rec) = None
request_in (lock.Release r) = Some (Release r)
request_in (lock.Decide r conn how) = None
request_in (lock.RtRead conn) = None
request_in (lock.RtDelete conn r) = None

abbrev pub request_of_ask : AnyAsk → Option Request
request_of_ask (any.Cache asked) = None
request_of_ask (any.List asked) = None
request_of_ask (any.Lock (ask.Shell cmd)) = None
request_of_ask (any.Lock (ask.Content cmd)) = request_in cmd

abbrev pub request_of_act : Act → Option Request
request_of_act (act.Call asked) = request_of_ask asked
request_of_act (act.Test index) = None
request_of_act (act.TestWord word) = None
request_of_act act.Post = None
request_of_act act.Take = None
request_of_act act.Events = None

-- what a line asks of a lock word, where it asks nothing else, and isn't to be asked again
abbrev pub request_of : Line → Option Request
request_of line = if line.retry == 0 then request_of_act line.act else None

-- what a line asks, where it is this caller's
abbrev pub task_by : ConnId → Line → Option Task
task_by by line =
    if not (line.by.0 == by.0) then None
    else option_map (λ (request : Request). (let task : Task = record { line = line.at; request = request } in task))
    (request_of line)

-- what a caller's lines ask, one after another
abbrev pub tasks_by : ConnId → List Line → List Task
tasks_by by lines = filter_map (task_by by) lines

-- the number of the first line of callers that asks something else
abbrev pub is_other : Line → Bool
is_other line = not (is_some (request_of line))

abbrev pub other_line : List Line → Option ℕ
other_line lines = option_map (λ (line : Line). line.at) (find is_other lines)
