-- What is got ready for a command: whether it is refused, and the record data that it reads.
use Rattle.std.specs.Prelude.{ℕ, Bool, List, [], filter}
use Rattle.std.specs.List.{filter_map}
use Rattle.cf_types.specs.declared.forms.Caps.{Caps}
use Rattle.cf_types.specs.declared.numbers.ConnId.{ConnId}
use Rattle.cf_types.specs.declared.resources.Resource.{Resource}
use Rattle.cf_types.specs.declared.lock_commands.LockCmd.{LockCmd}
use Rattle.cf_types.specs.declared.lock_commands.LockCmd.TheVariants.{Obtain, Alter, Release, Decide, RtRead, RtDelete}
use Rattle.lock_model.specs.Interests.{Interest, is_by}
use Rattle.lock_model.specs.Contents.{Content}
use Rattle.lock_model.specs.Commands.RtRead as rt_read
use Rattle.lock_model.specs.Step.{cause}
use Rattle.lock_core.specs.declared.plans.Plan.{Plan}

-- the record data that a command reads
abbrev pub read_by : LockCmd → List Interest → List (Resource × Bool × List ℕ)
read_by (Obtain r excl rec) interests = []
read_by (Alter r excl rec) interests = []
read_by (Release r) interests = []
read_by (Decide r conn how) interests = []
read_by (RtRead conn) interests = filter_map rt_read.record_in (filter (is_by conn) interests)
read_by (RtDelete conn r) interests = []

abbrev pub plan_for : Caps → Content → ConnId → LockCmd → Plan
plan_for caps content by cmd =
    record { refusal = cause caps content by cmd; records = read_by cmd content.interests }
