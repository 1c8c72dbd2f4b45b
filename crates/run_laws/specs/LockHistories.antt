-- The history of a lock structure, and what it leads to.
use Rattle.std.specs.Prelude.{List}
use Rattle.cf_types.specs.declared.forms.StrForm.{StrForm}
use Rattle.cf_types.specs.declared.lock_commands.LockCmd.{LockCmd}
use Rattle.cf_types.specs.declared.lock_commands.LockReply.{LockReply}
use Rattle.engine_api.specs.declared.histories.Entry.{Entry}
use Rattle.engine_api.specs.History.{replay}
use Rattle.lock_model.specs.Contents.{Content}
use Rattle.lock_model.specs.Meaning.{lock_meaning}

abbrev pub LockHistory : Type 0
LockHistory = List (Entry LockCmd LockReply)

-- the interests and the waiters after a history
abbrev pub content_after : StrForm → LockHistory → Content
content_after form history = (replay lock_meaning form history).content
