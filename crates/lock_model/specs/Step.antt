-- The commands of a lock structure: the first refusal that holds, and what a command does where
-- none holds.
use Rattle.std.specs.Prelude.{List, Option}
use Rattle.cf_types.specs.declared.forms.Caps.{Caps}
use Rattle.cf_types.specs.declared.numbers.ConnId.{ConnId}
use Rattle.cf_types.specs.declared.refusals.Refusal.{Refusal}
use Rattle.cf_types.specs.declared.lock_commands.LockCmd.{LockCmd}
use Rattle.cf_types.specs.declared.lock_commands.LockCmd.TheVariants.{Obtain, Alter, Release, Decide, RtRead, RtDelete}
use Rattle.cf_types.specs.declared.lock_commands.LockReply.{LockReply}
use Rattle.cf_types.specs.declared.lock_commands.LockReply.TheVariants as replies
use Rattle.engine_api.specs.Meaning.{Outcome, first_refusal}
use Rattle.lock_model.specs.Contents.{Content}
use Rattle.lock_model.specs.Grants.{Settlement, settlement_of}
use Rattle.lock_model.specs.Commands.Obtain as obtain
use Rattle.lock_model.specs.Commands.Alter as alter
use Rattle.lock_model.specs.Commands.Release as release
use Rattle.lock_model.specs.Commands.Decide as decide
use Rattle.lock_model.specs.Commands.RtRead as rt_read
use Rattle.lock_model.specs.Commands.RtDelete as rt_delete

-- the refusals that are tried, in their order
abbrev pub causes : Caps → Content → ConnId → LockCmd → List (Option Refusal)
causes caps content by (Obtain r excl rec) =
    obtain.causes caps (obtain.request by r excl rec) content
causes caps content by (Alter r excl rec) = alter.causes caps (alter.request by r excl rec) content
causes caps content by (Release r) = release.causes by r content
causes caps content by (Decide r conn how) = decide.causes by r conn content
causes caps content by (RtRead conn) = rt_read.causes conn content.interests
causes caps content by (RtDelete conn r) = rt_delete.causes r conn content.interests

-- the first that holds
abbrev pub cause : Caps → Content → ConnId → LockCmd → Option Refusal
cause caps content by cmd = first_refusal (causes caps content by cmd)

abbrev pub reply : Content → ConnId → LockCmd → LockReply
reply content by (Obtain r excl rec) = obtain.reply (obtain.request by r excl rec) content
reply content by (Alter r excl rec) = alter.reply (alter.request by r excl rec) content
reply content by (Release r) = replies.Ok
reply content by (Decide r conn how) = replies.Ok
reply content by (RtRead conn) = rt_read.reply conn content.interests
reply content by (RtDelete conn r) = replies.Ok

-- the content that a command leaves, and its letters
abbrev pub after : Content → ConnId → LockCmd → Settlement
after content by (Obtain r excl rec) = obtain.after (obtain.request by r excl rec) content
after content by (Alter r excl rec) = alter.after (alter.request by r excl rec) content
after content by (Release r) = release.after by r content
after content by (Decide r conn how) = decide.after how r conn content
after content by (RtRead conn) = settlement_of content
after content by (RtDelete conn r) = rt_delete.after r conn content

-- what a command does where no refusal holds
abbrev pub done : Content → ConnId → LockCmd → Outcome LockReply Content
done content by cmd =
    let left = after content by cmd in
    record { reply = reply content by cmd; state = left.content; letters = left.letters }
