-- The words of refusals.
use Rattle.std.specs.Prelude.{ℕ, List, [], ◌∷◌, Option, None, Some, codes}
use Rattle.std.specs.Fmt.{decimal}
use Rattle.plex_script.specs.CfTypes.declared.numbers.ConnId.{ConnId}
use Rattle.plex_script.specs.CfTypes.declared.events.Stage.{Stage}
use Rattle.plex_script.specs.CfTypes.declared.events.Stage.TheVariants as stage
use Rattle.plex_script.specs.CfTypes.declared.refusals.StateWord.{StateWord}
use Rattle.plex_script.specs.CfTypes.declared.refusals.StateWord.TheVariants.{Active, Leaving, Gone}
use Rattle.plex_script.specs.CfTypes.declared.refusals.Refusal.{Refusal}
use Rattle.plex_script.specs.CfTypes.declared.refusals.Refusal.TheVariants.{NotRegistered, IndexInUse, BadIndex, IsChanged, NotChanged, CastoutHeld, NotHeld, NoEntry, DirectoryFull, NoElements, BadClass, BeyondUnits, NoAlter, NoRecordThere, NameTaken, BadHeader, ListFull, EntriesFull, NoListElements, LockHeld, LockNotHeldBy, WrongReference, HeaderInUse, BadLock, VersionDiffers, NoQueued, AlreadyInterested, NotInterested, RecordsFull, NotManager, NoWaiter, NoRecord, StillPending, NotConnected, NameActive, TooManyConns, NotFailed, HasConnections, NoSpace, NothingOwed, RebuildInProgress, NoRebuild, WrongStage, ItemsLeft, TooSmall, Quiesced, LostConn, LostFacility, StructureFailed, NoFacility, AlreadyDuplexed, NoEvent, NotAllocated}
use Rattle.plex_script.specs.PlexSpell.Tokens.{name_word}
use Rattle.plex_script.specs.declared.scripts.Script.{Script}
use Rattle.plex_script.specs.PlexPlain.Naming.{facility_word, record_word}
use Rattle.plex_script.specs.PlexPlain.PlainWords.{refs_word, state_word}
use Rattle.plex_report.specs.Naming.{caller_word}

abbrev pub connection_word : StateWord → List ℕ
connection_word Active = codes "ACTIVE"
connection_word Leaving = codes "LEAVING"
connection_word Gone = codes "GONE"

abbrev pub stage_word : Stage → List ℕ
stage_word stage.Quiesce = codes "QUIESCE"
stage_word stage.Connect = codes "CONNECT"
stage_word stage.Copy = codes "COPY"
stage_word stage.Cleanup = codes "CLEANUP"
stage_word stage.Stopping = codes "STOPPING"

-- who holds something, if anyone does
abbrev pub holder_word : Script → Option ConnId → List ℕ
holder_word script None = codes "NONE"
holder_word script (Some conn) = caller_word script conn

-- the number of a refusal
abbrev pub refusal_number : Refusal → ℕ
refusal_number NotRegistered = 1
refusal_number (IndexInUse name) = 2
refusal_number (BadIndex index len) = 3
refusal_number IsChanged = 4
refusal_number NotChanged = 5
refusal_number (CastoutHeld by) = 6
refusal_number NotHeld = 7
refusal_number NoEntry = 8
refusal_number (DirectoryFull entries) = 9
refusal_number (NoElements need free) = 10
refusal_number (BadClass class) = 11
refusal_number (BeyondUnits asked units) = 12
refusal_number NoAlter = 13
refusal_number NoRecordThere = 20
refusal_number (NameTaken id) = 21
refusal_number (BadHeader header headers) = 22
refusal_number (ListFull limit) = 23
refusal_number (EntriesFull entries) = 24
refusal_number (NoListElements need free) = 25
refusal_number (LockHeld by) = 26
refusal_number (LockNotHeldBy holder) = 27
refusal_number (WrongReference refs) = 28
refusal_number (HeaderInUse header) = 29
refusal_number (BadLock lock locks) = 30
refusal_number (VersionDiffers found) = 31
refusal_number NoQueued = 32
refusal_number (AlreadyInterested excl) = 40
refusal_number NotInterested = 41
refusal_number (RecordsFull limit) = 42
refusal_number (NotManager manager) = 43
refusal_number NoWaiter = 44
refusal_number NoRecord = 45
refusal_number StillPending = 46
refusal_number NotConnected = 60
refusal_number (NameActive state) = 61
refusal_number (TooManyConns limit) = 62
refusal_number (NotFailed state) = 63
refusal_number (HasConnections n) = 64
refusal_number (NoSpace asked free) = 65
refusal_number NothingOwed = 66
refusal_number (RebuildInProgress number) = 67
refusal_number NoRebuild = 68
refusal_number (WrongStage stage) = 69
refusal_number (ItemsLeft left) = 70
refusal_number (TooSmall need have) = 71
refusal_number (Quiesced number) = 72
refusal_number (LostConn cf) = 73
refusal_number (LostFacility cf) = 74
refusal_number StructureFailed = 75
refusal_number NoFacility = 76
refusal_number AlreadyDuplexed = 77
refusal_number NoEvent = 78
refusal_number NotAllocated = 79

abbrev pub refusal_word : Refusal → List ℕ
refusal_word NotRegistered = codes "NOTREGISTERED"
refusal_word (IndexInUse name) = codes "INDEXINUSE"
refusal_word (BadIndex index len) = codes "BADINDEX"
refusal_word IsChanged = codes "ISCHANGED"
refusal_word NotChanged = codes "NOTCHANGED"
refusal_word (CastoutHeld by) = codes "CASTOUTHELD"
refusal_word NotHeld = codes "NOTHELD"
refusal_word NoEntry = codes "NOENTRY"
refusal_word (DirectoryFull entries) = codes "DIRECTORYFULL"
refusal_word (NoElements need free) = codes "NOELEMENTS"
refusal_word (BadClass class) = codes "BADCLASS"
refusal_word (BeyondUnits asked units) = codes "BEYONDUNITS"
refusal_word NoAlter = codes "NOALTER"
refusal_word NoRecordThere = codes "NOENTRY"
refusal_word (NameTaken id) = codes "NAMETAKEN"
refusal_word (BadHeader header headers) = codes "BADHEADER"
refusal_word (ListFull limit) = codes "LISTFULL"
refusal_word (EntriesFull entries) = codes "ENTRIESFULL"
refusal_word (NoListElements need free) = codes "NOELEMENTS"
refusal_word (LockHeld by) = codes "LOCKHELD"
refusal_word (LockNotHeldBy holder) = codes "LOCKNOTHELDBY"
refusal_word (WrongReference refs) = codes "WRONGREFERENCE"
refusal_word (HeaderInUse header) = codes "INDEXINUSE"
refusal_word (BadLock lock locks) = codes "BADLOCK"
refusal_word (VersionDiffers found) = codes "VERSIONDIFFERS"
refusal_word NoQueued = codes "NOQUEUED"
refusal_word (AlreadyInterested excl) = codes "ALREADYINTERESTED"
refusal_word NotInterested = codes "NOTINTERESTED"
refusal_word (RecordsFull limit) = codes "RECORDSFULL"
refusal_word (NotManager manager) = codes "NOTMANAGER"
refusal_word NoWaiter = codes "NOWAITER"
refusal_word NoRecord = codes "NORECORD"
refusal_word StillPending = codes "STILLPENDING"
refusal_word NotConnected = codes "NOTCONNECTED"
refusal_word (NameActive state) = codes "NAMEACTIVE"
refusal_word (TooManyConns limit) = codes "TOOMANYCONNS"
refusal_word (NotFailed state) = codes "NOTFAILED"
refusal_word (HasConnections n) = codes "HASCONNECTIONS"
refusal_word (NoSpace asked free) = codes "NOSPACE"
refusal_word NothingOwed = codes "NOTHINGOWED"
refusal_word (RebuildInProgress number) = codes "REBUILDINPROGRESS"
refusal_word NoRebuild = codes "NOREBUILD"
refusal_word (WrongStage stage) = codes "WRONGSTAGE"
refusal_word (ItemsLeft left) = codes "ITEMSLEFT"
refusal_word (TooSmall need have) = codes "TOOSMALL"
refusal_word (Quiesced number) = codes "QUIESCED"
refusal_word (LostConn cf) = codes "LOSTCONN"
refusal_word (LostFacility cf) = codes "LOSTFACILITY"
refusal_word StructureFailed = codes "STRUCTUREFAILED"
refusal_word NoFacility = codes "NOFACILITY"
refusal_word AlreadyDuplexed = codes "ALREADYDUPLEXED"
refusal_word NoEvent = codes "NOEVENT"
refusal_word NotAllocated = codes "NOTALLOCATED"

abbrev pub refusal_fields : Script → Refusal → List (List ℕ)
refusal_fields script NotRegistered = []
refusal_fields script (IndexInUse name) = name_word name ∷ []
refusal_fields script (BadIndex index len) = decimal index ∷ decimal len ∷ []
refusal_fields script IsChanged = []
refusal_fields script NotChanged = []
refusal_fields script (CastoutHeld by) = caller_word script by ∷ []
refusal_fields script NotHeld = []
refusal_fields script NoEntry = []
refusal_fields script (DirectoryFull entries) = decimal entries ∷ []
refusal_fields script (NoElements need free) = decimal need ∷ decimal free ∷ []
refusal_fields script (BadClass class) = decimal class ∷ []
refusal_fields script (BeyondUnits asked units) = decimal asked ∷ decimal units ∷ []
refusal_fields script NoAlter = []
refusal_fields script NoRecordThere = []
refusal_fields script (NameTaken id) = record_word id ∷ []
refusal_fields script (BadHeader header headers) = decimal header ∷ decimal headers ∷ []
refusal_fields script (ListFull limit) = decimal limit ∷ []
refusal_fields script (EntriesFull entries) = decimal entries ∷ []
refusal_fields script (NoListElements need free) = decimal need ∷ decimal free ∷ []
refusal_fields script (LockHeld by) = caller_word script by ∷ []
refusal_fields script (LockNotHeldBy holder) = holder_word script holder ∷ []
refusal_fields script (WrongReference refs) = refs_word refs ∷ []
refusal_fields script (HeaderInUse header) = decimal header ∷ []
refusal_fields script (BadLock lock locks) = decimal lock ∷ decimal locks ∷ []
refusal_fields script (VersionDiffers found) = decimal found ∷ []
refusal_fields script NoQueued = []
refusal_fields script (AlreadyInterested excl) = state_word excl ∷ []
refusal_fields script NotInterested = []
refusal_fields script (RecordsFull limit) = decimal limit ∷ []
refusal_fields script (NotManager manager) = holder_word script manager ∷ []
refusal_fields script NoWaiter = []
refusal_fields script NoRecord = []
refusal_fields script StillPending = []
refusal_fields script NotConnected = []
refusal_fields script (NameActive state) = connection_word state ∷ []
refusal_fields script (TooManyConns limit) = decimal limit ∷ []
refusal_fields script (NotFailed state) = connection_word state ∷ []
refusal_fields script (HasConnections n) = decimal n ∷ []
refusal_fields script (NoSpace asked free) = decimal asked ∷ decimal free ∷ []
refusal_fields script NothingOwed = []
refusal_fields script (RebuildInProgress number) = decimal number ∷ []
refusal_fields script NoRebuild = []
refusal_fields script (WrongStage stage) = stage_word stage ∷ []
refusal_fields script (ItemsLeft left) = decimal left ∷ []
refusal_fields script (TooSmall need have) = decimal need ∷ decimal have ∷ []
refusal_fields script (Quiesced number) = decimal number ∷ []
refusal_fields script (LostConn cf) = facility_word cf ∷ []
refusal_fields script (LostFacility cf) = facility_word cf ∷ []
refusal_fields script StructureFailed = []
refusal_fields script NoFacility = []
refusal_fields script AlreadyDuplexed = []
refusal_fields script NoEvent = []
refusal_fields script NotAllocated = []

-- a refusal: its number, its word and its fields
abbrev pub refusal_words : Script → Refusal → List (List ℕ)
refusal_words script refusal = decimal (refusal_number refusal) ∷ refusal_word refusal ∷ refusal_fields script refusal
