-- Refusals: number, word and fields.
use Rattle.std.specs.Prelude.{ℕ, ◌≤◌, List, [], ◌∷◌, ◌++◌, length, Option, codes}
use Rattle.std.specs.Fmt.{decimal}
use Rattle.cf_types.specs.declared.names.Name16.{Name16}
use Rattle.cf_types.specs.declared.events.Stage.{Stage}
use Rattle.cf_types.specs.declared.events.Stage.TheVariants as stage
use Rattle.cf_types.specs.declared.forms.Refs.{Refs}
use Rattle.cf_types.specs.declared.forms.Refs.TheVariants as refs
use Rattle.cf_types.specs.declared.refusals.StateWord.{StateWord}
use Rattle.cf_types.specs.declared.refusals.StateWord.TheVariants.{Active, Leaving, Gone}
use Rattle.cf_types.specs.declared.refusals.Refusal.{Refusal}
use Rattle.cf_types.specs.declared.refusals.Refusal.TheVariants.{NotRegistered, IndexInUse, BadIndex, IsChanged, NotChanged, CastoutHeld, NotHeld, NoEntry, DirectoryFull, NoElements, BadClass, BeyondUnits, NoAlter, NoRecordThere, NameTaken, BadHeader, ListFull, EntriesFull, NoListElements, LockHeld, LockNotHeldBy, WrongReference, HeaderInUse, BadLock, VersionDiffers, NoQueued, AlreadyInterested, NotInterested, RecordsFull, NotManager, NoWaiter, NoRecord, StillPending, NotConnected, NameActive, TooManyConns, NotFailed, HasConnections, NoSpace, NothingOwed, RebuildInProgress, NoRebuild, WrongStage, ItemsLeft, TooSmall, Quiesced, LostConn, LostFacility, StructureFailed, NoFacility, AlreadyDuplexed, NoEvent, NotAllocated}
use Rattle.cf_types.specs.Forms.{IsFacility}
use Rattle.plex_spell.specs.Places.{◌>>=◌, on_first}
use Rattle.plex_plain.specs.Ranges.{IsOneOf}
use Rattle.plex_plain.specs.PlainWords.{refs_word}
use Rattle.plex_report.specs.RefusalWords.{connection_word, stage_word, refusal_number}
use Rattle.line_rows.specs.Rows.{Single, Row, form, numbered, first_of, IfGiven}
use Rattle.line_rows.specs.Singles.{number, a_name, IsAName, a_facility, a_connector, spelled}
use Rattle.reply_rows.specs.Parts.{small, an_id, a_state, a_holder, plain, with_one, with_two}
use Rattle.reply_rows.specs.Within.{IsSmall, IsAnId}

abbrev pub byte : Single ℕ
byte = number 255

abbrev pub a_reference : Single Refs
a_reference = spelled refs_word (refs.Names ∷ refs.Keys ∷ refs.Nothing ∷ [])

abbrev pub connection : Single StateWord
connection = spelled connection_word (Active ∷ Leaving ∷ Gone ∷ [])

abbrev pub a_stage : Single Stage
a_stage = spelled stage_word (stage.Quiesce ∷ stage.Connect ∷ stage.Copy ∷ stage.Cleanup ∷ stage.Stopping ∷ [])

-- behind the number
abbrev pub named_words : List Name16 → Refusal → List (List ℕ)
named_words connectors NotRegistered = (plain (codes "NOTREGISTERED")).words tt
named_words connectors (IndexInUse name) = (with_one (codes "INDEXINUSE") a_name).words (name, tt)
named_words connectors (BadIndex index len) = (with_two (codes "BADINDEX") small small).words (index, (len, tt))
named_words connectors IsChanged = (plain (codes "ISCHANGED")).words tt
named_words connectors NotChanged = (plain (codes "NOTCHANGED")).words tt
named_words connectors (CastoutHeld by) = (with_one (codes "CASTOUTHELD") (a_connector connectors)).words (by, tt)
named_words connectors NotHeld = (plain (codes "NOTHELD")).words tt
named_words connectors NoEntry = (plain (codes "NOENTRY")).words tt
named_words connectors (DirectoryFull entries) = (with_one (codes "DIRECTORYFULL") small).words (entries, tt)
named_words connectors (NoElements need free) = (with_two (codes "NOELEMENTS") small small).words (need, (free, tt))
named_words connectors (BadClass class) = (with_one (codes "BADCLASS") small).words (class, tt)
named_words connectors (BeyondUnits asked units) = (with_two (codes "BEYONDUNITS") small small).words (asked, (units, tt))
named_words connectors NoAlter = (plain (codes "NOALTER")).words tt
named_words connectors NoRecordThere = (plain (codes "NOENTRY")).words tt
named_words connectors (NameTaken id) = (with_one (codes "NAMETAKEN") an_id).words (id, tt)
named_words connectors (BadHeader header headers) = (with_two (codes "BADHEADER") small small).words (header, (headers, tt))
named_words connectors (ListFull limit) = (with_one (codes "LISTFULL") small).words (limit, tt)
named_words connectors (EntriesFull entries) = (with_one (codes "ENTRIESFULL") small).words (entries, tt)
named_words connectors (NoListElements need free) = (with_two (codes "NOELEMENTS") small small).words (need, (free, tt))
named_words connectors (LockHeld by) = (with_one (codes "LOCKHELD") (a_connector connectors)).words (by, tt)
named_words connectors (LockNotHeldBy holder) = (with_one (codes "LOCKNOTHELDBY") (a_holder connectors)).words (holder, tt)
named_words connectors (WrongReference refs) = (with_one (codes "WRONGREFERENCE") a_reference).words (refs, tt)
named_words connectors (HeaderInUse header) = (with_one (codes "INDEXINUSE") small).words (header, tt)
named_words connectors (BadLock lock locks) = (with_two (codes "BADLOCK") small small).words (lock, (locks, tt))
named_words connectors (VersionDiffers found) = (with_one (codes "VERSIONDIFFERS") small).words (found, tt)
named_words connectors NoQueued = (plain (codes "NOQUEUED")).words tt
named_words connectors (AlreadyInterested excl) = (with_one (codes "ALREADYINTERESTED") a_state).words (excl, tt)
named_words connectors NotInterested = (plain (codes "NOTINTERESTED")).words tt
named_words connectors (RecordsFull limit) = (with_one (codes "RECORDSFULL") small).words (limit, tt)
named_words connectors (NotManager manager) = (with_one (codes "NOTMANAGER") (a_holder connectors)).words (manager, tt)
named_words connectors NoWaiter = (plain (codes "NOWAITER")).words tt
named_words connectors NoRecord = (plain (codes "NORECORD")).words tt
named_words connectors StillPending = (plain (codes "STILLPENDING")).words tt
named_words connectors NotConnected = (plain (codes "NOTCONNECTED")).words tt
named_words connectors (NameActive state) = (with_one (codes "NAMEACTIVE") connection).words (state, tt)
named_words connectors (TooManyConns limit) = (with_one (codes "TOOMANYCONNS") byte).words (limit, tt)
named_words connectors (NotFailed state) = (with_one (codes "NOTFAILED") connection).words (state, tt)
named_words connectors (HasConnections n) = (with_one (codes "HASCONNECTIONS") small).words (n, tt)
named_words connectors (NoSpace asked free) = (with_two (codes "NOSPACE") small small).words (asked, (free, tt))
named_words connectors NothingOwed = (plain (codes "NOTHINGOWED")).words tt
named_words connectors (RebuildInProgress number) = (with_one (codes "REBUILDINPROGRESS") small).words (number, tt)
named_words connectors NoRebuild = (plain (codes "NOREBUILD")).words tt
named_words connectors (WrongStage stage) = (with_one (codes "WRONGSTAGE") a_stage).words (stage, tt)
named_words connectors (ItemsLeft left) = (with_one (codes "ITEMSLEFT") small).words (left, tt)
named_words connectors (TooSmall need have) = (with_two (codes "TOOSMALL") small small).words (need, (have, tt))
named_words connectors (Quiesced number) = (with_one (codes "QUIESCED") small).words (number, tt)
named_words connectors (LostConn cf) = (with_one (codes "LOSTCONN") a_facility).words (cf, tt)
named_words connectors (LostFacility cf) = (with_one (codes "LOSTFACILITY") a_facility).words (cf, tt)
named_words connectors StructureFailed = (plain (codes "STRUCTUREFAILED")).words tt
named_words connectors NoFacility = (plain (codes "NOFACILITY")).words tt
named_words connectors AlreadyDuplexed = (plain (codes "ALREADYDUPLEXED")).words tt
named_words connectors NoEvent = (plain (codes "NOEVENT")).words tt
named_words connectors NotAllocated = (plain (codes "NOTALLOCATED")).words tt

abbrev pub cache_refusals : List Name16 → ℕ → List (List (List ℕ) → Option Refusal)
cache_refusals connectors n =
    numbered 1 (form (plain (codes "NOTREGISTERED")) (λ v. NotRegistered)) n
    ∷ numbered 2 (form (with_one (codes "INDEXINUSE") a_name) (λ v. IndexInUse v.0)) n
    ∷ numbered 3 (form (with_two (codes "BADINDEX") small small) (λ v. BadIndex v.0 v.1.0)) n
    ∷ numbered 4 (form (plain (codes "ISCHANGED")) (λ v. IsChanged)) n
    ∷ numbered 5 (form (plain (codes "NOTCHANGED")) (λ v. NotChanged)) n
    ∷ numbered 6 (form (with_one (codes "CASTOUTHELD") (a_connector connectors)) (λ v. CastoutHeld v.0)) n
    ∷ numbered 7 (form (plain (codes "NOTHELD")) (λ v. NotHeld)) n
    ∷ numbered 8 (form (plain (codes "NOENTRY")) (λ v. NoEntry)) n
    ∷ numbered 9 (form (with_one (codes "DIRECTORYFULL") small) (λ v. DirectoryFull v.0)) n
    ∷ numbered 10 (form (with_two (codes "NOELEMENTS") small small) (λ v. NoElements v.0 v.1.0)) n
    ∷ numbered 11 (form (with_one (codes "BADCLASS") small) (λ v. BadClass v.0)) n
    ∷ numbered 12 (form (with_two (codes "BEYONDUNITS") small small) (λ v. BeyondUnits v.0 v.1.0)) n
    ∷ numbered 13 (form (plain (codes "NOALTER")) (λ v. NoAlter)) n
    ∷ []

abbrev pub list_refusals : List Name16 → ℕ → List (List (List ℕ) → Option Refusal)
list_refusals connectors n =
    numbered 20 (form (plain (codes "NOENTRY")) (λ v. NoRecordThere)) n
    ∷ numbered 21 (form (with_one (codes "NAMETAKEN") an_id) (λ v. NameTaken v.0)) n
    ∷ numbered 22 (form (with_two (codes "BADHEADER") small small) (λ v. BadHeader v.0 v.1.0)) n
    ∷ numbered 23 (form (with_one (codes "LISTFULL") small) (λ v. ListFull v.0)) n
    ∷ numbered 24 (form (with_one (codes "ENTRIESFULL") small) (λ v. EntriesFull v.0)) n
    ∷ numbered 25 (form (with_two (codes "NOELEMENTS") small small) (λ v. NoListElements v.0 v.1.0)) n
    ∷ numbered 26 (form (with_one (codes "LOCKHELD") (a_connector connectors)) (λ v. LockHeld v.0)) n
    ∷ numbered 27 (form (with_one (codes "LOCKNOTHELDBY") (a_holder connectors)) (λ v. LockNotHeldBy v.0)) n
    ∷ numbered 28 (form (with_one (codes "WRONGREFERENCE") a_reference) (λ v. WrongReference v.0)) n
    ∷ numbered 29 (form (with_one (codes "INDEXINUSE") small) (λ v. HeaderInUse v.0)) n
    ∷ numbered 30 (form (with_two (codes "BADLOCK") small small) (λ v. BadLock v.0 v.1.0)) n
    ∷ numbered 31 (form (with_one (codes "VERSIONDIFFERS") small) (λ v. VersionDiffers v.0)) n
    ∷ numbered 32 (form (plain (codes "NOQUEUED")) (λ v. NoQueued)) n
    ∷ []

abbrev pub lock_refusals : List Name16 → ℕ → List (List (List ℕ) → Option Refusal)
lock_refusals connectors n =
    numbered 40 (form (with_one (codes "ALREADYINTERESTED") a_state) (λ v. AlreadyInterested v.0)) n
    ∷ numbered 41 (form (plain (codes "NOTINTERESTED")) (λ v. NotInterested)) n
    ∷ numbered 42 (form (with_one (codes "RECORDSFULL") small) (λ v. RecordsFull v.0)) n
    ∷ numbered 43 (form (with_one (codes "NOTMANAGER") (a_holder connectors)) (λ v. NotManager v.0)) n
    ∷ numbered 44 (form (plain (codes "NOWAITER")) (λ v. NoWaiter)) n
    ∷ numbered 45 (form (plain (codes "NORECORD")) (λ v. NoRecord)) n
    ∷ numbered 46 (form (plain (codes "STILLPENDING")) (λ v. StillPending)) n
    ∷ []

abbrev pub rebuild_refusals : List Name16 → ℕ → List (List (List ℕ) → Option Refusal)
rebuild_refusals connectors n =
    numbered 60 (form (plain (codes "NOTCONNECTED")) (λ v. NotConnected)) n
    ∷ numbered 61 (form (with_one (codes "NAMEACTIVE") connection) (λ v. NameActive v.0)) n
    ∷ numbered 62 (form (with_one (codes "TOOMANYCONNS") byte) (λ v. TooManyConns v.0)) n
    ∷ numbered 63 (form (with_one (codes "NOTFAILED") connection) (λ v. NotFailed v.0)) n
    ∷ numbered 64 (form (with_one (codes "HASCONNECTIONS") small) (λ v. HasConnections v.0)) n
    ∷ numbered 65 (form (with_two (codes "NOSPACE") small small) (λ v. NoSpace v.0 v.1.0)) n
    ∷ numbered 66 (form (plain (codes "NOTHINGOWED")) (λ v. NothingOwed)) n
    ∷ numbered 67 (form (with_one (codes "REBUILDINPROGRESS") small) (λ v. RebuildInProgress v.0)) n
    ∷ numbered 68 (form (plain (codes "NOREBUILD")) (λ v. NoRebuild)) n
    ∷ numbered 69 (form (with_one (codes "WRONGSTAGE") a_stage) (λ v. WrongStage v.0)) n
    ∷ []

abbrev pub place_refusals : List Name16 → ℕ → List (List (List ℕ) → Option Refusal)
place_refusals connectors n =
    numbered 70 (form (with_one (codes "ITEMSLEFT") small) (λ v. ItemsLeft v.0)) n
    ∷ numbered 71 (form (with_two (codes "TOOSMALL") small small) (λ v. TooSmall v.0 v.1.0)) n
    ∷ numbered 72 (form (with_one (codes "QUIESCED") small) (λ v. Quiesced v.0)) n
    ∷ numbered 73 (form (with_one (codes "LOSTCONN") a_facility) (λ v. LostConn v.0)) n
    ∷ numbered 74 (form (with_one (codes "LOSTFACILITY") a_facility) (λ v. LostFacility v.0)) n
    ∷ numbered 75 (form (plain (codes "STRUCTUREFAILED")) (λ v. StructureFailed)) n
    ∷ numbered 76 (form (plain (codes "NOFACILITY")) (λ v. NoFacility)) n
    ∷ numbered 77 (form (plain (codes "ALREADYDUPLEXED")) (λ v. AlreadyDuplexed)) n
    ∷ numbered 78 (form (plain (codes "NOEVENT")) (λ v. NoEvent)) n
    ∷ numbered 79 (form (plain (codes "NOTALLOCATED")) (λ v. NotAllocated)) n
    ∷ []

abbrev pub refusal_forms : List Name16 → ℕ → List (List (List ℕ) → Option Refusal)
refusal_forms connectors n =
    cache_refusals connectors n ++ list_refusals connectors n ++ lock_refusals connectors n
    ++ rebuild_refusals connectors n ++ place_refusals connectors n

abbrev pub refusal_row : List Name16 → Row Refusal
refusal_row connectors = record {
  words = λ r. decimal (refusal_number r) ∷ named_words connectors r;
  values = λ ws. on_first small.value ws >>= (λ read. first_of (refusal_forms connectors read.0) read.1);
}

abbrev pub IsRefusal : List Name16 → Refusal → Type 0
IsRefusal connectors NotRegistered = Unit {0}
IsRefusal connectors (IndexInUse name) = IsAName name × Unit {0}
IsRefusal connectors (BadIndex index len) = IsSmall index × (IsSmall len × Unit {0})
IsRefusal connectors IsChanged = Unit {0}
IsRefusal connectors NotChanged = Unit {0}
IsRefusal connectors (CastoutHeld by) = IsOneOf (length connectors) by × Unit {0}
IsRefusal connectors NotHeld = Unit {0}
IsRefusal connectors NoEntry = Unit {0}
IsRefusal connectors (DirectoryFull entries) = IsSmall entries × Unit {0}
IsRefusal connectors (NoElements need free) = IsSmall need × (IsSmall free × Unit {0})
IsRefusal connectors (BadClass class) = IsSmall class × Unit {0}
IsRefusal connectors (BeyondUnits asked units) = IsSmall asked × (IsSmall units × Unit {0})
IsRefusal connectors NoAlter = Unit {0}
IsRefusal connectors NoRecordThere = Unit {0}
IsRefusal connectors (NameTaken id) = IsAnId id × Unit {0}
IsRefusal connectors (BadHeader header headers) = IsSmall header × (IsSmall headers × Unit {0})
IsRefusal connectors (ListFull limit) = IsSmall limit × Unit {0}
IsRefusal connectors (EntriesFull entries) = IsSmall entries × Unit {0}
IsRefusal connectors (NoListElements need free) = IsSmall need × (IsSmall free × Unit {0})
IsRefusal connectors (LockHeld by) = IsOneOf (length connectors) by × Unit {0}
IsRefusal connectors (LockNotHeldBy holder) = IfGiven (IsOneOf (length connectors)) holder × Unit {0}
IsRefusal connectors (WrongReference refs) = Unit {0} × Unit {0}
IsRefusal connectors (HeaderInUse header) = IsSmall header × Unit {0}
IsRefusal connectors (BadLock lock locks) = IsSmall lock × (IsSmall locks × Unit {0})
IsRefusal connectors (VersionDiffers found) = IsSmall found × Unit {0}
IsRefusal connectors NoQueued = Unit {0}
IsRefusal connectors (AlreadyInterested excl) = Unit {0} × Unit {0}
IsRefusal connectors NotInterested = Unit {0}
IsRefusal connectors (RecordsFull limit) = IsSmall limit × Unit {0}
IsRefusal connectors (NotManager manager) = IfGiven (IsOneOf (length connectors)) manager × Unit {0}
IsRefusal connectors NoWaiter = Unit {0}
IsRefusal connectors NoRecord = Unit {0}
IsRefusal connectors StillPending = Unit {0}
IsRefusal connectors NotConnected = Unit {0}
IsRefusal connectors (NameActive state) = Unit {0} × Unit {0}
IsRefusal connectors (TooManyConns limit) = limit ≤ 255 × Unit {0}
IsRefusal connectors (NotFailed state) = Unit {0} × Unit {0}
IsRefusal connectors (HasConnections n) = IsSmall n × Unit {0}
IsRefusal connectors (NoSpace asked free) = IsSmall asked × (IsSmall free × Unit {0})
IsRefusal connectors NothingOwed = Unit {0}
IsRefusal connectors (RebuildInProgress number) = IsSmall number × Unit {0}
IsRefusal connectors NoRebuild = Unit {0}
IsRefusal connectors (WrongStage stage) = Unit {0} × Unit {0}
IsRefusal connectors (ItemsLeft left) = IsSmall left × Unit {0}
IsRefusal connectors (TooSmall need have) = IsSmall need × (IsSmall have × Unit {0})
IsRefusal connectors (Quiesced number) = IsSmall number × Unit {0}
IsRefusal connectors (LostConn cf) = IsFacility cf × Unit {0}
IsRefusal connectors (LostFacility cf) = IsFacility cf × Unit {0}
IsRefusal connectors StructureFailed = Unit {0}
IsRefusal connectors NoFacility = Unit {0}
IsRefusal connectors AlreadyDuplexed = Unit {0}
IsRefusal connectors NoEvent = Unit {0}
IsRefusal connectors NotAllocated = Unit {0}
