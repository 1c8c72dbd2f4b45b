-- Refusals are read back.
use Rattle.std.proofs.Common.{◌≡◌, ℕ, ◌≤◌, true, List, [], ◌∷◌, length, Some, codes, refl, sym, ap, ◌∙◌, lit<, arith}
use Rattle.std.specs.Fmt.{decimal}
use Rattle.cf_types.specs.declared.names.Name16.{Name16}
use Rattle.cf_types.specs.declared.events.Stage.{Stage}
use Rattle.cf_types.specs.declared.events.Stage.TheVariants as stage
use Rattle.cf_types.specs.declared.forms.Refs.{Refs}
use Rattle.cf_types.specs.declared.forms.Refs.TheVariants as refs
use Rattle.cf_types.specs.declared.refusals.StateWord.{StateWord}
use Rattle.cf_types.specs.declared.refusals.StateWord.TheVariants.{Active, Leaving, Gone}
use Rattle.cf_types.specs.declared.refusals.Refusal.{Refusal}
use Rattle.cf_types.specs.declared.refusals.Refusal.TheVariants.{NotRegistered, IndexInUse, BadIndex, IsChanged, NotChanged, CastoutHeld, NotHeld, NoEntry, DirectoryFull, NoElements, BadClass, BeyondUnits, NoAlter, NoRecordThere, NameTaken, BadHeader, ListFull, EntriesFull, NoListElements, LockHeld, LockNotHeldBy, WrongReference, HeaderInUse, BadLock, VersionDiffers, NoQueued, AlreadyInterested, NotInterested, RecordsFull, NotManager, NoWaiter, NoRecord, StillPending, NotConnected, NameActive, TooManyConns, NotFailed, HasConnections, NoSpace, NothingOwed, RebuildInProgress, NoRebuild, WrongStage, ItemsLeft, TooSmall, Quiesced, LostConn, LostFacility, StructureFailed, NoFacility, AlreadyDuplexed, NoEvent, NotAllocated}
use Rattle.std.specs.List.{list_all}
use Rattle.std.proofs.lemmas.Bool.{and_from}
use Rattle.plex_spell.specs.Places.{on_first}
use Rattle.plex_spell.proofs.Choices.{mapped, bound}
use Rattle.plex_plain.specs.Ranges.{IsOneOf, AreNames}
use Rattle.plex_plain.specs.PlainWords.{refs_word}
use Rattle.plex_report.specs.RefusalWords.{connection_word, stage_word, refusal_number}
use Rattle.line_rows.specs.Rows.{is_word, Row, IsSingle, IsRow, form, numbered, first_of, IsForth, AreForth, IfGiven, Both}
use Rattle.line_rows.specs.Singles.{number, a_name, IsAName, a_connector}
use Rattle.line_rows.proofs.RowLaws.{◌or◌, first-forth, numbered-forth}
use Rattle.line_rows.proofs.SingleLaws.{number-is, name-is, connector-is, spelled-is}
use Rattle.reply_rows.specs.Parts.{small, an_id, a_state, a_holder, with_one}
use Rattle.reply_rows.specs.Within.{IsAnId, IsAny}
use Rattle.reply_rows.specs.Refusals.{byte, a_reference, connection, a_stage, named_words, refusal_forms, refusal_row, IsRefusal}
use Rattle.reply_rows.proofs.PartLaws.{small-is, id-is, state-is, holder-is, plain-is, one-is, Nil, count-is, pair-is, at-is}

abbrev IsByte : ℕ → Type 0
IsByte n = n ≤ 255

byte-is : IsSingle IsByte byte
byte-is = number-is 255 (lit< tt)

refs-is : IsSingle (λ (v : Refs). Unit {0}) a_reference
refs-is = spelled-is refs_word (refs.Names ∷ refs.Keys ∷ refs.Nothing ∷ []) refl each
  where
    each : (v : Refs) → a_reference.value (refs_word v) ≡ Some v
    each refs.Names = refl
    each refs.Keys = refl
    each refs.Nothing = refl

connection-is : IsSingle (λ (v : StateWord). Unit {0}) connection
connection-is = spelled-is connection_word (Active ∷ Leaving ∷ Gone ∷ []) refl each
  where
    each : (v : StateWord) → connection.value (connection_word v) ≡ Some v
    each Active = refl
    each Leaving = refl
    each Gone = refl

stage-is : IsSingle (λ (v : Stage). Unit {0}) a_stage
stage-is =
    spelled-is stage_word (stage.Quiesce ∷ stage.Connect ∷ stage.Copy ∷ stage.Cleanup ∷ stage.Stopping ∷ []) refl each
  where
    each : (v : Stage) → a_stage.value (stage_word v) ≡ Some v
    each stage.Quiesce = refl
    each stage.Connect = refl
    each stage.Copy = refl
    each stage.Cleanup = refl
    each stage.Stopping = refl

module _ (connectors : List Name16) (names : AreNames connectors) where
  abbrev IsOf : ℕ → Refusal → Type 0
  IsOf n r = (refusal_number r ≡ n) × IsRefusal connectors r

  -- a form behind its number
  told : {V : Type 0} {P : V → Type 0} {row : Row V} (make : V → Refusal) (k n : ℕ) → IsRow P row
      → ((v : V) → P v → (refusal_number (make v) ≡ k) × ((named_words connectors (make v) ≡ row.words v)
      × IsRefusal connectors (make v))) → IsForth (IsOf n) (named_words connectors) (numbered k (form row make) n)
  told {V} {P} {row} make k n is same =
      numbered-forth (IsRefusal connectors) (named_words connectors) refusal_number P row make k n is same

  -- a word with a connector, and with one or none
  by-is : (word : List ℕ) → is_word word ≡ true
      → IsRow (Both (IsOneOf (length connectors)) Nil) (with_one word (a_connector connectors))
  by-is word good =
      one-is (IsOneOf (length connectors)) word good (a_connector connectors) (connector-is connectors names)

  held-is : (word : List ℕ) → is_word word ≡ true
      → IsRow (Both (IfGiven (IsOneOf (length connectors))) Nil) (with_one word (a_holder connectors))
  held-is word good =
      one-is (IfGiven (IsOneOf (length connectors))) word good (a_holder connectors) (holder-is connectors names)

  state_of-is : (word : List ℕ)
      → is_word word ≡ true → IsRow (Both (λ (v : StateWord). Unit {0}) Nil) (with_one word connection)
  state_of-is word good = one-is (λ v. Unit {0}) word good connection connection-is

  forms-forth : (n : ℕ) → AreForth (IsOf n) (named_words connectors) (refusal_forms connectors n)
  forms-forth n = told (λ v. NotRegistered) 1 n (plain-is (codes "NOTREGISTERED") refl) (λ v h. (refl, (refl, h)))
      or told (λ v. IndexInUse v.0) 2 n (one-is IsAName (codes "INDEXINUSE") refl a_name name-is) (λ v h. (
        refl,
        (refl, h),
      )) or told (λ v. BadIndex v.0 v.1.0) 3 n (pair-is (codes "BADINDEX") refl) (λ v h. (refl, (refl, h)))
      or told (λ v. IsChanged) 4 n (plain-is (codes "ISCHANGED") refl) (λ v h. (refl, (refl, h))) or told
      (λ v. NotChanged) 5 n (plain-is (codes "NOTCHANGED") refl) (λ v h. (refl, (refl, h))) or told (λ v. CastoutHeld
      v.0) 6 n (by-is (codes "CASTOUTHELD") refl) (λ v h. (refl, (refl, h))) or told (λ v. NotHeld) 7 n (plain-is
      (codes "NOTHELD") refl) (λ v h. (refl, (refl, h))) or told (λ v. NoEntry) 8 n (plain-is (codes "NOENTRY") refl)
      (λ v h. (refl, (refl, h))) or told (λ v. DirectoryFull v.0) 9 n (count-is (codes "DIRECTORYFULL") refl)
      (λ v h. (refl, (refl, h))) or told (λ v. NoElements v.0 v.1.0) 10 n (pair-is (codes "NOELEMENTS") refl)
      (λ v h. (refl, (refl, h))) or told (λ v. BadClass v.0) 11 n (count-is (codes "BADCLASS") refl)
      (λ v h. (refl, (refl, h))) or told (λ v. BeyondUnits v.0 v.1.0) 12 n (pair-is (codes "BEYONDUNITS") refl)
      (λ v h. (refl, (refl, h))) or told (λ v. NoAlter) 13 n (plain-is (codes "NOALTER") refl) (λ v h. (
        refl,
        (refl, h),
      )) or told (λ v. NoRecordThere) 20 n (plain-is (codes "NOENTRY") refl) (λ v h. (refl, (refl, h))) or
      told (λ v. NameTaken v.0) 21 n (one-is IsAnId (codes "NAMETAKEN") refl an_id id-is) (λ v h. (refl, (refl, h)))
      or told (λ v. BadHeader v.0 v.1.0) 22 n (pair-is (codes "BADHEADER") refl) (λ v h. (refl, (refl, h)))
      or told (λ v. ListFull v.0) 23 n (count-is (codes "LISTFULL") refl) (λ v h. (refl, (refl, h)))
      or told (λ v. EntriesFull v.0) 24 n (count-is (codes "ENTRIESFULL") refl) (λ v h. (refl, (refl, h))) or
      told (λ v. NoListElements v.0 v.1.0) 25 n (pair-is (codes "NOELEMENTS") refl) (λ v h. (refl, (refl, h))) or told
      (λ v. LockHeld v.0) 26 n (by-is (codes "LOCKHELD") refl) (λ v h. (refl, (refl, h))) or told (λ v. LockNotHeldBy
      v.0) 27 n (held-is (codes "LOCKNOTHELDBY") refl) (λ v h. (refl, (refl, h))) or told (λ v. WrongReference v.0)
      28 n (one-is (λ v. Unit {0}) (codes "WRONGREFERENCE") refl a_reference refs-is) (λ v h. (refl, (refl, h)))
      or told (λ v. HeaderInUse v.0) 29 n (count-is (codes "INDEXINUSE") refl) (λ v h. (refl, (refl, h)))
      or told (λ v. BadLock v.0 v.1.0) 30 n (pair-is (codes "BADLOCK") refl) (λ v h. (refl, (refl, h)))
      or told (λ v. VersionDiffers v.0) 31 n (count-is (codes "VERSIONDIFFERS") refl) (λ v h. (refl, (refl, h)))
      or told (λ v. NoQueued) 32 n (plain-is (codes "NOQUEUED") refl) (λ v h. (refl, (refl, h)))
      or told (λ v. AlreadyInterested v.0) 40 n (one-is IsAny (codes "ALREADYINTERESTED") refl a_state state-is)
      (λ v h. (refl, (refl, h))) or told (λ v. NotInterested) 41 n (plain-is (codes "NOTINTERESTED") refl)
      (λ v h. (refl, (refl, h))) or told (λ v. RecordsFull v.0) 42 n (count-is (codes "RECORDSFULL") refl)
      (λ v h. (refl, (refl, h))) or told (λ v. NotManager v.0) 43 n (held-is (codes "NOTMANAGER") refl) (λ v h. (
        refl,
        (refl, h),
      )) or told (λ v. NoWaiter) 44 n (plain-is (codes "NOWAITER") refl) (λ v h. (refl, (refl, h))) or told
      (λ v. NoRecord) 45 n (plain-is (codes "NORECORD") refl) (λ v h. (refl, (refl, h))) or told (λ v. StillPending)
      46 n (plain-is (codes "STILLPENDING") refl) (λ v h. (refl, (refl, h))) or told (λ v. NotConnected)
      60 n (plain-is (codes "NOTCONNECTED") refl) (λ v h. (refl, (refl, h))) or told (λ v. NameActive v.0)
      61 n (state_of-is (codes "NAMEACTIVE") refl) (λ v h. (refl, (refl, h))) or told (λ v. TooManyConns v.0) 62 n
      (one-is IsByte (codes "TOOMANYCONNS") refl byte byte-is) (λ v h. (refl, (refl, h))) or told (λ v. NotFailed v.0)
      63 n (state_of-is (codes "NOTFAILED") refl) (λ v h. (refl, (refl, h))) or told (λ v. HasConnections v.0)
      64 n (count-is (codes "HASCONNECTIONS") refl) (λ v h. (refl, (refl, h))) or told (λ v. NoSpace v.0 v.1.0)
      65 n (pair-is (codes "NOSPACE") refl) (λ v h. (refl, (refl, h))) or told (λ v. NothingOwed)
      66 n (plain-is (codes "NOTHINGOWED") refl) (λ v h. (refl, (refl, h))) or told (λ v. RebuildInProgress v.0)
      67 n (count-is (codes "REBUILDINPROGRESS") refl) (λ v h. (refl, (refl, h))) or told (λ v. NoRebuild)
      68 n (plain-is (codes "NOREBUILD") refl) (λ v h. (refl, (refl, h))) or told (λ v. WrongStage v.0) 69 n (one-is
      (λ v. Unit {0}) (codes "WRONGSTAGE") refl a_stage stage-is) (λ v h. (refl, (refl, h))) or told (λ v. ItemsLeft
      v.0) 70 n (count-is (codes "ITEMSLEFT") refl) (λ v h. (refl, (refl, h))) or told (λ v. TooSmall v.0 v.1.0)
      71 n (pair-is (codes "TOOSMALL") refl) (λ v h. (refl, (refl, h))) or told (λ v. Quiesced v.0) 72 n (count-is
      (codes "QUIESCED") refl) (λ v h. (refl, (refl, h))) or told (λ v. LostConn v.0) 73 n (at-is (codes "LOSTCONN")
      refl) (λ v h. (refl, (refl, h))) or told (λ v. LostFacility v.0) 74 n (at-is (codes "LOSTFACILITY") refl)
      (λ v h. (refl, (refl, h))) or told (λ v. StructureFailed) 75 n (plain-is (codes "STRUCTUREFAILED") refl)
      (λ v h. (refl, (refl, h))) or told (λ v. NoFacility) 76 n (plain-is (codes "NOFACILITY") refl) (λ v h. (
        refl,
        (refl, h),
      )) or told (λ v. AlreadyDuplexed) 77 n (plain-is (codes "ALREADYDUPLEXED") refl) (λ v h. (
        refl,
        (refl, h),
      )) or told (λ v. NoEvent) 78 n (plain-is (codes "NOEVENT") refl) (λ v h. (refl, (refl, h)))
      or told (λ v. NotAllocated) 79 n (plain-is (codes "NOTALLOCATED") refl) (λ v h. (refl, (refl, h))) or tt

  named-back : (r : Refusal) → IsRefusal connectors r
      → first_of (refusal_forms connectors (refusal_number r)) (named_words connectors r) ≡ Some r
  named-back NotRegistered h = refl
  named-back (IndexInUse name) h = rw ((one-is IsAName (codes "INDEXINUSE") refl a_name name-is).back (name, tt) h) refl
  named-back (BadIndex index len) h = rw ((pair-is (codes "BADINDEX") refl).back (index, (len, tt)) h) refl
  named-back IsChanged h = refl
  named-back NotChanged h = refl
  named-back (CastoutHeld by) h = rw ((by-is (codes "CASTOUTHELD") refl).back (by, tt) h) refl
  named-back NotHeld h = refl
  named-back NoEntry h = refl
  named-back (DirectoryFull entries) h = rw ((count-is (codes "DIRECTORYFULL") refl).back (entries, tt) h) refl
  named-back (NoElements need free) h = rw ((pair-is (codes "NOELEMENTS") refl).back (need, (free, tt)) h) refl
  named-back (BadClass class) h = rw ((count-is (codes "BADCLASS") refl).back (class, tt) h) refl
  named-back (BeyondUnits asked units) h = rw ((pair-is (codes "BEYONDUNITS") refl).back (asked, (units, tt)) h) refl
  named-back NoAlter h = refl
  named-back NoRecordThere h = refl
  named-back (NameTaken id) h = rw ((one-is IsAnId (codes "NAMETAKEN") refl an_id id-is).back (id, tt) h) refl
  named-back (BadHeader header headers) h = rw ((pair-is (codes "BADHEADER") refl).back (header, (headers, tt)) h) refl
  named-back (ListFull limit) h = rw ((count-is (codes "LISTFULL") refl).back (limit, tt) h) refl
  named-back (EntriesFull entries) h = rw ((count-is (codes "ENTRIESFULL") refl).back (entries, tt) h) refl
  named-back (NoListElements need free) h = rw ((pair-is (codes "NOELEMENTS") refl).back (need, (free, tt)) h) refl
  named-back (LockHeld by) h = rw ((by-is (codes "LOCKHELD") refl).back (by, tt) h) refl
  named-back (LockNotHeldBy holder) h = rw ((held-is (codes "LOCKNOTHELDBY") refl).back (holder, tt) h) refl
  named-back (WrongReference refs) h =
      rw ((one-is (λ v. Unit {0}) (codes "WRONGREFERENCE") refl a_reference refs-is).back (refs, tt) h) refl
  named-back (HeaderInUse header) h = rw ((count-is (codes "INDEXINUSE") refl).back (header, tt) h) refl
  named-back (BadLock lock locks) h = rw ((pair-is (codes "BADLOCK") refl).back (lock, (locks, tt)) h) refl
  named-back (VersionDiffers found) h = rw ((count-is (codes "VERSIONDIFFERS") refl).back (found, tt) h) refl
  named-back NoQueued h = refl
  named-back (AlreadyInterested excl) h =
      rw ((one-is IsAny (codes "ALREADYINTERESTED") refl a_state state-is).back (excl, tt) h) refl
  named-back NotInterested h = refl
  named-back (RecordsFull limit) h = rw ((count-is (codes "RECORDSFULL") refl).back (limit, tt) h) refl
  named-back (NotManager manager) h = rw ((held-is (codes "NOTMANAGER") refl).back (manager, tt) h) refl
  named-back NoWaiter h = refl
  named-back NoRecord h = refl
  named-back StillPending h = refl
  named-back NotConnected h = refl
  named-back (NameActive state) h = rw ((state_of-is (codes "NAMEACTIVE") refl).back (state, tt) h) refl
  named-back (TooManyConns limit) h =
      rw ((one-is IsByte (codes "TOOMANYCONNS") refl byte byte-is).back (limit, tt) h) refl
  named-back (NotFailed state) h = rw ((state_of-is (codes "NOTFAILED") refl).back (state, tt) h) refl
  named-back (HasConnections n) h = rw ((count-is (codes "HASCONNECTIONS") refl).back (n, tt) h) refl
  named-back (NoSpace asked free) h = rw ((pair-is (codes "NOSPACE") refl).back (asked, (free, tt)) h) refl
  named-back NothingOwed h = refl
  named-back (RebuildInProgress number) h = rw ((count-is (codes "REBUILDINPROGRESS") refl).back (number, tt) h) refl
  named-back NoRebuild h = refl
  named-back (WrongStage stage) h =
      rw ((one-is (λ v. Unit {0}) (codes "WRONGSTAGE") refl a_stage stage-is).back (stage, tt) h) refl
  named-back (ItemsLeft left) h = rw ((count-is (codes "ITEMSLEFT") refl).back (left, tt) h) refl
  named-back (TooSmall need have) h = rw ((pair-is (codes "TOOSMALL") refl).back (need, (have, tt)) h) refl
  named-back (Quiesced number) h = rw ((count-is (codes "QUIESCED") refl).back (number, tt) h) refl
  named-back (LostConn cf) h = rw ((at-is (codes "LOSTCONN") refl).back (cf, tt) h) refl
  named-back (LostFacility cf) h = rw ((at-is (codes "LOSTFACILITY") refl).back (cf, tt) h) refl
  named-back StructureFailed h = refl
  named-back NoFacility h = refl
  named-back AlreadyDuplexed h = refl
  named-back NoEvent h = refl
  named-back NotAllocated h = refl

  small_number : (r : Refusal) → refusal_number r ≤ 79
  small_number NotRegistered = omega arith
  small_number (IndexInUse name) = omega arith
  small_number (BadIndex index len) = omega arith
  small_number IsChanged = omega arith
  small_number NotChanged = omega arith
  small_number (CastoutHeld by) = omega arith
  small_number NotHeld = omega arith
  small_number NoEntry = omega arith
  small_number (DirectoryFull entries) = omega arith
  small_number (NoElements need free) = omega arith
  small_number (BadClass class) = omega arith
  small_number (BeyondUnits asked units) = omega arith
  small_number NoAlter = omega arith
  small_number NoRecordThere = omega arith
  small_number (NameTaken id) = omega arith
  small_number (BadHeader header headers) = omega arith
  small_number (ListFull limit) = omega arith
  small_number (EntriesFull entries) = omega arith
  small_number (NoListElements need free) = omega arith
  small_number (LockHeld by) = omega arith
  small_number (LockNotHeldBy holder) = omega arith
  small_number (WrongReference refs) = omega arith
  small_number (HeaderInUse header) = omega arith
  small_number (BadLock lock locks) = omega arith
  small_number (VersionDiffers found) = omega arith
  small_number NoQueued = omega arith
  small_number (AlreadyInterested excl) = omega arith
  small_number NotInterested = omega arith
  small_number (RecordsFull limit) = omega arith
  small_number (NotManager manager) = omega arith
  small_number NoWaiter = omega arith
  small_number NoRecord = omega arith
  small_number StillPending = omega arith
  small_number NotConnected = omega arith
  small_number (NameActive state) = omega arith
  small_number (TooManyConns limit) = omega arith
  small_number (NotFailed state) = omega arith
  small_number (HasConnections n) = omega arith
  small_number (NoSpace asked free) = omega arith
  small_number NothingOwed = omega arith
  small_number (RebuildInProgress number) = omega arith
  small_number NoRebuild = omega arith
  small_number (WrongStage stage) = omega arith
  small_number (ItemsLeft left) = omega arith
  small_number (TooSmall need have) = omega arith
  small_number (Quiesced number) = omega arith
  small_number (LostConn cf) = omega arith
  small_number (LostFacility cf) = omega arith
  small_number StructureFailed = omega arith
  small_number NoFacility = omega arith
  small_number AlreadyDuplexed = omega arith
  small_number NoEvent = omega arith
  small_number NotAllocated = omega arith

  pub refusal-is : IsRow (IsRefusal connectors) (refusal_row connectors)
  refusal-is = record { back = back; forth = forth }
    where
      back : (r : Refusal)
          → IsRefusal connectors r → (refusal_row connectors).values ((refusal_row connectors).words r) ≡ Some r
      back r h = rw (small-is.back (refusal_number r) (omega (arith, small_number r))) (named-back r h)

      forth : (ws : List (List ℕ)) (r : Refusal) → (refusal_row connectors).values ws ≡ Some r
          → ((refusal_row connectors).words r ≡ ws) × IsRefusal connectors r × (list_all is_word ws ≡ true)
      forth [] r h = absurd (cc)
      forth (w ∷ ws) r h =
          let b = bound (λ (read : ℕ × List (List ℕ)). first_of (refusal_forms connectors read.0) read.1)
          (on_first small.value (w ∷ ws)) r h in
          let m = mapped (λ (x : ℕ). (x, ws)) (small.value w) b.value b.read in
          let same : m.value ≡ b.value.0 = ap (λ (p : ℕ × List (List ℕ)). p.0) m.made in
          let behind : ws ≡ b.value.1 = ap (λ (p : ℕ × List (List ℕ)). p.1) m.made in
          let f = first-forth (IsOf b.value.0) (named_words connectors)
          (refusal_forms connectors b.value.0) (forms-forth b.value.0) b.value.1 r b.then_ in
          let first = small-is.forth w m.value m.read in
          let count : decimal (refusal_number r) ≡ w = ap decimal (f.1.0 ∙ sym same) ∙ first.0 in
          let more : named_words connectors r ≡ ws = f.0 ∙ sym behind in
          let words = and_from (is_word w) (list_all is_word ws) first.2 (ap (list_all is_word) behind ∙ f.2) in
          (cc, f.1.1, words)
