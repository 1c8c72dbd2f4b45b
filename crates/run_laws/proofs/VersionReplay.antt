-- After every legal history the version of each record is 1 plus the number of its updates.
use Rattle.run_laws.proofs.Imports.{◌≡◌, ℕ, zero, suc, ◌+◌, ◌<◌, ◌≤◌, ◌==◌, ◌&&◌, Bool, true, false, cond, List, [], ◌∷◌, ◌++◌, Option, Some, None, option_map, length, length-append, append_assoc, append-nil, filter-append, nat_lt, replicate, refl, sym, ap, ◌∙◌, subst, arith, fold, list_all, and_parts, and_from, eqb-true, nat_tests, list_all-append, list_any-append, list_all-map, length-map, map-append, Caps, StrForm, ListCmd, Update, ConnId, EntryId, Shape, Held, shape_of, continues_legal, list_all-filter, list_all_weaker, all_found, found_passes, list_all-insertion, Record, Lists, all_records, lists_without, replaced_by, headers_of, the_record, with_record, list_meaning, causes, the_record-in, with-all, each-records, one-records, all-without, all-map, IsSeen, traced-replay, traced-seen, list_in, legal-answered, ListEntry, ListHistory, told_by, told_in, IsLegalList, told_from, told_then, makes, updates, AreVersioned, IsVersioned, none_hold, queued_lists}
use Rattle.run_laws.proofs.Seen.{list_seen}
use Rattle.std.proofs.lemmas.List.Sums.{length-filter, count_by-le-length}
use Rattle.cf_types.specs.declared.list_commands.ListCmd.TheVariants.{Write, Move, Delete}
use Rattle.list_model.specs.Contents.{Content, no_content}
use Rattle.list_model.specs.Commands.Update as update
use Rattle.list_model.specs.Commands.Move as move
use Rattle.list_model.specs.Step.{cause, done}
use Rattle.run_laws.specs.ListHistories.{Told, content_after}
use Rattle.run_laws.specs.ListApplied.{Deed, IsHeldAfter, after_deed, told_of, content_applied}
use Rattle.run_laws.specs.ListApplied.Deed.{Calls}

-- ---- versions by what was told

-- the version under each id that a WRITE answered
abbrev Versions : Type 0
Versions = EntryId → Option ℕ

-- a WRITE begins with 1, and an UPDATE adds 1
abbrev risen : Bool → Bool → Option ℕ → Option ℕ
risen made updated version = cond made (Some 1) (cond updated (option_map (λ n. n + 1) version) version)

abbrev versions_with : Told → Versions → Versions
versions_with entry versions = λ id. risen (makes id entry) (updates id entry) (versions id)

versioned_longer : (told : List Told) (entry : Told) (id : EntryId) (found now : ℕ) → makes id entry ≡ false → now
    ≡ cond (updates id entry) (found + 1) found → IsVersioned told id found → IsVersioned (told ++ entry ∷ []) id now
versioned_longer told entry id found now unmade counts is =
    grind (arith, append_assoc, list_any-append, filter-append, length-append)

versioned_next : (told : List Told) (entry : Told) (id : EntryId) (before : Option ℕ)
    → ((n : ℕ) → before ≡ Some n → IsVersioned told id n) → (now : ℕ)
    → risen (makes id entry) (updates id entry) before ≡ Some now → IsVersioned (told ++ entry ∷ []) id now
versioned_next told entry id before known now e = go (makes id entry) (updates id entry) before refl refl known e
  where
    go : (made updated : Bool) (o : Option ℕ) → makes id entry ≡ made → updates id entry ≡ updated → ((n : ℕ) → o
        ≡ Some n → IsVersioned told id n) → risen made updated o ≡ Some now → IsVersioned (told ++ entry ∷ []) id now
    go true updated o is counts known e = grind arith
    go false true None is counts known e = absurd cc
    go false false None is counts known e = absurd cc
    go false true (Some n) is counts known e = versioned_longer told entry id n now is (grind arith) (known n refl)
    go false false (Some n) is counts known e = versioned_longer told entry id n now is (grind arith) (known n refl)

few_told : (told : List Told) (id : EntryId) (n : ℕ) → IsVersioned told id n → n ≤ length told
few_told told id n is = grind (arith, length-filter, count_by-le-length, length-append)

-- ---- what is known of a record

abbrev is_version : Option ℕ → ℕ → Bool
is_version None version = false
is_version (Some told) version = told == version

told_version : (o : Option ℕ) (version : ℕ) → is_version o version ≡ true → o ≡ Some version
told_version o version h = grind (arith, eqb-true)

-- its id was given, and its version is the one that was told
abbrev is_good : Versions → ℕ → Record → Bool
is_good versions next rec = nat_lt rec.id.0 next && is_version (versions rec.id) rec.version

-- as long as less was told than there are versions
record AreGood (told : List Told) (next : ℕ) (lists : Lists) : Type 0 where
  versions : Versions
  known : (id : EntryId) (n : ℕ) → versions id ≡ Some n → IsVersioned told id n
  each : length told < 4294967295 → list_all (is_good versions next) (all_records lists) ≡ true

-- ---- all records of a content

all_flat : (p : Record → Bool) (lists : Lists) → list_all p (all_records lists) ≡ list_all (list_all p) lists
all_flat p [] = refl
all_flat p (records ∷ lists) = grind (arith, list_all-append, all_flat p lists)

all-with_record : (p : Record → Bool) (head : Bool) (header : ℕ) (rec : Record) (lists : Lists) → p rec ≡ true
    → list_all p (all_records lists) ≡ true → list_all p (all_records (with_record head header rec lists)) ≡ true
all-with_record p head header rec lists e h =
    grind (arith, all_flat, each-records, list_all-insertion, and_from, one-records)

all-left : (p : Record → Bool) (id : EntryId) (lists : Lists) → list_all p (all_records lists) ≡ true
    → list_all p (all_records (lists_without id lists)) ≡ true
all-left p id lists h = grind (arith, all-without, list_all-filter)

all-nothing : (p : Record → Bool) (n : ℕ) → list_all p (all_records (replicate n [])) ≡ true
all-nothing p zero = refl
all-nothing p (suc n) = all-nothing p n

-- ---- one entry more

abbrev told_done : Content → ConnId → ListCmd → Told
told_done content by cmd = Some (record { command = cmd; answer = (done content by cmd).reply })

-- where a record is replaced by itself of the next version
good_replaced : (versions now : Versions) (next : ℕ) (rec other : Record) (body adj : Option (List ℕ))
    → rec.version < 4294967295 → ((id : EntryId) → now id ≡ risen false (rec.id.0 == id.0) (versions id))
    → is_good versions next rec ≡ true → is_good versions next other ≡ true
    → is_good now next (replaced_by (update.with_new_data body adj rec) other) ≡ true
good_replaced versions now next rec other body adj few is h k =
    grind (arith, and_parts, and_from, nat_tests, told_version)

done_good : (versions : Versions) (shape : Shape) (caps : Caps) (content : Content) (by : ConnId) (cmd : ListCmd)
    → ((id : EntryId) (n : ℕ) → versions id ≡ Some n → n < 4294967295) → cause shape caps content by cmd ≡ None
    → list_all (is_good versions content.next) (all_records content.lists) ≡ true
    → list_all (is_good (versions_with (told_done content by cmd) versions) (done content by cmd).state.next)
    (all_records (done content by cmd).state.lists) ≡ true
done_good versions shape caps content by (Write header head name key body adj cond) few none h =
    grind (arith, all-with_record, and_from, nat_tests, list_all_weaker, and_parts)
done_good versions shape caps content by (Update at body adj version cond) few none h =
    let cmd = Update at body adj version cond in
    let holds = none_hold (causes shape caps content by cmd) none in
    let rec = the_record content.lists at in
    let all = all_records content.lists in
    let good = is_good (versions_with (told_done content by cmd) versions) content.next in
    let i = the_record-in content.lists at holds.1.1.1.1.0 in
    let own = with-all (is_good versions content.next) rec i.others all i.with_it h in
    let low : rec.version < 4294967295 = grind (arith, and_parts, told_version) in
    let f = replaced_by (update.with_new_data body adj rec) in
    ap (list_all good) (all-map f content.lists) ∙ list_all-map good f all
    ∙ list_all_weaker (is_good versions content.next) (λ other. good (f other))
    (λ other k. good_replaced versions _ content.next rec other body adj low (λ id. refl) own k) all h
done_good versions shape caps content by (Move at header head key version cond) few none h =
    let holds = none_hold (causes shape caps content by (Move at header head key version cond)) none in
    let old = the_record content.lists at in
    let good = is_good versions content.next in
    let i = the_record-in content.lists at holds.1.1.1.1.0 in
    all-with_record good head header (move.with_new_key key old) (lists_without old.id content.lists)
    (with-all good old i.others (all_records content.lists) i.with_it h) (all-left good old.id content.lists h)
done_good versions shape caps content by (Delete at version cond) few none h = all-left _ _ content.lists h
done_good versions shape caps content by _ few none h = h

-- a command that is done
done_told : (shape : Shape) (caps : Caps) (content : Content) (by : ConnId) (cmd : ListCmd) (told : List Told)
    → cause shape caps content by cmd ≡ None → AreGood told content.next content.lists
    → let after = (done content by cmd).state in
    AreGood (told ++ told_done content by cmd ∷ []) after.next after.lists
done_told shape caps content by cmd told none are = record {
  versions = versions_with (told_done content by cmd) are.versions;
  known = λ id. versioned_next told (told_done content by cmd) id (are.versions id) (are.known id);
  each = λ few. done_good are.versions shape caps content by cmd (λ id n e. omega (
    arith,
    few,
    few_told told id n (are.known id n e),
    length-append told (told_done content by cmd ∷ []),
  )) none (are.each (omega (arith, few, length-append told (told_done content by cmd ∷ []))));
}

-- and what does none, and leaves the records
quiet_told : (told : List Told) (next : ℕ) (lists : Lists) → AreGood told next lists
    → AreGood (told ++ None ∷ []) next lists
quiet_told told next lists are = record {
  versions = are.versions;
  known = λ id. versioned_next told None id (are.versions id) (are.known id);
  each = λ few. are.each (omega (arith, few, length-append told (None ∷ [])));
}

none_good : (told : List Told) (shape : Shape) → AreGood told 1 (no_content shape).lists
none_good told shape = record {
  versions = λ id. None;
  known = λ id n e. absurd cc;
  each = λ few. all-nothing (is_good (λ id. None) 1) (headers_of shape.kind);
}

-- ---- the version of a record

versioned : (told : List Told) (content : Content) → AreGood told content.next content.lists
    → length told < 4294967295 → AreVersioned told content.lists
versioned told content are few id rec found =
    grind (arith, all_found, eqb-true, found_passes, and_parts, told_version)

-- ---- after every legal history

abbrev IsGoodTrace : ListHistory → Content → Type 0
IsGoodTrace history content = AreGood (told_in history) content.next content.lists

-- what an entry tells comes behind what the history told
longer : (history : ListHistory) (entry : ListEntry) (told : Told) (content : Content) → told_by entry ≡ told
    → AreGood (told_in history ++ told ∷ []) content.next content.lists → IsGoodTrace (history ++ entry ∷ []) content
longer history entry told content is are = grind (arith, map-append)

quiet_longer : (history : ListHistory) (entry : ListEntry) (content : Content) → told_by entry ≡ None
    → IsGoodTrace history content → IsGoodTrace (history ++ entry ∷ []) content
quiet_longer history entry content none are = longer history entry None content none (quiet_told _ _ _ are)

traced : (form : StrForm) → IsSeen queued_lists list_meaning form (list_seen form) IsGoodTrace
traced form = record {
  none = none_good [] (shape_of form);
  done = grind (arith, longer, done_told);
  same = quiet_longer;
  leave = λ history entry conn keep content none are. quiet_longer history entry content none are;
  back = quiet_longer;
  forget = quiet_longer;
  clear = λ history entry content none are. none_good (told_in (history ++ entry ∷ [])) (shape_of form);
}

pub versions_replay : (form : StrForm) (history : ListHistory) → IsLegalList form history
    → length history < 4294967295 → AreVersioned (told_in history) (content_after form history).lists
versions_replay form history legal few = versioned (told_in history) (content_after form history)
    (traced-replay queued_lists form refl (λ before content. IsGoodTrace before (list_in content))
    (traced-seen queued_lists list_meaning form (list_seen form) IsGoodTrace (traced form)) history
    (legal-answered queued_lists form refl history (continues_legal queued_lists form history legal)))
    (omega (arith, few, length-map history told_by))

-- ---- after every command

abbrev AreGoodIn : List Told → Content → Type 0
AreGoodIn told content = AreGood told content.next content.lists

deed_good : (shape : Shape) (content : Content) (deed : Deed) (told : List Told) → AreGoodIn told content
    → AreGoodIn (told ++ told_of shape content deed ∷ []) (after_deed shape content deed)
deed_good shape content _ told are = grind (arith, done_told, quiet_told)

deeds_good : (shape : Shape) (content : Content) (deeds : List Deed) (told : List Told) → AreGoodIn told content
    → AreGoodIn (told ++ told_from shape content deeds) (fold (after_deed shape) content deeds)
deeds_good shape content [] told are = subst (λ (l : List Told). AreGoodIn l content) (sym (append-nil told)) are
deeds_good shape content (deed ∷ deeds) told are =
    let next = after_deed shape content deed in
    subst (λ (l : List Told). AreGoodIn l (fold (after_deed shape) next deeds)) (grind (arith, append_assoc))
    (deeds_good shape next deeds (told ++ told_of shape content deed ∷ []) (deed_good shape content deed told are))

pub versions_applied : (held : Held Content) (deeds : List Deed) (by : ConnId) (cmd : ListCmd)
    → IsHeldAfter deeds held → length (told_then held deeds by cmd) < 4294967295
    → AreVersioned (told_then held deeds by cmd) (content_applied held by cmd).lists
versions_applied held deeds by cmd led =
    let told = told_from held.shape (no_content held.shape) deeds in
    versioned (told_then held deeds by cmd) (content_applied held by cmd)
    (deed_good held.shape held.state (Calls held.caps by cmd) told (subst (AreGoodIn told) (sym led)
    (deeds_good held.shape (no_content held.shape) deeds [] (none_good [] held.shape))))
