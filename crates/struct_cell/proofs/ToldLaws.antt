-- What a cell's history tells of passes: their tests, their calls, and the replies of these.
use Rattle.struct_cell.proofs.Imports.{◌≡◌, ℕ, ◌+◌, ◌-◌, ◌/◌, ◌<◌, ◌≤◌, ◌==◌, inl, inr, Bool, true, false, nat_lt, List, [], ◌∷◌, length, get_or, take, map, filter, All, refl, sym, ap, subst, ◌∙◌, arith, Contains, Option, nat_tests, length-map, get_or-map, All-map, All-weaker, ConnId, Entry, Meaning, Call, calls, numbers, own, IsPoint, stands_after, last_call_below, StructureView, bits_at, Sight, steps_of, calls_in, word_number, words_of, bit_in, IsIssued, IsHonest, WordTable, SeatSeen, PassSeen, IsShown, committed-all, numbered_legal, CellKey, About, own_call_of, commit_of, IsCell, shown_after, shown_below, VectorWords, IsTold, zero, suc, None, Some, option_and_then, slice_get, number_legal, calls_of, reply_for, reply_at, reply_to, actives_after, rebuild_told, replay, rebuild-legal, stops-legal, StopsKeepTheOld, TellsEnough, Links, CfId, IsFacility, IsCountedAs, answers, marks_at, link_at, StrForm}
use Rattle.struct_cell.proofs.LinkLaws.{counted_links}

module _ {C R : Type 0} where
  -- a call's number is among the numbers
  contains_number : (all : List (Call C R)) → All (λ call. Contains (map (λ (c : Call C R). c.no) all) call.no) all
  contains_number all k d below = (
    k,
    subst (λ (n : ℕ). k < n) (sym (length-map all (λ (c : Call C R). c.no))) below,
    get_or-map (λ (c : Call C R). c.no) all k d (get_or all k d).no below,
  )

  -- the calls of one caller among commits are those of the history
  pub own_calls : (owner : ℕ) (all : List (Call C R))
      → calls_in owner (map commit_of all) ≡ map own_call_of (filter (λ call. call.by.0 == owner) all)
  own_calls owner [] = refl
  own_calls owner (call ∷ all) = grind (arith, own_calls owner all)

  -- ---- the entry of a number, and the call of that number among its caller's calls: both have the same reply

  -- entries whose numbers count on from behind so many
  abbrev CountFrom : ℕ → List (Entry C R) → Type 0
  CountFrom before [] = Unit {0}
  CountFrom before (entry ∷ entries) = (entry.no ≡ before + 1) × CountFrom (before + 1) entries

  count_from : (before : ℕ) (entries : List (Entry C R)) → ((i : ℕ) (entry : Entry C R)
      → slice_get entries i ≡ Some entry → entry.no ≡ before + i + 1) → CountFrom before entries
  count_from before [] each = tt
  count_from before (entry ∷ entries) each = (
    (let here : entry.no ≡ before + 0 + 1 = each 0 entry refl in omega (arith, here)),
    count_from (before + 1) entries
        (λ i other is. (let there : other.no ≡ before + suc i + 1 = each (suc i) other is in omega (arith, there))),
  )

  -- a caller's calls, of these entries
  abbrev heard : ConnId → List (Entry C R) → List (ℕ × About C R)
  heard owner entries = map own_call_of (own entries owner)

  -- no call has a number up to where the entries begin
  none_below : (owner : ConnId) (number before : ℕ) (entries : List (Entry C R)) → CountFrom before entries
      → number ≤ before → reply_to number (heard owner entries) ≡ None
  none_below owner number before [] count low = refl
  none_below owner number before (entry ∷ entries) count low =
      grind (arith, nat_tests, none_below owner number (before + 1) entries count.1 (omega (arith, low)))

  -- the reply of an entry for a caller, and that of the caller's call with its number
  reply_there : (owner : ConnId) (before : ℕ) (entries : List (Entry C R)) (i : ℕ) → CountFrom before entries
      → reply_to (before + i + 1) (heard owner entries) ≡ option_and_then (reply_for owner) (slice_get entries i)
  reply_there owner before [] i count = refl
  reply_there owner before (entry ∷ entries) zero count = grind (arith, none_below, nat_tests)
  reply_there owner before (entry ∷ entries) (suc i) count =
      grind (arith, nat_tests, reply_there owner (before + 1) entries i count.1)

  -- the same by the number
  reply_numbered : (owner : ConnId) (entries : List (Entry C R)) (number : ℕ) → CountFrom 0 entries
      → reply_to number (heard owner entries) ≡ reply_at entries owner number
  reply_numbered owner entries zero count = none_below owner 0 0 entries count (omega arith)
  reply_numbered owner entries (suc i) count =
      let same : 0 + i + 1 ≡ suc i = omega arith in
      let back : suc i - 1 ≡ i = omega arith in
      let some : suc i == 0 ≡ false = grind (arith, nat_tests) in
      rw (some, back) (grind (arith, reply_there))

module _ {C R I S L : Type 0} (asks : L → Option ℕ) (downs : L → Option (List ℕ)) (faults : L → ℕ)
    (meaning : Meaning C R I S) (key : CellKey C R L) (limit : ℕ)
    (standing : StructureView S L) (touched : VectorWords) (journal : List (Entry C R)) (seat : SeatSeen (About C R))
    (cell : IsCell asks downs faults meaning key limit standing touched journal seat) where
  -- a number that was issued is a point of the journal
  pub issued_point : (n : ℕ) → IsIssued seat.log seat.number n → IsPoint journal n
  issued_point n (inl none) = inl none
  issued_point n (inr (inl done)) = inr (committed-all (λ (k : ℕ). Contains (numbers journal) k)
      seat.log n (subst (All (λ c. Contains (numbers journal) c.number)) (sym cell.commits) (All-map
      (λ c. Contains (numbers journal) c.number) commit_of (calls journal) (contains_number (calls journal)))) done)
  issued_point n (inr (inr flying)) = inl (flying ∙ cell.idle)

  pub issued_within : (n : ℕ) → IsIssued seat.log seat.number n → n ≤ length journal
  issued_within n issued =
      let numbered = numbered_legal meaning key.form journal cell.legal in numbered.within n (issued_point n issued)

  shown_is : (h : List (Entry C R)) (conn : ConnId) (index : ℕ) → index < key.form.vector
      → shown_after meaning key.form h conn index ≡ stands_after meaning key.form h conn index
  shown_is h conn index below = let is : nat_lt index key.form.vector ≡ true = grind (arith, nat_tests) in rw is refl

  shown_none : (h : List (Entry C R)) (conn : ConnId) (index : ℕ) → key.form.vector ≤ index
      → shown_after meaning key.form h conn index ≡ false
  shown_none h conn index past = grind (arith, nat_tests)

  pub told : (owner : ℕ) (test : Sight) → owner ≤ key.callers → IsHonest seat.log seat.number key.words.len owner test
      → IsTold meaning key.form journal owner test
  told owner test most honest =
      let conn : ConnId = record { 0 = owner } in
      let numbered = numbered_legal meaning key.form journal cell.legal in
      let point : IsPoint journal test.at = issued_point test.at honest.issued in
      let bits_of : ℕ → ℕ
      → Bool = λ len n. bit_in (bits_at (steps_of seat.log) (word_number len owner (test.index / 32)) n) test.index in
      let within : test.index / 32 < words_of key.form.vector = grind arith in
      let at_number : (n : ℕ) → bits_of key.words.len n ≡ shown_below meaning key.form journal (n + 1) conn test.index
      = λ n. ap (λ (len : ℕ). bits_of len n) cell.len ∙ cell.bits n test.index conn honest.connector most within in
      let here : shown_below meaning key.form journal (test.at + 1) conn test.index ≡ shown_after meaning key.form
      (take test.at journal) conn test.index = grind arith in
      let before : test.sure < test.at → shown_below meaning key.form journal (test.at - 1 + 1) conn test.index
      ≡ shown_after meaning key.form (take (last_call_below journal test.at) journal) conn test.index = grind arith in
      record {
        point = point;
        seen = honest.not_before;
        tells = grind (arith, shown_is);
        past = grind (arith, shown_none);
      }

  -- what a pass has shown
  pub tests_told : (pass : PassSeen (About C R)) → pass.table ≡ key.words → IsShown seat pass
      → All (IsTold meaning key.form journal pass.owner) pass.tests
  tests_told pass table shown =
      let most : pass.owner ≤ key.callers = grind arith in
      All-weaker (IsHonest seat.log seat.number pass.table.len pass.owner)
      (IsTold meaning key.form journal pass.owner) (λ test honest. told pass.owner test most
      (subst (λ w. IsHonest seat.log seat.number w.len pass.owner test) table honest)) pass.tests shown.tests

  -- of a cell's journal the entry of a number has for a caller what the caller's call of that number was replied
  pub reply_own : (owner : ConnId) (mine : List (ℕ × About C R)) (number : ℕ) → mine ≡ calls_of owner.0 seat.log
      → reply_at journal owner number ≡ reply_to number mine
  reply_own owner mine number is =
      let all : mine ≡ heard owner journal = grind (arith, own_calls) in
      sym (ap (reply_to number) all ∙ reply_numbered owner journal number (count_from 0 journal
      (λ i entry there. (let no : entry.no ≡ i + 1 = number_legal meaning key.form journal cell.legal i entry there in
      omega (arith, no)))))

-- ---- a cell that is closed

module _ {C R I S L : Type 0} (asks : L → Option ℕ) (downs : L → Option (List ℕ)) (faults : L → ℕ)
    (meaning : Meaning C R I S) (key seen : CellKey C R L) (limit : ℕ) (standing : StructureView S L)
    (touched : VectorWords) (journal history : List (Entry C R)) (seat : SeatSeen (About C R))
    (passes : List (PassSeen (About C R))) (cell : IsCell asks downs faults meaning key limit
    standing touched journal seat) (key_is : key ≡ seen) (history_is : history ≡ journal) where
  pub closed_mine : All (IsShown seat) passes → All
      (λ (pass : PassSeen (About C R)). pass.mine ≡ map own_call_of (own history (record { 0 = pass.owner }))) passes
  closed_mine shown = grind (arith, All-weaker, own_calls)

  pub closed_known : All (IsShown seat) passes
      → All (λ (pass : PassSeen (About C R)). IsPoint history pass.known × (pass.known ≤ length history)) passes
  closed_known shown = subst (λ (h : List (Entry C R)). All (λ (pass : PassSeen (About C R)). IsPoint h pass.known
      × (pass.known ≤ length h)) passes) (sym history_is) (All-weaker (IsShown seat)
      (λ (pass : PassSeen (About C R)). IsPoint journal pass.known × (pass.known ≤ length journal)) (λ pass it. (
        issued_point asks downs faults meaning key limit standing touched journal seat cell pass.known it.known,
        issued_within asks downs faults meaning key limit standing touched journal seat cell pass.known it.known,
      )) passes shown)

  pub closed_tests : All (λ (pass : PassSeen (About C R)). pass.table ≡ seen.words) passes → All (IsShown seat) passes
      → All (λ (pass : PassSeen (About C R)). All (IsTold meaning seen.form history pass.owner) pass.tests) passes
  closed_tests tables shown k d below =
      let pass : PassSeen (About C R) = get_or passes k d in
      let table : pass.table ≡ key.words = tables k d below ∙ ap (λ (it : CellKey C R L). it.words) (sym key_is) in
      subst (λ (it : CellKey C R L). All (IsTold meaning it.form history pass.owner) pass.tests) key_is
      (subst (λ (h : List (Entry C R)). All (IsTold meaning key.form h pass.owner) pass.tests) (sym history_is)
      (tests_told asks downs faults meaning key limit standing touched journal seat cell pass table (shown k d below)))

  abbrev pub RebuildIsTold : StrForm → List (Entry C R) → Type 0
  RebuildIsTold form h = (replay meaning form h).shell.rebuild ≡ rebuild_told (actives_after meaning form) h

  -- the journal's laws, of the history
  of_history : (Holds : StrForm → List (Entry C R) → Type 0) → Holds key.form journal → Holds seen.form history
  of_history Holds is = subst (λ (it : CellKey C R L). Holds it.form history) key_is
      (subst (Holds key.form) (sym history_is) is)

  pub closed_rebuild : RebuildIsTold seen.form history
  closed_rebuild = of_history RebuildIsTold (rebuild-legal meaning key.form journal cell.legal)

  pub closed_stops : StopsKeepTheOld meaning seen.form history
  closed_stops = of_history (StopsKeepTheOld meaning) (stops-legal meaning key.form journal cell.legal)

  pub closed_links : ((link : L) → TellsEnough (asks link) (downs link)) → (new : Links L) → new ≡ standing.links
      → (cf : CfId) → IsFacility cf → IsCountedAs asks downs faults (answers meaning seen.form history cf)
      (marks_at history cf) (link_at seen.links cf) (link_at new cf)
  closed_links enough new same = subst (λ (links : Links L). (cf : CfId) → IsFacility cf → IsCountedAs asks downs faults
      (answers meaning seen.form history cf) (marks_at history cf) (link_at seen.links cf) (link_at links cf)) (sym same)
      (subst (λ (it : CellKey C R L). (cf : CfId) → IsFacility cf → IsCountedAs asks downs faults
      (answers meaning it.form history cf) (marks_at history cf) (link_at it.links cf) (link_at standing.links cf)) key_is
      (subst (λ (h : List (Entry C R)). (cf : CfId) → IsFacility cf → IsCountedAs asks downs faults
      (answers meaning key.form h cf) (marks_at h cf) (link_at key.links cf) (link_at standing.links cf)) (sym history_is)
      (counted_links asks downs faults enough meaning key.form journal cell.legal key.links standing.links cell.links)))

-- the passes' table, by another name
pub same_tables : {D : Type 0} (words other : WordTable) (passes same : List (PassSeen D)) → words ≡ other
    → same ≡ passes
    → All (λ (pass : PassSeen D). pass.table ≡ words) passes → All (λ (pass : PassSeen D). pass.table ≡ other) same
same_tables {D} words other passes same is list_is all = grind arith

pub same_shown : {D : Type 0} (seat : SeatSeen D) (passes same : List (PassSeen D)) → same ≡ passes
    → All (IsShown seat) same → All (IsShown seat) passes
same_shown seat passes same is all = subst (All (IsShown seat)) is all
