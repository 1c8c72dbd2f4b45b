-- A report can be read in one way.
use Rattle.run_laws.proofs.Imports.{◌≡◌, ℕ, suc, ◌≤◌, ◌<◌, ◌==◌, ◌^◌, List, [], ◌∷◌, ◌++◌, length, map, Option, Some, None, slice_get, refl, sym, ap, subst, ◌∙◌, arith, codes, slice_get_within, get_within, StrForm, StrNo, AnyHistory, Script, Shown, Transcript, AnyCall, any_calls, call_numbered, own_calls, calls_of, calls_on, length_of, length_on, Follows, numbers_on, IsAnyLegal, Rising, calls_rise, caller_name, connector_line, transcript_lines, shown_line, structures_lines, histories_lines, transcripts_lines, Reading, IsReading, IsOnlyReading, report_of, AgentEnd}
use Rattle.run_laws.proofs.Heard.{AreHeard, heard_each, heard_own, heard_within, numbers_of}
use Rattle.run_laws.proofs.Histories.{IsPlayedAt, IsRight, histories_same}
use Rattle.run_laws.proofs.Items.{IsBounded, AreBounded, follows_same}
use Rattle.run_laws.proofs.Cuts.{text_of, same_behind, same_heading, all_same}
use Rattle.run_laws.proofs.{Callers.AreApart, Callers.names_apart}
use Rattle.run_laws.proofs.{Played.own_plays, Sizes.short_at, Sizes.small, Sizes.few_at}

-- ---- transcripts

-- a caller's transcript: it follows the script to its end, and what it tells has at most 64 bits
record IsTold (script : Script) (histories : List AnyHistory) (c : ℕ) (transcript : Transcript) : Type 0 where
  follows : Follows script histories (record { 0 = c }) transcript.items
  bounded : AreBounded transcript.items
  few : length transcript.items < 2 ^ 64
  done : transcript.end ≡ AgentEnd.Done

module _ (script : Script) (histories : List AnyHistory) (small : (on : StrNo) → length_on histories on < 2 ^ 64)
    (within : (on : StrNo) (number : ℕ) (call : AnyCall) → call_numbered number (calls_on histories on) ≡ Some call
    → number ≤ length_on histories on) where
  transcript_same : (c : ℕ) (a b : Transcript) (xs ys : List (List ℕ)) → IsTold script histories c a
      → IsTold script histories c b → text_of (transcript_lines script c a ++ xs) ≡ text_of
      (transcript_lines script c b ++ ys) → (a ≡ b) × (text_of xs ≡ text_of ys)
  transcript_same c a b xs ys told told' e =
      let counts = same_heading (codes "TRANSCRIPT") (caller_name script c) (length a.items) (length b.items)
      (map (shown_line script) a.items ++ xs) (map (shown_line script) b.items ++ ys) told.few told'.few e in
      let shows = follows_same script histories small within (record { 0 = c }) a.items b.items xs ys told.follows
      told'.follows told.bounded told'.bounded counts.1 in
      let items : a.items ≡ b.items = shows.0 in
      let ends : a.end ≡ b.end = told.done ∙ sym told'.done in
      (grind arith, shows.1)

-- ---- what holds of a reading

module _ (script : Script) (reading : Reading) (is : IsReading script reading)
    (short : length (report_of script reading) < 2 ^ 64) where
  abbrev histories : List AnyHistory
  histories = reading.histories

  form_at : (x : ℕ) (entries : AnyHistory) → slice_get histories x ≡ Some entries → (form : StrForm)
      × (slice_get script.structures x ≡ Some form)
  form_at x entries there =
      get_within script.structures x (omega (arith, slice_get_within histories x entries there, is.structures))

  -- what no history has, and what each legal one has, the one at a place has
  at_place : (P : Option AnyHistory → Type 0) → P None → ((form : StrForm) (entries : AnyHistory)
      → IsAnyLegal form entries → P (Some entries)) → (on : StrNo) → P (slice_get histories on.0)
  at_place P none some on = go (slice_get histories on.0) refl
    where
      go : (o : Option AnyHistory) → slice_get histories on.0 ≡ o → P o
      go None e = none
      go (Some entries) e =
          let form = form_at on.0 entries e in
          some form.0 entries (is.histories_right on.0 form.0 entries form.1 e).legal

  rising : (on : StrNo) → Rising 0 (calls_on histories on)
  rising = at_place (λ o. Rising 0 (calls_of o)) tt calls_rise

  within_history : (on : StrNo) (number : ℕ) (call : AnyCall) → call_numbered number (calls_on histories on) ≡ Some call
      → number ≤ length_on histories on
  within_history = at_place (λ o. (number : ℕ) (call : AnyCall) → call_numbered number (calls_of o) ≡ Some call
      → number ≤ length_of o) (λ number call found. absurd cc) heard_within

  follows_of : (c : ℕ) (transcript : Transcript) → slice_get reading.transcripts c ≡ Some transcript
      → Follows script histories (record { 0 = c }) transcript.items
  follows_of c transcript there = (is.follows c transcript there).1

  -- each caller's calls at a structure are its works
  played_at : (x : ℕ) (form : StrForm) (entries : AnyHistory) → slice_get script.structures x ≡ Some form
      → slice_get histories x ≡ Some entries → IsPlayedAt script (record { 0 = x }) form.kind (any_calls entries)
  played_at x form entries known there by low =
      let on : StrNo = record { 0 = x } in
      let its = get_within reading.transcripts by.0 (omega (arith, low, is.callers)) in
      let calls_there : calls_on histories on ≡ any_calls entries = rw there refl in
      let numbers : numbers_on on its.0.items ≡ numbers_of (own_calls (any_calls entries) by) =
      (follows_of by.0 its.0 its.1).agrees.numbers on (slice_get_within histories x entries there)
      ∙ ap (λ (cs : List AnyCall). numbers_of (own_calls cs by)) calls_there in
      let each : AreHeard (calls_on histories on) (own_calls (any_calls entries) by) =
      subst (λ (cs : List AnyCall). AreHeard (calls_on histories on) (own_calls cs by)) calls_there
      (heard_own (calls_on histories on) (calls_on histories on) (λ call. call.by.0 == by.0)
      (heard_each 0 (calls_on histories on) (rising on))) in
      own_plays script histories by its.0.items on form (own_calls (any_calls entries) by) (follows_of by.0 its.0 its.1)
      known numbers each

  right_at : (n : ℕ) (entries : AnyHistory) → slice_get histories n ≡ Some entries
      → (form : StrForm) × IsRight script n form entries
  right_at n entries there =
      let form = form_at n entries there in (
        form.0,
        record {
          known = form.1;
          short = short_at script reading short n entries there;
          right = is.histories_right n form.0 entries form.1 there;
          marks = is.facilities n entries there;
          plays = played_at n form.0 entries form.1 there;
        },
      )

  -- what a transcript's items tell has at most 64 bits
  item_bounded : (c k : ℕ) (transcript : Transcript) (item : Shown)
      → slice_get reading.transcripts c ≡ Some transcript → slice_get transcript.items k ≡ Some item → IsBounded item
  item_bounded c k transcript (Shown.Posted on sure) there e =
      let note = (follows_of c transcript there).agrees.notes k (Shown.Posted on sure) e in grind (arith, small)
  item_bounded c k transcript (Shown.Took on sure) there e =
      let note = (follows_of c transcript there).agrees.notes k (Shown.Took on sure) e in grind (arith, small)
  item_bounded c k transcript item there e = is.numbers c k transcript item there e

  all_bounded : (items : List Shown) → ((k : ℕ) (item : Shown) → slice_get items k ≡ Some item → IsBounded item)
      → AreBounded items
  all_bounded [] h = tt
  all_bounded (item ∷ items) h = (h 0 item refl, all_bounded items (λ k other e. h (suc k) other e))

  told_at : (c : ℕ) (transcript : Transcript) → slice_get reading.transcripts c ≡ Some transcript
      → IsTold script histories c transcript
  told_at c transcript there = record {
    follows = follows_of c transcript there;
    bounded = all_bounded transcript.items (λ k item e. item_bounded c k transcript item there e);
    few = few_at script reading short c transcript there;
    done = (is.follows c transcript there).0;
  }

-- ---- two readings

-- the text behind the policy
behind_policy : (script : Script) (one other : Reading) → report_of script one ≡ report_of script other → text_of
    (histories_lines script one.histories ++ (transcripts_lines script one.transcripts ++ codes "END" ∷ [])) ≡ text_of
    (histories_lines script other.histories ++ (transcripts_lines script other.transcripts ++ codes "END" ∷ []))
behind_policy script one other e =
    let rest : Reading → List (List ℕ) = λ reading. histories_lines script
    reading.histories ++ (transcripts_lines script reading.transcripts ++ codes "END" ∷ []) in
    same_behind (map connector_line script.connectors) (rest one)
    (rest other) (same_behind (structures_lines script) (map connector_line script.connectors ++ rest one)
    (map connector_line script.connectors ++ rest other) (grind (arith, same_behind)))

one_reading : (script : Script) (one other : Reading) → AreApart script.connectors
    → IsReading script one → IsReading script other → length (report_of script one) < 2 ^ 64
    → report_of script one ≡ report_of script other → one ≡ other
one_reading script one other apart is is' short e =
    let short' : length (report_of script other) < 2 ^ 64 = subst (λ (text : List ℕ). length text < 2 ^ 64) e short in
    let first = histories_same script one.histories other.histories (transcripts_lines
    script one.transcripts ++ codes "END" ∷ []) (transcripts_lines script other.transcripts ++ codes "END" ∷ [])
    apart (is.structures ∙ sym is'.structures) (right_at script one is short) (right_at script other is' short')
    (behind_policy script one other e) in
    let histories : one.histories ≡ other.histories = first.0 in
    let transcripts = all_same (λ c transcript. transcript_lines script c transcript) (IsTold script one.histories)
    (transcript_same script one.histories (small script one short) (within_history script one is short))
    one.transcripts other.transcripts (codes "END" ∷ []) (codes "END" ∷ []) (is.callers ∙ sym is'.callers)
    (told_at script one is short) (λ c transcript there. subst (λ (hs : List AnyHistory). IsTold script hs c transcript)
    (sym histories) (told_at script other is' short' c transcript there)) first.1 in
    let same : one.transcripts ≡ other.transcripts = transcripts.0 in
    grind arith

pub only_reading : IsOnlyReading
only_reading text script one other says is is' short e = grind (arith, one_reading, names_apart)
