-- What a judge has found of a structure, as the table of its callers' queues.
use Rattle.std.proofs.Common.{◌≡◌, ℕ, ◌+◌, ◌<◌, inl, inr, List, [], ◌∷◌, ◌++◌, length, map, take, drop, get_or, slice_get, Some, refl, sym, ap, subst, ◌∙◌, Result}
use Rattle.std.specs.Prelude.{All, IfOk}
use Rattle.std.proofs.lemmas.Option.{slice_get-get_or, slice_get_within}
use Rattle.std.proofs.lemmas.List.{length-append, map-append}
use Rattle.std.proofs.Math.Seq.{take-append_seam}
use Rattle.std.proofs.lemmas.Result.{IfOk-weaker}
use Rattle.std.specs.declared.alloc.Global.{Global}
use Rattle.std.specs.declared.vec.Vec.{Vec}
use Rattle.cf_types.specs.NoMemory.declared.wants.NoMemory.{NoMemory}
use Rattle.cf_types.specs.declared.forms.StrForm.{StrForm}
use Rattle.cf_types.specs.declared.numbers.ConnId.{ConnId}
use Rattle.cf_types.specs.declared.numbers.StrNo.{StrNo}
use Rattle.vector_waits.specs.Waits.{QueueView, untold}
use Rattle.history_check.specs.declared.judged.Judged.{Judged}
use Rattle.history_check.specs.Queues.{HasTestsOf, Pairs}
use Rattle.check_model.specs.RunShown.PlexScript.declared.asks.AnyHistory.{AnyHistory}
use Rattle.check_model.specs.RunShown.PlexScript.declared.scripts.Script.{Script}
use Rattle.check_model.specs.RunShown.PlexScript.declared.transcripts.Shown.{Shown}
use Rattle.check_model.specs.RunShown.Kinds.{IsAnyLegal}
use Rattle.check_model.specs.declared.printed.Printed.{Printed}
use Rattle.check_model.specs.Judged.{IsAnyBadBlock, AreLegalBelow, IsBadEntryOf}
use Rattle.caller_check.specs.Tables.{AnySettled, IsAnswered, AreAnswered, rows_of}
use Rattle.plex_check.specs.Checks.{IsAnyJudged, IsQueueOf, AreQueuesOf, IsTable, IsTableWhere, IsStructureJudged, AreTables}
use Rattle.plex_check.proofs.Rows.{nowhere, some_same, found, get_push, each_of, at_place, pairs_length, pair_at}

any_legal : (form : StrForm) (entries : AnyHistory) → IsAnyJudged form entries Judged.Legal → IsAnyLegal form entries
any_legal form (AnyHistory.Cache entries) is = is
any_legal form (AnyHistory.List entries) is = is
any_legal form (AnyHistory.Lock entries) is = is

any_bad : (form : StrForm) (entries : AnyHistory) (place : ℕ) → IsAnyJudged form entries (Judged.Bad place)
    → IsAnyBadBlock form entries place
any_bad form (AnyHistory.Cache entries) place is = is
any_bad form (AnyHistory.List entries) place is = is
any_bad form (AnyHistory.Lock entries) place is = is

module _ (printed : Printed) (on : StrNo) (form : StrForm) (entries : AnyHistory) where
  abbrev AreAsking : List QueueView → Type 0
  AreAsking queues = AreQueuesOf printed.histories on form.vector printed.transcripts (length printed.transcripts) queues

  answered : (conn : ConnId) (items : List Shown) (old new : QueueView)
      → IsQueueOf printed.histories on form.vector conn items old → HasTestsOf old new → AnySettled form entries new
      → IsAnswered printed.histories on form entries conn items new
  answered conn items old new asks same settled = record {
    many = asks.many;
    order = asks.order;
    caller = same.conn ∙ ap (λ (q : QueueView). q.conn) asks.tests;
    tests = same.waits ∙ ap (λ (q : QueueView). map untold q.waits) asks.tests;
    settled = settled;
  }

  -- what a judge leaves of the queues
  pub table_where : (olds news : List QueueView) (found : Judged) → AreAsking olds → Pairs HasTestsOf olds news
      → IsAnyJudged form entries found → (found ≡ Judged.Legal → All (AnySettled form entries) news)
      → IsTableWhere printed on form entries news found
  table_where olds news Judged.Legal asking pairs judged told = record {
    legal = any_legal form entries judged;
    row = pairs_length HasTestsOf olds news pairs ∙ asking.size;
    each = λ conn transcript queue there at.
        let old = pair_at HasTestsOf olds news conn.0 queue pairs at in
        answered conn transcript.items old.0 queue (asking.each conn transcript old.0 there old.1) old.2
        (each_of (AnySettled form entries) news conn.0 queue (told refl) at);
  }
  table_where olds news (Judged.Bad place) asking pairs judged told = any_bad form entries place judged

  -- the same, as a slice writes the queues back into their Vec
  pub table_back : (olds part news : List QueueView) (len : ℕ) → len ≡ length olds → part ≡ olds → (found : Judged)
      → AreAsking olds → Pairs HasTestsOf part news → IsAnyJudged form entries found
      → (found ≡ Judged.Legal → All (AnySettled form entries) news)
      → IsTableWhere printed on form entries (take len (news ++ drop (length news) olds)) found
  table_back olds part news len size same found asking pairs judged told =
      let both : Pairs HasTestsOf olds news = subst (λ (p : List QueueView). Pairs HasTestsOf p news) same pairs in
      let many : len ≡ length news = size ∙ sym (pairs_length HasTestsOf olds news both) in
      let back : take len (news ++ drop (length news) olds) ≡ news =
      ap (λ (n : ℕ). take n (news ++ drop (length news) olds)) many
      ∙ take-append_seam news (drop (length news) olds) in
      subst (λ (t : List QueueView). IsTableWhere printed on form entries t found) (sym back)
      (table_where olds news found asking both judged told)

-- ---- one structure after another

module _ (script : Script) (printed : Printed) where
  pub tables_none : AreTables script printed 0 []
  tables_none = record {
    size = refl;
    each = λ on form entries table known there at. absurd (nowhere on.0 table at);
  }

  pub tables_more : (n : ℕ) (tables : List (List QueueView)) → AreTables script printed n tables → (form : StrForm)
      (entries : AnyHistory) → slice_get script.structures n ≡ Some form → slice_get printed.histories n ≡ Some entries
      → (table : List QueueView) → IsTable printed (record { 0 = n }) form entries table
      → AreTables script printed (n + 1) (tables ++ table ∷ [])
  tables_more n tables so_far form entries known there table made = record {
    size = (let size : length tables ≡ n = so_far.size in
        length-append tables (table ∷ []) ∙ ap (λ (m : ℕ). m + 1) size);
    each = λ on other others next is its at. elim (get_push tables table on.0 next at) [
      | inl old ↦ so_far.each on other others next is its old
      | inr last ↦
          let number : on.0 ≡ n = last.0 ∙ so_far.size in
          let whose : (let it : StrNo = record { 0 = n } in it ≡ on) =
          ap (λ (m : ℕ). (let it : StrNo = record { 0 = m } in it)) (sym number) in
          let here : slice_get script.structures on.0 ≡ Some form =
          subst (λ (m : ℕ). slice_get script.structures m ≡ Some form) (sym number) known in
          let its_here : slice_get printed.histories on.0 ≡ Some entries =
          subst (λ (m : ℕ). slice_get printed.histories m ≡ Some entries) (sym number) there in
          subst (λ (t : List QueueView). IsTable printed on other others t) (sym last.1)
          (subst (λ (h : AnyHistory). IsTable printed on other h table) (some_same entries others (sym its_here ∙ its))
          (subst (λ (f : StrForm). IsTable printed on f entries table) (some_same form other (sym here ∙ is))
          (subst (λ (o : StrNo). IsTable printed o form entries table) whose made)))
    ];
  }

  -- those before this structure are legal
  pub tables_legal : (n : ℕ) (tables : List (List QueueView)) → AreTables script printed n tables
      → AreLegalBelow script printed.histories n
  tables_legal n tables so_far x form entries less known there =
      let within : x < length tables = subst (λ (m : ℕ). x < m) (sym so_far.size) less in
      let table = get_or tables x [] in
      (so_far.each (record { 0 = x }) form entries table known there (slice_get-get_or tables x [] within)).legal

  pub tables_answer : (tables : List (List QueueView)) → AreTables script printed (length script.structures) tables
      → length printed.histories ≡ length script.structures → AreAnswered script printed tables
  tables_answer tables all size = record {
    size = all.size;
    rows = λ x table at.
        let within : x < length script.structures =
        subst (λ (m : ℕ). x < m) all.size (slice_get_within tables x table at) in
        row_of x table at within;
    each = λ on form entries table conn transcript queue known its at there found.
        (all.each on form entries table known its at).each conn transcript queue there found;
  }
    where
      row_of : (x : ℕ) (table : List QueueView) → slice_get tables x ≡ Some table → x < length script.structures
          → length table ≡ length printed.transcripts
      row_of x table at within =
          let form = found script.structures x within in
          let entries = found printed.histories x (subst (λ (m : ℕ). x < m) (sym size) within) in
          (all.each (record { 0 = x }) form.0 entries.0 table form.1 entries.1 at).row

  -- ---- as they are judged

  pub structure_judged : {F : Type 0} (table : F → List QueueView) (judged : F → Judged) (on : StrNo)
      (forms : List StrForm) (histories : List AnyHistory) (place : ℕ) → forms ≡ script.structures
      → histories ≡ printed.histories → place ≡ on.0 → on.0 < length script.structures
      → length printed.histories ≡ length script.structures → (form : StrForm) → form ≡ get_or forms place form
      → (entries : AnyHistory) → entries ≡ get_or histories place entries → (result : Result F NoMemory)
      → IfOk result (λ found. IsTableWhere printed on form entries (table found) (judged found))
      → IfOk result (λ found. IsStructureJudged script printed on (table found) (judged found))
  structure_judged table judged on forms histories place forms_are histories_are is within size form known entries there
      result = IfOk-weaker result (λ found. IsTableWhere printed on form entries (table found) (judged found))
      (λ found. IsStructureJudged script printed on (table found) (judged found)) (λ found where_it_is. record {
        form = form;
        entries = entries;
        known = at_place script.structures forms place on.0 form forms_are is within known;
        there = at_place printed.histories histories place on.0 entries histories_are is
            (subst (λ (m : ℕ). on.0 < m) (sym size) within) there;
        is = where_it_is;
      })

  pub bad_found : (n place : ℕ) (tables : List (List QueueView)) → AreTables script printed n tables → (judged : Judged)
      (table : List QueueView) → judged ≡ Judged.Bad place
      → IsStructureJudged script printed (record { 0 = n }) table judged
      → AreLegalBelow script printed.histories n × IsBadEntryOf script printed.histories (record { 0 = n }) place
  bad_found n place tables so_far judged table is found = (
    tables_legal n tables so_far,
    record {
      form = found.form;
      entries = found.entries;
      known = found.known;
      there = found.there;
      bad = subst (λ (j : Judged). IsTableWhere printed (record { 0 = n }) found.form found.entries table j) is found.is;
    },
  )

  pub legal_found : (n : ℕ) (tables news : List (Vec QueueView Global)) (table : Vec QueueView Global)
      → AreTables script printed n (rows_of tables) → (judged : Judged) → judged ≡ Judged.Legal
      → IsStructureJudged script printed (record { 0 = n }) table.items judged → news ≡ tables ++ table ∷ []
      → AreTables script printed (n + 1) (rows_of news)
  legal_found n tables news table so_far judged is found made =
      subst (λ (l : List (Vec QueueView Global)). AreTables script printed (n + 1) (rows_of l)) (sym made)
      (subst (AreTables script printed (n + 1)) (sym (map-append (λ (t : Vec QueueView Global). t.items) tables
      (table ∷ []))) (tables_more n (rows_of tables) so_far found.form found.entries found.known found.there table.items
      (subst (λ (j : Judged). IsTableWhere printed (record { 0 = n }) found.form found.entries table.items j) is
      found.is)))
