-- A bit that stands tells a fresh copy.
use Rattle.run_laws.proofs.Imports.{arith, ◌≡◌, ℕ, true, [], ◌++◌, Option, None, Some, is_some, take, drop, append-nil, refl, sym, ap, ◌∙◌, subst, IsTrue, option_and_then, find, false≢true, take-append-drop, Read, StrForm, ConnId, Tells, stands_after, continues_legal, any_is_found, all_found, is_at, registered_at, CacheItem, Content, altered_caches, is_row_of, row_of, has_row, reply_copy, row_copy, fresh-at, copy_held, IsAsRead, IsFresh, TellsFresh, CacheHistory, IsLegalCache, content_after, Bool, List, StrNo, AnyHistory, Script, Shown, Transcript, surest_on, ShowsHistories, TellsBit, TellsOf, place_of, BitTellsFresh, TellsFreshBy, ShowsFresh, inl, inr, last_call_below}
use Rattle.run_laws.proofs.{Allocated.continues_both, CacheTraces.HasTrace, CacheTraces.trace-continues}
use Rattle.run_laws.proofs.{CacheReplies.answer-content, CacheReplies.copy-read, UniqueLaws.orderly_replay}

-- ---- the registration of a bit that stands, and its row

some_found : {X : Type 0} (o : Option X) → is_some o ≡ true → (x : X) × (o ≡ Some x)
some_found None e = absurd (false≢true e)
some_found (Some x) e = (x, refl)

fresh-trace : (form : StrForm) (history : CacheHistory) (conn : ConnId) (index : ℕ) → HasTrace form history
    → stands_after altered_caches form history conn index ≡ true → IsFresh form history conn index
fresh-trace form history conn index trace stands =
    let content : Content = content_after form history in
    let is = orderly_replay form history in
    let reg = some_found (find (is_at conn index) content.regs)
    (sym (any_is_found (is_at conn index) content.regs) ∙ stands) in
    let name = reg.0.name in
    let has : has_row name content.rows ≡ true = grind (arith, all_found) in
    let row = some_found (row_of name content.rows) (sym (any_is_found (is_row_of name) content.rows) ∙ has) in
    let registered : registered_at content.regs conn index ≡ Some name = grind arith in
    let held = fresh-at content.rows (copy_held history) conn index name content.regs trace registered in
    record {
      name = name;
      row = row.0;
      stands = stands;
      registered = registered;
      there = row.1;
      same = held ∙ ap (λ (o : Option CacheItem). option_and_then row_copy o) row.1;
    }

-- ---- legal histories, and what stands at their front

pub trace-legal : (form : StrForm) (front others : CacheHistory) → IsLegalCache form (front ++ others)
    → HasTrace form front
trace-legal form front others legal = trace-continues form front (continues_both altered_caches form [] front others
    (continues_legal altered_caches form (front ++ others) legal)).0

trace-take : (form : StrForm) (history : CacheHistory) (n : ℕ) → IsLegalCache form history
    → HasTrace form (take n history)
trace-take form history n legal = trace-legal form (take n history)
    (drop n history) (subst (IsLegalCache form) (sym (take-append-drop n history)) legal)

-- after a legal history each bit that stands tells a fresh copy
pub fresh_copy : (form : StrForm) (history : CacheHistory) → IsLegalCache form history → (conn : ConnId) (index : ℕ)
    → IsTrue (stands_after altered_caches form history conn index) → IsFresh form history conn index
fresh_copy form history legal conn index stands = fresh-trace form history
    conn index (trace-legal form history [] (subst (IsLegalCache form) (sym (append-nil history)) legal)) stands

-- a test that tells that the bit stands tells a fresh copy
pub fresh_test : (form : StrForm) (history : CacheHistory) → IsLegalCache form history → (n q : ℕ) (conn : ConnId)
    (index : ℕ) → Tells altered_caches form history n q conn index true → TellsFresh form history n q conn index
fresh_test form history legal n q conn index tells = record {
  point = tells.point;
  seen = tells.seen;
  fresh = elim tells.stood [
    | inl stood ↦ inl (stood_fresh n (sym stood))
    | inr (late, stood) ↦ inr (late, stood_fresh (last_call_below history n) (sym stood))
  ];
}
  where
    stood_fresh : (m : ℕ) → stands_after altered_caches form (take m history) conn index ≡ true
        → IsFresh form (take m history) conn index
    stood_fresh m stood = fresh-trace form (take m history) conn index (trace-take form history m legal) stood

-- and so an accepted READ of its name, by anyone, is answered with what is held
pub copy_as_read : (form : StrForm) (history : CacheHistory) → IsLegalCache form history → (conn : ConnId) (index : ℕ)
    → IsTrue (stands_after altered_caches form history conn index) → IsAsRead form history conn index
copy_as_read form history legal conn index stands =
    let fresh = fresh_copy form history legal conn index stands in
    let rows = (content_after form history).rows in
    record {
      name = fresh.name;
      registered = fresh.registered;
      same = λ by at old stg answer told. ap reply_copy
          (answer-content form history by (Read fresh.name at old stg) answer told) ∙ copy-read rows fresh.name stg
          ∙ ap (λ (o : Option CacheItem). option_and_then row_copy o) fresh.there ∙ sym fresh.same;
    }

-- ---- tests of a run

bit_fresh : (form : StrForm) (entries : CacheHistory) (conn : ConnId)
    (on : StrNo) (before : List Shown) (at index : ℕ) (bit : Bool) → IsLegalCache form entries → TellsBit
    form (AnyHistory.Cache entries) conn on before at index bit → BitTellsFresh form entries conn on before at index bit
bit_fresh form entries conn on before at index bit legal tells stood =
    let sure : ℕ = surest_on on before in
    fresh_test form entries legal at sure conn index
    (subst (λ (b : Bool). Tells altered_caches form entries at sure conn index b) stood tells.tells)

item_fresh : (form : StrForm) (entries : CacheHistory)
    (conn : ConnId) (on : StrNo) (before : List Shown) (item : Shown) → IsLegalCache form entries
    → TellsOf form (AnyHistory.Cache entries) conn on before item → TellsFreshBy form entries conn on before item
item_fresh form entries conn on before (Shown.Test place index bit at) legal tells =
    bit_fresh form entries conn on before at index bit legal tells
item_fresh form entries conn on before (Shown.Word place word value at) legal tells = record {
  bits = tells.bits;
  made = tells.made;
  each = λ k few within. bit_fresh form entries conn on before at _ (tells.bits k) legal (tells.each k few within);
}
item_fresh form entries conn on before _ legal tells = tt

pub valid_is_fresh : (limit : ℕ) (script : Script) (histories : List AnyHistory) (transcripts : List Transcript)
    → ShowsHistories limit script histories transcripts → ShowsFresh script histories transcripts
valid_is_fresh limit script histories transcripts shows c k transcript item form entries of_caller there known
    of_structure =
    item_fresh form entries (record { 0 = c }) (place_of item) (take k transcript.items) item
    (shows.histories_right (place_of item).0 form (AnyHistory.Cache entries) known of_structure).legal
    (shows.tests c transcript of_caller k item form (AnyHistory.Cache entries) there known of_structure)
