-- A caller's items, one after another, held against the queues of its structures.
use Rattle.std.proofs.Common.{◌≡◌, ◌≢◌, ℕ, zero, suc, ◌+◌, ◌-◌, ◌<◌, ◌≤◌, ◌==◌, inl, inr, ◌⊎◌, Bool, true, false, if◌then◌else◌, List, [], ◌∷◌, ◌++◌, length, take, drop, get_or, set, replicate, slice_get, Option, Some, None, refl, sym, ap, subst, ◌∙◌, arith, append-nil, take_all}
use Rattle.std.specs.Prelude.{All}
use Rattle.std.proofs.lemmas.Bool.{cases_lt, false≢true}
use Rattle.std.proofs.lemmas.Bool.Decides.{nat_tests}
use Rattle.std.proofs.lemmas.List.{length-set, length-replicate, get_or-replicate, get_or-set_same, get_or-set_other, get_or_past, get_or_default, take_more, drop_more, drop_all}
use Rattle.std.proofs.lemmas.Option.{slice_get-get_or, slice_get_within, get_or_from_slice_get}
use Rattle.std.specs.declared.vec.Vec.{Vec}
use Rattle.std.specs.declared.alloc.Global.{Global}
use Rattle.cf_lists.proofs.TableLaws.{get_within}
use Rattle.caller_slots.specs.RunShown.CfTypes.declared.forms.StrForm.{StrForm}
use Rattle.caller_slots.specs.RunShown.CfTypes.declared.numbers.ConnId.{ConnId}
use Rattle.caller_slots.specs.RunShown.CfTypes.declared.numbers.StrNo.{StrNo}
use Rattle.caller_slots.specs.RunShown.PlexScript.declared.asks.AnyHistory.{AnyHistory}
use Rattle.caller_slots.specs.RunShown.PlexScript.declared.transcripts.Shown.{Shown}
use Rattle.caller_slots.specs.RunShown.PlexScript.Follows.{surest_on}
use Rattle.caller_slots.specs.RunShown.Headline.{place_of, TellsOf}
use Rattle.caller_slots.proofs.Own.{same_place}
use Rattle.vector_waits.specs.declared.wait.Wait.{Wait}
use Rattle.vector_waits.specs.Waits.{QueueView}
use Rattle.caller_waits.specs.Tests.{item_waits, waits_at, waits_of, IsWithin, IsSmall, AllTell}
use Rattle.caller_waits.proofs.TestLaws.{tells_waits, tells_within}
use Rattle.caller_waits.proofs.FirstLaws.{IsRight, right_tests}
use Rattle.caller_check.specs.Tables.{rows_of}
use Rattle.caller_check.specs.Untold.{bit_past, then_past, word_past, item_past, IsQueueAt, HaveRows, IsItemPast, HaveQueues, AreSeen, IsFirstUntold}
use Rattle.caller_check.proofs.ToldLaws.{Fits, Answers, fits_left, fits_right, item_answers, queue_fits}

-- ---- a word's bits

module _ (vector word value : ℕ) (waits : List Wait) (many : ℕ) where
  abbrev pub behind : ℕ → ℕ → Option ℕ
  behind k place = word_past vector word value waits k (many - k) place

  pub bits_start : (place : ℕ) → behind 0 place ≡ word_past vector word value waits 0 many place
  bits_start place =
      let is : many - 0 ≡ many = omega arith in
      ap (λ (n : ℕ). word_past vector word value waits 0 n place) is

  bit_goes : (k place : ℕ) → k < many → behind k place ≡ then_past (bit_past vector word value waits k place)
      (word_past vector word value waits (k + 1) (many - (k + 1)))
  bit_goes k place few =
      let is : many - k ≡ suc (many - (k + 1)) = omega (arith, few) in
      ap (λ (n : ℕ). word_past vector word value waits k n place) is

  pub bit_more : (k place : ℕ) (all : Option ℕ) → behind k place ≡ all → k < many → (next : ℕ)
      → Some next ≡ bit_past vector word value waits k place → behind (k + 1) next ≡ all
  bit_more k place all so_far few next is =
      ap (λ (o : Option ℕ). then_past o (word_past vector word value waits (k + 1) (many - (k + 1)))) is
      ∙ sym (bit_goes k place few) ∙ so_far

  pub bit_stops : (k place : ℕ) (all : Option ℕ) → behind k place ≡ all → k < many
      → None ≡ bit_past vector word value waits k place → None ≡ all
  bit_stops k place all so_far few is =
      ap (λ (o : Option ℕ). then_past o (word_past vector word value waits (k + 1) (many - (k + 1)))) is
      ∙ sym (bit_goes k place few) ∙ so_far

  pub bits_end : (k place : ℕ) (all : Option ℕ) → behind k place ≡ all → many ≤ k → Some place ≡ all
  bits_end k place all so_far past' =
      let is : many - k ≡ 0 = omega (arith, past') in
      sym (ap (λ (n : ℕ). word_past vector word value waits k n place) is) ∙ so_far

-- ---- a queue of the tables

row_at : (tables : List (Vec QueueView Global)) (x : ℕ) (table : Vec QueueView Global)
    → slice_get tables x ≡ Some table → slice_get (rows_of tables) x ≡ Some table.items
row_at [] x table at = absurd (nowhere x at)
  where
    nowhere : (k : ℕ) → slice_get [] k ≡ Some table → ⊥
    nowhere k e = cc
row_at (first ∷ tables) zero table at =
    let is : first ≡ table = cc in ap (λ (t : Vec QueueView Global). Some t.items) is
row_at (first ∷ tables) (suc x) table at = row_at tables x table at

rows_length : (tables : List (Vec QueueView Global)) → length (rows_of tables) ≡ length tables
rows_length [] = refl
rows_length (first ∷ tables) = ap suc (rows_length tables)

module _ (forms : List StrForm) (tables : List (Vec QueueView Global)) (conn : ConnId) (on : StrNo)
    (rows : HaveRows forms (rows_of tables) conn) (known : on.0 < length forms) (place : ℕ) (place_is : place ≡ on.0) where
  pub in_tables : place < length tables
  in_tables =
      let size : length (rows_of tables) ≡ length forms = rows.size in
      let same = rows_length tables in omega (arith, known, place_is, size, same)

  row_here : (table : Vec QueueView Global) → table ≡ get_or tables place table → slice_get (rows_of tables) on.0
      ≡ Some table.items
  row_here table is = subst (λ (n : ℕ). slice_get (rows_of tables) n ≡ Some table.items) place_is
      (row_at tables place table (slice_get-get_or tables place table in_tables ∙ ap (λ (t : Vec QueueView Global). Some t)
      (sym is)))

  pub in_row : (table : Vec QueueView Global) → table ≡ get_or tables place table → (number : ℕ) → number ≡ conn.0
      → number < length table.items
  in_row table is number same =
      let few = rows.rows on.0 table.items (row_here table is) in omega (arith, few, same)

  pub queue_found : (form : StrForm) → form ≡ get_or forms place form → (vector : ℕ) → vector ≡ form.vector
      → (table : Vec QueueView Global) → table ≡ get_or tables place table → (number : ℕ) → number ≡ conn.0
      → (queue : QueueView) → queue ≡ get_or table.items number queue → (waits : List Wait) → waits ≡ queue.waits
      → IsQueueAt forms (rows_of tables) conn on vector waits
  queue_found form form_is vector vector_is table table_is number number_is queue queue_is waits waits_are = record {
    form = form;
    known = subst (λ (n : ℕ). slice_get forms n ≡ Some form) place_is
        (slice_get-get_or forms place form (omega (arith, known, place_is)) ∙ ap (λ (f : StrForm). Some f) (sym form_is));
    vector_is = vector_is;
    table = table.items;
    row = row_here table table_is;
    queue = queue;
    there = subst (λ (n : ℕ). slice_get table.items n ≡ Some queue) number_is
        (slice_get-get_or table.items number queue (in_row table table_is number number_is)
        ∙ ap (λ (q : QueueView). Some q) (sym queue_is));
    waits_are = waits_are;
  }

-- ---- an item

module _ (forms : List StrForm) (tables : List (List QueueView)) (conn : ConnId) (item : Shown) (old : List ℕ)
    (small : IsSmall item) (on : StrNo) (on_is : on ≡ place_of item) (vector : ℕ) (waits : List Wait)
    (found : IsQueueAt forms tables conn on vector waits) (place : ℕ) (place_is : place ≡ on.0) (before d : ℕ)
    (within : place < length old) (before_is : before ≡ get_or old place d) where
  before_here : before ≡ get_or old (place_of item).0 0
  before_here = before_is ∙ get_or_default old place d 0 within ∙ ap (λ (n : ℕ). get_or old n 0)
      (place_is ∙ ap (λ (o : StrNo). o.0) on_is)

  number_is : place ≡ (place_of item).0
  number_is = place_is ∙ ap (λ (o : StrNo). o.0) on_is

  pub item_goes : (next : ℕ) → Some next ≡ item_past vector waits item before → (new : List ℕ)
      → new ≡ set old place next → IsItemPast forms tables conn item old new true
  item_goes next is new new_is = record {
    vector = vector;
    waits = waits;
    queue = subst (λ (o : StrNo). IsQueueAt forms tables conn o vector waits) on_is found;
    small = small;
    goes = λ _. (
      next,
      sym (is ∙ ap (λ (n : ℕ). item_past vector waits item n) before_here),
      new_is ∙ ap (λ (n : ℕ). set old n next) number_is,
    );
    stays = λ never. absurd (false≢true (sym never));
  }

  pub item_stays : None ≡ item_past vector waits item before → (new : List ℕ)
      → IsItemPast forms tables conn item old new false
  item_stays is new = record {
    vector = vector;
    waits = waits;
    queue = subst (λ (o : StrNo). IsQueueAt forms tables conn o vector waits) on_is found;
    small = small;
    goes = λ never. absurd (false≢true never);
    stays = λ _. sym (is ∙ ap (λ (n : ℕ). item_past vector waits item n) before_here);
  }

-- a list in place of one that is as long
written : (len : ℕ) (new old : List ℕ) → len ≡ length old → length new ≡ length old
    → take len (new ++ drop (length new) old) ≡ new
written len new old is same =
    let none : drop (length new) old ≡ [] = drop_all (length new) old (omega (arith, same)) in
    ap (λ (l : List ℕ). take len (new ++ l)) none ∙ ap (λ (l : List ℕ). take len l) (append-nil new)
    ∙ take_all len new (omega (arith, is, same))

pub less_of_same : (a m n : ℕ) → a < m → n ≡ m → a < n
less_of_same a m n less is = omega (arith, less, is)

-- ---- items

self_same : (n : ℕ) → n == n ≡ true
self_same n = grind (arith, nat_tests)

same_number : (a b : ℕ) → a ≡ b → a == b ≡ true
same_number a b is = grind (arith, nat_tests)

none_yet : (n x d : ℕ) → get_or (replicate n d) x d ≡ d
none_yet n x d = elim (cases_lt x n) [
  | inl few ↦ get_or-replicate n x d d few
  | inr past' ↦ get_or_past (replicate n d) x d (let size = length-replicate n d in omega (arith, past', size))
]

module _ (forms : List StrForm) (histories : List AnyHistory) (tables : List (List QueueView)) (conn : ConnId)
    (items : List Shown) where
  -- each structure's queue goes on with the tests of the items that are left
  abbrev AreAhead : List ℕ → List Shown → List Shown → Type 0
  AreAhead places before left =
      (on : StrNo) (form : StrForm) (entries : AnyHistory) (table : List QueueView) (queue : QueueView)
      → slice_get forms on.0 ≡ Some form → slice_get histories on.0 ≡ Some entries → slice_get tables on.0 ≡ Some table
      → slice_get table conn.0 ≡ Some queue
      → Fits form entries conn queue.waits (get_or places on.0 0) (waits_of on form.vector before left)

  pub record AreSoFar (places : List ℕ) (n : ℕ) : Type 0 where
    pub size : length places ≡ length forms
    pub ahead : AreAhead places (take n items) (drop n items)
    pub right : (k : ℕ) (item : Shown) → k < n → slice_get items k ≡ Some item
        → IsRight forms histories conn (take k items) item

  pub starts : HaveQueues forms histories tables conn items → AreSoFar (replicate (length forms) 0) 0
  starts queues = record {
    size = length-replicate (length forms) 0;
    ahead = λ on form entries table queue known there row at. (
        let it = queues.each on form entries table queue known there row at in
        subst (λ (n : ℕ). Fits form entries conn queue.waits n (waits_of on form.vector [] items))
        (sym (none_yet (length forms) on.0 0))
        (queue_fits form entries conn (waits_of on form.vector [] items) queue it.caller it.tests it.settled));
    right = λ k item few at. absurd (omega (arith, few));
  }

  pub ends : (places : List ℕ) (n : ℕ) → AreSoFar places n → length items ≤ n
      → IsFirstUntold forms histories conn items (length items)
  ends places n so_far past' = record {
    within = omega arith;
    tests = right_tests forms histories conn items (length items)
        (λ k item few at. so_far.right k item (omega (arith, few, past')) at);
    wrong = λ item form entries at known there tells. (
        let low : length items < length items = slice_get_within items (length items) item at in omega (arith, low));
  }

  module _ (long : length histories ≡ length forms) (seen : AreSeen items) (places : List ℕ) (n : ℕ)
      (so_far : AreSoFar places n) (item : Shown) (within : n < length items) (value : slice_get items n ≡ Some item)
      (few : (place_of item).0 < length forms) (small : IsSmall item) (vector : ℕ) (waits : List Wait)
      (found : IsQueueAt forms tables conn (place_of item) vector waits) where
    abbrev on : StrNo
    on = place_of item

    abbrev sure : ℕ
    sure = surest_on on (take n items)

    abbrev its : List Wait
    its = item_waits vector sure item

    abbrev here : ℕ
    here = get_or places on.0 0

    longer : take (n + 1) items ≡ take n items ++ item ∷ []
    longer = take_more items n item within ∙ ap (λ (i : Shown). take n items ++ i ∷ []) item_is
      where
        item_is : get_or items n item ≡ item
        item_is = get_or_from_slice_get items n item item value

    shorter : drop n items ≡ item ∷ drop (n + 1) items
    shorter = drop_more items n item within
        ∙ ap (λ (i : Shown). i ∷ drop (n + 1) items) (get_or_from_slice_get items n item item value)

    history : (entries : AnyHistory) × (slice_get histories on.0 ≡ Some entries)
    history = get_within histories on.0 (omega (arith, few, long))

    -- each queue, before the item
    now : (o : StrNo) (form : StrForm) (entries : AnyHistory) (table : List QueueView) (queue : QueueView)
        → slice_get forms o.0 ≡ Some form → slice_get histories o.0 ≡ Some entries → slice_get tables o.0 ≡ Some table
        → slice_get table conn.0 ≡ Some queue → Fits form entries conn queue.waits (get_or places o.0 0)
        (waits_at o form.vector (take n items) item ++ waits_of o form.vector (take n items ++ item ∷ []) (drop (n + 1) items))
    now o form entries table queue known there row at =
        subst (λ (l : List Shown). Fits form entries conn queue.waits (get_or places o.0 0)
        (waits_of o form.vector (take n items) l)) shorter (so_far.ahead o form entries table queue known there row at)

    at_here : (form : StrForm) → waits_at on form.vector (take n items) item ≡ item_waits form.vector sure item
    at_here form = ap (λ (b : Bool). if b then item_waits form.vector sure item else []) (self_same on.0)

    answers : Answers found.form history.0 conn found.queue.waits here (item_waits found.form.vector sure item)
        (IsWithin found.form.vector item) (item_past found.form.vector found.queue.waits item here)
    answers = item_answers found.form history.0 conn found.queue.waits sure here item
        (subst (Fits found.form history.0 conn found.queue.waits here) (at_here found.form)
        (fits_left found.form history.0 conn found.queue.waits here (waits_at on found.form.vector (take n items) item)
        (waits_of on found.form.vector (take n items ++ item ∷ []) (drop (n + 1) items))
        (now on found.form history.0 found.table found.queue found.known history.1 found.row found.there)))

    past_is : (o : Option ℕ) → item_past vector waits item here ≡ o
        → item_past found.form.vector found.queue.waits item here ≡ o
    past_is o is = sym (ap (λ (v : ℕ). item_past v waits item here) found.vector_is
        ∙ ap (λ (w : List Wait). item_past found.form.vector w item here) found.waits_are) ∙ is

    same_form : (form : StrForm) → slice_get forms on.0 ≡ Some form → found.form ≡ form
    same_form form known = (let both : Some found.form ≡ Some form = sym found.known ∙ known in cc)

    same_history : (entries : AnyHistory) → slice_get histories on.0 ≡ Some entries → history.0 ≡ entries
    same_history entries there = (let both : Some history.0 ≡ Some entries = sym history.1 ∙ there in cc)

    -- its tests aren't told
    pub stops : item_past vector waits item here ≡ None → IsFirstUntold forms histories conn items n
    stops none = record {
      within = omega (arith, within);
      tests = right_tests forms histories conn items n so_far.right;
      wrong = λ other form entries at known there tells. (
          let its' : item ≡ other = (let both : Some item ≡ Some other = sym value ∙ at in cc) in
          wrong form entries (subst (λ (i : Shown). slice_get forms (place_of i).0 ≡ Some form) (sym its') known)
          (subst (λ (i : Shown). slice_get histories (place_of i).0 ≡ Some entries) (sym its') there)
          (subst (λ (i : Shown). TellsOf form entries conn (place_of i) (take n items) i) (sym its') tells));
    }
      where
        never : (o : Option ℕ) → o ≡ None → Answers found.form history.0 conn found.queue.waits here
            (item_waits found.form.vector sure item) (IsWithin found.form.vector item) o
            → AllTell found.form history.0 conn (item_waits found.form.vector sure item)
            → IsWithin found.form.vector item → ⊥
        never None is wrong' told zeros = wrong' told zeros
        never (Some next) is right told zeros = absurd cc

        wrong : (form : StrForm) (entries : AnyHistory) → slice_get forms on.0 ≡ Some form
            → slice_get histories on.0 ≡ Some entries → TellsOf form entries conn on (take n items) item → ⊥
        wrong form entries known there tells =
            let tells' : TellsOf found.form history.0 conn on (take n items) item =
            subst (λ (f : StrForm). TellsOf f history.0 conn on (take n items) item) (sym (same_form form known))
            (subst (λ (h : AnyHistory). TellsOf form h conn on (take n items) item) (sym (same_history entries there))
            tells) in
            never (item_past found.form.vector found.queue.waits item here) (past_is None none) answers
            (tells_waits found.form history.0 conn (take n items) item small tells')
            (tells_within found.form history.0 conn (take n items) item small tells')

    -- they are told
    module _ (next : ℕ) (some : item_past vector waits item here ≡ Some next) where
      abbrev IsToldHere : Type 0
      IsToldHere = (next ≡ here + length (item_waits found.form.vector sure item))
          × AllTell found.form history.0 conn (item_waits found.form.vector sure item)
          × IsWithin found.form.vector item

      told : IsToldHere
      told = as_some (item_past found.form.vector found.queue.waits item here) (past_is (Some next) some) answers
        where
          as_some : (o : Option ℕ) → o ≡ Some next → Answers found.form history.0 conn found.queue.waits here
              (item_waits found.form.vector sure item) (IsWithin found.form.vector item) o → IsToldHere
          as_some None is wrong' = absurd cc
          as_some (Some it) is right =
              let same : it ≡ next = cc in
              (sym same ∙ right.0, right.1, right.2)

      number_more : (o : StrNo) (form : StrForm) → slice_get forms o.0 ≡ Some form → (b : Bool) → on.0 == o.0 ≡ b
          → get_or (set places on.0 next) o.0 0
          ≡ get_or places o.0 0 + length (if b then item_waits form.vector (surest_on o (take n items)) item else [])
      number_more o form known true same =
          let is : on ≡ o = same_place on o same in
          let at : get_or (set places on.0 next) on.0 0 ≡ next =
          get_or-set_same places on.0 next 0 (let size : length places ≡ length forms = so_far.size in
          omega (arith, size, few)) in
          let known' : slice_get forms on.0 ≡ Some form =
          subst (λ (p : StrNo). slice_get forms p.0 ≡ Some form) (sym is) known in
          let whole : get_or (set places on.0 next) on.0 0 ≡ get_or places on.0 0
          + length (item_waits form.vector (surest_on on (take n items)) item) =
          at ∙ told.0 ∙ ap (λ (f : StrForm). here + length (item_waits f.vector sure item)) (same_form form known') in
          subst (λ (p : StrNo). get_or (set places on.0 next) p.0 0 ≡ get_or places p.0 0
          + length (item_waits form.vector (surest_on p (take n items)) item)) is whole
      number_more o form known false apart =
          let other : o.0 ≢ on.0 = (λ is. absurd (by_number is)) in
          let at : get_or (set places on.0 next) o.0 0 ≡ get_or places o.0 0 =
          get_or-set_other places on.0 o.0 next 0 other in omega (arith, at)
        where
          by_number : o.0 ≡ on.0 → ⊥
          by_number is = grind (arith, nat_tests)

      pub goes : AreSoFar (set places on.0 next) (n + 1)
      goes = record {
        size = length-set places on.0 next ∙ so_far.size;
        ahead = λ o form entries table queue known there row at. (
            let first : List Wait = waits_at o form.vector (take n items) item in
            let rest : List Wait = waits_of o form.vector (take n items ++ item ∷ []) (drop (n + 1) items) in
            let behind' = fits_right form entries conn queue.waits (get_or places o.0 0) first rest
            (now o form entries table queue known there row at) in
            subst (λ (l : List Shown). Fits form entries conn queue.waits (get_or (set places on.0 next) o.0 0)
            (waits_of o form.vector l (drop (n + 1) items))) (sym longer)
            (subst (λ (m : ℕ). Fits form entries conn queue.waits m rest)
            (sym (number_more o form known (on.0 == o.0) refl)) behind'));
        right = λ k other low at. by_place k other low at (cases_lt k n);
      }
        where
          right_here : IsRight forms histories conn (take n items) item
          right_here = record {
            small = small;
            seen = seen n item value;
            within = λ form known. subst (λ (f : StrForm). IsWithin f.vector item) (same_form form known) told.2;
            told = λ form entries known there. subst (λ (f : StrForm). AllTell f entries conn (item_waits f.vector sure item))
                (same_form form known) (subst (λ (h : AnyHistory). AllTell found.form h conn
                (item_waits found.form.vector sure item)) (same_history entries there) told.1);
          }

          by_place : (k : ℕ) (other : Shown) → k < n + 1 → slice_get items k ≡ Some other → (k < n) ⊎ (n ≤ k)
              → IsRight forms histories conn (take k items) other
          by_place k other low at (inl less) = so_far.right k other less at
          by_place k other low at (inr same) =
              let last : k ≡ n = omega (arith, same, low) in
              let there : slice_get items n ≡ Some other = subst (λ (m : ℕ). slice_get items m ≡ Some other) last at in
              let is : item ≡ other = (let both : Some item ≡ Some other = sym value ∙ there in cc) in
              subst (λ (m : ℕ). IsRight forms histories conn (take m items) other) (sym last)
              (subst (IsRight forms histories conn (take n items)) is right_here)

  -- ---- the same, as a loop over the places of items has it

  module _ (long : length histories ≡ length forms) (seen : AreSeen items) (places old next : List ℕ)
      (old_is : old ≡ places) (n : ℕ) (so_far : AreSoFar places n) (d : Shown) (within : n < length items)
      (known : All (λ (item : Shown). (place_of item).0 < length forms) items) (done : Bool)
      (taken : IsItemPast forms tables conn (get_or items n d) old next done) where
    here_taken : IsItemPast forms tables conn (get_or items n d) places next done
    here_taken = subst (λ (p : List ℕ). IsItemPast forms tables conn (get_or items n d) p next done) old_is taken

    pub stopped : done ≡ false → IsFirstUntold forms histories conn items n
    stopped is = stops long seen places n so_far (get_or items n d) within (slice_get-get_or items n d within)
        (known n d within) here_taken.small here_taken.vector here_taken.waits here_taken.queue (here_taken.stays is)

    pub stepped : done ≡ true → (len : ℕ) → len ≡ length places
        → AreSoFar (take len (next ++ drop (length next) places)) (n + 1)
    stepped is len len_is =
        let it = here_taken.goes is in
        let size : length next ≡ length places =
        ap (λ (p : List ℕ). length p) it.2 ∙ length-set places (place_of (get_or items n d)).0 it.0 in
        subst (λ (p : List ℕ). AreSoFar p (n + 1)) (sym (written len next places len_is size ∙ it.2))
        (goes long seen places n so_far (get_or items n d) within (slice_get-get_or items n d within) (known n d within)
        here_taken.small here_taken.vector here_taken.waits here_taken.queue it.0 it.1)
