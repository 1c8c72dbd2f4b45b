-- A queue of tests, one item after another, and a word's, one bit after another.
use Rattle.std.proofs.Common.{◌≡◌, ℕ, zero, suc, ◌+◌, ◌-◌, ◌<◌, ◌≤◌, ◌==◌, max, Bool, true, false, if◌then◌else◌, List, [], ◌∷◌, ◌++◌, length, take, drop, get_or, slice_get, inl, inr, ◌⊎◌, Option, Some, None, refl, sym, ap, subst, ◌∙◌, arith, append_assoc, append-nil}
use Rattle.std.proofs.lemmas.List.{take_more, drop_more, drop_all, length-append}
use Rattle.std.proofs.lemmas.Bool.{cases_lt}
use Rattle.std.proofs.lemmas.Option.{slice_get-get_or, slice_get_within}
use Rattle.caller_slots.specs.RunShown.CfTypes.declared.forms.StrForm.{StrForm}
use Rattle.caller_slots.specs.RunShown.CfTypes.declared.numbers.ConnId.{ConnId}
use Rattle.caller_slots.specs.RunShown.CfTypes.declared.numbers.StrNo.{StrNo}
use Rattle.caller_slots.specs.RunShown.PlexScript.declared.transcripts.Shown.{Shown}
use Rattle.caller_slots.specs.RunShown.PlexScript.Follows.{surest_on, sure_on}
use Rattle.caller_slots.specs.RunShown.Headline.{place_of}
use Rattle.caller_items.proofs.OrderLaws.{also, push_max}
use Rattle.vector_waits.specs.declared.wait.Wait.{Wait}
use Rattle.vector_waits.specs.Waits.{QueueView}
use Rattle.caller_waits.specs.Tests.{bit_waits, word_waits, waits_here, waits_at, waits_of, queue_of, AreQueues, surer, sure_after, IsSmall, AreSmall}

by_number : (b : Bool) (sure number : ℕ) → (if b then max sure number else sure)
    ≡ also sure (if b then Some number else None)
by_number true sure number = refl
by_number false sure number = refl

by_none : (b : Bool) (sure : ℕ) → (if b then sure else sure) ≡ sure
by_none true sure = refl
by_none false sure = refl

sure_more : (on : StrNo) (sure : ℕ) (item : Shown) → sure_after on sure item ≡ also sure (sure_on on item)
sure_more on sure (Shown.Call place number) = by_number (place.0 == on.0) sure number
sure_more on sure (Shown.Test place index bit at) = by_none (place.0 == on.0) sure
sure_more on sure (Shown.Word place word bits at) = by_none (place.0 == on.0) sure
sure_more on sure (Shown.BadIndex place index word len) = by_none (place.0 == on.0) sure
sure_more on sure (Shown.Posted place number) = by_number (place.0 == on.0) sure number
sure_more on sure (Shown.Took place number) = by_number (place.0 == on.0) sure number

-- the first items, so many, have their waits here
pub record IsSoFar (on : StrNo) (vector : ℕ) (items : List Shown) (waits : List Wait) (sure n : ℕ) : Type 0 where
  pub left : waits ++ waits_of on vector (take n items) (drop n items) ≡ waits_of on vector [] items
  pub sure_is : sure ≡ surest_on on (take n items)

module _ (on : StrNo) (vector : ℕ) (items : List Shown) where
  pub starts : IsSoFar on vector items [] 0 0
  starts = record { left = refl; sure_is = refl }

  pub one_more : (waits : List Wait) (sure n : ℕ) → IsSoFar on vector items waits sure n → n < length items
      → (item d : Shown) → item ≡ get_or items n d → (more : List Wait) → more ≡ waits ++ waits_here on vector sure item
      → (now : ℕ) → now ≡ sure_after on sure item → IsSoFar on vector items more now (n + 1)
  one_more waits sure n so_far within item d is more made now now_is =
      let longer : take (n + 1) items ≡ take n items ++ item ∷ [] =
      take_more items n d within ∙ ap (λ (i : Shown). take n items ++ i ∷ []) (sym is) in
      let shorter : drop n items ≡ item ∷ drop (n + 1) items =
      drop_more items n d within ∙ ap (λ (i : Shown). i ∷ drop (n + 1) items) (sym is) in
      let here : more ≡ waits ++ waits_at on vector (take n items) item =
      made ∙ ap (λ (m : ℕ). waits ++ waits_here on vector m item) so_far.sure_is in
      let behind : List Wait = waits_of on vector (take n items ++ item ∷ []) (drop (n + 1) items) in
      record {
        left = ap (λ (b : List Shown). more ++ waits_of on vector b (drop (n + 1) items)) longer ∙ ap
            (λ (l : List Wait). l ++ behind) here ∙ append_assoc waits (waits_at on vector (take n items) item) behind
            ∙ sym (ap (λ (l : List Shown). waits ++ waits_of on vector (take n items) l) shorter) ∙ so_far.left;
        sure_is = now_is ∙ ap (λ (m : ℕ). sure_after on m item) so_far.sure_is ∙ sure_more on (surest_on on
            (take n items)) item ∙ sym (push_max (sure_on on) (take n items) item) ∙ sym (ap (surest_on on) longer);
      }

  pub ends : (waits : List Wait) (sure n : ℕ) → IsSoFar on vector items waits sure n → length items ≤ n
      → waits ≡ waits_of on vector [] items
  ends waits sure n so_far all = sym (append-nil waits) ∙ sym
      (ap (λ (l : List Shown). waits ++ waits_of on vector (take n items) l) (drop_all n items all)) ∙ so_far.left

-- the bits of a word that are left
pub bits_more : (waits : List Wait) (vector at sure word value k many : ℕ) → k < many
    → (waits ++ bit_waits vector at sure word value k) ++ word_waits vector at sure word value (k + 1) (many - (k + 1))
    ≡ waits ++ word_waits vector at sure word value k (many - k)
bits_more waits vector at sure word value k many few =
    let is : many - k ≡ suc (many - (k + 1)) = omega (arith, few) in
    append_assoc waits (bit_waits vector at sure word value k) (word_waits vector at sure
    word value (k + 1) (many - (k + 1))) ∙ sym (ap (λ (n : ℕ). waits ++ word_waits vector at sure word value k n) is)

-- the bits before this one have their waits
pub record IsWordSoFar (old now : QueueView) (vector at sure word value k many : ℕ) : Type 0 where
  pub shape : now ≡ record old { waits = now.waits }
  pub left : now.waits ++ word_waits vector at sure word value k (many - k)
      ≡ old.waits ++ word_waits vector at sure word value 0 many

module _ (old : QueueView) (vector at sure word value many : ℕ) where
  abbrev with_waits : QueueView → List Wait → QueueView
  with_waits queue waits = record queue { waits = waits }

  pub word_starts : IsWordSoFar old old vector at sure word value 0 many
  word_starts = record {
    shape = refl;
    left = (let is : many - 0 ≡ many = omega arith in
        ap (λ (n : ℕ). old.waits ++ word_waits vector at sure word value 0 n) is);
  }

  pub word_more : (now next : QueueView) (k : ℕ) → IsWordSoFar old now vector at sure word value k many → k < many
      → next ≡ record now { waits = now.waits ++ bit_waits vector at sure word value k }
      → IsWordSoFar old next vector at sure word value (k + 1) many
  word_more now next k so_far few made =
      let more : List Wait = now.waits ++ bit_waits vector at sure word value k in
      let same : next.waits ≡ more = ap (λ (q : QueueView). q.waits) made in
      record {
        shape = made ∙ ap (λ (q : QueueView). with_waits q more) so_far.shape ∙ sym (ap (with_waits old) same);
        left = ap (λ (l : List Wait). l ++ word_waits vector at sure word value (k + 1) (many - (k + 1))) same
            ∙ bits_more now.waits vector at sure word value k many few ∙ so_far.left;
      }

  pub word_ends : (now : QueueView) (k : ℕ) → IsWordSoFar old now vector at sure word value k many → many ≤ k
      → now ≡ record old { waits = old.waits ++ word_waits vector at sure word value 0 many }
  word_ends now k so_far all =
      let is : many - k ≡ 0 = omega (arith, all) in
      let whole : now.waits ≡ old.waits ++ word_waits vector at sure word value 0 many = sym (append-nil now.waits)
      ∙ sym (ap (λ (n : ℕ). now.waits ++ word_waits vector at sure word value k n) is) ∙ so_far.left in
      so_far.shape ∙ ap (with_waits old) whole

-- a caller's queue, behind so many items
pub record IsQueueSoFar (on : StrNo) (vector : ℕ) (conn : ConnId) (items : List Shown) (queue : QueueView) (sure n : ℕ)
    : Type 0 where
  pub shape : queue ≡ record { conn = conn; waits = queue.waits; next = 0 }
  pub so_far : IsSoFar on vector items queue.waits sure n
  pub small : (k : ℕ) (item : Shown) → k < n → slice_get items k ≡ Some item → IsSmall item

module _ (on : StrNo) (vector : ℕ) (conn : ConnId) (items : List Shown) where
  abbrev made_of : List Wait → QueueView
  made_of waits = record { conn = conn; waits = waits; next = 0 }

  pub queue_starts : (queue : QueueView) → queue ≡ record { conn = conn; waits = []; next = 0 }
      → IsQueueSoFar on vector conn items queue 0 0
  queue_starts queue is = subst (λ (q : QueueView). IsQueueSoFar on vector conn items q 0 0) (sym is) (record {
    shape = refl;
    so_far = starts on vector items;
    small = λ k item few at. absurd (omega (arith, few));
  })

  pub queue_step : (queue next : QueueView) (sure n : ℕ) → IsQueueSoFar on vector conn items queue sure n
      → n < length items → (item d : Shown) → item ≡ get_or items n d
      → next ≡ record queue { waits = queue.waits ++ waits_here on vector sure item } → (now : ℕ)
      → now ≡ sure_after on sure item → IsSmall item → IsQueueSoFar on vector conn items next now (n + 1)
  queue_step queue next sure n so_far within item d is made now now_is fits =
      let more : List Wait = queue.waits ++ waits_here on vector sure item in
      let same : next.waits ≡ more = ap (λ (q : QueueView). q.waits) made in
      let with_more : QueueView → QueueView = λ q. record q { waits = more } in
      record {
        shape = made ∙ ap with_more so_far.shape ∙ sym (ap made_of same);
        so_far = one_more on vector items queue.waits sure n so_far.so_far within item d is next.waits same now now_is;
        small = λ k other few at. by_place k other few at (cases_lt k n);
      }
    where
      by_place : (k : ℕ) (other : Shown) → k < n + 1 → slice_get items k ≡ Some other → (k < n) ⊎ (n ≤ k)
          → IsSmall other
      by_place k other few at (inl less) = so_far.small k other less at
      by_place k other few at (inr more) =
          let last : k ≡ n = omega (arith, few, more) in
          let there : slice_get items n ≡ Some other = subst (λ (m : ℕ). slice_get items m ≡ Some other) last at in
          let its : item ≡ other = (let both : Some item ≡ Some other =
          ap (λ (i : Shown). Some i) is ∙ sym (slice_get-get_or items n d within) ∙ there in cc) in
          subst IsSmall its fits

  pub queue_ends : (queue : QueueView) (sure n : ℕ) → IsQueueSoFar on vector conn items queue sure n → length items ≤ n
      → queue ≡ queue_of on vector conn items
  queue_ends queue sure n so_far all =
      so_far.shape ∙ ap made_of (ends on vector items queue.waits sure n so_far.so_far all)

  pub queue_small : (queue : QueueView) (sure n : ℕ) → IsQueueSoFar on vector conn items queue sure n
      → length items ≤ n → AreSmall items
  queue_small queue sure n so_far all k item at =
      let low : k < length items = slice_get_within items k item at in
      so_far.small k item (omega (arith, low, all)) at

-- ---- a queue for each structure

get_push : {X : Type 0} (xs : List X) (y : X) (i : ℕ) (z : X) → slice_get (xs ++ y ∷ []) i ≡ Some z
    → (slice_get xs i ≡ Some z) ⊎ ((i ≡ length xs) × (z ≡ y))
get_push [] y zero z at = let is : y ≡ z = cc in inr (refl, sym is)
get_push [] y (suc i) z at = absurd cc
get_push (x ∷ xs) y zero z at = inl at
get_push (x ∷ xs) y (suc i) z at = elim (get_push xs y i z at) [
  | inl there ↦ inl there
  | inr last ↦ inr (ap suc last.0, last.1)
]

module _ (forms : List StrForm) (conn : ConnId) (items : List Shown) where
  -- the first structures, so many, have their queues
  pub record AreBelow (queues : List QueueView) (n : ℕ) : Type 0 where
    pub size : length queues ≡ n
    pub each : (on : StrNo) (form : StrForm) (queue : QueueView) → slice_get forms on.0 ≡ Some form
        → slice_get queues on.0 ≡ Some queue → queue ≡ queue_of on form.vector conn items

  pub none_yet : AreBelow [] 0
  none_yet = record { size = refl; each = λ on form queue known at. absurd (nowhere on.0 queue at) }
    where
      nowhere : (i : ℕ) (queue : QueueView) → slice_get [] i ≡ Some queue → ⊥
      nowhere i queue at = cc

  pub queue_more : (queues : List QueueView) (n : ℕ) → AreBelow queues n → (place : ℕ) → place ≡ n → n < length forms
      → (form d : StrForm) → form ≡ get_or forms place d → (queue : QueueView)
      → queue ≡ queue_of (record { 0 = n }) form.vector conn items → AreBelow (queues ++ queue ∷ []) (n + 1)
  queue_more queues n below place is few form d known queue made = record {
    size = (let size : length queues ≡ n = below.size in
        length-append queues (queue ∷ []) ∙ ap (λ (m : ℕ). m + 1) size);
    each = λ on other found there at. elim (get_push queues queue on.0 found at) [
      | inl old ↦ below.each on other found there old
      | inr last ↦
          let number : on.0 ≡ n = last.0 ∙ below.size in
          let here : slice_get forms on.0 ≡ Some form =
          subst (λ (m : ℕ). slice_get forms m ≡ Some form) (is ∙ sym number)
          (slice_get-get_or forms place d (omega (arith, few, is)) ∙ ap (λ (f : StrForm). Some f) (sym known)) in
          let same : form ≡ other = (let both : Some form ≡ Some other = sym here ∙ there in cc) in
          let whose : (let it : StrNo = record { 0 = n } in it ≡ on) =
          ap (λ (m : ℕ). (let it : StrNo = record { 0 = m } in it)) (sym number) in
          last.1 ∙ made ∙ ap (λ (o : StrNo). queue_of o form.vector conn items) whose
          ∙ ap (λ (f : StrForm). queue_of on f.vector conn items) same
    ];
  }

  pub all_queues : (queues : List QueueView) (n : ℕ) → AreBelow queues n → n ≡ length forms
      → AreQueues forms conn items queues
  all_queues queues n below all = record { size = below.size ∙ all; each = below.each }
