-- What the queue of a structure tells of an item, whose tests stand in it from a place on.
use Rattle.std.proofs.Common.{◌≡◌, ◌↔◌, ℕ, zero, suc, ◌+◌, ◌*◌, ◌<◌, ◌≤◌, inl, inr, Bool, true, false, if◌then◌else◌, List, [], ◌∷◌, ◌++◌, length, map, slice_get, Option, Some, None, refl, sym, ap, subst, ◌∙◌, arith, nat_lt}
use Rattle.std.proofs.lemmas.Bool.{cases_lt, false≢true}
use Rattle.std.proofs.lemmas.List.{length-append}
use Rattle.std.proofs.lemmas.Option.{get_or_from_slice_get, slice_get_within}
use Rattle.caller_slots.specs.RunShown.CfTypes.declared.forms.StrForm.{StrForm}
use Rattle.caller_slots.specs.RunShown.CfTypes.declared.numbers.ConnId.{ConnId}
use Rattle.caller_slots.specs.RunShown.Meanings.{altered_caches}
use Rattle.caller_slots.specs.RunShown.QueueModel.ListQueues.{queued_lists}
use Rattle.caller_slots.specs.RunShown.LockModel.Meaning.{lock_meaning}
use Rattle.caller_slots.specs.RunShown.PlexScript.declared.asks.AnyHistory.{AnyHistory}
use Rattle.caller_slots.specs.RunShown.PlexScript.declared.transcripts.Shown.{Shown}
use Rattle.caller_slots.specs.RunShown.Kinds.{AnyTells}
use Rattle.vector_waits.specs.declared.wait.Wait.{Wait}
use Rattle.vector_waits.specs.Waits.{QueueView, IsSettled, untold}
use Rattle.caller_waits.specs.Tests.{wait_of, own_bit, word_waits, item_waits, IsWithin, AllTell}
use Rattle.caller_check.specs.Tables.{AnySettled}
use Rattle.caller_check.specs.Untold.{is_told, past, bit_past, then_past, word_past, item_past}

zero_plus : (n : ℕ) → 0 + n ≡ n
zero_plus n = omega arith

get_left : (xs ys : List Wait) (i : ℕ) (x : Wait) → slice_get xs i ≡ Some x → slice_get (xs ++ ys) i ≡ Some x
get_left [] ys i x at = absurd (nowhere i at)
  where
    nowhere : (k : ℕ) → slice_get [] k ≡ Some x → ⊥
    nowhere k e = cc
get_left (y ∷ xs) ys zero x at = at
get_left (y ∷ xs) ys (suc i) x at = get_left xs ys i x at

get_right : (xs ys : List Wait) (i : ℕ) (x : Wait) → slice_get ys i ≡ Some x → slice_get (xs ++ ys) (length xs + i) ≡ Some x
get_right [] ys i x at = subst (λ (n : ℕ). slice_get ys n ≡ Some x) (sym (zero_plus i)) at
get_right (y ∷ xs) ys i x at =
    let is : length (y ∷ xs) + i ≡ suc (length xs + i) = omega arith in rw is (get_right xs ys i x at)

first_same : (one other : Wait) (ones others : List Wait) → one ∷ ones ≡ other ∷ others → one ≡ other
first_same one other ones others is = cc

rest_same : (one other : Wait) (ones others : List Wait) → one ∷ ones ≡ other ∷ others → ones ≡ others
rest_same one other ones others is = cc

none_same : (one : Wait) (ones : List Wait) → one ∷ ones ≡ [] → ⊥
none_same one ones is = cc

none_more : (n : ℕ) → n ≡ n + 0
none_more n = omega arith

-- the same tests, whatever is told of them, stand at the same places
same_at : (judged waits : List Wait) → map untold judged ≡ map untold waits → (i : ℕ) (wait : Wait)
    → slice_get waits i ≡ Some wait → (now : Wait) × (slice_get judged i ≡ Some now) × (untold now ≡ untold wait)
same_at judged [] same i wait at = absurd (nowhere i at)
  where
    nowhere : (k : ℕ) → slice_get [] k ≡ Some wait → ⊥
    nowhere k e = cc
same_at [] (first ∷ waits) same i wait at = absurd (none_same (untold first) (map untold waits) (sym same))
same_at (now ∷ judged) (first ∷ waits) same zero wait at =
    let is : first ≡ wait = cc in
    let fits : untold now ≡ untold first =
    first_same (untold now) (untold first) (map untold judged) (map untold waits) same in
    (now, refl, fits ∙ ap untold is)
same_at (now ∷ judged) (first ∷ waits) same (suc i) wait at =
    same_at judged waits (rest_same (untold now) (untold first) (map untold judged) (map untold waits) same) i wait at

any_each : (form : StrForm) (entries : AnyHistory) (queue : QueueView) → AnySettled form entries queue → (i : ℕ)
    (now : Wait) → slice_get queue.waits i ≡ Some now
    → (now.told ≡ true) ↔ AnyTells form entries now.at now.sure queue.conn now.index now.bit
any_each form (AnyHistory.Cache h) queue settled i now at =
    subst (IsSettled altered_caches form h queue.conn) (get_or_from_slice_get queue.waits i now now at)
    (settled i now (slice_get_within queue.waits i now at))
any_each form (AnyHistory.List h) queue settled i now at =
    subst (IsSettled queued_lists form h queue.conn) (get_or_from_slice_get queue.waits i now now at)
    (settled i now (slice_get_within queue.waits i now at))
any_each form (AnyHistory.Lock h) queue settled i now at =
    subst (IsSettled lock_meaning form h queue.conn) (get_or_from_slice_get queue.waits i now now at)
    (settled i now (slice_get_within queue.waits i now at))

module _ (form : StrForm) (entries : AnyHistory) (conn : ConnId) where
  abbrev Shows : Wait → Type 0
  Shows wait = AnyTells form entries wait.at wait.sure conn wait.index wait.bit

  abbrev Told : List Wait → Type 0
  Told waits = AllTell form entries conn waits

  told_left : (xs ys : List Wait) → Told (xs ++ ys) → Told xs
  told_left [] ys told = tt
  told_left (x ∷ xs) ys told = (told.0, told_left xs ys told.1)

  told_right : (xs ys : List Wait) → Told (xs ++ ys) → Told ys
  told_right [] ys told = told
  told_right (x ∷ xs) ys told = told_right xs ys told.1

  told_both : (xs ys : List Wait) → Told xs → Told ys → Told (xs ++ ys)
  told_both [] ys one other = other
  told_both (x ∷ xs) ys one other = (one.0, told_both xs ys one.1 other)

  -- each is told exactly where the history tells what it shows
  settled_each : (queue : QueueView) → queue.conn ≡ conn → AnySettled form entries queue → (i : ℕ) (now : Wait)
      → slice_get queue.waits i ≡ Some now → (now.told ≡ true) ↔ Shows now
  settled_each queue by settled i now at =
      subst (λ (c : ConnId). (now.told ≡ true) ↔ AnyTells form entries now.at now.sure c now.index now.bit) by
      (any_each form entries queue settled i now at)

  -- ---- tests that stand in a queue from a place on

  module _ (judged : List Wait) where
    abbrev pub Fits : ℕ → List Wait → Type 0
    Fits place waits = (i : ℕ) (wait : Wait) → slice_get waits i ≡ Some wait
        → (is_told (slice_get judged (place + i)) ≡ true) ↔ Shows wait

    pub fits_left : (place : ℕ) (xs ys : List Wait) → Fits place (xs ++ ys) → Fits place xs
    fits_left place xs ys fits i wait at = fits i wait (get_left xs ys i wait at)

    pub fits_right : (place : ℕ) (xs ys : List Wait) → Fits place (xs ++ ys) → Fits (place + length xs) ys
    fits_right place xs ys fits i wait at =
        let is : place + length xs + i ≡ place + (length xs + i) = omega arith in
        rw is (fits (length xs + i) wait (get_right xs ys i wait at))

    -- the place behind them, if all are told and something else is right too
    abbrev pub Answers : ℕ → List Wait → Type 0 → Option ℕ → Type 0
    Answers place waits Right (Some next) = (next ≡ place + length waits) × Told waits × Right
    Answers place waits Right None = Told waits → Right → ⊥

    -- one test
    past_answers : (place : ℕ) (wait : Wait) → Fits place (wait ∷ [])
        → Answers place (wait ∷ []) (Unit {0}) (past judged place)
    past_answers place wait fits = by_told (is_told (slice_get judged place)) refl
      where
        here : (is_told (slice_get judged place) ≡ true) ↔ Shows wait
        here = (let is : place + 0 ≡ place = omega arith in
            subst (λ (n : ℕ). (is_told (slice_get judged n) ≡ true) ↔ Shows wait) is (fits 0 wait refl))

        by_told : (b : Bool) → is_told (slice_get judged place) ≡ b
            → Answers place (wait ∷ []) (Unit {0}) (if b then Some (place + 1) else None)
        by_told true is = (refl, (here.0 is, tt), tt)
        by_told false is = λ told _. false≢true (sym is ∙ here.1 told.0)

    -- tests, and then others
    then_answers : (place : ℕ) (xs ys : List Wait) (Right One More : Type 0) (o : Option ℕ) (f : ℕ → Option ℕ)
        → (One → More → Right) → (Right → One) → (Right → More) → Answers place xs One o
        → ((n : ℕ) → n ≡ place + length xs → Answers n ys More (f n)) → Answers place (xs ++ ys) Right (then_past o f)
    then_answers place xs ys Right One More (Some next) f both one more (at, told, right) behind =
        by_next (f next) (behind next at)
      where
        by_next : (o : Option ℕ) → Answers next ys More o → Answers place (xs ++ ys) Right o
        by_next (Some last) (at', told', right') =
            let size : length (xs ++ ys) ≡ length xs + length ys = length-append xs ys in
            (omega (arith, at, at', size), told_both xs ys told told', both right right')
        by_next None wrong = λ all whole. wrong (told_right xs ys all) (more whole)
    then_answers place xs ys Right One More None f both one more wrong behind =
        λ all whole. wrong (told_left xs ys all) (one whole)

    -- ---- a word

    module _ (vector at sure number value : ℕ) where
      abbrev rest : ℕ → ℕ → List Wait
      rest first many = word_waits vector at sure number value first many

      abbrev inside : ℕ → Bool
      inside k = nat_lt (32 * number + k) vector

      abbrev one : Bool → ℕ → List Wait
      one b k = if b then wait_of at sure (32 * number + k) (own_bit value k) ∷ [] else []

      -- this bit is 0, if it lies past the vector's end
      abbrev IsZero : ℕ → Type 0
      IsZero k = inside k ≡ false → own_bit value k ≡ false

      abbrev Zeros : ℕ → ℕ → Type 0
      Zeros first many = (k : ℕ) → first ≤ k → k < first + many → IsZero k

      zeros_more : (first many : ℕ) → IsZero first → Zeros (first + 1) many → Zeros first (suc many)
      zeros_more first many zero' zeros k low high = elim (cases_lt first k) [
        | inl later ↦ zeros k (omega (arith, later)) (omega (arith, high))
        | inr not_later ↦
            let here : first ≡ k = omega (arith, low, not_later) in subst IsZero here zero'
      ]

      bit_answers : (place k : ℕ) (b c : Bool) → inside k ≡ b → own_bit value k ≡ c → Fits place (one b k)
          → Answers place (one b k) (IsZero k) (if b then past judged place else (if c then None else Some place))
      bit_answers place k true c is is_c fits = by_past (past judged place)
          (past_answers place (wait_of at sure (32 * number + k) (own_bit value k)) fits)
        where
          by_past : (o : Option ℕ) → Answers place (one true k) (Unit {0}) o → Answers place (one true k) (IsZero k) o
          by_past (Some next) (at', told, _) = (at', told, λ out. absurd (false≢true (sym out ∙ is)))
          by_past None wrong = λ told _. wrong told tt
      bit_answers place k false true is is_c fits = λ told zero'. false≢true (sym (zero' is) ∙ is_c)
      bit_answers place k false false is is_c fits = (none_more place, tt, λ _. is_c)

      pub word_answers : (first many place : ℕ) → Fits place (rest first many)
          → Answers place (rest first many) (Zeros first many) (word_past vector number value judged first many place)
      word_answers first zero place fits = (none_more place, tt, λ k low high. absurd (omega (arith, low, high)))
      word_answers first (suc many) place fits =
          then_answers place (one (inside first) first) (rest (first + 1) many) (Zeros first (suc many)) (IsZero first)
          (Zeros (first + 1) many) (bit_past vector number value judged first place)
          (word_past vector number value judged (first + 1) many)
          (λ zero' zeros. zeros_more first many zero' zeros)
          (λ zeros. zeros first (omega arith) (omega arith))
          (λ zeros k low high. zeros k (omega (arith, low)) (omega (arith, high)))
          (bit_answers place first (inside first) (own_bit value first) refl refl
          (fits_left place (one (inside first) first) (rest (first + 1) many) fits))
          (λ n is. word_answers (first + 1) many n (subst (λ (m : ℕ). Fits m (rest (first + 1) many)) (sym is)
          (fits_right place (one (inside first) first) (rest (first + 1) many) fits)))

    -- ---- an item

    as_right : (place : ℕ) (waits : List Wait) (Right Other : Type 0) → (Right → Other) → (Other → Right)
        → (o : Option ℕ) → Answers place waits Right o → Answers place waits Other o
    as_right place waits Right Other onto back (Some next) (at, told, right) = (at, told, onto right)
    as_right place waits Right Other onto back None wrong = λ told other. wrong told (back other)

    pub item_answers : (sure place : ℕ) (item : Shown) → Fits place (item_waits form.vector sure item)
        → Answers place (item_waits form.vector sure item) (IsWithin form.vector item)
        (item_past form.vector judged item place)
    item_answers sure place (Shown.Test on index bit at) fits = past_answers place (wait_of at sure index bit) fits
    item_answers sure place (Shown.Word on number value at) fits = as_right place
        (word_waits form.vector at sure number value 0 32) (Zeros form.vector at sure number value 0 32)
        (IsWithin form.vector (Shown.Word on number value at))
        (λ zeros k few. zeros k (omega arith) (omega (arith, few)))
        (λ within k low high. within k (omega (arith, high)))
        (word_past form.vector number value judged 0 32 place)
        (word_answers form.vector at sure number value 0 32 place fits)
    item_answers sure place (Shown.Call on number) fits = (none_more place, tt, tt)
    item_answers sure place (Shown.BadIndex on index number len) fits = (none_more place, tt, tt)
    item_answers sure place (Shown.Posted on number) fits = (none_more place, tt, tt)
    item_answers sure place (Shown.Took on number) fits = (none_more place, tt, tt)

  -- the tests of a queue
  pub queue_fits : (waits : List Wait) (queue : QueueView) → queue.conn ≡ conn
      → map untold queue.waits ≡ map untold waits → AnySettled form entries queue → Fits queue.waits 0 waits
  queue_fits waits queue by same settled i wait at =
      subst (λ (n : ℕ). (is_told (slice_get queue.waits n) ≡ true) ↔ Shows wait) (sym (zero_plus i))
      (let it = same_at queue.waits waits same i wait at in
      let each = settled_each queue by settled i it.0 it.1 in (
        λ told. subst (λ (w : Wait). Shows w) it.2 (each.0 (sym (ap is_told it.1) ∙ told)),
        λ shown. ap is_told it.1 ∙ each.1 (subst (λ (w : Wait). Shows w) (sym it.2) shown),
      ))
