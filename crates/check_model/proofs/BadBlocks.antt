-- A history has one first bad block, and then isn't legal.
use Rattle.caller_slots.proofs.RunShown.EngineApi.Imports.{◌≡◌, ℕ, ◌+◌, ◌<◌, ◌≤◌, ◌⊎◌, inl, inr, List, [], ◌∷◌, ◌++◌, length, refl, sym, ap, subst, ◌∙◌, arith, append_assoc, append-nil, length-append, StrForm, Meaning, IsLegal, calls, numbers, IsPoint, read_all}
use Rattle.caller_slots.specs.RunShown.EngineApi.declared.{asks.What.What, histories.Entry.Entry}
use Rattle.std.proofs.Common.{map}
use Rattle.std.specs.Prelude.{Contains}
use Rattle.caller_slots.specs.RunShown.EngineApi.History.{Call}
use Rattle.caller_slots.proofs.RunShown.EngineApi.HistoryLaws.{calls-append}
use Rattle.caller_slots.proofs.RunShown.EngineApi.NumberLaws.{numbered_legal}
use Rattle.caller_slots.proofs.RunShown.EngineApi.AnswerLaws.{answers-append}
use Rattle.std.proofs.lemmas.List.Sums.{fold_push}
use Rattle.caller_slots.specs.RunShown.PlexScript.declared.asks.AnyHistory.{AnyHistory}
use Rattle.caller_slots.specs.RunShown.Kinds.{IsAnyLegal}
use Rattle.caller_slots.specs.RunShown.Meanings.{altered_caches}
use Rattle.caller_slots.specs.RunShown.QueueModel.ListQueues.{queued_lists}
use Rattle.caller_slots.specs.RunShown.LockModel.Meaning.{lock_meaning}
use Rattle.block_laws.specs.Blocks.{EndsBlock, IsBlock, IsBadBlock}
use Rattle.block_laws.proofs.Fits.{legal_front}
use Rattle.caller_slots.proofs.Points.{end_is_point}
use Rattle.check_model.specs.Judged.{IsAnyBadBlock}

-- ---- a list cut in two ways

pub record Split {X : Type 0} (long short rest more : List X) : Type 0 where
  pub mid : List X
  pub is : long ≡ short ++ mid
  pub behind : rest ≡ mid ++ more

split_two : {X : Type 0} (xs ys zs ws : List X) → xs ++ ys ≡ zs ++ ws → Split zs xs ys ws ⊎ Split xs zs ws ys
split_two [] ys zs ws e = inl (record { mid = zs; is = refl; behind = e })
split_two (x ∷ xs) ys [] ws e = inr (record { mid = x ∷ xs; is = refl; behind = sym e })
split_two (x ∷ xs) ys (z ∷ zs) ws e =
    let same : x ≡ z = cc in
    let rest : xs ++ ys ≡ zs ++ ws = cc in
    elim (split_two xs ys zs ws rest) [
      | inl s ↦ inl (record { mid = s.mid; is = grind arith; behind = s.behind })
      | inr s ↦ inr (record { mid = s.mid; is = grind arith; behind = s.behind })
    ]

no_part : {X : Type 0} (xs ys : List X) → xs ++ ys ≡ [] → xs ≡ []
no_part [] ys e = refl
no_part (x ∷ xs) ys e = absurd cc

module _ {C R I S : Type 0} (meaning : Meaning C R I S) (form : StrForm) where
  -- marks alone make no legal history longer
  marks_open : (before mid : List (Entry C R)) → IsLegal meaning form before → calls mid ≡ []
      → IsLegal meaning form (before ++ mid) → mid ≡ []
  marks_open before [] legal none legal' = refl
  marks_open before (entry ∷ mid) legal none legal' =
      let whole = before ++ entry ∷ mid in
      let same : numbers whole ≡ numbers before =
      ap (map (λ (call : Call C R). call.no)) (calls-append before (entry ∷ mid)
      ∙ ap (λ (cs : List (Call C R)). calls before ++ cs) none ∙ append-nil (calls before)) in
      let point : IsPoint whole (length whole) = end_is_point meaning form whole legal' in
      let long : length whole ≡ length before + length (entry ∷ mid) = length-append before (entry ∷ mid) in
      let numbered = numbered_legal meaning form before legal in
      absurd (elim point [
        | inl none' ↦ omega (arith, none', long)
        | inr there ↦
            let few : length whole ≤ length before = numbered.within (length whole)
            (inr (subst (λ (ns : List ℕ). Contains ns (length whole)) same there)) in
            omega (arith, few, long)
      ])

  -- a block of a call leaves no mark
  abbrev closed : List (Entry C R) → Type 0
  closed history = (let end = read_all meaning form history in end.marks ≡ [])

  block_closed : (before block : List (Entry C R)) → EndsBlock block → closed (before ++ block)
  block_closed before block ends =
      let is : before ++ block ≡ (before ++ ends.marks) ++ ends.entry ∷ [] =
      ap (λ (h : List (Entry C R)). before ++ h) ends.is ∙ sym (append_assoc before ends.marks (ends.entry ∷ [])) in
      rw is (rw (fold_push _ _ (before ++ ends.marks) ends.entry, ends.asks) refl)

  -- what begins a block of a call, and isn't all of it, is marks
  begun_marks : (block mid rest : List (Entry C R)) → EndsBlock block → block ≡ mid ++ rest
      → (calls mid ≡ []) ⊎ (rest ≡ [])
  begun_marks block mid rest ends e =
      elim (split_two ends.marks (ends.entry ∷ []) mid rest (sym ends.is ∙ e)) [
        | inl s ↦ by_mid s.mid s.is s.behind
        | inr s ↦ inl (no_part (calls mid) (calls s.mid)
            (sym (calls-append mid s.mid) ∙ ap (λ (h : List (Entry C R)). calls h) (sym s.is) ∙ ends.marked))
      ]
    where
      by_mid : (m : List (Entry C R)) → mid ≡ ends.marks ++ m → ends.entry ∷ [] ≡ m ++ rest
          → (calls mid ≡ []) ⊎ (rest ≡ [])
      by_mid [] is behind = inl (ap (λ (h : List (Entry C R)). calls h) (is ∙ append-nil ends.marks) ∙ ends.marked)
      by_mid (x ∷ m) is behind =
          let tail : [] ≡ m ++ rest = cc in inr (after m (sym tail))
        where
          after : (m : List (Entry C R)) → m ++ rest ≡ [] → rest ≡ []
          after [] same = same
          after (y ∷ m) same = absurd cc

  -- a history with a bad block isn't legal
  pub bad_illegal : (history : List (Entry C R)) (place : ℕ) → IsBadBlock meaning form history place
      → IsLegal meaning form history → ⊥
  bad_illegal history place bad legal =
      let at : history ≡ (bad.before ++ bad.block) ++ bad.behind =
      bad.whole ∙ sym (append_assoc bad.before bad.block bad.behind) in
      let whole : IsLegal meaning form ((bad.before ++ bad.block) ++ bad.behind) = subst (IsLegal meaning form) at legal in
      elim bad.cut [
        | inl ends ↦ bad.bad (legal_front meaning form (bad.before ++ bad.block) bad.behind
            (block_closed bad.before bad.block ends) whole)
        | inr marks ↦ bad.bad (subst (IsLegal meaning form) (ap (λ (h : List (Entry C R)). (bad.before ++ bad.block) ++ h)
            marks.1 ∙ append-nil (bad.before ++ bad.block)) whole)
      ]

  -- a later bad block has nothing before it that a first one hasn't
  not_later : (history : List (Entry C R)) (place place' : ℕ) (one : IsBadBlock meaning form history place)
      (other : IsBadBlock meaning form history place') (mid : List (Entry C R)) → other.before ≡ one.before ++ mid
      → one.block ++ one.behind ≡ mid ++ (other.block ++ other.behind) → mid ≡ []
  not_later history place place' one other mid is behind =
      let legal : IsLegal meaning form (one.before ++ mid) = subst (IsLegal meaning form) is other.legal in
      elim (split_two one.block one.behind mid (other.block ++ other.behind) behind) [
        | inl past ↦ absurd (longer past)
        | inr short ↦ elim one.cut [
          | inl ends ↦ elim (begun_marks one.block mid short.mid ends short.is) [
            | inl marks ↦ marks_open one.before mid one.legal marks legal
            | inr all ↦ absurd (one.bad (subst (λ (h : List (Entry C R)). IsLegal meaning form (one.before ++ h))
                (sym (short.is ∙ ap (λ (h : List (Entry C R)). mid ++ h) all ∙ append-nil mid)) legal))
          ]
          | inr marks ↦ marks_open one.before mid one.legal (no_part (calls mid) (calls short.mid)
              (sym (calls-append mid short.mid) ∙ ap (λ (h : List (Entry C R)). calls h) (sym short.is) ∙ marks.0)) legal
        ]
      ]
    where
      longer : Split mid one.block one.behind (other.block ++ other.behind) → ⊥
      longer past =
          let at : other.before ≡ (one.before ++ one.block) ++ past.mid =
          is ∙ ap (λ (h : List (Entry C R)). one.before ++ h) past.is
          ∙ sym (append_assoc one.before one.block past.mid) in
          let whole : IsLegal meaning form ((one.before ++ one.block) ++ past.mid) =
          subst (IsLegal meaning form) at other.legal in
          elim one.cut [
            | inl ends ↦ one.bad (legal_front meaning form (one.before ++ one.block) past.mid
                (block_closed one.before one.block ends) whole)
            | inr marks ↦
                let none : past.mid ≡ [] = no_part past.mid (other.block ++ other.behind)
                (sym past.behind ∙ marks.1) in
                one.bad (subst (IsLegal meaning form) (ap (λ (h : List (Entry C R)). (one.before ++ one.block) ++ h)
                none ∙ append-nil (one.before ++ one.block)) whole)
          ]

  pub one_block : (history : List (Entry C R)) (place place' : ℕ) → IsBadBlock meaning form history place
      → IsBadBlock meaning form history place' → place ≡ place'
  one_block history place place' one other =
      elim (split_two one.before (one.block ++ one.behind) other.before (other.block ++ other.behind)
      (sym one.whole ∙ other.whole)) [
        | inl s ↦
            let none : s.mid ≡ [] = not_later history place place' one other s.mid s.is s.behind in
            let long : length other.before ≡ length one.before = ap (λ (h : List (Entry C R)). length h)
            (s.is ∙ ap (λ (h : List (Entry C R)). one.before ++ h) none ∙ append-nil one.before) in
            omega (arith, one.here, other.here, long)
        | inr s ↦
            let none : s.mid ≡ [] = not_later history place' place other one s.mid s.is s.behind in
            let long : length one.before ≡ length other.before = ap (λ (h : List (Entry C R)). length h)
            (s.is ∙ ap (λ (h : List (Entry C R)). other.before ++ h) none ∙ append-nil other.before) in
            omega (arith, one.here, other.here, long)
      ]

-- ---- of any kind

pub any_illegal : (form : StrForm) (h : AnyHistory) (place : ℕ) → IsAnyBadBlock form h place → IsAnyLegal form h → ⊥
any_illegal form (AnyHistory.Cache entries) place bad legal = bad_illegal altered_caches form entries place bad legal
any_illegal form (AnyHistory.List entries) place bad legal = bad_illegal queued_lists form entries place bad legal
any_illegal form (AnyHistory.Lock entries) place bad legal = bad_illegal lock_meaning form entries place bad legal

pub any_one_block : (form : StrForm) (h : AnyHistory) (place place' : ℕ) → IsAnyBadBlock form h place → IsAnyBadBlock form h place'
    → place ≡ place'
any_one_block form (AnyHistory.Cache entries) place place' one other = one_block altered_caches form entries place place' one other
any_one_block form (AnyHistory.List entries) place place' one other = one_block queued_lists form entries place place' one other
any_one_block form (AnyHistory.Lock entries) place place' one other = one_block lock_meaning form entries place place' one other
