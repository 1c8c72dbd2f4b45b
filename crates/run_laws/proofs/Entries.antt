-- The lines of a legal history fix it, where it is known what each caller asks next.
use Rattle.run_laws.proofs.Imports.{◌≡◌, ℕ, ◌+◌, ◌≤◌, true, List, [], ◌∷◌, ◌++◌, length, map, drop, codes, Option, Some, refl, sym, ap, subst, ◌∙◌, arith, append_assoc, decimal, and_parts, and_from, decimal_injective, append_cancel_left, IsFacility, CfId, StrForm, ConnId, Ask, What, Entry, Meaning, next_entry, IsNextAs, Continues, tail_of, line_of, AnyAsk, Script, facility_word, caller_word, ask_words, entry_line, what_words, reply_words, is_of_vary, NamesFacility, NamesFacilities, same_cut}
use Rattle.run_laws.proofs.Cuts.{is_free, free_decimal, text_of, text-cons}
use Rattle.run_laws.proofs.Callers.{AreApart, free_caller, same_caller, not_system}

-- words behind words begin with a blank
blank_before : (words : List (List ℕ)) (word : List ℕ) (others : List (List ℕ))
    → tail_of (words ++ word ∷ others) ≡ 32 ∷ drop 1 (tail_of (words ++ word ∷ others))
blank_before [] word others = refl
blank_before (first ∷ words) word others = refl

module _ {C R I S : Type 0} (meaning : Meaning C R I S) (form : StrForm) (of : Ask C → AnyAsk)
    (one_ask : (a b : Ask C) → Some (of a) ≡ Some (of b) → a ≡ b)
    (cmd_words : Script → C → List (List ℕ)) (answer_words : Script → R → List (List ℕ)) (script : Script) where
  abbrev line : Entry C R → List ℕ
  line entry = entry_line cmd_words answer_words script entry

  -- the word of who did it: a caller, or the system, which tells marks
  abbrev who : ConnId → What C → List ℕ
  who by (What.Call ask) = caller_word script by
  who by (What.Lost cf) = codes "SYS"

  -- what stands behind it, up to the line's end
  abbrev behind : What C → List (List ℕ) → List ℕ
  behind (What.Call ask) replies = drop 1 (tail_of (ask_words cmd_words script ask ++ codes "->" ∷ replies))
  behind (What.Lost cf) replies = codes "LOST" ++ 32 ∷ (facility_word cf ++ 32 ∷ (codes "->" ++ tail_of replies))

  abbrev who_of : Entry C R → List ℕ
  who_of entry = who entry.by entry.what

  abbrev behind_of : Entry C R → List ℕ
  behind_of entry = behind entry.what (reply_words answer_words script (is_of_vary entry.what) entry.reply)

  line_is : (number : List ℕ) (by : ConnId) (told : What C) (replies : List (List ℕ)) → line_of (number ∷ what_words
      cmd_words script by told ++ codes "->" ∷ replies) ≡ number ++ 32 ∷ (who by told ++ 32 ∷ behind told replies)
  line_is number by (What.Call ask) replies = grind (arith, blank_before)
  line_is number by (What.Lost cf) replies = refl

  text_front : (entry : Entry C R) (lines : List (List ℕ)) → text_of (line entry ∷ lines)
      ≡ (decimal entry.no ++ 32 ∷ []) ++ (who_of entry ++ 32 ∷ (behind_of entry ++ 10 ∷ text_of lines))
  text_front entry lines = grind (arith, text-cons, text_of, line_is, append_assoc)

  -- a caller of the script asks what comes next
  abbrev pub AsksNext : Option AnyAsk → ConnId → What C → Type 0
  AsksNext next by (What.Call ask) = (next ≡ Some (of ask)) × (by.0 ≤ length script.connectors)
  AsksNext next by (What.Lost cf) = Unit {0}

  -- what a caller asks next, in the histories that are read
  abbrev pub Asked : (List (Entry C R) → ConnId → Option AnyAsk) → List (Entry C R) → List (Entry C R) → Type 0
  Asked next before [] = Unit {0}
  Asked next before (entry ∷ entries) =
      AsksNext (next before entry.by) entry.by entry.what × Asked next (before ++ entry ∷ []) entries

  number_next : (before : List (Entry C R)) (entry : Entry C R) (told : What C)
      → IsNextAs meaning form before entry told → entry.no ≡ length before + 1
  number_next before entry _ e = grind arith

  -- who did it, by words that have no blank
  free_who : (next : Option AnyAsk) (by : ConnId) (told : What C) → AsksNext next by told
      → is_free 32 (who by told) ≡ true
  free_who next by _ asks = grind (arith, free_caller)

  free_facility : (cf : CfId) → IsFacility cf → is_free 32 (facility_word cf) ≡ true
  free_facility cf is = grind (arith, free_decimal, is_free, and_parts, and_from)

  -- marks that are told in one way are of one facility
  same_facility : (cf cf' : CfId) (replies replies' : List (List ℕ)) (xs ys : List ℕ) → IsFacility cf
      → IsFacility cf' → behind (What.Lost cf) replies ++ xs ≡ behind (What.Lost cf') replies' ++ ys → cf ≡ cf'
  same_facility cf cf' replies replies' xs ys is is' e =
      let front : List ℕ = codes "LOST" ++ 32 ∷ [] in
      let tail : List ℕ = codes "->" ++ tail_of replies in
      let tail' : List ℕ = codes "->" ++ tail_of replies' in
      let whole : front ++ (facility_word cf ++ 32 ∷ (tail ++ xs)) ≡ front ++ (facility_word
      cf' ++ 32 ∷ (tail' ++ ys)) = grind (arith, append_assoc) in
      let words = same_cut 32 (facility_word cf) (tail ++ xs)
      (facility_word cf') (tail' ++ ys) (free_facility cf is) (free_facility cf' is') (append_cancel_left
      front (facility_word cf ++ 32 ∷ (tail ++ xs)) (facility_word cf' ++ 32 ∷ (tail' ++ ys)) whole) in
      let number : cf.0 ≡ cf'.0 = grind (arith, decimal_injective, append_cancel_left) in
      ap (λ (n : ℕ). (let it : CfId = record { 0 = n } in it)) number

  -- what two entries behind the same ones tell, where their lines are the same
  same_next : (next next' : Option AnyAsk) (before : List (Entry C R)) (a b : Entry C R) (told told' : What C)
      (replies replies' : List (List ℕ)) (xs ys : List ℕ) → AreApart script.connectors → (a.by ≡ b.by → next ≡ next')
      → AsksNext next a.by told → AsksNext next' b.by told' → NamesFacility told → NamesFacility told'
      → IsNextAs meaning form before a told → IsNextAs meaning form before b told' → who a.by told ≡ who b.by told'
      → behind told replies ++ xs ≡ behind told' replies' ++ ys → a ≡ b
  same_next next next' before a b (What.Call ask) (What.Call ask') replies replies' xs ys apart asker asks asks' marks
      marks' goes goes' callers e =
      let by : a.by ≡ b.by = grind (arith, same_caller) in
      let same : ask ≡ ask' = one_ask ask ask' (sym asks.0 ∙ asker by ∙ asks'.0) in
      goes ∙ ap (λ (c : ConnId). next_entry meaning form before c ask) by
      ∙ ap (λ (q : Ask C). next_entry meaning form before b.by q) same ∙ sym goes'
  same_next next next' before a b (What.Lost cf) (What.Lost cf') replies replies' xs ys apart asker asks asks' marks
      marks' goes goes' callers e = grind (arith, same_facility)
  same_next next next' before a b (What.Call ask) (What.Lost cf') replies replies' xs ys apart asker asks asks' marks
      marks' goes goes' callers e = absurd (not_system script a.by.0 apart asks.1 callers)
  same_next next next' before a b (What.Lost cf) (What.Call ask') replies replies' xs ys apart asker asks asks' marks
      marks' goes goes' callers e = absurd (not_system script b.by.0 apart asks'.1 (sym callers))

  pub same_entries : (next : List (Entry C R) → ConnId → Option AnyAsk)
      (before one other : List (Entry C R)) (xs ys : List (List ℕ)) → AreApart script.connectors
      → length one ≡ length other → NamesFacilities one → NamesFacilities other → Continues meaning form before one
      → Continues meaning form before other → Asked next before one → Asked next before other
      → text_of (map line one ++ xs) ≡ text_of (map line other ++ ys) → (one ≡ other) × (text_of xs ≡ text_of ys)
  same_entries next before [] [] xs ys apart same marks marks' goes goes' asked asked' e = (refl, e)
  same_entries next before (a ∷ one) (b ∷ other) xs ys apart same marks marks' goes goes' asked asked' e =
      let lines = map line one ++ xs in
      let lines' = map line other ++ ys in
      let numbers : decimal b.no ≡ decimal a.no = grind (arith, number_next) in
      let behind_number = append_cancel_left (decimal a.no ++ 32 ∷ []) (who_of a ++ 32 ∷ (behind_of a ++ 10 ∷ text_of
      lines)) (who_of b ++ 32 ∷ (behind_of b ++ 10 ∷ text_of lines')) (grind (arith, text_front, text_of)) in
      let callers = same_cut 32 (who_of a) (behind_of a ++ 10 ∷ text_of lines) (who_of b) (behind_of b ++ 10 ∷ text_of
      lines') (free_who _ a.by a.what asked.0) (free_who _ b.by b.what asked'.0) behind_number in
      let same_entry : a ≡ b = grind (arith, same_next, text_of) in
      let rest : text_of lines ≡ text_of lines' = grind (arith, append_cancel_left, text_of) in
      let more = same_entries next (before ++ b ∷ []) one other xs ys apart (omega (arith, same)) marks.1 marks'.1
      (subst (λ (x : Entry C R). Continues meaning form (before ++ x ∷ []) one) same_entry goes.1) goes'.1
      (subst (λ (x : Entry C R). Asked next (before ++ x ∷ []) one) same_entry asked.1) asked'.1 rest in
      let others : one ≡ other = more.0 in
      (cc, more.1)
  same_entries next before _ _ xs ys apart same marks marks' goes goes' asked asked' e = grind arith
