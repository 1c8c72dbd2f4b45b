-- No line of a report has a feed.
use Rattle.std.proofs.Common.{◌≡◌, ℕ, zero, suc, ◌+◌, ◌<◌, ◌≤◌, ◌==◌, ◌^◌, Bool, true, false, not, List, [], ◌∷◌, ◌++◌, length, map, get_or, replicate, codes, refl, sym, ap, subst, ◌∙◌, arith}
use Rattle.std.specs.Prelude.{filter}
use Rattle.std.specs.Fmt.{decimal}
use Rattle.std.specs.List.{list_all, flat_map}
use Rattle.std.proofs.lemmas.Bool.Decides.{nat_tests}
use Rattle.std.proofs.lemmas.Option.{slice_get-get_or}
use Rattle.plex_plain.proofs.Rooms.{name-good, number-good, caller-good}
use Rattle.plex_plain.proofs.Tests.{all-weaker}
use Rattle.plex_plain.proofs.Texts.{clear, AreClear, AreGood, line-clear}
use Rattle.plex_script.proofs.PolicyPrinted.{facilities-add, structures-add, connectors-add, structures-named}
use Rattle.report_texts.specs.CheckModel.RunShown.CfTypes.declared.forms.StrForm.{StrForm}
use Rattle.report_texts.specs.CheckModel.RunShown.PlexScript.declared.scripts.Script.{Script}
use Rattle.report_texts.specs.CheckModel.RunShown.PlexScript.Limits.{KeepsLimits}
use Rattle.report_texts.specs.PlexReport.Lines.{heading}
use Rattle.report_texts.specs.PlexReport.Naming.{caller_name, structure_name}
use Rattle.report_texts.specs.PlexReport.PlexPlain.PolicyLines.{facility_line, connector_line, structure_lines}
use Rattle.report_texts.specs.PlexReport.Report.{by_number, with_number, structures_lines, lines_each}
use Rattle.report_fronts.specs.Cuts.{is_free, AreFree}
use Rattle.report_fronts.specs.Fronts.{AreReportsFree, AreEntriesFree, AreItemsFree}
use Rattle.report_fronts.specs.Grammars.{Every}
use Rattle.report_fronts.specs.Slots.{Slot, Opens, Leads, policy_lines, slots_each, history_slot, transcript_slot, end_slots, caller_slots_from, slots_from, report_slots}
use Rattle.report_fronts.specs.Slots.Slot.{Exactly, Entered, Listed, Headed}
use Rattle.report_fronts.proofs.ReportLaws.{report_fills}

-- ---- lines of clear bytes

clear_free : (b : ℕ) → clear b ≡ true → not (b == 10) ≡ true
clear_free b h = grind (arith, nat_tests)

pub free_line : (line : List ℕ) → list_all clear line ≡ true → is_free line ≡ true
free_line line h = all-weaker clear (λ b. not (b == 10)) clear_free line h

free_lines : (lines : List (List ℕ)) → AreClear lines → AreFree lines
free_lines [] h = tt
free_lines (line ∷ lines) h = (free_line line h.0, free_lines lines h.1)

free_both : (xs ys : List (List ℕ)) → AreFree xs → AreFree ys → AreFree (xs ++ ys)
free_both [] ys h k = k
free_both (x ∷ xs) ys h k = (h.0, free_both xs ys h.1 k)

free_maps : {X : Type 0} (f : X → List ℕ) (xs ys : List X) → AreFree (map f xs) → AreFree (map f ys)
    → AreFree (map f (xs ++ ys))
free_maps f [] ys h k = k
free_maps f (x ∷ xs) ys h k = (h.0, free_maps f xs ys h.1 k)

free_filter : {X : Type 0} (f : X → List ℕ) (p : X → Bool) (xs : List X) → AreFree (map f xs)
    → AreFree (map f (filter p xs))
free_filter f p [] h = tt
free_filter f p (x ∷ xs) h = go (p x) refl (free_filter f p xs h.1)
  where
    go : (t : Bool) → p x ≡ t → AreFree (map f (filter p xs)) → AreFree (map f (filter p (x ∷ xs)))
    go true e rest = rw e (h.0, rest)
    go false e rest = rw e rest

heading_free : (word name : List ℕ) (n : ℕ) → AreGood (word ∷ name ∷ []) → n < 2 ^ 64
    → is_free (heading word name n) ≡ true
heading_free word name n good small =
    let number = number-good n small in
    free_line (heading word name n) (line-clear (word ∷ name ∷ decimal n ∷ [])
    (good.0, good.1, (good.2.0, good.2.1, (number.some, number.solid_all, tt))))

module _ (script : Script) (keeps : KeepsLimits script) where
  -- ---- the policy

  each_lines : (n : ℕ) (forms : List StrForm)
      → lines_each (λ i form. structure_lines form) n forms ≡ flat_map structure_lines forms
  each_lines n [] = refl
  each_lines n (form ∷ forms) = ap (λ (ls : List (List ℕ)). structure_lines form ++ ls) (each_lines (n + 1) forms)

  facilities_free : AreFree (map facility_line (by_number script.facilities))
  facilities_free =
      let all = free_lines (map facility_line script.facilities)
      (facilities-add script.facilities keeps.facilities).clear_lines in
      let one : (n : ℕ) → AreFree (map facility_line (with_number n script.facilities)) =
      λ n. free_filter facility_line (λ facility. facility.cf.0 == n) script.facilities all in
      let two = free_maps facility_line (with_number 1 script.facilities) (with_number 2 script.facilities)
      (one 1) (one 2) in
      let three = free_maps facility_line (with_number 1 script.facilities ++ with_number 2 script.facilities)
      (with_number 3 script.facilities) two (one 3) in
      free_maps facility_line ((with_number 1 script.facilities ++ with_number 2 script.facilities)
      ++ with_number 3 script.facilities) (with_number 4 script.facilities) three (one 4)

  structures_free : AreFree (structures_lines script)
  structures_free = subst AreFree (sym (each_lines 0 script.structures))
      (free_lines (flat_map structure_lines script.structures) (structures-add script.facilities script.structures 0
      keeps.structure_names keeps.few_structures keeps.structures keeps.room).clear_lines)

  connectors_free : AreFree (map connector_line script.connectors)
  connectors_free = free_lines (map connector_line script.connectors) (connectors-add script.facilities
      script.structures script.connectors 0 keeps.connectors keeps.few_connectors).clear_lines

  policy_free : AreFree (policy_lines script)
  policy_free = free_both (map facility_line (by_number script.facilities))
      (structures_lines script ++ map connector_line script.connectors) facilities_free
      (free_both (structures_lines script) (map connector_line script.connectors) structures_free connectors_free)

  -- ---- names

  first_form : (xs : List StrForm) (n : ℕ) → n < length xs → StrForm
  first_form [] n low = absurd (omega (arith, low))
  first_form (form ∷ xs) n low = form

  structure_good : (x : ℕ) → x < length script.structures → AreGood (codes "HISTORY" ∷ structure_name script x ∷ [])
  structure_good x low =
      let d = first_form script.structures x low in
      let names = structures-named script.structures keeps.structure_names in
      let good = name-good (get_or script.structures x d).name (names.named x d low).0 in
      rw (slice_get-get_or script.structures x d low) (refl, refl, (good.some, good.solid_all, tt))

  caller_good : (c : ℕ) → c ≤ length script.connectors → AreGood (codes "TRANSCRIPT" ∷ caller_name script c ∷ [])
  caller_good c low =
      let good = caller-good script.connectors c keeps.connectors low in
      (refl, refl, (good.some, good.solid_all, tt))

  -- ---- slots

  module _ (entries : AreEntriesFree script) (items : AreItemsFree script) where
    abbrev IsFreeSlot : Slot → Type 0
    IsFreeSlot (Exactly line) = is_free line ≡ true
    IsFreeSlot (Entered on) = Unit {0}
    IsFreeSlot Listed = Unit {0}
    IsFreeSlot (Headed word name slot) =
        ((n : ℕ) → n < 2 ^ 64 → is_free (heading word name n) ≡ true) × IsFreeSlot slot

    many_free : (slot : Slot) (n : ℕ) → IsFreeSlot slot → Every IsFreeSlot (replicate n slot)
    many_free slot zero h = tt
    many_free slot (suc n) h = (h, many_free slot n h)

    opens_free : (slot : Slot) (line : List ℕ) (more : List Slot) → IsFreeSlot slot → Opens script slot line more
        → (is_free line ≡ true) × Every IsFreeSlot more
    opens_free (Exactly wanted) line more h x = (ap is_free x.0 ∙ h, subst (Every IsFreeSlot) (sym x.1) tt)
    opens_free (Entered on) line more h x = (entries on line x.0, subst (Every IsFreeSlot) (sym x.1) tt)
    opens_free Listed line more h x = (items line x.0, subst (Every IsFreeSlot) (sym x.1) tt)
    opens_free (Headed word name slot) line more h x =
        (ap is_free x.3 ∙ h.0 x.0 x.1, subst (Every IsFreeSlot) (sym x.4) (many_free slot x.0 h.1))

    both_free : (xs ys : List Slot) → Every IsFreeSlot xs → Every IsFreeSlot ys → Every IsFreeSlot (xs ++ ys)
    both_free [] ys h k = k
    both_free (x ∷ xs) ys h k = (h.0, both_free xs ys h.1 k)

    leads_free : (slots left : List Slot) (lines : List (List ℕ)) → Every IsFreeSlot slots
        → Leads script slots lines left → AreFree lines
    leads_free slots left [] h goes = tt
    leads_free [] left (line ∷ lines) h goes = absurd goes.1
    leads_free (slot ∷ slots) left (line ∷ lines) h goes =
        let first = opens_free slot line goes.1.0 h.0 goes.1.1 in
        let next = subst (Every IsFreeSlot) (sym goes.1.2) (both_free goes.1.0 slots first.1 h.1) in
        (first.0, leads_free goes.0 left lines next goes.2)

    exactly_free : (lines : List (List ℕ)) → AreFree lines → Every IsFreeSlot (map (λ line. Exactly line) lines)
    exactly_free [] h = tt
    exactly_free (line ∷ lines) h = (h.0, exactly_free lines h.1)

    each_free : (slot : ℕ → Slot) (below : ℕ) → ((i : ℕ) → i < below → IsFreeSlot (slot i)) → (n first : ℕ)
        → first + n ≤ below → Every IsFreeSlot (slots_each slot n first)
    each_free slot below h zero first low = tt
    each_free slot below h (suc n) first low =
        (h first (omega (arith, low)), each_free slot below h n (first + 1) (omega (arith, low)))

    slots_free : Every IsFreeSlot (report_slots script)
    slots_free = both_free (map (λ line. Exactly line) (policy_lines script))
        (slots_from script (length script.structures) 0) (exactly_free (policy_lines script) policy_free)
        (both_free (slots_each (history_slot script) (length script.structures) 0)
        (caller_slots_from script (length script.connectors + 1) 0)
        (each_free (history_slot script) (length script.structures) (λ i low. (
          λ n small. heading_free
              (codes "HISTORY") (structure_name script i) n (structure_good i low) small,
          tt,
        )) (length script.structures) 0
        (omega arith))
        (both_free (slots_each (transcript_slot script) (length script.connectors + 1) 0) end_slots
        (each_free (transcript_slot script) (length script.connectors + 1) (λ i low. (
          λ n small. heading_free
              (codes "TRANSCRIPT") (caller_name script i) n (caller_good i (omega (arith, low))) small,
          tt,
        ))
        (length script.connectors + 1) 0 (omega arith)) (refl, tt)))

    pub reports_free : AreReportsFree script
    reports_free = λ printed readable. leads_free (report_slots script) [] _ slots_free
        (report_fills script printed readable)
