-- Steps of reading, one after another, to the end or to the first line that is no report's.
use Rattle.std.proofs.Common.{◌≡◌, ℕ, zero, suc, ◌+◌, ◌-◌, ◌<◌, true, List, [], ◌∷◌, ◌++◌, drop, replicate, refl, sym, ap, subst, ◌∙◌, arith, append_assoc, append-nil, length-append}
use Rattle.report_texts.specs.CheckModel.RunShown.PlexScript.declared.scripts.Script.{Script}
use Rattle.report_texts.specs.Texts.{IsFirstUnread, feeds}
use Rattle.report_fronts.specs.Cuts.{is_free}
use Rattle.report_fronts.specs.Fronts.{AreReportsFree, Stands}
use Rattle.report_fronts.specs.Slots.{Slot, Opens, report_slots}
use Rattle.report_fronts.specs.Steps.{At, Reads, Stops}
use Rattle.plex_spell.proofs.CutLaws.{same_cut}
use Rattle.report_fronts.proofs.CutLaws.{text_of}
use Rattle.report_fronts.proofs.GrammarLaws.{goes_one}
use Rattle.report_fronts.proofs.TextLaws.{first_unread, free_more, one_more, fed_line}

module _ (script : Script) (text : List ℕ) where
  abbrev Lines : Type 0
  Lines = List (List ℕ)

  at_lines : (to : At) (left : List Slot) (lines lines' : Lines) → lines ≡ lines'
      → Stands script text to.0 to.1 lines left → Stands script text to.0 to.1 lines' left
  at_lines to left lines lines' e s = subst (λ (ls : Lines). Stands script text to.0 to.1 ls left) e s

  at_left : (to : At) (left left' : List Slot) (lines : Lines) → left ≡ left'
      → Stands script text to.0 to.1 lines left → Stands script text to.0 to.1 lines left'
  at_left to left left' lines e s = subst (λ (l : List Slot). Stands script text to.0 to.1 lines l) e s

  -- ---- one after another

  pub reads_none : (from : At) (slots : List Slot) → Reads script text from slots from [] slots
  reads_none from slots = λ lines under s.
      at_lines from (slots ++ under) lines (lines ++ []) (sym (append-nil lines)) s

  pub reads_on : (a b c : At) (slots mid left : List Slot) (first then : Lines)
      → Reads script text a slots b first mid → Reads script text b mid c then left
      → Reads script text a slots c (first ++ then) left
  reads_on a b c slots mid left first then one other = λ lines under s.
      at_lines c (left ++ under) ((lines ++ first) ++ then) (lines ++ (first ++ then))
      (append_assoc lines first then) (other (lines ++ first) under (one lines under s))

  pub reads_above : (a b : At) (slots left more : List Slot) (first : Lines) → Reads script text a slots b first left
      → Reads script text a (slots ++ more) b first (left ++ more)
  reads_above a b slots left more first one = λ lines under s.
      at_left b (left ++ (more ++ under)) ((left ++ more) ++ under) (lines ++ first)
      (sym (append_assoc left more under)) (one lines (more ++ under)
      (at_left a ((slots ++ more) ++ under) (slots ++ (more ++ under)) lines (append_assoc slots more under) s))

  pub stops_on : (a b : At) (slots mid : List Slot) (first : Lines) (n : ℕ) → Reads script text a slots b first mid
      → Stops script text b mid n → Stops script text a slots n
  stops_on a b slots mid first n one other = λ lines under s. other (lines ++ first) under (one lines under s)

  pub stops_above : (a : At) (slots more : List Slot) (n : ℕ) → Stops script text a slots n
      → Stops script text a (slots ++ more) n
  stops_above a slots more n one = λ lines under s. one lines (more ++ under)
      (at_left a ((slots ++ more) ++ under) (slots ++ (more ++ under)) lines (append_assoc slots more under) s)

  -- the first slots are read, and then others
  pub reads_both : (a b c : At) (slots more : List Slot) (first then : Lines) → Reads script text a slots b first []
      → Reads script text b more c then [] → Reads script text a (slots ++ more) c (first ++ then) []
  reads_both a b c slots more first then one other =
      reads_on a b c (slots ++ more) more [] first then (reads_above a b slots [] more first one) other

  pub stops_behind : (a b : At) (slots more : List Slot) (first : Lines) (n : ℕ)
      → Reads script text a slots b first [] → Stops script text b more n → Stops script text a (slots ++ more) n
  stops_behind a b slots more first n one other =
      stops_on a b (slots ++ more) more first n (reads_above a b slots [] more first one) other

  -- ---- one line

  pub reads_line : (a b : At) (slot : Slot) (left : List Slot) (line : List ℕ) → is_free line ≡ true
      → drop a.0 text ≡ line ++ 10 ∷ drop b.0 text → b.1 ≡ a.1 + 1 → Opens script slot line left
      → Reads script text a (slot ∷ []) b (line ∷ []) left
  reads_line a b slot left line free is count opens = λ lines under s. record {
    whole = s.whole ∙ (ap (λ (t : List ℕ). text_of lines ++ t) is ∙ sym (one_more lines line (drop b.0 text)));
    free = free_more lines line s.free free;
    many = let m = s.many in let l = length-append lines (line ∷ []) in omega (arith, count, m, l);
    leads = goes_one (Opens script) (report_slots script) (slot ∷ under) (left ++ under) lines line s.leads
        (left, opens, refl);
  }

  pub starts : Stands script text 0 0 [] (report_slots script)
  starts = record { whole = refl; free = tt; many = refl; leads = refl }

  module _ (frees : AreReportsFree script) where
    -- no line that comes here fills the slot
    pub stops_line : (a : At) (slot : Slot) → ((line more : List ℕ) (left : List Slot) → is_free line ≡ true
        → drop a.0 text ≡ line ++ 10 ∷ more → Opens script slot line left → ⊥)
        → Stops script text a (slot ∷ []) (a.1 + 1)
    stops_line a slot none = λ lines under s. first_unread script frees text a.0 a.1 lines (slot ∷ under) s (record {
      line = λ line more next free e takes. none line more takes.0 free e takes.1;
      ends = λ e nothing. absurd (cc (nothing));
    })

    -- there is no line
    pub stops_short : (a : At) (slot : Slot) → feeds (drop a.0 text) ≡ 0 → Stops script text a (slot ∷ []) (a.1 + 1)
    stops_short a slot none = stops_line a slot (λ line more left free e opens.
        let f = ap feeds (sym e) in
        let g = fed_line line more free in
        omega (arith, none, f, g))

    -- the line that comes here doesn't fill the slot
    pub stops_other : (a : At) (slot : Slot) (line rest : List ℕ) → is_free line ≡ true
        → drop a.0 text ≡ line ++ 10 ∷ rest → ((left : List Slot) → Opens script slot line left → ⊥)
        → Stops script text a (slot ∷ []) (a.1 + 1)
    stops_other a slot line rest free is none = stops_line a slot (λ line' more left free' e opens.
        let cut = same_cut 10 line' more line rest free' free (sym e ∙ is) in
        none left (subst (λ (l : List ℕ). Opens script slot l left) cut.0 opens))

    -- more text stands behind the last line of all
    pub stops_end : (to : At) (lines : Lines) → Reads script text (0, 0) (report_slots script) to lines []
        → (drop to.0 text ≡ [] → ⊥) → IsFirstUnread script text (to.1 + 1)
    stops_end to lines reads some =
        let s = reads [] [] (at_left (0, 0) (report_slots script) (report_slots script ++ []) []
        (sym (append-nil (report_slots script))) starts) in
        first_unread script frees text to.0 to.1 lines [] s (record {
          line = λ line more next free e takes. takes;
          ends = λ e nothing. some e;
        })

    -- all of it stops
    pub stops_all : (n : ℕ) → Stops script text (0, 0) (report_slots script) n → IsFirstUnread script text n
    stops_all n stops = stops [] [] (at_left (0, 0) (report_slots script) (report_slots script ++ []) []
        (sym (append-nil (report_slots script))) starts)

  -- ---- so many of one slot

  many_more : (i : ℕ) (slot : Slot) → replicate (i + 1) slot ≡ replicate i slot ++ slot ∷ []
  many_more zero slot = refl
  many_more (suc i) slot = ap (λ (k : ℕ). replicate k slot) (next i)
      ∙ ap (λ (s : List Slot). slot ∷ s) (many_more i slot)
    where
      next : (i : ℕ) → suc i + 1 ≡ suc (i + 1)
      next i = omega arith

  pub reads_more : (a b c : At) (i : ℕ) (slot : Slot) (first : Lines) (line : List ℕ)
      → Reads script text a (replicate i slot) b first [] → Reads script text b (slot ∷ []) c (line ∷ []) []
      → Reads script text a (replicate (i + 1) slot) c (first ++ line ∷ []) []
  reads_more a b c i slot first line one other =
      subst (λ (s : List Slot). Reads script text a s c (first ++ line ∷ []) []) (sym (many_more i slot))
      (reads_both a b c (replicate i slot) (slot ∷ []) first (line ∷ []) one other)

  many_split : (i n : ℕ) (slot : Slot) → i < n
      → replicate n slot ≡ replicate i slot ++ (slot ∷ []) ++ replicate (n - (i + 1)) slot
  many_split zero zero slot low = absurd (omega (arith, low))
  many_split zero (suc n) slot low = ap (λ (k : ℕ). slot ∷ replicate k slot) (omega arith)
  many_split (suc i) zero slot low = absurd (omega (arith, low))
  many_split (suc i) (suc n) slot low = ap (λ (s : List Slot). slot ∷ s) (many_split i n slot (omega (arith, low))
      ∙ ap (λ (k : ℕ). replicate i slot ++ (slot ∷ []) ++ replicate k slot) (omega arith))

  pub stops_among : (a b : At) (i total n : ℕ) (slot : Slot) (first : Lines) → i < total
      → Reads script text a (replicate i slot) b first [] → Stops script text b (slot ∷ []) n
      → Stops script text a (replicate total slot) n
  stops_among a b i total n slot first low one other =
      subst (λ (s : List Slot). Stops script text a s n)
      (sym (many_split i total slot low
      ∙ append_assoc (replicate i slot) (slot ∷ []) (replicate (total - (i + 1)) slot)))
      (stops_behind a b (replicate i slot) ((slot ∷ []) ++ replicate (total - (i + 1)) slot) first n one
      (stops_above b (slot ∷ []) (replicate (total - (i + 1)) slot) n other))

  -- ---- from the start to the end

  -- all slots are filled, and nothing stands behind
  pub reads_all : (to : At) (lines : Lines) → Reads script text (0, 0) (report_slots script) to lines []
      → drop to.0 text ≡ [] → text ≡ text_of lines
  reads_all to lines reads none =
      let s = reads [] [] (at_left (0, 0) (report_slots script) (report_slots script ++ []) []
      (sym (append-nil (report_slots script))) starts) in
      s.whole ∙ (ap (λ (t : List ℕ). text_of lines ++ t) none ∙ append-nil (text_of lines))
