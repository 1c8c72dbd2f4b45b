-- Many slots are read one after another: so many of one, or one for each number.
use Rattle.std.proofs.Common.{◌≡◌, ℕ, zero, suc, ◌+◌, ◌-◌, ◌<◌, List, [], ◌∷◌, ◌++◌, length, map, replicate, refl, sym, ap, subst, ◌∙◌, arith, append_assoc, append-nil, length-append}
use Rattle.std.proofs.lemmas.List.{map-append}
use Rattle.std.proofs.lemmas.List.Elements.{All-nil, All-cons, All-append}
use Rattle.report_texts.specs.CheckModel.RunShown.PlexScript.declared.scripts.Script.{Script}
use Rattle.report_texts.specs.PlexReport.Report.{lines_each}
use Rattle.report_fronts.specs.Slots.{Slot, slots_each}
use Rattle.report_fronts.specs.Steps.{Reads, Stops}
use Rattle.report_fronts.proofs.SlotLaws.{AreAt, at_each, each_at}
use Rattle.report_fronts.proofs.StepLaws.{reads_none, reads_both, reads_more, stops_among, stops_above, stops_behind}
use Rattle.report_read.specs.declared.cursor.Cursor.{Cursor}
use Rattle.report_read.specs.declared.cursor.TextBad.{TextBad}
use Rattle.report_read.specs.declared.cursor.TextBad.TheVariants as bad
use Rattle.report_read.specs.Lines.{at_of, IsPlaced}
use Rattle.report_read.specs.Reads.{IsRead, AreRead, AreEachRead, IsStop}

module _ (script : Script) (text : List ℕ) (from : Cursor) where
  -- ---- so many of one slot

  module _ {X : Type 0} (slot : Slot) (line : X → List ℕ) (P : X → Type 0) where
    pub none_read : IsPlaced text from → AreRead script text from slot line P 0 [] from
    none_read placed = record {
      long = refl;
      each = All-nil P;
      read = record { reads = reads_none script text (at_of from) []; placed = placed };
    }

    pub one_read : (i : ℕ) (xs : List X) (x : X) (at to : Cursor) → AreRead script text from slot line P i xs at → P x
        → IsRead script text at (slot ∷ []) (line x ∷ []) [] to
        → AreRead script text from slot line P (i + 1) (xs ++ x ∷ []) to
    one_read i xs x at to before good here =
        let long = length-append xs (x ∷ []) in
        record {
          long = omega (arith, before.long, long);
          each = All-append P xs (x ∷ []) before.each (All-cons P x [] good (All-nil P));
          read = record {
            reads = subst (λ (ls : List (List ℕ)). Reads script text (at_of from) (replicate (i + 1) slot)
                (at_of to) ls []) (sym (map-append line xs (x ∷ []))) (reads_more script text
                (at_of from) (at_of at) (at_of to) i slot (map line xs) (line x) before.read.reads here.reads);
            placed = here.placed;
          };
        }

    pub one_pushed : (i : ℕ) (xs : List X) (x : X) (at to : Cursor) (ys : List X)
        → AreRead script text from slot line P i xs at → P x → IsRead script text at (slot ∷ []) (line x ∷ []) [] to
        → ys ≡ xs ++ x ∷ [] → AreRead script text from slot line P (i + 1) ys to
    one_pushed i xs x at to ys before good here is = subst (λ (zs : List X). AreRead script
        text from slot line P (i + 1) zs to) (sym is) (one_read i xs x at to before good here)

    pub one_stops : (i n : ℕ) (xs : List X) (at : Cursor) (why : TextBad) → AreRead script text from slot line
        P i xs at → i < n → IsStop script text at (slot ∷ []) why → IsStop script text from (replicate n slot) why
    one_stops i n xs at (bad.Line k) before low stop =
        stops_among script text (at_of from) (at_of at) i n k slot (map line xs) low before.read.reads stop
    one_stops i n xs at (bad.NoMemory cause) before low stop = tt

-- ---- lists that go on

slots_more : (slot : ℕ → Slot) (n first : ℕ)
    → slots_each slot (n + 1) first ≡ slots_each slot n first ++ slot (first + n) ∷ []
slots_more slot zero first = ap (λ (k : ℕ). slot k ∷ []) (omega arith)
slots_more slot (suc n) first = ap (λ (k : ℕ). slots_each slot k first) (next n)
    ∙ ap (λ (ls : List Slot). slot first ∷ ls) (slots_more slot n (first + 1))
    ∙ ap (λ (k : ℕ). slot first ∷ (slots_each slot n (first + 1) ++ slot k ∷ [])) (over first n)
  where
    next : (n : ℕ) → suc n + 1 ≡ suc (n + 1)
    next n = omega arith

    over : (first n : ℕ) → first + 1 + n ≡ first + suc n
    over first n = omega arith

slots_split : (slot : ℕ → Slot) (i n first : ℕ) → i < n → slots_each slot n first ≡ slots_each
    slot i first ++ ((slot (first + i) ∷ []) ++ slots_each slot (n - (i + 1)) (first + i + 1))
slots_split slot zero zero first low = absurd (omega (arith, low))
slots_split slot zero (suc n) first low = here (first + 0) (suc n - (0 + 1)) (omega arith) (omega arith)
  where
    here : (k m : ℕ) → first ≡ k → n ≡ m
        → slot first ∷ slots_each slot n (first + 1) ≡ slot k ∷ slots_each slot m (k + 1)
    here k m e f = ap (λ (a : ℕ). slot a ∷ slots_each slot n (a + 1)) e
        ∙ ap (λ (a : ℕ). slot k ∷ slots_each slot a (k + 1)) f
slots_split slot (suc i) zero first low = absurd (omega (arith, low))
slots_split slot (suc i) (suc n) first low = ap (λ (ls : List Slot). slot first ∷ ls) (slots_split slot
    i n (first + 1) (omega (arith, low)) ∙ there (first + suc i) (suc n - (suc i + 1)) (omega arith) (omega arith))
  where
    there : (k m : ℕ) → first + 1 + i ≡ k → n - (i + 1) ≡ m
        → slots_each slot i (first + 1) ++ ((slot (first + 1 + i) ∷ []) ++ slots_each slot (n - (i + 1))
        (first + 1 + i + 1)) ≡ slots_each slot i (first + 1) ++ ((slot k ∷ []) ++ slots_each slot m (k + 1))
    there k m e f = ap (λ (a : ℕ). slots_each slot i (first + 1) ++ ((slot a ∷ []) ++ slots_each slot (n - (i + 1))
        (a + 1))) e ∙ ap (λ (a : ℕ). slots_each slot i (first + 1) ++ ((slot k ∷ []) ++ slots_each slot a (k + 1))) f

lines_more : {X : Type 0} (lines : ℕ → X → List (List ℕ)) (first : ℕ) (xs : List X) (x : X)
    → lines_each lines first (xs ++ x ∷ []) ≡ lines_each lines first xs ++ lines (first + length xs) x
lines_more lines first [] x = append-nil (lines first x) ∙ ap (λ (k : ℕ). lines k x) (omega arith)
lines_more {X} lines first (y ∷ xs) x = ap (λ (ls : List (List ℕ)). lines first y ++ ls) (lines_more
    lines (first + 1) xs x ∙ ap (λ (k : ℕ). lines_each lines (first + 1) xs ++ lines k x) (over first (length xs)))
    ∙ sym (append_assoc (lines first y) (lines_each lines (first + 1) xs) (lines (first + suc (length xs)) x))
  where
    over : (first n : ℕ) → first + 1 + n ≡ first + suc n
    over first n = omega arith

at_more : {X : Type 0} (P : ℕ → X → Type 0) (first : ℕ) (xs : List X) (x : X) → AreAt P first xs
    → P (first + length xs) x → AreAt P first (xs ++ x ∷ [])
at_more P first [] x h p = (subst (λ (k : ℕ). P k x) (omega arith) p, tt)
at_more P first (y ∷ xs) x h p =
    (h.0, at_more P (first + 1) xs x h.1 (subst (λ (k : ℕ). P k x) (over first (length xs)) p))
  where
    over : (first n : ℕ) → first + suc n ≡ first + 1 + n
    over first n = omega arith

-- ---- one slot for each number

module _ (script : Script) (text : List ℕ) (from : Cursor) {X : Type 0} (slot : ℕ → Slot)
    (lines : ℕ → X → List (List ℕ)) (P : ℕ → X → Type 0) where
  pub none_each : IsPlaced text from → AreEachRead script text from slot lines P 0 [] from
  none_each placed = record {
    long = refl;
    each = λ k x e. absurd (cc);
    read = record { reads = reads_none script text (at_of from) []; placed = placed };
  }

  pub one_each : (i : ℕ) (xs : List X) (x : X) (at to : Cursor) → AreEachRead script text from slot lines P i xs at
      → P i x → IsRead script text at (slot i ∷ []) (lines i x) [] to
      → AreEachRead script text from slot lines P (i + 1) (xs ++ x ∷ []) to
  one_each i xs x at to before good here =
      let size = length-append xs (x ∷ []) in
      let n : ℕ = length xs in
      let is : i ≡ 0 + n = omega (arith, before.long) in
      let slots : slots_each slot (i + 1) 0 ≡ slots_each slot i 0 ++ slot i ∷ [] =
      slots_more slot i 0 ∙ ap (λ (k : ℕ). slots_each slot i 0 ++ slot k ∷ []) (omega arith) in
      let told : lines_each lines 0 (xs ++ x ∷ []) ≡ lines_each lines 0 xs ++ lines i x =
      lines_more lines 0 xs x ∙ ap (λ (k : ℕ). lines_each lines 0 xs ++ lines k x) (sym is) in
      let both = reads_both script text (at_of from) (at_of at) (at_of to) (slots_each slot i 0) (slot i ∷ [])
      (lines_each lines 0 xs) (lines i x) before.read.reads here.reads in
      record {
        long = omega (arith, before.long, size);
        each = each_at P (xs ++ x ∷ []) (at_more P 0 xs x (at_each P xs before.each)
            (subst (λ (k : ℕ). P k x) is good));
        read = record {
          reads = subst (λ (s : List Slot). Reads script text (at_of from)
              s (at_of to) (lines_each lines 0 (xs ++ x ∷ [])) []) (sym slots) (subst (λ (ls : List (List ℕ)). Reads
              script text (at_of from) (slots_each slot i 0 ++ slot i ∷ []) (at_of to) ls []) (sym told) both);
          placed = here.placed;
        };
      }

  pub each_pushed : (i : ℕ) (xs : List X) (x : X) (at to : Cursor) (ys : List X)
      → AreEachRead script text from slot lines P i xs at → P i x → IsRead script text at
      (slot i ∷ []) (lines i x) [] to → ys ≡ xs ++ x ∷ [] → AreEachRead script text from slot lines P (i + 1) ys to
  each_pushed i xs x at to ys before good here is = subst (λ (zs : List X). AreEachRead script
      text from slot lines P (i + 1) zs to) (sym is) (one_each i xs x at to before good here)

  pub each_stops : (i n : ℕ) (xs : List X) (at : Cursor) (why : TextBad) → AreEachRead script text from slot lines
      P i xs at → i < n → IsStop script text at (slot i ∷ []) why → IsStop script text from (slots_each slot n 0) why
  each_stops i n xs at (bad.Line k) before low stop =
      let i_is : i ≡ 0 + i = omega arith in
      let here : Stops script text (at_of at) (slot (0 + i) ∷ []) k =
      subst (λ (a : ℕ). Stops script text (at_of at) (slot a ∷ []) k) i_is stop in
      subst (λ (s : List Slot). Stops script text (at_of from) s k) (sym (slots_split slot i n 0 low))
      (stops_behind script text (at_of from) (at_of at) (slots_each slot i 0)
      ((slot (0 + i) ∷ []) ++ slots_each slot (n - (i + 1)) (0 + i + 1)) (lines_each lines 0 xs) k before.read.reads
      (stops_above script text (at_of at) (slot (0 + i) ∷ []) (slots_each slot (n - (i + 1)) (0 + i + 1)) k here))
  each_stops i n xs at (bad.NoMemory cause) before low stop = tt
