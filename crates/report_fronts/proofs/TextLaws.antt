-- Where a text is stuck, its first unread line stands.
use Rattle.std.proofs.Common.{◌≡◌, ℕ, suc, ◌+◌, ◌-◌, ◌≤◌, ◌==◌, Bool, true, false, not, List, [], ◌∷◌, ◌++◌, length, drop, refl, sym, ap, subst, ◌∙◌, arith, append_assoc, length-append}
use Rattle.std.proofs.lemmas.Bool.{and_parts}
use Rattle.std.proofs.lemmas.Bool.Decides.{nat_tests}
use Rattle.std.proofs.lemmas.Grind.{flat_map-append}
use Rattle.report_texts.specs.CheckModel.RunShown.PlexScript.declared.scripts.Script.{Script}
use Rattle.report_texts.specs.CheckModel.declared.printed.Printed.{Printed}
use Rattle.report_texts.specs.PlexReport.PlexSpell.Words.{line_text}
use Rattle.report_texts.specs.PlexReport.Report.{report_lines}
use Rattle.report_texts.specs.Readable.{AreReadable}
use Rattle.report_texts.specs.Texts.{report_of, IsReport, IsFront, front_of, feeds, IsFirstUnread}
use Rattle.report_fronts.specs.Cuts.{is_free, AreFree}
use Rattle.report_fronts.specs.Fronts.{Stands, IsStuck}
use Rattle.report_fronts.specs.Slots.{Slot, Takes, Leads, Opens, MayFill, report_slots}
use Rattle.report_fronts.proofs.CutLaws.{text_of, text-cons, text-behind, begins}
use Rattle.report_fronts.proofs.GrammarLaws.{goes_on, goes_apart, one_left, still_may, all_filled}
use Rattle.report_fronts.proofs.ReportLaws.{report_fills, report_told, opens_one, opens_may, may_fill, report_may}

-- ---- feeds

is_feed : ℕ → Bool
is_feed b = b == 10

-- a line that has no feed, with one behind it
pub fed_line : (line rest : List ℕ) → is_free line ≡ true → feeds (line ++ 10 ∷ rest) ≡ feeds rest + 1
fed_line [] rest free = omega arith
fed_line (b ∷ line) rest free =
    let parts = and_parts (not (b == 10)) (is_free line) free in
    let here : (b == 10) ≡ false = off (b == 10) parts.0 in
    (rw here (fed_line line rest parts.1))
  where
    off : (t : Bool) → not t ≡ true → t ≡ false
    off false h = refl
    off true h = absurd cc

pub fed_lines : (lines : List (List ℕ)) (rest : List ℕ) → AreFree lines
    → feeds (text_of lines ++ rest) ≡ length lines + feeds rest
fed_lines [] rest free = omega arith
fed_lines (line ∷ lines) rest free =
    let more = fed_lines lines rest free.1 in
    let here = fed_line line (text_of lines ++ rest) free.0 in
    ap feeds (text-behind line lines rest) ∙ omega (arith, more, here)

-- a text with a feed has a first line
pub record Cut (text : List ℕ) : Type 0 where
  pub line : List ℕ
  pub more : List ℕ
  pub free : is_free line ≡ true
  pub is : text ≡ line ++ 10 ∷ more

pub first_cut : (text : List ℕ) → 1 ≤ feeds text → Cut text
first_cut [] some = absurd (omega (arith, some))
first_cut (b ∷ text) some = go (b == 10) refl (λ few. first_cut text few)
  where
    later : (b == 10) ≡ false → Cut text → Cut (b ∷ text)
    later off cut = record {
      line = b ∷ cut.line;
      more = cut.more;
      free = rw off cut.free;
      is = ap (λ (t : List ℕ). b ∷ t) cut.is;
    }

    same : (b == 10) ≡ false → feeds (b ∷ text) ≡ feeds text
    same off = rw off refl

    go : (t : Bool) → (b == 10) ≡ t → (1 ≤ feeds text → Cut text) → Cut (b ∷ text)
    go true e rest = record {
      line = [];
      more = text;
      free = refl;
      is = ap (λ (n : ℕ). n ∷ text) (grind (arith, nat_tests));
    }
    go false e rest = later e (rest (subst (λ (n : ℕ). 1 ≤ n) (same e) some))

-- ---- fronts

front_line : (n : ℕ) (line rest : List ℕ) → is_free line ≡ true
    → front_of (suc n) (line ++ 10 ∷ rest) ≡ line ++ 10 ∷ front_of n rest
front_line n [] rest free = refl
front_line n (b ∷ line) rest free =
    let parts = and_parts (not (b == 10)) (is_free line) free in
    let here : (b == 10) ≡ false = off (b == 10) parts.0 in
    rw here (ap (λ (t : List ℕ). b ∷ t) (front_line n line rest parts.1))
  where
    off : (t : Bool) → not t ≡ true → t ≡ false
    off false h = refl
    off true h = absurd cc

pub front_lines : (lines : List (List ℕ)) (rest : List ℕ) → AreFree lines
    → front_of (length lines) (text_of lines ++ rest) ≡ text_of lines
front_lines [] rest free = refl
front_lines (line ∷ lines) rest free = ap (front_of (suc (length lines))) (text-behind line lines rest)
    ∙ (front_line (length lines) line (text_of lines ++ rest) free.0
    ∙ (ap (λ (t : List ℕ). line ++ 10 ∷ t) (front_lines lines rest free.1) ∙ sym (text-cons line lines)))

pub free_more : (lines : List (List ℕ)) (line : List ℕ) → AreFree lines → is_free line ≡ true
    → AreFree (lines ++ line ∷ [])
free_more [] line free h = (h, tt)
free_more (l ∷ lines) line free h = (free.0, free_more lines line free.1 h)

pub one_more : (lines : List (List ℕ)) (line rest : List ℕ)
    → text_of (lines ++ line ∷ []) ++ rest ≡ text_of lines ++ (line ++ 10 ∷ rest)
one_more lines line rest = grind (arith, flat_map-append, append_assoc)

-- ---- the first unread line

module _ (script : Script) (frees : (printed : Printed) → AreReadable script printed
    → AreFree (report_lines script printed.histories printed.transcripts)) where
  abbrev these : Printed → List (List ℕ)
  these printed = report_lines script printed.histories printed.transcripts

  -- what a report that begins with such lines has behind them
  record Behind (lines : List (List ℕ)) (left : List Slot) (printed : Printed) (rest : List ℕ) : Type 0 where
    behind : List (List ℕ)
    text : rest ≡ text_of behind
    free : AreFree behind
    leads : Leads script left behind []

  behind_of : (lines : List (List ℕ)) (left : List Slot) (printed : Printed) (rest : List ℕ) → AreFree lines
      → Leads script (report_slots script) lines left → AreReadable script printed
      → text_of (these printed) ≡ text_of lines ++ rest → Behind lines left printed rest
  behind_of lines left printed rest free leads readable e =
      let b = begins lines (these printed) rest free (frees printed readable) e in
      let goes : Leads script (report_slots script) (lines ++ b.behind) [] =
      subst (λ (l : List (List ℕ)). Leads script (report_slots script) l []) b.is
      (report_fills script printed readable) in
      let halves = goes_apart (Opens script) (report_slots script) [] lines b.behind goes in
      let same = one_left (Opens script) (opens_one script) (report_slots script) halves.mid left lines
      halves.first leads in
      record {
        behind = b.behind;
        text = b.text;
        free = b.free;
        leads = subst (λ (s : List Slot). Leads script s b.behind []) same halves.then;
      }

  module _ (text : List ℕ) (from count : ℕ) (lines : List (List ℕ)) (left : List Slot)
      (at : Stands script text from count lines left) (stuck : IsStuck script left (drop from text)) where
    no_end : (behind : List (List ℕ)) → drop from text ≡ text_of behind → AreFree behind
        → Leads script left behind [] → ⊥
    no_end [] e free leads = stuck.ends e leads
    no_end (line ∷ behind) e free leads =
        stuck.line line (text_of behind) leads.0 free.0 (e ∙ text-cons line behind) leads.1

    unread : (printed : Printed) → IsReport script text printed → ⊥
    unread printed h =
        let b = behind_of lines left printed (drop from text) at.free at.leads h.0 (sym h.1 ∙ at.whole) in
        no_end b.behind b.text b.free b.leads

    fed : feeds text ≡ length lines + feeds (drop from text)
    fed = ap feeds at.whole ∙ fed_lines lines (drop from text) at.free

    last : count + 1 ≤ feeds text + 1
    last = let f = fed in let n = at.many in omega (arith, f, n)

    goes_to : IsFront script (text_of lines)
    goes_to =
        let may = still_may (Opens script) (MayFill script) (may_fill script) (opens_may script)
        (report_slots script) left lines (report_may script) at.leads in
        let more = all_filled (Opens script) (MayFill script) (may_fill script) (opens_may script) left may in
        let reads = report_told script (lines ++ more.0)
        (goes_on (Opens script) (report_slots script) left [] lines more.0 at.leads more.1) in (
          reads.printed,
          reads.readable,
          (text_of more.0, ap text_of reads.is ∙ flat_map-append line_text lines more.0),
        )

    before : IsFront script (front_of (count + 1 - 1) text)
    before =
        let n : count + 1 - 1 ≡ length lines = let m = at.many in omega (arith, m) in
        let front : front_of (count + 1 - 1) text ≡ text_of lines = ap (λ (k : ℕ). front_of k text) n
        ∙ (ap (front_of (length lines)) at.whole ∙ front_lines lines (drop from text) at.free) in
        subst (IsFront script) (sym front) goes_to

    here : count + 1 ≤ feeds text → IsFront script (front_of (count + 1) text) → ⊥
    here low front =
        let f = fed in
        let m = at.many in
        let cut = first_cut (drop from text) (omega (arith, low, f, m)) in
        let more = lines ++ cut.line ∷ [] in
        let regroup : text ≡ text_of more ++ cut.more = at.whole ∙ (ap (λ (t : List ℕ). text_of lines ++ t) cut.is
        ∙ sym (one_more lines cut.line cut.more)) in
        let free = free_more lines cut.line at.free cut.free in
        let n : count + 1 ≡ length more = let l = length-append lines (cut.line ∷ []) in omega (arith, m, l) in
        let is : front_of (count + 1) text ≡ text_of more = ap (λ (k : ℕ). front_of k text) n
        ∙ (ap (front_of (length more)) regroup ∙ front_lines more cut.more free) in
        by_line cut.line cut.more cut.free cut.is front.0 front.1 front.2.0
        (front.2.1 ∙ ap (λ (t : List ℕ). t ++ front.2.0) is)
      where
        none : (x more : List ℕ) → x ++ 10 ∷ more ≡ [] → ⊥
        none [] more e = cc
        none (b ∷ x) more e = cc

        no_line : (line rest : List ℕ) → is_free line ≡ true → drop from text ≡ line ++ 10 ∷ rest → (back : List ℕ)
            → (behind : List (List ℕ)) → line ++ 10 ∷ back ≡ text_of behind → AreFree behind
            → Leads script left behind [] → ⊥
        no_line line rest free e back [] is frees' leads = none line back is
        no_line line rest free e back (l ∷ behind) is frees' leads =
            let b = begins (line ∷ []) (l ∷ behind) back (free, tt) frees'
            (sym is ∙ sym (text-behind line [] back)) in
            let same : l ≡ line = cc (b.is) in
            stuck.line line rest leads.0 free e (subst (λ (t : List ℕ). Takes script left t leads.0) same leads.1)

        by_line : (line rest : List ℕ) → is_free line ≡ true → drop from text ≡ line ++ 10 ∷ rest
            → (printed : Printed) → AreReadable script printed → (back : List ℕ)
            → report_of script printed ≡ text_of (lines ++ line ∷ []) ++ back → ⊥
        by_line line rest free e printed readable back is =
            let b = behind_of lines left printed (line ++ 10 ∷ back) at.free at.leads readable
            (is ∙ one_more lines line back) in
            no_line line rest free e back b.behind b.text b.free b.leads

    pub first_unread : IsFirstUnread script text (count + 1)
    first_unread = record { unread = unread; some = omega arith; last = last; before = before; here = here }
