-- Entries fit one behind another where the machine's steps say so.
use Rattle.engine_api.proofs.Imports.{◌≡◌, ℕ, ◌+◌, List, [], ◌∷◌, ◌++◌, length, refl, sym, ap, subst, ◌∙◌, arith, append_assoc, append-nil, length-append, fold, fold_push, fold-append, opening, read_entry, CfId, StrForm, Meaning, Machine, IsLegal, replay, loss_step, Reading, read_all, begun, links_asked, AreMarksOf, calls}
use Rattle.engine_api.specs.declared.{asks.Ask.Ask, asks.What.What, histories.Entry.Entry}
use Rattle.std.proofs.Common.{◌↔◌}
use Rattle.engine_api.proofs.HistoryLaws.{replay-push}
use Rattle.engine_api.proofs.AnswerLaws.{legal_group}
use Rattle.block_laws.specs.Blocks.{AreFit}
use Rattle.block_laws.proofs.Fits.{block_legal, block_fits}
use Rattle.block_laws.specs.Steps.{AreMarksAt, StepsFit, BlockFits, AreNext}

-- entries without a call among them are marks
record AreMarks {C R : Type 0} (marks : List (Entry C R)) : Type 0 where
  cfs : List CfId
  lost : AreMarksAt marks cfs

are_marks : {C R : Type 0} (marks : List (Entry C R)) → calls marks ≡ [] → AreMarks marks
are_marks [] none = record { cfs = []; lost = tt }
are_marks (mark ∷ marks) none = by_what mark.what refl (are_marks marks)
  where
    by_what : (told : What _) → mark.what ≡ told → (calls marks ≡ [] → AreMarks marks) → AreMarks (mark ∷ marks)
    by_what (What.Call ask) is rest = let some = rw is at none in absurd cc
    by_what (What.Lost cf) is rest =
        let all = rest (rw is at none) in record { cfs = cf ∷ all.cfs; lost = (is, all.lost) }

module _ {C R I S : Type 0} (meaning : Meaning C R I S) (form : StrForm) (entry : Entry C R) (ask : Ask C)
    (is : entry.what ≡ What.Call ask) where
  abbrev at : Machine S → List CfId → Machine S → Reading (Machine S)
  at began marks now = record { began = began; marks = marks; now = now }

  -- a mark more, where the group began so
  mark_read : (before : List (Entry C R)) (mark : Entry C R) (cf : CfId) (began : Machine S) (marks : List CfId)
      → read_all meaning form before ≡ at began marks (replay meaning form before) → mark.what ≡ What.Lost cf
      → (read_all meaning form (before ++ mark ∷ [])
      ≡ at began (marks ++ cf ∷ []) (replay meaning form (before ++ mark ∷ [])))
      × (replay meaning form (before ++ mark ∷ []) ≡ (loss_step meaning form (replay meaning form before) cf).machine)
  mark_read before mark cf began marks e lost = (grind (arith, fold_push, replay-push), grind (arith, replay-push))

  steps_fit : (before marks : List (Entry C R)) (cfs some : List CfId) (began : Machine S)
      → read_all meaning form before ≡ at began some (replay meaning form before) → AreMarksAt marks cfs → AreMarksOf
      (links_asked meaning form began entry.by ask) (some ++ cfs) → StepsFit meaning form (replay meaning form before)
      (length before) marks cfs entry ask → AreFit meaning form before (marks ++ entry ∷ [])
  steps_fit before [] [] some began e lost marked fits =
      let all : AreMarksOf (links_asked meaning form began entry.by ask) some =
      subst (AreMarksOf (links_asked meaning form began entry.by ask)) (append-nil some) marked in
      (record { number = fits.number; replied = rw is fits.replied; ends = rw (is, e) all }, tt)
  steps_fit before [] (cf ∷ cfs) some began e lost marked fits = absurd lost
  steps_fit before (mark ∷ marks) [] some began e lost marked fits = absurd lost
  steps_fit before (mark ∷ marks) (cf ∷ cfs) some began e lost marked fits =
      let next = mark_read before mark cf began some e lost.0 in
      let long : length (before ++ mark ∷ []) ≡ length before + 1 = length-append before (mark ∷ []) in
      let all = subst (AreMarksOf (links_asked meaning form began entry.by ask))
      (sym (append_assoc some (cf ∷ []) cfs)) marked in
      let more = subst (λ (n : ℕ). StepsFit meaning form (replay meaning form (before ++ mark ∷ [])) n marks cfs entry
      ask) (sym long) (subst (λ (m : Machine S). StepsFit meaning form m (length before + 1) marks cfs entry ask)
      (sym next.1) fits.1) in (
        record { number = fits.0.number; replied = rw lost.0 (fits.0.by, fits.0.replied); ends = rw lost.0 tt },
        steps_fit (before ++ mark ∷ []) marks cfs (some ++ cf ∷ []) began next.0 lost.1 all more,
      )

  fit_steps : (before marks : List (Entry C R)) (cfs some : List CfId) (began : Machine S)
      → read_all meaning form before ≡ at began some (replay meaning form before) → AreMarksAt marks cfs
      → AreFit meaning form before (marks ++ entry ∷ []) → AreMarksOf (links_asked meaning form began entry.by ask)
      (some ++ cfs) × StepsFit meaning form (replay meaning form before) (length before) marks cfs entry ask
  fit_steps before [] [] some began e lost fits =
      let fit = fits.0 in
      let all : AreMarksOf (links_asked meaning form began entry.by ask) some = rw (is, e) at fit.ends in (
        subst (AreMarksOf (links_asked meaning form began entry.by ask)) (sym (append-nil some)) all,
        record { number = fit.number; replied = rw is at fit.replied },
      )
  fit_steps before [] (cf ∷ cfs) some began e lost fits = absurd lost
  fit_steps before (mark ∷ marks) [] some began e lost fits = absurd lost
  fit_steps before (mark ∷ marks) (cf ∷ cfs) some began e lost fits =
      let next = mark_read before mark cf began some e lost.0 in
      let long : length (before ++ mark ∷ []) ≡ length before + 1 = length-append before (mark ∷ []) in
      let rest = fit_steps (before ++ mark ∷ []) marks cfs (some ++ cf ∷ []) began next.0 lost.1 fits.1 in
      let fit = fits.0 in
      let both = rw lost.0 at fit.replied in (
        subst (AreMarksOf (links_asked meaning form began entry.by ask)) (append_assoc some (cf ∷ []) cfs) rest.0,
        (
          record { number = fit.number; by = both.0; replied = both.1 },
          subst (λ (m : Machine S). StepsFit meaning form m (length before + 1) marks cfs entry ask)
              next.1 (subst (λ (n : ℕ). StepsFit meaning form
              (replay meaning form (before ++ mark ∷ [])) n marks cfs entry ask) long rest.1),
        ),
      )

  closed : (before marks : List (Entry C R))
      → (let end = read_all meaning form (before ++ (marks ++ entry ∷ [])) in end.marks ≡ [])
  closed before marks =
      let same : before ++ (marks ++ entry ∷ []) ≡ (before ++ marks) ++ entry ∷ [] =
      sym (append_assoc before marks (entry ∷ [])) in
      rw same (rw (fold_push _ _ (before ++ marks) entry, is) refl)

  pub block_judged : (before marks : List (Entry C R)) (cfs : List CfId) → IsLegal meaning form before
      → AreMarksAt marks cfs → IsLegal meaning form (before ++ (marks ++ entry ∷ []))
      ↔ BlockFits meaning form before marks cfs entry ask
  block_judged before marks cfs legal lost =
      let group = legal_group meaning form before legal in (
        λ whole. (let fits = block_fits meaning form before (marks ++ entry ∷ []) whole in
            let both = fit_steps before marks cfs [] (replay meaning form before) group lost fits.0 in
            record { marked = both.0; steps = both.1 }),
        λ fits. block_legal meaning form before (marks ++ entry ∷ []) legal (steps_fit before
            marks cfs [] (replay meaning form before) group lost fits.marked fits.steps) (closed before marks),
      )

  pub block_next : (before marks : List (Entry C R)) → IsLegal meaning form before → calls marks ≡ []
      → IsLegal meaning form (before ++ (marks ++ entry ∷ []))
      ↔ AreNext meaning form (replay meaning form before) (length before) marks entry ask
  block_next before marks legal none = (
    λ whole. (let all = are_marks marks none in
        let fits = (block_judged before marks all.cfs legal all.lost).0 whole in
        record { cfs = all.cfs; lost = all.lost; marked = fits.marked; steps = fits.steps }),
    λ next. (block_judged before marks next.cfs legal next.lost).1
        (record { marked = next.marked; steps = next.steps }),
  )

-- ---- marks at the end

module _ {C R I S : Type 0} (meaning : Meaning C R I S) (form : StrForm) where
  marks_read : (marks : List (Entry C R)) (cfs : List CfId) (reading : Reading (Machine S)) → AreMarksAt marks cfs
      → (let end = fold (read_entry meaning form) reading marks in end.marks ≡ reading.marks ++ cfs)
  marks_read [] [] reading lost = sym (append-nil reading.marks)
  marks_read [] (cf ∷ cfs) reading lost = absurd lost
  marks_read (mark ∷ marks) [] reading lost = absurd lost
  marks_read (mark ∷ marks) (cf ∷ cfs) reading lost =
      let rest = marks_read marks cfs (read_entry meaning form reading mark) lost.1 in
      let first : (let next = read_entry meaning form reading mark in next.marks ≡ reading.marks ++ cf ∷ []) =
      rw lost.0 refl in
      rest ∙ ap (λ (some : List CfId). some ++ cfs) first ∙ append_assoc reading.marks (cf ∷ []) cfs

  none_lost : (marks : List (Entry C R)) (cfs : List CfId) → AreMarksAt marks cfs → cfs ≡ [] → marks ≡ []
  none_lost [] cfs lost none = refl
  none_lost (mark ∷ marks) [] lost none = absurd lost
  none_lost (mark ∷ marks) (cf ∷ cfs) lost none = absurd cc

  -- marks alone make no legal history longer
  pub marks_open : (before marks : List (Entry C R)) → IsLegal meaning form before → calls marks ≡ []
      → IsLegal meaning form (before ++ marks) → marks ≡ []
  marks_open before marks legal none whole =
      let all = are_marks marks none in
      let reading : Reading (Machine S) = read_all meaning form before in
      let group = legal_group meaning form before legal in
      let ended : (let end = read_all meaning form (before ++ marks) in end.marks ≡ []) =
      (block_fits meaning form before marks whole).1 in
      let cut : read_all meaning form (before ++ marks) ≡ fold (read_entry meaning form) reading marks =
      fold-append (read_entry meaning form) (begun (opening meaning form)) before marks in
      let told = marks_read marks all.cfs reading all.lost in
      let began : reading.marks ≡ [] = rw group refl in
      none_lost marks all.cfs all.lost (sym (told ∙ ap (λ (some : List CfId). some ++ all.cfs) began)
      ∙ sym (ap (λ (r : Reading (Machine S)). r.marks) cut) ∙ ended)
