-- Entries that fit one behind another make legal histories, and legal histories are made of them.
use Rattle.engine_api.proofs.Imports.{◌≡◌, ℕ, zero, suc, ◌+◌, List, [], ◌∷◌, ◌++◌, length, take, slice_get, Some, refl, sym, subst, ◌∙◌, arith, take_at, take-append-le, append_assoc, append-nil, length-take, slice_get_within, le_of_lt, StrForm, Meaning, IsLegal, read_all, IsByPoints}
use Rattle.engine_api.specs.declared.histories.Entry.{Entry}
use Rattle.engine_api.proofs.Pushed.{Each, each_push}
use Rattle.engine_api.proofs.PointLaws.{points_from_legal, legal_from_points}
use Rattle.block_laws.specs.Blocks.{IsFit, AreFit}

pub get_seam : {X : Type 0} (front : List X) (x : X) (back : List X)
    → slice_get (front ++ x ∷ back) (length front) ≡ Some x
get_seam [] x back = refl
get_seam (y ∷ front) x back = get_seam front x back

get_front : {X : Type 0} (front back : List X) (i : ℕ) (x : X) → slice_get front i ≡ Some x
    → slice_get (front ++ back) i ≡ Some x
get_front [] back i x e = absurd (let none : slice_get [] i ≡ Some x = e in grind arith)
get_front (y ∷ front) back zero x e = e
get_front (y ∷ front) back (suc i) x e = get_front front back i x e

module _ {C R I S : Type 0} (meaning : Meaning C R I S) (form : StrForm) where
  long_at : (history : List (Entry C R)) (i : ℕ) (entry : Entry C R) → slice_get history i ≡ Some entry
      → length (take i history) ≡ i
  long_at history i entry e = grind (arith, slice_get_within, length-take)

  abbrev Fit : List (Entry C R) → Entry C R → Type 0
  Fit before entry = IsFit meaning form before entry

  fit_at : (history : List (Entry C R)) → IsByPoints meaning form history → Each Fit history
  fit_at history points i entry e = record {
    number = (let no : entry.no ≡ i + 1 = points.numbered i entry e in
        let long = long_at history i entry e in omega (arith, no, long));
    replied = points.replies i entry e;
    ends = points.groups i entry e;
  }

  points_of : (history : List (Entry C R)) → Each Fit history
      → (let end = read_all meaning form history in end.marks ≡ []) → IsByPoints meaning form history
  points_of history each ended = record {
    numbered = λ i entry e. (let fit = each i entry e in
        let no : entry.no ≡ length (take i history) + 1 = fit.number in
        let long = long_at history i entry e in omega (arith, no, long));
    groups = λ i entry e. (let fit = each i entry e in fit.ends);
    ended = ended;
    replies = λ i entry e. (let fit = each i entry e in fit.replied);
  }

  -- ---- from points to entries that fit, and back

  fits_from : (whole front back : List (Entry C R)) → IsByPoints meaning form whole → whole ≡ front ++ back
      → AreFit meaning form front back
  fits_from whole front [] points e = tt
  fits_from whole front (entry ∷ back) points e =
      let at : slice_get whole (length front) ≡ Some entry = rw e (get_seam front entry back) in
      let before : take (length front) whole ≡ front = rw e (take_at front (entry ∷ back) (length front) refl) in (
        subst (λ (h : List (Entry C R)). IsFit meaning form h entry)
            before (fit_at whole points (length front) entry at),
        fits_from whole (front ++ entry ∷ []) back points (e ∙ sym (append_assoc front (entry ∷ []) back)),
      )

  each_fits : (front back : List (Entry C R)) → Each Fit front → AreFit meaning form front back
      → Each Fit (front ++ back)
  each_fits front [] each fits = subst (Each Fit) (sym (append-nil front)) each
  each_fits front (entry ∷ back) each fits = subst (Each Fit) (append_assoc front (entry ∷ []) back)
      (each_fits (front ++ entry ∷ []) back (each_push Fit front entry each fits.0) fits.1)

  -- ---- blocks

  pub block_legal : (before block : List (Entry C R)) → IsLegal meaning form before → AreFit meaning form before block
      → (let end = read_all meaning form (before ++ block) in end.marks ≡ []) → IsLegal meaning form (before ++ block)
  block_legal before block legal fits ended = legal_from_points meaning form (before ++ block) (points_of
      (before ++ block) (each_fits before block (fit_at before (points_from_legal meaning form before legal)) fits)
      ended)

  pub block_fits : (before block : List (Entry C R)) → IsLegal meaning form (before ++ block)
      → AreFit meaning form before block × (let end = read_all meaning form (before ++ block) in end.marks ≡ [])
  block_fits before block legal =
      let points = points_from_legal meaning form (before ++ block) legal in
      (fits_from (before ++ block) before block points refl, points.ended)

  pub legal_front : (before more : List (Entry C R)) → (let end = read_all meaning form before in end.marks ≡ [])
      → IsLegal meaning form (before ++ more) → IsLegal meaning form before
  legal_front before more ended legal =
      let points = points_from_legal meaning form (before ++ more) legal in
      legal_from_points meaning form before (points_of before (λ i entry e.
      (let fit = fit_at (before ++ more) points i entry (get_front before more i entry e) in
      let few = slice_get_within before i entry e in
      subst (λ (h : List (Entry C R)). IsFit meaning form h entry) (take-append-le i before more (le_of_lt few)) fit))
      ended)
