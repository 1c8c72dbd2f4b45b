-- What is known of passes that go from desks to homes, and of the homes when structures end.
use Rattle.plex_board.proofs.Imports.{◌≡◌, suc, ◌<◌, All, All-nil, All-cons, All-head, All-tail, map, List, [], ◌∷◌, ◌++◌, length, get_or, set, refl, ap, arith, PassShown, each_with, HomeShown, Fits}

pub each-of-map : {A B : Type 0} (P : B → Type 0) (f : A → B) (xs : List A) → All P (map f xs) → All (λ x. P (f x)) xs
each-of-map P f [] all = All-nil (λ x. P (f x))
each-of-map P f (x ∷ xs) all =
    grind (arith, All-cons, All-head, All-tail, each-of-map P f xs (All-tail P (f x) (map f xs) all))

-- ---- the last partner first

pub each_with-last : {A B : Type 0} (f : A → B → B) (xs : List A) (a : A) (ys : List B) (d : B) → length xs < length
    ys → each_with f (xs ++ a ∷ []) ys ≡ each_with f xs (set ys (length xs) (f a (get_or ys (length xs) d)))
each_with-last f [] a [] d below = absurd (omega (arith, below))
each_with-last f [] a (b ∷ ys) d below = refl
each_with-last f (x ∷ xs) a [] d below = absurd (omega (arith, below))
each_with-last f (x ∷ xs) a (b ∷ ys) d below =
    let lower : length xs < length ys = omega (arith, below) in
    ap (λ rest. f x b ∷ rest) (each_with-last f xs a ys d lower)

pub each_with-length : {A B : Type 0} (f : A → B → B) (xs : List A) (ys : List B) → length xs ≡ length ys
    → length (each_with f xs ys) ≡ length ys
each_with-length f [] ys same = refl
each_with-length f (a ∷ xs) [] same = refl
each_with-length f (a ∷ xs) (b ∷ ys) same = ap (λ n. suc n) (each_with-length f xs ys (omega (arith, same)))

-- what may be done with the last of the passes
pub record FitsLast (passes : List PassShown) (pass : PassShown) (homes : List HomeShown) (d : HomeShown) : Type 0
  where
    pub there : length passes < length homes
    pub type_is : pass.str_type ≡ (get_or homes (length passes) d).str_type
    pub room : length (get_or homes (length passes) d).passes < (get_or homes (length passes) d).room
    pub rest : (v : HomeShown) → Fits passes (set homes (length passes) v)

pub fits-last : (passes : List PassShown) (pass : PassShown) (homes : List HomeShown) (d : HomeShown)
    → Fits (passes ++ pass ∷ []) homes → FitsLast passes pass homes d
fits-last [] pass [] d fits = absurd fits
fits-last [] pass (home ∷ homes) d fits =
    record { there = omega arith; type_is = fits.0; room = fits.1; rest = λ v. tt }
fits-last (x ∷ passes) pass [] d fits = absurd fits
fits-last (x ∷ passes) pass (home ∷ homes) d fits = grind (arith, fits-last passes pass homes d fits.2)
