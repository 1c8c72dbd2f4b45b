-- What is known as stations end one after the other.
use Rattle.plex_board.proofs.Imports.{◌≡◌, ℕ, ◌+◌, ◌≤◌, List, [], ◌∷◌, ◌++◌, length, refl, ap, arith, append_assoc, All, Option, Some, option_to_list, append-nil, Links, AnyHistory, any_calls, any_length, own_calls, AnyPasses, PassShown, passes_shown, CellShown, IsAnyTold, own_replies, AreAsked, IsAnyPoint, any_answers, IsClosed, IsAccount, AreEachAsked, four_of, HomeShown, homes_shown, AreHomes, AreEnded}

-- what was taken out stood first
pub taken-first : {X : Type 0} {all rest : List X} {taken : Option X} {x : X} → all ≡ option_to_list taken ++ rest
    → taken ≡ Some x → all ≡ x ∷ rest
taken-first are is = rw is at are

pub none-left : {X : Type 0} (xs : List X) → length xs ≡ 0 → xs ≡ []
none-left [] none = refl
none-left (x ∷ xs) none = absurd (omega (arith, none))

module _ {L : Type 0} where
  -- what a history says of all passes
  pub all-accounts : (cell : CellShown L) (entries : AnyHistory) (passes : List PassShown)
      → All (λ (pass : PassShown). pass.calls ≡ own_calls (any_calls entries) pass.owner) passes → All
      (λ (pass : PassShown). pass.replies ≡ own_replies entries pass.owner) passes → All (λ (pass : PassShown). All
      (IsAnyTold cell.form entries pass.owner) pass.tests) passes → All (λ (pass : PassShown). IsAnyPoint entries
      pass.known × (pass.known ≤ any_length entries)) passes → All (IsAccount cell entries) passes
  all-accounts cell entries passes mine replies tests known k d below = grind arith

  module _ {left rest : List (CellShown L)} {station : CellShown L} {at later : List AnyPasses} {home : AnyPasses}
      (left_is : left ≡ station ∷ rest) (at_is : at ≡ home ∷ later) where
    pub end-homes : AreHomes 0 left (homes_shown at) → AreHomes 0 rest (homes_shown later)
    end-homes are = (rw (left_is, at_is) at are).1

    pub end-ended : (cells : List (CellShown L)) (homes : List HomeShown) (histories after : List AnyHistory)
        (entries : AnyHistory) → after ≡ histories ++ entries ∷ []
        → ((r : List AnyHistory) → AreEnded left (homes_shown at) r → AreEnded cells homes (histories ++ r))
        → IsClosed station entries → All (IsAccount station entries) (passes_shown home)
        → (r : List AnyHistory) → AreEnded rest (homes_shown later) r → AreEnded cells homes (after ++ r)
    end-ended cells homes histories after entries after_is so closed account r are =
        rw (after_is, append_assoc) (so (entries ∷ r) (rw (left_is, at_is) (closed, account, are)))

    -- its links come behind those of the stations before it
    pub end-asked : {asks : L → Option ℕ} {downs : L → Option (List ℕ)} {faults : L → ℕ} (cells : List (CellShown L))
        (histories after : List AnyHistory) (entries : AnyHistory) (links more spare : List L) (four : Links L)
        → after ≡ histories ++ entries ∷ [] → more ≡ links ++ four_of four → AreAsked asks downs faults (any_answers
        station.form entries) station.links four → ((r : List AnyHistory) (others : List L) → AreEachAsked asks downs
        faults left r spare others → AreEachAsked asks downs faults cells (histories ++ r) spare (links ++ others))
        → (r : List AnyHistory) (others : List L) → AreEachAsked asks downs faults rest r spare others
        → AreEachAsked asks downs faults cells (after ++ r) spare (more ++ others)
    end-asked cells histories after entries links more spare four after_is more_is asked so r others are =
        rw (after_is, more_is, append_assoc histories, append_assoc links)
        (so (entries ∷ r) (four_of four ++ others) (rw left_is (four, others, refl, asked, are)))

    pub end-count : length left ≡ length rest + 1
    end-count = let e : length left ≡ length (station ∷ rest) = ap length left_is in omega (arith, e)

  -- once no station is left, all have ended
  pub end-done : (cells left : List (CellShown L)) (homes : List HomeShown) (at : List AnyPasses)
      (histories : List AnyHistory) → left ≡ [] → AreHomes 0 left (homes_shown at) → ((r : List AnyHistory)
      → AreEnded left (homes_shown at) r → AreEnded cells homes (histories ++ r)) → AreEnded cells homes histories
  end-done cells left homes at histories none are so =
      rw append-nil at (so [] (rw none (no-home (homes_shown at) (rw none at are))))
    where
      no-home : (hs : List HomeShown) → AreHomes {L = L} 0 [] hs → AreEnded {L = L} [] hs []
      no-home [] is = tt
      no-home (h ∷ hs) is = absurd is

  -- and all links too, the spare ones last
  pub asked-done : (asks : L → Option ℕ) (downs : L → Option (List ℕ)) (faults : L → ℕ)
      (cells left : List (CellShown L)) (histories : List AnyHistory) (links spare after : List L) → left ≡ []
      → ((r : List AnyHistory) (others : List L) → AreEachAsked asks downs faults left r spare others
      → AreEachAsked asks downs faults cells (histories ++ r) spare (links ++ others))
      → after ≡ links ++ spare → AreEachAsked asks downs faults cells histories spare after
  asked-done asks downs faults cells left histories links spare after none so after_is =
      rw after_is (rw append-nil at (so [] spare (rw none refl)))
