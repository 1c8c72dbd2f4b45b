-- The desks of the members: as the board begins, and as it ends.
use Rattle.std.proofs.Common.{◌≡◌, ℕ, ◌+◌, ◌≤◌, ◌++◌, List, [], ◌∷◌, length, map, get_or, sym, ap, subst, ◌∙◌, arith}
use Rattle.std.specs.Prelude.{All}
use Rattle.std.specs.List.{range_with_len}
use Rattle.std.proofs.lemmas.List.{length-append}
use Rattle.std.proofs.lemmas.List.FromFn.{length-map-range_with_len}
use Rattle.std.proofs.lemmas.List.Elements.{All-nil, All-cons, All-same}
use Rattle.plex_board.specs.CfTypes.declared.limits.TheConstants.{CONNECTORS}
use Rattle.plex_board.specs.PlexScript.declared.scripts.Script.{Script}
use Rattle.plex_board.specs.Boards.{BoardShown, IsPolicy, IsDeskOf, new_desk}
use Rattle.plex_board.proofs.{PlexScript.FormedLines.script-formed, DeskLaws.new_desk-of_board}
use Rattle.plex_board.specs.{PlexScript.Scripts.IsScript, Desks.DeskShown}
use Rattle.two_members.specs.Members.{HasPool, IsMember, Stays}

-- what a text says states a policy
pub policy_of : (text : List ℕ) (script : Script) → IsScript text script → IsPolicy script
policy_of text script says =
    let formed = script-formed text script says in
    record { structures = formed.structures; connectors = formed.connectors; forms = formed.forms }

-- three are these, where the last two stand behind others
three_are : {A : Type 0} (front : List A) (a b x y z : A)
    → (front ++ a ∷ []) ++ b ∷ [] ≡ x ∷ y ∷ z ∷ [] → (front ≡ x ∷ []) × (a ≡ y) × (b ≡ z)
three_are [] a b x y z are = absurd (omega (arith, ap length are))
three_are (f ∷ []) a b x y z are =
    (ap (λ l. get_or l 0 x ∷ []) are, ap (λ l. get_or l 1 x) are, ap (λ l. get_or l 2 x) are)
three_are (f ∷ g ∷ front) a b x y z are =
    absurd (omega (arith, ap length are, length-append (front ++ a ∷ []) (b ∷ []), length-append front (a ∷ [])))

abbrev owner_of : DeskShown → ℕ
owner_of desk = desk.owner.0

module _ {L : Type 0} (board : BoardShown L) where
  -- the desks of the operator and of two connectors, none of which has seen anything
  pub record AreSeats (front : List DeskShown) (a b : DeskShown) : Type 0 where
    pub callers : board.callers ≡ 2
    pub operator : front ≡ new_desk board 0 ∷ []
    pub first : a ≡ new_desk board 1
    pub second : b ≡ new_desk board 2

  -- three desks of a board that begins are these
  pub seats : (desks front more : List DeskShown) (a b : DeskShown) (callers : ℕ) → board.callers ≡ callers
      → desks ≡ map (new_desk board) (range_with_len 0 (callers + 1)) → length desks ≡ 3
      → desks ≡ more ++ b ∷ [] → more ≡ front ++ a ∷ [] → AreSeats front a b
  seats desks front more a b callers counted new three last before =
      let two : callers ≡ 2 =
      omega (arith, three, ap length new, length-map-range_with_len (new_desk board) 0 (callers + 1)) in
      let are : (front ++ a ∷ []) ++ b ∷ [] ≡ new_desk board 0 ∷ new_desk board 1 ∷ new_desk board 2 ∷ [] = ap (λ l. l
      ++ b ∷ []) (sym before) ∙ sym last ∙ new ∙ ap (λ n. map (new_desk board) (range_with_len 0 (n + 1))) two in
      let it = three_are front a b (new_desk board 0) (new_desk board 1) (new_desk board 2) are in
      record { callers = counted ∙ two; operator = it.0; first = it.1; second = it.2 }

  pub member : (desk : DeskShown) (owner : ℕ) → HasPool board → desk ≡ new_desk board owner → 1 ≤ owner
      → owner ≤ CONNECTORS → IsMember board desk
  member desk owner pool new some few = subst (IsMember board)
      (sym new) (record { pool = pool; of_board = new_desk-of_board board owner; connector = (some, few) })

  -- the desks as they come back
  module _ (front left all : List DeskShown) (a b a' b' : DeskShown) (seated : AreSeats front a b)
      (a_stays : Stays board a a') (b_stays : Stays board b b') (one : left ≡ front ++ a' ∷ [])
      (both : all ≡ left ++ b' ∷ []) where
    all_are : all ≡ new_desk board 0 ∷ a' ∷ b' ∷ []
    all_are = both ∙ ap (λ l. l ++ b' ∷ []) (one ∙ ap (λ l. l ++ a' ∷ []) seated.operator)

    pub all-of_board : All (IsDeskOf board) all
    all-of_board = All-same (IsDeskOf board) all (new_desk board 0 ∷ a' ∷ b' ∷ []) all_are (All-cons
        (IsDeskOf board) (new_desk board 0) (a' ∷ b' ∷ []) (new_desk-of_board board 0) (All-cons (IsDeskOf board)
        a' (b' ∷ []) a_stays.of_board (All-cons (IsDeskOf board) b' [] b_stays.of_board (All-nil (IsDeskOf board)))))

    pub all-owners : map owner_of all ≡ range_with_len 0 (board.callers + 1)
    all-owners =
        let first : a'.owner.0 ≡ 1 = ap (λ o. o.0) (a_stays.owner ∙ ap (λ (d : DeskShown). d.owner) seated.first) in
        let second : b'.owner.0 ≡ 2 = ap (λ o. o.0) (b_stays.owner ∙ ap (λ (d : DeskShown). d.owner) seated.second) in
        ap (map owner_of) all_are ∙ ap (λ n. 0 ∷ n ∷ b'.owner.0 ∷ []) first
        ∙ ap (λ n. 0 ∷ 1 ∷ n ∷ []) second ∙ ap (λ n. range_with_len 0 (n + 1)) (sym seated.callers)
