-- What is known of a tray whose slot on a structure is read or written.
use Rattle.plex_board.proofs.Imports.{◌≡◌, ℕ, zero, suc, ◌<◌, List, [], ◌∷◌, length, get_or, set, map, refl, sym, ap, ◌∙◌, arith, ◌⊎◌, inl, inr, Some, None, Option, slice_get, IfSome, option_map, length-set, length-map, map-set, map-set_same, slice_get_read, slice_get-map, slice_get_within, StrNo, AnyNote, NoteShown, note_shown, CellShown, IsNoteOf, BoardShown, cell_on, IsTrayOf, replicate, length-replicate}

-- an element after one was written: the written one, or what was there
element-after : {X : Type 0} (xs : List X) (i x : ℕ) (v w : X) → slice_get (set xs i v) x ≡ Some w
    → ((w ≡ v) × (x ≡ i)) ⊎ (slice_get xs x ≡ Some w)
element-after [] i x v w at = inr at
element-after (y ∷ xs) zero zero v w at = inl (ap (λ o. elim o [ None ↦ v | Some z ↦ z ]) (sym at), refl)
element-after (y ∷ xs) zero (suc x) v w at = inr at
element-after (y ∷ xs) (suc i) zero v w at = inr at
element-after {X} (y ∷ xs) (suc i) (suc x) v w at =
    elim (element-after xs i x v w at) [ inl e ↦ inl (e.0, ap suc e.1) | inr e ↦ inr e ]

-- among slots without notes there is none with one
no-note : {X : Type 0} (n x : ℕ) (w : X) → slice_get (replicate n None) x ≡ Some (Some w) → ⊥
no-note zero x w at = grind arith
no-note (suc n) zero w at = grind arith
no-note (suc n) (suc x) w at = no-note n x w at

module _ {L : Type 0} (board : BoardShown L) where
  -- a tray without notes is the board's
  pub none-of_board : (n : ℕ) (tray : List (Option NoteShown)) → tray ≡ replicate n None → n ≡ length board.cells
      → IsTrayOf board tray
  none-of_board n tray are count = record {
    slots = grind (arith, length-replicate);
    notes = λ x cell note there at. absurd (no-note n x note (sym (ap (λ t. slice_get t x) are) ∙ at));
  }

  module _ (tray : List (Option NoteShown)) (on : StrNo) (cell : CellShown L) (of : IsTrayOf board tray)
      (cell_is : cell_on board on ≡ Some cell) where
    -- the tray stays the board's where a note of the cell comes in
    pub tray-set : (note : NoteShown) → IsNoteOf cell note → IsTrayOf board (set tray on.0 (Some note))
    tray-set note is = grind (arith, length-set, element-after)

    module _ (slots : List (Option AnyNote)) (tray_is : tray ≡ map (option_map note_shown) slots) where
      pub slot-there : on.0 < length slots
      slot-there = grind (arith, slice_get_within, length-map)

      -- the note in the slot is one of the cell
      pub slot-is : (j : ℕ) (slot : Option AnyNote) → j ≡ on.0 → slot ≡ get_or slots j slot
          → IfSome slot (λ note. IsNoteOf cell (note_shown note))
      slot-is j slot at is = grind (arith, slice_get_read, slot-there, slice_get-map, noted)
        where
          noted : (s : Option AnyNote) → slice_get tray on.0 ≡ Some (option_map note_shown s)
              → IfSome s (λ note. IsNoteOf cell (note_shown note))
          noted None is = tt
          noted (Some note) is = of.notes on.0 cell (note_shown note) cell_is is

-- ---- the tray whose slot was written

module _ (slots : List (Option AnyNote)) (tray : List (Option NoteShown)) (on : StrNo) (j : ℕ)
    (tray_is : tray ≡ map (option_map note_shown) slots) (at : j ≡ on.0) where
  pub tray-after : (slot : Option AnyNote) (note : NoteShown) → option_map note_shown slot ≡ Some note
      → map (option_map note_shown) (set slots j slot) ≡ set tray on.0 (Some note)
  tray-after slot note is = grind (arith, map-set)

  pub tray-same : (slot after : Option AnyNote) → slot ≡ get_or slots j slot → option_map
      note_shown after ≡ option_map note_shown slot → map (option_map note_shown) (set slots j after) ≡ tray
  tray-same slot after is same =
      map-set_same (option_map note_shown) slots j after slot (same ∙ ap (option_map note_shown) is) ∙ sym tray_is
