-- Lines that are read one after another.
use Rattle.plex_script.proofs.Imports.{◌≡◌, ℕ, ◌+◌, true, List, [], ◌∷◌, ◌++◌, length, map, ◌∙◌, arith, append_assoc, length-append, subst, list_all, flat_map, append-nil, clear, AreClear, clear-append, Script, line_number, Adds, AddsAll}

-- behind `count` lines, these lines have no line feeds and no returns, and lead from one script to another
pub record Leads (script : Script) (count : ℕ) (lines : List (List ℕ)) (after : Script) : Type 0 where
  pub clear_lines : AreClear lines
  pub adds : AddsAll script count lines after

pub record LeadsOne (script : Script) (count : ℕ) (line : List ℕ) (after : Script) : Type 0 where
  pub clear_line : list_all clear line ≡ true
  pub adds : Adds script (line_number (count + 1)) line after

adds-append : (xs ys : List (List ℕ)) (script mid after : Script) (count : ℕ) → AddsAll script count xs mid
    → AddsAll mid (count + length xs) ys after → AddsAll script count (xs ++ ys) after
adds-append [] ys script mid after count h k = grind arith
adds-append (x ∷ xs) ys script mid after count h k =
    let more : count + length (x ∷ xs) ≡ count + 1 + length xs = omega arith in
    (h.0, h.1, adds-append xs ys h.0 mid after (count + 1) h.2 (subst (λ (n : ℕ). AddsAll mid n ys after) more k))

pub leads-append : (xs ys : List (List ℕ)) (script mid after : Script) (count : ℕ) → Leads script count xs mid
    → Leads mid (count + length xs) ys after → Leads script count (xs ++ ys) after
leads-append xs ys script mid after count h k = grind (arith, clear-append, adds-append)

pub leads-one : (script mid after : Script) (count : ℕ) (line : List ℕ) (lines : List (List ℕ))
    → LeadsOne script count line mid → Leads mid (count + 1) lines after → Leads script count (line ∷ lines) after
leads-one script mid after count line lines h k = grind arith

regroup : {X : Type 0} (front : List X) (x : X) (back all : List X) → front ++ x ∷ back ≡ all
    → (front ++ x ∷ []) ++ back ≡ all
regroup front x back all e = append_assoc front (x ∷ []) back ∙ e

longer : {X : Type 0} (front : List X) (x : X) (count base : ℕ) → count ≡ base + length front
    → count + 1 ≡ base + length (front ++ x ∷ [])
longer front x count base e = omega (arith, e, length-append front (x ∷ []))

-- a line for each of the things, and the script behind those that came
pub leads-each : {X : Type 0} (state : List X → Script) (line_for : X → List ℕ) (all : List X) (base : ℕ)
    → ((front : List X) (x : X) (back : List X) (count : ℕ) → front ++ x ∷ back ≡ all → count ≡ base + length front
    → LeadsOne (state front) count (line_for x) (state (front ++ x ∷ []))) → (front back : List X) (count : ℕ)
    → front ++ back ≡ all → count ≡ base + length front → Leads (state front) count (map line_for back) (state all)
leads-each state line_for all base step front [] count e at = grind (arith, append-nil)
leads-each state line_for all base step front (x ∷ back) count e at = leads-one (state front)
    (state (front ++ x ∷ [])) (state all) count (line_for x) (map line_for back) (step front x back count e at) (
    grind (
      arith,
      regroup,
      longer,
      leads-each state line_for
          all base step (front ++ x ∷ []) back (count + 1) (regroup front x back all e) (longer front x count base at),
    ))

-- lines for each of the things
pub leads-blocks : {X : Type 0} (state : List X → Script) (lines_for : X → List (List ℕ)) (all : List X)
    → ((front : List X) (x : X) (back : List X) (count : ℕ) → front ++ x ∷ back ≡ all
    → Leads (state front) count (lines_for x) (state (front ++ x ∷ []))) → (front back : List X) (count : ℕ)
    → front ++ back ≡ all → Leads (state front) count (flat_map lines_for back) (state all)
leads-blocks state lines_for all step front [] count e = grind (arith, append-nil)
leads-blocks state lines_for all step front (x ∷ back) count e = leads-append (lines_for x) (flat_map lines_for back)
    (state front) (state (front ++ x ∷ [])) (state all) count (step front x back count e) (
    grind (
      arith,
      regroup,
      leads-blocks state lines_for all
          step (front ++ x ∷ []) back (count + length (lines_for x)) (regroup front x back all e),
    ))
