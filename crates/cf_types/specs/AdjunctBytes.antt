-- How the bytes of an adjunct are kept: in an array of 64, with zeros behind them.
use Rattle.std.specs.Prelude.{◌≡◌, ℕ, ◌-◌, ◌≤◌, List, ◌++◌, length, take, drop, replicate}
use Rattle.std.proofs.Common.{arith, ap, ◌∙◌}
use Rattle.std.proofs.lemmas.List.{length-take, take-append-drop}
use Rattle.cf_types.specs.declared.limits.TheConstants.{ADJUNCT_BYTES}
use Rattle.cf_types.specs.Filled.{adjunct_block}
use Rattle.cf_types.specs.declared.adjuncts.Adjunct.TheInside.{Inside}

pub record IsFilled (a : Inside) : Type 0 where
  pub nonempty : 1 ≤ a.len
  pub short : a.len ≤ ADJUNCT_BYTES
  pub whole : length a.bytes ≡ ADJUNCT_BYTES
  pub zeros : drop a.len a.bytes ≡ replicate (ADJUNCT_BYTES - a.len) 0

-- an adjunct is its bytes
abbrev pub adjunct_inside : List ℕ → Inside
adjunct_inside text = record { bytes = adjunct_block text; len = length text }

pub adjunct_inside-take : (a : Inside) → IsFilled a → adjunct_inside (take a.len a.bytes) ≡ a
adjunct_inside-take a h =
    let len : length (take a.len a.bytes) ≡ a.len = omega (arith, length-take a.len a.bytes, h.short, h.whole) in
    let bytes : take a.len a.bytes ++ replicate (ADJUNCT_BYTES - a.len) 0 ≡ a.bytes = rw (← h.zeros)
    (take-append-drop a.len a.bytes) in
    let whole : adjunct_block (take a.len a.bytes) ≡ a.bytes = rw len bytes in
    let at : List ℕ → ℕ → Inside = λ b n. record { bytes = b; len = n } in
    ap (λ (b : List ℕ). at b (length (take a.len a.bytes))) whole ∙ ap (λ (n : ℕ). at a.bytes n) len
