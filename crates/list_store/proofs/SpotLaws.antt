-- A header and a place as a spot.
use Rattle.list_store.proofs.Imports.{arith, ◌≡◌, ℕ, true, false, Option, Some, None, option_map, position, refl, sym, ◌∙◌, list_any, false≢true, position-Some, none_placed, list_of-get_or, EntryId, Spot, Lists, record_id, is_id, has_id, spot_of, spot_in, as_spot}
use Rattle.cf_lists.specs.Lists as generic
use Rattle.list_store.specs.Lists.{records_of}

at_header : (header : ℕ) (o : Option ℕ)
    → option_map {T = ℕ × ℕ} {U = Spot} as_spot (option_map {T = ℕ} {U = ℕ × ℕ} (λ (place : ℕ). (header, place)) o)
    ≡ option_map {T = ℕ} {U = Spot} (λ (place : ℕ). record { header = header; place = place }) o
at_header header None = refl
at_header header (Some place) = refl

in_header : (id : EntryId) (lists : Lists) (o : Option ℕ)
    → option_map as_spot (generic.spot_in record_id id.0 lists o) ≡ spot_in id lists o
in_header id lists None = refl
in_header id lists (Some header) = at_header header (position (is_id id) (records_of lists header))

pub spot_is : (id : EntryId) (lists : Lists)
    → option_map as_spot (generic.spot_of record_id id.0 lists) ≡ spot_of id lists
spot_is id lists = in_header id lists (position (has_id id) lists)

header_in : (o : Option (ℕ × ℕ)) → option_map {T = Spot} {U = ℕ} (λ spot. spot.header) (option_map
    {T = ℕ × ℕ} {U = Spot} as_spot o) ≡ option_map {T = ℕ × ℕ} {U = ℕ} (λ (s : ℕ × ℕ). s.0) o
header_in None = refl
header_in (Some s) = refl

pub header_is : (id : EntryId) (lists : Lists) → option_map {T = ℕ × ℕ} {U = ℕ} (λ (s : ℕ × ℕ). s.0) (generic.spot_of
    record_id id.0 lists) ≡ option_map {T = Spot} {U = ℕ} (λ spot. spot.header) (spot_of id lists)
header_is id lists = grind (arith, header_in, spot_is)

-- where no spot is found, no header has the id
pub unplaced : (id : EntryId) (lists : Lists) → option_map {T = Spot}
    {U = ℕ} (λ spot. spot.header) (spot_of id lists) ≡ None → list_any (has_id id) lists ≡ false
unplaced id lists e = go (position (has_id id) lists) refl e
  where
    inner : (k : ℕ) (o : Option ℕ) → position (has_id id) lists ≡ Some k → position (is_id id)
        (records_of lists k) ≡ o → option_map {T = Spot} {U = ℕ} (λ spot. spot.header) (option_map {T = ℕ} {U = Spot}
        (λ (place : ℕ). record { header = k; place = place }) o) ≡ None → list_any (has_id id) lists ≡ false
    inner k None f g same =
        let here : list_any (is_id id) (records_of lists k) ≡ true = grind (arith, list_of-get_or, position-Some) in
        absurd (false≢true (sym (none_placed (is_id id) (records_of lists k) g) ∙ here))
    inner k (Some q) f g same = absurd (cc)

    go : (o : Option ℕ) → position (has_id id) lists ≡ o → option_map
        {T = Spot} {U = ℕ} (λ spot. spot.header) (spot_in id lists o) ≡ None → list_any (has_id id) lists ≡ false
    go None f same = none_placed (has_id id) lists f
    go (Some k) f same = inner k (position (is_id id) (records_of lists k)) f refl same

-- where a header is found, a spot in it is
pub spot_with : (id : EntryId) (lists : Lists) (header : ℕ) → option_map {T = Spot} {U = ℕ} (λ spot. spot.header)
    (spot_of id lists) ≡ Some header → (spot : Spot) × (spot_of id lists ≡ Some spot) × (spot.header ≡ header)
spot_with id lists header e = grind arith
