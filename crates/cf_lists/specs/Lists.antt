-- For each header, from 0, the list of its records, of whatever type; a record has an id.
use Rattle.std.specs.Prelude.{◌≡◌, ℕ, suc, ◌-◌, ◌<◌, Bool, IsTrue, not, ◌==◌, if◌then◌else◌, List, [], filter, find, map, length, take, drop, Option, Some, None, option_map, unwrap_or, position, slice_get, slice_set}
use Rattle.std.specs.List.{list_any, insert, remove, flat_map}
use Rattle.cf_lists.specs.Pairwise.{pairwise}

module _ {X : Type 0} where
  -- the records of a header; none where there is no such header
  abbrev pub records_of : List (List X) → ℕ → List X
  records_of lists header = unwrap_or (slice_get lists header) []

  -- a header has these records in place of its own
  abbrev pub with_records : List (List X) → ℕ → List X → List (List X)
  with_records lists header recs = slice_set lists header recs

  -- all records, by header and place
  abbrev pub all_records : List (List X) → List X
  all_records lists = flat_map (λ recs. recs) lists

  -- one record more, at a place of a header
  abbrev pub lists_with : ℕ → ℕ → X → List (List X) → List (List X)
  lists_with header place rec lists = with_records lists header (insert (records_of lists header) place rec)

  -- without the record at a place of a header, and without the last one of a header
  abbrev pub lists_less : ℕ → ℕ → List (List X) → List (List X)
  lists_less header place lists = with_records lists header (remove (records_of lists header) place)

  abbrev pub lists_popped : ℕ → List (List X) → List (List X)
  lists_popped header lists =
      let recs = records_of lists header in with_records lists header (take (length recs - 1) recs)

  -- how many records there are
  abbrev pub count_of : List (List X) → ℕ
  count_of lists = length (all_records lists)

  -- the last header that has records
  pub record IsLastFull (header : ℕ) (lists : List (List X)) : Type 0 where
    pub within : header < length lists
    pub full : 0 < length (records_of lists header)
    pub last : all_records (drop (suc header) lists) ≡ []

module _ {X : Type 0} (id_of : X → ℕ) where
  abbrev pub is_id : ℕ → X → Bool
  is_id id rec = id_of rec == id

  abbrev pub has_id : ℕ → List X → Bool
  has_id id recs = list_any (is_id id) recs

  -- the record with an id, in whichever header
  abbrev pub record_of : ℕ → List (List X) → Option X
  record_of id lists = find (is_id id) (all_records lists)

  -- where it is: in the first header that has it, at its place there
  abbrev pub place_in : ℕ → ℕ → List X → Option (ℕ × ℕ)
  place_in id header recs = option_map (λ place. (header, place)) (position (is_id id) recs)

  abbrev pub spot_in : ℕ → List (List X) → Option ℕ → Option (ℕ × ℕ)
  spot_in id lists None = None
  spot_in id lists (Some header) = place_in id header (records_of lists header)

  abbrev pub spot_of : ℕ → List (List X) → Option (ℕ × ℕ)
  spot_of id lists = spot_in id lists (position (has_id id) lists)

  -- without the record with an id
  abbrev pub records_without : ℕ → List X → List X
  records_without id recs = filter (λ rec. not (is_id id rec)) recs

  abbrev pub lists_without : ℕ → List (List X) → List (List X)
  lists_without id lists = map (records_without id) lists

  -- a record stands where the one with its id stood
  abbrev pub replaced_by : X → X → X
  replaced_by rec other = if is_id (id_of rec) other then rec else other

  abbrev pub lists_replaced : X → List (List X) → List (List X)
  lists_replaced rec lists = map (map (replaced_by rec)) lists

  -- no two records have one id
  abbrev pub ids_apart : X → X → Bool
  ids_apart rec other = not (id_of other == id_of rec)

  abbrev pub AreApart : List (List X) → Type 0
  AreApart lists = IsTrue (pairwise ids_apart (all_records lists))
