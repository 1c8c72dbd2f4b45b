-- Every command, departure and end of registrations leads from content to content.
use Rattle.cache_model.proofs.Imports.{◌≡◌, ℕ, ◌+◌, ◌-◌, ◌≤◌, Bool, true, false, not, ◌&&◌, ◌||◌, cond, List, [], ◌∷◌, Option, Some, None, is_some, is_none, unwrap_or, option_map, length, filter, map, nat_lt, nat_le, ◌⊎◌, inl, inr, refl, sym, ap, ◌∙◌, subst, arith, list_all, and_parts, and_from, or_cases, or_right, not-true, false≢true, ltb-true, leb-true, length-map, any-filter_same, Caps, Name16, ConnId, IsNoMore, IsChanged, CacheCmd, Read, Write, CrossInval, Castout, Unlock, Delete, same_name, first_refusal, list_all-filter, list_all_weaker, list_all_both, list_all-filter_same, length-filter-le, sum_by-filter-le, any_is_found, none-filter, all_found, list_all-insertion, Registration, is_of, regs_with, regs_without, regs_without_name, ends_with_name, IsRegistry, same_name-eq, same_name-refl, registry-with, registry-filter, CacheItem, Holder, Request, is_row_of, elements_of, elements_in, row_of, has_row, rows_without, rows_replaced, new_row, row_or_new, is_sound, IsDirectory, Content, IsContent, IsOrderly, content_without, content_forgotten, without_hold, is_among, rows_spared, regs_spared, victims, has_place, free_elements, room_refusal, entry_refusal, held_refusal, unchanged_refusal, not_held_refusal, is_changed_row, cause, done, none_hold, unless_false}
use Rattle.cache_model.specs.Commands.Read as read
use Rattle.cache_model.specs.Commands.Write as write
use Rattle.cache_model.specs.Commands.Castout as castout
use Rattle.cache_model.specs.Commands.Unlock as unlock
use Rattle.cache_model.specs.Commands.Delete as delete
use Rattle.cache_model.proofs.RowLaws.{size, found_named, directory-filter, directory-replaced, length-replaced, elements-replaced, elements-without, length-without, without-absent, has_row_stays, has_row_here, name-row_or_new, sound-row_or_new, or_new_size, directory-without_hold, has_row-without_hold, elements-without_hold}
use Rattle.cache_model.proofs.RoomLaws.{gone, request_spared, length-spared, elements-spared, row_of-spared, has_row-spared, room_left}

-- ---- a row takes its place in the room that is made

-- the registrations of a connector that registers are for the name, or have rows
pub each_registered : (by : ConnId) (index : ℕ) (name : Name16) (rows : List CacheItem) (regs : List Registration)
    → list_all (λ reg. has_row reg.name rows) regs ≡ true
    → list_all (λ reg. same_name reg.name name || has_row reg.name rows) (regs_with by index name regs) ≡ true
each_registered by index name rows regs h =
    grind (arith, list_all-insertion, and_from, same_name-refl, list_all_weaker, or_right, list_all-filter)

-- the registrations that are spared have rows, and the name has one
each_with : (row : CacheItem) (names : List Name16) (rows : List CacheItem) (regs : List Registration)
    → list_all (λ reg. same_name reg.name row.name || has_row reg.name rows) regs ≡ true
    → list_all (λ reg. has_row reg.name (rows_replaced row (rows_spared names rows))) (regs_spared names regs) ≡ true
each_with row names rows regs h =
    let kept = list_all-filter (λ reg. same_name reg.name row.name || has_row reg.name rows)
    (λ reg. not (is_among names reg.name)) regs h in
    let spared = list_all-filter_same (λ reg. not (is_among names reg.name)) regs in
    list_all_weaker _ _ one _ (list_all_both (λ reg. same_name reg.name row.name || has_row reg.name rows)
    (λ reg. not (is_among names reg.name)) (regs_spared names regs) kept spared)
  where
    pick : (reg : Registration) → is_among names reg.name ≡ false → (same_name reg.name row.name ≡ true)
        ⊎ (has_row reg.name rows ≡ true) → has_row reg.name (rows_replaced row (rows_spared names rows)) ≡ true
    pick reg out (inl same) = subst (λ (n : Name16). has_row n (rows_replaced row (rows_spared names rows)) ≡ true)
        (sym (same_name-eq reg.name row.name same)) (has_row_here row (rows_spared names rows))
    pick reg out (inr there) = has_row_stays reg.name row (rows_spared names rows)
        (has_row-spared reg.name names rows out ∙ there)

    one : (reg : Registration) → (same_name reg.name row.name || has_row reg.name rows) &&
        not (is_among names reg.name) ≡ true → has_row reg.name (rows_replaced row (rows_spared names rows)) ≡ true
    one reg h = grind (arith, and_parts, pick, not-true, or_cases)

-- rows and registrations are in order where a row takes its place, and others go
orderly_own : (content : Content) (row : CacheItem) (names : List Name16) (regs : List Registration)
    → IsOrderly content → is_sound row ≡ true → IsRegistry regs
    → list_all (λ reg. same_name reg.name row.name || has_row reg.name content.rows) regs ≡ true → IsOrderly (record {
      rows = rows_replaced row (rows_spared names content.rows);
      regs = regs_spared names regs;
    })
orderly_own content row names regs is sound registry each = record {
  directory = directory-replaced row (rows_spared names content.rows)
      (directory-filter (λ (r : CacheItem). not (is_among names r.name)) content.rows is.directory) sound;
  registry = registry-filter (λ (reg : Registration). not (is_among names reg.name)) regs registry;
  row_each = each_with row names content.rows regs each;
}

pub orderly_used : (content : Content) (row : CacheItem) (name : Name16) (names : List Name16)
    (regs : List Registration) → row.name ≡ name → IsOrderly content → is_sound row ≡ true → IsRegistry regs
    → list_all (λ reg. same_name reg.name name || has_row reg.name content.rows) regs ≡ true → IsOrderly (record {
      rows = rows_replaced row (rows_spared names content.rows);
      regs = regs_spared names regs;
    })
orderly_used content row name names regs named is sound registry each =
    orderly_own content row names regs is sound registry (grind arith)

pub orderly-content : (caps : Caps) (content : Content) → IsContent caps content → IsOrderly content
orderly-content caps content is = record { directory = is.directory; registry = is.registry; row_each = is.row_each }

-- the data are those asked for, or no more than the name's own
abbrev pub DataFit : Request → List CacheItem → CacheItem → Type 0
DataFit request rows row = (elements_of row.body ≤ request.elements)
    ⊎ (elements_of row.body + elements_in (rows_without request.name rows) ≤ elements_in rows)

fit_bound : (s need c d w k g all old : ℕ) → (s ≤ need) ⊎ (s + w ≤ all) → need ≤ c - (w - g) → k + old + g ≡ all
    → w + old ≡ all → all ≤ d → c ≤ d → s + k ≤ d
fit_bound s need c d w k g all old (inl h) room e f le less = omega arith
fit_bound s need c d w k g all old (inr h) room e f le less = omega arith

place_bound : (named : Bool) (k all g entries : ℕ) → named ≡ false → named || nat_lt (all - g) entries ≡ true
    → k + g ≡ all → k + 1 ≤ entries
place_bound true k all g entries e h f = absurd (false≢true (sym e))
place_bound false k all g entries e h f = let lt = ltb-true (all - g) entries h in omega arith

-- how many rows and elements there are then
record Within (bound : Caps) (rows : List CacheItem) : Type 0 where
  entries : length rows ≤ bound.entries
  elements : elements_in rows ≤ bound.elements

-- a request for a row's name, and the rows that stay
abbrev pub asked : CacheItem → ℕ → ℕ → Request
asked row need stg = record { name = row.name; elements = need; stg = stg }

abbrev pub kept : Caps → CacheItem → ℕ → ℕ → List CacheItem → List CacheItem
kept caps row need stg rows = rows_spared (victims caps (asked row need stg) rows) rows

abbrev pub asked_by : Name16 → ℕ → ℕ → Request
asked_by name need stg = record { name = name; elements = need; stg = stg }

hold_test : (holder : Option Holder) (had rest : Bool) → had ≡ false → (is_none holder || had) && rest ≡ true
    → is_none (option_map write.rewrite holder) || false ≡ true
hold_test None had rest e h = refl
hold_test (Some x) had rest e h = absurd (false≢true (sym (ap (λ b. b && rest) e) ∙ h))

held_any : (holder : Option Holder) → (is_none (option_map write.rewrite holder) || true) && true ≡ true
held_any None = refl
held_any (Some x) = refl

unchanged_sound : (a : Bool) → a ≡ true → a && true ≡ true
unchanged_sound true e = refl
unchanged_sound false e = e

pub write_sound : (name : Name16) (stg : ℕ) (body : List ℕ) (class : Option ℕ) (adj : Option (List ℕ))
    (o : Option CacheItem) → is_none class && is_changed_row o ≡ false → ((row : CacheItem) → o ≡ Some row
    → is_sound row ≡ true) → is_sound (write.row_with body class adj (unwrap_or o (new_row name stg))) ≡ true
write_sound name stg body None adj None e h = refl
write_sound name stg body (Some class) adj None e h = refl
write_sound name stg body (Some class) adj (Some row) e h = held_any row.holder
write_sound name stg body None adj (Some row) e h = grind (arith, unchanged_sound, hold_test)

pub unless_true : (b : Bool) → cond b (Some IsChanged) None ≡ None → b ≡ false
unless_true true h = absurd (cc)
unless_true false h = refl

-- a bound that is no less than the capacity
module _ (caps bound : Caps) (less : IsNoMore caps bound) where
  within_old : (row old : CacheItem) (need stg : ℕ) (rows : List CacheItem) → IsDirectory rows
      → Within bound rows → room_refusal caps (asked row need stg) rows ≡ None → DataFit (asked row need stg) rows row
      → row_of row.name rows ≡ Some old → Within bound (rows_replaced row (kept caps row need stg rows))
  within_old row old need stg rows is within none fit found =
      let request = asked row need stg in
      let left = kept caps row need stg rows in
      let room = and_parts (has_place caps request rows (gone caps request rows))
      (nat_le need (free_elements caps request rows (gone caps request rows))) (room_left caps request rows none) in
      let le = leb-true need (free_elements caps request rows (gone caps request rows)) room.1 in
      let there : row_of row.name left ≡ Some old = row_of-spared row.name (victims caps request rows) rows
      (request_spared caps request rows is) ∙ found in
      let few = directory-filter (λ (r : CacheItem). not (is_among (victims caps request rows) r.name)) rows is in
      let n = length-without row.name left old few there in
      let e = elements-without row.name left old few there in
      let w = elements-without row.name rows old is found in
      let all = elements-spared caps request rows is in
      let bound = fit_bound (elements_of row.body) need caps.elements bound.elements (elements_in (rows_without row.name rows))
      (elements_in (rows_without row.name left)) (elements_in (gone caps request rows))
      (elements_in rows) (elements_of old.body) fit le (omega (arith, e, all)) w within.elements less.1 in
      record {
        entries = omega (arith, n, length-replaced row left, length-spared caps request rows is, within.entries);
        elements = omega (arith, bound, elements-replaced row left);
      }

  within_new : (row : CacheItem) (need stg : ℕ) (rows : List CacheItem) → IsDirectory rows
      → Within bound rows → room_refusal caps (asked row need stg) rows ≡ None → DataFit (asked row need stg) rows row
      → row_of row.name rows ≡ None → Within bound (rows_replaced row (kept caps row need stg rows))
  within_new row need stg rows is within none fit found =
      let request = asked row need stg in
      let left = kept caps row need stg rows in
      let room = and_parts (has_place caps request rows (gone caps request rows))
      (nat_le need (free_elements caps request rows (gone caps request rows))) (room_left caps request rows none) in
      let le = leb-true need (free_elements caps request rows (gone caps request rows)) room.1 in
      let absent = any_is_found (is_row_of row.name) rows ∙ ap (λ p. is_some p) found in
      let out = none-filter (is_row_of row.name) (λ r. not (is_among (victims caps request rows) r.name)) rows absent in
      let same = without-absent row.name left out in
      let whole = without-absent row.name rows absent in
      let w = ap (λ l. elements_in l) whole in
      let k = ap (λ l. elements_in l) same in
      let n = ap (λ l. length l) same in
      let place = place_bound (has_row row.name rows) (length left)
      (length rows) (length (gone caps request rows)) caps.entries absent room.0 (length-spared caps request rows is) in
      let all = elements-spared caps request rows is in
      let bound = fit_bound (elements_of row.body) need caps.elements bound.elements (elements_in (rows_without row.name rows))
      (elements_in (rows_without row.name left)) (elements_in (gone caps request rows))
      (elements_in rows) 0 fit le (omega (arith, k, all)) (omega (arith, w)) within.elements less.1 in
      record {
        entries = omega (arith, n, place, length-replaced row left, less.0);
        elements = omega (arith, bound, elements-replaced row left);
      }

  within_used : (row : CacheItem) (need stg : ℕ) (rows : List CacheItem) → IsDirectory rows
      → Within bound rows → room_refusal caps (asked row need stg) rows ≡ None → DataFit (asked row need stg) rows row →
      (o : Option CacheItem) → row_of row.name rows ≡ o → Within bound (rows_replaced row (kept caps row need stg rows))
  within_used row need stg rows is within none fit (Some old) found = within_old row old need stg rows is
      within none fit found
  within_used row need stg rows is within none fit None found = within_new row need stg rows is within none
      fit found

  used_own : (content : Content) (row : CacheItem) (need stg : ℕ) (regs : List Registration)
      → IsContent bound content → room_refusal caps (asked row need stg) content.rows ≡ None
      → is_sound row ≡ true → DataFit (asked row need stg) content.rows row → IsRegistry regs → list_all
      (λ reg. same_name reg.name row.name || has_row reg.name content.rows) regs ≡ true → IsContent bound (record {
        rows = rows_replaced row (kept caps row need stg content.rows);
        regs = regs_spared (victims caps (asked row need stg) content.rows) regs;
      })
  used_own content row need stg regs is none sound fit registry each =
      let names = victims caps (asked row need stg) content.rows in
      let within = within_used row need stg content.rows is.directory
      (record { entries = is.entries; elements = is.elements }) none fit (row_of row.name content.rows) refl in
      let orderly = orderly_used content row row.name names regs refl (orderly-content bound content is) sound registry each in
      record {
        directory = orderly.directory;
        entries = within.entries;
        elements = within.elements;
        registry = orderly.registry;
        row_each = orderly.row_each;
      }

  -- what READ and WRITE leave
  content_used : (content : Content) (row : CacheItem) (name : Name16) (need stg : ℕ)
      (regs : List Registration) → row.name ≡ name → IsContent bound content → room_refusal caps (asked_by name need stg)
      content.rows ≡ None → is_sound row ≡ true → DataFit (asked_by name need stg) content.rows row → IsRegistry regs →
      list_all (λ reg. same_name reg.name name || has_row reg.name content.rows) regs ≡ true → IsContent bound (record {
        rows = rows_replaced row (rows_spared (victims caps (asked_by name need stg) content.rows) content.rows);
        regs = regs_spared (victims caps (asked_by name need stg) content.rows) regs;
      })
  content_used content row name need stg regs named = subst (λ (n : Name16). IsContent bound content → room_refusal
      caps (asked_by n need stg) content.rows ≡ None → is_sound row ≡ true → DataFit (asked_by n need stg) content.rows
      row → IsRegistry regs → list_all (λ (reg : Registration). same_name reg.name n || has_row reg.name content.rows)
      regs ≡ true → IsContent bound (record {
        rows = rows_replaced row (rows_spared (victims caps (asked_by n need stg) content.rows) content.rows);
        regs = regs_spared (victims caps (asked_by n need stg) content.rows) regs;
      })) named (used_own content row need stg regs)

  content-read : (vector : ℕ) (content : Content) (by : ConnId) (name : Name16) (index : ℕ)
      (old : Option Name16) (stg : ℕ)
      → IsContent bound content → first_refusal (read.causes vector caps content by name index old stg) ≡ None
      → IsContent bound (read.after (victims caps (read.request name stg) content.rows) content by name index stg)
  content-read vector content by name index old stg is h =
      let none = none_hold (read.causes vector caps content by name index old stg) h in
      let rest = sum_by-filter-le size (λ row. not (is_row_of name row)) content.rows in
      content_used content (row_or_new name stg content.rows) name 0 stg (regs_with by index name content.regs)
      (name-row_or_new name stg content.rows) is none.1.1.0 (sound-row_or_new name stg content.rows is.directory)
      (grind (arith, or_new_size, elements-without)) (registry-with by index name content.regs is.registry)
      (each_registered by index name content.rows content.regs is.row_each)

  content-write : (vector : ℕ) (content : Content) (by : ConnId) (name : Name16) (index : ℕ)
      (body : List ℕ) (class : Option ℕ) (adj : Option (List ℕ)) (old : Option Name16) (stg : ℕ) (when_reg : Bool)
      → IsContent bound content → first_refusal
      (write.causes vector caps content by name index body class old stg when_reg) ≡ None → IsContent bound
      (write.after (victims caps (write.request name body stg) content.rows) content by name index body class adj stg)
  content-write vector content by name index body class adj old stg when_reg is h =
      let none = none_hold (write.causes vector caps content by name index body class old stg when_reg) h in
      content_used _ _ _ _ _ _ (name-row_or_new _ _ _) is none.1.1.1.1.1.0 (grind (
        arith,
        write_sound,
        unless_true,
        all_found,
      )) (inl (omega arith)) (registry-filter _ _ (registry-with _ _ _ _ is.registry)) (list_all-filter
      (λ reg. same_name reg.name name || has_row reg.name content.rows) (λ reg. not (ends_with_name name (Some by) reg))
      _ (each_registered by index name content.rows content.regs is.row_each))

-- ---- a row is replaced by one of the same data

pub content-replaced : (caps : Caps) (content : Content) (name : Name16) (old row : CacheItem) → IsContent
    caps content → row_of name content.rows ≡ Some old → row.name ≡ name → elements_of row.body ≡ elements_of old.body
    → is_sound row ≡ true → IsContent caps (record content { rows = rows_replaced row content.rows })
content-replaced caps content name old row is found named size sound =
    let there : row_of row.name content.rows ≡ Some old = grind arith in
    let n = length-without row.name content.rows old is.directory there in
    let e = elements-without row.name content.rows old is.directory there in
    record {
      directory = directory-replaced row content.rows is.directory sound;
      entries = omega (arith, n, length-replaced row content.rows, is.entries);
      elements = omega (arith, e, size, elements-replaced row content.rows, is.elements);
      registry = is.registry;
      row_each = list_all_weaker (λ reg. has_row reg.name content.rows) (λ reg. has_row reg.name (rows_replaced
          row content.rows)) (λ reg k. has_row_stays reg.name row content.rows k) content.regs is.row_each;
    }

castout_step : (caps : Caps) (content : Content) (by : ConnId) (name : Name16) (o : Option CacheItem)
    → IsContent caps content → row_of name content.rows ≡ o → first_refusal
    (entry_refusal o ∷ held_refusal o ∷ unchanged_refusal o ∷ []) ≡ None → IsContent caps (record content {
      rows = rows_replaced (castout.row_with_hold by (unwrap_or o (new_row name 1))) content.rows;
    })
castout_step caps content by name None is found h = absurd (cc)
castout_step caps content by name (Some row) is found h =
    let none = none_hold (entry_refusal (Some row) ∷ held_refusal (Some row) ∷ unchanged_refusal (Some row) ∷ []) h in
    let sound = all_found (is_row_of name) is_sound content.rows row is.directory.sound found in
    content-replaced _ _ _ _ _ is found (found_named _ _ _ found) refl (grind (arith, false≢true, unless_false))

pub content-castout : (caps : Caps) (content : Content) (by : ConnId) (name : Name16) → IsContent caps content
    → first_refusal (castout.causes content.rows name) ≡ None → IsContent caps (castout.after content by name)
content-castout caps content by name is h = castout_step caps content by name (row_of name content.rows) is refl h

unlock_step : (caps : Caps) (content : Content) (by : ConnId) (name : Name16) (o : Option CacheItem)
    → IsContent caps content → row_of name content.rows ≡ o
    → first_refusal (entry_refusal o ∷ not_held_refusal by o ∷ []) ≡ None → IsContent caps (record content {
      rows = rows_replaced (unlock.row_without_hold (unwrap_or o (new_row name 1))) content.rows;
    })
unlock_step caps content by name None is found h = absurd (cc)
unlock_step caps content by name (Some row) is found h =
    let sound = all_found (is_row_of name) is_sound content.rows row is.directory.sound found in
    content-replaced _ _ _ _ _ is found (found_named _ _ _ found) refl (grind (arith, and_parts))

pub content-unlock : (caps : Caps) (content : Content) (by : ConnId) (name : Name16) → IsContent caps content
    → first_refusal (unlock.causes content.rows by name) ≡ None → IsContent caps (unlock.after content name)
content-unlock caps content by name is h = unlock_step caps content by name (row_of name content.rows) is refl h

-- ---- a row goes

pub not_both : (b : Bool) → not (b && true) ≡ true → b ≡ false
not_both true e = absurd (false≢true e)
not_both false e = refl

gone_each : (name : Name16) (rows : List CacheItem) (reg : Registration) → has_row reg.name
    rows && not (ends_with_name name None reg) ≡ true → has_row reg.name (rows_without name rows) ≡ true
gone_each name rows reg h =
    let parts = and_parts (has_row reg.name rows) (not (ends_with_name name None reg)) h in
    any-filter_same (is_row_of reg.name) (λ row. not (is_row_of name row)) true (λ row k. ap not
    (subst (λ n. same_name n name ≡ false) (sym (same_name-eq _ _ k)) (not_both _ parts.1))) rows ∙ parts.0

pub content-delete : (caps : Caps) (content : Content) (name : Name16) → IsContent caps content
    → IsContent caps (delete.after content name)
content-delete caps content name is = record {
  directory = directory-filter (λ row. not (is_row_of name row)) content.rows is.directory;
  entries = grind (arith, length-filter-le);
  elements = grind (arith, sum_by-filter-le, size);
  registry = registry-filter (λ reg. not (ends_with_name name None reg)) content.regs is.registry;
  row_each = list_all_weaker _ _ (gone_each name content.rows) _ (list_all_both (λ reg. has_row reg.name
      content.rows) (λ reg. not (ends_with_name name None reg)) (regs_without_name name None content.regs)
      (list_all-filter (λ reg. has_row reg.name content.rows) (λ reg. not (ends_with_name name None reg))
      content.regs is.row_each) (list_all-filter_same (λ reg. not (ends_with_name name None reg)) content.regs));
}

-- ---- registrations end

pub content-fewer_regs : (caps : Caps) (content : Content) (q : Registration → Bool) → IsContent caps content
    → IsContent caps (record content { regs = filter q content.regs })
content-fewer_regs caps content q is = record {
  directory = is.directory;
  entries = is.entries;
  elements = is.elements;
  registry = registry-filter q content.regs is.registry;
  row_each = list_all-filter (λ reg. has_row reg.name content.rows) q content.regs is.row_each;
}

pub content-forgotten : (caps : Caps) (content : Content) → IsContent caps content
    → IsContent caps (content_forgotten content)
content-forgotten caps content is = grind arith

pub content-without : (caps : Caps) (content : Content) (conn : ConnId) → IsContent caps content
    → IsContent caps (content_without conn content)
content-without caps content conn is = record {
  directory = directory-without_hold conn content.rows is.directory;
  entries = rw (length-map content.rows (without_hold conn)) is.entries;
  elements = rw (elements-without_hold conn content.rows) is.elements;
  registry = registry-filter (λ reg. not (is_of conn reg)) content.regs is.registry;
  row_each = list_all_weaker (λ reg. has_row reg.name content.rows)
      (λ reg. has_row reg.name (map (without_hold conn) content.rows)) (λ reg k. has_row-without_hold conn
      reg.name content.rows ∙ k) (regs_without conn content.regs) (grind (arith, list_all-filter));
}

-- ---- every command

-- an accepted command leaves a content within each bound that it was within, where this is no less than the capacity
pub bounded-done : (caps bound : Caps) → IsNoMore caps bound → (vector : ℕ) (content : Content) (by : ConnId)
    (cmd : CacheCmd) → IsContent bound content
    → cause vector caps content by cmd ≡ None → IsContent bound (done caps content by cmd).state
bounded-done caps bound less vector content by (Read name index old stg) is h =
    content-read caps bound less vector content by name index old stg is h
bounded-done caps bound less vector content by (Write name index body class adj old stg when_reg) is h =
    content-write caps bound less vector content by name index body class adj old stg when_reg is h
bounded-done caps bound less vector content by (CrossInval name) is h = content-fewer_regs bound content
    (λ reg. not (ends_with_name name (Some by) reg)) is
bounded-done caps bound less vector content by (Castout name) is h = content-castout bound content by name is h
bounded-done caps bound less vector content by (Unlock name) is h = content-unlock bound content by name is h
bounded-done caps bound less vector content by (Delete name) is h = content-delete bound content name is
bounded-done caps bound less vector content by _ is h = is

pub content-done : (vector : ℕ) (caps : Caps) (content : Content) (by : ConnId) (cmd : CacheCmd) → IsContent
    caps content → cause vector caps content by cmd ≡ None → IsContent caps (done caps content by cmd).state
content-done vector caps content by cmd is h =
    bounded-done caps caps (omega arith, omega arith) vector content by cmd is h
