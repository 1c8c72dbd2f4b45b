-- A valid bit tells a fresh copy: what a registered connector has at the index is what the name's row has.
use Rattle.cache_model.proofs.Imports.{◌≡◌, ℕ, Bool, true, false, not, ◌&&◌, ◌||◌, ◌==◌, cond, List, [], ◌∷◌, ◌++◌, Option, Some, None, option_map, filter, map, refl, sym, ap, ◌∙◌, subst, arith, option_and_then, and_parts, or_parts, not-true, false≢true, eqb-true, nat_tests, find-append, Caps, Name16, ConnId, Refusal, CacheCmd, Read, Write, CrossInval, Castout, Unlock, Delete, same_name, unless_refused, insertion, find-filter, find_none, none_filtered, find-insertion_past, find-insertion_here, Registration, is_replaced, registered_at, stands_before as before, regs_with, ends_with_name, same_name-eq, same_name-refl, same_name-sym, CacheItem, is_row_of, is_changed, row_of, has_row, rows_without, rows_replaced, row_or_new, IsDirectory, IsOrderly, Content, no_content, content_without, without_hold, is_among, rows_spared, done, after, Copy, Copies, Deed, after_deed, after_run, row_copy, copy_in, reply_copy, copies_with, copies_done, copies_unless, copies_after, copies_run, Calls, Leaves, Forgets}
use Rattle.cache_model.specs.{Rows.stands_before, Step.victims}
use Rattle.cache_model.specs.Commands.Read as read
use Rattle.cache_model.specs.Commands.Write as write
use Rattle.cache_model.specs.Commands.Castout as castout
use Rattle.cache_model.specs.Commands.Unlock as unlock
use Rattle.cache_model.specs.Commands.Delete as delete
use Rattle.cache_model.proofs.{ContentLaws.not_both, OrderLaws.orderly-deed, OrderLaws.orderly-nothing}
use Rattle.cache_model.proofs.{RowLaws.name-row_or_new, RoomLaws.request_spared, RoomLaws.row_of-spared}

-- ---- the row of a name after a row is replaced

found_with : (b : Bool) (n : Name16) (row : CacheItem) (rest : List CacheItem)
    → has_row row.name rest ≡ false → (s : Bool) → same_name row.name n ≡ s → row_of
    n (cond b (insertion (stands_before row) row rest) (rest ++ row ∷ [])) ≡ cond s (Some row) (row_of n rest)
found_with true n row rest alone true e =
    find-insertion_here (is_row_of n) (stands_before row) row rest e (grind (arith, same_name-eq row.name n e))
found_with true n row rest alone false e = find-insertion_past (is_row_of n) (stands_before row) row rest e
found_with false n row rest alone true e = grind (arith, same_name-eq row.name n e, find-append, find_none)
found_with false n row rest alone false e = grind (arith, find-append)

pub other_found : (n name : Name16) (rows : List CacheItem) → same_name name n ≡ false
    → row_of n (rows_without name rows) ≡ row_of n rows
other_found n name rows e = find-filter (is_row_of n) (λ row. not (is_row_of name row)) (λ row k. ap not (subst
    (λ (m : Name16). same_name m name ≡ false) (sym (same_name-eq row.name n k)) (same_name-sym n name ∙ e))) rows

pub row_of-replaced : (n : Name16) (row : CacheItem) (rows : List CacheItem) (s : Bool) → same_name row.name n ≡ s
    → row_of n (rows_replaced row rows) ≡ cond s (Some row) (row_of n rows)
row_of-replaced n row rows true e = found_with _ n _ _ (none_filtered (is_row_of row.name) rows) _ e
row_of-replaced n row rows false e = found_with (is_changed row) n
    row (rows_without row.name rows) (none_filtered (is_row_of row.name) rows) false e ∙ other_found n row.name rows e

-- a name's copy after its row is replaced, and that of other names
pub copy-here : (name : Name16) (row : CacheItem) (rows : List CacheItem) → row.name ≡ name
    → copy_in (rows_replaced row rows) name ≡ row_copy row
copy-here name row rows named = ap (λ o. option_and_then row_copy o) (row_of-replaced name
    row rows true (subst (λ (n : Name16). same_name row.name n ≡ true) named (same_name-refl row.name)))

pub copy-other : (n : Name16) (row : CacheItem) (rows : List CacheItem) → same_name row.name n ≡ false
    → copy_in (rows_replaced row rows) n ≡ copy_in rows n
copy-other n row rows e = ap (λ o. option_and_then row_copy o) (row_of-replaced n row rows false e)

pub copy-same : (name n : Name16) (row : CacheItem) (rows : List CacheItem) → row.name ≡ name
    → row_copy row ≡ copy_in rows name → copy_in (rows_replaced row rows) n ≡ copy_in rows n
copy-same name n row rows named is = grind (arith, same_name-eq, copy-here, copy-other)

pub copy-spared : (n : Name16) (gone : List Name16) (rows : List CacheItem) → is_among gone n ≡ false
    → copy_in (rows_spared gone rows) n ≡ copy_in rows n
copy-spared n gone rows e = ap (λ o. option_and_then row_copy o) (row_of-spared n gone rows e)

pub copy-row_or_new : (name : Name16) (stg : ℕ) (rows : List CacheItem) → row_copy (row_or_new name stg rows) ≡
    copy_in rows name
copy-row_or_new name stg rows = grind arith

reply_of_data : (row : CacheItem) (body : Option (List ℕ)) → reply_copy (read.data_reply row body) ≡ option_map
    (λ b. (b, row.adj)) body
reply_of_data row None = refl
reply_of_data row (Some body) = refl

-- ---- each registration is fresh

abbrev pub Each : (Registration → Type 0) → List Registration → Type 0
Each P [] = Unit {0}
Each P (reg ∷ regs) = P reg × Each P regs

pub each_filter : (P Q : Registration → Type 0) (q : Registration → Bool) → ((r : Registration)
    → q r ≡ true → P r → Q r) → (regs : List Registration) → Each P regs → Each Q (filter q regs)
each_filter P Q q h [] all = tt
each_filter P Q q h (reg ∷ regs) all = grind (arith, each_filter P Q q h regs all.1)

pub each_insertion : (P : Registration → Type 0) (first : Registration → Bool)
    (new : Registration) (regs : List Registration) → P new → Each P regs → Each P (insertion first new regs)
each_insertion P first new [] n all = (n, tt)
each_insertion P first new (reg ∷ regs) n all = grind (arith, each_insertion P first new regs n all.1)

pub each_weaker : (P Q : Registration → Type 0) → ((r : Registration) → P r → Q r) → (regs : List Registration)
    → Each P regs → Each Q regs
each_weaker P Q h [] all = tt
each_weaker P Q h (reg ∷ regs) all = (h reg all.0, each_weaker P Q h regs all.1)

abbrev pub Fresh : List CacheItem → Copies → Registration → Type 0
Fresh rows copies reg = copies reg.conn reg.index ≡ copy_in rows reg.name

abbrev pub AllFresh : Content → Copies → Type 0
AllFresh content copies = Each (Fresh content.rows copies) content.regs

-- a registration that isn't replaced has another place
other_place : (by : ConnId) (index : ℕ) (name : Name16) (reg : Registration) (copy : Copy) (copies : Copies)
    → not (is_replaced by index name reg) ≡ true
    → copies_with by index copy copies reg.conn reg.index ≡ copies reg.conn reg.index
other_place by index name reg copy copies h = grind (arith, or_parts, not-true, nat_tests)

own_place : (by : ConnId) (index : ℕ) (copy : Copy) (copies : Copies) → copies_with by index copy copies by index ≡
    copy
own_place by index copy copies = let here : (by.0 == by.0) && (index == index) ≡ true = grind (arith, nat_tests) in rw
    here refl

-- ---- READ

read_fresh : (gone : List Name16) (content : Content) (copies : Copies) (by : ConnId) (name : Name16) (index stg : ℕ)
    → is_among gone name ≡ false → AllFresh content copies → AllFresh (read.after gone content by name index stg)
    (copies_with by index (reply_copy (read.reply content.rows name stg)) copies)
read_fresh gone content copies by name index stg out all =
    let row = row_or_new name stg content.rows in
    let rows = rows_replaced row (rows_spared gone content.rows) in
    let told = copies_with by index (reply_copy (read.reply content.rows name stg)) copies in
    let new : Registration = record { conn = by; index = index; name = name } in
    let Q : Registration → Type 0 = λ reg. not (is_among gone reg.name) ≡ true → Fresh rows told reg in
    each_filter Q _ _ (λ reg e q. q e) _ (each_insertion Q _ _ _ (grind (
      arith,
      own_place,
      reply_of_data,
      copy-here,
      name-row_or_new,
    )) (each_filter _ Q _ (grind (arith, other_place, same, not-true)) _ all))
  where
    same : (reg : Registration) → is_among gone reg.name ≡ false → copy_in (rows_replaced
        (row_or_new name stg content.rows) (rows_spared gone content.rows)) reg.name ≡ copy_in content.rows reg.name
    same reg k = grind (arith, copy-same, name-row_or_new, copy-row_or_new, copy-spared)

-- ---- WRITE

-- what is neither replaced nor ended has another name
other_name : (c i n : Bool) → not ((c && i) || (c && n)) ≡ true → not (n && not c) ≡ true → n ≡ false
other_name true true n h k = absurd (false≢true h)
other_name true false true h k = absurd (false≢true h)
other_name true false false h k = refl
other_name false i true h k = absurd (false≢true k)
other_name false i false h k = refl

write_fresh : (gone : List Name16) (content : Content) (copies : Copies) (by : ConnId) (name : Name16) (index : ℕ)
    (body : List ℕ) (class : Option ℕ) (adj : Option (List ℕ)) (stg : ℕ) → AllFresh content copies → AllFresh
    (write.after gone content by name index body class adj stg) (copies_with by index (Some (body, adj)) copies)
write_fresh gone content copies by name index body class adj stg all =
    let row = write.row_with body class adj (row_or_new name stg content.rows) in
    let rows = rows_replaced row (rows_spared gone content.rows) in
    let told = copies_with by index (Some (body, adj)) copies in
    let new : Registration = record { conn = by; index = index; name = name } in
    let Q : Registration → Type 0 = λ reg. not (ends_with_name name (Some by) reg) ≡ true
    → not (is_among gone reg.name) ≡ true → Fresh rows told reg in
    let R : Registration → Type 0 = λ reg. not (is_among gone reg.name) ≡ true → Fresh rows told reg in
    each_filter R _ _ (λ reg e q. q e) _ (each_filter Q R (λ reg. not (ends_with_name name (Some by) reg))
    (λ reg e q. q e) (regs_with by index name content.regs) (each_insertion Q (λ other. before other new) new
    (filter (λ reg. not (is_replaced by index name reg)) content.regs) (λ f e. own_place by index (Some (body, adj))
    copies ∙ sym (copy-here name row (rows_spared gone content.rows) (name-row_or_new name stg content.rows)))
    (each_filter (Fresh content.rows copies) Q (λ reg. not (is_replaced by index name reg))
    (grind (arith, other_place, same, other_name, not-true)) content.regs all)))
  where
    same : (reg : Registration) → same_name reg.name name ≡ false → is_among gone reg.name ≡ false
        → copy_in (rows_replaced (write.row_with body class adj (row_or_new name stg content.rows))
        (rows_spared gone content.rows)) reg.name ≡ copy_in content.rows reg.name
    same reg apart k = copy-other reg.name (write.row_with body class adj (row_or_new name stg content.rows))
        (rows_spared gone content.rows) (subst (λ (n : Name16). same_name n reg.name ≡ false) (sym (name-row_or_new
        name stg content.rows)) (same_name-sym name reg.name ∙ apart)) ∙ copy-spared reg.name gone content.rows k

-- ---- the other commands, and the end of a connector

-- a row is replaced by one of the same copy
same_fresh : (content : Content) (copies : Copies) (name : Name16) (row : CacheItem) → row.name ≡ name
    → row_copy row ≡ copy_in content.rows name → AllFresh content copies
    → Each (Fresh (rows_replaced row content.rows) copies) content.regs
same_fresh content copies name row named same all =
    each_weaker _ _ (λ reg fresh. fresh ∙ sym (copy-same _ _ _ _ named same)) _ all

delete_fresh : (content : Content) (copies : Copies) (name : Name16) → AllFresh content copies
    → AllFresh (delete.after content name) copies
delete_fresh content copies name all =
    each_filter _ _ _ (λ reg e fresh. fresh ∙ sym (grind (arith, other_found, same_name-sym, not_both))) _ all

copy-released : (conn : ConnId) (name : Name16) (rows : List CacheItem) → copy_in (map (without_hold conn) rows)
    name ≡ copy_in rows name
copy-released conn name [] = refl
copy-released conn name (row ∷ rows) = grind (arith, copy-released conn name rows)

leave_fresh : (content : Content) (copies : Copies) (conn : ConnId) → AllFresh content copies
    → AllFresh (content_without conn content) copies
leave_fresh content copies conn all =
    each_filter _ _ _ (λ reg e fresh. fresh ∙ sym (copy-released conn reg.name content.rows)) _ all

-- ---- every command

after_fresh : (caps : Caps) (content : Content) (copies : Copies) (by : ConnId) (cmd : CacheCmd)
    → IsDirectory content.rows → AllFresh content copies
    → AllFresh (after (victims caps content.rows cmd) content by cmd) (copies_done content by cmd copies)
after_fresh caps content copies by (Read name index old stg) is all =
    read_fresh (victims caps content.rows (Read name index old stg)) content copies by name index stg
    (request_spared caps (read.request name stg) content.rows is) all
after_fresh caps content copies by (Write name index body class adj old stg when_reg) is all =
    write_fresh (victims caps content.rows (Write name index body class adj old stg when_reg)) content copies by name
    index body class adj stg all
after_fresh caps content copies by (CrossInval name) is all = grind (arith, each_filter)
after_fresh caps content copies by (Castout name) is all = same_fresh content copies name (castout.row_with_hold by
    (row_or_new name 1 content.rows)) (name-row_or_new name 1 content.rows) (copy-row_or_new name 1 content.rows) all
after_fresh caps content copies by (Unlock name) is all = same_fresh content copies name (unlock.row_without_hold
    (row_or_new name 1 content.rows)) (name-row_or_new name 1 content.rows) (copy-row_or_new name 1 content.rows) all
after_fresh caps content copies by (Delete name) is all = delete_fresh content copies name all
after_fresh caps content copies by _ is all = all

unless_fresh : (caps : Caps) (content : Content) (copies : Copies) (by : ConnId) (cmd : CacheCmd)
    (refusal : Option Refusal) → IsDirectory content.rows → AllFresh content copies → AllFresh
    (unless_refused refusal content (done caps content by cmd)).state (copies_unless refusal content by cmd copies)
unless_fresh caps content copies by cmd None is all = after_fresh caps content copies by cmd is all
unless_fresh caps content copies by cmd (Some refusal) is all = all

-- so it is after one more deed, at whatever capacity
pub deed-fresh : (vector : ℕ) (content : Content) (copies : Copies) (deed : Deed)
    → IsDirectory content.rows → AllFresh content copies
    → AllFresh (after_deed vector content deed) (copies_after vector content copies deed)
deed-fresh vector content copies (Calls caps by cmd) is all = unless_fresh _ _ _ _ _ _ is all
deed-fresh vector content copies (Leaves conn) is all = leave_fresh content copies conn all
deed-fresh vector content copies Forgets is all = tt

-- ---- runs

run_fresh : (vector : ℕ) (content : Content) (copies : Copies) (deeds : List Deed)
    → IsOrderly content → AllFresh content copies
    → AllFresh (after_run vector content deeds) (copies_run vector content copies deeds)
run_fresh vector content copies [] is all = all
run_fresh vector content copies (deed ∷ deeds) is all =
    run_fresh vector (after_deed vector content deed) (copies_after vector content copies deed) deeds
    (orderly-deed vector content deed is) (deed-fresh vector content copies deed is.directory all)

-- where a connector is registered for a name, it has a copy of what the name's row has
pub fresh-at : (rows : List CacheItem) (copies : Copies) (conn : ConnId) (index : ℕ) (name : Name16)
    (regs : List Registration) → Each (Fresh rows copies) regs
    → registered_at regs conn index ≡ Some name → copies conn index ≡ copy_in rows name
fresh-at rows copies conn index name [] all h = absurd (cc)
fresh-at rows copies conn index name (reg ∷ regs) all h =
    grind (arith, and_parts, eqb-true, fresh-at rows copies conn index name regs all.1)

-- A valid bit: after every run from the empty content, what a connector has a copy of at an index where it is
-- registered for a name is what the name's row has
pub fresh-copy : (vector : ℕ) (copies : Copies) (deeds : List Deed) (conn : ConnId) (index : ℕ)
    (name : Name16) → registered_at (after_run vector no_content deeds).regs conn index ≡ Some name → copies_run
    vector no_content copies deeds conn index ≡ copy_in (after_run vector no_content deeds).rows name
fresh-copy vector copies deeds conn index name h =
    fresh-at _ _ _ _ _ _ (run_fresh vector no_content copies deeds orderly-nothing tt) h
