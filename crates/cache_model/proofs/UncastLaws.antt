-- A row that was written as changed stays, changed and with the data that were written, until it is cast out or
-- deleted.
use Rattle.cache_model.proofs.Imports.{arith, ◌≡◌, ℕ, Bool, true, false, not, ◌&&◌, ◌||◌, cond, List, [], ◌∷◌, Option, Some, None, is_some, is_none, unwrap_or, option_map, map, refl, sym, ap, ◌∙◌, subst, list_any, list_all, and_parts, not-true, false≢true, Caps, Name16, ConnId, Refusal, CacheCmd, Read, Write, Castout, Unlock, Delete, same_name, unless_refused, first_refusal, list_any-map, same_name-eq, CacheItem, Holder, Request, is_row_of, is_changed, row_of, rows_without, rows_replaced, new_row, row_or_new, IsDirectory, IsOrderly, Content, no_content, without_hold, is_among, rows_spared, victims, entry_refusal, not_held_refusal, is_changed_row, cause, done, after, Deed, after_deed, after_run, Calls, Leaves, Forgets, Uncast, Uncasts, uncast_with, uncast_written, uncast_cast, uncast_unlocked, uncast_done, uncast_unless, uncast_after, uncast_run, is_settled, HasWritten, Kept, none_hold, unless_false}
use Rattle.cache_model.specs.Commands.Read as read
use Rattle.cache_model.specs.Commands.Write as write
use Rattle.cache_model.specs.Commands.Castout as castout
use Rattle.cache_model.specs.Commands.Unlock as unlock
use Rattle.cache_model.proofs.ContentLaws.{unless_true}
use Rattle.cache_model.proofs.{CopyLaws.other_found, CopyLaws.row_of-replaced, OrderLaws.orderly-deed, OrderLaws.orderly-nothing}
use Rattle.cache_model.proofs.RoomLaws.{gone, goes, OnesFound, row_of-spared}
use Rattle.cache_model.proofs.RowLaws.{name_of, name-row_or_new}
use Rattle.cache_model.specs.Step.{victims as victims_of}

-- ---- rows that are reclaimed

none_step : (n : Name16) (row x : CacheItem) (rows rest : List CacheItem) (b : Bool)
    → same_name x.name n ≡ b → row_of n rows ≡ Some row → is_changed row ≡ true → row_of x.name rows ≡ Some x
    → not (is_changed x) ≡ true → list_any (is_row_of n) rest ≡ false → b || list_any (is_row_of n) rest ≡ false
none_step n row x rows rest true e found changed is unchanged none =
    let there = subst (λ m. row_of m rows ≡ Some x) (same_name-eq _ n e) is in
    let both = sym there ∙ found in
    let same : x ≡ row = cc in
    absurd (grind (arith, false≢true, not-true))
none_step n row x rows rest false e found changed is unchanged none = none

none_changed : (n : Name16) (row : CacheItem) (rows out : List CacheItem) → row_of n rows ≡ Some row → is_changed row
    ≡ true → OnesFound out rows → list_all (λ r. not (is_changed r)) out ≡ true → list_any (is_row_of n) out ≡ false
none_changed n row rows [] found changed ones all = refl
none_changed n row rows (x ∷ out) found changed ones all =
    let parts = and_parts (not (is_changed x)) (list_all (λ r. not (is_changed r)) out) all in
    none_step n _ x _ _ _ refl found changed ones.0 parts.0 (none_changed n row rows out found changed ones.1 parts.1)

-- a changed row isn't among those that go
changed_spared : (caps : Caps) (request : Request) (rows : List CacheItem) (n : Name16) (row : CacheItem)
    → IsDirectory rows → row_of n rows ≡ Some row
    → is_changed row ≡ true → is_among (victims caps request rows) n ≡ false
changed_spared caps request rows n row is found changed =
    list_any-map (λ other. same_name other n) name_of (gone caps request rows) ∙ none_changed n row rows
    (gone caps request rows) found changed (goes caps request rows is).found (goes caps request rows is).unchanged

kept_changed : (row : CacheItem) (uncast : Uncast) → HasWritten row uncast → is_changed row ≡ true
kept_changed row uncast has = ap (λ (c : Option ℕ). is_some c) has.class

spared_step : (caps : Caps) (request : Request) (rows : List CacheItem) (n : Name16) (p : Option Uncast)
    (o : Option CacheItem) → IsDirectory rows
    → row_of n rows ≡ o → Kept o p → Kept (row_of n (rows_spared (victims caps request rows) rows)) p
spared_step caps request rows n None o is found kept = tt
spared_step caps request rows n (Some uncast) None is found kept = absurd kept
spared_step caps request rows n (Some uncast) (Some row) is found kept =
    let out = changed_spared _ _ _ n _ is found (kept_changed _ _ kept) in
    subst (λ o. Kept o (Some uncast)) (sym (row_of-spared n _ _ out ∙ found)) kept

kept_spared : (caps : Caps) (request : Request) (rows : List CacheItem) (n : Name16) (p : Option Uncast)
    → IsDirectory rows → Kept (row_of n rows) p → Kept (row_of n (rows_spared (victims caps request rows) rows)) p
kept_spared caps request rows n p is kept = spared_step caps request rows n p (row_of n rows) is refl kept

-- ---- a row that is replaced

replaced_step : (n name : Name16) (row : CacheItem) (rows : List CacheItem) (new old : Option Uncast) (s : Bool)
    → same_name name n ≡ s → row.name ≡ name → Kept (Some row) new
    → (s ≡ false → Kept (row_of n rows) old) → Kept (row_of n (rows_replaced row rows)) (cond s new old)
replaced_step n name row rows new old true e named here there = subst (λ (o : Option CacheItem). Kept o new)
    (sym (row_of-replaced n row rows true (subst (λ (m : Name16). same_name m n ≡ true) (sym named) e))) here
replaced_step n name row rows new old false e named here there = subst (λ (o : Option CacheItem). Kept o old) (sym
    (row_of-replaced n row rows false (subst (λ (m : Name16). same_name m n ≡ false) (sym named) e))) (there refl)

kept_replaced : (n name : Name16) (row : CacheItem) (rows : List CacheItem) (new : Option Uncast) (uncast : Uncasts)
    → row.name ≡ name → Kept (Some row) new
    → Kept (row_of n rows) (uncast n) → Kept (row_of n (rows_replaced row rows)) (uncast_with name new uncast n)
kept_replaced n name row rows new uncast named here there = grind (arith, replaced_step)

-- a name's own, where nothing is written
own_step : (name n : Name16) (uncast : Uncasts) (s : Bool) → same_name name n ≡ s → cond s (uncast name) (uncast n) ≡
    uncast n
own_step name n uncast true e = ap uncast (same_name-eq name n e)
own_step name n uncast false e = refl

-- ---- commands

abbrev pub AllKept : Content → Uncasts → Type 0
AllKept content uncast = (n : Name16) → Kept (row_of n content.rows) (uncast n)

read_kept : (name : Name16) (stg : ℕ) (o : Option CacheItem) (p : Option Uncast) → Kept o p
    → Kept (Some (unwrap_or o (new_row name stg))) p
read_kept name stg o None kept = tt
read_kept name stg None (Some uncast) kept = absurd kept
read_kept name stg (Some row) (Some uncast) kept = kept

rewritten_settled : (holder : Option Holder) → is_settled (option_map write.rewrite holder) ≡ true
rewritten_settled None = refl
rewritten_settled (Some holder) = refl

unchanged_none : (row : CacheItem) (o : Option CacheItem) (p : Option Uncast) → is_changed_row o ≡ false → Kept o p
    → Kept (Some row) p
unchanged_none row o None e kept = tt
unchanged_none row None (Some uncast) e kept = absurd kept
unchanged_none row (Some old) (Some uncast) e kept = absurd (false≢true (sym e ∙ kept_changed old uncast kept))

write_kept : (body : List ℕ) (class : Option ℕ) (adj : Option (List ℕ)) (row : CacheItem)
    (o : Option CacheItem) (p : Option Uncast) → is_none class && is_changed_row o ≡ false
    → Kept o p → Kept (Some (write.row_with body class adj row)) (uncast_written body class adj p)
write_kept body None adj row o p e kept = unchanged_none (write.row_with body None adj row) o p e kept
write_kept body (Some class) adj row o p e kept = grind (arith, rewritten_settled)

castout_kept : (by : ConnId) (name : Name16) (o : Option CacheItem) (p : Option Uncast) → Kept o p
    → Kept (Some (castout.row_with_hold by (unwrap_or o (new_row name 1)))) (uncast_cast p)
castout_kept by name o None kept = tt
castout_kept by name None (Some uncast) kept = absurd kept
castout_kept by name (Some row) (Some uncast) kept = grind arith

unlock_kept : (by : ConnId) (name : Name16) (o : Option CacheItem) (p : Option Uncast)
    → first_refusal (entry_refusal o ∷ not_held_refusal by o ∷ []) ≡ None → Kept o p
    → Kept (Some (unlock.row_without_hold (unwrap_or o (new_row name 1)))) (uncast_unlocked p)
unlock_kept by name o None h kept = tt
unlock_kept by name None (Some uncast) h kept = absurd kept
unlock_kept by name (Some row) (Some uncast) h kept = grind (arith, none_hold, false≢true, unless_false)

delete_step : (n name : Name16) (rows : List CacheItem) (old : Option Uncast) (s : Bool) → same_name name n ≡ s
    → Kept (row_of n rows) old → Kept (row_of n (rows_without name rows)) (cond s None old)
delete_step n name rows old true e kept = tt
delete_step n name rows old false e kept = grind (arith, other_found)

released_kept : (conn : ConnId) (o : Option CacheItem) (p : Option Uncast) → Kept o p
    → Kept (option_map (without_hold conn) o) p
released_kept conn o None kept = tt
released_kept conn None (Some uncast) kept = absurd kept
released_kept conn (Some row) (Some uncast) kept = grind arith

pub row_of-released : (conn : ConnId) (n : Name16) (rows : List CacheItem) → row_of n (map (without_hold conn) rows) ≡
    option_map (without_hold conn) (row_of n rows)
row_of-released conn n [] = refl
row_of-released conn n (row ∷ rows) = grind (arith, row_of-released conn n rows)

after_kept : (vector : ℕ) (caps : Caps) (content : Content) (uncast : Uncasts) (by : ConnId) (cmd : CacheCmd)
    → IsDirectory content.rows → cause vector caps content by cmd ≡ None → AllKept content uncast
    → AllKept (after (victims_of caps content.rows cmd) content by cmd) (uncast_done cmd uncast)
after_kept vector caps content uncast by (Read name index old stg) is h all = λ n. subst (λ (p : Option Uncast). Kept
    (row_of n (rows_replaced (row_or_new name stg content.rows) (rows_spared (victims caps (read.request name stg)
    content.rows) content.rows))) p) (own_step name n uncast (same_name name n) refl) (kept_replaced n name
    (row_or_new name stg content.rows) (rows_spared (victims caps (read.request name stg) content.rows) content.rows)
    (uncast name) uncast (name-row_or_new _ _ _) (read_kept _ _ _ _ (all name)) (kept_spared _ _ _ n _ is (all n)))
after_kept vector caps content uncast by (Write name index body class adj old stg when_reg) is h all =
    let none = none_hold (write.causes vector caps content by name index body class old stg when_reg) h in
    λ n. kept_replaced n name (write.row_with body class adj (row_or_new name stg content.rows)) (rows_spared (victims
    caps (write.request name body stg) content.rows) content.rows) (uncast_written body class adj (uncast name))
    uncast (name-row_or_new _ _ _) (grind (arith, write_kept, unless_true)) (kept_spared _ _ _ n _ is (all n))
after_kept vector caps content uncast by (Castout name) is h all = λ n. kept_replaced n name (castout.row_with_hold
    by (row_or_new name 1 content.rows)) content.rows (uncast_cast (uncast name)) uncast (name-row_or_new
    name 1 content.rows) (castout_kept by name (row_of name content.rows) (uncast name) (all name)) (all n)
after_kept vector caps content uncast by (Unlock name) is h all = λ n. kept_replaced n name (unlock.row_without_hold
    (row_or_new name 1 content.rows)) content.rows (uncast_unlocked (uncast name)) uncast (name-row_or_new
    name 1 content.rows) (unlock_kept by name (row_of name content.rows) (uncast name) h (all name)) (all n)
after_kept vector caps content uncast by (Delete name) is h all = grind (arith, delete_step)
after_kept vector caps content uncast by _ is h all = all

unless_kept : (caps : Caps) (content : Content) (uncast : Uncasts) (by : ConnId) (cmd : CacheCmd)
    (refusal : Option Refusal)
    → (refusal ≡ None → AllKept (done caps content by cmd).state (uncast_done cmd uncast)) → AllKept content uncast
    → AllKept (unless_refused refusal content (done caps content by cmd)).state (uncast_unless refusal cmd uncast)
unless_kept caps content uncast by cmd None h all = h refl
unless_kept caps content uncast by cmd (Some refusal) h all = all

-- so it is after one more deed, at whatever capacity
pub deed-kept : (vector : ℕ) (content : Content) (uncast : Uncasts) (deed : Deed)
    → IsDirectory content.rows → AllKept content uncast
    → AllKept (after_deed vector content deed) (uncast_after vector content uncast deed)
deed-kept vector content uncast (Calls caps by cmd) is all = unless_kept caps content uncast
    by cmd (cause vector caps content by cmd) (λ h. after_kept vector caps content uncast by cmd is h all) all
deed-kept vector content uncast (Leaves conn) is all = grind (arith, row_of-released, released_kept)
deed-kept vector content uncast Forgets is all = all

run_kept : (vector : ℕ) (content : Content) (uncast : Uncasts) (deeds : List Deed)
    → IsOrderly content → AllKept content uncast
    → AllKept (after_run vector content deeds) (uncast_run vector content uncast deeds)
run_kept vector content uncast [] is all = all
run_kept vector content uncast (deed ∷ deeds) is all =
    run_kept vector (after_deed vector content deed) (uncast_after vector content uncast deed) deeds
    (orderly-deed vector content deed is) (deed-kept vector content uncast deed is.directory all)

-- A changed WRITE: after every run from the empty content, a name whose last changed WRITE isn't cast out nor deleted
-- has a changed row with what was written
pub uncast-kept : (vector : ℕ) (deeds : List Deed) (name : Name16) → Kept (row_of
    name (after_run vector no_content deeds).rows) (uncast_run vector no_content (λ n. None) deeds name)
uncast-kept vector deeds name = run_kept vector no_content (λ n. None) deeds orderly-nothing (λ n. tt) name
