-- Whatever is done to a content at whatever capacity, its rows and registrations stay in order.
use Rattle.cache_model.proofs.Imports.{◌≡◌, ℕ, false, not, ◌&&◌, ◌||◌, List, [], ◌∷◌, Option, Some, None, is_none, refl, arith, Caps, Name16, ConnId, Refusal, CacheCmd, Read, Write, same_name, unless_refused, list_all-filter, all_found, regs_with, ends_with_name, registry-with, registry-filter, row_of, has_row, row_or_new, Content, no_content, IsContent, IsOrderly, need_of, is_changed_row, cause, done, Deed, after_deed, after_run, Calls, Leaves, Forgets, none_hold}
use Rattle.cache_model.specs.Commands.Read as read
use Rattle.cache_model.specs.Commands.Write as write
use Rattle.cache_model.proofs.RowLaws.{name-row_or_new, sound-row_or_new}
use Rattle.cache_model.proofs.ContentLaws.{orderly_used, orderly-content, each_registered, write_sound, unless_true, content-done, content-without, content-forgotten}
use Rattle.cache_model.proofs.EngineLaws.{content-nothing}

-- a content in order is one at the capacity that it needs itself
alone : (content : Content) → IsOrderly content → IsContent (need_of content.rows) content
alone content is = grind arith

orderly_read : (content : Content) (names : List Name16) (by : ConnId) (name : Name16) (index stg : ℕ)
    → IsOrderly content → IsOrderly (read.after names content by name index stg)
orderly_read content names by name index stg is = orderly_used content (row_or_new name stg content.rows)
    name names (regs_with by index name content.regs) (name-row_or_new name stg content.rows)
    is (sound-row_or_new name stg content.rows is.directory) (registry-with by index name content.regs is.registry)
    (each_registered by index name content.rows content.regs is.row_each)

orderly_write : (content : Content) (names : List Name16) (by : ConnId) (name : Name16) (index : ℕ) (body : List ℕ)
    (class : Option ℕ) (adj : Option (List ℕ)) (stg : ℕ) → is_none class && is_changed_row (row_of name content.rows)
    ≡ false → IsOrderly content → IsOrderly (write.after names content by name index body class adj stg)
orderly_write content names by name index body class adj stg unchanged is = orderly_used _
    _ _ _ _ (name-row_or_new _ _ _) is (grind (arith, write_sound, all_found)) (registry-filter _ _ (registry-with _
    _ _ _ is.registry)) (list_all-filter (λ reg. same_name reg.name name || has_row reg.name content.rows) (λ reg. not
    (ends_with_name name (Some by) reg)) _ (each_registered by index name content.rows content.regs is.row_each))

-- what is done at the capacity that the content needs itself
same_done : (vector : ℕ) (content : Content) (by : ConnId) (cmd : CacheCmd) → IsOrderly content → cause
    vector (need_of content.rows) content by cmd ≡ None → IsOrderly (done (need_of content.rows) content by cmd).state
same_done vector content by cmd is h = grind (arith, orderly-content, content-done, alone)

-- commands but for READ and WRITE make no room, so that they do the same at every capacity
orderly_done : (vector : ℕ) (caps : Caps) (content : Content) (by : ConnId) (cmd : CacheCmd) → IsOrderly content
    → cause vector caps content by cmd ≡ None → IsOrderly (done caps content by cmd).state
orderly_done vector caps content by (Read name index old stg) is h = orderly_read _ _ _ _ _ _ is
orderly_done vector caps content by (Write name index body class adj old stg when_reg) is h =
    let none = none_hold (write.causes vector caps content by name index body class old stg when_reg) h in
    orderly_write _ _ _ _ _ _ _ _ _ (unless_true _ none.1.1.1.1.0) is
orderly_done vector caps content by cmd is h = same_done vector content by cmd is h

orderly_unless : (vector : ℕ) (caps : Caps) (content : Content) (by : ConnId) (cmd : CacheCmd)
    (refusal : Option Refusal) → cause vector caps content by cmd ≡ refusal → IsOrderly content
    → IsOrderly (unless_refused refusal content (done caps content by cmd)).state
orderly_unless vector caps content by cmd None h is = orderly_done vector caps content by cmd is h
orderly_unless vector caps content by cmd (Some refusal) h is = is

pub orderly-deed : (vector : ℕ) (content : Content) (deed : Deed) → IsOrderly content
    → IsOrderly (after_deed vector content deed)
orderly-deed vector content (Calls caps by cmd) is =
    orderly_unless vector caps content by cmd (cause vector caps content by cmd) refl is
orderly-deed vector content (Leaves conn) is = orderly-content _ _ (content-without _ _ _ (alone _ is))
orderly-deed vector content Forgets is = grind (arith, orderly-content, content-forgotten, alone)

pub orderly-run : (vector : ℕ) (content : Content) (deeds : List Deed) → IsOrderly content
    → IsOrderly (after_run vector content deeds)
orderly-run vector content [] is = is
orderly-run vector content (deed ∷ deeds) is =
    orderly-run vector (after_deed vector content deed) deeds (orderly-deed vector content deed is)

pub orderly-nothing : IsOrderly no_content
orderly-nothing = orderly-content nothing no_content (content-nothing nothing)
  where
    nothing : Caps
    nothing = record { entries = 0; elements = 0 }
