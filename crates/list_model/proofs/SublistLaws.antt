-- A command turns no sublist but those where a record comes and where one was: this one had records, and that one has
-- some then.
use Rattle.std.proofs.Common.{arith, ◌≡◌, ◌<◌, ℕ, zero, suc, ◌==◌, Bool, true, false, not, ◌&&◌, ◌||◌, if◌then◌else◌, cond, List, [], ◌∷◌, filter, map, Option, None, Some, refl, sym, ap, ◌∙◌, subst, length, nat_lt}
use Rattle.std.proofs.lemmas.Bool.{and_parts, eq-eqb, eqb-true, false≢true}
use Rattle.std.proofs.lemmas.Bool.Decides.{nat_tests}
use Rattle.std.proofs.lemmas.List.{length-map}
use Rattle.std.proofs.lemmas.List.Folds.{list_all-append, list_any-append}
use Rattle.std.specs.List.{list_all, list_any, position_or_len}
use Rattle.std.specs.Option.{option_or}
use Rattle.cf_types.specs.declared.forms.Caps.{Caps}
use Rattle.cf_types.specs.declared.list_commands.At.{At}
use Rattle.cf_types.specs.declared.list_commands.ListCmd.{ListCmd}
use Rattle.cf_types.specs.declared.names.Key16.{Key16}
use Rattle.cf_types.specs.declared.numbers.ConnId.{ConnId}
use Rattle.cf_types.specs.declared.numbers.EntryId.{EntryId}
use Rattle.cf_lists.specs.Insertions.{insertion}
use Rattle.cf_lists.specs.Pairwise.{pairwise}
use Rattle.cf_lists.proofs.AllLaws.{pairwise_back}
use Rattle.cf_lists.proofs.FilterLaws.{list_all_weaker, list_all-filter_same, none_from_all, list_any-map}
use Rattle.cf_lists.proofs.InsertionLaws.{list_any-insertion}
use Rattle.engine_api.specs.declared.shapes.Shape.{Shape}
use Rattle.engine_api.proofs.CauseLaws.{none_hold}
use Rattle.list_store.specs.Record.{Record}
use Rattle.list_store.specs.Lists.{Lists, records_of, with_records, all_records, is_id, has_id, ids_apart, records_without, lists_without, replaced_by, lists_replaced}
use Rattle.list_model.specs.Contents.{Content, IsContent, headers_of}
use Rattle.list_model.specs.Lists.{the_record, header_of, with_record, stands_before, record_at}
use Rattle.list_model.specs.Records.{has_key}
use Rattle.list_model.specs.Refusals.{header_refusal, record_refusal}
use Rattle.list_model.specs.Step.{cause, causes, after}
use Rattle.list_model.specs.Commands.Update as update
use Rattle.list_model.specs.Commands.Move as move
use Rattle.list_model.proofs.ContentLaws.{header_there, the_record-in, with-without}
use Rattle.list_model.proofs.ListLaws.{IsIn, all-with, one-records}
use Rattle.list_model.proofs.RecordLaws.{is_id-refl}
use Rattle.list_model.proofs.StoreLaws.{one-header}
use Rattle.list_model.specs.Keys.{same_key}
use Rattle.list_model.specs.Sublists.{sublist, is_there, sublist_at, sublist_of, turning, is_sublist, may_turn}

-- ---- keys

-- the key is this one
abbrev is_key : Key16 → Option Key16 → Bool
is_key key None = false
is_key key (Some own) = same_key own key

-- a record of this header with this key, if one, is in the sublist
abbrev is_named : ℕ → Option Key16 → ℕ → Key16 → Bool
is_named at own header key = (at == header) && is_key key own

has_is : (k : Key16) (rec : Record) → has_key k rec ≡ is_key k rec.key
has_is k rec = grind arith

second : (a b : Bool) → a && b ≡ false → a ≡ true → b ≡ false
second true b e f = e
second false b e f = absurd (false≢true f)

either : (a b : Bool) → a || b ≡ false → (a ≡ false) × (b ≡ false)
either true b e = absurd (false≢true (sym e))
either false b e = (refl, e)

and_false : (b : Bool) → b && false ≡ false
and_false true = refl
and_false false = refl

named_at : (at : ℕ) (own : Option Key16) (h : ℕ) (k : Key16) → is_sublist (sublist_at at own) h k ≡ is_named at own h k
named_at at None h k = sym (and_false (at == h))
named_at at (Some key) h k = refl

-- ---- one header's records replaced

suc_same : (a b : ℕ) → a == b ≡ true → suc a == suc b ≡ true
suc_same a b e = grind (arith, nat_tests)

there_set : (p : Record → Bool) (lists : Lists) (at h : ℕ) (recs : List Record)
    → (at == h ≡ true → list_any p recs ≡ list_any p (records_of lists at))
    → list_any p (records_of (with_records lists at recs) h) ≡ list_any p (records_of lists h)
there_set p [] at h recs same = refl
there_set p (x ∷ lists) zero zero recs same = same refl
there_set p (x ∷ lists) zero (suc h) recs same = refl
there_set p (x ∷ lists) (suc at) zero recs same = refl
there_set p (x ∷ lists) (suc at) (suc h) recs same = there_set p lists at h recs (λ e. same (suc_same at h e))

-- a record more
pub there-with : (head : Bool) (at : ℕ) (rec : Record) (lists : Lists) (h : ℕ) (k : Key16)
    → is_named at rec.key h k ≡ false → is_there (with_record head at rec lists) h k ≡ is_there lists h k
there-with head at rec lists h k apart = there_set (has_key k) lists at h
    (insertion (stands_before head rec) rec (records_of lists at)) (λ here.
    list_any-insertion (has_key k) (stands_before head rec) rec (records_of lists at)
    ∙ ap (λ (b : Bool). b || list_any (has_key k) (records_of lists at))
    (has_is k rec ∙ second (at == h) (is_key k rec.key) apart here))

set_here : (lists : Lists) (at : ℕ) (recs : List Record) → at < length lists
    → records_of (with_records lists at recs) at ≡ recs
set_here [] at recs within = absurd (omega (arith, within))
set_here (x ∷ lists) zero recs within = refl
set_here (x ∷ lists) (suc at) recs within = set_here lists at recs (omega (arith, within))

any_left : (a b : Bool) → a ≡ true → a || b ≡ true
any_left true b e = refl
any_left false b e = absurd (false≢true e)

any_right : (a b : Bool) → b ≡ true → a || b ≡ true
any_right true b e = refl
any_right false b e = e

-- its sublist has records then
pub there-here : (head : Bool) (at : ℕ) (rec : Record) (lists : Lists) (h : ℕ) (k : Key16) → at < length lists
    → is_sublist (sublist_at at rec.key) h k ≡ true → is_there (with_record head at rec lists) h k ≡ true
there-here head at rec lists h k within e =
    let named = and_parts (at == h) (is_key k rec.key) (sym (named_at at rec.key h k) ∙ e) in
    let coming = insertion (stands_before head rec) rec (records_of lists at) in
    subst (λ (n : ℕ). is_there (with_record head at rec lists) n k ≡ true) (eqb-true at h named.0)
    (ap (λ (l : List Record). list_any (has_key k) l) (set_here lists at coming within)
    ∙ list_any-insertion (has_key k) (stands_before head rec) rec (records_of lists at)
    ∙ any_left (has_key k rec) (list_any (has_key k) (records_of lists at)) (has_is k rec ∙ named.1))

-- ---- all headers' records changed

mapped : (f : List Record → List Record) → f [] ≡ [] → (lists : Lists) (h : ℕ)
    → records_of (map f lists) h ≡ f (records_of lists h)
mapped f e [] h = sym e
mapped f e (x ∷ lists) zero = refl
mapped f e (x ∷ lists) (suc h) = mapped f e lists h

all_flat : (p : Record → Bool) (lists : Lists) → list_all p (all_records lists) ≡ list_all (list_all p) lists
all_flat p [] = refl
all_flat p (records ∷ lists) = grind (arith, list_all-append, all_flat p lists)

-- what all records have those of a header have
of_header : (p : Record → Bool) (lists : Lists) (h : ℕ) → list_all p (all_records lists) ≡ true
    → list_all p (records_of lists h) ≡ true
of_header p lists h e = one-records (list_all p) lists h refl (sym (all_flat p lists) ∙ e)

-- ---- the header of a record

not_zero : (n : ℕ) → (suc n == zero) ≡ false
not_zero n = grind (arith, nat_tests)

first_with : (id : EntryId) (lists : Lists) (h : ℕ) → pairwise ids_apart (all_records lists) ≡ true
    → has_id id (records_of lists h) ≡ true → position_or_len (has_id id) lists ≡ h
first_with id [] h apart e = absurd (false≢true e)
first_with id (first ∷ lists) zero apart e = grind arith
first_with id (first ∷ lists) (suc h) apart e = grind (
  arith,
  one-header id (first ∷ lists) (suc h) zero apart (not_zero h) e,
  first_with id lists h (pairwise_back ids_apart first (all_records lists) apart) e,
)

header_within : (id : EntryId) (lists : Lists) (h : ℕ) → has_id id (records_of lists h) ≡ true
    → nat_lt h (length lists) ≡ true
header_within id [] h e = absurd (false≢true e)
header_within id (first ∷ lists) zero e = grind (arith, nat_tests)
header_within id (first ∷ lists) (suc h) e = grind (arith, nat_tests, header_within id lists h e)

header_is : (id : EntryId) (lists : Lists) (h : ℕ) → pairwise ids_apart (all_records lists) ≡ true
    → has_id id (records_of lists h) ≡ true → header_of id lists ≡ h
header_is id lists h apart e = grind (arith, first_with id lists h apart e, header_within id lists h e)

first_there : (id : EntryId) (lists : Lists) → list_any (is_id id) (all_records lists) ≡ true
    → has_id id (records_of lists (position_or_len (has_id id) lists)) ≡ true
first_there id [] e = absurd (false≢true e)
first_there id (first ∷ lists) e = grind (arith, list_any-append, first_there id lists)

header_has : (id : EntryId) (lists : Lists) → list_any (is_id id) (all_records lists) ≡ true
    → has_id id (records_of lists (header_of id lists)) ≡ true
header_has id lists e =
    let first = first_there id lists e in
    let within = header_within id lists (position_or_len (has_id id) lists) first in
    grind arith

in_all : (rec : Record) (all : List Record) → IsIn rec all → list_any (is_id rec.id) all ≡ true
in_all rec all there =
    ap (λ (l : List Record). list_any (is_id rec.id) l) there.with_it.is
    ∙ list_any-append (is_id rec.id) there.with_it.front (rec ∷ there.with_it.back)
    ∙ any_right (list_any (is_id rec.id) there.with_it.front) (list_any (is_id rec.id) (rec ∷ there.with_it.back))
    (any_left (is_id rec.id rec) (list_any (is_id rec.id) there.with_it.back) (is_id-refl rec))

some_with : (p q : Record → Bool) (xs : List Record) → list_all (λ x. not (p x) || q x) xs ≡ true
    → list_any p xs ≡ true → list_any q xs ≡ true
some_with p q [] all e = absurd (false≢true e)
some_with p q (x ∷ xs) all e = grind (arith, and_parts, some_with p q xs)

-- what is true of all but the one with an id, and of that one
module _ (lists : Lists) (ref : At) (there : record_refusal (record_at lists ref) ≡ None)
    (apart : pairwise ids_apart (all_records lists) ≡ true) where
  abbrev it : Record
  it = the_record lists ref

  -- it is in the sublist
  abbrev is_of : ℕ → Key16 → Bool
  is_of h k = has_id it.id (records_of lists h) && is_key k it.key

  not_of : (h : ℕ) (k : Key16) → is_sublist (sublist_of lists ref) h k ≡ false → is_of h k ≡ false
  not_of h k e = go (has_id it.id (records_of lists h)) refl
    where
      go : (b : Bool) → has_id it.id (records_of lists h) ≡ b → b && is_key k it.key ≡ false
      go true inside = second (header_of it.id lists == h) (is_key k it.key)
          (sym (named_at (header_of it.id lists) it.key h k) ∙ e)
          (eq-eqb (header_of it.id lists) h (header_is it.id lists h apart inside))
      go false outside = refl

  each_but : (p : Record → Bool) → ((other : Record) → not (is_id it.id other) ≡ true → p other ≡ true) → p it ≡ true
      → list_all p (all_records lists) ≡ true
  each_but p others own = all-with p it (records_without it.id (all_records lists)) (all_records lists)
      (with-without it (all_records lists) (the_record-in lists ref there) apart) own
      (list_all_weaker (λ other. not (is_id it.id other)) p others (records_without it.id (all_records lists))
      (list_all-filter_same (λ other. not (is_id it.id other)) (all_records lists)))

  -- its sublist has records
  pub there-own : (h : ℕ) (k : Key16) → is_sublist (sublist_of lists ref) h k ≡ true → is_there lists h k ≡ true
  there-own h k e =
      let named = and_parts (header_of it.id lists == h) (is_key k it.key)
      (sym (named_at (header_of it.id lists) it.key h k) ∙ e) in
      let p : Record → Bool = λ x. not (is_id it.id x) || has_key k x in
      some_with (is_id it.id) (has_key k) (records_of lists h)
      (of_header p lists h (each_but p (λ other apart. any_left (not (is_id it.id other)) (has_key k other) apart)
      (any_right (not (is_id it.id it)) (has_key k it) (has_is k it ∙ named.1))))
      (subst (λ (n : ℕ). has_id it.id (records_of lists n) ≡ true) (eqb-true (header_of it.id lists) h named.0)
      (header_has it.id lists (in_all it (all_records lists) (the_record-in lists ref there))))

  -- ---- one record less

  any_kept : (p q : Record → Bool) (xs : List Record) → list_any (λ x. q x && p x) xs ≡ false
      → list_any p (filter (λ x. not (q x)) xs) ≡ list_any p xs
  any_kept p q [] e = refl
  any_kept p q (x ∷ xs) e = grind (arith, either, any_kept p q xs)

  no_id : (p : Record → Bool) (xs : List Record) → list_any (is_id it.id) xs ≡ false
      → list_any (λ x. is_id it.id x && p x) xs ≡ false
  no_id p [] e = refl
  no_id p (x ∷ xs) e = grind (arith, either, no_id p xs)

  unless_both : (a b : Bool) → not a ≡ true → not (a && b) ≡ true
  unless_both true b e = absurd (false≢true e)
  unless_both false b e = refl

  no_second : (a b : Bool) → b ≡ false → not (a && b) ≡ true
  no_second true b e = ap not e
  no_second false b e = refl

  none_gone : (h : ℕ) (k : Key16) (in_it : Bool) → has_id it.id (records_of lists h) ≡ in_it
      → in_it && is_key k it.key ≡ false → list_any (λ x. is_id it.id x && has_key k x) (records_of lists h) ≡ false
  none_gone h k false out e = no_id (has_key k) (records_of lists h) out
  none_gone h k true inside e = none_from_all (λ x. is_id it.id x && has_key k x) (records_of lists h)
      (of_header (λ x. not (is_id it.id x && has_key k x)) lists h (each_but (λ x. not (is_id it.id x && has_key k x))
      (λ x other. unless_both (is_id it.id x) (has_key k x) other)
      (no_second (is_id it.id it) (has_key k it) (has_is k it ∙ e))))

  pub there-without : (h : ℕ) (k : Key16) → is_sublist (sublist_of lists ref) h k ≡ false
      → is_there (lists_without it.id lists) h k ≡ is_there lists h k
  there-without h k e = ap (λ (l : List Record). list_any (has_key k) l) (mapped (records_without it.id) refl lists h)
      ∙ any_kept (has_key k) (is_id it.id) (records_of lists h)
      (none_gone h k (has_id it.id (records_of lists h)) refl (not_of h k e))

  -- ---- one record changed, with its key

  abbrev agrees : Key16 → Record → Bool
  agrees k other = not (is_id it.id other) || (if has_key k it then has_key k other else not (has_key k other))

  agrees_other : (a b : Bool) → not a ≡ true → not a || b ≡ true
  agrees_other true b e = absurd (false≢true e)
  agrees_other false b e = refl

  agrees_own : (a b : Bool) → not a || (if b then b else not b) ≡ true
  agrees_own true true = refl
  agrees_own true false = refl
  agrees_own false b = refl

  changed_one : (a own b : Bool) → not a || (if own then b else not b) ≡ true → (if a then own else b) ≡ b
  changed_one true true true e = refl
  changed_one true true false e = absurd (false≢true e)
  changed_one true false true e = absurd (false≢true e)
  changed_one true false false e = refl
  changed_one false own b e = refl

  key_of_changed : (k : Key16) (body adj : Option (List ℕ)) (other : Record) (b : Bool) → is_id it.id other ≡ b
      → has_key k (replaced_by (update.with_new_data body adj it) other) ≡ (if b then has_key k it else has_key k other)
  key_of_changed k body adj other true e = rw e refl
  key_of_changed k body adj other false e = rw e refl

  any_changed : (k : Key16) (body adj : Option (List ℕ)) (xs : List Record) → list_all (agrees k) xs ≡ true
      → list_any (λ x. has_key k (replaced_by (update.with_new_data body adj it) x)) xs ≡ list_any (has_key k) xs
  any_changed k body adj [] e = refl
  any_changed k body adj (x ∷ xs) e =
      let parts = and_parts (agrees k x) (list_all (agrees k) xs) e in
      let one : has_key k (replaced_by (update.with_new_data body adj it) x) ≡ has_key k x =
      key_of_changed k body adj x (is_id it.id x) refl
      ∙ changed_one (is_id it.id x) (has_key k it) (has_key k x) parts.0 in
      ap (λ (b : Bool). b || list_any (λ y. has_key k (replaced_by (update.with_new_data body adj it) y)) xs) one
      ∙ ap (λ (b : Bool). has_key k x || b) (any_changed k body adj xs parts.1)

  pub there-changed : (body adj : Option (List ℕ)) (h : ℕ) (k : Key16)
      → is_there (lists_replaced (update.with_new_data body adj it) lists) h k ≡ is_there lists h k
  there-changed body adj h k =
      ap (λ (l : List Record). list_any (has_key k) l)
      (mapped (map (replaced_by (update.with_new_data body adj it))) refl lists h)
      ∙ list_any-map (has_key k) (replaced_by (update.with_new_data body adj it)) (records_of lists h)
      ∙ any_changed k body adj (records_of lists h) (of_header (agrees k) lists h (each_but (agrees k)
      (λ other apart. agrees_other (is_id it.id other) _ apart) (agrees_own (is_id it.id it) (has_key k it))))

-- ---- commands

pub turns-only : (shape : Shape) (caps : Caps) (content : Content) (by : ConnId) (cmd : ListCmd)
    → IsContent shape caps content → cause shape caps content by cmd ≡ None → (h : ℕ) (k : Key16)
    → may_turn (turning content cmd) h k ≡ false
    → is_there (after content by cmd).lists h k ≡ is_there content.lists h k
turns-only shape caps content by (ListCmd.Write header head name key body adj cond) is none h k e =
    there-with head header _ content.lists h k (sym (named_at header key h k) ∙ e)
turns-only shape caps content by (ListCmd.Update ref body adj version cond) is none h k e =
    let holds = none_hold (causes shape caps content by (ListCmd.Update ref body adj version cond)) none in
    there-changed content.lists ref holds.1.1.1.1.0 is.one_for_id body adj h k
turns-only shape caps content by (ListCmd.Move ref header head key version cond) is none h k e =
    let holds = none_hold (causes shape caps content by (ListCmd.Move ref header head key version cond)) none in
    let own = option_or key (the_record content.lists ref).key in
    let parts = either (is_sublist (sublist_of content.lists ref) h k) (is_sublist (sublist_at header own) h k) e in
    there-with head header (move.with_new_key key (the_record content.lists ref))
    (lists_without (the_record content.lists ref).id content.lists) h k (sym (named_at header own h k) ∙ parts.1)
    ∙ there-without content.lists ref holds.1.1.1.1.0 is.one_for_id h k parts.0
turns-only shape caps content by (ListCmd.Delete ref version cond) is none h k e =
    let holds = none_hold (causes shape caps content by (ListCmd.Delete ref version cond)) none in
    let parts = either (is_sublist (sublist_of content.lists ref) h k) false e in
    there-without content.lists ref holds.1.1.1.1.0 is.one_for_id h k parts.0
turns-only shape caps content by (ListCmd.Read at cond) is none h k e = refl
turns-only shape caps content by (ListCmd.ReadList header) is none h k e = refl
turns-only shape caps content by (ListCmd.LockSet lock) is none h k e = refl
turns-only shape caps content by (ListCmd.LockReset lock) is none h k e = refl
turns-only shape caps content by (ListCmd.LockTest lock) is none h k e = refl
turns-only shape caps content by (ListCmd.LControls header) is none h k e = refl
turns-only shape caps content by (ListCmd.SetLimit header n) is none h k e = refl
turns-only shape caps content by (ListCmd.Monitor header index) is none h k e = refl
turns-only shape caps content by (ListCmd.Unmonitor header) is none h k e = refl

within : (shape : Shape) (caps : Caps) (content : Content) → IsContent shape caps content → (header : ℕ)
    → header_refusal (headers_of shape.kind) header ≡ None → header < length content.lists
within shape caps content is header none =
    subst (λ (n : ℕ). header < n) (sym is.headers) (header_there (headers_of shape.kind) header none)

-- the sublist where a record comes has records then
pub fills-there : (shape : Shape) (caps : Caps) (content : Content) (by : ConnId) (cmd : ListCmd)
    → IsContent shape caps content → cause shape caps content by cmd ≡ None → (h : ℕ) (k : Key16)
    → is_sublist (turning content cmd).fills h k ≡ true → is_there (after content by cmd).lists h k ≡ true
fills-there shape caps content by (ListCmd.Write header head name key body adj cond) is none h k e =
    let holds = none_hold (causes shape caps content by (ListCmd.Write header head name key body adj cond)) none in
    there-here head header _ content.lists h k (within shape caps content is header holds.1.1.0) e
fills-there shape caps content by (ListCmd.Move ref header head key version cond) is none h k e =
    let holds = none_hold (causes shape caps content by (ListCmd.Move ref header head key version cond)) none in
    let rec = the_record content.lists ref in
    there-here head header (move.with_new_key key rec) (lists_without rec.id content.lists) h k
    (subst (λ (n : ℕ). header < n) (sym (length-map content.lists (records_without rec.id)))
    (within shape caps content is header holds.1.1.1.1.1.1.0)) e
fills-there shape caps content by (ListCmd.Update ref body adj version cond) is none h k e = absurd (false≢true e)
fills-there shape caps content by (ListCmd.Delete ref version cond) is none h k e = absurd (false≢true e)
fills-there shape caps content by (ListCmd.Read at cond) is none h k e = absurd (false≢true e)
fills-there shape caps content by (ListCmd.ReadList header) is none h k e = absurd (false≢true e)
fills-there shape caps content by (ListCmd.LockSet lock) is none h k e = absurd (false≢true e)
fills-there shape caps content by (ListCmd.LockReset lock) is none h k e = absurd (false≢true e)
fills-there shape caps content by (ListCmd.LockTest lock) is none h k e = absurd (false≢true e)
fills-there shape caps content by (ListCmd.LControls header) is none h k e = absurd (false≢true e)
fills-there shape caps content by (ListCmd.SetLimit header n) is none h k e = absurd (false≢true e)
fills-there shape caps content by (ListCmd.Monitor header index) is none h k e = absurd (false≢true e)
fills-there shape caps content by (ListCmd.Unmonitor header) is none h k e = absurd (false≢true e)

-- and the one where a record was had records
pub empties-there : (shape : Shape) (caps : Caps) (content : Content) (by : ConnId) (cmd : ListCmd)
    → IsContent shape caps content → cause shape caps content by cmd ≡ None → (h : ℕ) (k : Key16)
    → is_sublist (turning content cmd).empties h k ≡ true → is_there content.lists h k ≡ true
empties-there shape caps content by (ListCmd.Move ref header head key version cond) is none h k e =
    let holds = none_hold (causes shape caps content by (ListCmd.Move ref header head key version cond)) none in
    there-own content.lists ref holds.1.1.1.1.0 is.one_for_id h k e
empties-there shape caps content by (ListCmd.Delete ref version cond) is none h k e =
    let holds = none_hold (causes shape caps content by (ListCmd.Delete ref version cond)) none in
    there-own content.lists ref holds.1.1.1.1.0 is.one_for_id h k e
empties-there shape caps content by (ListCmd.Write header head name key body adj cond) is none h k e =
    absurd (false≢true e)
empties-there shape caps content by (ListCmd.Update ref body adj version cond) is none h k e = absurd (false≢true e)
empties-there shape caps content by (ListCmd.Read at cond) is none h k e = absurd (false≢true e)
empties-there shape caps content by (ListCmd.ReadList header) is none h k e = absurd (false≢true e)
empties-there shape caps content by (ListCmd.LockSet lock) is none h k e = absurd (false≢true e)
empties-there shape caps content by (ListCmd.LockReset lock) is none h k e = absurd (false≢true e)
empties-there shape caps content by (ListCmd.LockTest lock) is none h k e = absurd (false≢true e)
empties-there shape caps content by (ListCmd.LControls header) is none h k e = absurd (false≢true e)
empties-there shape caps content by (ListCmd.SetLimit header n) is none h k e = absurd (false≢true e)
empties-there shape caps content by (ListCmd.Monitor header index) is none h k e = absurd (false≢true e)
empties-there shape caps content by (ListCmd.Unmonitor header) is none h k e = absurd (false≢true e)

-- how many records a sublist has tells whether it has some
counted : (p : Record → Bool) (xs : List Record) → not (length (filter p xs) == 0) ≡ list_any p xs
counted p [] = refl
counted p (x ∷ xs) = grind (arith, nat_tests, counted p xs)

pub there_count : (lists : Lists) (header : ℕ) (key : Key16)
    → not (sublist lists header key == 0) ≡ is_there lists header key
there_count lists header key = counted (has_key key) (records_of lists header)
