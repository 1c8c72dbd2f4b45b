-- Every command and departure leads from content to content.
use Rattle.list_model.proofs.Imports.{◌≡◌, ℕ, ◌+◌, ◌-◌, ◌<◌, ◌≤◌, ◌==◌, ◌&&◌, Bool, true, false, not, cond, List, [], ◌∷◌, ◌++◌, Option, Some, None, is_some, unwrap_or, length, filter, find, map, set, length-set, nat_lt, sum_by, refl, sym, ap, ◌∙◌, subst, arith, list_all, option_or, and_parts, and_from, not-true, false≢true, nat_tests, length-map, filter-append, list_all-map, sum_by-cons, Caps, Refs, At, Cond, ListCmd, Write, Update, Move, Delete, LockSet, LockReset, SetLimit, Unmonitor, Key16, Name16, ConnId, EntryId, Shape, first_refusal, insertion, pairwise, list_all-filter, list_all_weaker, list_all_always, list_all-filter_same, filter_all, length-filter-le, sum_by-filter-le, any_is_found, all_from_none, pairwise-filter, pairwise-map, Record, Lists, records_of, all_records, is_id, records_without, lists_without, replaced_by, lists_replaced, ids_apart, is_of, is_for, monitors_with, AreMonitors, has_name, elements_of, next_version, is_known, names_apart, may_precede, record_at, the_record, no_record, stands_before, with_record, Content, IsContent, is_given, headers_of, locks_of, refs_of, is_within, content_without, holder_without, header_refusal, new_key_refusal, record_refusal, taken_refusal, name_refusal, entries_refusal, elements_refusal, index_refusal, cause, done, none_hold, unless_false}
use Rattle.cf_types.specs.declared.list_commands.ListCmd.TheVariants.{Monitor}
use Rattle.list_watch.specs.declared.monitors.Monitor as watched
use Rattle.list_model.specs.Commands.Write as write
use Rattle.list_model.specs.Commands.Update as update
use Rattle.list_model.specs.Commands.Move as move
use Rattle.list_model.specs.Commands.Monitor as monitor
use Rattle.list_model.specs.Commands.Unmonitor as unmonitor
use Rattle.list_model.proofs.RecordLaws.{ordered-with, ids_apart-sym, is_id-refl, names_apart-sym}
use Rattle.list_model.proofs.ListLaws.{IsWith, with-insertion, with-map, all-with, length-with, sum-with, pairwise-with, with-all, with-pairwise, IsIn, in-found, in-place, in-header, with-records, each-records, one-records, all-without, all-map}
use Rattle.list_model.proofs.MonitorLaws.{monitors-filter, monitors-with, all-monitors_with}

abbrev pub size : Record → ℕ
size rec = elements_of rec.body

-- ---- causes

below_test : (a b : ℕ) → b < a → nat_lt b a ≡ true
below_test a b h = grind (arith, nat_tests)

pub header_there : (headers header : ℕ) → header_refusal headers header ≡ None → header < headers
header_there headers header h = grind (arith, nat_tests)

pub index_there : (vector index : ℕ) → index_refusal vector index ≡ None → index < vector
index_there vector index h = grind (arith, nat_tests)

pub elements_fit : (caps : Caps) (need : ℕ) (records : List Record) → elements_refusal caps need records ≡ None
    → need ≤ caps.elements - sum_by size records
elements_fit caps need records h = grind (arith, nat_tests)

pub entry_fits : (caps : Caps) (records : List Record) → entries_refusal caps records ≡ None
    → length records < caps.entries
entry_fits caps records h = grind (arith, nat_tests)

-- ---- the record that is named is there

is_there : (o : Option Record) → record_refusal o ≡ None → o ≡ Some (unwrap_or o no_record)
is_there None h = absurd (cc)
is_there (Some rec) h = refl

pub record_at-in : (lists : Lists) (at : At) (rec : Record) → record_at lists at ≡ Some rec
    → IsIn rec (all_records lists)
record_at-in lists (At.Id id) rec h = in-found (is_id id) (all_records lists) rec h
record_at-in lists (At.Name name) rec h = in-found (has_name name) (all_records lists) rec h
record_at-in lists (At.Head header) rec h = in-header rec lists header (in-place _ 0 rec h)
record_at-in lists (At.Tail header) rec h = in-header rec lists header (in-place _ _ rec h)
record_at-in lists (At.Key header key) rec h = in-header rec lists header (in-found _ _ rec h)

pub the_record-in : (lists : Lists) (at : At) → record_refusal (record_at lists at) ≡ None
    → IsIn (the_record lists at) (all_records lists)
the_record-in lists at h = record_at-in lists at (the_record lists at) (is_there (record_at lists at) h)

-- what is left without it
without_it : (rec : Record) (others all : List Record) → IsWith rec others all → pairwise ids_apart all ≡ true
    → records_without rec.id all ≡ others
without_it rec others all w h =
    let kept = λ (other : Record). not (is_id rec.id other) in
    let apart : list_all kept others ≡ true = list_all_weaker (λ other. ids_apart rec other && ids_apart other rec)
    kept (grind (arith, and_parts)) others (with-pairwise ids_apart ids_apart-sym rec others all w h) in
    let same = filter_all kept others apart in
    grind (arith, filter-append, is_id-refl)

pub with-without : (rec : Record) (all : List Record) → IsIn rec all → pairwise ids_apart all ≡ true
    → IsWith rec (records_without rec.id all) all
with-without rec all i h = grind (arith, IsWith, without_it)

-- ---- WRITE

fresh_ids : (a n : ℕ) → nat_lt a n ≡ true → not (a == n) && not (n == a) ≡ true
fresh_ids a n h = grind (arith, and_from, nat_tests)

lt_next : (a n : ℕ) → nat_lt a n ≡ true → nat_lt a (n + 1) ≡ true
lt_next a n h = grind (arith, nat_tests)

is_next : (n : ℕ) → nat_lt n (n + 1) ≡ true
is_next n = grind (arith, nat_tests)

not_taken : (o : Option Record) → taken_refusal o ≡ None → is_some o ≡ false
not_taken None h = refl
not_taken (Some rec) h = absurd (cc)

both_ways : (rec : Record) (records : List Record) → list_all (names_apart rec) records ≡ true
    → list_all (λ other. names_apart rec other && names_apart other rec) records ≡ true
both_ways rec records h = grind (arith, list_all_weaker, and_from, names_apart-sym)

new_name : (content : Content) (name : Option Name16) (key : Option Key16)
    (body adj : Option (List ℕ)) (records : List Record) → name_refusal records name ≡ None
    → list_all (names_apart (write.new_record content name key body adj)) records ≡ true
new_name content None key body adj records h = grind (arith, list_all_always)
new_name content (Some name) key body adj records h = all_from_none
    (has_name name) records (any_is_found (has_name name) records ∙ not_taken (find (has_name name) records) h)

pub content-write : (shape : Shape) (caps : Caps) (content : Content) (by : ConnId) (header : ℕ) (head : Bool)
    (name : Option Name16) (key : Option Key16) (body adj : Option (List ℕ)) (cond : Option Cond) → IsContent
    shape caps content → first_refusal (write.causes shape caps content by header name key body cond) ≡ None
    → IsContent shape caps (write.after content header head name key body adj)
content-write shape caps content by header head name key body adj cond is h =
    let none = none_hold (write.causes shape caps content by header name key body cond) h in
    let rec = write.new_record content name key body adj in
    let all = all_records content.lists in
    let records = insertion (stands_before head rec) rec (records_of content.lists header) in
    let w = with-records rec content.lists header records (omega (
      arith,
      header_there (headers_of shape.kind) header none.1.1.0,
      is.headers,
    )) (with-insertion (stands_before head rec) rec (records_of content.lists header)) in
    record {
      headers = length-set content.lists header records ∙ is.headers;
      limits = is.limits;
      locks = is.locks;
      one_for_id = pairwise-with ids_apart rec all _ w is.one_for_id
          (list_all_weaker (is_given content.next) _ (λ other k. fresh_ids other.id.0 content.next k) all is.given_ids);
      given_ids = all-with (is_given (content.next + 1)) rec all _ w (is_next content.next)
          (list_all_weaker (is_given content.next) _ (λ other k. lt_next other.id.0 content.next k) all is.given_ids);
      one_for_name = pairwise-with names_apart rec all _ w is.one_for_name
          (both_ways rec all (new_name content name key body adj all none.1.1.1.1.0));
      known = all-with (is_known (refs_of shape.kind)) rec all _ w (unless_false _ _ none.1.1.1.0) is.known;
      ordered = grind (arith, each-records, ordered-with, one-records);
      entries = omega (arith, length-with rec all _ w, entry_fits caps all none.1.1.1.1.1.1.0);
      elements = omega (
        arith,
        sum-with size rec all _ w,
        elements_fit caps (elements_of body) all none.1.1.1.1.1.1.1.0,
        is.elements,
      );
      watch = is.watch;
      within = is.within;
    }

-- ---- UPDATE

-- a record with what is given where it has the id
abbrev pub patched : EntryId → Option (List ℕ) → Option (List ℕ) → Record → Record
patched id body adj rec = record rec {
  version = cond (is_id id rec) (next_version rec.version) rec.version;
  body = cond (is_id id rec) (option_or body rec.body) rec.body;
  adj = cond (is_id id rec) (option_or adj rec.adj) rec.adj;
}

abbrev pub Each : (Record → Type 0) → List Record → Type 0
Each P [] = Unit {0}
Each P (rec ∷ records) = P rec × Each P records

each_append : (P : Record → Type 0) (front back : List Record) → Each P front → Each P back → Each P (front ++ back)
each_append P [] back f b = b
each_append P (rec ∷ front) back f b = (f.0, each_append P front back f.1 b)

each_parts : (P : Record → Type 0) (front back : List Record) → Each P (front ++ back) → Each P front × Each P back
each_parts P [] back e = (tt, e)
each_parts P (rec ∷ front) back e = let rest = each_parts P front back e.1 in ((e.0, rest.0), rest.1)

-- a record with this id is this one
abbrev pub IsOnly : Record → Record → Type 0
IsOnly rec other = is_id rec.id other ≡ true → other ≡ rec

only_others : (rec : Record) (records : List Record)
    → list_all (λ other. ids_apart rec other && ids_apart other rec) records ≡ true → Each (IsOnly rec) records
only_others rec [] h = tt
only_others rec (other ∷ records) h = grind (arith, and_parts, false≢true, only_others rec records)

only_one : (rec : Record) (others all : List Record) → IsWith rec others all → pairwise ids_apart all ≡ true
    → Each (IsOnly rec) all
only_one rec others all w h =
    let apart : list_all (λ other. ids_apart rec other && ids_apart other rec) (w.front ++ w.back) ≡ true =
    subst (λ (l : List Record). list_all (λ other. ids_apart rec other && ids_apart other rec) l ≡ true) w.was
    (with-pairwise ids_apart ids_apart-sym rec others all w h) in
    let sides = each_parts (IsOnly rec) w.front w.back (only_others rec (w.front ++ w.back) apart) in
    subst (λ (l : List Record). Each (IsOnly rec) l) (sym w.is) (grind (arith, each_append))

agree_one : (body adj : Option (List ℕ)) (rec other : Record) (b : Bool) → is_id rec.id other ≡ b → IsOnly rec other
    → replaced_by (update.with_new_data body adj rec) other ≡ patched rec.id body adj other
agree_one body adj rec other true e only = rw e (ap (λ (r : Record). update.with_new_data body adj r) (sym (only e)))
agree_one body adj rec other false e only = rw e refl

agree_list : (body adj : Option (List ℕ)) (rec : Record) (records : List Record) → Each (IsOnly rec) records
    → map (replaced_by (update.with_new_data body adj rec)) records ≡ map (patched rec.id body adj) records
agree_list body adj rec [] each = refl
agree_list body adj rec (other ∷ records) each = grind (arith, agree_one, agree_list body adj rec records each.1)

agree_lists : (body adj : Option (List ℕ)) (rec : Record) (lists : Lists) → Each (IsOnly rec) (all_records lists)
    → lists_replaced (update.with_new_data body adj rec) lists ≡ map
    (λ records. map (patched rec.id body adj) records) lists
agree_lists body adj rec [] each = refl
agree_lists body adj rec (records ∷ lists) each =
    let parts = each_parts (IsOnly rec) records (all_records lists) each in
    cc (agree_list body adj rec records parts.0, agree_lists body adj rec lists parts.1)

-- the sizes of what is patched
same_size : (b : Bool) (body : Option (List ℕ)) → elements_of (cond b (option_or None body) body) ≡ elements_of body
same_size true body = refl
same_size false body = refl

unsized : (id : EntryId) (adj : Option (List ℕ)) (records : List Record)
    → sum_by size (map (patched id None adj) records) ≡ sum_by size records
unsized id adj [] = refl
unsized id adj (rec ∷ records) = omega (
  arith,
  sum_by-cons size (patched id None adj rec) (map (patched id None adj) records),
  sum_by-cons size rec records,
  same_size (is_id id rec) rec.body,
  unsized id adj records,
)

other_size : (id : EntryId) (body adj : Option (List ℕ)) (rec : Record) → not (is_id id rec) ≡ true
    → size (patched id body adj rec) ≡ size rec
other_size id body adj rec h = rw (not-true (is_id id rec) h) refl

others_size : (id : EntryId) (body adj : Option (List ℕ)) (records : List Record) → list_all
    (λ rec. not (is_id id rec)) records ≡ true → sum_by size (map (patched id body adj) records) ≡ sum_by size records
others_size id body adj [] h = refl
others_size id body adj (rec ∷ records) h =
    let parts = and_parts (not (is_id id rec)) (list_all (λ (r : Record). not (is_id id r)) records) h in
    omega (
      arith,
      sum_by-cons size (patched id body adj rec) (map (patched id body adj) records),
      sum_by-cons size rec records,
      other_size id body adj rec parts.0,
      others_size id body adj records parts.1,
    )

own_size : (body : List ℕ) (adj : Option (List ℕ)) (rec : Record)
    → size (patched rec.id (Some body) adj rec) ≡ elements_of (Some body)
own_size body adj rec = rw (is_id-refl rec) refl

patched_fits : (caps : Caps) (body adj : Option (List ℕ)) (rec : Record) (all : List Record) → IsIn rec all
    → pairwise ids_apart all ≡ true → sum_by size all ≤ caps.elements → elements_of body ≤ caps.elements
    - sum_by size (records_without rec.id all) → sum_by size (map (patched rec.id body adj) all) ≤ caps.elements
patched_fits caps None adj rec all i h le fits = omega (arith, le, unsized rec.id adj all)
patched_fits caps (Some body) adj rec all i h le fits =
    let w = with-without rec all i h in
    let f = patched rec.id (Some body) adj in
    omega (
      arith,
      le,
      fits,
      sum-with size (f rec) _ _ (with-map f rec _ all w),
      sum-with size rec _ all w,
      own_size body adj rec,
      others_size rec.id (Some body) adj _ (list_all-filter_same (λ r. not (is_id rec.id r)) all),
    )

content_patched : (shape : Shape) (caps : Caps) (content : Content) (id : EntryId) (body adj : Option (List ℕ))
    → IsContent shape caps content
    → sum_by size (map (patched id body adj) (all_records content.lists)) ≤ caps.elements → IsContent
    shape caps (record content { lists = map (λ records. map (patched id body adj) records) content.lists })
content_patched shape caps content id body adj is fits =
    let f = patched id body adj in
    let all = all_records content.lists in
    let e = all-map f content.lists in
    record {
      headers = length-map content.lists (λ (records : List Record). map f records) ∙ is.headers;
      limits = is.limits;
      locks = is.locks;
      one_for_id = rw e (pairwise-map ids_apart f (λ rec other. refl) all ∙ is.one_for_id);
      given_ids = rw e (list_all-map (is_given content.next) f all ∙ is.given_ids);
      one_for_name = rw e (pairwise-map names_apart f (λ rec other. refl) all ∙ is.one_for_name);
      known = rw e (list_all-map (is_known (refs_of shape.kind)) f all ∙ is.known);
      ordered = grind (arith, list_all-map, list_all_weaker, pairwise-map);
      entries = rw e (omega (arith, length-map all f, is.entries));
      elements = rw e fits;
      watch = is.watch;
      within = is.within;
    }

pub content-update : (shape : Shape) (caps : Caps) (content : Content)
    (by : ConnId) (at : At) (body adj : Option (List ℕ)) (version : Option ℕ) (cond : Option Cond)
    → IsContent shape caps content → first_refusal (update.causes shape caps content by at body version cond) ≡ None
    → IsContent shape caps (update.after content at body adj)
content-update shape caps content by at body adj version cond is h =
    let none = none_hold (update.causes shape caps content by at body version cond) h in
    let rec = the_record content.lists at in
    let all = all_records content.lists in
    let i = the_record-in content.lists at none.1.1.1.1.0 in
    let each = only_one rec i.others all i.with_it is.one_for_id in
    subst (λ (l : Lists). IsContent shape caps (record content { lists = l })) (sym (agree_lists body adj rec
    content.lists each)) (content_patched shape caps content rec.id body adj is (patched_fits caps body adj rec all i
    is.one_for_id is.elements (elements_fit caps (elements_of body) (records_without rec.id all) none.1.1.1.1.1.1.0)))

-- ---- DELETE

pub ordered_without : (id : EntryId) (lists : Lists) → list_all (pairwise may_precede) lists ≡ true
    → list_all (pairwise may_precede) (lists_without id lists) ≡ true
ordered_without id lists h = grind (arith, list_all-map, list_all_weaker, pairwise-filter)

pub content-without : (shape : Shape) (caps : Caps) (content : Content) (id : EntryId)
    → IsContent shape caps content → IsContent shape caps (record content { lists = lists_without id content.lists })
content-without shape caps content id is = grind (
  arith,
  all-without,
  length-map,
  pairwise-filter,
  list_all-filter,
  ordered_without,
  length-filter-le,
  sum_by-filter-le,
)

-- ---- MOVE

moved_known : (refs : Refs) (key : Option Key16) (rec : Record)
    → new_key_refusal refs key ≡ None → is_known refs rec ≡ true → is_known refs (move.with_new_key key rec) ≡ true
moved_known refs None rec h known = known
moved_known Refs.Keys (Some key) rec h known = grind (arith, and_parts)
moved_known _ (Some key) rec h known = absurd (cc)

pub content-move : (shape : Shape) (caps : Caps) (content : Content) (by : ConnId) (at : At)
    (header : ℕ) (head : Bool) (key : Option Key16) (version : Option ℕ) (cond : Option Cond)
    → IsContent shape caps content → first_refusal (move.causes shape content by at header key version cond) ≡ None
    → IsContent shape caps (move.after content at header head key)
content-move shape caps content by at header head key version cond is h =
    let none = none_hold (move.causes shape content by at header key version cond) h in
    let old = the_record content.lists at in
    let rec = move.with_new_key key old in
    let all = all_records content.lists in
    let rest = records_without old.id all in
    let left = lists_without old.id content.lists in
    let records = insertion (stands_before head rec) rec (records_of left header) in
    let few : length left ≡ length content.lists = length-map content.lists (records_without old.id) in
    let within : header < length left =
    omega (arith, header_there (headers_of shape.kind) header none.1.1.1.1.1.1.0, is.headers, few) in
    let w = with-without old all (the_record-in content.lists at none.1.1.1.1.0) is.one_for_id in
    let v : IsWith rec rest (all_records (with_record head header rec left)) =
    grind (arith, IsWith, all-without, with-records, with-insertion) in
    let ordered = ordered_without old.id content.lists is.ordered in
    record {
      headers = length-set left header records ∙ few ∙ is.headers;
      limits = is.limits;
      locks = is.locks;
      one_for_id = pairwise-with ids_apart rec rest _ v (pairwise-filter ids_apart _ all is.one_for_id)
          (with-pairwise ids_apart ids_apart-sym old rest all w is.one_for_id);
      given_ids = all-with (is_given content.next) rec rest _ v (with-all (is_given content.next) old rest all w
          is.given_ids) (list_all-filter (is_given content.next) _ all is.given_ids);
      one_for_name = pairwise-with names_apart rec rest _ v (pairwise-filter names_apart _ all is.one_for_name)
          (with-pairwise names_apart names_apart-sym old rest all w is.one_for_name);
      known = all-with (is_known (refs_of shape.kind)) rec rest _ v (moved_known _ key old none.1.1.1.1.1.1.1.0
          (with-all (is_known (refs_of shape.kind)) old rest all w is.known)) (list_all-filter _ _ all is.known);
      ordered = grind (arith, each-records, ordered-with, one-records);
      entries = omega (arith, length-with rec rest _ v, length-with old rest all w, is.entries);
      elements = omega (arith, sum-with size rec rest _ v, sum-with size old rest all w, is.elements);
      watch = is.watch;
      within = is.within;
    }

-- ---- limits, list locks and monitors

same_lists : (shape : Shape) (caps : Caps) (content : Content) (limits : List ℕ) (locks : List (Option ConnId))
    (monitors : List watched.Monitor) → IsContent shape caps content → length limits ≡ headers_of shape.kind
    → length locks ≡ locks_of shape.kind → AreMonitors monitors → list_all (is_within shape) monitors ≡ true
    → IsContent shape caps (record content { limits = limits; locks = locks; monitors = monitors })
same_lists shape caps content limits locks monitors is n m are within = grind arith

pub content-locks : (shape : Shape) (caps : Caps) (content : Content) (lock : ℕ) (holder : Option ConnId)
    → IsContent shape caps content → IsContent shape caps (record content { locks = set content.locks lock holder })
content-locks shape caps content lock holder is = grind (arith, same_lists, length-set)

pub content-monitor : (shape : Shape) (caps : Caps) (content : Content) (by : ConnId) (header index : ℕ)
    → IsContent shape caps content → first_refusal (monitor.causes shape content by header index) ≡ None
    → IsContent shape caps (monitor.after content by header index)
content-monitor shape caps content by header index is h =
    let none = none_hold (monitor.causes shape content by header index) h in
    same_lists shape caps content content.limits content.locks (monitors_with by index header content.monitors)
    is is.limits is.locks (monitors-with by index header content.monitors is.watch)
    (grind (arith, all-monitors_with, and_from, below_test, header_there, index_there))

content_fewer : (shape : Shape) (caps : Caps) (content : Content) (q : watched.Monitor → Bool)
    (locks : List (Option ConnId)) → IsContent shape caps content → length locks ≡ length content.locks
    → IsContent shape caps (record content { locks = locks; monitors = filter q content.monitors })
content_fewer shape caps content q locks is same =
    same_lists shape caps content content.limits locks (filter q content.monitors) is is.limits (same ∙ is.locks)
    (monitors-filter q content.monitors is.watch) (list_all-filter (is_within shape) q content.monitors is.within)

pub content-unmonitor : (shape : Shape) (caps : Caps) (content : Content) (by : ConnId) (header : ℕ)
    → IsContent shape caps content → IsContent shape caps (unmonitor.after content by header)
content-unmonitor shape caps content by header is =
    content_fewer shape caps content (λ m. not (is_for by header m)) content.locks is refl

as_many : (conn : ConnId) (keep : Bool) (locks : List (Option ConnId))
    → length (cond keep locks (map (holder_without conn) locks)) ≡ length locks
as_many conn true locks = refl
as_many conn false locks = length-map locks (holder_without conn)

pub content-leave : (shape : Shape) (caps : Caps) (content : Content) (conn : ConnId) (keep : Bool)
    → IsContent shape caps content → IsContent shape caps (content_without content conn keep)
content-leave shape caps content conn keep is = content_fewer shape caps content (λ m. not (is_of conn m))
    (cond keep content.locks (map (holder_without conn) content.locks)) is (as_many conn keep content.locks)

-- ---- every command

pub content-done : (shape : Shape) (caps : Caps) (content : Content) (by : ConnId) (cmd : ListCmd) → IsContent
    shape caps content → cause shape caps content by cmd ≡ None → IsContent shape caps (done content by cmd).state
content-done shape caps content by (Write header head name key body adj cond) is h =
    content-write shape caps content by header head name key body adj cond is h
content-done shape caps content by (Update at body adj version cond) is h =
    content-update shape caps content by at body adj version cond is h
content-done shape caps content by (Move at header head key version cond) is h =
    content-move shape caps content by at header head key version cond is h
content-done shape caps content by (Delete at version cond) is h =
    content-without shape caps content (the_record content.lists at).id is
content-done shape caps content by (LockSet lock) is h = content-locks shape caps content lock (Some by) is
content-done shape caps content by (LockReset lock) is h = content-locks shape caps content lock None is
content-done shape caps content by (SetLimit header n) is h = grind (arith, same_lists, length-set)
content-done shape caps content by (Monitor header index) is h =
    content-monitor shape caps content by header index is h
content-done shape caps content by (Unmonitor header) is h = content-unmonitor shape caps content by header is
content-done shape caps content by _ is h = is
