-- The items of a copy: the controls, where they differ from those of an empty content, and then the
-- records by header and place.
use Rattle.std.specs.Prelude.{ℕ, ◌+◌, ◌-◌, Bool, not, ◌||◌, ◌==◌, if◌then◌else◌, List, [], ◌∷◌, ◌++◌, length, is_some, map, sum_by}
use Rattle.std.specs.List.{list_any}
use Rattle.cf_types.specs.declared.forms.Caps.{Caps}
use Rattle.cf_types.specs.declared.numbers.ConnId.{ConnId}
use Rattle.engine_api.specs.declared.shapes.Shape.{Shape}
use Rattle.list_store.specs.Record.{Record}
use Rattle.list_store.specs.Lists.{Lists, records_of, with_records, count_of}
use Rattle.list_watch.specs.declared.monitors.Monitor.{Monitor}
use Rattle.list_model.specs.declared.items.ListItem.{ListItem}
use Rattle.list_model.specs.declared.items.ListItem.TheVariants.{Controls, Row}
use Rattle.list_model.specs.Records.{elements_of}
use Rattle.list_model.specs.Lists.{first_records}
use Rattle.list_model.specs.Contents.{Content, no_content}

-- a monitor as three numbers
abbrev pub Triple : Type 0
Triple = ConnId × ℕ × ℕ

abbrev pub triple_of : Monitor → Triple
triple_of monitor = (monitor.conn, monitor.index, monitor.header)

abbrev pub monitor_of : Triple → Monitor
monitor_of watch = record { conn = watch.0; index = watch.1; header = watch.2 }

-- an id was given, a limit was set, a lock is held, or a monitor stands
abbrev pub has_controls : Shape → Content → Bool
has_controls shape content =
    not (content.next == 1) || list_any (λ limit. not (limit == shape.caps.entries)) content.limits
    || list_any is_some content.locks || not (length content.monitors == 0)

abbrev pub controls_of : Content → ListItem
controls_of content =
    Controls content.next content.limits content.locks (map triple_of content.monitors)

-- the records of headers from this one on
abbrev pub row_of : ℕ → Record → ListItem
row_of header rec = Row header rec.id rec.version rec.name rec.key rec.body rec.adj

abbrev pub rows_from : ℕ → Lists → List ListItem
rows_from header [] = []
rows_from header (records ∷ lists) = map (row_of header) records ++ rows_from (header + 1) lists

abbrev pub items_of : Shape → Content → List ListItem
items_of shape content =
    if has_controls shape content
    then controls_of content ∷ rows_from 0 content.lists
    else rows_from 0 content.lists

-- an item is put behind the others: the controls are taken over, and a record comes last in its
-- header
abbrev pub content_with : Content → ListItem → Content
content_with content (Controls next limits locks watches) =
    record {
      lists = content.lists;
      limits = limits;
      locks = locks;
      monitors = map monitor_of watches;
      next = next;
    }
content_with content (Row header id version name key body adj) =
    let rec : Record =
    record { id = id; version = version; name = name; key = key; body = body; adj = adj }
    in
    let records = records_of content.lists header in
    record content { lists = with_records content.lists header (records ++ rec ∷ []) }

-- the last item is taken away: the last record, or where there is none the controls
abbrev pub content_without_last : Shape → Content → Content
content_without_last shape content =
    if count_of content.lists == 0
    then record (no_content shape) { lists = content.lists }
    else record content { lists = first_records (count_of content.lists - 1) content.lists }

-- the entries and elements that items need
abbrev pub entries_for : ListItem → ℕ
entries_for (Controls next limits locks watches) = 0
entries_for (Row header id version name key body adj) = 1

abbrev pub elements_for : ListItem → ℕ
elements_for (Controls next limits locks watches) = 0
elements_for (Row header id version name key body adj) = elements_of body

abbrev pub need_of : List ListItem → Caps
need_of items = record { entries = sum_by entries_for items; elements = sum_by elements_for items }
