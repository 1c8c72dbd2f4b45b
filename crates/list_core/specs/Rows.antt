-- Items that are put in, one after another.
use Rattle.std.specs.Prelude.{◌≡◌, ℕ, ◌<◌, false, length, map}
use Rattle.std.specs.List.{list_any}
use Rattle.list_model.specs.ListStore.Lists.{Lists, all_records, is_id}
use Rattle.list_model.specs.ListWatch.declared.monitors.Watched.{Watched}
use Rattle.list_model.specs.ListWatch.Monitors.{AreMonitors}
use Rattle.list_model.specs.declared.items.ListItem.{ListItem}
use Rattle.list_model.specs.declared.items.ListItem.TheVariants.{Controls, Row}
use Rattle.list_model.specs.Contents.{Content, has_records}
use Rattle.list_model.specs.Items.{Triple, monitor_of, content_with}
use Rattle.list_kept.specs.Orderly.{IsOrderly}

-- a monitor whose connector was told whether its header has records
abbrev pub told_row : Lists → Triple → Watched
told_row lists watch =
    record { monitor = monitor_of watch; full = has_records lists (monitor_of watch).header }

-- a record has a header and an id of its own, and leaves the records in order and in so many
-- elements; monitors are apart
abbrev pub IsPlaceable : ℕ → Content → ListItem → Type 0
IsPlaceable elements content (Controls next limits locks watches) =
    AreMonitors (map monitor_of watches)
IsPlaceable elements content (Row header id version name key body adj) =
    (header < length content.lists)
    × (list_any (is_id id) (all_records content.lists) ≡ false)
    × IsOrderly elements (content_with content (Row header id version name key body adj)).lists
