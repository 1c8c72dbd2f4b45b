-- What a list structure contains, and what every content keeps.
use Rattle.std.specs.Prelude.{◌≡◌, ℕ, ◌≤◌, Bool, IsTrue, false, not, ◌&&◌, ◌==◌, nat_lt, if◌then◌else◌, List, [], length, Option, Some, None, map, replicate, get_or}
use Rattle.std.specs.List.{list_all}
use Rattle.cf_types.specs.declared.forms.Caps.{Caps}
use Rattle.cf_types.specs.declared.forms.Kind.{Kind}
use Rattle.cf_types.specs.declared.forms.Kind.TheVariants as kind
use Rattle.cf_types.specs.declared.forms.Refs.{Refs}
use Rattle.cf_types.specs.declared.forms.Refs.TheVariants.{Nothing}
use Rattle.cf_types.specs.declared.numbers.ConnId.{ConnId}
use Rattle.engine_api.specs.declared.shapes.Shape.{Shape}
use Rattle.cf_lists.specs.Pairwise.{pairwise}
use Rattle.list_store.specs.Record.{Record}
use Rattle.list_store.specs.Lists.{Lists, AreApart, records_of, all_records, count_of}
use Rattle.list_watch.specs.declared.monitors.Monitor.{Monitor}
use Rattle.list_watch.specs.Monitors as watch
use Rattle.list_watch.specs.Monitors.{monitors_of_others, AreMonitors}
use Rattle.list_model.specs.Records.{elements_in, is_known, names_apart, may_precede}

-- for each header its records and its limit; for each list lock who holds it; the monitors; the id
-- that the next record gets
pub record Content : Type 0 where
  pub lists : Lists
  pub limits : List ℕ
  pub locks : List (Option ConnId)
  pub monitors : List Monitor
  pub next : ℕ

-- headers, list locks and what records are known by, of the kinds that aren't lists none
abbrev pub headers_of : Kind → ℕ
headers_of kind.Cache = 0
headers_of (kind.List headers locks refs) = headers
headers_of kind.Lock = 0

abbrev pub locks_of : Kind → ℕ
locks_of kind.Cache = 0
locks_of (kind.List headers locks refs) = locks
locks_of kind.Lock = 0

abbrev pub refs_of : Kind → Refs
refs_of kind.Cache = Nothing
refs_of (kind.List headers locks refs) = refs
refs_of kind.Lock = Nothing

-- no records and monitors; each limit is the entries that the policy states, nobody holds a lock, and
-- ids begin at 1
abbrev pub no_content : Shape → Content
no_content shape =
    record {
      lists = replicate (headers_of shape.kind) [];
      limits = replicate (headers_of shape.kind) shape.caps.entries;
      locks = replicate (locks_of shape.kind) None;
      monitors = [];
      next = 1;
    }

-- a monitor of a header that is there, at an index of the vector
abbrev pub is_within : Shape → Monitor → Bool
is_within shape monitor =
    nat_lt monitor.header (headers_of shape.kind) && nat_lt monitor.index shape.vector

-- an id that was given: it is before the next one
abbrev pub is_given : ℕ → Record → Bool
is_given next rec = nat_lt rec.id.0 next

-- records with ids and names of their own, by key in each header, within the capacity
pub record IsContent (shape : Shape) (caps : Caps) (content : Content) : Type 0 where
  pub headers : length content.lists ≡ headers_of shape.kind
  pub limits : length content.limits ≡ headers_of shape.kind
  pub locks : length content.locks ≡ locks_of shape.kind
  pub one_for_id : AreApart content.lists
  pub given_ids : IsTrue (list_all (is_given content.next) (all_records content.lists))
  pub one_for_name : IsTrue (pairwise names_apart (all_records content.lists))
  pub known : IsTrue (list_all (is_known (refs_of shape.kind)) (all_records content.lists))
  pub ordered : IsTrue (list_all (pairwise may_precede) content.lists)
  pub entries : count_of content.lists ≤ caps.entries
  pub elements : elements_in (all_records content.lists) ≤ caps.elements
  pub watch : AreMonitors content.monitors
  pub within : IsTrue (list_all (is_within shape) content.monitors)

-- who holds a list lock
abbrev pub holder_of : ℕ → List (Option ConnId) → Option ConnId
holder_of lock locks = get_or locks lock None

abbrev pub is_held_by : ConnId → Option ConnId → Bool
is_held_by conn None = false
is_held_by conn (Some holder) = holder.0 == conn.0

-- a header has records
abbrev pub has_records : Lists → ℕ → Bool
has_records lists header = not (length (records_of lists header) == 0)

-- the bit of a connector's vector at an index stands exactly where the connector monitors there a
-- header that has records
abbrev pub stands : Content → ConnId → ℕ → Bool
stands content conn index = watch.stands content.monitors (has_records content.lists) conn index

-- a connector lets go of a list lock
abbrev pub holder_without : ConnId → Option ConnId → Option ConnId
holder_without conn holder = if is_held_by conn holder then None else holder

-- a connector departs: its monitors end, and its list locks are released unless they are kept for
-- it
abbrev pub content_without : Content → ConnId → Bool → Content
content_without content conn keep =
    record content {
      monitors = monitors_of_others conn content.monitors;
      locks = if keep then content.locks else map (holder_without conn) content.locks;
    }
