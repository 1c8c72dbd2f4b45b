-- The bits that connectors were told are those that stand.
use Rattle.std.specs.Prelude.{ℕ, Bool, IsTrue, not, List}
use Rattle.std.specs.List.{list_all}
use Rattle.list_store.specs.Lists.{Lists}
use Rattle.list_watch.specs.declared.monitors.Watched.{Watched}
use Rattle.list_watch.specs.Ends.{differs, is_turned}
use Rattle.list_model.specs.Contents.{has_records}

-- a connector was told whether the header that it monitors has records
abbrev pub is_told : Lists → Watched → Bool
is_told lists row = not (differs row.full (has_records lists row.monitor.header))

abbrev pub AreTold : Lists → List Watched → Type 0
AreTold lists rows = IsTrue (list_all (is_told lists) rows)

-- those that monitor a header were told whether it has records
abbrev pub AreToldOf : ℕ → Bool → List Watched → Type 0
AreToldOf header full rows = IsTrue (list_all (λ row. not (is_turned header full row)) rows)
