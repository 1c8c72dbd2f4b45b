-- Records with data that are given, and chains that records have.
use Rattle.std.specs.Prelude.{ℕ, IsTrue, List, Option, None, Some, is_none}
use Rattle.std.specs.List.{list_all}
use Rattle.std.specs.Option.{option_or}
use Rattle.cf_types.specs.declared.numbers.EntryId.{EntryId}
use Rattle.list_store.specs.Record.{Record}
use Rattle.list_kept.specs.declared.bare.Bare.{Bare}

abbrev pub with_data : Bare → Option (List ℕ) → Record
with_data bare body =
    record {
      id = bare.id;
      version = bare.version;
      name = bare.name;
      key = bare.key;
      body = body;
      adj = bare.adj;
    }

-- what has an id and nothing else
abbrev pub blank : EntryId → Bare
blank id = record { id = id; version = 0; name = None; key = None; adj = None }

-- with the data that are given, or else with those of the record that was there
abbrev pub renewed : Bare → Option (List ℕ) → Option Record → Record
renewed bare body None = with_data bare body
renewed bare body (Some old) = with_data bare (option_or body old.body)

-- no chain is without a record
abbrev pub AreUsed : List (Option (List ℕ)) → Type 0
AreUsed loose = IsTrue (list_all is_none loose)
