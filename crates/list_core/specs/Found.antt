-- Records that commands name.
use Rattle.std.specs.Prelude.{◌≡◌, ℕ, List, Option, true, is_some}
use Rattle.std.specs.Option.{option_or}
use Rattle.cf_types.specs.declared.list_commands.At.{At}
use Rattle.list_model.specs.ListStore.Record.{Record}
use Rattle.list_model.specs.ListStore.Lists.{Lists, record_of}
use Rattle.list_model.specs.Records.{next_version}
use Rattle.list_kept.specs.declared.bare.Bare.{Bare}
use Rattle.list_model.specs.Lists.{record_at, the_record}

-- a record is named, and it is the one of its id
pub record IsFound (lists : Lists) (at : At) : Type 0 where
  pub there : is_some (record_at lists at) ≡ true
  pub by_id : record_of (the_record lists at).id lists ≡ record_at lists at

-- a record of the next version, with this adjunct if one is given, but for its data
abbrev pub updated_with : Option (List ℕ) → Record → Bare
updated_with adj rec =
    record {
      id = rec.id;
      version = next_version rec.version;
      name = rec.name;
      key = rec.key;
      adj = option_or adj rec.adj;
    }
