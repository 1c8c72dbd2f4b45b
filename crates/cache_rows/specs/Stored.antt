-- Rows whose data lie in a pool.
use Rattle.std.specs.Prelude.{◌≡◌, ℕ, ◌≤◌, true, List, length, map, slice_get, slice_index_or, slice_set, Option, Some, None, option_map, if◌then◌else◌}
use Rattle.cf_types.specs.declared.limits.TheConstants.{BODY_BYTES}
use Rattle.cf_types.specs.declared.names.Name16.{Name16}
use Rattle.cf_types.specs.Name.{same_name}
use Rattle.cf_types.specs.Stored.{elements_of}
use Rattle.cache_model.specs.CfPool.declared.chain.Chain.{Chain}
use Rattle.cache_model.specs.CacheDir.declared.row.DirRow.{DirRow}
use Rattle.cache_model.specs.CacheDir.RowMap.{row_at}
use Rattle.cache_model.specs.declared.items.CacheItem.{CacheItem}
use Rattle.cache_model.specs.Commands.Write.{rewrite}
use Rattle.cache_model.specs.Commands.Unlock.{is_rewritten}
use Rattle.cache_rows.specs.declared.label.Label.{Label}

-- ---- a row without its data

abbrev pub label_of : CacheItem → Label
label_of row = record { name = row.name; adj = row.adj; class = row.class; holder = row.holder; stg = row.stg }

abbrev pub item_with : Label → Option (List ℕ) → CacheItem
item_with label body =
    record {
      name = label.name;
      body = body;
      adj = label.adj;
      class = label.class;
      holder = label.holder;
      stg = label.stg;
    }

-- once data are written: where the row is held it is rewritten
abbrev pub label_written : Option ℕ → Option (List ℕ) → Label → Label
label_written class adj label =
    record label { adj = adj; class = class; holder = option_map rewrite label.holder }

-- once the row is held no more: unchanged, unless it was written
abbrev pub label_unlocked : Label → Label
label_unlocked label =
    record label { class = if is_rewritten label.holder then label.class else None; holder = None }

abbrev pub row_of_label : Label → Option Chain → DirRow
row_of_label label stored =
    record {
      name = label.name;
      stored = stored;
      adj = label.adj;
      class = label.class;
      holder = label.holder;
      stg = label.stg;
    }

-- the data of a row, and how many elements they take, where there is one
abbrev pub body_of : Option CacheItem → Option (List ℕ)
body_of None = None
body_of (Some row) = row.body

abbrev pub elements_of_row : Option CacheItem → ℕ
elements_of_row row = elements_of (body_of row)

-- ---- by the chains of a pool

abbrev pub body_in : List (Option (List ℕ)) → Option Chain → Option (List ℕ)
body_in chains None = None
body_in chains (Some chain) = slice_index_or chains chain.head None

abbrev pub item_in : List (Option (List ℕ)) → DirRow → CacheItem
item_in chains row =
    record {
      name = row.name;
      body = body_in chains row.stored;
      adj = row.adj;
      class = row.class;
      holder = row.holder;
      stg = row.stg;
    }

abbrev pub entries_in : List (Option (List ℕ)) → List (List ℕ × DirRow) → List (List ℕ × CacheItem)
entries_in chains entries = map (λ e. (e.0, item_in chains e.1)) entries

abbrev pub item_at : List (Option (List ℕ)) → List (List ℕ × DirRow) → Name16 → Option CacheItem
item_at chains entries name = option_map (item_in chains) (row_at entries name)

-- the chains once data are given back
abbrev pub chains_without : Option Chain → List (Option (List ℕ)) → List (Option (List ℕ))
chains_without None chains = chains
chains_without (Some chain) chains = slice_set chains chain.head None

-- a chain of the pool holds these data
pub record HasBytes (chains : List (Option (List ℕ))) (chain : Chain) (bytes : List ℕ) : Type 0 where
  pub there : slice_get chains chain.head ≡ Some (Some bytes)
  pub some : 1 ≤ length bytes
  pub few : length bytes ≤ BODY_BYTES

abbrev pub HasData : List (Option (List ℕ)) → Option Chain → Type 0
HasData chains None = Unit {0}
HasData chains (Some chain) = (bytes : List ℕ) × HasBytes chains chain bytes

-- ---- the rows of a directory and the pool

abbrev pub chain_of : Option DirRow → Option Chain
chain_of None = None
chain_of (Some row) = row.stored

-- the element at which data begin
abbrev pub head_of : Option Chain → Option ℕ
head_of None = None
head_of (Some chain) = Some chain.head

-- each row's data are a chain of the pool, and no two rows have one chain
pub record AreStored (chains : List (Option (List ℕ))) (rows : Name16 → Option DirRow) : Type 0 where
  pub held : (name : Name16) → HasData chains (chain_of (rows name))
  pub apart : (name other : Name16) (at : ℕ) → head_of (chain_of (rows name)) ≡ Some at
      → head_of (chain_of (rows other)) ≡ Some at → same_name name other ≡ true
