-- What contracts see of the word table and of its tokens.
use Rattle.std.specs.Prelude.{◌≡◌, ◌*◌, ◌^◌, ◌<◌, ◌≤◌, ◌⊎◌, ℕ, suc, List, [], true, false, max, All}
use Rattle.atomic_table.specs.Table.{Me}
use Rattle.atomic_table.specs.declared.shared.Seat.{Seat}
use Rattle.vec_words.specs.View.{first_view}
use Rattle.atomic_table.specs.Seated.{TableId}
use Rattle.vec_words.specs.declared.logged.Logged.{Logged}
use Rattle.vec_words.specs.declared.logged.Sight.{Sight}
use Rattle.vec_words.specs.declared.view.View.{View}
use Rattle.vec_words.specs.declared.view.Shape.{Shape}
use Rattle.vec_words.specs.Logged.{count_of, flying_of, words_of, calls_of, IsOrderly, IsIssued, IsHonest}

-- a word table: which it is, its connectors, and the bits of each one's vector
pub record WordTable : Type 0 where
  pub id : TableId
  pub conns : ℕ
  pub len : ℕ

-- a caller's pass: the number that it knows, the number that it saw complete, its answered calls, and its tests
pub record PassSeen (D : Type 0) : Type 0 where
  pub table : WordTable
  pub owner : ℕ
  pub known : ℕ
  pub sure : ℕ
  pub mine : List (ℕ × D)
  pub tests : List Sight

pub record NoteSeen : Type 0 where
  pub table : WordTable
  pub known : ℕ
  pub sure : ℕ

-- the engine's seat: the number in flight, 0 where there is none, and the log of all stores and commits
pub record SeatSeen (D : Type 0) : Type 0 where
  pub table : WordTable
  pub number : ℕ
  pub log : List (Logged D)

module _ {D : Type 0} where
  -- the pass of a caller that has seen nothing
  abbrev pub new_pass : WordTable → ℕ → PassSeen D
  new_pass table owner = record { table = table; owner = owner; known = 0; sure = 0; mine = []; tests = [] }

  -- the pass once it has seen this number complete
  abbrev pub learned_pass : ℕ → PassSeen D → PassSeen D
  learned_pass count pass = record pass { known = max pass.known count; sure = max pass.sure count }

  -- What the engine's seat shows of a pass: each test told the truth, the log has its owner's calls, the number that
  -- it knows is none, committed or in flight, and what it saw complete is at most that number and the count.
  pub record IsShown (seat : SeatSeen D) (pass : PassSeen D) : Type 0 where
    pub tests : All (IsHonest seat.log seat.number pass.table.len pass.owner) pass.tests
    pub mine : pass.mine ≡ calls_of pass.owner seat.log
    pub known : IsIssued seat.log seat.number pass.known
    pub seen : pass.sure ≤ count_of seat.log
    pub ordered : pass.sure ≤ pass.known
    pub owner : pass.owner ≤ pass.table.conns

  -- The number in flight, where there is one, is above the count. The stores since the last commit carry it, and the
  -- log is orderly beside it.
  pub record IsBegun (number : ℕ) (log : List (Logged D)) : Type 0 where
    pub above : 0 < number → count_of log < number
    pub carried : (flying_of log ≡ 0) ⊎ (flying_of log ≡ number)
    pub orderly : IsOrderly log number

  -- the values that contracts see, of the seats that the tokens hold
  abbrev pub table_seen : TableId → View D → WordTable
  table_seen id v = record { id = id; conns = v.conns; len = v.len }

  abbrev pub pass_seen : TableId → View D → PassSeen D
  pass_seen id v = record {
    table = table_seen id v;
    owner = v.owner;
    known = v.known;
    sure = v.sure;
    mine = v.mine;
    tests = v.tests;
  }

  abbrev pub note_seen : TableId → View D → NoteSeen
  note_seen id v = record { table = table_seen id v; known = v.known; sure = v.sure }

  abbrev pub seat_seen : TableId → ℕ → View D → SeatSeen D
  seat_seen id number v = record { table = table_seen id v; number = number; log = v.log }

  -- what the fields of each token have to do with its seat
  pub record IsPass (owner known sure : ℕ) (me : Me ℕ (View D)) : Type 0 where
    pub passes : me.0.passes ≡ true
    pub owner_is : owner ≡ me.0.owner
    pub known_is : known ≡ me.0.known
    pub sure_is : sure ≡ me.0.sure
    pub ordered : sure ≤ known
    pub owned : me.0.owner ≤ me.0.conns
    pub no_log : me.0.keeps ≡ false
    pub no_slot : me.1 ≡ []

  pub record IsNote (known sure : ℕ) (me : Me ℕ (View D)) : Type 0 where
    pub known_is : known ≡ me.0.known
    pub sure_is : sure ≡ me.0.sure
    pub ordered : sure ≤ known
    pub no_slot : me.1 ≡ []

  pub record IsEngineSeat (number : ℕ) (me : Me ℕ (View D)) : Type 0 where
    pub keeps : me.0.keeps ≡ true
    pub begun : IsBegun number me.0.log
    pub no_slot : me.1 ≡ []

-- what the fields of the word table have to do with one another
pub record IsVectors (conns len span : ℕ) (shape : Shape) (id : TableId) : Type 0 where
  pub conns_is : shape.conns ≡ conns
  pub len_is : shape.len ≡ len
  pub span_is : span ≡ words_of len
  pub fits : len < 2 ^ 32
  pub words_is : id.words ≡ suc (conns * words_of len)

module _ {D : Type 0} where
  -- the table's first seat, which has made the passes below this number
  pub record IsFirst (table : WordTable) (seat : Seat ℕ (View D)) (next : ℕ) : Type 0 where
    pub table_is : seat.table_id ≡ table.id
    pub view_is : seat.me.0 ≡ record (first_view (record { conns = table.conns; len = table.len })) { next = next }
    pub no_slot : seat.me.1 ≡ []
