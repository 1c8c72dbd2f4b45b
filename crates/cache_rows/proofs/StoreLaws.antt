-- Rows whose data lie in a pool, as they come and go.
use Rattle.cache_rows.proofs.Imports.{arith, ◌≡◌, ℕ, Bool, true, false, cond, List, [], ◌∷◌, set, slice_get, Option, Some, None, option_map, refl, sym, ap, ◌∙◌, subst, get_or-set_other, false≢true, get_or_from_slice_get, Name16, ConnId, same_name, Chain, get-set_other, same_name-eq, DirRow, row_at, let_go, Writes, CacheItem, without_hold, Label, item_with, row_of_label, body_of, body_in, item_in, entries_in, item_at, chains_without, HasBytes, HasData, chain_of, head_of, AreStored}

abbrev Chains : Type 0
Chains = List (Option (List ℕ))

abbrev Rows : Type 0
Rows = Name16 → Option DirRow

-- ---- a change at a place where other data begin

item_set : (chains : Chains) (row : Option DirRow) (at : ℕ) (o : Option (List ℕ)) → (head_of (chain_of row) ≡ Some at
    → ⊥) → option_map (item_in (set chains at o)) row ≡ option_map (item_in chains) row
item_set chains None at o away = refl
item_set chains (Some row) at o away = grind (arith, get_or-set_other)

abbrev pub IsUnused : Rows → ℕ → Type 0
IsUnused rows at = (name : Name16) → head_of (chain_of (rows name)) ≡ Some at → ⊥

stored_set : (chains : Chains) (rows : Rows) (at : ℕ) (o : Option (List ℕ)) → IsUnused rows at
    → AreStored chains rows → AreStored (set chains at o) rows
stored_set chains rows at o unused is = grind (arith, get-set_other)

no_head : (at : ℕ) → head_of None ≡ Some at → ⊥
no_head at e = cc

-- ---- a row goes

left_head : (rows next : Rows) (name q : Name16) (at : ℕ) → Writes rows name None next
    → head_of (chain_of (next q)) ≡ Some at → (same_name name q ≡ false) × (head_of (chain_of (rows q)) ≡ Some at)
left_head rows next name q at writes e = grind (arith, no_head)

unused_less : (chains : Chains) (rows next : Rows) (name : Name16) (at : ℕ) → AreStored chains rows
    → Writes rows name None next → head_of (chain_of (rows name)) ≡ Some at → IsUnused next at
unused_less chains rows next name at is writes e q f = grind (arith, left_head, false≢true)

items_same : (chains : Chains) (rows next : Rows) (name : Name16) (row : Option DirRow) → Writes rows name row next
    → (q : Name16) → option_map (item_in chains) (next q)
    ≡ cond (same_name name q) (option_map (item_in chains) row) (option_map (item_in chains) (rows q))
items_same chains rows next name row writes q = grind arith

module _ (chains after : Chains) (rows next : Rows) (name : Name16) (stored : Option Chain)
    (is : AreStored chains rows) (writes : Writes rows name None next) (had : stored ≡ chain_of (rows name))
    (given : after ≡ chains_without stored chains) where
  unused_next : (chain : Chain) → stored ≡ Some chain → IsUnused next chain.head
  unused_next chain e = unused_less chains rows next name chain.head is writes (ap head_of (sym had ∙ e))

  pub ended_stored : AreStored after next
  ended_stored = grind (arith, stored_set, unused_next, left_head)

  pub ended_items : (q : Name16) → option_map (item_in after) (next q)
      ≡ cond (same_name name q) None (option_map (item_in chains) (rows q))
  ended_items q = grind (arith, items_same, item_set, unused_next)

-- the data of a row
pub body_at : (chains : Chains) (row : Option DirRow)
    → body_of (option_map (item_in chains) row) ≡ body_in chains (chain_of row)
body_at chains None = refl
body_at chains (Some row) = refl

-- ---- a row comes

stored_more : (chains : Chains) (rows next : Rows) (name : Name16) (row : DirRow) → AreStored chains rows
    → HasData chains row.stored → ((at : ℕ) → head_of row.stored ≡ Some at → IsUnused rows at)
    → Writes rows name (Some row) next → AreStored chains next
stored_more chains rows next name row is has unused writes = grind (arith, here, both)
  where
    here : (q : Name16) (b : Bool) → next q ≡ cond b (Some row) (rows q) → HasData chains (chain_of (next q))
    here q true e = subst (λ o. HasData chains (chain_of o)) (sym e) has
    here q false e = subst (λ o. HasData chains (chain_of o)) (sym e) (is.held q)

    first : (q : Name16) (o : Option DirRow) (at : ℕ) → next q ≡ o → head_of (chain_of (next q)) ≡ Some at
        → head_of (chain_of o) ≡ Some at
    first q o at e h = sym (ap (λ o. head_of (chain_of o)) e) ∙ h

    both : (q p : Name16) (at : ℕ) (b c : Bool) → same_name name q ≡ b → same_name name p ≡ c
        → next q ≡ cond b (Some row) (rows q) → next p ≡ cond c (Some row) (rows p)
        → head_of (chain_of (next q)) ≡ Some at → head_of (chain_of (next p)) ≡ Some at → same_name q p ≡ true
    both q p at true true sq sp e f h k = subst (λ (n : Name16). same_name n p ≡ true) (same_name-eq name q sq) sp
    both q p at true false sq sp e f h k = absurd (unused at (first q (Some row) at e h) p (first p (rows p) at f k))
    both q p at false true sq sp e f h k = absurd (unused at (first p (Some row) at f k) q (first q (rows q) at e h))
    both q p at false false sq sp e f h k = is.apart q p at (first q (rows q) at e h) (first p (rows p) at f k)

module _ (chains after : Chains) (rows next : Rows) (label : Label) (chain : Chain) (bytes : List ℕ)
    (is : AreStored chains rows) (fresh : slice_get chains chain.head ≡ Some None)
    (put : after ≡ set chains chain.head (Some bytes)) (has : HasBytes after chain bytes)
    (writes : Writes rows label.name (Some (row_of_label label (Some chain))) next) where
  unused : IsUnused rows chain.head
  unused = grind (arith, no_head)

  pub written_stored : AreStored after next
  written_stored = stored_more after rows next label.name (row_of_label label (Some chain)) (subst (λ l. AreStored l
      rows) (sym put) (stored_set chains rows chain.head (Some bytes) unused is)) (bytes, has) away writes
    where
      away : (at : ℕ) → head_of (Some chain) ≡ Some at → IsUnused rows at
      away at e = let same : chain.head ≡ at = cc in subst (λ k. IsUnused rows k) same unused

  pub written_items : (q : Name16) → option_map (item_in after) (next q)
      ≡ cond (same_name label.name q) (Some (item_with label (Some bytes))) (option_map (item_in chains) (rows q))
  written_items q = grind (arith, items_same, get_or_from_slice_get, item_set, unused)

-- ---- a row with the data that it had

pub writes_twice : {X : Type 0} (before middle after : Name16 → Option X) (name : Name16) (row : X)
    → Writes before name None middle → Writes middle name (Some row) after → Writes before name (Some row) after
writes_twice before middle after name row e f q = grind arith

module _ (chains : Chains) (rows next : Rows) (label : Label)
    (writes : Writes rows label.name (Some (row_of_label label (chain_of (rows label.name)))) next) where
  pub set_items : (q : Name16) → option_map (item_in chains) (next q) ≡ cond (same_name label.name q) (Some (item_with
      label (body_of (option_map (item_in chains) (rows label.name))))) (option_map (item_in chains) (rows q))
  set_items q = grind (arith, items_same)

-- ---- castout locks are released

let_go_item : (chains : Chains) (conn : ConnId) (row : Option DirRow) → option_map (item_in chains)
    (option_map (let_go conn) row) ≡ option_map (without_hold conn) (option_map (item_in chains) row)
let_go_item chains conn None = refl
let_go_item chains conn (Some row) = refl

module _ (chains : Chains) (rows next : Rows) (conn : ConnId)
    (released : (q : Name16) → next q ≡ option_map (let_go conn) (rows q)) where
  pub released_items : (q : Name16) → option_map (item_in chains) (next q)
      ≡ option_map (without_hold conn) (option_map (item_in chains) (rows q))
  released_items q = ap (option_map (item_in chains)) (released q) ∙ let_go_item chains conn (rows q)

-- ---- what is seen of the entries

-- one more at the front of what is looked up
pub mapped : {X Y : Type 0} (f : X → Y) (b : Bool) (x : X) (o : Option X) (r : Option Y) → r ≡ option_map f o
    → cond b (Some (f x)) r ≡ option_map f (cond b (Some x) o)
mapped f true x o r e = refl
mapped f false x o r e = e

pub shown_at : (chains : Chains) (entries : List (List ℕ × DirRow)) (q : Name16)
    → row_at (entries_in chains entries) q ≡ item_at chains entries q
shown_at chains [] q = refl
shown_at chains (e ∷ es) q = grind (arith, mapped, shown_at chains es q)

pub shown_writes : (chains after : Chains) (entries next : List (List ℕ × DirRow)) (name : Name16)
    (row : Option CacheItem) → Writes (item_at chains entries) name row (item_at after next)
    → Writes (row_at (entries_in chains entries)) name row (row_at (entries_in after next))
shown_writes chains after entries next name row writes q = grind (arith, shown_at)
