-- What a hand's notes tell of the locks that it holds.
use Rattle.lock_words.proofs.Imports.{◌≡◌, ◌≢◌, ◌==◌, ◌+◌, ◌*◌, ◌<◌, ℕ, suc, Bool, true, false, not, List, [], ◌∷◌, ◌++◌, length, set, get_or, filter, Option, Some, None, refl, sym, ap, ◌∙◌, subst, arith, get_or-set_same, get_or-set_other, length-set, All-push, dite, ℕ_discrete, Me, TableId, Hold, Reading, Grant, View, tally, held_as, noted, says_excl, hold, reading, grant, looked, granted, tried, released, Becomes, Size, IsHand, IsLocks, HandSeen, LocksSeen, hand_seen}
use Rattle.lock_words.proofs.Tallies.{one, tally-push, one-other, one-same, one-opposite, tally-released, tally-spared, held-as}

module _ (notes : List (Option Bool)) (table : TableId) (me : Me ℕ View) (hand : IsHand notes table me) where
  -- the notes tell how a word is held
  pub told : (word : ℕ) → held_as me.0.held word ≡ get_or notes word None
  told word = held-as word (get_or notes word None) me.0.held (hand.notes_are word false) (hand.notes_are word true)

  -- a word that isn't held counts nothing
  pub counts-none : (word : ℕ) (e : Bool) → held_as me.0.held word ≡ None → tally word e me.0.held ≡ 0
  counts-none word e none = hand.notes_are word e ∙ (ap (noted e) (sym (told word) ∙ none) ∙ nothing e)
    where
      nothing : (e : Bool) → noted e None ≡ 0
      nothing true = refl
      nothing false = refl

  -- a word that is held counts one
  pub counts-one : (word : ℕ) → held_as me.0.held word ≢ None
      → tally word false me.0.held + tally word true me.0.held ≡ 1
  counts-one word held = (λ i. hand.notes_are word false i + hand.notes_are word true i)
      ∙ go (get_or notes word None) (λ e. held (told word ∙ e))
    where
      go : (o : Option Bool) → o ≢ None → noted false o + noted true o ≡ 1
      go None h = absurd (h refl)
      go (Some true) h = refl
      go (Some false) h = refl

  -- what the note of a word says is taken off
  pub share-is : (word : ℕ) (said : Option Bool) (share : ℕ) → said ≡ get_or notes word None
      → share ≡ noted false said + noted true said * 9223372036854775808
      → share ≡ tally word false me.0.held + tally word true me.0.held * 9223372036854775808
  share-is word said share is e = grind arith

  pub hand-looked : (here : TableId) (after : Me ℕ View) (word value : ℕ)
      → here ≡ table → Becomes me (looked me.0 word value) after → IsHand notes here after
  hand-looked here after word value t b =
      subst (λ (x : TableId × Me ℕ View). IsHand notes x.0 x.1) (λ i. (sym t i, (sym b.0 i, sym b.1 i))) record {
        live = hand.live;
        alone = hand.alone;
        no_slot = hand.no_slot;
        length_is = hand.length_is;
        notes_are = hand.notes_are;
        read =
            All-push (λ (r : Reading). r.hand ≡ me.0.number) me.0.read (reading me.0.number word value) hand.read refl;
        ever = hand.ever;
      }

  pub hand-granted : (here : TableId) (after : Me ℕ View) (word value : ℕ) (excl : Bool) → word < length notes
      → held_as me.0.held word ≡ None → here ≡ table → Becomes me (granted (looked me.0 word value) word excl) after
      → IsHand (set notes word (Some excl)) here after
  hand-granted here after word value excl below none t b = subst (λ (x : TableId × Me ℕ View). IsHand (set
      notes word (Some excl)) x.0 x.1) (λ i. (sym t i, (sym b.0 i, sym b.1 i))) record {
        live = hand.live;
        alone = hand.alone;
        no_slot = hand.no_slot;
        length_is = ap suc (length-set notes word (Some excl)) ∙ hand.length_is;
        notes_are = counts;
        read =
            All-push (λ (r : Reading). r.hand ≡ me.0.number) me.0.read (reading me.0.number word value) hand.read refl;
        ever = All-push (λ (g : Grant). g.hand ≡ me.0.number) me.0.ever (grant me.0.number word excl) hand.ever refl;
      }
    where
      noted-here : (e d : Bool) → one word e (hold word d) ≡ noted e (Some d)
      noted-here true true = one-same word true
      noted-here false false = one-same word false
      noted-here true false = one-opposite word false
      noted-here false true = one-opposite word true

      counts : (k : ℕ) (e : Bool)
          → tally k e (me.0.held ++ hold word excl ∷ []) ≡ noted e (get_or (set notes word (Some excl)) k None)
      counts k e = tally-push k e me.0.held (hold word excl)
          ∙ dite (ℕ_discrete k word) (λ (same : k ≡ word). subst (λ j. tally j e me.0.held
          + one j e (hold word excl) ≡ noted e (get_or (set notes word (Some excl)) j None)) (sym same) (omega (
            arith,
            counts-none word e none,
            noted-here e excl,
            ap (noted e) (get_or-set_same notes word (Some excl) None below),
          ))) (grind (arith, one-other, get_or-set_other))

  pub hand-released : (here : TableId) (after : Me ℕ View) (word : ℕ) → word < length notes → here ≡ table
      → Becomes me (released me.0 word) after → IsHand (set notes word None) here after
  hand-released here after word below t b = grind (arith, length-set, counts)
    where
      nothing : (e : Bool) → noted e None ≡ 0
      nothing true = refl
      nothing false = refl

      counts : (k : ℕ) (e : Bool) → tally k e (filter (λ (x : Hold). not (x.word == word)) me.0.held)
          ≡ noted e (get_or (set notes word None) k None)
      counts k e = dite (ℕ_discrete k word) (λ (same : k ≡ word). subst (λ j. tally
          j e (filter (λ (x : Hold). not (x.word == word)) me.0.held) ≡ noted e (get_or (set notes word None) j None))
          (sym same) (tally-released word e me.0.held ∙ sym (grind (arith, get_or-set_same, nothing))))
          (λ (ne : k ≢ word). tally-spared word k e me.0.held ne
          ∙ hand.notes_are k e ∙ sym (ap (noted e) (get_or-set_other notes word k None None ne)))

-- a hand at the locks' table, as a call begins
pub at-locks : (notes : List (Option Bool)) (table : TableId)
    (me : Me ℕ View) (size : Size) (place : TableId) (room : List ℕ) (word : ℕ) (seen : HandSeen) (locks : LocksSeen)
    → IsHand notes table me → IsLocks size place room → hand_seen table (length notes) me.0 ≡ seen
    → record { table = place; words = size.words; hands = size.hands } ≡ locks → seen.table ≡ locks.table
    → word < locks.words → (table ≡ place) × (word < size.words) × (word < place.words) × (word < length notes)
at-locks notes table me size place room word seen locks hand its mine ours same below = grind arith

-- an exchange that found the value which it expected, or another
pub tried-won : (me after : Me ℕ View) (word old new found : ℕ) (excl : Bool) → found ≡ old → says_excl new ≡ excl
    → Becomes me (tried me.0 word old new found) after → Becomes me (granted (looked me.0 word found) word excl) after
tried-won me after word old new found excl same says b = grind arith

pub tried-lost : (me after : Me ℕ View) (word old new found : ℕ) → found ≢ old
    → Becomes me (tried me.0 word old new found) after → Becomes me (looked me.0 word found) after
tried-lost me after word old new found ne b = grind arith
