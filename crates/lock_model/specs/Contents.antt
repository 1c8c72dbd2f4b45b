-- What a lock structure contains, and what every content keeps.
use Rattle.std.specs.Prelude.{Contains, ℕ, ◌+◌, ◌-◌, ◌≤◌, Bool, IsTrue, not, if◌then◌else◌, List, [], ◌∷◌, ◌++◌, length, Option, Some, None, map, take, sum_by}
use Rattle.std.specs.List.{list_all}
use Rattle.cf_types.specs.declared.forms.Caps.{Caps}
use Rattle.cf_types.specs.Resources.{same_resource}
use Rattle.lock_queue.specs.declared.waiters.Waiter.{Waiter}
use Rattle.lock_queue.specs.Waiters.{IsQueue}
use Rattle.lock_model.specs.declared.items.LockItem.{LockItem}
use Rattle.lock_model.specs.declared.items.LockItem.TheVariants.{Owner, Waits}
use Rattle.lock_model.specs.Interests.{Interest, AreInterests, has_interest, are_compatible}

pub record Content : Type 0 where
  pub interests : List Interest
  pub waiters : List Waiter

abbrev pub no_content : Content
no_content = record { interests = []; waiters = [] }

-- record data, of interests and waiters
abbrev pub records_of : Option (List ℕ) → ℕ
records_of None = 0
records_of (Some rec) = 1

abbrev pub records_owned : List Interest → ℕ
records_owned interests = sum_by (λ interest. records_of interest.rec) interests

abbrev pub records_waiting : List Waiter → ℕ
records_waiting waiters = sum_by (λ w. records_of w.rec) waiters

abbrev pub records_in : Content → ℕ
records_in content = records_owned content.interests + records_waiting content.waiters

-- one that alters has an interest, another one has none
abbrev pub is_due : List Interest → Waiter → Bool
is_due interests w =
    let has = has_interest w.r w.conn interests in if w.alter then has else not has

pub record IsContent (caps : Caps) (content : Content) : Type 0 where
  pub owners : AreInterests content.interests
  pub queue : IsQueue content.waiters
  pub due : IsTrue (list_all (is_due content.interests) content.waiters)
  pub records : records_in content ≤ caps.elements

-- any two owners of one resource are compatible: both share it, or they are one connector
abbrev pub OwnersAreCompatible : Content → Type 0
OwnersAreCompatible content =
    (x y : Interest) → Contains content.interests x → Contains content.interests y
    → IsTrue (same_resource x.held.r y.held.r) → IsTrue (are_compatible x.held y.held)

-- ---- items: the interests, then the waiters

abbrev pub owner : Interest → LockItem
owner interest = Owner interest.held interest.rec

abbrev pub items : Content → List LockItem
items content = map owner content.interests ++ map Waits content.waiters

-- one item more, behind the others of its kind
abbrev pub content_with : Content → LockItem → Content
content_with content (Owner held rec) =
    record content { interests = content.interests ++ record { held = held; rec = rec } ∷ [] }
content_with content (Waits w) = record content { waiters = content.waiters ++ w ∷ [] }

-- without the last item: the last waiter, or the last interest where nobody waits
abbrev pub without_last : {X : Type 0} → List X → List X
without_last xs = take (length xs - 1) xs

abbrev pub content_without_last : Content → Content
content_without_last content = without content.waiters
  where
    without : List Waiter → Content
    without [] = record content { interests = without_last content.interests }
    without (w ∷ waiters) = record content { waiters = without_last (w ∷ waiters) }

-- interests, and the record data of interests and waiters
abbrev pub entries_of_item : LockItem → ℕ
entries_of_item (Owner held rec) = 1
entries_of_item (Waits w) = 0

abbrev pub records_of_item : LockItem → ℕ
records_of_item (Owner held rec) = records_of rec
records_of_item (Waits w) = records_of w.rec

abbrev pub need_of : List LockItem → Caps
need_of items =
    record {
      entries = sum_by entries_of_item items;
      elements = sum_by records_of_item items;
    }
