-- What the first items of a list structure with queues make, from what those of its records make.
use Rattle.std.proofs.Common.{arith, ◌≡◌, ℕ, zero, suc, ◌+◌, ◌<◌, Bool, true, false, cond, List, [], ◌∷◌, ◌++◌, length, slice_get, Option, None, Some, refl, ap, ◌∙◌, subst}
use Rattle.std.proofs.lemmas.Bool.{false≢true}
use Rattle.std.proofs.lemmas.List.Elements.{filter_map-append}
use Rattle.std.specs.List.{list_all}
use Rattle.cf_types.specs.declared.forms.Caps.{Caps}
use Rattle.cf_types.specs.declared.forms.Kind.{Kind}
use Rattle.cf_types.specs.declared.list_commands.ListCmd.{ListCmd}
use Rattle.cf_types.specs.declared.list_commands.ListReply.{ListReply}
use Rattle.cf_types.specs.Forms.{IsCapacity, is_list}
use Rattle.engine_api.specs.declared.shapes.Shape.{Shape}
use Rattle.engine_api.specs.Items.{IsAlone, IsNextItem}
use Rattle.engine_api.specs.Meaning.{Meaning}
use Rattle.engine_api.proofs.FrontLaws.{FrontLaws}
use Rattle.queue_model.specs.declared.items.FirstItem.{FirstItem}
use Rattle.queue_model.specs.declared.items.FirstItem.TheVariants.{More, Inner}
use Rattle.queue_model.specs.FirstItems.{IsBeside, IsTold, inner_of, inner_items, inners}
use Rattle.queue_model.proofs.FirstLaws as sides
use Rattle.list_model.specs.Contents.{Content, IsContent}
use Rattle.list_model.specs.Items.{has_controls, items_of}
use Rattle.list_model.specs.ListStore.Lists.{count_of}
use Rattle.list_model.specs.Meaning.{list_meaning}
use Rattle.list_model.specs.declared.items.ListItem.{ListItem}
use Rattle.list_model.proofs.EngineLaws.{list-fronts}
use Rattle.list_model.proofs.ItemLaws.{length-items}
use Rattle.queue_model.specs.declared.subs.Sub.{Sub}
use Rattle.queue_model.specs.Queues.{Queued, Filled, AreKnown, no_queues, has}
use Rattle.queue_model.specs.Meaning.{QueueState, is_unmonitored, queue_meaning}
use Rattle.queue_model.specs.ListQueues.{filled_in, queued_lists, IsQueuedContent}

-- where nothing is monitored there are no events
pub told : (queued : Queued) → AreKnown queued → IsTold no_queues is_unmonitored queued
told queued is none = go queued.monitors queued.events none is
  where
    go : (monitors events : List Sub) → is_unmonitored (record { monitors = monitors; events = events }) ≡ true
        → list_all (has monitors) events ≡ true
        → Path Queued (record { monitors = monitors; events = events }) no_queues
    go [] [] e known = refl
    go [] (x ∷ events) e known = absurd (false≢true known)
    go (x ∷ monitors) events e known = absurd (false≢true e)

pub none_known : AreKnown no_queues
none_known = refl

module _ {I S : Type 0} (filled : S → Filled) (inner : Meaning ListCmd ListReply I S) (is_kind : Kind → Bool)
    (IsInner : Shape → Caps → S → Type 0) (laws : FrontLaws inner is_kind IsInner) where
  abbrev pub IsQueueContent : Shape → Caps → QueueState S → Type 0
  IsQueueContent = IsBeside no_queues is_unmonitored AreKnown IsInner

  pub queue-fronts : FrontLaws (queue_meaning filled inner) is_kind IsQueueContent
  queue-fronts = record {
    made_again = sides.made-again no_queues is_unmonitored refl AreKnown none_known told inner is_kind IsInner laws;
    items_front = sides.items-front no_queues is_unmonitored refl AreKnown none_known told inner is_kind IsInner laws;
    content_front = sides.content-front no_queues is_unmonitored refl AreKnown none_known told inner is_kind IsInner laws;
    unplace_front = sides.unplace-front no_queues is_unmonitored refl AreKnown none_known told inner is_kind IsInner laws;
  }

  -- the next item of the records is one inside, too
  pub next-list : (shape : Shape) (state : QueueState S) (item : I)
      → IsNextItem (queue_meaning filled inner) IsQueueContent shape state (Inner item)
      → IsNextItem inner IsInner shape state.inner item
  next-list shape state item next = record {
    at = next.at;
    whole = next.whole.inner;
    others = inner_items next.others;
    content = next.content.inner;
    first = sides.inner-next no_queues is_unmonitored refl AreKnown none_known told inner is_kind IsInner laws shape
        next.whole state item next.others next.first;
    alone = sides.alone-inner no_queues is_unmonitored refl AreKnown none_known told inner is_kind IsInner laws shape
        state next.alone;
  }

  -- monitors and events that come next are those of a content
  pub next-queues : (shape : Shape) (state : QueueState S) (queued : Queued)
      → IsNextItem (queue_meaning filled inner) IsQueueContent shape state (More queued) → AreKnown queued
  next-queues shape state queued next = subst AreKnown (sides.more-next no_queues is_unmonitored refl AreKnown none_known
      told inner is_kind IsInner laws shape next.whole state queued next.others next.first) next.content.kept

-- over lists of records
pub queued-lists-fronts : FrontLaws (queue_meaning filled_in list_meaning) is_list
    (IsQueueContent filled_in list_meaning is_list IsContent list-fronts)
queued-lists-fronts = queue-fronts filled_in list_meaning is_list IsContent list-fronts

pub queued-alone : (shape : Shape) (state : QueueState Content) → IsAlone queued_lists shape state
    → IsAlone list_meaning shape state.inner
queued-alone shape state alone = sides.alone-inner no_queues is_unmonitored refl AreKnown none_known told list_meaning
    is_list IsContent list-fronts shape state alone

pub queued-next : (shape : Shape) (state : QueueState Content) (item : ListItem)
    → IsNextItem queued_lists IsQueuedContent shape state (Inner item)
    → IsNextItem list_meaning IsContent shape state.inner item
queued-next = next-list filled_in list_meaning is_list IsContent list-fronts

-- ---- the items of both

-- those of the records, where nothing is monitored, and else one more in front of them
pub items-plain : (shape : Shape) (state : QueueState Content) → is_unmonitored state.more ≡ true
    → queued_lists.items shape state ≡ inners (list_meaning.items shape state.inner)
items-plain shape state none = ap (λ (b : Bool). cond b (inners (list_meaning.items shape state.inner))
    (More state.more ∷ inners (list_meaning.items shape state.inner))) none

pub items-more : (shape : Shape) (state : QueueState Content) → is_unmonitored state.more ≡ false
    → queued_lists.items shape state ≡ More state.more ∷ inners (list_meaning.items shape state.inner)
items-more shape state some = ap (λ (b : Bool). cond b (inners (list_meaning.items shape state.inner))
    (More state.more ∷ inners (list_meaning.items shape state.inner))) some

pub length-inners : (items : List ListItem) → length (inners {X = Queued} items) ≡ length items
length-inners [] = refl
length-inners (item ∷ items) = grind (arith, length-inners items)

abbrev as_first : Option ListItem → Option (FirstItem Queued ListItem)
as_first None = None
as_first (Some item) = Some (Inner item)

pub get-inners : (items : List ListItem) (k : ℕ) (item : ListItem) → slice_get items k ≡ Some item
    → slice_get (inners {X = Queued} items) k ≡ Some (Inner item)
get-inners [] k item e = absurd (cc)
get-inners (x ∷ items) zero item e = ap as_first e
get-inners (x ∷ items) (suc k) item e = get-inners items k item e

-- what they need
pub queued-need : (shape : Shape) (state : QueueState Content)
    → queued_lists.need (queued_lists.items shape state) ≡ list_meaning.need (list_meaning.items shape state.inner)
queued-need shape state = ap list_meaning.need (sides.inner-of-items no_queues is_unmonitored refl AreKnown none_known
    told list_meaning is_list IsContent list-fronts shape state)

pub queued-need-next : (shape : Shape) (state : QueueState Content) (item : ListItem)
    → queued_lists.need (queued_lists.items shape state ++ Inner item ∷ [])
    ≡ list_meaning.need (list_meaning.items shape state.inner ++ item ∷ [])
queued-need-next shape state item = ap list_meaning.need
    (filter_map-append inner_of (queued_lists.items shape state) (Inner item ∷ [])
    ∙ ap (λ (l : List ListItem). l ++ item ∷ []) (sides.inner-of-items no_queues is_unmonitored refl AreKnown none_known
    told list_meaning is_list IsContent list-fronts shape state))

-- there are far fewer than 2^32 of them
pub few-items : (shape : Shape) (caps : Caps) (content : Content) → IsContent shape caps content → IsCapacity caps
    → 1 + length (list_meaning.items shape content) < 4294967296
few-items shape caps content is capacity = go (has_controls shape content) (length-items shape content)
  where
    go : (b : Bool) → length (items_of shape content) ≡ cond b 1 0 + count_of content.lists
        → 1 + length (items_of shape content) < 4294967296
    go true e = omega (arith, e, is.entries, capacity.most_entries)
    go false e = omega (arith, e, is.entries, capacity.most_entries)
