-- The queues of all callers of a structure.
use Rattle.std.proofs.Common.{◌≡◌, ℕ, ◌+◌, ◌<◌, inl, inr, List, [], ◌∷◌, ◌++◌, length, take, get_or, slice_get, Some, refl, sym, ap, subst, ◌∙◌, arith, Result}
use Rattle.std.specs.Prelude.{All, IfOk}
use Rattle.std.proofs.lemmas.List.Elements.{All-push}
use Rattle.std.proofs.lemmas.Option.{slice_get-get_or}
use Rattle.std.proofs.lemmas.List.{length-append}
use Rattle.std.proofs.lemmas.Result.{IfOk-weaker}
use Rattle.cf_types.specs.NoMemory.declared.wants.NoMemory.{NoMemory}
use Rattle.cf_types.specs.declared.numbers.ConnId.{ConnId}
use Rattle.cf_types.specs.declared.numbers.StrNo.{StrNo}
use Rattle.cf_types.specs.Forms.{IsCaller}
use Rattle.vector_waits.specs.Waits.{QueueView}
use Rattle.history_check.specs.Queues.{IsRising}
use Rattle.check_model.specs.RunShown.PlexScript.declared.asks.AnyHistory.{AnyHistory}
use Rattle.check_model.specs.RunShown.PlexScript.declared.transcripts.Shown.{Shown}
use Rattle.check_model.specs.RunShown.PlexScript.declared.transcripts.Transcript.{Transcript}
use Rattle.caller_waits.specs.CallerItems.Orders.{AreInOrder, IsInOrder, IsSeen}
use Rattle.caller_waits.specs.Tests.{queue_of}
use Rattle.caller_waits.proofs.RiseLaws.{waits_rise}
use Rattle.plex_check.specs.Checks.{IsQueueOf, AreQueuesOf}
use Rattle.plex_check.proofs.Rows.{nowhere, some_same, get_push, get_taken, take_taken}

-- the tests of items that are in order rise
pub queue_rises : (histories : List AnyHistory) (on : StrNo) (vector : ℕ) (conn : ConnId) (items : List Shown) (many : ℕ)
    (queue : QueueView) → IsCaller conn → AreInOrder histories items many
    → queue ≡ queue_of on vector conn (take many items) → IsRising queue
queue_rises histories on vector conn items many queue caller order is =
    subst IsRising (sym is) (record { caller = caller; rising = waits_rise on vector (take many items) seen })
  where
    seen : (k : ℕ) (item : Shown) → slice_get (take many items) k ≡ Some item → IsSeen (take k (take many items)) item
    seen k item at =
        let there = get_taken items many k item at in
        let few : k < many = there.0 in
        let fits : IsInOrder histories (take k items) item = order.each k item few there.1 in
        subst (λ (before : List Shown). IsSeen before item) (sym (take_taken items many k (omega (arith, few)))) fits.seen

pub result_rises : (histories : List AnyHistory) (on : StrNo) (vector : ℕ) (conn : ConnId) (items : List Shown)
    (many : ℕ) → IsCaller conn → AreInOrder histories items many → (part : List Shown) → part ≡ take many items
    → (result : Result QueueView NoMemory) → IfOk result (λ queue. queue ≡ queue_of on vector conn part)
    → IfOk result IsRising
result_rises histories on vector conn items many caller order part same result =
    IfOk-weaker result (λ queue. queue ≡ queue_of on vector conn part) IsRising (λ queue is. queue_rises histories on
    vector conn items many queue caller order (is ∙ ap (queue_of on vector conn) same))

module _ (histories : List AnyHistory) (on : StrNo) (vector : ℕ) (transcripts : List Transcript) where
  pub queues_none : AreQueuesOf histories on vector transcripts 0 []
  queues_none = record { size = refl; each = λ conn transcript queue there at. absurd (nowhere conn.0 queue at) }

  pub queues_more : (n : ℕ) (queues : List QueueView) → AreQueuesOf histories on vector transcripts n queues → (place : ℕ)
      → place ≡ n → n < length transcripts → (transcript d : Transcript) → transcript ≡ get_or transcripts place d
      → (queue : QueueView) → IsQueueOf histories on vector (record { 0 = n }) transcript.items queue
      → AreQueuesOf histories on vector transcripts (n + 1) (queues ++ queue ∷ [])
  queues_more n queues so_far place is few transcript d known queue made = record {
    size = (let size : length queues ≡ n = so_far.size in
        length-append queues (queue ∷ []) ∙ ap (λ (m : ℕ). m + 1) size);
    each = λ conn other found there at. elim (get_push queues queue conn.0 found at) [
      | inl old ↦ so_far.each conn other found there old
      | inr last ↦
          let number : conn.0 ≡ n = last.0 ∙ so_far.size in
          let here : slice_get transcripts conn.0 ≡ Some transcript =
          subst (λ (m : ℕ). slice_get transcripts m ≡ Some transcript) (is ∙ sym number)
          (slice_get-get_or transcripts place d (omega (arith, few, is)) ∙ ap (λ (t : Transcript). Some t) (sym known)) in
          let same : transcript ≡ other = some_same transcript other (sym here ∙ there) in
          let whose : (let it : ConnId = record { 0 = n } in it ≡ conn) =
          ap (λ (m : ℕ). (let it : ConnId = record { 0 = m } in it)) (sym number) in
          subst (λ (q : QueueView). IsQueueOf histories on vector conn other.items q) (sym last.1)
          (subst (λ (t : Transcript). IsQueueOf histories on vector conn t.items queue) same
          (subst (λ (c : ConnId). IsQueueOf histories on vector c transcript.items queue) whose made))
    ];
  }

  -- both, behind one caller more
  pub queues_step : (shown : List Transcript) → shown ≡ transcripts → (others : List AnyHistory) → others ≡ histories
      → (n : ℕ) (queues : List QueueView) → AreQueuesOf histories on vector transcripts n queues × All IsRising queues
      → (place : ℕ) → place ≡ n → n < length transcripts → (transcript d : Transcript) → transcript ≡ get_or shown place d
      → (items : List Shown) → items ≡ transcript.items → (queue : QueueView)
      → IsQueueOf others on vector (record { 0 = n }) items queue → IsRising queue → (news : List QueueView)
      → news ≡ queues ++ queue ∷ [] → AreQueuesOf histories on vector transcripts (n + 1) news × All IsRising news
  queues_step shown shown_are others others_are n queues so_far place is few transcript d known items items_are queue made
      rising news grown =
      let whose : IsQueueOf histories on vector (record { 0 = n }) transcript.items queue =
      subst (λ (h : List AnyHistory). IsQueueOf h on vector (record { 0 = n }) transcript.items queue) others_are
      (subst (λ (i : List Shown). IsQueueOf others on vector (record { 0 = n }) i queue) items_are made) in
      let here : transcript ≡ get_or transcripts place d =
      subst (λ (l : List Transcript). transcript ≡ get_or l place d) shown_are known in
      subst (λ (l : List QueueView). AreQueuesOf histories on vector transcripts (n + 1) l × All IsRising l) (sym grown) (
        queues_more n queues so_far.0 place is few transcript d here queue whose,
        All-push IsRising queues queue so_far.1 rising,
      )
