-- What becomes of queues, step by step.
use Rattle.engine_api.proofs.Imports.{◌≡◌, ℕ, ◌+◌, ◌≤◌, Bool, List, [], ◌∷◌, ◌++◌, length, refl, sym, ap, subst, ◌∙◌, arith, ConnId, StrForm, Meaning, Machine, IsLegal, replay, opening, stands_after}
use Rattle.std.proofs.Common.{map, take, length-take, ◌==◌, true, false}
use Rattle.std.specs.Prelude.{All}
use Rattle.std.proofs.lemmas.List.Elements.{All-nil, All-cons, All-head, All-tail, All-weaker}
use Rattle.std.proofs.lemmas.Bool.{eq-eqb}
use Rattle.std.proofs.lemmas.List.{take_all}
use Rattle.engine_api.specs.declared.histories.Entry.{Entry}
use Rattle.block_laws.specs.Blocks.{EndsBlock}
use Rattle.struct_machine.specs.StructureView.{stands_at}
use Rattle.vector_waits.specs.declared.wait.Wait.{Wait}
use Rattle.vector_waits.specs.Waits.{QueueView, IsQueue, IsSettled, AreSettled, before_block, behind_block, untold}
use Rattle.vector_waits.proofs.Waiting.{rising_kept, past_kept}
use Rattle.vector_waits.proofs.Settled.{settled_first, settled_more}
use Rattle.history_check.specs.declared.judged.Judged.{Judged}
use Rattle.history_check.specs.Judging.{end_judged}
use Rattle.history_check.proofs.Pairing.{pairs_all, pairs_then}
use Rattle.history_check.specs.Queues.{Pairs, HasTestsOf, IsRising, IsBegun, IsAskedBefore, IsAskedBehind, IsToldAt, IsAsked}

-- ---- the same tests

untold_kept : (f : Wait → Wait) → ((wait : Wait) → untold (f wait) ≡ untold wait) → (waits : List Wait)
    → map untold (map f waits) ≡ map untold waits
untold_kept f kept [] = refl
untold_kept f kept (wait ∷ waits) = ap (λ (w : Wait). w ∷ map untold (map f waits)) (kept wait)
    ∙ ap (λ (l : List Wait). untold wait ∷ l) (untold_kept f kept waits)

pub has_itself : (queue : QueueView) → HasTestsOf queue queue
has_itself queue = record { conn = refl; waits = refl }

pub has_through : (a b c : QueueView) → HasTestsOf a b → HasTestsOf b c → HasTestsOf a c
has_through a b c one other = record { conn = other.conn ∙ one.conn; waits = other.waits ∙ one.waits }

pub begun_has : (old new : QueueView) → IsBegun old new → HasTestsOf old new
begun_has old new is = record {
  conn = ap (λ (q : QueueView). q.conn) is;
  waits = ap (λ (q : QueueView). map untold q.waits) is ∙ untold_kept untold (λ wait. refl) old.waits;
}

pub before_has : (number : ℕ) (stood : ConnId → ℕ → Bool) (old new : QueueView) → IsAskedBefore number stood old new
    → HasTestsOf old new
before_has number stood old new is = record {
  conn = ap (λ (q : QueueView). q.conn) is;
  waits = ap (λ (q : QueueView). map untold q.waits) is
      ∙ untold_kept (before_block number (stood old.conn)) (λ wait. refl) old.waits;
}

pub behind_has : (number : ℕ) (stood : ConnId → ℕ → Bool) (old new : QueueView) → IsAskedBehind number stood old new
    → HasTestsOf old new
behind_has number stood old new is = record {
  conn = ap (λ (q : QueueView). q.conn) is.asked;
  waits = ap (λ (q : QueueView). map untold q.waits) is.asked
      ∙ untold_kept (behind_block number (stood old.conn)) (λ wait. refl) old.waits;
}

-- ---- in the order of their numbers

pub begun_queue : (old new : QueueView) → IsRising old → IsBegun old new → IsQueue 0 new
begun_queue old new rising is = subst (IsQueue 0) (sym is) (record {
  caller = rising.caller;
  rising = rising_kept untold (λ wait. refl) old.waits rising.rising;
  past = λ i x few there. absurd (omega (arith, few));
})

pub before_queue : (number : ℕ) (stood : ConnId → ℕ → Bool) (old new : QueueView) → IsQueue number old
    → IsAskedBefore number stood old new → IsQueue number new
before_queue number stood old new queue is = subst (IsQueue number) (sym is) (record {
  caller = queue.caller;
  rising = rising_kept (before_block number (stood old.conn)) (λ wait. refl) old.waits queue.rising;
  past = past_kept (before_block number (stood old.conn)) (λ wait. refl) old.waits old.next number queue.past;
})

pub queue_later : (number later : ℕ) (queue : QueueView) → number ≤ later → IsQueue number queue → IsQueue later queue
queue_later number later queue few is = record {
  caller = is.caller;
  rising = is.rising;
  past = λ i x less there. (let low = is.past i x less there in omega (arith, low, few));
}

-- ---- settled

module _ {C R I S : Type 0} (meaning : Meaning C R I S) (form : StrForm) where
  abbrev stood : List (Entry C R) → ConnId → ℕ → Bool
  stood history conn index = stands_after meaning form history conn index

  pub begun_asked : (old between new : QueueView) → IsBegun old between
      → IsAskedBehind 0 (stands_at meaning (opening meaning form)) between new → IsAsked meaning form [] new
  begun_asked old between new begun behind =
      let conn_is : between.conn ≡ old.conn = ap (λ (q : QueueView). q.conn) begun in
      let waits_are : between.waits ≡ map untold old.waits = ap (λ (q : QueueView). q.waits) begun in
      let conn_now : new.conn ≡ between.conn = ap (λ (q : QueueView). q.conn) behind.asked in
      let f : Wait → Wait = behind_block 0 (stood [] between.conn) in
      let waits_now : new.waits ≡ map f (map untold old.waits) =
      ap (λ (q : QueueView). q.waits) behind.asked ∙ ap (λ (l : List Wait). map f l) waits_are in
      let each : All (IsSettled meaning form [] between.conn) (map f (map untold old.waits)) =
      each_first between.conn old.waits in
      record {
        queue_on = behind.queue;
        settled = subst (λ (l : List Wait). All (IsSettled meaning form [] new.conn) l) (sym waits_now) (subst
            (λ (c : ConnId). All (IsSettled meaning form [] c) (map f (map untold old.waits))) (sym conn_now) each);
      }
    where
      each_first : (conn : ConnId) (waits : List Wait) → All (IsSettled meaning form [] conn) (map (behind_block 0
          (stood [] conn)) (map untold waits))
      each_first conn [] = All-nil (IsSettled meaning form [] conn)
      each_first conn (wait ∷ waits) = All-cons (IsSettled meaning form [] conn)
          (behind_block 0 (stood [] conn) (untold wait)) (map (behind_block 0 (stood [] conn)) (map untold waits))
          (settled_first meaning form conn wait) (each_first conn waits)

  abbrev BegunBehind : Machine S → (old new : QueueView) → Type 0
  BegunBehind machine x z = (y : QueueView) × IsBegun x y × IsAskedBehind 0 (stands_at meaning machine) y z

  pub start_asked : (machine : Machine S) → machine ≡ opening meaning form → (olds mids news : List QueueView)
      → All IsRising olds → Pairs IsBegun olds mids → Pairs (IsAskedBehind 0 (stands_at meaning machine)) mids news
      → All (IsAsked meaning form []) news
  start_asked machine is olds mids news rising begun behind =
      pairs_all (BegunBehind machine) IsRising (IsAsked meaning form []) olds news (λ x z up both. begun_asked
      x both.0 z both.1 (subst (λ (m : Machine S). IsAskedBehind 0 (stands_at meaning m) both.0 z) is both.2))
      rising (pairs_then IsBegun (IsAskedBehind 0 (stands_at meaning machine)) (BegunBehind machine)
      (λ x y z a b. (y, a, b)) olds mids news begun behind)

  module _ (before block : List (Entry C R)) (legal : IsLegal meaning form before)
      (legal' : IsLegal meaning form (before ++ block)) (ends : EndsBlock block) where
    abbrev whole : List (Entry C R)
    whole = before ++ block

    abbrev number : ℕ
    number = length whole

    each_more : (conn : ConnId) (waits : List Wait)
        → All (IsSettled meaning form before conn) waits → All (IsSettled meaning form whole conn)
        (map (behind_block number (stood whole conn)) (map (before_block number (stood before conn)) waits))
    each_more conn [] all = All-nil (IsSettled meaning form whole conn)
    each_more conn (wait ∷ waits) all = All-cons (IsSettled meaning form whole conn)
        (behind_block number (stood whole conn) (before_block number (stood before conn) wait)) (map (behind_block
        number (stood whole conn)) (map (before_block number (stood before conn)) waits)) (settled_more meaning
        form conn before block legal legal' ends wait (All-head (IsSettled meaning form before conn) wait waits all))
        (each_more conn waits (All-tail (IsSettled meaning form before conn) wait waits all))

    pub told_asked : (old new : QueueView) → IsAsked meaning form before old → IsToldAt meaning
        (replay meaning form before) (replay meaning form whole) number old new → IsAsked meaning form whole new
    told_asked old new asked told =
        let between : QueueView = told.0 in
        let conn_is : between.conn ≡ old.conn = ap (λ (q : QueueView). q.conn) told.1 in
        let waits_are : between.waits ≡ map (before_block number (stood before old.conn)) old.waits =
        ap (λ (q : QueueView). q.waits) told.1 in
        let behind : IsAskedBehind number (stood whole) between new = told.2 in
        let conn_now : new.conn ≡ old.conn = ap (λ (q : QueueView). q.conn) behind.asked ∙ conn_is in
        let g : ConnId → Wait → Wait = λ c. behind_block number (stood whole c) in
        let waits_now : new.waits ≡ map (g old.conn) (map (before_block number (stood before old.conn)) old.waits) =
        ap (λ (q : QueueView). q.waits) behind.asked ∙ ap (λ (c : ConnId). map (g c) between.waits) conn_is
        ∙ ap (λ (l : List Wait). map (g old.conn) l) waits_are in
        let each = each_more old.conn old.waits asked.settled in
        record {
          queue_on = behind.queue;
          settled = subst (λ (l : List Wait). All (IsSettled meaning form whole new.conn) l) (sym waits_now)
              (subst (λ (c : ConnId). All (IsSettled meaning form whole c) (map (g old.conn) (map (before_block number
              (stood before old.conn)) old.waits))) (sym conn_now) each);
        }

  -- ---- in the midst of a history, and at its end

  pub later_queues : (history : List (Entry C R)) (start now : ℕ) (queues : List QueueView) → start ≤ now
      → All (IsAsked meaning form (take start history)) queues → All (IsQueue (now + 1)) queues
  later_queues history start now queues few asked =
      let low : length (take start history) + 1 ≤ now + 1 = grind (arith, length-take) in
      All-weaker (IsAsked meaning form (take start history)) (IsQueue (now + 1))
      (λ queue it. queue_later (length (take start history) + 1) (now + 1) queue low it.queue_on) queues asked

  legal_end : (start count : ℕ) → end_judged start count ≡ Judged.Legal → start ≡ count
  legal_end start count is = by_test (start == count) refl
    where
      by_test : (b : Bool) → start == count ≡ b → start ≡ count
      by_test true same = grind (arith, eq-eqb)
      by_test false other = absurd (let wrong = rw other at is in cc)

  pub told_end : (history : List (Entry C R)) (start : ℕ) (found : Judged) (queues : List QueueView)
      → found ≡ end_judged start (length history) → found ≡ Judged.Legal
      → All (IsAsked meaning form (take start history)) queues → All (AreSettled meaning form history) queues
  told_end history start found queues is legal asked =
      let all : start ≡ length history = legal_end start (length history) (sym is ∙ legal) in
      let whole : take start history ≡ history = take_all start history (omega (arith, all)) in
      All-weaker (IsAsked meaning form history) (AreSettled meaning form history) (λ queue it. it.settled) queues
      (subst (λ (h : List (Entry C R)). All (IsAsked meaning form h) queues) whole asked)
