-- What a pass is shown when it has learned the count beside the engine's log.
use Rattle.vec_words.proofs.Imports.{arith, ◌≡◌, ◌≤◌, ℕ, List, sym, subst, inl, inr, ⊎_elim, All, max, All-weaker, IsCommitted, settled-max, Logged, View, count_of, steps_of, flying_of, calls_of, IsIssued, IsHonest, TableId, WordTable, PassSeen, SeatSeen, pass_seen, seat_seen, IsShown, IsBegun, with_log, Settled, IsKept, Shows}

module _ {D : Type 0} where
  -- a settled number is issued, beside the engine's number in flight
  pub issued_settled : (number n : ℕ) (log : List (Logged D)) → IsBegun number log → Settled log n
      → IsIssued log number n
  issued_settled number n log begun (inl low) =
      ⊎_elim (λ (z : n ≡ 0). inl z) (λ (c : IsCommitted (steps_of log) n). inr (inl c)) low.1
  issued_settled number n log begun (inr flies) = grind (arith, ⊎_elim)

  -- what the engine's seat tells of a pass that held its log
  pub record Learns (seat : SeatSeen D) (len raised : ℕ) (pass : PassSeen D) : Type 0 where
    pub tests : All (IsHonest seat.log seat.number len pass.owner) pass.tests
    pub before : IsIssued seat.log seat.number pass.known
    pub known : IsIssued seat.log seat.number raised

  pub shown : (len : ℕ) (pass_id seat_id : TableId) (v w view : View D) (count number raised : ℕ) (pass : PassSeen D)
      (seat : SeatSeen D) → pass_seen pass_id v ≡ pass → seat_seen seat_id number w ≡ seat → view ≡ with_log v w
      → IsBegun number w.log → Shows len view count → raised ≡ max v.known count → Learns seat len raised pass
  shown len pass_id seat_id v w view count number raised pass seat pass_is seat_is is begun shows raised_is =
      let here = subst (λ (x : View D). Shows len x count) is shows in
      subst (λ (x : PassSeen D × SeatSeen D). Learns x.1 len raised x.0) (λ i. (pass_is i, seat_is i)) record {
        tests = All-weaker (IsKept w.log len v.owner) (IsHonest w.log number len v.owner)
            (grind (arith, issued_settled)) v.tests here.tests;
        before = issued_settled number v.known w.log begun here.known;
        known = subst (IsIssued w.log number) (sym raised_is) (issued_settled number (max v.known count) w.log begun
            (settled-max (steps_of w.log) (count_of w.log) (flying_of w.log) v.known count here.known here.counted));
      }

  -- the clauses of `learn`, as one fact of the pass
  pub shown_pass : (table : WordTable) (seat now : SeatSeen D) (pass : PassSeen D) → now ≡ seat
      → pass.table ≡ table → All (IsHonest now.log now.number table.len pass.owner) pass.tests
      → pass.mine ≡ calls_of pass.owner now.log → IsIssued now.log now.number pass.known
      → pass.sure ≤ count_of now.log → pass.sure ≤ pass.known → pass.owner ≤ table.conns → IsShown seat pass
  shown_pass table seat now pass is here tests mine known seen ordered owner =
      subst (λ (s : SeatSeen D). IsShown s pass) is record {
        tests = subst (λ (t : WordTable). All (IsHonest now.log now.number t.len pass.owner) pass.tests)
            (sym here) tests;
        mine = mine;
        known = known;
        seen = seen;
        ordered = ordered;
        owner = subst (λ (t : WordTable). pass.owner ≤ t.conns) (sym here) owner;
      }
