-- What holds of passes and calls by the type of their structure holds of them as they are shown.
use Rattle.plex_board.proofs.Imports.{◌≡◌, ℕ, ◌≤◌, ◌==◌, true, List, [], ◌∷◌, length, map, All, refl, sym, ap, ◌∙◌, arith, Option, is_some, option_map, nat_tests, map-map, length-map, length-range_with_len, All-map, All-weaker, ConnId, Ask, Reply, Entry, Meaning, Call, calls, own, map-filtered, AnyAsk, AnyCall, any_call, call_numbered, own_calls, Sight, PassSeen, WordTable, new_pass, unused_pass, CellKey, reply_to, About, own_call_of, IsPoint, IsTold, StrType, AnyReply, PassShown, call_by, heard_by, replies_by, reply_by, reply_numbered, shown_as, keyed_as, replied, IsPassOf}
use Rattle.plex_board.proofs.RowLaws.{each-of-map}

-- what new passes are, and how many
pub ruleset new_passes = (map-map, length-map, length-range_with_len)

module _ {C R : Type 0} (str_type : StrType) (of : Ask C → AnyAsk) (told : Reply R → AnyReply) where
  -- new passes, as they are shown
  pub new_shown : (words : WordTable) (owners : List ℕ) (passes : List (PassSeen (About C R))) (type_is : StrType)
      → passes ≡ map (new_pass words) owners → type_is ≡ str_type
      → map (shown_as str_type of told) passes ≡ map (unused_pass type_is words) owners
  new_shown words owners passes type_is are is = ap (map (shown_as str_type of told)) are ∙ map-map (shown_as
      str_type of told) (new_pass words) owners ∙ ap (λ (t : StrType). map (unused_pass t words) owners) (sym is)

  heard_same : (owner : ConnId) (call : Call C R) → call.by.0 == owner.0 ≡ true
      → any_call of (call_by owner (own_call_of call)) ≡ any_call of call
  heard_same owner call is = grind (arith, nat_tests)

  -- a caller's own calls, as it heard of them
  heard_own : (history : List (Entry C R)) (owner : ConnId)
      → heard_by of owner (map own_call_of (own history owner)) ≡ own_calls (map (any_call of) (calls history)) owner
  heard_own history owner = grind (arith, map-map, map-filtered, heard_same)

  -- and the replies to them
  replied_own : (history : List (Entry C R)) (owner : ConnId)
      → replies_by told (map own_call_of (own history owner)) ≡ map (replied told) (own history owner)
  replied_own history owner = map-map (reply_by told) own_call_of (own history owner)

  module _ {L : Type 0} (key : CellKey C R L) (passes : List (PassSeen (About C R))) where
    pub shown_tables : All (IsPassOf (keyed_as str_type key)) (map (shown_as str_type of told) passes)
        → All (λ (pass : PassSeen (About C R)). pass.table ≡ key.words) passes
    shown_tables all = All-weaker (λ (pass : PassSeen (About C R)). IsPassOf (keyed_as str_type key)
        (shown_as str_type of told pass)) (λ (pass : PassSeen (About C R)). pass.table ≡ key.words) (λ pass is. is.1)
        passes (each-of-map (IsPassOf (keyed_as str_type key)) (shown_as str_type of told) passes all)

    -- what a history says of its calls and of the passes, as they are shown
    pub record AreShown {I S : Type 0} (meaning : Meaning C R I S) (history : List (Entry C R)) : Type 0 where
      pub callers : All (λ (call : AnyCall). call.by.0 ≤ key.callers) (map (any_call of) (calls history))
      pub mine : All (λ (pass : PassShown). pass.calls ≡ own_calls (map (any_call of) (calls history)) pass.owner)
          (map (shown_as str_type of told) passes)
      pub replies : All (λ (pass : PassShown). pass.replies ≡ map (replied told) (own history pass.owner))
          (map (shown_as str_type of told) passes)
      pub tests : All (λ (pass : PassShown). All (λ (test : Sight). IsTold meaning key.form history pass.owner.0 test)
          pass.tests) (map (shown_as str_type of told) passes)
      pub known : All (λ (pass : PassShown). IsPoint history pass.known × (pass.known ≤ length history))
          (map (shown_as str_type of told) passes)

    each_shown : (P : PassShown → Type 0) → All (λ (pass : PassSeen (About C R)). P (shown_as str_type of told pass))
        passes → All P (map (shown_as str_type of told) passes)
    each_shown P all = All-map P (shown_as str_type of told) passes all

    pub are_shown : {I S : Type 0} (meaning : Meaning C R I S) (history : List (Entry C R))
        → All (λ (call : Call C R). call.by.0 ≤ key.callers) (calls history)
        → All (λ (pass : PassSeen (About C R)). pass.mine ≡ map own_call_of (own history (record { 0 = pass.owner })))
        passes → All (λ (pass : PassSeen (About C R)). All (IsTold meaning key.form history pass.owner) pass.tests)
        passes → All (λ (pass : PassSeen (About C R)). IsPoint history pass.known × (pass.known ≤ length history))
        passes → AreShown meaning history
    are_shown meaning history called mine tells known = record {
      callers = All-map (λ (call : AnyCall). call.by.0 ≤ key.callers) (any_call of) (calls history) called;
      mine = each_shown (λ (pass : PassShown). pass.calls ≡ own_calls (map (any_call of) (calls history)) pass.owner)
          (grind (arith, All-weaker, heard_own));
      replies = each_shown (λ (pass : PassShown). pass.replies ≡ map (replied told) (own history pass.owner))
          (grind (arith, All-weaker, replied_own));
      tests = each_shown (λ (pass : PassShown).
          All (λ (test : Sight). IsTold meaning key.form history pass.owner.0 test) pass.tests) tells;
      known = each_shown (λ (pass : PassShown). IsPoint history pass.known × (pass.known ≤ length history)) known;
    }

-- ---- a reply by its number

-- the reply that a caller's call of this number was given, as it is shown
pub reply_shown : {C R : Type 0} (told : Reply R → AnyReply) (number : ℕ) (mine : List (ℕ × About C R))
    → reply_numbered number (replies_by told mine) ≡ option_map told (reply_to number mine)
reply_shown told number [] = refl
reply_shown told number (it ∷ mine) = grind (arith, reply_shown told number mine)

-- there is one exactly where a call has the number
pub reply_exists : {C R : Type 0} (of : Ask C → AnyAsk) (number : ℕ) (owner : ConnId) (mine : List (ℕ × About C R))
    → is_some (call_numbered number (heard_by of owner mine)) ≡ is_some (reply_to number mine)
reply_exists of number owner [] = refl
reply_exists of number owner (it ∷ mine) = grind (arith, reply_exists of number owner mine)

pub some_mapped : {X Y : Type 0} (f : X → Y) (o : Option X) → is_some (option_map f o) ≡ is_some o
some_mapped f o = grind arith
