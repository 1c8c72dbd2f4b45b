-- A call that was answered, as it is shown.
use Rattle.plex_board.proofs.Imports.{arith, ◌≡◌, [], ◌∷◌, ◌++◌, IfOk, Ok, Err, Result, map-append, ConnId, Ask, Reply, Told, AnyAsk, PassSeen, CallRefused, About, StrType, AnyReply, PassShown, IsAnswered, heard_by, shown_as, with_call}
use Rattle.struct_cell.specs.Calls as calls

module _ {C R : Type 0} (str_type : StrType) (of : Ask C → AnyAsk) (told : Reply R → AnyReply) where
  module _ (asked : Ask C) (it : Told) (seen later : PassSeen (About C R))
      (made : calls.IsAnswered asked it seen later) where
    abbrev owner : ConnId
    owner = record { 0 = seen.owner }

    -- the calls and the replies with one more
    gained : heard_by of owner (seen.mine ++ (it.no, (asked, made.reply)) ∷ [])
        ≡ heard_by of owner seen.mine ++ record { no = it.no; by = owner; ask = of asked; told = it } ∷ []
    gained = grind (arith, map-append)

    called : shown_as str_type
        of told later ≡ with_call (of asked) it (told made.reply) (shown_as str_type of told seen)
    called = grind (arith, gained, map-append)

  pub told_answered : (answer : Result Told CallRefused) (asked : Ask C) (any : AnyAsk) (before after : PassShown)
      (seen later : PassSeen (About C R)) → any ≡ of asked → before ≡ shown_as str_type of told seen
      → after ≡ shown_as str_type of told later → IfOk answer (λ it. calls.IsAnswered asked it seen later)
      → IfOk answer (λ it. IsAnswered any it before after)
  told_answered (Ok it) asked any before after seen later any_is before_is after_is made = record {
    reply = told made.reply;
    pass = grind (arith, called);
  }
  told_answered (Err refusal) asked any before after seen later any_is before_is after_is made = tt
