-- What a turn of the machine makes of the journal: marks are entered, and then the call.
use Rattle.struct_cell.proofs.Imports.{◌≡◌, ℕ, suc, ◌+◌, ◌<◌, ◌≤◌, Bool, List, [], ◌∷◌, ◌++◌, length, get_or, take, fold, refl, sym, ap, ◌∙◌, arith, length-append, Option, map-append, take_more, fold_push, Links, AreAsked, asked-append, StrForm, CfId, ConnId, Ask, ShellReply, Reply, Entry, operator, links_asked, answers_to, Meaning, Machine, Turn, numbers, replay, with_mark, with_marks, marks_by, after_turn, IsLegal, answers, marks_few, two_asked, answers-turn, legal_group, replay-push, by_turns, calls-turn, call_added, number_added, length-turn, reply_as, Mark, StructureView, lost_at, behind_marks, AreTold, IsTurn, AreMadeBelow, with_entry, entered}
use Rattle.engine_api.specs.declared.asks.What.TheVariants as what

module _ {C R : Type 0} where
  pub length-entered : (journal : List (Entry C R)) (marks : List Mark)
      → length (entered journal marks) ≡ length journal + length marks
  length-entered journal [] = omega arith
  length-entered journal (mark ∷ marks) = grind (arith, length-append, length-entered (with_entry journal mark) marks)

  -- the number of the call behind them is above what was known
  pub number-later : (journal after : List (Entry C R)) (marks : List Mark) (known number told : ℕ) → known ≤ length
      journal → after ≡ entered journal marks → number ≡ length after + 1 → told ≡ number → known < told
  number-later journal after marks known number told most is number_is told_is = grind (arith, length-entered)

  -- one mark more
  pub entered-more : (journal now after : List (Entry C R)) (marks : List Mark) (i : ℕ) (d : Mark)
      (number : ℕ) (told : ShellReply) → i < length marks → now ≡ entered journal (take i marks)
      → number ≡ length now + 1 → told ≡ (let mark = get_or marks i d in reply_as mark.lost) → after ≡ now ++ record {
        no = number;
        by = operator;
        what = what.Lost (get_or marks i d).cf;
        reply = Reply.Shell told;
      } ∷ [] → after ≡ entered journal (take (i + 1) marks)
  entered-more journal now after marks i d number told below was number_is told_is more =
      let mark : Mark = get_or marks i d in
      more ∙ ap (λ (n : ℕ). (let entry : Entry C R = record {
        no = n;
        by = operator;
        what = what.Lost mark.cf;
        reply = Reply.Shell told;
      } in now ++ entry ∷ [])) number_is ∙ ap (λ (r : ShellReply). (let entry : Entry C R = record {
        no = length now + 1;
        by = operator;
        what = what.Lost mark.cf;
        reply = Reply.Shell r;
      } in now ++ entry ∷ [])) told_is ∙ ap (λ (h : List (Entry C R)). with_entry h mark) was ∙ sym (fold_push
      with_entry journal (take i marks) mark) ∙ ap (entered journal) (sym (take_more marks i d below))

module _ {C R I S : Type 0} (meaning : Meaning C R I S) (form : StrForm) where
  -- marks that tell what is lost are those of the history
  pub entered-told : (journal : List (Entry C R)) (cfs : List CfId) (marks : List Mark) → AreTold meaning
      form (replay meaning form journal) cfs marks → entered journal marks ≡ with_marks meaning form journal cfs
  entered-told journal [] [] told = refl
  entered-told journal [] (mark ∷ marks) told = absurd told
  entered-told journal (cf ∷ cfs) [] told = absurd told
  entered-told journal (cf ∷ cfs) (mark ∷ marks) told = grind (
    arith,
    replay-push,
    entered-told (with_mark meaning form journal cf) cfs marks (grind (arith, replay-push)),
  )

  -- as many as there are losses
  pub told-length : (machine : Machine S) (cfs : List CfId) (marks : List Mark)
      → AreTold meaning form machine cfs marks → length marks ≡ length cfs
  told-length machine [] [] told = refl
  told-length machine [] (mark ∷ marks) told = absurd told
  told-length machine (cf ∷ cfs) [] told = absurd told
  told-length machine (cf ∷ cfs) (mark ∷ marks) told =
      ap (λ (n : ℕ). suc n) (told-length (lost_at meaning form machine cf) cfs marks told.2)

  pub replay-marks : (journal : List (Entry C R)) (cfs : List CfId) → replay meaning form
      (with_marks meaning form journal cfs) ≡ behind_marks meaning form (replay meaning form journal) cfs
  replay-marks journal [] = refl
  replay-marks journal (cf ∷ cfs) = grind (arith, replay-push, replay-marks (with_mark meaning form journal cf) cfs)

-- What a turn of the machine is to the journal: these marks, and this call, are those of a turn of the history.
pub record IsTaken {C R I S : Type 0} (meaning : Meaning C R I S) (form : StrForm) (journal : List (Entry C R))
    (turn : Turn C) (machine : Machine S) (marks : List Mark) (reply : Reply R) : Type 0 where
  pub marked : entered journal marks
      ≡ with_marks meaning form journal (marks_by meaning form turn.down journal turn.by turn.ask)
  pub reply_is : reply ≡ (let call = call_added meaning form journal turn in call.reply)
  pub machine_is : machine ≡ replay meaning form (after_turn meaning form journal turn)

module _ {C R I S L : Type 0} (asks : L → Option ℕ) (downs : L → Option (List ℕ)) (faults : L → ℕ)
    (meaning : Meaning C R I S) where
  -- a call meets two losses at most
  pub few_marks : (old new : StructureView S L) (by : ConnId) (ask : Ask C) (marks : List Mark) (reply : Reply R)
      → IsTurn asks downs faults meaning old new by ask marks reply → length marks ≤ 2
  few_marks old new by ask marks reply it = grind (arith, told-length, marks_few, two_asked)

  -- the same turn of the structure that a journal leads to
  pub turn_at : (form : StrForm) (machine : Machine S) (old new : StructureView S L) (by : ConnId)
      (ask : Ask C) (marks : List Mark) (reply : Reply R) → old.form ≡ form → old.machine ≡ machine
      → IsTurn asks downs faults meaning old new by ask marks reply → IsTurn asks downs faults
      meaning (record { form = form; machine = machine; links = old.links }) new by ask marks reply
  turn_at form machine old new by ask marks reply form_is machine_is it = grind arith

  -- the links of a cell, asked since the start as its journal's answers say
  pub links_more : (form : StrForm) (journal : List (Entry C R)) (turn : Turn C) (start before after : Links L)
      → IsLegal meaning form journal → AreAsked asks downs faults (answers meaning form journal) start before
      → AreAsked asks downs faults
      (answers_to turn.down (links_asked meaning form (replay meaning form journal) turn.by turn.ask)) before after
      → AreAsked asks downs faults (answers meaning form (after_turn meaning form journal turn)) start after
  links_more form journal turn start before after legal since asked =
      let told : CfId → List Bool =
      answers_to turn.down (links_asked meaning form (replay meaning form journal) turn.by turn.ask) in
      let more : (cf : CfId) → answers meaning form (after_turn meaning form journal turn) cf
      ≡ answers meaning form journal cf ++ told cf =
      (λ cf. answers-turn meaning form journal turn cf (legal_group meaning form journal legal)) in
      record {
        asked = grind (arith, asked-append);
        others = grind arith;
      }

  pub links_none : (form : StrForm) (links : Links L)
      → AreAsked asks downs faults (answers {C = C} {R = R} meaning form []) links links
  links_none form links = record { asked = λ cf here. refl; others = λ cf other. refl }

-- ---- room for calls

-- the last of some numbers, or the one before them
abbrev last_of : ℕ → List ℕ → ℕ
last_of last numbers = fold (λ (before number : ℕ). number) last numbers

made_push : (limit last : ℕ) (some : List ℕ) (number : ℕ) → AreMadeBelow limit last some → last_of last some < limit
    → AreMadeBelow limit last (some ++ number ∷ [])
made_push limit last [] number made below = (below, tt)
made_push limit last (first ∷ some) number made below = (made.0, made_push limit first some number made.1 below)

module _ {C R I S : Type 0} (meaning : Meaning C R I S) (form : StrForm) where
  -- a legal history ends with a call
  ends_at : (history : List (Entry C R)) → IsLegal meaning form history → last_of 0 (numbers history) ≡ length history
  ends_at history legal = by_turns meaning form (λ (h : List (Entry C R)). last_of 0 (numbers h) ≡ length h)
      refl (grind (arith, calls-turn, map-append, call_added, fold_push, number_added, length-turn)) history legal

  -- one more turn, where there was room
  pub room_more : (limit : ℕ) (history : List (Entry C R)) (turn : Turn C) → IsLegal meaning form history
      → AreMadeBelow limit 0 (numbers history) → length history < limit
      → AreMadeBelow limit 0 (numbers (after_turn meaning form history turn))
  room_more limit history turn legal made below =
      grind (arith, calls-turn, map-append, call_added, made_push, number_added, ends_at)
