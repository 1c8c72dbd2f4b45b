-- A call with the links that it asks, put together.
use Rattle.struct_machine.proofs.Imports.{arith, subst, ◌≡◌, ℕ, true, false, List, [], ◌∷◌, ◌++◌, Option, None, Some, Result, IfOk, fold-append, Links, AreAsked, StrForm, CfId, ConnId, Refusal, ShellCmd, Lost, Ask, Reply, Asks, has, links_asked, listed, marks_of, answers_to, Machine, CallOutcome, loss_step, room_of, Meaning, Shell, call_cause, content_cause, reply_as, Mark, is_copying, items_named, judged, AreMarked, AreTold, TellMore, IsJudgedTurn, content_asks_of, marks_in, behind_marks, lost_at}

module _ {C R I S : Type 0} (meaning : Meaning C R I S) (form : StrForm) where
  -- one mark more
  pub told_more : (start machine : Machine S) (cfs : List CfId) (marks : List Mark) (mark : Mark)
      → machine ≡ behind_marks meaning form start cfs
      → Path (Reply R) (Reply.Shell (reply_as mark.lost)) (loss_step meaning form machine mark.cf).reply
      → AreTold meaning form start cfs marks → AreTold meaning form start (cfs ++ mark.cf ∷ []) (marks ++ mark ∷ [])
  told_more start machine [] [] mark behind tells told = grind arith
  told_more start machine [] (m ∷ marks) mark behind tells told = absurd told
  told_more start machine (cf ∷ cfs) [] mark behind tells told = absurd told
  told_more start machine (cf ∷ cfs) (m ∷ marks) mark behind tells told =
      (told.0, told.1, told_more (lost_at meaning form start cf) machine cfs marks mark behind tells told.2)

  -- what is said of marks by an equal form
  pub behind_equal : (equal : StrForm) (start machine one : Machine S) (cfs : List CfId) → equal ≡ form
      → start ≡ machine → one ≡ behind_marks meaning equal start cfs → one ≡ behind_marks meaning form machine cfs
  behind_equal equal start machine one cfs same from is = grind arith

  pub told_equal : (equal : StrForm) (machine : Machine S) (before : List Mark) (cfs : List CfId) (marks : List Mark)
      → equal ≡ form → TellMore meaning equal machine before cfs marks → TellMore meaning form machine before cfs marks
  told_equal equal machine before cfs marks same told =
      subst (λ (f : StrForm). TellMore meaning f machine before cfs marks) same told

  -- the marks of both, one after the other
  pub behind_both : (machine one two : Machine S) (first second : Option CfId)
      → one ≡ behind_marks meaning form machine (listed first) → two ≡ behind_marks meaning form one (listed second)
      → two ≡ behind_marks meaning form machine (listed first ++ listed second)
  behind_both machine one two first second is other = grind (arith, fold-append)

  -- ---- a whole turn

  module _ {L : Type 0} (calls : L → Option ℕ) (downs : L → Option (List ℕ)) (faults : L → ℕ) where
    pub turn_made : (old new : Machine S) (before after : Links L) (by : ConnId) (call : Ask C) (asks : Asks)
        (lost : Lost) (marks : List Mark) (reply : Reply R) → asks ≡ links_asked meaning form old by call → marks_in
        lost ≡ marks_of (has (marks_in lost)) asks → AreAsked calls downs faults (answers_to (has (marks_in lost))
        asks) before after → AreTold meaning form old (marks_in lost) marks → Path (CallOutcome R S)
        (record { reply = reply; machine = new }) (judged meaning form (behind_marks meaning form old (marks_in lost))
        by call) → IsJudgedTurn calls downs faults meaning form old new before after by call marks reply
    turn_made old new before after by call asks lost marks reply asked marked links told done = grind arith

    -- the links that a call asks, with the marks that they make
    pub marks_made : (old new : Machine S) (before after : Links L) (asks wanted : Asks) (lost : Lost)
        (marks : List Mark) → asks ≡ wanted → marks_in lost ≡ marks_of (has (marks_in lost)) asks
        → AreAsked calls downs faults (answers_to (has (marks_in lost)) asks) before after
        → AreTold meaning form old (marks_in lost) marks → new ≡ behind_marks meaning form old (marks_in lost)
        → AreMarked calls downs faults meaning form old new before after wanted marks
    marks_made old new before after asks wanted lost marks asked marked links told machine = grind arith

    -- a command on the content that is judged behind them
    pub turn_behind : (old middle new : Machine S) (before between after : Links L) (by : ConnId) (call : Ask C)
        (command : C) (marks : List Mark) (reply : Reply R) → AreMarked calls downs faults meaning form old middle
        before between (content_asks_of old.shell) marks → call ≡ Ask.Content command → content_cause old.shell by
        ≡ None → Path (CallOutcome R S) (record { reply = reply; machine = new }) (judged meaning form middle by call)
        → after ≡ between → IsJudgedTurn calls downs faults meaning form old new before after by call marks reply
    turn_behind old middle new before between after by call command marks reply marked is accepted done same =
        grind arith

    -- one that asks no link
    pub turn_quiet : (old new : Machine S) (before after : Links L) (by : ConnId) (call : Ask C) (marks : List Mark)
        (reply : Reply R) → (links_asked meaning form old by call).links ≡ [] → after ≡ before → marks ≡ []
        → Path (CallOutcome R S) (record { reply = reply; machine = new }) (judged meaning form old by call)
        → IsJudgedTurn calls downs faults meaning form old new before after by call marks reply
    turn_quiet old new before after by call marks reply none same unmarked done = record {
      down = λ cf. false;
      told = grind arith;
      done = grind arith;
      links = grind (arith, unasked);
    }
      where
        unasked : (asks : Asks) → asks.links ≡ [] → (cf : CfId) → answers_to (λ (c : CfId). false) asks cf ≡ []
        unasked asks none cf = grind arith

  -- what asks no link
  pub refused_asks : (machine : Machine S) (by : ConnId) (call : Ask C) (refusal : Refusal)
      → call_cause form (room_of meaning form machine) machine.shell by call ≡ Some refusal
      → (links_asked meaning form machine by call).links ≡ []
  refused_asks machine by call refusal is = grind arith

  pub command_asks : (machine : Machine S) (by : ConnId) (command : ShellCmd) → is_copying command ≡ false
      → (links_asked meaning form machine by (Ask.Shell command)).links ≡ []
  command_asks machine by command other = grind arith

  -- a refused call changes nothing, and one that isn't refused does what it does
  pub refused_done : (machine : Machine S) (by : ConnId) (call : Ask C) (refusal : Refusal)
      → call_cause form (room_of meaning form machine) machine.shell by call ≡ Some refusal → Path (CallOutcome R S)
      (record { reply = Reply.Refused refusal; machine = machine }) (judged meaning form machine by call)
  refused_done machine by call refusal is = grind arith

pub copy_is : (command : ShellCmd) → is_copying command ≡ true → command ≡ ShellCmd.Copy (items_named command)
copy_is command is = grind arith

pub ok_map : {T F : Type 0} (result : Result T F) (P Q : T → Type 0) → ((x : T) → P x → Q x) → IfOk result P
    → IfOk result Q
ok_map result x1 x2 more is = grind arith
