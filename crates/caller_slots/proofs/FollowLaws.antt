-- The works of a transcript, and its lines and closings, are the same: what follows the script by the one follows it by
-- the other, and so for what stops.
use Rattle.std.proofs.Common.{◌≡◌, ℕ, ◌+◌, ◌≤◌, ◌==◌, Bool, true, false, List, [], ◌∷◌, ◌++◌, length, map, take, Option, Some, refl, sym, ap, subst, ◌∙◌, arith, append-nil, append_assoc, MatchBool}
use Rattle.std.proofs.lemmas.Bool.Decides.{nat_tests}
use Rattle.std.proofs.lemmas.List.Elements.{filter_map-append}
use Rattle.run_shown.specs.CfTypes.declared.forms.Kind.{Kind}
use Rattle.run_shown.specs.CfTypes.declared.forms.StrForm.{StrForm}
use Rattle.run_shown.specs.CfTypes.declared.numbers.ConnId.{ConnId}
use Rattle.run_shown.specs.CfTypes.declared.numbers.StrNo.{StrNo}
use Rattle.run_shown.specs.CfTypes.declared.shell_commands.ShellCmd.TheVariants as cmd
use Rattle.run_shown.specs.PlexScript.declared.agents.Step.{Step}
use Rattle.run_shown.specs.PlexScript.declared.agents.Step.TheVariants as step
use Rattle.run_shown.specs.PlexScript.declared.asks.AnyHistory.{AnyHistory}
use Rattle.run_shown.specs.PlexScript.declared.scripts.AnyAsk.{AnyAsk}
use Rattle.run_shown.specs.PlexScript.declared.scripts.Line.{Line}
use Rattle.run_shown.specs.PlexScript.declared.scripts.Script.{Script}
use Rattle.run_shown.specs.PlexScript.declared.transcripts.Shown.{Shown}
use Rattle.run_shown.specs.PlexScript.declared.transcripts.Shown.TheVariants as shown
use Rattle.run_shown.specs.PlexScript.Agent.{step_after, shell_ask}
use Rattle.run_shown.specs.PlexScript.Heard.{AnyCall, own_calls, calls_on, is_linked}
use Rattle.run_shown.specs.PlexScript.Follows.{Runs, ShowsLines, ShowsClosings, Follows, number_on, numbers_on, is_linked_by, lines_of}
use Rattle.caller_slots.specs.Works.{Work, Does, leaves_from, ShowsWorks, FollowsWorks}

-- ---- works in two parts

module _ (forms : List StrForm) (histories : List AnyHistory) (conn : ConnId) where
  abbrev pub Shows : List Work → List Shown → List Shown → Type 0
  Shows works before items = ShowsWorks forms histories conn works before items

  pub works_join : (works more : List Work) (before during after : List Shown) → Shows works before during
      → Shows more (before ++ during) after → Shows (works ++ more) before (during ++ after)
  works_join [] more before during after first second =
      subst (λ (t : List Shown). Shows more before (t ++ after)) (sym first)
      (subst (λ (t : List Shown). Shows more t after)
      (ap (λ (t : List Shown). before ++ t) first ∙ append-nil before) second)
  works_join (work ∷ works) more before during after (one, (others, is, shows, rest)) second = (
    one,
    (
      others ++ after,
      ap (λ (t : List Shown). t ++ after) is ∙ append_assoc one others after,
      shows,
      works_join works more (before ++ one) others after rest
          (subst (λ (t : List Shown). Shows more t after)
          (ap (λ (t : List Shown). before ++ t) is ∙ sym (append_assoc before one others)) second),
    ),
  )

  pub record Joined (works more : List Work) (before items : List Shown) : Type 0 where
    pub during : List Shown
    pub after : List Shown
    pub shows : items ≡ during ++ after
    pub first : Shows works before during
    pub second : Shows more (before ++ during) after

  pub works_part : (works more : List Work) (before items : List Shown) → Shows (works ++ more) before items
      → Joined works more before items
  works_part [] more before items shows =
      record {
        during = [];
        after = items;
        shows = refl;
        first = refl;
        second = subst (λ (t : List Shown). Shows more t items) (sym (append-nil before)) shows;
      }
  works_part (work ∷ works) more before items (one, (others, is, shows, rest)) =
      let parts : Joined works more (before ++ one) others = works_part works more (before ++ one) others rest in
      record {
        during = one ++ parts.during;
        after = parts.after;
        shows = is ∙ ap (λ (t : List Shown). one ++ t) parts.shows ∙ sym (append_assoc one parts.during parts.after);
        first = (one, (parts.during, refl, shows, parts.first));
        second = subst (λ (t : List Shown). Shows more t parts.after) (append_assoc before one parts.during) parts.second;
      }

  -- ---- lines

  pub lines_works : (lines : List Line) (before items : List Shown) → ShowsLines forms histories lines items
      → Shows (map Does lines) before items
  lines_works [] before items shows = shows
  lines_works (line ∷ lines) before items (form, (first, (others, known, is, one, rest))) =
      (first, (others, is, (form, known, one), lines_works lines (before ++ first) others rest))

  pub works_lines : (lines : List Line) (before items : List Shown) → Shows (map Does lines) before items
      → ShowsLines forms histories lines items
  works_lines [] before items shows = shows
  works_lines (line ∷ lines) before items (first, (others, is, (form, known, one), rest)) =
      (form, (first, (others, known, is, one, works_lines lines (before ++ first) others rest)))

  -- ---- closings

  -- calls at one structure show no numbers of another
  runs_elsewhere : (kind : Kind) (line : Option AnyAsk) (calls : List AnyCall) (on other : StrNo) (now : Step)
      (items : List Shown) → on.0 == other.0 ≡ false → Runs kind line calls conn on now items
      → numbers_on other items ≡ []
  runs_elsewhere kind line calls on other now [] apart runs = refl
  runs_elsewhere kind line calls on other now (shown.Call place number ∷ items) apart (told, here, heard, rest) =
      let there : place.0 == other.0 ≡ false = ap (λ (p : StrNo). p.0 == other.0) here ∙ apart in
      rw there (runs_elsewhere kind line calls on other (step_after now told) items apart rest)
  runs_elsewhere kind line calls on other now (shown.Test place index bit at ∷ items) apart runs = absurd runs
  runs_elsewhere kind line calls on other now (shown.Word place word bits at ∷ items) apart runs = absurd runs
  runs_elsewhere kind line calls on other now (shown.BadIndex place index word len ∷ items) apart runs = absurd runs
  runs_elsewhere kind line calls on other now (shown.Posted place sure ∷ items) apart runs = absurd runs
  runs_elsewhere kind line calls on other now (shown.Took place sure ∷ items) apart runs = absurd runs

  abbrev pub Linked : StrNo → List Shown → Bool
  Linked on items = is_linked_by (calls_on histories on) conn on items

  -- where a caller is active at the structures from this one on is as its lines left it
  abbrev pub AreSame : ℕ → List Shown → List Shown → Type 0
  AreSame k during before = (on : StrNo) → k ≤ on.0 → Linked on before ≡ Linked on during

  pub same_behind : (k : ℕ) (kind : Kind) (during before first : List Shown) (b : Bool)
      → MatchBool b (Runs kind (Some (shell_ask kind cmd.Disconnect)) (calls_on histories (record { 0 = k })) conn
      (record { 0 = k }) (step.Call 0) first) (first ≡ [])
      → AreSame k during before → AreSame (k + 1) during (before ++ first)
  same_behind k kind during before first b shows same on past =
      let apart : k == on.0 ≡ false = grind (arith, nat_tests) in
      ap (λ (t : List ℕ). is_linked (take (length t) (own_calls (calls_on histories on) conn)))
      (filter_map-append (number_on on) before first
      ∙ ap (λ (t : List ℕ). numbers_on on before ++ t) (none b shows apart)
      ∙ append-nil (numbers_on on before))
      ∙ same on (omega (arith, past))
    where
      none : (b : Bool)
          → MatchBool b (Runs kind (Some (shell_ask kind cmd.Disconnect)) (calls_on histories (record { 0 = k })) conn
          (record { 0 = k }) (step.Call 0) first) (first ≡ [])
          → k == on.0 ≡ false → numbers_on on first ≡ []
      none true runs apart =
          runs_elsewhere kind (Some (shell_ask kind cmd.Disconnect)) (calls_on histories (record { 0 = k }))
          (record { 0 = k }) on (step.Call 0) first apart runs
      none false is apart = ap (numbers_on on) is

  pub closings_works : (k : ℕ) (left : List StrForm) (during before items : List Shown) → AreSame k during before
      → ShowsClosings histories conn k left during items → Shows (leaves_from k left) before items
  closings_works k [] during before items same shows = shows
  closings_works k (form ∷ left) during before items same (first, (others, is, one, rest)) =
      let linked : Linked (record { 0 = k }) before ≡ Linked (record { 0 = k }) during =
      same (record { 0 = k }) (omega arith) in (
        first,
        (
          others,
          is,
          subst (λ (b : Bool). MatchBool b
              (Runs form.kind (Some (shell_ask form.kind cmd.Disconnect)) (calls_on histories (record { 0 = k })) conn
              (record { 0 = k }) (step.Call 0) first) (first ≡ [])) (sym linked) one,
          closings_works (k + 1) left during (before ++ first) others
              (same_behind k form.kind during before first (Linked (record { 0 = k }) during) one same) rest,
        ),
      )

  pub works_closings : (k : ℕ) (left : List StrForm) (during before items : List Shown) → AreSame k during before
      → Shows (leaves_from k left) before items → ShowsClosings histories conn k left during items
  works_closings k [] during before items same shows = shows
  works_closings k (form ∷ left) during before items same (first, (others, is, one, rest)) =
      let linked : Linked (record { 0 = k }) before ≡ Linked (record { 0 = k }) during =
      same (record { 0 = k }) (omega arith) in (
        first,
        (
          others,
          is,
          subst (λ (b : Bool). MatchBool b
              (Runs form.kind (Some (shell_ask form.kind cmd.Disconnect)) (calls_on histories (record { 0 = k })) conn
              (record { 0 = k }) (step.Call 0) first) (first ≡ [])) linked one,
          works_closings (k + 1) left during (before ++ first) others
              (same_behind k form.kind during before first (Linked (record { 0 = k }) before) one same) rest,
        ),
      )

-- ---- the whole

module _ (script : Script) (histories : List AnyHistory) (conn : ConnId) (items : List Shown) where
  pub follows_works : Follows script histories conn items → FollowsWorks script histories conn items
  follows_works follows = by_owner (conn.0 == 0) refl follows.closings
    where
      by_owner : (b : Bool) → conn.0 == 0 ≡ b
          → MatchBool b (follows.after ≡ [])
          (ShowsClosings histories conn 0 script.structures follows.during follows.after)
          → FollowsWorks script histories conn items
      by_owner true operator none =
          record {
            shows = rw operator
                (subst (λ (t : List Shown). ShowsWorks script.structures histories conn
                (map Does (lines_of script conn) ++ []) [] t) (sym follows.shows)
                (works_join script.structures histories conn (map Does (lines_of script conn)) [] [] follows.during
                follows.after
                (lines_works script.structures histories conn (lines_of script conn) [] follows.during follows.lines)
                none));
            agrees = follows.agrees;
          }
      by_owner false connector closings =
          record {
            shows = rw connector
                (subst (λ (t : List Shown). ShowsWorks script.structures histories conn
                (map Does (lines_of script conn) ++ leaves_from 0 script.structures) [] t) (sym follows.shows)
                (works_join script.structures histories conn (map Does (lines_of script conn))
                (leaves_from 0 script.structures) [] follows.during follows.after
                (lines_works script.structures histories conn (lines_of script conn) [] follows.during follows.lines)
                (closings_works script.structures histories conn 0 script.structures follows.during follows.during
                follows.after (λ on past. refl) closings)));
            agrees = follows.agrees;
          }

  pub works_follow : FollowsWorks script histories conn items → Follows script histories conn items
  works_follow follows = by_owner (conn.0 == 0) refl
    where
      by_owner : (b : Bool) → conn.0 == 0 ≡ b → Follows script histories conn items
      by_owner true operator =
          let parts : Joined script.structures histories conn (map Does (lines_of script conn)) [] [] items =
          works_part script.structures histories conn (map Does (lines_of script conn)) [] [] items
          (rw operator at follows.shows) in
          record {
            during = parts.during;
            after = parts.after;
            shows = parts.shows;
            lines = works_lines script.structures histories conn (lines_of script conn) [] parts.during parts.first;
            closings = rw operator parts.second;
            agrees = follows.agrees;
          }
      by_owner false connector =
          let parts : Joined script.structures histories conn (map Does (lines_of script conn))
          (leaves_from 0 script.structures) [] items =
          works_part script.structures histories conn (map Does (lines_of script conn))
          (leaves_from 0 script.structures) [] items (rw connector at follows.shows) in
          record {
            during = parts.during;
            after = parts.after;
            shows = parts.shows;
            lines = works_lines script.structures histories conn (lines_of script conn) [] parts.during parts.first;
            closings = rw connector
                (works_closings script.structures histories conn 0 script.structures parts.during parts.during
                parts.after (λ on past. refl) parts.second);
            agrees = follows.agrees;
          }
