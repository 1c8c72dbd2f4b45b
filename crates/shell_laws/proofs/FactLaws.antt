-- What an entry tells of failure, of the capacity and of items copied is what the machine keeps of them.
use Rattle.shell_laws.proofs.Imports.{arith, ◌≡◌, ◌⊎◌, ℕ, ◌+◌, Bool, true, false, not, ◌&&◌, ◌||◌, if◌then◌else◌, List, Option, None, Some, is_some, refl, ap, ◌∙◌, Letter, Caps, StrForm, CfId, ConnId, ShellCmd, Room, copied_after, is_copy, is_switch, Leaver, Shell, ShellOutcome, goes, leaver, loss_outcome, moved_by, shell_done, with_posted, with_off, Rebuild, outcome_of, rebuild_onward, IsFilling, Telling, is_emptying, mark_telling, telling, caps_by, caps_past, failed_by, is_end, is_failure, items_told}
use Rattle.shell_laws.proofs.Answered.{reply_for}
use Rattle.shell_laws.proofs.LossLaws.{loss-cases}
use Rattle.shell_laws.proofs.MemberLaws.{sound_of}
use Rattle.shell_laws.proofs.PlaceLaws.{no_switch}
use Rattle.shell_laws.proofs.ShellMoves.{Allows, IsSound, Move, Standing, Work, copied_of, deeds_of, leaver_of, moved, standing_of}
use Rattle.shell_laws.proofs.ShellMoves.Move.{Departs, Forces, Gives, Places, Stops}
use Rattle.shell_laws.proofs.StepLaws.{IsMove, move_by, moves-loss}

-- ---- what is told of an outcome: whether all instances end, whether the structure has failed, whether somebody leaves
-- the content, and how many items are copied

pub record AreFacts (form : StrForm) (told : Telling) (who : Option Leaver) (copied : ℕ) (failed : Bool)
    (acted : ShellOutcome) : Type 0 where
  pub ends : (is_failure told || is_end (goes form acted.shell.conns) told) ≡ acted.deeds.drop_all
  pub fails : acted.shell.failed ≡ failed_by (goes form acted.shell.conns) told failed
  pub leaves : is_emptying told ≡ is_some who
  pub copies : items_told told ≡ copied

pub facts-loss : (form : StrForm) (cf : CfId) (shell : Shell) → let acted = loss_outcome form cf shell in
    AreFacts form (mark_telling acted.reply) None 0 shell.failed acted
facts-loss form cf shell =
    loss-cases form cf shell (λ acted. AreFacts form (mark_telling acted.reply) None 0 shell.failed acted) (record {
      none = record { ends = refl; fails = refl; leaves = refl; copies = refl };
      simplex = λ left lost. record { ends = refl; fails = refl; leaves = refl; copies = refl };
      stops = λ rebuild is there. record { ends = refl; fails = refl; leaves = refl; copies = refl };
      fails = record { ends = refl; fails = refl; leaves = refl; copies = refl };
    })

module _ (form : StrForm) (room : Room) (judged : Shell) (letters : List Letter) (by : ConnId) where
  abbrev Facts : ShellCmd → Type 0
  Facts command = let acted = shell_done form room (with_posted letters judged) by command in AreFacts
      form (telling command acted.reply) (leaver judged by command) (moved_by room command) judged.failed acted

  pub facts-command : (command : ShellCmd) → Facts command
  facts-command ShellCmd.Disconnect = grind arith
  facts-command ShellCmd.Fail = grind arith
  facts-command ShellCmd.Next = grind arith
  facts-command ShellCmd.Respond = grind arith
  facts-command ShellCmd.RebuildStop = grind arith
  facts-command ShellCmd.RebuildConnect = grind arith
  facts-command ShellCmd.RebuildComplete = grind arith
  facts-command (ShellCmd.Vary cf true) = facts-loss form cf (with_off cf true (with_posted letters judged))
  facts-command (ShellCmd.Vary cf false) = record { ends = refl; fails = refl; leaves = refl; copies = refl }
  facts-command ShellCmd.DuplexStop = grind arith
  facts-command command = record { ends = refl; fails = refl; leaves = refl; copies = refl }

-- ---- what moves make of the capacity, and of the items copied

pub same_past : (rebuild : Option Rebuild) (caps : Caps) → caps_past rebuild rebuild caps ≡ caps
same_past rebuild caps = grind arith

-- COPY has passed where the new instance takes the old one's place
past_switch : (before after : Rebuild) (caps : Caps) → after.stage ≡ before.stage
    → caps_past (Some before) (rebuild_onward after) caps ≡ (if is_switch (outcome_of after) then before.caps else caps)
past_switch before after caps same = grind arith

-- in COPY, and where nobody left, the items stay
abbrev pub items_kept : Option Rebuild → (leaves : Bool) → ℕ → ℕ
items_kept None leaves n = 0
items_kept (Some rebuild) leaves n = if is_copy rebuild.stage && not leaves then n else 0

abbrev pub IsCounted : ℕ → Option Rebuild → Type 0
IsCounted n rebuild = (n ≡ 0) ⊎ IsFilling rebuild

pub counted_kept : (n : ℕ) (rebuild : Option Rebuild) → IsCounted n rebuild → n ≡ items_kept rebuild false n
counted_kept n rebuild counted = grind arith

module _ (form : StrForm) (room : Room) (s : Standing) where
  abbrev CapsMove : Move → Type 0
  CapsMove move = (moved form move s).caps
      ≡ (if (deeds_of move s).drop_all then form.caps else caps_past s.rebuild (moved form move s).rebuild s.caps)

  caps-move : (move : Move) → Allows form room s move → CapsMove move
  caps-move (Departs who gone) may = grind (arith, past_switch, no_switch)
  caps-move (Forces other gone) may = grind arith
  caps-move (Gives rebuild who) may = grind (arith, past_switch)
  caps-move (Places rebuild who at made) may = grind (arith, past_switch)
  caps-move (Stops rebuild) may = grind arith
  caps-move move may = grind (arith, same_past)

  module _ (n : ℕ) (counted : IsCounted n s.rebuild) where
    abbrev CopiedMove : Move → Type 0
    CopiedMove move = copied_after (deeds_of move s) (n + copied_of room move)
        ≡ items_kept (moved form move s).rebuild (is_some (leaver_of move)) (n + copied_of room move)

    copied-move : (move : Move) → Allows form room s move → IsSound s → CopiedMove move
    copied-move (Departs who gone) may sound = grind arith
    copied-move (Forces other gone) may sound = grind arith
    copied-move (Gives rebuild who) may sound = grind arith
    copied-move (Places rebuild who at made) may sound = grind arith
    copied-move (Stops rebuild) may sound = grind arith
    copied-move move may sound = grind (arith, counted_kept)

    -- of an outcome
    pub record IsKept (told : Telling) (acted : ShellOutcome) (copied : ℕ) : Type 0 where
      pub failed : acted.shell.failed ≡ failed_by (goes form acted.shell.conns) told s.failed
      pub caps : acted.shell.caps
          ≡ caps_by form.caps (goes form acted.shell.conns) told s.rebuild acted.shell.rebuild s.caps
      pub items : copied_after acted.deeds (n + copied)
          ≡ items_kept acted.shell.rebuild (is_emptying told) (n + items_told told)

    pub kept-move : (places : Type 0) (by : ConnId) (connects : Bool) (who : Option Leaver) (copied : ℕ) (told : Telling)
        (acted : ShellOutcome) → places → IsSound s → IsMove form room s places by connects who copied told acted
        → AreFacts form told who copied s.failed acted → IsKept told acted copied
    kept-move places by connects who copied told acted have sound is facts =
        let may : Allows form room s is.move = is.allows have sound in
        let stands : standing_of acted.shell ≡ moved form is.move s = ap (λ (work : Work). work.0) is.does in
        let deeds : acted.deeds ≡ deeds_of is.move s = ap (λ (work : Work). work.1) is.does in
        let leaves : who ≡ leaver_of is.move = ap (λ (work : Work). work.2) is.does in
        let copies : copied ≡ copied_of room is.move = ap (λ (work : Work). work.3) is.does in
        let caps : acted.shell.caps ≡ (moved form is.move s).caps = ap (λ (x : Standing). x.caps) stands in
        let rebuild : acted.shell.rebuild ≡ (moved form is.move s).rebuild = ap (λ (x : Standing). x.rebuild) stands in
        record {
          failed = facts.fails;
          caps = caps ∙ caps-move is.move may ∙ rw (rebuild, facts.ends, deeds) refl;
          items = rw (deeds, copies, rebuild, facts.leaves, leaves, facts.copies, copies)
              (copied-move is.move may sound);
        }
