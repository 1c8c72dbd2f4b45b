-- The lines of a report of a script, slot by slot.
use Rattle.std.specs.Prelude.{◌≡◌, ◌⊎◌, ℕ, zero, suc, ◌+◌, ◌<◌, ◌^◌, List, [], ◌∷◌, ◌++◌, length, map, replicate, codes}
use Rattle.report_texts.specs.CheckModel.RunShown.CfTypes.declared.forms.Kind.{Kind}
use Rattle.report_texts.specs.CheckModel.RunShown.CfTypes.declared.forms.Kind.TheVariants as kind
use Rattle.report_texts.specs.CheckModel.RunShown.CfTypes.declared.names.Name16.{Name16}
use Rattle.report_texts.specs.CheckModel.RunShown.CfTypes.declared.numbers.StrNo.{StrNo}
use Rattle.report_texts.specs.CheckModel.RunShown.EngineApi.declared.asks.Ask.{Ask}
use Rattle.report_texts.specs.CheckModel.RunShown.EngineApi.declared.histories.Entry.{Entry}
use Rattle.report_texts.specs.CheckModel.RunShown.PlexScript.declared.scripts.AnyAsk.{AnyAsk}
use Rattle.report_texts.specs.CheckModel.RunShown.PlexScript.declared.scripts.AnyAsk.TheVariants as ask
use Rattle.report_texts.specs.CheckModel.RunShown.PlexScript.declared.scripts.Script.{Script}
use Rattle.report_texts.specs.CheckModel.RunShown.PlexScript.declared.transcripts.Shown.{Shown}
use Rattle.report_texts.specs.CheckModel.RunShown.PlexScript.Causes.{kind_of}
use Rattle.report_texts.specs.PlexReport.CommandWords.{alter_words, queue_words, lock_words}
use Rattle.report_texts.specs.PlexReport.Lines.{heading, entry_line, shown_line}
use Rattle.report_texts.specs.PlexReport.Naming.{caller_name, structure_name}
use Rattle.report_texts.specs.PlexReport.PlexPlain.PolicyLines.{facility_line, connector_line}
use Rattle.report_texts.specs.PlexReport.ReplyWords.{alter_reply_words, queue_reply_words, lock_reply_words}
use Rattle.report_texts.specs.PlexReport.Report.{by_number, structures_lines}
use Rattle.report_lines.specs.Readable.{IsEntry, IsItem}
use Rattle.report_texts.specs.ReplyRows.Within.{IsAlterReply, IsQueueReply, IsLockReply}
use Rattle.report_fronts.specs.Grammars.{Steps, Goes}

-- what the next line is to be: just this one; an entry of a structure; an item of a transcript; or a heading with a
-- word and a name, behind which so many of another slot follow as it tells
pub data Slot : Type 0 where
  Exactly : List ℕ → Slot
  Entered : StrNo → Slot
  Listed : Slot
  Headed : List ℕ → List ℕ → Slot → Slot

module _ {C R : Type 0} (of : Ask C → AnyAsk) (In : List Name16 → R → Type 0)
    (cmd_words : Script → C → List (List ℕ)) (answer_words : Script → R → List (List ℕ)) where
  abbrev pub PrintsEntry : Script → StrNo → List ℕ → Type 0
  PrintsEntry script on line =
      (entry : Entry C R) × IsEntry of In script on entry × (line ≡ entry_line cmd_words answer_words script entry)

-- some entry of a structure of this kind prints so
abbrev pub IsEntryLine : Script → StrNo → Kind → List ℕ → Type 0
IsEntryLine script on kind.Cache line = PrintsEntry ask.Cache IsAlterReply alter_words alter_reply_words script on line
IsEntryLine script on (kind.List headers locks refs) line =
    PrintsEntry ask.List IsQueueReply queue_words queue_reply_words script on line
IsEntryLine script on kind.Lock line =
    PrintsEntry ask.Lock (λ connectors. IsLockReply) lock_words lock_reply_words script on line

-- some item prints so
abbrev pub IsItemLine : Script → List ℕ → Type 0
IsItemLine script line = (item : Shown) × IsItem script item × (line ≡ shown_line script item)

-- where there are no structures, no transcript has an item
abbrev pub MayFill : Script → Slot → Type 0
MayFill script (Exactly line) = Unit {0}
MayFill script (Entered on) = Unit {0}
MayFill script Listed = 0 < length script.structures
MayFill script (Headed word name slot) = Unit {0}

-- the line fills the slot, and opens others
abbrev pub Opens : Script → Slot → List ℕ → List Slot → Type 0
Opens script (Exactly wanted) line more = (line ≡ wanted) × (more ≡ [])
Opens script (Entered on) line more = IsEntryLine script on (kind_of script.structures on) line × (more ≡ [])
Opens script Listed line more = IsItemLine script line × (more ≡ [])
Opens script (Headed word name slot) line more =
    (n : ℕ) × (n < 2 ^ 64) × ((n ≡ 0) ⊎ MayFill script slot) × (line ≡ heading word name n)
    × (more ≡ replicate n slot)

abbrev pub Takes : Script → List Slot → List ℕ → List Slot → Type 0
Takes script slots line next = Steps (Opens script) slots line next

abbrev pub Leads : Script → List Slot → List (List ℕ) → List Slot → Type 0
Leads script slots lines left = Goes (Opens script) slots lines left

-- ---- the slots of a report

abbrev pub policy_lines : Script → List (List ℕ)
policy_lines script =
    map facility_line (by_number script.facilities) ++ (structures_lines script ++ map connector_line script.connectors)

-- a slot for each of so many numbers, from one on
abbrev pub slots_each : (ℕ → Slot) → ℕ → ℕ → List Slot
slots_each slot zero first = []
slots_each slot (suc n) first = slot first ∷ slots_each slot n (first + 1)

abbrev pub history_slot : Script → ℕ → Slot
history_slot script x = Headed (codes "HISTORY") (structure_name script x) (Entered (record { 0 = x }))

abbrev pub transcript_slot : Script → ℕ → Slot
transcript_slot script c = Headed (codes "TRANSCRIPT") (caller_name script c) Listed

-- from the history of a structure on, where so many are left
abbrev pub end_slots : List Slot
end_slots = Exactly (codes "END") ∷ []

abbrev pub caller_slots_from : Script → ℕ → ℕ → List Slot
caller_slots_from script n first = slots_each (transcript_slot script) n first ++ end_slots

abbrev pub slots_from : Script → ℕ → ℕ → List Slot
slots_from script n first =
    slots_each (history_slot script) n first ++ caller_slots_from script (length script.connectors + 1) 0

-- all of it
abbrev pub report_slots : Script → List Slot
report_slots script =
    map (λ line. Exactly line) (policy_lines script) ++ slots_from script (length script.structures) 0
