-- The entry that is meant where several print alike: the one that is read of its words.
use Rattle.std.specs.Prelude.{◌≡◌, ℕ, Bool, false, List, Some}
use Rattle.cf_types.specs.declared.names.Name16.{Name16}
use Rattle.cf_types.specs.declared.numbers.ConnId.{ConnId}
use Rattle.cf_types.specs.declared.numbers.StrNo.{StrNo}
use Rattle.engine_api.specs.declared.asks.Ask.{Ask}
use Rattle.engine_api.specs.declared.asks.Reply.{Reply}
use Rattle.engine_api.specs.declared.asks.What.{What}
use Rattle.engine_api.specs.declared.asks.What.TheVariants as what
use Rattle.engine_api.specs.declared.histories.Entry.{Entry}
use Rattle.plex_spell.specs.Words.{line_of}
use Rattle.plex_script.specs.declared.scripts.AnyAsk.{AnyAsk}
use Rattle.plex_script.specs.declared.scripts.Script.{Script}
use Rattle.plex_script.specs.Commands.{MakesCommand}
use Rattle.plex_report.specs.Lines.{is_of_vary, reply_words}
use Rattle.reply_rows.specs.Answers.{Answers}
use Rattle.reply_rows.specs.declared.sides.Side.{Side}
use Rattle.reply_rows.specs.declared.sides.Side.TheVariants.{Common}
use Rattle.reply_rows.specs.Sides.{asked_side}
use Rattle.report_lines.specs.Entries.{any_words}
use Rattle.report_lines.specs.Parts.{reply_value}

module _ {C R : Type 0} (of : Ask C → AnyAsk) (answer_words : Script → R → List (List ℕ))
    (answers : List Name16 → Answers R) (script : Script) (on : StrNo) where
  -- the reply is what is read of its words behind a command of this side
  abbrev pub IsPickedReply : Bool → Side → Reply R → Type 0
  IsPickedReply vary side answer =
      reply_value script.connectors (answers script.connectors) vary side
      (line_of (reply_words answer_words script vary answer)) ≡ Some answer

  -- and the command is the one that its words make
  abbrev pub IsPickedWhat : ConnId → Reply R → What C → Type 0
  IsPickedWhat by answer (what.Call asked) =
      MakesCommand script on by (line_of (any_words script.connectors (of asked))) (of asked)
      × IsPickedReply (is_of_vary (let w : What C = what.Call asked in w)) (asked_side (of asked)) answer
  IsPickedWhat by answer (what.Lost cf) = IsPickedReply false Common answer

  abbrev pub IsPicked : Entry C R → Type 0
  IsPicked entry = IsPickedWhat entry.by entry.reply entry.what
