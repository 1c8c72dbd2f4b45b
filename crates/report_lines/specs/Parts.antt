-- The reply in an entry's line, behind the arrow.
use Rattle.std.specs.Prelude.{ℕ, Bool, if◌then◌else◌, List, Option, None}
use Rattle.cf_types.specs.declared.names.Name16.{Name16}
use Rattle.engine_api.specs.declared.asks.Reply.{Reply}
use Rattle.plex_spell.specs.Words.{words_of}
use Rattle.reply_rows.specs.Answers.{Answers}
use Rattle.reply_rows.specs.declared.sides.Side.{Side}
use Rattle.reply_rows.specs.Replies.{reply_at}
use Rattle.report_lines.specs.Spaced.{is_spaced}

-- the reply that a text tells, by the side of the command
abbrev pub reply_value : {R : Type 0} → List Name16 → Answers R → Bool → Side → List ℕ → Option (Reply R)
reply_value connectors answers vary side text =
    if is_spaced text then reply_at connectors answers vary side (words_of text) else None
