-- An entry's line, cut into its parts, and what is made of them.
use Rattle.std.specs.Prelude.{◌≡◌, ℕ, ◌==◌, ◌<◌, ◌^◌, Bool, true, false, not, if◌then◌else◌, List, ◌∷◌, ◌++◌, Option, None, Some, option_map}
use Rattle.std.specs.Fmt.{decimal}
use Rattle.std.specs.List.{list_all}
use Rattle.cf_types.specs.declared.names.Name16.{Name16}
use Rattle.cf_types.specs.declared.numbers.CfId.{CfId}
use Rattle.cf_types.specs.declared.numbers.ConnId.{ConnId}
use Rattle.cf_types.specs.declared.shell_commands.ShellReply.{ShellReply}
use Rattle.cf_types.specs.declared.shell_commands.ShellReply.TheVariants as shell
use Rattle.engine_api.specs.declared.asks.Ask.{Ask}
use Rattle.engine_api.specs.declared.asks.Ask.TheVariants.{Shell, Content}
use Rattle.engine_api.specs.declared.asks.Reply.{Reply}
use Rattle.engine_api.specs.declared.asks.Reply.TheVariants as reply
use Rattle.engine_api.specs.declared.asks.What.{What}
use Rattle.engine_api.specs.declared.asks.What.TheVariants as what
use Rattle.engine_api.specs.declared.histories.Entry.{Entry}
use Rattle.engine_api.specs.LinkAsks.{operator}
use Rattle.plex_spell.specs.Words.{tail_of}
use Rattle.plex_spell.specs.Places.{◌>>=◌}
use Rattle.plex_plain.specs.PlainWords.{shell_words, alter_words, queue_words, lock_words}
use Rattle.plex_script.specs.declared.scripts.AnyAsk.{AnyAsk}
use Rattle.plex_script.specs.declared.scripts.AnyAsk.TheVariants as any
use Rattle.plex_report.specs.Lines.{is_of_vary}
use Rattle.reply_rows.specs.Answers.{Answers}
use Rattle.reply_rows.specs.declared.sides.Side.{Side}
use Rattle.reply_rows.specs.declared.sides.Side.TheVariants.{Common}
use Rattle.report_lines.specs.Parts.{reply_value}

-- no byte is this one
abbrev pub is_free : ℕ → List ℕ → Bool
is_free at text = list_all (λ b. not (b == at)) text

-- a line's number, who, what was done, and what was told of it
pub record IsCutLine (line : List ℕ) (no : ℕ) (who done told : List ℕ) : Type 0 where
  pub whole : line ≡ decimal no ++ 32 ∷ (who ++ 32 ∷ (done ++ 32 ∷ 45 ∷ 62 ∷ 32 ∷ told))
  pub small : no < 2 ^ 32
  pub one_word : is_free 32 who ≡ true
  pub no_arrow : is_free 62 told ≡ true

-- the words of a call
abbrev pub any_words : List Name16 → AnyAsk → List (List ℕ)
any_words connectors (any.Cache (Shell cmd)) = shell_words connectors cmd
any_words connectors (any.Cache (Content cmd)) = alter_words cmd
any_words connectors (any.List (Shell cmd)) = shell_words connectors cmd
any_words connectors (any.List (Content cmd)) = queue_words cmd
any_words connectors (any.Lock (Shell cmd)) = shell_words connectors cmd
any_words connectors (any.Lock (Content cmd)) = lock_words connectors cmd

-- the call stands in a line so
abbrev pub StandsAs : List Name16 → AnyAsk → List ℕ → Type 0
StandsAs connectors asked text = tail_of (any_words connectors asked) ≡ 32 ∷ text

-- what is told of a loss
abbrev pub is_loss : ShellReply → Bool
is_loss (shell.Simplex cf) = true
is_loss (shell.Stopped number) = true
is_loss shell.FailedNow = true
is_loss _ = false

abbrev pub loss_alone : {R : Type 0} → Reply R → Option (Reply R)
loss_alone (reply.Shell answer) = if is_loss answer then Some (reply.Shell answer) else None
loss_alone (reply.Content answer) = None
loss_alone (reply.Refused refusal) = None

module _ {C R : Type 0} (connectors : List Name16) (answers : Answers R) (no : ℕ) where
  -- the entry of a call
  abbrev pub call_entry : ConnId → Side → Ask C → List ℕ → Option (Entry C R)
  call_entry by side asked told =
      option_map (λ answer.
      (let e : Entry C R = record { no = no; by = by; what = what.Call asked; reply = answer } in e))
      (reply_value connectors answers (is_of_vary (let w : What C = what.Call asked in w)) side told)

  -- the entry of a mark
  abbrev pub mark_entry : CfId → List ℕ → Option (Entry C R)
  mark_entry cf told =
      option_map (λ answer.
      (let e : Entry C R = record { no = no; by = operator; what = what.Lost cf; reply = answer } in e))
      (reply_value connectors answers false Common told >>= loss_alone)
