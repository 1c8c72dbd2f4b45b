-- Replies are read back from what stands behind the arrow.
use Rattle.std.proofs.Common.{◌≡◌, ℕ, Bool, true, List, Option, Some, None, IsSome, refl, sym, ap, ◌∙◌}
use Rattle.std.specs.List.{list_all}
use Rattle.cf_types.specs.declared.names.Name16.{Name16}
use Rattle.engine_api.specs.declared.asks.Reply.{Reply}
use Rattle.plex_spell.specs.Words.{words_of, line_of}
use Rattle.plex_spell.proofs.Choices.{chosen, not_some}
use Rattle.plex_plain.proofs.Texts.{words-back}
use Rattle.line_rows.specs.Rows.{is_word}
use Rattle.line_rows.proofs.Words.{are-good}
use Rattle.reply_rows.specs.Answers.{Answers}
use Rattle.reply_rows.specs.declared.sides.Side.{Side}
use Rattle.reply_rows.specs.Replies.{reply_words, reply_at, IsReply, IsRead}
use Rattle.report_lines.specs.Spaced.{is_spaced}
use Rattle.report_lines.specs.Parts.{reply_value}
use Rattle.report_lines.proofs.SpacedLaws.{spaced-line, line-spaced}

module _ {R : Type 0} (connectors : List Name16) (answers : Answers R) (In : R → Type 0) (vary : Bool) (side : Side)
    (is : IsRead connectors answers In vary side) where
  pub reply-sound : (text : List ℕ) (r : Reply R) → reply_value connectors answers vary side text ≡ Some r
      → (line_of (reply_words connectors answers vary r) ≡ text) × IsReply connectors In r
  reply-sound text r h = chosen (is_spaced text) (reply_at connectors answers vary side (words_of text)) None r
      (λ spaced read.
      let f = is.forth (words_of text) r read in
      (ap line_of f.0 ∙ spaced-line text spaced, f.1)) (λ _ none. not_some r none) h

  -- the words of a reply in range are words
  some-words : (r : Reply R) (o : Option (Reply R))
      → reply_at connectors answers vary side (reply_words connectors answers vary r) ≡ o
      → IsSome o → list_all is_word (reply_words connectors answers vary r) ≡ true
  some-words r None e some = absurd (cc)
  some-words r (Some other) e some = (is.forth (reply_words connectors answers vary r) other e).2

  pub reply-good : (r : Reply R) → IsReply connectors In r
      → list_all is_word (reply_words connectors answers vary r) ≡ true
  reply-good r h = some-words r (reply_at connectors answers vary side (reply_words connectors answers vary r)) refl
      (is.some r h)

  pub reply-told : (text : List ℕ) (r : Reply R) → IsReply connectors In r
      → line_of (reply_words connectors answers vary r) ≡ text
      → reply_value connectors answers vary side text
      ≡ reply_at connectors answers vary side (reply_words connectors answers vary r)
  reply-told text r h e =
      let ws = reply_words connectors answers vary r in
      let words = reply-good r h in
      let spaced : is_spaced text ≡ true = sym (ap is_spaced e) ∙ line-spaced ws words in
      let same : words_of text ≡ ws = sym (ap words_of e) ∙ words-back ws (are-good ws words) in
      rw (spaced, same) refl
