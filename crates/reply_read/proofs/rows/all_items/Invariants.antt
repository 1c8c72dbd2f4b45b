use Rattle.std.proofs.Common.{◌≡◌, ℕ, List, ◌++◌, length, option_map}
use Rattle.line_rows.specs.Rows.{all_values}
use Rattle.reply_read.proofs.rows.all_items.Given as goal

abbrev pub invariant-loop-word : goal.invariant-loop-word
invariant-loop-word g l = all_values (g.T.OneWord.one l.connectors)
    l.initial.words ≡ option_map (λ more. l.items ++ more) (all_values (g.T.OneWord.one l.connectors) l.words)

abbrev pub decreases-loop-word : goal.decreases-loop-word
decreases-loop-word g l = length l.words
