use Rattle.std.proofs.Common.{◌≡◌, sym, subst, ◌∙◌}
use Rattle.plex_script.specs.declared.asks.AnyHistory.TheVariants as history
use Rattle.report_read.specs.Histories.{AreBehind}
use Rattle.report_read.proofs.HistoryLaws.{locks_behind}
use Rattle.report_read.proofs.histories.lock_history.Goals as goal

pub returns-clause-read : goal.returns-clause-read
returns-clause-read c =
    let same : c.from_vec.result ≡ c.in_ok-entries.entries = c.from_vec.ensures ∙ c.into_vec.ensures in
    subst (λ (xs : _). AreBehind c.args.script.now c.args.text.now c.args.from c.args.on.0 c.args.n
    (history.Lock xs) c.in_ok-entries.to) (sym same) (locks_behind c.args.script.now c.args.text.now c.args.from
    c.args.on c.args.n c.in_ok-entries.to c.in_ok-entries.entries c.requires.kind c.in_ok-entries.ensures.read)
