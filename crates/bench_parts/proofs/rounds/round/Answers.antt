use Rattle.bench_parts.proofs.Imports.{◌++◌, ◌∷◌, [], true, ap, ◌∙◌, hold, HandSeen}
use Rattle.bench_parts.proofs.Granted.{one-held}
use Rattle.bench_parts.proofs.rounds.round.Goals as goal

pub release-requires-clause-held : goal.release-requires-clause-held
release-requires-clause-held c = one-held c.args.word c.obtain.new.hand.held (ap (λ (h : HandSeen). h.held)
    c.in-Granted.ensures.2 ∙ ap (λ l. l ++ hold c.args.word true ∷ []) c.requires.free.held)
