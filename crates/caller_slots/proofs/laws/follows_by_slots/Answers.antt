use Rattle.caller_slots.proofs.FollowLaws.{follows_works, works_follow}
use Rattle.caller_slots.proofs.SlotLaws.{works_filled, filled_works}
use Rattle.caller_slots.proofs.laws.follows_by_slots.Goals as goal

pub returns : goal.returns
returns c = (
  λ follows. works_filled c.args.script.now c.args.histories.now c.args.conn c.requires.structures c.requires.known
      c.requires.rising c.args.items.now
      (follows_works c.args.script.now c.args.histories.now c.args.conn c.args.items.now follows),
  λ filled. works_follow c.args.script.now c.args.histories.now c.args.conn c.args.items.now
      (filled_works c.args.script.now c.args.histories.now c.args.conn c.requires.structures c.requires.known
      c.requires.rising c.args.items.now filled),
)
