use Rattle.std.proofs.Common.{rules, ◌≡◌, ◌∙◌, Some, option_map, slice_get}
use Rattle.plex_script.specs.PlexSpell.Words.{line_text}
use Rattle.report_fronts.specs.Slots.{policy_lines}
use Rattle.report_read.proofs.PolicyLaws.{policy_goes_on}
use Rattle.report_read.proofs.policy.read_policy.Goals as goal

pub loop-k-preserved : goal.loop-k-preserved
loop-k-preserved c =
    let here : Some c.in-Some.wanted.items
    ≡ option_map line_text (slice_get (policy_lines c.args.script.now) c.loop-k.k) = search rules in
    policy_goes_on c.args.script.now c.args.text.now c.args.from c.loop-k.k c.in-Some.wanted.items
    c.without_feed.result.now c.loop-k.to c.in_ok-to.to c.loop-k.invariant here
    (λ line e. c.without_feed.ensures line (c.as_slice.ensures.value ∙ e)) c.in_ok-to.ensures.read
