-- Commands on a content that entries tell as done.
use Rattle.std.specs.Prelude.{Option, None, Some}
use Rattle.engine_api.specs.declared.asks.Ask.TheVariants as ask
use Rattle.engine_api.specs.declared.asks.Reply.{Reply}
use Rattle.engine_api.specs.declared.asks.Reply.TheVariants as shown
use Rattle.engine_api.specs.declared.asks.What.{What}
use Rattle.engine_api.specs.declared.asks.What.TheVariants as what

-- a command that was accepted, and its answer
pub record Accepted (C R : Type 0) : Type 0 where
  pub command : C
  pub answer : R

abbrev pub accepted_as : {C R : Type 0} → What C → Reply R → Option (Accepted C R)
accepted_as (what.Call (ask.Content command)) (shown.Content answer) = Some
    (record { command = command; answer = answer })
accepted_as (what.Call (ask.Content command)) (shown.Shell answer) = None
accepted_as (what.Call (ask.Content command)) (shown.Refused refusal) = None
accepted_as (what.Call (ask.Shell command)) answer = None
accepted_as (what.Lost cf) answer = None
