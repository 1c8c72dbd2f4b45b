-- What is left of the members' work.
use Rattle.std.specs.Prelude.{List}
use Rattle.plex_seat.specs.declared.answers.Answer.{Answer}
use Rattle.plex_seat.specs.Names.{AnyHistory, ConnId, Script, StrNo}
use Rattle.plex_seat.specs.Outcomes.{IsAnswerOf}

-- the first structure of the policy
abbrev pub locks : StrNo
locks = record { 0 = 0 }

-- who recovers, the second connector
abbrev pub recoverer : ConnId
recoverer = record { 0 = 2 }

-- The history of the first structure is one that a single thread could have made, and the reply with the record data is
-- the one that it has for the recoverer's call of that number.
abbrev pub IsOutcome : Script → List AnyHistory → Answer → Type 0
IsOutcome script histories read = IsAnswerOf script histories locks recoverer read
