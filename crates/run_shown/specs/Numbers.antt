-- The numbers that a caller's items show of a structure.
use Rattle.std.specs.Prelude.{ℕ, ◌==◌, if◌then◌else◌, List, fold, max, Option, None, Some}
use Rattle.std.specs.List.{filter_map}
use Rattle.plex_script.specs.CfTypes.declared.numbers.StrNo.{StrNo}
use Rattle.plex_script.specs.declared.transcripts.Shown.{Shown}
use Rattle.plex_script.specs.declared.transcripts.Shown.TheVariants as shown

-- the number that an item on a structure shows
abbrev pub shown_on : StrNo → Shown → Option ℕ
shown_on on (shown.Call place number) = if place.0 == on.0 then Some number else None
shown_on on (shown.Test place index bit at) = if place.0 == on.0 then Some at else None
shown_on on (shown.Word place word bits at) = if place.0 == on.0 then Some at else None
shown_on on (shown.BadIndex place index word len) = None
shown_on on (shown.Posted place sure) = if place.0 == on.0 then Some sure else None
shown_on on (shown.Took place sure) = if place.0 == on.0 then Some sure else None

-- the greatest number that items show of a structure, 0 if there is none
abbrev pub seen_on : StrNo → List Shown → ℕ
seen_on on items = fold max 0 (filter_map (shown_on on) items)
