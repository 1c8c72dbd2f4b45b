-- Tests that show a valid copy, in the transcripts of a run: each tells a fresh one.
use Rattle.std.specs.Prelude.{◌≡◌, ℕ, ◌+◌, ◌*◌, ◌<◌, Bool, true, List, take, slice_get, Some}
use Rattle.cf_types.specs.declared.forms.StrForm.{StrForm}
use Rattle.cf_types.specs.declared.numbers.ConnId.{ConnId}
use Rattle.cf_types.specs.declared.numbers.StrNo.{StrNo}
use Rattle.run_laws.specs.Copies.{TellsFresh}
use Rattle.run_laws.specs.CacheHistories.{CacheHistory}
use Rattle.plex_script.specs.declared.asks.AnyHistory.{AnyHistory}
use Rattle.plex_script.specs.declared.asks.AnyHistory.TheVariants as history
use Rattle.plex_script.specs.declared.scripts.Script.{Script}
use Rattle.plex_script.specs.declared.transcripts.Shown.{Shown}
use Rattle.plex_script.specs.declared.transcripts.Shown.TheVariants as shown
use Rattle.plex_script.specs.declared.transcripts.Transcript.{Transcript}
use Rattle.plex_script.specs.Follows.{surest_on}
use Rattle.run_shown.specs.Headline.{place_of, word_of}

-- a test of one bit that shows that it stands tells a fresh copy, to a connector that has these items before it
abbrev pub BitTellsFresh : StrForm → CacheHistory → ConnId → StrNo → List Shown → ℕ → ℕ → Bool → Type 0
BitTellsFresh form entries conn on before at index bit =
    bit ≡ true → TellsFresh form entries at (surest_on on before) conn index

-- a test of a word is 32 tests of its bits
pub record WordTellsFresh (form : StrForm) (entries : CacheHistory) (conn : ConnId) (on : StrNo) (before : List Shown)
    (at word value : ℕ) : Type 0 where
  pub bits : ℕ → Bool
  pub made : value ≡ word_of form.vector word bits
  pub each : (k : ℕ) → k < 32 → 32 * word + k < form.vector
      → BitTellsFresh form entries conn on before at (32 * word + k) (bits k)

-- what an item of a caller tells of the copies that it has of a cache's pages
abbrev pub TellsFreshBy : StrForm → CacheHistory → ConnId → StrNo → List Shown → Shown → Type 0
TellsFreshBy form entries conn on before (shown.Test place index bit at) =
    BitTellsFresh form entries conn on before at index bit
TellsFreshBy form entries conn on before (shown.Word place word bits at) =
    WordTellsFresh form entries conn on before at word bits
TellsFreshBy form entries conn on before _ = Unit {0}

-- each test of a cache that the transcripts show tells fresh copies where it tells that bits stand
abbrev pub ShowsFresh : Script → List AnyHistory → List Transcript → Type 0
ShowsFresh script histories transcripts =
    (c k : ℕ) (transcript : Transcript) (item : Shown) (form : StrForm) (entries : CacheHistory)
    → slice_get transcripts c ≡ Some transcript → slice_get transcript.items k ≡ Some item
    → slice_get script.structures (place_of item).0 ≡ Some form
    → slice_get histories (place_of item).0 ≡ Some (history.Cache entries)
    → TellsFreshBy form entries (record { 0 = c }) (place_of item) (take k transcript.items) item
