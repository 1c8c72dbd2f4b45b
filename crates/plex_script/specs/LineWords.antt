-- The words of the lines that do something, behind who and structure.
use Rattle.std.specs.Prelude.{◌≡◌, ℕ, ◌==◌, Bool, true, false, not, IsTrue, if◌then◌else◌, List, [], ◌∷◌, ◌++◌, Option, None, codes}
use Rattle.cf_types.specs.declared.limits.TheConstants.{RETRIES}
use Rattle.cf_types.specs.declared.numbers.ConnId.{ConnId}
use Rattle.cf_types.specs.declared.forms.Kind.{Kind}
use Rattle.cf_types.specs.declared.forms.Kind.TheVariants as kind
use Rattle.engine_api.specs.declared.asks.Ask.TheVariants.{Shell, Content}
use Rattle.plex_plain.specs.PlexSpell.declared.rigour.Rigour.{Rigour}
use Rattle.plex_plain.specs.PlexSpell.Tokens.{Declared, Token, Spells}
use Rattle.plex_plain.specs.PlexSpell.Tokens.Token.{Literal, Number}
use Rattle.plex_plain.specs.PlexSpell.Fields.{number}
use Rattle.plex_plain.specs.PlexSpell.ShellWords.{shell_tokens, may_give, is_operator}
use Rattle.plex_plain.specs.PlexSpell.AlterWords.{alter_tokens, IsAlterGiven}
use Rattle.plex_plain.specs.PlexSpell.QueueWords.{queue_tokens, IsQueueLine}
use Rattle.plex_plain.specs.PlexSpell.LockWords.{lock_tokens}
use Rattle.plex_script.specs.declared.scripts.AnyAsk.{AnyAsk}
use Rattle.plex_script.specs.declared.scripts.AnyAsk.TheVariants as any
use Rattle.plex_script.specs.declared.scripts.Act.{Act}
use Rattle.plex_script.specs.declared.scripts.Act.TheVariants.{Call, Test, TestWord, Post, Take, Events}

-- a call, with the storage class that is written out, if one is
abbrev pub ask_tokens : Option ℕ → AnyAsk → List Token
ask_tokens given (any.Cache (Shell cmd)) = shell_tokens cmd
ask_tokens given (any.Cache (Content cmd)) = alter_tokens given cmd
ask_tokens given (any.List (Shell cmd)) = shell_tokens cmd
ask_tokens given (any.List (Content cmd)) = queue_tokens cmd
ask_tokens given (any.Lock (Shell cmd)) = shell_tokens cmd
ask_tokens given (any.Lock (Content cmd)) = lock_tokens cmd

abbrev pub act_tokens : Option ℕ → Act → List Token
act_tokens given (Call ask) = ask_tokens given ask
act_tokens given (Test index) = Literal (codes "TEST") ∷ number index ∷ []
act_tokens given (TestWord word) = Literal (codes "TESTWORD") ∷ number word ∷ []
act_tokens given Post = Literal (codes "POST") ∷ []
act_tokens given Take = Literal (codes "TAKE") ∷ []
act_tokens given Events = Literal (codes "EVENTS") ∷ []

-- a call that is asked again while a rebuild holds it up
abbrev pub retry_tokens : ℕ → List Token
retry_tokens retry = if retry == 0 then [] else Literal (codes "RETRY") ∷ Number 1 RETRIES retry ∷ []

-- who may ask it; each content command comes from a connector
abbrev pub MayAsk : ConnId → Option ℕ → AnyAsk → Type 0
MayAsk by given (any.Cache (Shell cmd)) = IsTrue (may_give by cmd) × (given ≡ None)
MayAsk by given (any.Cache (Content cmd)) = IsTrue (not (is_operator by)) × IsAlterGiven given cmd
MayAsk by given (any.List (Shell cmd)) = IsTrue (may_give by cmd) × (given ≡ None)
MayAsk by given (any.List (Content cmd)) = IsTrue (not (is_operator by)) × IsQueueLine cmd × (given ≡ None)
MayAsk by given (any.Lock (Shell cmd)) = IsTrue (may_give by cmd) × (given ≡ None)
MayAsk by given (any.Lock (Content cmd)) = IsTrue (not (is_operator by)) × (given ≡ None)

-- the call is one of a structure of the kind
abbrev pub is_ask_of : Kind → AnyAsk → Bool
is_ask_of kind.Cache (any.Cache ask) = true
is_ask_of (kind.List headers locks refs) (any.List ask) = true
is_ask_of kind.Lock (any.Lock ask) = true
is_ask_of kind.Cache (any.List ask) = false
is_ask_of kind.Cache (any.Lock ask) = false
is_ask_of (kind.List headers locks refs) (any.Cache ask) = false
is_ask_of (kind.List headers locks refs) (any.Lock ask) = false
is_ask_of kind.Lock (any.Cache ask) = false
is_ask_of kind.Lock (any.List ask) = false

-- lock structures have no vectors
abbrev pub has_vectors : Kind → Bool
has_vectors kind.Cache = true
has_vectors (kind.List headers locks refs) = true
has_vectors kind.Lock = false

-- who may do it, at a structure of which kind; only a call is asked again
abbrev pub MayDo : ConnId → Kind → Option ℕ → Act → ℕ → Type 0
MayDo by kind given (Call ask) retry = IsTrue (is_ask_of kind ask) × MayAsk by given ask
MayDo by kind given (Test index) retry =
    IsTrue (has_vectors kind) × IsTrue (not (is_operator by)) × (given ≡ None) × (retry ≡ 0)
MayDo by kind given (TestWord word) retry =
    IsTrue (has_vectors kind) × IsTrue (not (is_operator by)) × (given ≡ None) × (retry ≡ 0)
MayDo by kind given Post retry = IsTrue (not (is_operator by)) × (given ≡ None) × (retry ≡ 0)
MayDo by kind given Take retry = IsTrue (not (is_operator by)) × (given ≡ None) × (retry ≡ 0)
MayDo by kind given Events retry = IsTrue (not (is_operator by)) × (given ≡ None) × (retry ≡ 0)

-- the words say that this caller does this at a structure of this kind
pub record SaysDone (rigour : Rigour) (declared : Declared) (by : ConnId) (kind : Kind) (words : List (List ℕ))
    (act : Act) (retry : ℕ) : Type 0 where
  pub given : Option ℕ
  pub allowed : MayDo by kind given act retry
  pub spelled : Spells rigour declared (act_tokens given act ++ retry_tokens retry) words []
