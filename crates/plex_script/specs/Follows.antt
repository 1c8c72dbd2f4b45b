-- What a caller's transcript has to do with the script and the histories.
use Rattle.std.specs.Prelude.{◌≡◌, ◌≢◌, ◌⊎◌, ℕ, ◌+◌, ◌*◌, ◌≤◌, ◌<◌, ◌==◌, nat_lt, Bool, true, false, if◌then◌else◌, MatchBool, List, [], ◌∷◌, ◌++◌, length, take, filter, fold, map, max, slice_get, Option, None, Some}
use Rattle.std.specs.List.{filter_map}
use Rattle.cf_types.specs.declared.forms.StrForm.{StrForm}
use Rattle.cf_types.specs.declared.forms.Kind.{Kind}
use Rattle.cf_types.specs.declared.numbers.ConnId.{ConnId}
use Rattle.cf_types.specs.declared.numbers.StrNo.{StrNo}
use Rattle.cf_types.specs.declared.shell_commands.ShellCmd.TheVariants as cmd
use Rattle.engine_api.specs.declared.told.Told.{Told}
use Rattle.plex_script.specs.declared.agents.Step.{Step}
use Rattle.plex_script.specs.declared.agents.Step.TheVariants as step
use Rattle.plex_script.specs.declared.scripts.AnyAsk.{AnyAsk}
use Rattle.plex_script.specs.declared.asks.AnyHistory.{AnyHistory}
use Rattle.plex_script.specs.declared.scripts.Act.{Act}
use Rattle.plex_script.specs.declared.scripts.Act.TheVariants as act
use Rattle.plex_script.specs.declared.scripts.Line.{Line}
use Rattle.plex_script.specs.declared.scripts.Script.{Script}
use Rattle.plex_script.specs.declared.transcripts.Shown.{Shown}
use Rattle.plex_script.specs.declared.transcripts.Shown.TheVariants as shown
use Rattle.plex_script.specs.Agent.{first_step, step_after, shell_ask, asked_by, call_of}
use Rattle.plex_script.specs.Heard.{AnyCall, call_numbered, own_calls, is_linked, calls_on, length_on}

-- ---- one line

-- the caller's call with this number asks this, and this is told of it
abbrev pub IsHeard : List AnyCall → ConnId → Option AnyAsk → ℕ → Told → Type 0
IsHeard calls by None number told = ⊥
IsHeard calls by (Some asked) number told = call_numbered number calls ≡ Some
    (record { no = number; by = by; ask = asked; told = told })

-- a step and the steps behind it show these items: the number of each call, which asks what the step asks, and the
-- next step goes by what was told of it
abbrev pub Runs : Kind → Option AnyAsk → List AnyCall → ConnId → StrNo → Step → List Shown → Type 0
Runs kind line calls by on now [] = now ≡ step.Rest
Runs kind line calls by on now (shown.Call place number ∷ items) =
    (told : Told) × (place ≡ on) × IsHeard calls by (asked_by kind line now) number told
    × Runs kind line calls by on (step_after now told) items
Runs kind line calls by on now (_ ∷ items) = ⊥

-- the same up to a next call
abbrev pub RunsUpTo : Kind → Option AnyAsk → List AnyCall → ConnId → StrNo → Step → List Shown → Type 0
RunsUpTo kind line calls by on now [] = (asked : AnyAsk) × (asked_by kind line now ≡ Some asked)
RunsUpTo kind line calls by on now (shown.Call place number ∷ items) =
    (told : Told) × (place ≡ on) × IsHeard calls by (asked_by kind line now) number told
    × RunsUpTo kind line calls by on (step_after now told) items
RunsUpTo kind line calls by on now (_ ∷ items) = ⊥

-- a test shows a bit with a number; where the index, or the word, isn't in the vector, it shows that
abbrev pub ShowsTest : StrForm → StrNo → ℕ → List Shown → Type 0
ShowsTest form on index items =
    MatchBool (nat_lt index form.vector)
    ((bit : Bool) × ((at : ℕ) × (items ≡ shown.Test on index bit at ∷ [])))
    (items ≡ shown.BadIndex on index false form.vector ∷ [])

abbrev pub ShowsWord : StrForm → StrNo → ℕ → List Shown → Type 0
ShowsWord form on word items =
    MatchBool (nat_lt (32 * word) form.vector)
    ((bits : ℕ) × ((at : ℕ) × (items ≡ shown.Word on word bits at ∷ [])))
    (items ≡ shown.BadIndex on word true form.vector ∷ [])

-- the items that a line's act shows
abbrev pub ShowsAct : StrForm → List AnyCall → ConnId → StrNo → ℕ → Act → List Shown → Type 0
ShowsAct form calls by on retry (act.Call asked) items = Runs form.kind (Some asked) calls by on (step.Call retry)
    items
ShowsAct form calls by on retry act.Events items = Runs form.kind None calls by on (first_step act.Events retry) items
ShowsAct form calls by on retry (act.Test index) items = ShowsTest form on index items
ShowsAct form calls by on retry (act.TestWord word) items = ShowsWord form on word items
ShowsAct form calls by on retry act.Post items = (sure : ℕ) × (items ≡ shown.Posted on sure ∷ [])
ShowsAct form calls by on retry act.Take items = (sure : ℕ) × (items ≡ shown.Took on sure ∷ [])

-- ---- the lines of a caller, and its closing

-- the lines of one caller
abbrev pub lines_of : Script → ConnId → List Line
lines_of script conn = filter (λ line. line.by.0 == conn.0) script.lines

-- the lines of a caller show these items, one line after another
abbrev pub ShowsLines : List StrForm → List AnyHistory → List Line → List Shown → Type 0
ShowsLines forms histories [] items = items ≡ []
ShowsLines forms histories (line ∷ lines) items =
    (form : StrForm) × ((first : List Shown) × ((others : List Shown) × (slice_get forms line.on.0 ≡ Some form)
    × (items ≡ first ++ others) × ShowsAct form (calls_on histories line.on) line.by line.on line.retry line.act first
    × ShowsLines forms histories lines others))

-- the numbers of the calls on a structure that items show
abbrev pub number_on : StrNo → Shown → Option ℕ
number_on on (shown.Call place number) = if place.0 == on.0 then Some number else None
number_on on (shown.Test place index bit at) = None
number_on on (shown.Word place word bits at) = None
number_on on (shown.BadIndex place index word len) = None
number_on on (shown.Posted place sure) = None
number_on on (shown.Took place sure) = None

abbrev pub numbers_on : StrNo → List Shown → List ℕ
numbers_on on items = filter_map (number_on on) items

-- whether a connector is active at a structure, by what it was told of the calls that the items show
abbrev pub is_linked_by : List AnyCall → ConnId → StrNo → List Shown → Bool
is_linked_by calls conn on items = is_linked (take (length (numbers_on on items)) (own_calls calls conn))

-- a connector departs from each structure at which it is active once its lines are done, in the order of the
-- structures. The operator has no closing
abbrev pub ShowsClosing : StrForm → List AnyCall → ConnId → StrNo → List Shown → List Shown → Type 0
ShowsClosing form calls conn on before items =
    MatchBool (is_linked_by calls conn on before)
    (Runs form.kind (Some (shell_ask form.kind cmd.Disconnect)) calls conn on (step.Call 0) items)
    (items ≡ [])

abbrev pub ShowsClosings : List AnyHistory → ConnId → ℕ → List StrForm → List Shown → List Shown → Type 0
ShowsClosings histories conn on [] before items = items ≡ []
ShowsClosings histories conn on (form ∷ forms) before items =
    (first : List Shown) × ((others : List Shown) × (items ≡ first ++ others)
    × ShowsClosing form (calls_on histories (record { 0 = on })) conn (record { 0 = on }) before first
    × ShowsClosings histories conn (on + 1) forms before others)

-- ---- what posts and takes may show

-- the number of a call, a POST or a TAKE on a structure
abbrev pub sure_on : StrNo → Shown → Option ℕ
sure_on on (shown.Call place number) = if place.0 == on.0 then Some number else None
sure_on on (shown.Test place index bit at) = None
sure_on on (shown.Word place word bits at) = None
sure_on on (shown.BadIndex place index word len) = None
sure_on on (shown.Posted place sure) = if place.0 == on.0 then Some sure else None
sure_on on (shown.Took place sure) = if place.0 == on.0 then Some sure else None

-- the greatest of them, 0 if there is none
abbrev pub surest_on : StrNo → List Shown → ℕ
surest_on on items = fold max 0 (filter_map (sure_on on) items)

-- a POST and a TAKE show a number that isn't before what was shown, and that the history has reached
abbrev pub IsNote : List AnyHistory → List Shown → Shown → Type 0
IsNote histories before (shown.Posted place sure) = (surest_on place before ≤ sure)
    × (sure ≤ length_on histories place)
IsNote histories before (shown.Took place sure) = (surest_on place before ≤ sure) × (sure ≤ length_on histories place)
IsNote histories before (shown.Call place number) = Unit {0}
IsNote histories before (shown.Test place index bit at) = Unit {0}
IsNote histories before (shown.Word place word bits at) = Unit {0}
IsNote histories before (shown.BadIndex place index word len) = Unit {0}

-- ---- the whole

-- what holds of a transcript however it ends: for each structure the numbers of its calls are those of the caller's
-- own calls, each once and in order; and what it shows of notes is right
pub record AgreesWith (histories : List AnyHistory) (conn : ConnId) (items : List Shown) : Type 0 where
  pub numbers : (on : StrNo) → on.0 < length histories
      → numbers_on on items ≡ map (λ call. call.no) (own_calls (calls_on histories on) conn)
  pub notes : (k : ℕ) (item : Shown) → slice_get items k ≡ Some item → IsNote histories (take k items) item

-- a transcript follows the script: its items are, in order, what the caller's lines and then its closing give
pub record Follows (script : Script) (histories : List AnyHistory) (conn : ConnId) (items : List Shown) : Type 0 where
  pub during : List Shown
  pub after : List Shown
  pub shows : items ≡ during ++ after
  pub lines : ShowsLines script.structures histories (lines_of script conn) during
  pub closings : MatchBool (conn.0 == 0) (after ≡ []) (ShowsClosings histories conn 0 script.structures during after)
  pub agrees : AgreesWith histories conn items

-- a transcript stops at a structure whose journal is full: its items are those up to a next call, which is one of
-- this structure
pub record StopsInLine (script : Script) (histories : List AnyHistory) (conn : ConnId) (items : List Shown)
    (on : StrNo) : Type 0 where
  pub before : List Line
  pub line : Line
  pub later : List Line
  pub lines : lines_of script conn ≡ before ++ line ∷ later
  pub there : line.on ≡ on
  pub form : StrForm
  pub known : slice_get script.structures on.0 ≡ Some form
  pub during : List Shown
  pub last : List Shown
  pub shows : items ≡ during ++ last
  pub played : ShowsLines script.structures histories before during
  pub stopped : RunsUpTo form.kind (call_of line.act) (calls_on histories on) conn on (first_step line.act line.retry)
      last

pub record StopsInClosing (script : Script) (histories : List AnyHistory) (conn : ConnId) (items : List Shown)
    (on : StrNo) : Type 0 where
  pub during : List Shown
  pub after : List Shown
  pub shows : items ≡ during ++ after
  pub lines : ShowsLines script.structures histories (lines_of script conn) during
  pub connector : conn.0 ≢ 0
  pub within : on.0 < length script.structures
  pub closings : ShowsClosings histories conn 0 (take on.0 script.structures) during after
  pub linked : is_linked_by (calls_on histories on) conn on during ≡ true

pub record Stops (limit : ℕ) (script : Script) (histories : List AnyHistory) (conn : ConnId) (items : List Shown)
    (on : StrNo) : Type 0 where
  pub at : StopsInLine script histories conn items on ⊎ StopsInClosing script histories conn items on
  pub agrees : AgreesWith histories conn items
  pub full : limit ≤ length_on histories on
