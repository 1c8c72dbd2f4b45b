-- A script can be run.
use Rattle.plex_run.proofs.Imports.{arith, ◌≡◌, Option, Some, None, option_map, refl, IsTrue, Kind, StrForm, ConnId, AnyAsk, Act, Line, Script, is_ask_of, IsWellFormed, IsLineOf, IsActOf, MayAskAny, IsAskOf, IsRunnable, IsRunnableLine, IsRunnableAct}
use Rattle.plex_agent.specs.PlexBoard.RunShown.Kinds as kinds

-- ---- lists

pub none_mapped : {X Y : Type 0} (f : X → Y) (o : Option X) → option_map f o ≡ None → o ≡ None
none_mapped f None h = refl
none_mapped f (Some x) h = absurd (cc)

-- ---- lines

may_ask : (by : ConnId) (asked : AnyAsk) → MayAskAny by asked → kinds.MayAskAny by asked
may_ask by (AnyAsk.Cache asked) may = may
may_ask by (AnyAsk.List asked) may = may
may_ask by (AnyAsk.Lock asked) may = may

ask_of : (k : Kind) (asked : AnyAsk) → IsTrue (is_ask_of k asked) → IsAskOf k asked
ask_of Kind.Cache (AnyAsk.Cache asked) h = tt
ask_of (Kind.List headers locks refs) (AnyAsk.List asked) h = tt
ask_of Kind.Lock (AnyAsk.Lock asked) h = tt
ask_of _ _ h = absurd cc

runnable_act : (form : StrForm) (by : ConnId) (a : Act) → IsActOf form.kind by a → IsRunnableAct form by a
runnable_act form by (Act.Call asked) may = (ask_of form.kind asked may.0, may_ask by asked may.1)
runnable_act form by Act.Events may = tt
runnable_act form by Act.Post may = tt
runnable_act form by Act.Take may = tt
runnable_act form by _ may = may

runnable_line : (script : Script) (line : Line) → IsLineOf script line → IsRunnableLine script line
runnable_line script line of = grind (arith, runnable_act)

-- ---- the whole

pub runnable : (script : Script) → IsWellFormed script → IsRunnable script
runnable script well = grind (arith, runnable_line)
