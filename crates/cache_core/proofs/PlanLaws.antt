-- What a plan that isn't refused says.
use Rattle.cache_core.proofs.Imports.{EngineView, arith, ◌≡◌, ℕ, ◌<◌, List, ◌∷◌, cond, leb, Option, None, Some, Result, Ok, Err, refl, sym, ap, ◌∙◌, subst, OnOk, OnErr, cases_lt, le-leb, first_refusal, Caps, ConnId, Refusal, CacheCmd, Read, Write, CacheReply, CacheItem, IsDirectory, Content, cause, request_spared, Plan, plan_unless, plan_for, IsSpared, IsIndexed}
use Rattle.cache_model.specs.Commands.Read as read
use Rattle.cache_model.specs.Step.{victims}

-- the plan that is taken is the one that was wanted
pub plan_taken : (taken kept : Option Plan) (plan wanted : Plan) → taken ≡ kept → taken ≡ Some plan
    → kept ≡ Some wanted → plan ≡ wanted
plan_taken taken kept plan wanted e f g = let same : Some plan ≡ Some wanted = sym f ∙ e ∙ g in cc

pub record IsAccepted (vector : ℕ) (caps : Caps) (content : Content) (by : ConnId) (cmd : CacheCmd) (plan : Plan) :
    Type 0 where
  pub none : cause vector caps content by cmd ≡ None
  pub gone : plan.gone ≡ victims caps content.rows cmd

accepted_step : (vector : ℕ) (caps : Caps) (content : Content) (by : ConnId) (cmd : CacheCmd)
    (plan : Plan) (told : CacheReply) (o : Option Refusal) → cause vector caps content by cmd ≡ o
    → plan ≡ plan_unless o caps content by cmd → plan.reply ≡ Ok told → IsAccepted vector caps content by cmd plan
accepted_step vector caps content by cmd plan told None e is h = grind arith
accepted_step vector caps content by cmd plan told (Some refusal) e is h =
    let wrong : Ok told ≡ Err refusal = sym h ∙ ap (λ (p : Plan). p.reply) is in absurd (cc)

pub plan_accepted : (vector : ℕ) (caps : Caps) (content : Content) (by : ConnId) (cmd : CacheCmd) (plan : Plan)
    (told : CacheReply)
    → plan ≡ plan_for vector caps content by cmd → plan.reply ≡ Ok told → IsAccepted vector caps content by cmd plan
plan_accepted vector caps content by cmd plan told is h = grind (arith, accepted_step)

-- the plan that was made for the command is taken
pub taken_accepted : (seen view : EngineView) (by : ConnId)
    (cmd : CacheCmd) (taken : Option Plan) (plan : Plan) (told : CacheReply) → seen ≡ view → view.plan ≡ Some
    (plan_for view.held.shape.vector view.held.caps view.held.state by cmd) → taken ≡ seen.plan → taken ≡ Some plan
    → plan.reply ≡ Ok told → IsAccepted seen.held.shape.vector seen.held.caps seen.held.state by cmd plan
taken_accepted seen view by cmd taken plan told is planned took some fine = plan_accepted
    _ _ _ _ _ _ told (plan_taken taken seen.plan plan _ took some (subst (λ (s : EngineView). s.plan ≡ Some
    (plan_for s.held.shape.vector s.held.caps s.held.state by cmd)) (sym is) planned)) fine

-- a command's own name isn't reclaimed for it
pub spared_victims : (caps : Caps) (rows : List CacheItem) (cmd : CacheCmd) → IsDirectory rows
    → IsSpared (victims caps rows cmd) cmd
spared_victims caps rows (Read name index old stg) is = request_spared caps (read.request name stg) rows is
spared_victims caps rows (Write name index body class adj old stg when_reg) is = request_spared _ _ _ is
spared_victims caps rows _ is = tt

-- what holds either way
pub either_way : {X E Y : Type 0} (P : Y → Type 0) (r : Result X E) (old more now : Y)
    → OnOk r (now ≡ more) → OnErr r (now ≡ old) → P more → P old → P now
either_way P (Ok x) old more now e f a b = subst P (sym e) a
either_way P (Err x) old more now e f a b = subst P (sym f) b

first_none : (cause : Option Refusal) (causes : List (Option Refusal)) → first_refusal (cause ∷ causes) ≡ None
    → cause ≡ None
first_none None causes h = refl
first_none (Some refusal) causes h = absurd (cc)

below : (vector index : ℕ) (refusal : Refusal) (other : Option Refusal)
    → cond (leb vector index) (Some refusal) other ≡ None → index < vector
below vector index refusal other h = grind (arith, cases_lt, le-leb)

-- where a command isn't refused, its index is one of the vector's
pub indexed : (vector : ℕ) (caps : Caps) (content : Content) (by : ConnId) (cmd : CacheCmd)
    → cause vector caps content by cmd ≡ None → IsIndexed vector cmd
indexed vector caps content by (Read name index old stg) h = below vector index _ _ (first_none _ _ h)
indexed vector caps content by (Write name index body class adj old stg when_reg) h = grind (arith, below, first_none)
indexed vector caps content by _ h = tt
