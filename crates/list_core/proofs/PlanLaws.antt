-- What a plan that isn't refused says.
use Rattle.list_core.proofs.Imports.{arith, ◌≡◌, ℕ, ◌<◌, Option, None, Some, Result, Ok, Err, true, refl, sym, ap, ◌∙◌, subst, OnOk, OnErr, Caps, ConnId, Refusal, At, ListCmd, Write, Update, Move, Delete, LockSet, LockReset, SetLimit, ListReply, Shape, pairwise, Lists, all_records, ids_apart, record_at, Content, IsContent, headers_of, record_refusal, lock_refusal, causes, cause, none_hold, header_there, record_of-at, new-alone, Plan, IsFound, plan_unless, plan_for, IsPossible, content-done, index_there}
use Rattle.cf_types.specs.declared.list_commands.ListCmd.TheVariants.{Monitor}

-- the plan that is taken is the one that was wanted
pub plan_taken : (taken kept : Option Plan) (plan wanted : Plan) → taken ≡ kept → taken ≡ Some plan
    → kept ≡ Some wanted → plan ≡ wanted
plan_taken taken kept plan wanted e f g = let same : Some plan ≡ Some wanted = sym f ∙ e ∙ g in cc

pub record IsAccepted (shape : Shape) (caps : Caps) (content : Content) (by : ConnId) (cmd : ListCmd) (plan : Plan) :
    Type 0 where
  pub none : cause shape caps content by cmd ≡ None

accepted_step : (shape : Shape) (caps : Caps) (content : Content) (by : ConnId) (cmd : ListCmd)
    (plan : Plan) (told : ListReply) (o : Option Refusal) → cause shape caps content by cmd ≡ o
    → plan ≡ plan_unless o content by cmd → plan.reply ≡ Ok told → IsAccepted shape caps content by cmd plan
accepted_step shape caps content by cmd plan told None e is h = record { none = e }
accepted_step shape caps content by cmd plan told (Some refusal) e is h =
    let wrong : Ok told ≡ Err refusal = sym h ∙ ap (λ (p : Plan). p.reply) is in absurd (cc)

pub plan_accepted : (shape : Shape) (caps : Caps) (content : Content) (by : ConnId) (cmd : ListCmd) (plan : Plan)
    (told : ListReply)
    → plan ≡ plan_for shape caps content by cmd → plan.reply ≡ Ok told → IsAccepted shape caps content by cmd plan
plan_accepted shape caps content by cmd plan told is h =
    accepted_step shape caps content by cmd plan told (cause shape caps content by cmd) refl is h

-- ---- what a command names is there

found : (lists : Lists) (at : At) → pairwise ids_apart (all_records lists) ≡ true
    → record_refusal (record_at lists at) ≡ None → IsFound lists at
found lists at apart h = grind (arith, record_of-at)

lock_there : (locks lock : ℕ) → lock_refusal locks lock ≡ None → lock < locks
lock_there locks lock h = grind (arith, header_there)

at_most : (a n m : ℕ) → m ≡ n → a < n → a < m
at_most a n m e h = subst (λ (k : ℕ). a < k) (sym e) h

pub possible : (shape : Shape) (caps : Caps) (content : Content) (by : ConnId) (cmd : ListCmd)
    → IsContent shape caps content → cause shape caps content by cmd ≡ None → IsPossible shape.vector content cmd
possible shape caps content by (Write header head name key body adj cond) is h =
    let none = none_hold (causes shape caps content by (Write header head name key body adj cond)) h in
    (at_most _ _ _ is.headers (header_there (headers_of shape.kind) header none.1.1.0), new-alone shape caps content is)
possible shape caps content by (Update at body adj version cond) is h =
    let none = none_hold (causes shape caps content by (Update at body adj version cond)) h in found content.lists at
    is.one_for_id none.1.1.1.1.0
possible shape caps content by (Move at header head key version cond) is h =
    let none = none_hold (causes shape caps content by (Move at header head key version cond)) h in (
      found content.lists at is.one_for_id none.1.1.1.1.0,
      at_most _ _ _ is.headers (header_there (headers_of shape.kind) header none.1.1.1.1.1.1.0),
    )
possible shape caps content by (Delete at version cond) is h =
    let none = none_hold (causes shape caps content by (Delete at version cond))
    h in found content.lists at is.one_for_id none.1.1.1.1.0
possible shape caps content by (LockSet lock) is h = grind (arith, none_hold, at_most, lock_there)
possible shape caps content by (LockReset lock) is h = grind (arith, none_hold, at_most, lock_there)
possible shape caps content by (SetLimit header n) is h = grind (arith, none_hold, at_most, header_there)
possible shape caps content by (Monitor header index) is h = grind (arith, none_hold, index_there)
possible shape caps content by _ is h = tt

-- what holds either way
pub either_way : {X E Y : Type 0} (P : Y → Type 0) (r : Result X E) (old more now : Y)
    → OnOk r (now ≡ more) → OnErr r (now ≡ old) → P more → P old → P now
either_way P (Ok x) old more now e f a b = subst P (sym e) a
either_way P (Err x) old more now e f a b = subst P (sym f) b

-- what is kept where a plan is done
pub ruleset done_told = (plan_taken, plan_accepted, content-done)
