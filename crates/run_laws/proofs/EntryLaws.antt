-- A command asks for the records alone.
use Rattle.run_laws.proofs.Imports.{arith, ◌≡◌, List, [], ◌∷◌, refl, ap, ◌∙◌, Caps, LockCmd, ConnId, Shape, step_at, replies_of}
use Rattle.lock_model.specs.{Contents.Content, Step.cause}

cause_agrees : (a b : Caps) → a.elements ≡ b.elements → (content : Content) (by : ConnId) (cmd : LockCmd)
    → cause a content by cmd ≡ cause b content by cmd
cause_agrees a b e content by _ = grind arith

pub step_agrees : (a b : Caps) → a.elements ≡ b.elements → (one other : Shape) (content : Content) (by : ConnId)
    (cmd : LockCmd) → step_at a one content by cmd ≡ step_at b other content by cmd
step_agrees a b e one other content by cmd = grind (arith, cause_agrees)

pub replies_agree : (a b : Caps) → a.elements ≡ b.elements → (one other : Shape) (content : Content)
    (commands : List (ConnId × LockCmd)) → replies_of a one content commands ≡ replies_of b other content commands
replies_agree a b e one other content [] = refl
replies_agree a b e one other content (command ∷ commands) =
    let same = step_agrees a b e one other content command.0 command.1 in
    ap (λ step. step.reply ∷ replies_of a one step.state commands) same
    ∙ ap (λ l. (step_at b other content command.0 command.1).reply ∷ l)
    (replies_agree a b e one other (step_at b other content command.0 command.1).state commands)
