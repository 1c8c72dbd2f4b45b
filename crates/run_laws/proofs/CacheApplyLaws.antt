-- A command after others: copies are fresh, and changed pages that aren't cast out are kept.
use Rattle.run_laws.proofs.Imports.{arith, ◌≡◌, ℕ, List, [], ◌∷◌, ◌++◌, refl, sym, subst, CacheCmd, ConnId, Held, Content, no_content, Deed, Copies, after_deed, after_run, Calls, orderly-run, orderly-nothing, fresh-copy, uncast-kept, IsHeldAfter, content_applied, copies_then, uncast_then, AreFresh, AreKept, IsUnique}
use Rattle.run_laws.proofs.UniqueLaws.{unique-content}

after_run-push : (vector : ℕ) (content : Content) (deeds : List Deed) (deed : Deed)
    → after_run vector content (deeds ++ deed ∷ []) ≡ after_deed vector (after_run vector content deeds) deed
after_run-push vector content [] deed = refl
after_run-push vector content (first ∷ deeds) deed =
    after_run-push vector (after_deed vector content first) deeds deed

-- the command is one deed more
applied-run : (held : Held Content) (deeds : List Deed) (by : ConnId) (cmd : CacheCmd) → IsHeldAfter deeds held
    → content_applied held by cmd ≡ after_run held.shape.vector no_content (deeds ++ Calls held.caps by cmd ∷ [])
applied-run held deeds by cmd led = grind (arith, after_run-push)

pub applied_fresh : (held : Held Content) (deeds : List Deed) (by : ConnId) (cmd : CacheCmd) (copies : Copies)
    → IsHeldAfter deeds held → AreFresh (content_applied held by cmd) (copies_then held copies deeds by cmd)
applied_fresh held deeds by cmd copies led = subst (λ (content : Content). AreFresh content (copies_then held copies
    deeds by cmd)) (sym (applied-run held deeds by cmd led)) (grind (arith, fresh-copy))

pub applied_kept : (held : Held Content) (deeds : List Deed) (by : ConnId) (cmd : CacheCmd) → IsHeldAfter deeds held
    → AreKept (content_applied held by cmd) (uncast_then held deeds by cmd)
applied_kept held deeds by cmd led = grind (arith, applied-run, uncast-kept)

pub applied_unique : (held : Held Content) (deeds : List Deed) (by : ConnId) (cmd : CacheCmd) → IsHeldAfter deeds held
    → IsUnique (content_applied held by cmd)
applied_unique held deeds by cmd led = subst IsUnique (sym (applied-run held deeds by cmd led))
    (unique-content _ (orderly-run held.shape.vector no_content (deeds ++ Calls held.caps by cmd ∷ []) orderly-nothing))
