-- What connectors hold after a history of a cache: where they are registered, what the rows have.
use Rattle.run_laws.proofs.Imports.{arith, ◌≡◌, ℕ, Bool, ◌&&◌, ◌==◌, cond, [], ◌∷◌, ◌++◌, Option, None, Some, unwrap_or, refl, ◌∙◌, subst, fold_push, CacheCmd, Caps, StrForm, ConnId, Refusal, Continues, unless_refused, Content, IsOrderly, cache_meaning, Copy, Copies, Deed, Deed, after_deed, copies_done, copies_unless, copies_after, Calls, Leaves, cause, done, reply as answer_to, Fresh, AllFresh, each_weaker, deed-fresh, IsSeen, traced-replay, traced-seen, legal-answered, copy_at, copy_of, copy_held, cache_in, CacheEntry, CacheHistory, Accepted, acceptance_of, content_after, altered_caches}
use Rattle.run_laws.proofs.Seen.{cache_seen}
use Rattle.run_laws.proofs.UniqueLaws.{orderly-kept}

-- ---- what an entry brings

nothing_brought : (b : Bool) (copy : Copy) → unwrap_or (cond b None None) copy ≡ copy
nothing_brought b copy = grind arith

one_brought : (b at : Bool) (new copy : Copy) → unwrap_or (cond b (cond at (Some new) None) None) copy
    ≡ cond (b && at) new copy
one_brought b at new copy = grind arith

done_brought : (content : Content) (by : ConnId) (cmd : CacheCmd) (copies : Copies) (conn : ConnId) (index : ℕ)
    → unwrap_or (cond (by.0 == conn.0) (copy_at index cmd (answer_to content by cmd)) None) (copies conn index)
    ≡ copies_done content by cmd copies conn index
done_brought content by _ copies conn index = grind (arith, one_brought, nothing_brought)

-- by what the entry tells as accepted
held_told : (history : CacheHistory) (entry : CacheEntry) (told : Option Accepted) → acceptance_of entry ≡ told
    → (conn : ConnId) (index : ℕ) → copy_held (history ++ entry ∷ []) conn index ≡ unwrap_or
    (cond (entry.by.0 == conn.0) (copy_of index told) None) (copy_held history conn index)
held_told history entry told is conn index = grind (arith, fold_push)

-- an entry that tells none brings none
quiet_held : (form : StrForm) (history : CacheHistory) (entry : CacheEntry) → acceptance_of entry ≡ None
    → (conn : ConnId) (index : ℕ) → copy_held (history ++ entry ∷ []) conn index ≡ copy_held history conn index
quiet_held form history entry quiet conn index = held_told history entry None quiet conn index
    ∙ nothing_brought (entry.by.0 == conn.0) (copy_held history conn index)

-- ---- deeds

-- what is held elsewhere doesn't matter
same_copies : (content : Content) (copies others : Copies) → ((conn : ConnId) (index : ℕ)
    → others conn index ≡ copies conn index) → AllFresh content copies → AllFresh content others
same_copies content copies others same all = grind (arith, each_weaker, Fresh)

-- a command that isn't refused
done_fresh : (vector : ℕ) (caps : Caps) (content : Content) (by : ConnId) (cmd : CacheCmd) (copies : Copies)
    → cause vector caps content by cmd ≡ None → IsOrderly content → AllFresh content copies
    → AllFresh (done caps content by cmd).state (copies_done content by cmd copies)
done_fresh vector caps content by cmd copies none is all = subst (λ (refused : Option Refusal). AllFresh
    (unless_refused refused content (done caps content by cmd)).state (copies_unless refused content by cmd copies))
    none (deed-fresh vector content copies (Calls caps by cmd) is.directory all)

quiet_fresh : (form : StrForm) (history : CacheHistory) (entry : CacheEntry) (content : Content)
    → acceptance_of entry ≡ None → AllFresh content (copy_held history)
    → AllFresh content (copy_held (history ++ entry ∷ []))
quiet_fresh form history entry content quiet = same_copies content (copy_held history)
    (copy_held (history ++ entry ∷ [])) (quiet_held form history entry quiet)

-- ---- along a history

-- rows and registrations are in order, and where connectors are registered, they hold what the rows have
record IsTrace (history : CacheHistory) (content : Content) : Type 0 where
  orderly : IsOrderly content
  fresh : AllFresh content (copy_held history)

same_trace : (form : StrForm) (history : CacheHistory) (entry : CacheEntry) (content : Content)
    → acceptance_of entry ≡ None → IsTrace history content → IsTrace (history ++ entry ∷ []) content
same_trace form history entry content quiet is =
    record { orderly = is.orderly; fresh = quiet_fresh form history entry content quiet is.fresh }

quiet_deed : (form : StrForm) (history : CacheHistory) (entry : CacheEntry) (content : Content) (deed : Deed)
    → acceptance_of entry ≡ None → IsTrace history content
    → copies_after form.vector content (copy_held history) deed ≡ copy_held history
    → AllFresh (after_deed form.vector content deed) (copy_held (history ++ entry ∷ []))
quiet_deed form history entry content deed quiet is same = quiet_fresh form history entry _ quiet (subst (AllFresh
    (after_deed form.vector content deed)) same (deed-fresh form.vector content (copy_held history)
    deed is.orderly.directory is.fresh))

traced : (form : StrForm) → IsSeen altered_caches cache_meaning form (cache_seen form) IsTrace
traced form = record {
  none = record { orderly = (orderly-kept form).empty; fresh = tt };
  done = λ history entry at content command told none is. record {
    orderly = (orderly-kept form).done at content entry.by command none is.orderly;
    fresh = same_copies _ (copies_done content entry.by command (copy_held history)) _ (λ conn index.
        held_told history entry _ told conn index ∙ done_brought content entry.by command (copy_held history)
        conn index) (done_fresh form.vector at content entry.by command (copy_held history) none is.orderly is.fresh);
  };
  same = same_trace form;
  leave = λ history entry conn keep content quiet is. record {
    orderly = (orderly-kept form).leave content conn keep is.orderly;
    fresh = quiet_deed form history entry content (Leaves conn) quiet is refl;
  };
  back = λ history entry content quiet is. same_trace form history entry content quiet is;
  forget = grind (arith, orderly-kept, quiet_deed);
  clear = λ history entry content quiet is. record { orderly = (orderly-kept form).empty; fresh = tt };
}

-- where connectors are registered, they hold what the rows have
abbrev pub HasTrace : StrForm → CacheHistory → Type 0
HasTrace form history = AllFresh (content_after form history) (copy_held history)

pub trace-continues : (form : StrForm) (history : CacheHistory) → Continues altered_caches form [] history
    → HasTrace form history
trace-continues form history goes = (traced-replay altered_caches form refl
    (λ before content. IsTrace before (cache_in content))
    (traced-seen altered_caches cache_meaning form (cache_seen form) IsTrace (traced form)) history
    (legal-answered altered_caches form refl history goes)).fresh
