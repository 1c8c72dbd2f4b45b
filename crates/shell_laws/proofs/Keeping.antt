-- What is to be shown of what holds after every history.
use Rattle.shell_laws.proofs.Imports.{◌≡◌, Bool, List, [], ◌∷◌, ◌++◌, None, Some, Caps, StrForm, ConnId, Entry, Meaning, replay, shape_of, Leaver, accepted_as, IsQuiet, IsDeparture, IsReturn, IsGone}

module _ {C R I S : Type 0} (meaning : Meaning C R I S) (form : StrForm) where
  -- of a content alone: the empty one has it, and each step, departure, return and end of registrations keeps it
  pub record IsKept (P : S → Type 0) : Type 0 where
    pub empty : P (meaning.empty (shape_of form))
    pub done : (caps : Caps) (state : S) (by : ConnId) (command : C) → meaning.cause (shape_of form)
        caps state by command ≡ None → P state → P (meaning.done (shape_of form) caps state by command).state
    pub leave : (state : S) (conn : ConnId) (keep : Bool) → P state
        → P (meaning.leave (shape_of form) state conn keep).state
    pub back : (state : S) (conn : ConnId) → P state → P (meaning.back state conn)
    pub forget : (state : S) → P state → P (meaning.forget state)

  -- of a history and the content that it leaves: it holds before the first entry, and each entry keeps it, in whichever
  -- way it changes the content
  pub record IsTraced (P : List (Entry C R) → S → Type 0) : Type 0 where
    pub none : P [] (meaning.empty (shape_of form))
    pub done : (history : List (Entry C R)) (entry : Entry C R) (command : C)
        → let before = replay meaning form history in
        let outcome = meaning.done (shape_of form) before.shell.caps before.content entry.by command in
        accepted_as entry.what entry.reply ≡ Some (record { command = command; answer = outcome.reply })
        → meaning.cause (shape_of form) before.shell.caps before.content entry.by command ≡ None
        → P history before.content → P (history ++ entry ∷ []) outcome.state
    pub same : (history : List (Entry C R)) (entry : Entry C R) (state : S) → IsQuiet meaning form entry
        → P history state → P (history ++ entry ∷ []) state
    pub leave : (history : List (Entry C R)) (entry : Entry C R) (who : Leaver) (state : S) → IsQuiet meaning form entry
        → IsDeparture meaning form history entry who → P history state
        → P (history ++ entry ∷ []) (meaning.leave (shape_of form) state who.conn who.keep).state
    pub back : (history : List (Entry C R)) (entry : Entry C R) (state : S) → IsQuiet meaning form entry → IsReturn meaning form entry
        → P history state → P (history ++ entry ∷ []) (meaning.back state entry.by)
    pub forget : (history : List (Entry C R)) (entry : Entry C R) (state : S) → IsQuiet meaning form entry
        → P history state → P (history ++ entry ∷ []) (meaning.forget state)
    pub clear : (history : List (Entry C R)) (entry : Entry C R) (state : S) → IsQuiet meaning form entry → IsGone meaning form history entry
        → P history state → P (history ++ entry ∷ []) (meaning.empty (shape_of form))
