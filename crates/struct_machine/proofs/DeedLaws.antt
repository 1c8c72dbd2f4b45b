-- What a command's deeds name, and what they do.
use Rattle.struct_machine.proofs.Imports.{if◌then◌else◌, ◌≡◌, Bool, true, false, Option, None, Some, IfSome, arith, is_some, Caps, StrForm, ConnId, ShellCmd, IsCaller, Deeds, Room, MayCommand, shape_of, Meaning, Held, new_held, content_after, copied_after, with_back_of, Shell, caps_made, shell_done, rebuild_connect_outcome, Rebuild, Fresh, caps_or, caps_behind, fresh_behind, fresh_caps, fresh_past, held_back, held_made, held_past, copied_in, caps_of, state_in, bits_in, left_in, IsOf, may_change_bits, refl, CfId}

-- ---- whose connection is taken up again

connected_none : (form : StrForm) (shell : Shell) (by : ConnId) (rebuild : Option Rebuild)
    → IfSome (rebuild_connect_outcome form shell by rebuild).deeds.back IsCaller
connected_none form shell by rebuild = grind arith

back_if : (failed : Bool) (by : ConnId) → IsCaller by → IfSome (if failed then Some by else None) IsCaller
back_if failed by caller = grind arith

-- it is a caller
pub back_caller : (form : StrForm) (room : Room) (shell : Shell) (by : ConnId) (command : ShellCmd)
    → MayCommand by command → IfSome (shell_done form room shell by command).deeds.back IsCaller
back_caller form room shell by (ShellCmd.Connect keep) may = grind (arith, back_if)
back_caller form room shell by ShellCmd.RebuildConnect may = connected_none form shell by shell.rebuild
back_caller form room shell by ShellCmd.DuplexStart may = tt
back_caller form room shell by command may = grind arith

-- ---- deeds, all at once

-- an empty instance of this form
abbrev pub IsEmptyOf : {C R I S : Type 0} → Meaning C R I S → StrForm → Caps → Option (Held S) → Type 0
IsEmptyOf meaning form caps empty = empty ≡ Some (new_held meaning (shape_of form) caps)

-- an engine's law: a connection that is taken up again turns no bit
abbrev pub TurnsNone : {C R I S : Type 0} → Meaning C R I S → Type 0
TurnsNone {C} {R} {I} {S} meaning =
    (state : S) (conn : ConnId) → meaning.stands (meaning.back state conn) ≡ meaning.stands state

module _ {C R I S : Type 0} (meaning : Meaning C R I S) (form : StrForm) (caps : Caps) (empty : Option (Held S)) where
  -- how many items the new instance has behind deeds
  pub copied_past : (rebuilding : Bool) (deeds : Deeds) (fresh : Option Fresh)
      → (is_some deeds.make ≡ true → fresh ≡ None) → (is_some deeds.make ≡ true → IsEmptyOf meaning form caps empty)
      → copied_in (fresh_past rebuilding deeds empty fresh) ≡ copied_after deeds (copied_in fresh)
  copied_past rebuilding deeds fresh alone made = grind arith

  -- and its capacity
  pub caps_past : (deeds : Deeds) (shell : Shell) (fresh : Option Fresh) → caps_of fresh ≡ fresh_caps shell.rebuild
      → caps ≡ caps_made shell → (is_some deeds.make ≡ true → IsEmptyOf meaning form caps empty)
      → caps_of (fresh_past (is_some shell.rebuild) deeds empty fresh) ≡ fresh_behind shell deeds
  caps_past deeds shell fresh same are made = grind arith

  -- what the instances hold is of the form, and of the capacity behind the deeds
  pub of_past : (deeds : Deeds) (shell : Shell) (fresh : Option Fresh) (held : Option (Held S))
      → IsOf meaning form shell.caps held → caps ≡ caps_made shell
      → (is_some deeds.make ≡ true → IsEmptyOf meaning form caps empty) → (deeds.switch ≡ true → deeds.make ≡ None)
      → (deeds.switch ≡ true → (size : Caps) → caps_or fresh size ≡ caps_made shell) → IsOf
      meaning form (caps_behind form shell deeds) (held_past meaning (is_some shell.rebuild) deeds empty fresh held)
  of_past deeds shell fresh held of are made unmade switched_to = grind arith

  state_back : (back : Option ConnId) (held : Held S) → (state : S) → state_in meaning form
      (held_back meaning back (Some (record held { state = state }))) ≡ with_back_of meaning form back state
  state_back back held state = grind arith

  bits_back : TurnsNone meaning → (back : Option ConnId) (held : Option (Held S))
      → bits_in meaning form (held_back meaning back held) ≡ bits_in meaning form held
  bits_back turns None held = refl
  bits_back turns (Some conn) None = refl
  bits_back turns (Some conn) (Some held) = turns held.state conn

  -- a primary that is made where none stood has none
  bits_made : (rebuilding : Bool) (make : Option CfId) (held : Option (Held S)) → (is_some make ≡ true → IsEmptyOf
      meaning form caps empty) → (is_some make ≡ true → rebuilding ≡ false → held ≡ None)
      → bits_in meaning form (held_made rebuilding make empty held) ≡ bits_in meaning form held
  bits_made rebuilding None held made bare = refl
  bits_made true (Some cf) held made bare = refl
  bits_made false (Some cf) held made bare = rw (made refl, bare refl refl) refl

  -- deeds that don't put the new instance in the primary's place, and don't end all, turn no bit
  pub bits_past : TurnsNone meaning → (rebuilding : Bool) (deeds : Deeds) (fresh : Option Fresh) (held : Option (Held S))
      → may_change_bits deeds ≡ false → (is_some deeds.make ≡ true → IsEmptyOf meaning form caps empty)
      → (is_some deeds.make ≡ true → rebuilding ≡ false → held ≡ None)
      → bits_in meaning form (held_past meaning rebuilding deeds empty fresh held) ≡ bits_in meaning form held
  bits_past turns rebuilding deeds fresh held quiet made bare = grind (arith, bits_back, bits_made, back_none)
    where
      back_none : (is_some deeds.make ≡ true → rebuilding ≡ false → held_back meaning deeds.back held ≡ None)
      back_none some outside = rw (bare some outside) (none_back deeds.back)
        where
          none_back : (back : Option ConnId) → held_back meaning back None ≡ None
          none_back None = refl
          none_back (Some conn) = refl

  -- without an instance deeds do nothing to what is held, but that they make one
  pub record AreIdle (rebuilding : Bool) (deeds : Deeds) : Type 0 where
    pub rebuild : rebuilding ≡ false
    pub switch : deeds.switch ≡ false
    pub back : is_some deeds.back ≡ true → is_some deeds.make ≡ true

  -- the content behind deeds is what the instances hold then
  pub state_past : (rebuilding : Bool) (deeds : Deeds) (fresh : Option Fresh) (held : Option (Held S)) (state : S) →
      (is_some deeds.make ≡ true → IsEmptyOf meaning form caps empty) → (is_some held ≡ false → state ≡ meaning.empty
      (shape_of form)) → (is_some held ≡ false → AreIdle rebuilding deeds) → state_in meaning form (held_past
      meaning rebuilding deeds empty fresh (left_in state held)) ≡ content_after meaning form rebuilding deeds state
  state_past rebuilding deeds fresh (Some held) state made empty_so idle = grind (arith, state_back)
  state_past rebuilding deeds fresh None state made empty_so idle = grind arith
