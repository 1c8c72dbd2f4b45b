-- The content fits the instance that it is in, and the new one of a rebuild.
use Rattle.shell_laws.proofs.Imports.{◌≡◌, ℕ, Bool, true, false, IsTrue, List, [], ◌++◌, Option, None, Some, sym, subst, arith, if◌then◌else◌, is_some, Stage, Caps, Kind, StrForm, CfId, ConnId, without_member, What, Entry, Shape, after_what, replay, Fits, IsNoMore, IsNoMoreOf, Machine, departure_from, room_of, with_back_of, Meaning, fresh_of, is_held_up, shape_of, Leaver, Shell, content_cause, emptied, Rebuild, rebuild_in, HasRoom, IsHeld, IsManned, IsPlaced}
use Rattle.shell_laws.proofs.MemberLaws.{content_waits, kept-manned, rebuild_in_it, sound_of}
use Rattle.shell_laws.proofs.MoveLaws.{Past, kept-call, kept-mark, made_under}
use Rattle.shell_laws.proofs.PlaceLaws.{placed-owed, switch_stands}
use Rattle.shell_laws.proofs.ShellMoves.{Allows, IsSound, Move, Standing, gone_if, gone_on, left_by, standing_of}
use Rattle.shell_laws.proofs.ShellMoves.Move.{Connects, Departs, Forces, Deallocates, Starts, Gives, Places, Stops, Fails}

-- ---- needs and capacities

no_more_of : (kind : Kind) (need other : Caps) → IsNoMore need other → IsNoMoreOf kind need other
no_more_of kind need other less = grind arith

-- where a new instance stands, content commands wait
held_up : (at : Stage) (members owing : List ConnId) (fresh : Option CfId) → IsPlaced at members owing fresh
    → is_some fresh ≡ true → is_held_up at true ≡ true
held_up at members owing fresh placed stands = grind arith

-- so none stands where a command on the content is accepted
pub none_fresh_then : (shell : Shell) (by : ConnId) → IsManned shell → content_cause shell by ≡ None
    → fresh_of shell.rebuild ≡ None
none_fresh_then shell by manned accepted = grind (arith, content_waits, held_up)

module _ {C R I S : Type 0} (meaning : Meaning C R I S) (is_kind : Kind → Bool)
    (IsContent : Shape → Caps → S → Type 0) where
  -- what every engine promises of contents and of what they need
  pub record ContentLaws : Type 0 where
    pub content_empty : (shape : Shape) (caps : Caps) → IsContent shape caps (meaning.empty shape)
    pub items_empty : (shape : Shape) → meaning.items shape (meaning.empty shape) ≡ []
    pub content_done : (shape : Shape) (caps : Caps) (state : S) (by : ConnId) (cmd : C)
        → IsTrue (is_kind shape.kind) → IsContent shape caps state → meaning.cause shape caps state by cmd ≡ None
        → IsContent shape caps (meaning.done shape caps state by cmd).state
    pub content_leave : (shape : Shape) (caps : Caps) (state : S) (conn : ConnId) (keep : Bool)
        → IsContent shape caps state → IsContent shape caps (meaning.leave shape state conn keep).state
    pub content_back : (shape : Shape) (caps : Caps) (state : S) (conn : ConnId)
        → IsContent shape caps state → IsContent shape caps (meaning.back state conn)
    pub content_moved : (shape : Shape) (caps other : Caps) (state : S) → IsTrue (is_kind shape.kind)
        → IsContent shape caps state → Fits shape.kind (meaning.need (meaning.items shape state)) other
        → IsContent shape other (meaning.forget state)
    pub need_first : (items others : List I) → IsNoMore (meaning.need items) (meaning.need (items ++ others))
    pub need_leave : (shape : Shape) (caps : Caps) (state : S) (conn : ConnId) (keep : Bool)
        → IsTrue (is_kind shape.kind) → IsContent shape caps state → IsNoMoreOf shape.kind (meaning.need
        (meaning.items shape (meaning.leave shape state conn keep).state)) (meaning.need (meaning.items shape state))

  module _ (laws : ContentLaws) (form : StrForm) (kind : IsTrue (is_kind form.kind)) where
    abbrev need_of : S → Caps
    need_of content = meaning.need (meaning.items (shape_of form) content)

    abbrev nothing : S
    nothing = meaning.empty (shape_of form)

    -- a content in what stands
    abbrev Held : Standing → S → ℕ → Type 0
    Held s content copied = IsContent (shape_of form) s.caps content × HasRoom meaning form s.rebuild content

    -- ---- room in a new instance

    room_less : (rebuild : Option Rebuild) (content less : S) → IsNoMoreOf form.kind (need_of less) (need_of content)
        → HasRoom meaning form rebuild content → HasRoom meaning form rebuild less
    room_less rebuild content less is room = grind arith

    room_nothing : (rebuild : Option Rebuild) (content : S) → HasRoom meaning form rebuild content
        → HasRoom meaning form rebuild nothing
    room_nothing rebuild content = room_less rebuild content nothing (no_more_of form.kind (need_of nothing)
        (need_of content) (subst (λ (items : List I). IsNoMore (meaning.need items) (need_of content))
        (sym (laws.items_empty (shape_of form))) (laws.need_first [] (meaning.items (shape_of form) content))))

    room_in : (at : Stage) (rebuild : Rebuild) (content : S) → HasRoom meaning form (Some rebuild) content
        → HasRoom meaning form (Some (rebuild_in at rebuild)) content
    room_in at rebuild content room = grind arith

    room_emptied : (rebuild : Option Rebuild) (content : S) → HasRoom meaning form rebuild content
        → HasRoom meaning form (emptied rebuild) content
    room_emptied rebuild content room = grind arith

    -- ---- what goes, and what goes on

    held-gone : (gone : Bool) (s : Standing) (content : S) (copied : ℕ) → Held s content copied
        → Held (gone_if gone form s) (if gone then nothing else content) copied
    held-gone gone s content copied held = grind (arith, room_nothing)

    content_taken_up : (caps : Caps) (back : Option ConnId) (content : S) → IsContent (shape_of form) caps content
        → IsContent (shape_of form) caps (with_back_of meaning form back content)
    content_taken_up caps back content is = grind arith

    module _ (machine : Machine S) (sound : IsSound (standing_of machine.shell))
        (held : Held (standing_of machine.shell) machine.content machine.copied) where
      abbrev s : Standing
      s = standing_of machine.shell

      -- who departs leaves the content first
      held_left : (leaver : Leaver) → Held s (departure_from meaning form (Some leaver) machine).state machine.copied
      held_left leaver = go (is_some s.instances.primary)
        where
          go : (b : Bool) → Held s (if b then meaning.leave (shape_of form) machine.content
              leaver.conn leaver.keep else record { state = machine.content; letters = [] }).state machine.copied
          go true = (
            laws.content_leave (shape_of form) s.caps machine.content leaver.conn leaver.keep held.0,
            room_less s.rebuild machine.content _ (grind arith) held.1,
          )
          go false = held

      room_under : (rebuild : Rebuild) → s.rebuild ≡ Some rebuild → HasRoom meaning form (Some rebuild) machine.content
      room_under rebuild is = subst (λ (r : Option Rebuild). HasRoom meaning form r machine.content) is held.1

      held-move : (move : Move) → Allows form (room_of meaning form machine) s move
          → Past meaning form Held machine move
      held-move (Connects active made back) may = grind (arith, content_taken_up)
      held-move (Departs who gone) may =
          let left = held_left who in
          held-gone gone (record s {
            active = without_member who.conn s.active;
            rebuild = left_by who.conn s.rebuild;
          }) _ 0 (grind (arith, room_in))
      held-move (Forces other gone) may =
          let left = held_left (record { conn = other; keep = false }) in
          held-gone gone (record s { rebuild = emptied s.rebuild }) _ 0 (left.0, room_emptied s.rebuild _ left.1)
      held-move Deallocates may = held-gone true s machine.content 0 held
      held-move (Starts number caps) may = (held.0, λ stands. absurd (cc))
      held-move (Gives rebuild who) may = grind (arith, switch_stands, placed-owed, rebuild_in_it, room_under)
      held-move (Places rebuild who at made) may = grind (arith, gone_on, made_under, room_under)
      held-move (Stops rebuild) may = (held.0, λ stands. absurd (cc))
      held-move Fails may = (laws.content_empty (shape_of form) form.caps, tt)
      held-move _ may = held

    -- ---- calls and marks

    abbrev IsHeldBy : Machine S → Type 0
    IsHeldBy machine = IsHeld meaning IsContent form machine

    held-after : (machine : Machine S) (by : ConnId) (told : What C) → IsManned machine.shell → IsHeldBy machine
        → IsHeldBy (after_what meaning form machine by told)
    held-after machine by (What.Call asked) manned held =
        let sound : IsSound (standing_of machine.shell) = sound_of machine.shell manned in
        let both = kept-call meaning form Held machine manned.places sound
        (held-move machine sound (held.content, held.room)) (held.content, held.room)
        (grind (arith, room_for_any, none_fresh_then)) by asked in
        record { content = both.0; room = both.1 }
      where
        room_for_any : (rebuild : Option Rebuild) (content : S) → fresh_of rebuild ≡ None
            → HasRoom meaning form rebuild content
        room_for_any None content none = tt
        room_for_any (Some rebuild) content none = grind arith
    held-after machine by (What.Lost cf) manned held =
        grind (arith, IsSound, standing_of, sound_of, kept-mark, held-move)

    pub held-replay : (history : List (Entry C R)) → IsHeldBy (replay meaning form history)
    held-replay history = (kept-manned meaning form IsHeldBy held-after history (grind arith)).1
