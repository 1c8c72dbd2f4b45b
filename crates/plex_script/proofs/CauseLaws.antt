-- What is wrong with a line, from what was read of it.
use Rattle.plex_script.proofs.Imports.{or_parts, not_from_false, ◌≡◌, ℕ, ◌<◌, ◌||◌, Bool, true, false, not, List, [], ◌∷◌, ◌++◌, Option, Some, None, refl, sym, ap, ◌∙◌, arith, inl, inr, Ok, Err, IsTrue, is_some, ConnId, Kind, Rigour, Form, Limits, Names, Declared, structure_of, Words, Spells-limits, Spells-form, Declaration, Why, Late, Syntax, Limit, Unknown, Twice, Space, Act, Script, SaysDone, Declares, act_at, declaration_at, declared_in, kind_of, has_lines, is_full, is_twice, is_too_much, PolicyCause, DoneCause, CallerCause, IsFirst, rank, with_declaration, AddsDeclaration, AddsLine, AddsOfCaller, LineFault, Wrong, NoMemory, StrNo, nat_tests, unread_why, Finds, Judged, IsFaultBy, HasRoom}
use Rattle.plex_script.proofs.ActLaws.{act-sound, act-complete}
use Rattle.plex_script.proofs.PolicyLaws.{declaration-sound, declaration-complete}

-- ---- from stricter to laxer

pub Declares-limits : (declared : Declared) (ws : Words) (d : Declaration) → Declares Names declared ws d
    → Declares Limits declared ws d
Declares-limits declared ws d h = grind (arith, Spells-limits)

pub SaysDone-limits : (declared : Declared) (by : ConnId) (kind : Kind) (ws : Words) (act : Act) (retry : ℕ)
    → SaysDone Names declared by kind ws act retry → SaysDone Limits declared by kind ws act retry
SaysDone-limits declared by kind ws act retry h = grind (arith, Spells-limits)

pub SaysDone-form : (declared : Declared) (by : ConnId) (kind : Kind) (ws : Words) (act : Act) (retry : ℕ)
    → SaysDone Limits declared by kind ws act retry → SaysDone Form declared by kind ws act retry
SaysDone-form declared by kind ws act retry h = grind (arith, Spells-form)

-- ---- what a reading tells

none_declared : (rigour : Rigour) (declared : Declared) (ws : Words) → is_some (declaration_at rigour declared ws) ≡
    false → (d : Declaration) → Declares rigour declared ws d → ⊥
none_declared rigour declared ws h d k = let f = declaration-complete _ _ _ d k in let wrong = rw f.read at h in cc

pub some_of : {X : Type 0} (o : Option X) → is_some o ≡ true → (x : X) × (o ≡ Some x)
some_of None h = absurd (cc)
some_of (Some x) h = (x, refl)

some_declared : (rigour : Rigour) (declared : Declared) (ws : Words) → is_some (declaration_at rigour declared ws) ≡
    true → ((d : Declaration) → Declares rigour declared ws d → ⊥) → ⊥
some_declared rigour declared ws h none = let s = some_of _ h in none s.0 (declaration-sound _ _ _ _ s.1)

none_done : (rigour : Rigour) (declared : Declared) (by : ConnId) (kind : Kind) (ws : Words) → is_some (act_at
    rigour declared by kind ws) ≡ false → (act : Act) (retry : ℕ) → SaysDone rigour declared by kind ws act retry → ⊥
none_done rigour declared by kind ws h act retry k = let f = act-complete rigour declared by kind ws act retry k
    in let wrong = rw f.read at h in cc

some_done : (rigour : Rigour) (declared : Declared) (by : ConnId) (kind : Kind) (ws : Words) → is_some (act_at rigour
    declared by kind ws) ≡ true → ((act : Act) (retry : ℕ) → SaysDone rigour declared by kind ws act retry → ⊥) → ⊥
some_done rigour declared by kind ws h none =
    let s = some_of _ h in none s.0.0 s.0.1 (act-sound _ _ _ _ _ _ s.1)

is_none : {X : Type 0} (o : Option X) → o ≡ None → is_some o ≡ false
is_none o h = ap is_some h

-- the first of the causes that a reading tells
module _ (cause : Why → Type 0) where
  pub limit-alone : cause Limit → (cause Late → ⊥) → (cause Syntax → ⊥) → IsFirst cause Limit
  limit-alone here late syntax = grind arith

  pub syntax-alone : cause Syntax → (cause Late → ⊥) → IsFirst cause Syntax
  syntax-alone here late = grind arith

  pub unknown-alone : cause Unknown → (cause Late → ⊥) → (cause Syntax → ⊥) → (cause Limit → ⊥)
      → IsFirst cause Unknown
  unknown-alone here late syntax limit = grind arith

  unread : (f e l : Bool) → (cause Late → ⊥) → (f ≡ false → cause Syntax) → (f ≡ true → cause Syntax → ⊥)
      → (e ≡ true → cause Limit) → (l ≡ false → cause Limit) → (e ≡ false → l ≡ true → cause Limit → ⊥)
      → (e ≡ false → cause Unknown) → IsFirst cause (unread_why f e l)
  unread false e l late form formed excess limits kept unknown = syntax-alone (form refl) late
  unread true true l late form formed excess limits kept unknown = limit-alone (excess refl) late (formed refl)
  unread true false false late form formed excess limits kept unknown = limit-alone (limits refl) late (formed refl)
  unread true false true late form formed excess limits kept unknown = grind (arith, unknown-alone)

-- ---- policy lines

pub policy-late : (script : Script) (long : Bool) (first : List ℕ) (ws : Words) → has_lines script ≡ true
    → IsFirst (PolicyCause script long first ws) Late
policy-late script long first ws h = record { here = h; none = λ other less. absurd (omega arith) }

not_late : (script : Script) → has_lines script ≡ false → has_lines script ≡ true → ⊥
not_late script h k = cc

module _ (script : Script) (long : Bool) (first : List ℕ) (ws : Words) where
  pub policy-unread : has_lines script ≡ false
      → ((long || is_full script first) ≡ false → declaration_at Names (declared_in script) ws ≡ None)
      → IsFirst (PolicyCause script long first ws) (unread_why (is_some (declaration_at Form (declared_in script) ws))
      (long || is_full script first) (is_some (declaration_at Limits (declared_in script) ws)))
  policy-unread early names =
      let declared = declared_in script in
      unread _ _ _ _ (not_late script early) (none_declared _ _ _) (some_declared _ _ _) (λ e. inl e)
      (λ l. inr (none_declared _ _ _ l)) kept (λ e. none_declared _ _ _ (is_none _ (names e)))
    where
      kept : (long || is_full script first) ≡ false → is_some (declaration_at Limits (declared_in script) ws) ≡ true
          → PolicyCause script long first ws Limit → ⊥
      kept e l (inl h) = cc
      kept e l (inr h) = some_declared _ _ _ l h

  -- what is declared, behind all that may be wrong with its words
  pub policy-read : (d : Declaration) → has_lines script ≡ false → (long || is_full script first) ≡ false → Declares
      Names (declared_in script) ws d → (other : Why) → rank other < 4 → PolicyCause script long first ws other → ⊥
  policy-read d early fits h Late less k = not_late script early k
  policy-read d early fits h Syntax less k = grind (arith, Declares-limits, Spells-form)
  policy-read d early fits h Limit less (inl k) = cc
  policy-read d early fits h Limit less (inr k) = k d (Declares-limits (declared_in script) ws d h)
  policy-read d early fits h Unknown less k = k d h
  policy-read d early fits h other less k = omega (arith, less)

-- what is found of words is one thing
pub finds-one : {V : Type 0} (reading : Option V) (a b : V) → Finds Names reading a → Finds Names reading b → a ≡ b
finds-one reading a b f g =
    let same : Some f.found ≡ Some g.found = sym f.read ∙ g.read in
    let one : f.found ≡ g.found = cc in
    sym (f.same refl) ∙ one ∙ g.same refl

-- words declare one thing
pub Declares-one : (declared : Declared) (ws : Words) (c d : Declaration) → Declares Names declared ws c
    → Declares Names declared ws d → c ≡ d
Declares-one declared ws c d h k =
    finds-one _ _ _ (declaration-complete Names declared ws c h) (declaration-complete Names declared ws d k)

-- all that makes what was read fit
pub record Fits (script : Script) (long : Bool) (first : List ℕ) (ws : Words) (d : Declaration) : Type 0 where
  pub short : not long ≡ true
  pub full : is_full script first ≡ false
  pub declares : Declares Names (declared_in script) ws d

pub fits-judged : (script : Script) (long : Bool) (first : List ℕ) (ws : Words) (excess : Bool) (d : Declaration)
    → excess ≡ (long || is_full script first) → Judged {V = Declaration}
    (Ok d) excess (declaration_at Form (declared_in script) ws) (declaration_at Limits (declared_in script) ws)
    (declaration_at Names (declared_in script) ws) → Fits script long first ws d
fits-judged script long first ws excess d is h =
    let parts = or_parts long (is_full script first) (sym is ∙ h.0) in
    record {
      short = not_from_false long parts.0;
      full = parts.1;
      declares = declaration-sound Names (declared_in script) ws d h.1;
    }

pub no_excess : (script : Script) (long : Bool) (first : List ℕ) (ws : Words) (d : Declaration)
    → Fits script long first ws d → (long || is_full script first) ≡ false
no_excess script true first ws d h = absurd (let wrong = h.short in cc)
no_excess script false first ws d h = h.full

module _ (script : Script) (long : Bool) (first : List ℕ) (ws : Words) (d : Declaration)
    (early : has_lines script ≡ false) (fits : Fits script long first ws d) where
  pub policy-twice : is_twice script d ≡ true → IsFirst (PolicyCause script long first ws) Twice
  policy-twice twice = grind (arith, policy-read, no_excess)

  pub policy-space : is_twice script d ≡ false → is_too_much script d ≡ true
      → IsFirst (PolicyCause script long first ws) Space
  policy-space once much = grind (arith, policy-read, no_excess, Declares-one)

-- ---- lines of callers

pub done-unread : (declared : Declared) (long : Bool) (by : ConnId) (kind : Kind) (ws : Words)
    → (long ≡ false → act_at Names declared by kind ws ≡ None) → IsFirst (DoneCause declared long by kind ws)
    (unread_why (is_some (act_at Form declared by kind ws)) long (is_some (act_at Limits declared by kind ws)))
done-unread declared long by kind ws names = unread _ _ _ _ (λ h. h) (none_done _ _ _ _ _) (some_done _ _ _ _ _)
    (λ e. inl e) (λ l. inr (none_done _ _ _ _ _ l)) kept (λ e. none_done _ _ _ _ _ (is_none _ (names e)))
  where
    kept : long ≡ false → is_some (act_at Limits declared by kind ws) ≡ true
        → DoneCause declared long by kind ws Limit → ⊥
    kept e l (inl h) = cc
    kept e l (inr h) = some_done _ _ _ _ _ l h

-- ---- faults as a reader tells them

pub policy-fault : (script : Script) (long : Bool) (first : List ℕ) (ws : Words) (excess : Bool) (fault : LineFault)
    → has_lines script ≡ false → excess ≡ (long || is_full script first) → Judged {V = Declaration}
    (Err fault) excess (declaration_at Form (declared_in script) ws) (declaration_at Limits (declared_in script) ws)
    (declaration_at Names (declared_in script) ws) → IsFaultBy (PolicyCause script long first ws) fault
policy-fault script long first ws excess (Wrong why) early is h =
    let names = λ (e : (long || is_full script first) ≡ false). h.1 (is ∙ e) in
    rw (h.0, is) (policy-unread script long first ws early names)
policy-fault script long first ws excess (NoMemory cause) early is h = tt

pub caller-fault : (script : Script) (long : Bool) (by : ConnId) (second : List ℕ) (ws words : Words)
    (on : StrNo) (fault : LineFault) → words ≡ second ∷ ws → structure_of script.structures second ≡ Some on
    → Judged {V = Act × ℕ} (Err fault) long (act_at Form (declared_in script) by (kind_of script.structures on) ws)
    (act_at Limits (declared_in script) by (kind_of script.structures on) ws) (act_at Names
    (declared_in script) by (kind_of script.structures on) ws) → IsFaultBy (CallerCause script long by words) fault
caller-fault script long by second ws words on (Wrong why) is e h =
    let done = done-unread (declared_in script) long by (kind_of script.structures on) ws h.1 in
    rw is (grind arith)
caller-fault script long by second ws words on (NoMemory cause) is e h = tt

room-of : (script : Script) (first : List ℕ) (rest : Words) (d : Declaration) → Declares Names (declared_in script)
    (first ∷ rest) d → is_full script first ≡ false → HasRoom script d
room-of script first rest (Declaration.Facility pref) h full = tt
room-of script first rest (Declaration.Structure form) h full = grind (arith, nat_tests)
room-of script first rest (Declaration.Pref on pref) h full = tt
room-of script first rest (Declaration.Connector name) h full = grind (arith, nat_tests)

pub room-fits : (script : Script) (long : Bool) (first : List ℕ) (ws rest : Words) (d : Declaration)
    → ws ≡ first ∷ rest → Fits script long first ws d → HasRoom script d
room-fits script long first ws rest d is h = room-of script first rest d (rw is at h.declares) h.full

pub adds-fits : (script after : Script) (long : Bool) (first : List ℕ) (ws : Words) (d : Declaration)
    → has_lines script ≡ false → Fits script long first ws d → is_twice script d ≡ false → is_too_much
    script d ≡ false → after ≡ with_declaration script d → IsTrue (not long) × AddsDeclaration script first ws after
adds-fits script after long first ws d early h once within same = grind (arith, not_from_false)

pub adds-done : (script after : Script) (at : ℕ) (long : Bool) (by : ConnId) (second : List ℕ) (ws words : Words)
    (on : StrNo) (act : Act) (retry : ℕ) → words ≡ second ∷ ws → structure_of script.structures second ≡ Some on
    → Judged {V = Act × ℕ} (Ok (act, retry)) long (act_at Form (declared_in script)
    by (kind_of script.structures on) ws) (act_at Limits (declared_in script) by (kind_of script.structures on) ws)
    (act_at Names (declared_in script) by (kind_of script.structures on) ws) → after ≡ record script {
      lines = script.lines ++ (record { at = at; by = by; on = on; act = act; retry = retry }) ∷ [];
    } → IsTrue (not long) × AddsOfCaller script at by words after
adds-done script after at long by second ws words on act retry is e h same =
    let says = act-sound Names (declared_in script) by (kind_of script.structures on) ws (act, retry) h.1 in
    let adds : AddsLine script at by on ws after = record { act = act; retry = retry; says = says; same = same } in
    grind (arith, not_from_false)
