-- What is read by a table of forms is said by it, and what is said by it is read.
use Rattle.plex_spell.proofs.Imports.{◌≡◌, ℕ, Bool, true, false, not, ◌&&◌, List, [], ◌∷◌, Some, refl, ap, inl, inr, sym, subst, ◌∙◌, not-true, and_parts, Rigour, same_word, begins_with, words_behind, Declared, Token, Spells, Literal, Values, tokens_of, Forms, NoForms, Row, Under, command_at, IsSaid, option_map, Option, None, Place, Value, value_at, values_at, ◌>>=◌, cond}
use Rattle.plex_spell.specs.Forms.{each_made}
use Rattle.plex_spell.proofs.PatternLaws.{ArePlaces, are_rows, values-sound, values-complete}
use Rattle.plex_spell.proofs.VerbLaws.{is_tail, all_lack_retry, AreFree-tail}
use Rattle.plex_spell.proofs.{PlaceLaws.Words, PlaceLaws.FindsAll, PlaceLaws.led, PlaceLaws.led-by, Choices.pick}

-- no form begins with the verb
abbrev pub lacks_verb : {C : Type 0} → List ℕ → Forms C → Bool
lacks_verb word NoForms = true
lacks_verb word (Row verb places made more) = not (same_word verb word) && lacks_verb word more
lacks_verb word (Under verb behind_ more) = not (same_word verb word) && lacks_verb word more

-- what is at the places can be told apart, none of it from RETRY behind it, and no two forms have one verb
abbrev pub AreForms : {C : Type 0} → Forms C → Type 0
AreForms NoForms = Unit {0}
AreForms (Row verb places made more) = ArePlaces places × (are_rows places ≡ true) × (all_lack_retry places ≡ true)
    × (lacks_verb verb more ≡ true) × AreForms more
AreForms (Under verb behind_ more) = AreForms behind_ × (lacks_verb verb more ≡ true) × AreForms more

pub record IsTold {C : Type 0} (rigour : Rigour) (declared : Declared) (forms : Forms C) (ws rest : Words) (cmd : C) :
    Type 0 where
  pub tokens : List Token
  pub said : IsSaid forms cmd tokens
  pub spelled : Spells rigour declared tokens ws rest

module _ {C : Type 0} (rigour : Rigour) (declared : Declared) where
  pub forms-sound : (forms : Forms C) (ws rest : Words) (cmd : C) → AreForms forms
      → command_at rigour declared forms ws ≡ Some (cmd, rest) → IsTold rigour declared forms ws rest cmd
  forms-sound NoForms ws rest cmd are h = absurd (cc)
  forms-sound (Row verb places made more) ws rest cmd are h = pick h (λ b k.
      let t = values-sound rigour declared places made (words_behind ws) rest cmd are.0 k in
      record {
        tokens = Literal verb ∷ tokens_of places t.values;
        said = inl (record { values = t.values; same = sym t.same; said = refl });
        spelled = led rigour declared verb (tokens_of places t.values) ws rest b t.spelled;
      }) (λ _ k. let t = forms-sound more ws rest cmd are.4 k in
      record { tokens = t.tokens; said = inr t.said; spelled = t.spelled })
  forms-sound (Under verb behind_ more) ws rest cmd are h = pick h (λ b k.
      let t = forms-sound behind_ (words_behind ws) rest cmd are.0 k in
      record {
        tokens = Literal verb ∷ t.tokens;
        said = inl (record { later = t.tokens; says = t.said; said = refl });
        spelled = led rigour declared verb t.tokens ws rest b t.spelled;
      }) (λ _ k. let t = forms-sound more ws rest cmd are.2 k in
      record { tokens = t.tokens; said = inr t.said; spelled = t.spelled })

  -- words that another form says don't begin with this verb
  passed : (word : List ℕ) (forms : Forms C) (cmd : C) (tokens : List Token) (ws rest : Words)
      → lacks_verb word forms ≡ true → IsSaid forms cmd tokens → Spells rigour declared tokens ws rest
      → begins_with word ws ≡ false
  passed word NoForms cmd tokens ws rest lacks said s = absurd said
  passed word (Row verb places made more) cmd tokens ws rest lacks (inl one) s =
      let l = led-by rigour declared verb (tokens_of places one.values) ws rest (rw (← one.said) s) in
      sym (l.first_is word) ∙ not-true (same_word verb word) (and_parts _ _ lacks).0
  passed word (Row verb places made more) cmd tokens ws rest lacks (inr k) s =
      passed word more cmd tokens ws rest (and_parts _ _ lacks).1 k s
  passed word (Under verb behind_ more) cmd tokens ws rest lacks (inl one) s =
      let l = led-by rigour declared verb one.later ws rest (rw (← one.said) s) in
      sym (l.first_is word) ∙ not-true (same_word verb word) (and_parts _ _ lacks).0
  passed word (Under verb behind_ more) cmd tokens ws rest lacks (inr k) s =
      passed word more cmd tokens ws rest (and_parts _ _ lacks).1 k s

  pub forms-complete : (forms : Forms C) (cmd : C) (tokens : List Token) (ws rest : Words) → AreForms forms
      → is_tail rest ≡ true → IsSaid forms cmd tokens → Spells rigour declared tokens ws rest
      → FindsAll rigour (command_at rigour declared forms ws) cmd rest
  forms-complete NoForms cmd tokens ws rest are tail said s = absurd said
  forms-complete (Row verb places made more) cmd tokens ws rest are tail (inl one) s =
      let l = led-by rigour declared verb (tokens_of places one.values) ws rest (rw (← one.said) s) in
      let f = values-complete rigour declared places made one.values (words_behind ws) rest are.0 are.1
      (AreFree-tail places rest tail are.2) l.rest_is in
      rw l.begins (record { found = made f.found; read = f.read; same = λ e. ap made (f.same e) ∙ one.same })
  forms-complete (Row verb places made more) cmd tokens ws rest are tail (inr k) s =
      rw (passed verb more cmd tokens ws rest are.3 k s) (forms-complete more cmd tokens ws rest are.4 tail k s)
  forms-complete (Under verb behind_ more) cmd tokens ws rest are tail (inl one) s =
      let l = led-by rigour declared verb one.later ws rest (rw (← one.said) s) in
      rw l.begins (forms-complete behind_ cmd one.later (words_behind ws) rest are.0 tail one.says l.rest_is)
  forms-complete (Under verb behind_ more) cmd tokens ws rest are tail (inr k) s =
      rw (passed verb more cmd tokens ws rest are.1 k s) (forms-complete more cmd tokens ws rest are.2 tail k s)

-- ---- what a table says, form by form

-- each form's words, of whatever values, are as they ought to be
abbrev pub AllSay : {C : Type 0} → Forms C → (C → List Token → Type 0) → Type 0
AllSay NoForms P = Unit {0}
AllSay (Row verb places made more) P =
    ((values : Values places) → P (made values) (Literal verb ∷ tokens_of places values)) × AllSay more P
AllSay (Under verb behind_ more) P = AllSay behind_ (λ cmd tokens. P cmd (Literal verb ∷ tokens)) × AllSay more P

pub each-says : {C : Type 0} (forms : Forms C) (P : C → List Token → Type 0) (cmd : C) (tokens : List Token)
    → AllSay forms P → IsSaid forms cmd tokens → P cmd tokens
each-says NoForms P cmd tokens all said = absurd said
each-says (Row verb places made more) P cmd tokens all (inl one) =
    rw one.said (subst (λ c. P c (Literal verb ∷ tokens_of places one.values)) one.same (all.0 one.values))
each-says (Row verb places made more) P cmd tokens all (inr k) = each-says more P cmd tokens all.1 k
each-says (Under verb behind_ more) P cmd tokens all (inl one) =
    rw one.said (each-says behind_ (λ c ts. P c (Literal verb ∷ ts)) cmd one.later all.0 one.says)
each-says (Under verb behind_ more) P cmd tokens all (inr k) = each-says more P cmd tokens all.1 k

abbrev pub Chosen : Bool → Type 0 → Type 0 → Type 0
Chosen true One Other = One
Chosen false One Other = Other

chosen-of : (b : Bool) (One Other : Type 0) → One → Other → Chosen b One Other
chosen-of true One Other one other = one
chosen-of false One Other one other = other

-- what the form with this verb says
abbrev pub Says : {C : Type 0} → Forms C → List ℕ → (C → List Token → Type 0) → Type 0
Says NoForms word P = Unit {0}
Says (Row verb places made more) word P = Chosen (same_word verb word)
    ((values : Values places) → P (made values) (Literal verb ∷ tokens_of places values)) (Says more word P)
Says {C} (Under verb behind_ more) word P = Chosen (same_word verb word)
    ((cmd : C) (tokens : List Token) → IsSaid behind_ cmd tokens → P cmd (Literal verb ∷ tokens)) (Says more word P)

says-in : {C : Type 0} (forms : Forms C) (word : List ℕ) (P : C → List Token → Type 0)
    → ((cmd : C) (tokens : List Token) → IsSaid forms cmd tokens → P cmd tokens) → Says forms word P
says-in NoForms word P all = tt
says-in (Row verb places made more) word P all = chosen-of (same_word verb word) _ _
    (λ values. all (made values) _ (inl (record { values = values; same = refl; said = refl })))
    (says-in more word P (λ cmd tokens k. all cmd tokens (inr k)))
says-in (Under verb behind_ more) word P all = chosen-of (same_word verb word) _ _
    (λ cmd tokens k. all cmd (Literal verb ∷ tokens) (inl (record { later = tokens; says = k; said = refl })))
    (says-in more word P (λ cmd tokens k. all cmd tokens (inr k)))

pub says : {C : Type 0} (forms : Forms C) (word : List ℕ) → Says forms word (IsSaid forms)
says forms word = says-in forms word (IsSaid forms) (λ cmd tokens k. k)

-- ---- the same forms, of which something else is made

module _ {C D : Type 0} (f : C → D) where
  lacks-made : (word : List ℕ) (forms : Forms C) → lacks_verb word (each_made f forms) ≡ lacks_verb word forms
  unfolding each_made
  lacks-made word NoForms = refl
  lacks-made word (Row verb places made more) = ap (λ b. not (same_word verb word) && b) (lacks-made word more)
  lacks-made word (Under verb behind_ more) = ap (λ b. not (same_word verb word) && b) (lacks-made word more)

  -- no form begins with the verb, where none of the forms did
  pub still-lacks : (word : List ℕ) (forms : Forms C) → lacks_verb word forms ≡ true
      → lacks_verb word (each_made f forms) ≡ true
  still-lacks word forms h = lacks-made word forms ∙ h

  pub are-made : (forms : Forms C) → AreForms forms → AreForms (each_made f forms)
  unfolding each_made
  are-made NoForms are = tt
  are-made (Row verb places made more) are =
      (are.0, are.1, are.2, still-lacks verb more are.3, are-made more are.4)
  are-made (Under verb behind_ more) are =
      (are-made behind_ are.0, still-lacks verb more are.1, are-made more are.2)

  pub said-made : (forms : Forms C) (cmd : C) (tokens : List Token) → IsSaid forms cmd tokens
      → IsSaid (each_made f forms) (f cmd) tokens
  unfolding each_made
  said-made NoForms cmd tokens said = absurd said
  said-made (Row verb places made more) cmd tokens (inl one) =
      inl (record { values = one.values; same = ap f one.same; said = one.said })
  said-made (Row verb places made more) cmd tokens (inr k) = inr (said-made more cmd tokens k)
  said-made (Under verb behind_ more) cmd tokens (inl one) =
      inl (record { later = one.later; says = said-made behind_ cmd one.later one.says; said = one.said })
  said-made (Under verb behind_ more) cmd tokens (inr k) = inr (said-made more cmd tokens k)

  pub all-say-made : (forms : Forms C) (P : D → List Token → Type 0) → AllSay forms (λ cmd tokens. P (f cmd) tokens)
      → AllSay (each_made f forms) P
  unfolding each_made
  all-say-made NoForms P all = tt
  all-say-made (Row verb places made more) P all = (all.0, all-say-made more P all.1)
  all-say-made (Under verb behind_ more) P all =
      (all-say-made behind_ (λ cmd tokens. P cmd (Literal verb ∷ tokens)) all.0, all-say-made more P all.1)

-- something else of what was read
abbrev pub made_read : {C D : Type 0} → (C → D) → C × Words → D × Words
made_read f read = (f read.0, read.1)

map-cond : {X Y : Type 0} (g : X → Y) (b : Bool) (x y : Option X) (v w : Option Y) → v ≡ option_map g x
    → w ≡ option_map g y → cond b v w ≡ option_map g (cond b x y)
map-cond g true x y v w h k = h
map-cond g false x y v w h k = k

map-bound : {X Y Z : Type 0} (g : Y → Z) (o : Option X) (first : X → Option Y) (then_ : X → Option Z)
    → ((x : X) → then_ x ≡ option_map g (first x)) → (o >>= then_) ≡ option_map g (o >>= first)
map-bound g None first then_ h = refl
map-bound g (Some x) first then_ h = h x

values-made : {C D : Type 0} (f : C → D) (rigour : Rigour) (declared : Declared) (places : List Place)
    (made : Values places → C) (ws : Words) → values_at rigour declared places (λ values. f (made values)) ws
    ≡ option_map (made_read f) (values_at rigour declared places made ws)
values-made f rigour declared [] made ws = refl
values-made {C} {D} f rigour declared (place ∷ places) made ws =
    map-bound (made_read f) (value_at rigour declared place ws)
    (λ (read : Value place × Words). values_at rigour declared places (λ values. made (read.0, values)) read.1)
    (λ (read : Value place × Words). values_at rigour declared places (λ values. f (made (read.0, values))) read.1)
    (λ read. values-made f rigour declared places (λ values. made (read.0, values)) read.1)

pub command_made : {C D : Type 0} (f : C → D) (rigour : Rigour) (declared : Declared) (forms : Forms C) (ws : Words)
    → command_at rigour declared (each_made f forms) ws
    ≡ option_map (made_read f) (command_at rigour declared forms ws)
unfolding each_made
command_made f rigour declared NoForms ws = refl
command_made {C} {D} f rigour declared (Row verb places made more) ws =
    map-cond (made_read f) (begins_with verb ws) _ _ _ _
    (values-made f rigour declared places made (words_behind ws)) (command_made f rigour declared more ws)
command_made {C} {D} f rigour declared (Under verb behind_ more) ws =
    map-cond (made_read f) (begins_with verb ws) _ _ _ _
    (command_made f rigour declared behind_ (words_behind ws)) (command_made f rigour declared more ws)
