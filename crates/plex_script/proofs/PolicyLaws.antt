-- What is read of a line of a policy is spelled so, and what is spelled so is read.
use Rattle.plex_script.proofs.Imports.{arith, ◌≡◌, ℕ, Bool, true, List, [], ◌∷◌, Option, Some, codes, refl, sym, lit<, subst, Name16, Caps, Kind, Pref as Set, StrForm, Rigour, same_word, Declared, Spells, Literal, NewName, on_first, new_name_of, Place, Values, tokens_of, values_at, ANewName, pick, not_some, bound, word-same, new_name-sound, new_name-complete, Words, FindsAll, Spells-append, Spells-split, single-sound, single-complete, ArePlaces, are_rows, verb-sound, command-complete, led-complete, AreFree-tail, all_lack_retry, Declaration, Facility, Structure, Connector, form_tokens, declaration_tokens, IsDeclaration, IsVectorTold, Declares, whole_read, Finds, facility_places, facility_from, pref_places, pref_from, cache_places, cache_from, list_places, list_from, lock_places, lock_from, form_at, structure_at, declared_at, declaration_at}
use Rattle.plex_script.specs.declared.declarations.Declaration.TheVariants.{Pref}
use Rattle.plex_script.proofs.ActLaws.{ended-is}

pub record DeclarationTold (rigour : Rigour) (declared : Declared) (ws rest : Words) (declaration : Declaration) :
    Type 0 where
  pub whole : IsDeclaration declaration
  pub spelled : Spells rigour declared (declaration_tokens declaration) ws rest

are_facility : ArePlaces facility_places
are_facility = (tt, tt, (lit< tt, tt, tt))

are_pref : ArePlaces pref_places
are_pref = (tt, tt, (tt, tt, (lit< tt, tt, tt)))

are_cache : ArePlaces cache_places
are_cache = (lit< tt, tt, (lit< tt, tt, (lit< tt, tt, (lit< tt, tt, (refl, tt, tt)))))

are_list : ArePlaces list_places
are_list = grind (arith, lit<)

are_lock : ArePlaces lock_places
are_lock = (lit< tt, tt, (lit< tt, tt, (lit< tt, tt, (refl, tt, tt))))

module _ (rigour : Rigour) (declared : Declared) where
  name-sound : (ws rest : Words) (name : Name16)
      → on_first (new_name_of rigour) ws ≡ Some (name, rest) → Spells rigour declared (NewName name ∷ []) ws rest
  name-sound ws rest name h = single-sound rigour declared (new_name_of rigour) NewName
      (λ w x e. new_name-sound rigour w x e) ws rest name h

  name-complete : (ws rest : Words) (name : Name16) → Spells rigour declared (NewName name ∷ []) ws rest
      → FindsAll rigour (on_first (new_name_of rigour) ws) name rest
  name-complete ws rest name h = grind (arith, single-complete, new_name-complete)

  form-sound : (verb : List ℕ) (name : Name16) (ws mid rest : Words) (declaration : Declaration)
      → same_word verb (codes "STRUCTURE") ≡ true → Spells rigour declared (NewName name ∷ []) ws mid → form_at rigour
      declared name mid ≡ Some (declaration, rest) → DeclarationTold rigour declared (verb ∷ ws) rest declaration
  form-sound verb name ws [] rest declaration e named h = absurd (cc)
  form-sound verb name ws (w ∷ us) rest declaration e named h =
      let P : Declaration → Type 0 = DeclarationTold rigour declared (verb ∷ ws) rest in
      let here = word-same verb (codes "STRUCTURE") e in
      pick h (λ b k. verb-sound rigour declared w (codes "CACHE") cache_places (cache_from name)
      us rest declaration P are_cache (λ vs s. grind (arith, Spells-append)) b k) (λ _ a. pick a
      (λ b k. verb-sound rigour declared w (codes "LIST") list_places (list_from name) us rest declaration P are_list
      (λ vs s. grind (arith, Spells-append)) b k) (λ _ c. pick c (λ b k. verb-sound rigour declared w (codes "LOCK")
      lock_places (lock_from name) us rest declaration P are_lock (λ vs s. grind (arith, Spells-append)) b k)
      (λ _ n. not_some (let p : Declaration × Words = (declaration, rest) in p) n)))

  declared-sound : (ws rest : Words) (declaration : Declaration) → declared_at rigour declared
      ws ≡ Some (declaration, rest) → DeclarationTold rigour declared ws rest declaration
  declared-sound [] rest declaration h = grind (arith, not_some, Words)
  declared-sound (verb ∷ ws) rest declaration h =
      let P = DeclarationTold rigour declared (verb ∷ ws) rest in
      pick h (λ e k. verb-sound rigour declared verb (codes "FACILITY") facility_places facility_from ws rest
      declaration P are_facility (λ vs s. record { whole = tt; spelled = s }) e k) (λ _ a. pick a (λ e k.
      let b = bound (λ name. form_at rigour declared name.0 name.1)
      (on_first (new_name_of rigour) ws) (declaration, rest) k in
      form-sound verb b.value.0 ws b.value.1 rest declaration e (grind (arith, name-sound)) b.then_) (λ _ c. pick c
      (λ e k. verb-sound rigour declared verb (codes "PREF") pref_places pref_from ws rest declaration P are_pref
      (grind arith) e k) (λ _ d. pick d (λ e k. verb-sound rigour declared verb (codes "CONNECTOR") (ANewName ∷ [])
      (λ v. Connector v.0) ws rest declaration P (tt, tt, tt) (grind arith) e k) (λ _ n. not_some _ n))))

  pub declaration-sound : (ws : Words) (declaration : Declaration)
      → declaration_at rigour declared ws ≡ Some declaration → Declares rigour declared ws declaration
  declaration-sound ws declaration h =
      let f : Declaration × Words → Option Declaration = λ read. whole_read read in
      let b = bound f (declared_at rigour declared ws) declaration h in
      let e = ended-is b.value.0 b.value.1 declaration b.then_ in
      let p : Declaration → Words → Declaration × Words = λ x r. (x, r) in
      let read : declared_at rigour declared ws ≡ Some (declaration, []) = grind (arith, Words) in
      let t = declared-sound ws [] declaration read in
      record { whole = t.whole; spelled = t.spelled }

  -- behind the name of a structure
  kind-complete : (word : List ℕ) (places : List Place) (made : Name16 → Values places → Declaration) (name : Name16)
      (values : Values places) (ws : Words) → ArePlaces places → are_rows places ≡ true → all_lack_retry places ≡ true
      → ((n : Name16) (us : Words) → form_at rigour declared n (word ∷ us) ≡ values_at rigour
      declared places (made n) us) → Spells rigour declared (Literal (codes "STRUCTURE") ∷ NewName name ∷ Literal
      word ∷ tokens_of places values) ws [] → FindsAll rigour (declared_at rigour declared ws) (made name values) []
  kind-complete word places made name values ws are rows free does h =
      led-complete rigour declared (codes "STRUCTURE") (NewName name ∷ Literal word ∷ tokens_of places values)
      (made name values) ws [] (declared_at rigour declared) (structure_at rigour declared) (λ us. refl) (λ us s.
      let split = Spells-split rigour declared (NewName name ∷ []) (Literal word ∷ tokens_of places values) us [] s in
      let n = name-complete us split.mid name split.front in
      let v = command-complete rigour declared word places (made n.found) values split.mid [] are rows
      (AreFree-tail places [] refl free) (form_at rigour declared n.found) (does n.found) split.behind_ in
      rw n.read (grind arith)) h

abbrev form_of : Name16 → Kind → Caps → ℕ → ℕ → Bool → List Set → StrForm
form_of name k caps conns vector keep prefs = record {
  name = name;
  kind = k;
  caps = caps;
  conns = conns;
  vector = vector;
  keep = keep;
  prefs = prefs;
}

module _ (rigour : Rigour) (declared : Declared) where
  structure-complete : (k : Kind) (name : Name16) (caps : Caps) (conns vector : ℕ) (keep : Bool) (ws : Words)
      → IsVectorTold k vector → Spells rigour declared
      (Literal (codes "STRUCTURE") ∷ NewName name ∷ form_tokens k (form_of name k caps conns vector keep [])) ws []
      → FindsAll rigour (declared_at rigour declared ws) (Structure (form_of name k caps conns vector keep [])) []
  structure-complete Kind.Cache name caps conns vector keep ws told h =
      kind-complete rigour declared (codes "CACHE") cache_places cache_from
      name (caps.entries, (caps.elements, (conns, (vector, (keep, tt))))) ws are_cache refl refl (λ n us. refl) h
  structure-complete (Kind.List headers locks refs) name caps conns vector keep ws told h =
      kind-complete rigour declared (codes "LIST") list_places list_from name (
        caps.entries,
        (
          caps.elements,
          (conns, (vector, (keep, (headers, (locks, (refs, tt)))))),
        ),
      ) ws are_list refl refl (λ n us. refl) h
  structure-complete Kind.Lock name caps conns vector keep ws told h =
      let P : ℕ → Type 0 = λ v. FindsAll rigour (declared_at rigour declared ws)
      (Structure (form_of name Kind.Lock caps conns v keep [])) [] in
      subst P (sym told) (kind-complete rigour declared (codes "LOCK") lock_places lock_from name
      (caps.entries, (caps.elements, (conns, (keep, tt)))) ws are_lock refl refl (λ n us. refl) h)

  declared-complete : (ws : Words) (declaration : Declaration)
      → Declares rigour declared ws declaration → FindsAll rigour (declared_at rigour declared ws) declaration []
  declared-complete ws (Facility pref) h = command-complete
      rigour declared (codes "FACILITY") facility_places facility_from (pref.cf, (pref.units, tt)) ws [] are_facility
      refl (AreFree-tail facility_places [] refl refl) (declared_at rigour declared) (λ us. refl) h.spelled
  declared-complete ws (Structure form) h =
      let P : List Set → Type 0 = λ prefs. FindsAll rigour (declared_at rigour declared ws)
      (Structure (form_of form.name form.kind form.caps form.conns form.vector form.keep prefs)) [] in
      let Q : List Set → Type 0 = λ prefs. Spells rigour declared (Literal (codes "STRUCTURE") ∷ NewName form.name ∷
      form_tokens form.kind (form_of form.name form.kind form.caps form.conns form.vector form.keep prefs)) ws [] in
      subst P (sym h.whole.0) (structure-complete _ _ _ _ _ _ _ h.whole.1 (subst Q h.whole.0 h.spelled))
  declared-complete ws (Pref on pref) h =
      command-complete rigour declared (codes "PREF") pref_places pref_from (on, (pref.cf, (pref.units, tt))) ws
      [] are_pref refl (AreFree-tail pref_places [] refl refl) (declared_at rigour declared) (λ us. refl) h.spelled
  declared-complete ws (Connector name) h = command-complete
      rigour declared (codes "CONNECTOR") (ANewName ∷ []) (λ v. Connector v.0) (name, tt) ws [] (tt, tt, tt)
      refl (AreFree-tail (ANewName ∷ []) [] refl refl) (declared_at rigour declared) (λ us. refl) h.spelled

pub declaration-complete : (rigour : Rigour) (declared : Declared) (ws : Words) (declaration : Declaration) → Declares
    rigour declared ws declaration → Finds rigour (declaration_at rigour declared ws) declaration
declaration-complete rigour declared ws declaration h =
    let f = declared-complete rigour declared ws declaration h in
    record { found = f.found; read = rw f.read refl; same = f.same }
