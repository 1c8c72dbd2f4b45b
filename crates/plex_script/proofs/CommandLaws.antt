-- The call that a text makes is the one that is read of it.
use Rattle.plex_script.proofs.Imports.{◌≡◌, ℕ, zero, suc, Bool, true, false, List, Option, Some, None, codes, refl, sym, ap, ◌∙◌, subst, inl, inr, word-same, same_word, same_word-of, not_some, nat_tests, words_of, ConnId, StrNo, Script, is_operator, is_long, declared_in, kind_of, shell_ask, called_line, command_at, MakesCommand, and_parts, not-true, Kind, Names, Declared, Words, AnyAsk, Act, Call, Test, TestWord, Post, Take, Events, act_at, SaysDone, call_in}
use Rattle.plex_script.proofs.ActLaws.{act-sound, act-complete}
use Rattle.std.proofs.Common.{◌&&◌, if◌then◌else◌, arith}
use Rattle.std.proofs.lemmas.Bool.{eq-eqb, false≢true}
use Rattle.cf_types.specs.declared.shell_commands.ShellCmd.TheVariants.{Next}

module _ (declared : Declared) (by : ConnId) (kind : Kind) (ws : Words) where
  pub call-found : (asked : AnyAsk) → call_in (act_at Names declared by kind ws) ≡ Some asked
      → SaysDone Names declared by kind ws (Call asked) 0
  call-found asked h = by_act (act_at Names declared by kind ws) refl h
    where
      by_act : (o : Option (Act × ℕ)) → act_at Names declared by kind ws ≡ o → call_in o ≡ Some asked
          → SaysDone Names declared by kind ws (Call asked) 0
      by_act None e k = absurd (cc)
      by_act (Some (Call other, zero)) e k =
          let same : other ≡ asked = cc in
          subst (λ a. SaysDone Names declared by kind ws (Call a) 0) same
          (act-sound Names declared by kind ws (Call other, 0) e)
      by_act (Some (Call other, suc retry)) e k = absurd (cc)
      by_act (Some (Test index, retry)) e k = absurd (cc)
      by_act (Some (TestWord word, retry)) e k = absurd (cc)
      by_act (Some (Post, retry)) e k = absurd (cc)
      by_act (Some (Take, retry)) e k = absurd (cc)
      by_act (Some (Events, retry)) e k = absurd (cc)

  pub call-read : (asked : AnyAsk) → SaysDone Names declared by kind ws (Call asked) 0
      → call_in (act_at Names declared by kind ws) ≡ Some asked
  call-read asked says =
      let f = act-complete Names declared by kind ws (Call asked) 0 says in
      let read : act_at Names declared by kind ws ≡ Some (Call asked, 0) =
      f.read ∙ ap (λ (told : Act × ℕ). Some told) (f.same refl) in
      rw read refl

-- ---- the one call of a text

operator : (by : ConnId) → is_operator by ≡ true → by.0 ≡ 0
operator by h = grind (arith, nat_tests)

both : {a b : Bool} → a ≡ true → b ≡ true → (a && b) ≡ true
both a_is b_is = rw (a_is, b_is) refl

module _ (script : Script) (on : StrNo) (by : ConnId) (text : List ℕ) where
  abbrev is_next : Bool
  is_next = is_operator by && same_word text (codes "NEXT")

  abbrev next : AnyAsk
  next = shell_ask (kind_of script.structures on) Next

  abbrev line_call : Option AnyAsk
  line_call = call_in (act_at Names (declared_in script) by (kind_of script.structures on) (words_of text))

  abbrev chosen_call : Bool → Bool → Option AnyAsk
  chosen_call n long = if n then Some next else if long then None else line_call

  pub command-made : (asked : AnyAsk) → command_at script on by text ≡ Some asked
      → MakesCommand script on by text asked
  command-made asked h = by_tests is_next (is_long (called_line script on by text)) refl refl h
    where
      by_tests : (n long : Bool) → is_next ≡ n → is_long (called_line script on by text) ≡ long
          → chosen_call n long ≡ Some asked → MakesCommand script on by text asked
      by_tests true long n_is l_is k =
          let parts = and_parts (is_operator by) (same_word text (codes "NEXT")) n_is in
          inr (operator by parts.0, word-same text (codes "NEXT") parts.1, sym cc)
      by_tests false true n_is l_is k = absurd (cc)
      by_tests false false n_is l_is k =
          inl (call-found (declared_in script) by (kind_of script.structures on) (words_of text) asked k, rw l_is refl)

  -- where no call is read, the text makes none
  pub none-made : command_at script on by text ≡ None → (asked : AnyAsk) → MakesCommand script on by text asked → ⊥
  none-made none asked makes = by_tests is_next (is_long (called_line script on by text)) refl refl none makes
    where
      by_tests : (n long : Bool) → is_next ≡ n → is_long (called_line script on by text) ≡ long
          → chosen_call n long ≡ None → MakesCommand script on by text asked → ⊥
      by_tests true long n_is l_is k m = absurd (cc)
      by_tests false long n_is l_is k (inr made) =
          false≢true (sym n_is ∙ both (eq-eqb by.0 0 made.0) (same_word-of text (codes "NEXT") made.1))
      by_tests false true n_is l_is k (inl says) = false≢true (sym (not-true _ says.1) ∙ l_is)
      by_tests false false n_is l_is k (inl says) =
          not_some asked
          (sym k ∙ call-read (declared_in script) by (kind_of script.structures on) (words_of text) asked says.0)
