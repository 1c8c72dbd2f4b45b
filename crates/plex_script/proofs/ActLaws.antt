-- What is read of a whole line of a caller is spelled so, and what is spelled so is read.
use Rattle.plex_script.proofs.Imports.{subst, not_from_false, not-true, ◌≡◌, ℕ, ◌==◌, ◌<◌, Bool, true, false, cond, List, [], ◌∷◌, ◌++◌, Option, Some, None, option_map, unwrap_or, codes, refl, ap, ◌∙◌, arith, lit<, nat_tests, ConnId, Kind, Rigour, and_parts, on_first, begins_with, words_behind, Declared, Spells, Literal, Number, is_operator, number_at, tokens_at, pick, not_some, mapped, bound, same_word-of, Words, FindsAll, Spells-append, Spells-split, led, number_at-sound, number_at-complete, is_tail, is_own, any_ask_at, retry_at, Finds, call_at, own_at, done_at, act_at, whole_read, value-sound, value-complete, Amount, AnOption, AnyAsk, Act, Call, Test, TestWord, Post, Take, Events, ask_tokens, act_tokens, retry_tokens, MayAsk, MayDo, is_ask_of, SaysDone}
use Rattle.plex_script.proofs.AskLaws.{any_ask-sound, any_ask-complete, ask-not_own}

-- ---- once more

first_read : {V : Type 0} (f : List ℕ → Option V) (ws rest : Words) (v : V) → on_first f ws ≡ Some (v, rest)
    → (w : List ℕ) × (f w ≡ Some v)
first_read f [] rest v h = absurd (cc)
first_read {V} f (w ∷ ws) rest v h = grind (arith, mapped, Words)

positive_not : (n : ℕ) → 0 < n → (n == 0) ≡ false
positive_not n h = grind (arith, nat_tests)

nothing_there : (ws rest : Words) (n : ℕ) → (let q : Option ℕ × Words = (None, ws) in Some q) ≡ Some (Some n, rest)
    → 0 < n
nothing_there ws rest n h = grind (arith, Words)

retry-sound : (rigour : Rigour) (declared : Declared) (ws rest : Words) (o : Option ℕ)
    → retry_at rigour ws ≡ Some (o, rest) → Spells rigour declared (retry_tokens (unwrap_or o 0)) ws rest
retry-sound rigour declared ws rest o h =
    let spelled = value-sound rigour declared (AnOption (codes "RETRY") (Amount 1 1000)) ws rest o (lit< tt) h in
    at_option o h spelled
  where
    at_option : (x : Option ℕ) → retry_at rigour ws ≡ Some (x, rest) → Spells rigour declared (tokens_at (AnOption
        (codes "RETRY") (Amount 1 1000)) x) ws rest → Spells rigour declared (retry_tokens (unwrap_or x 0)) ws rest
    at_option None k spelled = spelled
    at_option (Some n) k spelled =
        grind (arith, pick, Words, mapped, first_read, nothing_there, positive_not, not_some, and_parts, nat_tests)

-- the option that the words of a retry tell
abbrev told_retry : ℕ → Option ℕ
told_retry n = cond (n == 0) None (Some n)

told-unwrap : (n : ℕ) (b : Bool) → (n == 0) ≡ b → unwrap_or (cond b None (Some n)) 0 ≡ n
told-unwrap n b e = grind (arith, nat_tests)

retry-complete : (rigour : Rigour) (declared : Declared) (ws : Words) (retry : ℕ) → Spells rigour declared
    (retry_tokens retry) ws [] → (is_tail ws ≡ true) × FindsAll rigour (retry_at rigour ws) (told_retry retry) []
retry-complete rigour declared ws retry h = at_test (retry == 0) refl h
  where
    at_test : (b : Bool) → (retry == 0) ≡ b → Spells rigour declared (cond b [] (Literal (codes "RETRY") ∷ Number
        1 1000 retry ∷ [])) ws [] → (is_tail ws ≡ true) × FindsAll rigour (retry_at rigour ws) (told_retry retry) []
    at_test true e k = (rw k refl, rw (e, k) (record { found = None; read = refl; same = λ _. refl }))
    at_test false e k = (
      tail ws k,
      rw e (value-complete rigour declared (AnOption (codes "RETRY") (Amount 1 1000)) ws [] (Some retry)
          (lit< tt) (refl, tt) refl k),
    )
      where
        tail : (us : Words) → Spells rigour declared (Literal (codes "RETRY") ∷ Number 1 1000 retry ∷ []) us []
            → is_tail us ≡ true
        tail [] m = absurd m
        tail (w ∷ us) m = same_word-of w (codes "RETRY") m.0

-- ---- what a caller does

pub record DoneTold (rigour : Rigour) (declared : Declared) (by : ConnId) (kind : Kind) (ws rest : Words) (told : Act
    × ℕ) : Type 0 where
  pub given : Option ℕ
  pub allowed : MayDo by kind given told.0 told.1
  pub spelled : Spells rigour declared (act_tokens given told.0 ++ retry_tokens told.1) ws rest

pub ended-is : {V : Type 0} (value : V) (ws : Words) (v : V)
    → whole_read (value, ws) ≡ Some v → (value ≡ v) × (ws ≡ [])
ended-is value ws v h = grind arith

module _ (rigour : Rigour) (declared : Declared) (by : ConnId) (kind : Kind) where
  call-sound : (ws rest : Words) (told : Act × ℕ)
      → call_at rigour declared by kind ws ≡ Some (told, rest) → DoneTold rigour declared by kind ws rest told
  call-sound ws rest told h =
      let b = bound (λ (asked : AnyAsk × Words). option_map (λ (read : Option ℕ × Words). (let p : (Act × ℕ)
      × Words = ((Call asked.0, unwrap_or read.0 0), read.1) in p)) (retry_at rigour asked.1))
      (any_ask_at rigour declared by kind ws) (told, rest) h in
      let m = mapped (λ (read : Option ℕ × Words). (let p : (Act × ℕ)
      × Words = ((Call b.value.0, unwrap_or read.0 0), read.1) in p)) (retry_at rigour b.value.1) (told, rest)
      b.then_ in
      let made : (let p : Act × ℕ = (Call b.value.0, unwrap_or m.value.0 0) in p) ≡ told = grind (arith, Words) in
      let left : m.value.1 ≡ rest = ap (λ (p : (Act × ℕ) × Words). p.1) m.made in
      let ask = any_ask-sound rigour declared by kind ws b.value.1 b.value.0 b.read in
      let retry = retry-sound rigour declared b.value.1 rest m.value.0 (grind (arith, Words)) in
      rw (← made) (grind (arith, Spells-append))

  own-sound : (ws rest : Words) (told : Act × ℕ) → is_operator by ≡ false
      → own_at rigour kind ws ≡ Some (told, rest) → DoneTold rigour declared by kind ws rest told
  own-sound ws rest told other h =
      let may = not_from_false (is_operator by) other in
      pick h (λ b k. pick k (λ v m. numbered (codes "TEST") Test (grind arith) b m) (λ _ n. not_some _ n))
      (λ _ a. pick a (λ b k. pick k (λ v m. numbered (codes "TESTWORD") TestWord
      (λ n s. record { given = None; allowed = (v, may, refl, refl); spelled = s }) b m) (λ _ n. not_some _ n))
      (grind (arith, pick, alone, not_some, Words)))
    where
      numbered : (word : List ℕ) (made : ℕ → Act) → ((n : ℕ) → Spells rigour declared (Literal word ∷ Number
          0 4294967295 n ∷ []) ws rest → DoneTold rigour declared by kind ws rest (made n, 0)) → begins_with word
          ws ≡ true → option_map (λ read. (let p : (Act × ℕ) × Words = ((made read.0, 0), read.1) in p))
          (number_at rigour (words_behind ws)) ≡ Some (told, rest) → DoneTold rigour declared by kind ws rest told
      numbered word made f b k =
          let m = mapped (λ read. (let p : (Act × ℕ) × Words = ((made read.0, 0), read.1) in p))
          (number_at rigour (words_behind ws)) (told, rest) k in
          let is : (let p : Act × ℕ = (made m.value.0, 0) in p) ≡ told = ap (λ p. p.0) m.made in
          let left = ap (λ p. p.1) m.made in
          let n = number_at-sound rigour declared (words_behind ws) rest m.value.0
          (m.read ∙ ap (λ r. (let p : ℕ × Words = (m.value.0, r) in Some p)) left) in
          rw (← is) (f m.value.0 (led rigour declared word (Number 0 4294967295 m.value.0 ∷ []) ws rest b n))

      alone : (word : List ℕ) (made : Act) → (Spells rigour declared (Literal word ∷ []) ws rest → DoneTold
          rigour declared by kind ws rest (made, 0)) → begins_with word ws ≡ true → (let p : (Act × ℕ) × Words =
          ((made, 0), words_behind ws) in Some p) ≡ Some (told, rest) → DoneTold rigour declared by kind ws rest told
      alone word made f b k =
          let same : (let p : (Act × ℕ) × Words = ((made, 0), words_behind ws) in p) ≡ (told, rest) = cc in
          let is : (let p : Act × ℕ = (made, 0) in p) ≡ told = ap (λ p. p.0) same in
          let left = ap (λ p. p.1) same in
          rw (← is) (f (led rigour declared word [] ws rest b left))

  done-sound : (ws rest : Words) (told : Act × ℕ)
      → done_at rigour declared by kind ws ≡ Some (told, rest) → DoneTold rigour declared by kind ws rest told
  done-sound ws rest told h = pick h (λ _ k. pick k (λ _ n. not_some (let p : (Act × ℕ) × Words = (told, rest) in p)
      n) (λ other m. own-sound ws rest told other m)) (λ _ k. call-sound ws rest told k)

  pub act-sound : (ws : Words) (told : Act × ℕ)
      → act_at rigour declared by kind ws ≡ Some told → SaysDone rigour declared by kind ws told.0 told.1
  act-sound ws told h =
      let f : (Act × ℕ) × Words → Option (Act × ℕ) = λ read. whole_read read in
      let b = bound f (done_at rigour declared by kind ws) told h in
      let e = ended-is b.value.0 b.value.1 told b.then_ in
      let p : (Act × ℕ) → Words → (Act × ℕ) × Words = λ x r. (x, r) in
      let read : done_at rigour declared by kind ws ≡ Some (told, []) = grind (arith, Words) in
      let t = done-sound ws [] told read in
      record { given = t.given; allowed = t.allowed; spelled = t.spelled }

call-complete : (rigour : Rigour) (declared : Declared) (by : ConnId) (kind : Kind) (ws : Words) (given : Option ℕ)
    (ask : AnyAsk) (retry : ℕ) → is_ask_of kind ask ≡ true → MayAsk by given ask → Spells rigour declared (ask_tokens
    given ask ++ retry_tokens retry) ws [] → Finds rigour (act_at rigour declared by kind ws) (Call ask, retry)
call-complete rigour declared by kind ws given ask retry of may h =
    let s = Spells-split rigour declared (ask_tokens given ask) (retry_tokens retry) ws [] h in
    let r = retry-complete rigour declared s.mid retry s.behind_ in
    let a = any_ask-complete rigour declared by kind ws s.mid given ask r.0 of may s.front in
    let other = ask-not_own rigour declared ws s.mid given ask s.front in
    let made : AnyAsk → Option ℕ → Act × ℕ = λ x o. (Call x, unwrap_or o 0) in
    let read : act_at rigour declared by kind ws ≡ Some (made a.found r.1.found) = grind arith in
    record {
      found = made a.found r.1.found;
      read = read;
      same = grind (arith, told-unwrap);
    }

module _ (rigour : Rigour) (declared : Declared) (by : ConnId) (kind : Kind) (word : List ℕ)
    (other : is_operator by ≡ false) (own : (us : Words) → is_own (word ∷ us) ≡ true) where
  numbered-complete : (ws : Words) (index retry : ℕ) (made : ℕ → Act) → retry ≡ 0 → ((us : Words) → own_at rigour kind
      (word ∷ us) ≡ option_map (λ (read : ℕ × Words). (let p : (Act × ℕ) × Words = ((made read.0, 0), read.1) in p))
      (number_at rigour us)) → Spells rigour declared (Literal word ∷ Number 0 4294967295 index ∷ retry_tokens retry)
      ws [] → Finds rigour (act_at rigour declared by kind ws) (made index, retry)
  numbered-complete [] index retry made none does h = absurd h
  numbered-complete (w ∷ ws) index retry made none does h =
      let spelled = subst (λ r. Spells rigour declared (Number 0 4294967295 index ∷ retry_tokens r) ws []) none h.1 in
      let n = number_at-complete rigour declared ws [] index spelled in
      let is = h.0 in
      let act : ℕ → Act × ℕ = λ i. (made i, 0) in
      rw (is, none) (record {
        found = act n.found;
        read = rw (own ws, other, does ws, n.read) refl;
        same = λ e. ap act (n.same e);
      })

  alone-complete : (ws : Words) (act : Act) (retry : ℕ) → retry ≡ 0 → ((us : Words) → own_at
      rigour kind (word ∷ us) ≡ (let p : (Act × ℕ) × Words = ((act, 0), us) in Some p)) → Spells rigour declared
      (Literal word ∷ retry_tokens retry) ws [] → Finds rigour (act_at rigour declared by kind ws) (act, retry)
  alone-complete [] act retry none does h = absurd h
  alone-complete (w ∷ ws) act retry none does h =
      let spelled = rw none at h.1 in
      let is : w ≡ word = h.0 in
      rw (is, none) (record { found = (act, 0); read = rw (own ws, other, does ws, spelled) refl; same = λ _. refl })

pub act-complete : (rigour : Rigour) (declared : Declared) (by : ConnId) (kind : Kind) (ws : Words) (act : Act)
    (retry : ℕ)
    → SaysDone rigour declared by kind ws act retry → Finds rigour (act_at rigour declared by kind ws) (act, retry)
act-complete rigour declared by kind ws (Call ask) retry h = grind (arith, call-complete)
act-complete rigour declared by kind ws (Test index) retry h =
    numbered-complete rigour declared by kind (codes "TEST") (not-true (is_operator by) h.allowed.1) (λ us. refl) ws
    index retry Test h.allowed.3 (λ us. rw h.allowed.0 refl) h.spelled
act-complete rigour declared by kind ws (TestWord index) retry h =
    numbered-complete rigour declared by kind (codes "TESTWORD") (not-true (is_operator by) h.allowed.1)
    (λ us. refl) ws index retry TestWord h.allowed.3 (λ us. rw h.allowed.0 refl) h.spelled
act-complete rigour declared by kind ws Post retry h = grind (arith, alone-complete, not-true)
act-complete rigour declared by kind ws Take retry h = grind (arith, alone-complete, not-true)
act-complete rigour declared by kind ws Events retry h = grind (arith, alone-complete, not-true)
