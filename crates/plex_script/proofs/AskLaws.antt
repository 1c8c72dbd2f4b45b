-- What is read of what a caller does is spelled so, and what is spelled so is read.
use Rattle.plex_script.proofs.Imports.{not_from_false, not-true, arith, ◌≡◌, ℕ, true, false, not, Option, Some, None, option_map, refl, sym, ap, ◌∙◌, ConnId, Kind, ShellCmd, AlterCmd, CacheCmd, QueueCmd, LockCmd, Ask, Shell, Content, Rigour, Declared, Spells, shell_tokens, may_give, is_operator, shell_at, alter_at, queue_at, pick, not_some, mapped, Words, FindsAll, is_tail, shell-sound, shell-complete, alter-sound, alter-complete, queue-sound, queue-complete, lock-sound, lock-complete, is_own, ask_at, any_ask_at, AnyAsk, ask_tokens, MayAsk, is_ask_of}
use Rattle.plex_plain.specs.PlexSpell.LockReading.{lock_at}
use Rattle.plex_script.proofs.FirstWords.{gives, shell-not_own, alter-content, queue-content, lock-content}

pub record AskTold (rigour : Rigour) (declared : Declared) (by : ConnId) (ws rest : Words) (ask : AnyAsk) : Type 0
  where
    pub given : Option ℕ
    pub allowed : MayAsk by given ask
    pub spelled : Spells rigour declared (ask_tokens given ask) ws rest

-- ---- asks, of a content that is told by its readings

ask-sound : {C : Type 0} (by : ConnId) (rest : Words) (common : Option (ShellCmd × Words))
    (content : Option (C × Words)) (ask : Ask C) (P : Ask C → Type 0) → ((cmd : ShellCmd)
    → common ≡ Some (cmd, rest) → may_give by cmd ≡ true → P (Shell cmd)) → ((cmd : C) → content ≡ Some (cmd, rest)
    → is_operator by ≡ false → P (Content cmd)) → ask_at by common content ≡ Some (ask, rest) → P ask
ask-sound {C} by rest None content ask P f g h = grind (arith, pick, not_some, Words, mapped)
ask-sound {C} by rest (Some read) content ask P f g h = grind (arith, pick, Words, not_some)

common-complete : {C : Type 0} (rigour : Rigour) (declared : Declared) (by : ConnId) (ws rest : Words)
    (content : Option (C × Words)) (cmd : ShellCmd) → is_tail rest ≡ true
    → may_give by cmd ≡ true → Spells rigour declared (shell_tokens cmd) ws rest
    → FindsAll rigour (ask_at by (shell_at rigour declared ws) content) (Shell cmd) rest
common-complete {C} rigour declared by ws rest content cmd tail may h =
    let f = shell-complete rigour declared ws rest cmd tail h in
    let given : may_give by f.found ≡ true = gives rigour declared by ws rest f.found
    (shell-sound rigour declared ws rest f.found f.read) ∙ sym (gives rigour declared by ws rest cmd h) ∙ may in
    let wrap : ShellCmd → Ask C = λ c. Shell c in
    rw f.read (record { found = wrap f.found; read = rw given refl; same = λ e. ap wrap (f.same e) })

content-complete : {C : Type 0} (rigour : Rigour) (by : ConnId) (common : Option (ShellCmd × Words))
    (content : Option (C × Words)) (cmd : C) (rest : Words) → common ≡ None → not (is_operator by) ≡ true
    → FindsAll rigour content cmd rest → FindsAll rigour (ask_at by common content) (Content cmd) rest
content-complete {C} rigour by common content cmd rest none may f = grind (arith, not-true, Words)

wrapped-sound : {C : Type 0} (wrap : Ask C → AnyAsk) (reading : Option (Ask C × Words)) (ask : AnyAsk)
    (rest : Words) (P : AnyAsk → Type 0) → ((a : Ask C) → reading ≡ Some (a, rest) → P (wrap a))
    → option_map (λ (read : Ask C × Words). (let p : AnyAsk × Words = (wrap read.0, read.1) in p))
    reading ≡ Some (ask, rest) → P ask
wrapped-sound {C} wrap reading ask rest P f h = grind (arith, mapped, Words)

wrapped-complete : {C : Type 0} (rigour : Rigour) (wrap : Ask C → AnyAsk) (reading : Option (Ask C × Words))
    (ask : Ask C) (rest : Words) → FindsAll rigour reading ask rest → FindsAll rigour (option_map
    (λ (read : Ask C × Words). (let p : AnyAsk × Words = (wrap read.0, read.1) in p)) reading) (wrap ask) rest
wrapped-complete {C} rigour wrap reading ask rest f = grind (arith, Words)

-- the ask is one of the kind, and is told
abbrev pub AnyTold : Rigour → Declared → ConnId → Kind → Words → Words → AnyAsk → Type 0
AnyTold rigour declared by kind ws rest ask = (is_ask_of kind ask ≡ true) × AskTold rigour declared by ws rest ask

module _ (rigour : Rigour) (declared : Declared) where
  pub any_ask-sound : (by : ConnId) (kind : Kind) (ws rest : Words) (ask : AnyAsk)
      → any_ask_at rigour declared by kind ws ≡ Some (ask, rest) → AnyTold rigour declared by kind ws rest ask
  any_ask-sound by Kind.Cache ws rest ask h =
      let P = AnyTold rigour declared by Kind.Cache ws rest in
      let wrap : Ask (AlterCmd CacheCmd) → AnyAsk = λ a. AnyAsk.Cache a in
      wrapped-sound _ _ _ _ P (λ a k. ask-sound by rest (shell_at rigour declared ws) (alter_at rigour declared ws) a
      (λ x. P (wrap x)) (grind (arith, shell-sound)) (λ cmd m other. let t = alter-sound rigour declared ws rest cmd m
      in (grind (arith, not_from_false))) k) h
  any_ask-sound by (Kind.List headers locks refs) ws rest ask h =
      let P = AnyTold rigour declared by (Kind.List headers locks refs) ws rest in
      let wrap : Ask QueueCmd → AnyAsk = λ a. AnyAsk.List a in
      wrapped-sound _ _ _ _ P (λ a k. ask-sound by rest (shell_at rigour declared ws) (queue_at rigour declared ws) a
      (λ x. P (wrap x)) (grind (arith, shell-sound)) (λ cmd m other. let t = queue-sound rigour declared ws rest cmd m
      in (grind (arith, not_from_false))) k) h
  any_ask-sound by Kind.Lock ws rest ask h =
      let P : AnyAsk → Type 0 = AnyTold rigour declared by Kind.Lock ws rest in
      let wrap : Ask LockCmd → AnyAsk = λ a. AnyAsk.Lock a in
      wrapped-sound _ _ _ _ P (λ a k. ask-sound by rest (shell_at rigour declared ws) (lock_at rigour declared ws) a
      (λ x. P (wrap x)) (grind (arith, shell-sound)) (λ cmd m other. let t = lock-sound rigour declared ws rest cmd m
      in (grind (arith, not_from_false))) k) h

  pub any_ask-complete : (by : ConnId) (kind : Kind) (ws rest : Words) (given : Option ℕ) (ask : AnyAsk)
      → is_tail rest ≡ true → is_ask_of kind ask ≡ true → MayAsk by given ask → Spells rigour
      declared (ask_tokens given ask) ws rest → FindsAll rigour (any_ask_at rigour declared by kind ws) ask rest
  any_ask-complete by Kind.Cache ws rest given (AnyAsk.Cache (Shell cmd)) tail of may h =
      wrapped-complete _ _ _ _ _ (common-complete rigour declared by ws rest _ cmd tail may.0 h)
  any_ask-complete by Kind.Cache ws rest given (AnyAsk.Cache (Content cmd)) tail of may h =
      wrapped-complete _ _ _ _ _ (content-complete rigour by (shell_at rigour declared ws)
      (alter_at rigour declared ws) cmd rest (alter-content rigour declared ws rest given cmd h).0 may.0
      (alter-complete rigour declared ws rest given cmd tail may.1 h))
  any_ask-complete by (Kind.List headers locks refs) ws rest given (AnyAsk.List (Shell cmd)) tail of may h =
      wrapped-complete _ _ _ _ _ (common-complete rigour declared by ws rest _ cmd tail may.0 h)
  any_ask-complete by (Kind.List headers locks refs) ws rest given (AnyAsk.List (Content cmd)) tail of may h =
      wrapped-complete _ _ _ _ _ (content-complete rigour by (shell_at rigour declared ws)
      (queue_at rigour declared ws) cmd rest (queue-content rigour declared ws rest cmd h).0 may.0
      (queue-complete rigour declared ws rest cmd tail may.1 h))
  any_ask-complete by Kind.Lock ws rest given (AnyAsk.Lock (Shell cmd)) tail of may h =
      wrapped-complete _ _ _ _ _ (common-complete rigour declared by ws rest _ cmd tail may.0 h)
  any_ask-complete by Kind.Lock ws rest given (AnyAsk.Lock (Content cmd)) tail of may h =
      wrapped-complete _ _ _ _ _ (content-complete rigour by (shell_at rigour declared ws)
      (lock_at rigour declared ws) cmd rest (lock-content rigour declared ws rest cmd h).0 may.0
      (lock-complete rigour declared ws rest cmd tail h))
  any_ask-complete by kind ws rest given ask tail of may h = absurd (cc)

  pub ask-not_own : (ws rest : Words) (given : Option ℕ) (ask : AnyAsk)
      → Spells rigour declared (ask_tokens given ask) ws rest → is_own ws ≡ false
  ask-not_own ws rest given (AnyAsk.Cache (Shell cmd)) h = shell-not_own rigour declared ws rest cmd h
  ask-not_own ws rest given (AnyAsk.Cache (Content cmd)) h = (alter-content rigour declared ws rest given cmd h).1
  ask-not_own ws rest given (AnyAsk.List (Shell cmd)) h = shell-not_own rigour declared ws rest cmd h
  ask-not_own ws rest given (AnyAsk.List (Content cmd)) h = (queue-content rigour declared ws rest cmd h).1
  ask-not_own ws rest given (AnyAsk.Lock (Shell cmd)) h = shell-not_own rigour declared ws rest cmd h
  ask-not_own ws rest given (AnyAsk.Lock (Content cmd)) h = (lock-content rigour declared ws rest cmd h).1
