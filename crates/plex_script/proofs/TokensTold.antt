-- A line that writes storage class 1 out says the same without it.
use Rattle.plex_script.proofs.Imports.{◌≡◌, ℕ, ◌≤◌, List, ◌++◌, Option, codes, refl, arith, unwrap_or, nat_tests, ConnId, Kind, AlterCmd, CacheCmd, Shell, Content, Declared, Token, option_tokens, number_tokens, cache_tokens, IsGiven, IsAlterGiven, alter_tokens, class_told, storage_told, alter_storage_told, AreWithin, within-front, within-back, within-append, Act, Call, Test, TestWord, act_tokens, MayDo, class_in, AnyAsk}

-- ---- which storage class is told

told-class : (stg : ℕ) → stg ≡ unwrap_or (class_told stg) 1
told-class stg = grind (arith, nat_tests)

given-told : (cmd : CacheCmd) → IsGiven (storage_told cmd) cmd
given-told (CacheCmd.Read name index old stg) = told-class stg
given-told cmd = grind (arith, told-class)

alter_given-told : (cmd : AlterCmd CacheCmd) → IsAlterGiven (alter_storage_told cmd) cmd
alter_given-told (AlterCmd.Inner cmd) = given-told cmd
alter_given-told cmd = refl

pub may-told : (by : ConnId) (kind : Kind) (given : Option ℕ) (act : Act) (retry : ℕ) → MayDo by kind given act retry
    → MayDo by kind (class_in act) act retry
may-told by kind given (Call (AnyAsk.Cache (Content cmd))) retry h = (h.0, (h.1.0, alter_given-told cmd))
may-told by kind given (Call (AnyAsk.List (Content cmd))) retry h = (h.0, (h.1.0, h.1.1, refl))
may-told by kind given (Call (AnyAsk.Lock (Shell cmd))) retry h = (h.0, (h.1.0, refl))
may-told by kind given (Call ask) retry h = (h.0, (h.1.0, refl))
may-told by kind given (Test index) retry h = (h.0, h.1, refl, h.3)
may-told by kind given (TestWord word) retry h = (h.0, h.1, refl, h.3)
may-told by kind given act retry h = (h.0, refl, h.2)

-- ---- the words of it

abbrev storage : Option ℕ → List Token
storage given = option_tokens (codes "STG") number_tokens given

module _ (declared : Declared) where
  class-small : (given : Option ℕ) (stg : ℕ) → stg ≡ unwrap_or given 1
      → AreWithin declared (storage given) → stg ≤ 4294967295
  class-small given stg e h = grind arith

  storage-within : (given : Option ℕ) (stg : ℕ) → stg ≡ unwrap_or given 1
      → AreWithin declared (storage given) → AreWithin declared (storage (class_told stg))
  storage-within given stg e h = grind (arith, class-small)

  -- a part behind others, and before others
  behind-part : (front one other : List Token) → (AreWithin declared one → AreWithin declared other)
      → AreWithin declared (front ++ one) → AreWithin declared (front ++ other)
  behind-part front one other f h = grind (arith, within-append, within-front, within-back)

  before-part : (back one other : List Token) → (AreWithin declared one → AreWithin declared other)
      → AreWithin declared (one ++ back) → AreWithin declared (other ++ back)
  before-part back one other f h = grind (arith, within-append, within-front, within-back)

  cache-told : (given : Option ℕ) (cmd : CacheCmd) → IsGiven given cmd
      → AreWithin declared (cache_tokens given cmd) → AreWithin declared (cache_tokens (storage_told cmd) cmd)
  cache-told given (CacheCmd.Read name index old stg) e h = grind (arith, behind-part, before-part, storage-within)
  cache-told given (CacheCmd.Write name index body class adj old stg when_reg) e h =
      grind (arith, behind-part, before-part, storage-within)
  cache-told given cmd e h = h

  alter-told : (given : Option ℕ) (cmd : AlterCmd CacheCmd) → IsAlterGiven given cmd
      → AreWithin declared (alter_tokens given cmd) → AreWithin declared (alter_tokens (alter_storage_told cmd) cmd)
  alter-told given (AlterCmd.Inner cmd) e h = cache-told given cmd e h
  alter-told given cmd e h = h

  pub act-told : (by : ConnId) (kind : Kind) (given : Option ℕ) (act : Act) (retry : ℕ) → MayDo by kind
      given act retry → AreWithin declared (act_tokens given act) → AreWithin declared (act_tokens (class_in act) act)
  act-told by kind given (Call (AnyAsk.Cache (Content cmd))) retry may h = alter-told given cmd may.1.1 h
  act-told by kind given (Call (AnyAsk.List (Shell cmd))) retry may h = h
  act-told by kind given (Call (AnyAsk.Lock (Shell cmd))) retry may h = h
  act-told by kind given act retry may h = h
