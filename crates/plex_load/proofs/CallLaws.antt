-- The calls of a connector are entries that are counted one by one.
use Rattle.plex_load.proofs.Imports.{◌≡◌, ℕ, ◌+◌, ◌==◌, ◌&&◌, Bool, true, false, cond, List, [], ◌∷◌, length, map, refl, ◌∙◌, arith, count_by, cons_option, sum_by-cons, CacheCmd, CacheReply, AlterCmd, AlterReply, QueueCmd, QueueReply, LockCmd, LockReply, ConnId, Ask, What, Entry, Call, call_told, calls, AnyAsk, any_call, own_calls, is_call, is_call_by}

module _ {C R : Type 0} (of : Ask C → AnyAsk) (conn : ConnId) where
  abbrev own_of : List (Call C R) → ℕ
  own_of told = length (own_calls (map (any_call of) told) conn)

  pub counted : (entries : List (Entry C R)) → count_by (is_call_by conn) entries ≡ own_of (calls entries)
  counted [] = refl
  counted (entry ∷ entries) = sum_by-cons (λ (x : Entry C R). cond (is_call_by conn x) 1 0) entry entries
      ∙ at_what entry.what (counted entries)
    where
      none : (b : Bool) {n m : ℕ} → n ≡ m → cond (b && false) 1 0 + n ≡ m
      none true e = omega (arith, e)
      none false e = omega (arith, e)

      at_what : (w : What C) → count_by (is_call_by {C = C} {R = R} conn) entries ≡ own_of (calls entries)
          → cond (entry.by.0 == conn.0 && is_call w) 1 0 + count_by (is_call_by {C = C} {R = R} conn) entries
          ≡ own_of (cons_option (call_told entry.no entry.by entry.reply w) (calls entries))
      at_what (What.Call asked) rest = grind arith
      at_what (What.Lost cf) rest = none (entry.by.0 == conn.0) rest

-- of each kind

pub counted_cache : (conn : ConnId) (entries : List (Entry (AlterCmd CacheCmd) (AlterReply CacheReply)))
    → count_by (is_call_by conn) entries ≡ length (own_calls (map (any_call AnyAsk.Cache) (calls entries)) conn)
counted_cache conn entries = counted AnyAsk.Cache conn entries

pub counted_list : (conn : ConnId) (entries : List (Entry QueueCmd QueueReply))
    → count_by (is_call_by conn) entries ≡ length (own_calls (map (any_call AnyAsk.List) (calls entries)) conn)
counted_list conn entries = counted AnyAsk.List conn entries

pub counted_lock : (conn : ConnId) (entries : List (Entry LockCmd LockReply))
    → count_by (is_call_by conn) entries ≡ length (own_calls (map (any_call AnyAsk.Lock) (calls entries)) conn)
counted_lock conn entries = counted AnyAsk.Lock conn entries
