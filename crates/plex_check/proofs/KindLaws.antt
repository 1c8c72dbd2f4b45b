-- What is known of a printed history of each kind.
use Rattle.std.proofs.Common.{◌≡◌, List, Result, refl, sym, subst}
use Rattle.std.specs.Prelude.{IsTrue, All, IfOk}
use Rattle.cf_types.specs.NoMemory.declared.wants.NoMemory.{NoMemory}
use Rattle.cf_types.specs.declared.alter_commands.AlterCmd.{AlterCmd}
use Rattle.cf_types.specs.declared.alter_commands.AlterReply.{AlterReply}
use Rattle.cf_types.specs.declared.cache_commands.CacheCmd.{CacheCmd}
use Rattle.cf_types.specs.declared.cache_commands.CacheReply.{CacheReply}
use Rattle.cf_types.specs.declared.list_commands.QueueCmd.{QueueCmd}
use Rattle.cf_types.specs.declared.list_commands.QueueReply.{QueueReply}
use Rattle.cf_types.specs.declared.lock_commands.LockCmd.{LockCmd}
use Rattle.cf_types.specs.declared.lock_commands.LockReply.{LockReply}
use Rattle.cf_types.specs.declared.forms.Kind.{Kind}
use Rattle.cf_types.specs.declared.forms.StrForm.{StrForm}
use Rattle.cf_types.specs.Forms.{is_cache, is_list, is_lock}
use Rattle.engine_api.specs.declared.histories.Entry.{Entry}
use Rattle.vector_waits.specs.Waits.{QueueView, AreSettled}
use Rattle.history_check.specs.declared.judged.Judged.{Judged}
use Rattle.history_check.specs.Judging.{IsAskable}
use Rattle.check_model.specs.RunShown.Meanings.{altered_caches}
use Rattle.check_model.specs.RunShown.QueueModel.ListQueues.{queued_lists}
use Rattle.check_model.specs.RunShown.LockModel.Meaning.{lock_meaning}
use Rattle.check_model.specs.RunShown.PlexScript.declared.asks.AnyHistory.{AnyHistory}
use Rattle.check_model.specs.RunShown.PlexScript.declared.scripts.AnyAsk.{AnyAsk}
use Rattle.check_model.specs.RunShown.PlexScript.Heard.{any_calls}
use Rattle.check_model.specs.RunShown.Kinds.{IsOfKind}
use Rattle.caller_check.specs.Tables.{AnySettled}
use Rattle.plex_check.proofs.AskedLaws.{MayBeCalled, all_askable}

abbrev CacheEntries : Type 0
CacheEntries = List (Entry (AlterCmd CacheCmd) (AlterReply CacheReply))

abbrev ListEntries : Type 0
ListEntries = List (Entry QueueCmd QueueReply)

module _ (kind : Kind) (any : AnyHistory) where
  pub cache_kind : (entries : CacheEntries) → any ≡ AnyHistory.Cache entries → IsOfKind kind any
      → IsTrue (is_cache kind)
  cache_kind entries is of = by_kind kind (subst (IsOfKind kind) is of)
    where
      by_kind : (kind : Kind) → IsOfKind kind (AnyHistory.Cache entries) → IsTrue (is_cache kind)
      by_kind Kind.Cache of = refl
      by_kind (Kind.List headers locks refs) of = absurd of
      by_kind Kind.Lock of = absurd of

  pub list_kind : (entries : ListEntries) → any ≡ AnyHistory.List entries → IsOfKind kind any
      → IsTrue (is_list kind)
  list_kind entries is of = by_kind kind (subst (IsOfKind kind) is of)
    where
      by_kind : (kind : Kind) → IsOfKind kind (AnyHistory.List entries) → IsTrue (is_list kind)
      by_kind Kind.Cache of = absurd of
      by_kind (Kind.List headers locks refs) of = refl
      by_kind Kind.Lock of = absurd of

  pub lock_kind : (entries : List (Entry LockCmd LockReply)) → any ≡ AnyHistory.Lock entries → IsOfKind kind any
      → IsTrue (is_lock kind)
  lock_kind entries is of = by_kind kind (subst (IsOfKind kind) is of)
    where
      by_kind : (kind : Kind) → IsOfKind kind (AnyHistory.Lock entries) → IsTrue (is_lock kind)
      by_kind Kind.Cache of = absurd of
      by_kind (Kind.List headers locks refs) of = absurd of
      by_kind Kind.Lock of = refl

-- entries are those of this history
module _ (any : AnyHistory) where
  pub cache_asks : (history entries : CacheEntries) → any ≡ AnyHistory.Cache history → entries ≡ history
      → All MayBeCalled (any_calls any) → All IsAskable entries
  cache_asks history entries is same all = subst (All IsAskable) (sym same) (all_askable AnyAsk.Cache
      (λ by ask may. may) history (subst (λ (h : AnyHistory). All MayBeCalled (any_calls h)) is all))

  pub cache_told : (history entries : CacheEntries) → any ≡ AnyHistory.Cache history → entries ≡ history
      → (form : StrForm) (result : Result Judged NoMemory) (queues : List QueueView)
      → IfOk result (λ found. found ≡ Judged.Legal → All (AreSettled altered_caches form entries) queues)
      → IfOk result (λ found. found ≡ Judged.Legal → All (AnySettled form any) queues)
  cache_told history entries is same form result queues told =
      subst (λ (h : AnyHistory). IfOk result (λ found. found ≡ Judged.Legal → All (AnySettled form h) queues)) (sym is)
      (subst (λ (l : CacheEntries). IfOk result (λ found. found ≡ Judged.Legal
      → All (AreSettled altered_caches form l) queues)) same told)

  pub list_asks : (history entries : ListEntries) → any ≡ AnyHistory.List history → entries ≡ history
      → All MayBeCalled (any_calls any) → All IsAskable entries
  list_asks history entries is same all = subst (All IsAskable) (sym same) (all_askable AnyAsk.List
      (λ by ask may. may) history (subst (λ (h : AnyHistory). All MayBeCalled (any_calls h)) is all))

  pub list_told : (history entries : ListEntries) → any ≡ AnyHistory.List history → entries ≡ history
      → (form : StrForm) (result : Result Judged NoMemory) (queues : List QueueView)
      → IfOk result (λ found. found ≡ Judged.Legal → All (AreSettled queued_lists form entries) queues)
      → IfOk result (λ found. found ≡ Judged.Legal → All (AnySettled form any) queues)
  list_told history entries is same form result queues told =
      subst (λ (h : AnyHistory). IfOk result (λ found. found ≡ Judged.Legal → All (AnySettled form h) queues)) (sym is)
      (subst (λ (l : ListEntries). IfOk result (λ found. found ≡ Judged.Legal
      → All (AreSettled queued_lists form l) queues)) same told)

  pub lock_asks : (history entries : List (Entry LockCmd LockReply)) → any ≡ AnyHistory.Lock history → entries ≡ history
      → All MayBeCalled (any_calls any) → All IsAskable entries
  lock_asks history entries is same all = subst (All IsAskable) (sym same) (all_askable AnyAsk.Lock
      (λ by ask may. may) history (subst (λ (h : AnyHistory). All MayBeCalled (any_calls h)) is all))

  pub lock_told : (history entries : List (Entry LockCmd LockReply)) → any ≡ AnyHistory.Lock history → entries ≡ history
      → (form : StrForm) (result : Result Judged NoMemory) (queues : List QueueView)
      → IfOk result (λ found. found ≡ Judged.Legal → All (AreSettled lock_meaning form entries) queues)
      → IfOk result (λ found. found ≡ Judged.Legal → All (AnySettled form any) queues)
  lock_told history entries is same form result queues told =
      subst (λ (h : AnyHistory). IfOk result (λ found. found ≡ Judged.Legal → All (AnySettled form h) queues)) (sym is)
      (subst (λ (l : List (Entry LockCmd LockReply)). IfOk result (λ found. found ≡ Judged.Legal
      → All (AreSettled lock_meaning form l) queues)) same told)
