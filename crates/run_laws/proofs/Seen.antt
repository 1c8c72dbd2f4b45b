-- A cache inside its alteration, and lists beside their queues.
use Rattle.run_laws.proofs.Imports.{◌≡◌, ℕ, Option, None, Some, refl, Caps, StrForm, ConnId, CacheReply, AlterCmd, AlterContent, QueueCmd, QueueState, step_done, caps_or, altered_caches, queued_lists, cache_meaning, list_meaning, shape_of, Sees, DoneInside, AsCommand, AsNothing, cache_in, cache_told, list_in, list_told, Content, CacheCmd}
use Rattle.list_model.specs.Contents.{Content as ListContent}

-- ---- a cache

-- a STEP is no command of the cache, and leaves it
step_quiet : (caps : Caps) (n : ℕ) (content : AlterContent Content) (target : Option Caps)
    → let outcome = step_done {R = CacheReply} caps n content target in
    (cache_told (record { command = AlterCmd.Step n; answer = outcome.reply }) ≡ None)
    × (outcome.state.inner ≡ content.inner)
step_quiet caps n content None = (refl, refl)
step_quiet caps n content (Some target) = (refl, refl)

pub cache_done : (form : StrForm) (caps : Caps) (content : AlterContent Content) (by : ConnId)
    (command : AlterCmd CacheCmd) → altered_caches.cause (shape_of form) caps content by command ≡ None
    → DoneInside altered_caches cache_meaning form cache_in cache_told caps content by command
cache_done form caps content by (AlterCmd.Inner command) none =
    AsCommand (caps_or content.limits caps) command refl none refl
cache_done form caps content by (AlterCmd.Start target) none = AsNothing refl refl
cache_done form caps content by (AlterCmd.Step n) none =
    let both = step_quiet caps n content content.target in AsNothing both.0 both.1
cache_done form caps content by AlterCmd.Stop none = AsNothing refl refl

abbrev pub cache_seen : (form : StrForm) → Sees altered_caches cache_meaning form
cache_seen form = record {
  part = cache_in;
  told = cache_told;
  empty = refl;
  done = cache_done form;
  leave = λ content conn keep. refl;
  back = λ content conn. refl;
  forget = λ content. refl;
}

-- ---- lists

pub list_done : (form : StrForm) (caps : Caps) (content : QueueState ListContent) (by : ConnId) (command : QueueCmd)
    → queued_lists.cause (shape_of form) caps content by command ≡ None
    → DoneInside queued_lists list_meaning form list_in list_told caps content by command
list_done form caps content by (QueueCmd.List command) none = AsCommand caps command refl none refl
list_done form caps content by _ none = AsNothing refl refl

abbrev pub list_seen : (form : StrForm) → Sees queued_lists list_meaning form
list_seen form = record {
  part = list_in;
  told = list_told;
  empty = refl;
  done = list_done form;
  leave = λ content conn keep. refl;
  back = λ content conn. refl;
  forget = λ content. refl;
}
