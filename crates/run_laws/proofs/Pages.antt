-- A page that was written as changed and isn't cast out is kept.
use Rattle.run_laws.proofs.Imports.{arith, ◌≡◌, Bool, true, false, ◌&&◌, ◌||◌, cond, List, [], ◌∷◌, ◌++◌, Option, None, Some, is_some, unwrap_or, option_map, append_assoc, append-nil, refl, sym, ◌∙◌, subst, option_and_then, list_any, false≢true, and_from, or_parts, CacheCmd, Read, Write, Castout, Unlock, CacheReply, Caps, StrForm, Name16, ConnId, Refusal, unless_refused, same_name, Reply, What, replay, Continues, Machine, continues_legal, same_name-eq, CacheItem, Content, IsOrderly, altered_caches, Deed, after_deed, Calls, Leaves, cause, done, Uncast, Uncasts, uncast_cast, uncast_unlocked, uncast_written, uncast_done, uncast_unless, uncast_after, AllKept, deed-kept, accepted_as, Move, Change, Done, Quiet, stands_in, Same, Left, Returned, Forgotten, Cleared, CacheEntry, CacheHistory, Accepted, acceptance_of, is_accepted, is_allocated, IsLegalCache, StaysAllocated, content_after, Page, page_in, page_written, is_changed_write, deletes, casts_out, unlocks, HasNone, is_cast_out, IsUncast, HasPage, IsAnswered, cache_in, cache_told, Sees, DoneInside, AsCommand, AsNothing, shape_of, Forgets, ap, AlterCmd, AlterReply, AlterContent, AcceptedOf, cache_meaning}
use Rattle.run_laws.proofs.Seen.{cache_seen}
use Rattle.run_laws.proofs.CacheReplies.{answer-content, read-changed, castout-changed}
use Rattle.run_laws.proofs.{Allocated.continues_both, Allocated.next-change, Allocated.next-stands, UniqueLaws.orderly_replay}

-- an accepted command of the structure
abbrev AlterAccepted : Type 0
AlterAccepted = AcceptedOf (AlterCmd CacheCmd) (AlterReply CacheReply)

-- a page, and whether a CASTOUT of it was accepted since it was written
abbrev uncast_page : Page → Bool → Uncast
uncast_page page cast = record { body = page.body; adj = page.adj; class = page.class; cast = cast }

module _ (form : StrForm) (name : Name16) (page : Page) where
  -- ---- deeds that keep a page

  -- the rows have some changed WRITEs that aren't cast out, and the page is that of the name
  record Keeps (content : Content) (cast : Bool) : Type 0 where
    uncast : Uncasts
    all : AllKept content uncast
    own : uncast name ≡ Some (uncast_page page cast)

  -- one more deed, at whatever capacity, after which the page is still uncast
  keeps_deed : (before after : Content) (cast : Bool) (uncast : Uncasts) (deed : Deed)
      → IsOrderly before → AllKept before uncast → after ≡ after_deed form.vector before deed
      → uncast_after form.vector before uncast deed name ≡ Some (uncast_page page cast) → Keeps after cast
  keeps_deed before after cast uncast deed is all then own = grind (arith, AllKept, deed-kept)

  keeps_done : (caps : Caps) (before after : Content) (by : ConnId) (cmd : CacheCmd) (cast : Bool) (uncast : Uncasts)
      → cause form.vector caps before by cmd ≡ None → after ≡ (done caps before by cmd).state → IsOrderly before
      → AllKept before uncast → uncast_done cmd uncast name ≡ Some (uncast_page page cast) → Keeps after cast
  keeps_done caps before after by cmd cast uncast none then is all own = record {
    uncast = uncast_done cmd uncast;
    all = subst (λ (c : Content). AllKept c (uncast_done cmd uncast)) (sym then) (subst (λ (refused : Option Refusal).
        AllKept (unless_refused refused before (done caps before by cmd)).state (uncast_unless refused cmd uncast))
        none (deed-kept form.vector before uncast (Calls caps by cmd) is.directory all));
    own = own;
  }

  -- ---- commands

  -- a command changes a name's own by what it was
  own_name : (n : Name16) (uncast : Uncasts) (f : Option Uncast → Option Uncast)
      → cond (same_name n name) (f (uncast n)) (uncast name) ≡ cond (same_name n name) (f (uncast name)) (uncast name)
  own_name n uncast f = grind (arith, same_name-eq)

  own_done : (cmd : CacheCmd) (uncast : Uncasts) → uncast_done cmd uncast name ≡ uncast_done cmd (λ n. uncast name) name
  own_done (Write n index body class adj old stg when_reg) uncast = own_name n uncast (uncast_written body class adj)
  own_done (Castout n) uncast = own_name n uncast uncast_cast
  own_done (Unlock n) uncast = own_name n uncast uncast_unlocked
  own_done _ uncast = refl

  -- the page that is written by what is told
  abbrev page_of : Option Accepted → Option Page
  page_of told = option_and_then (λ told. page_in name told.command) told

  -- the changed WRITE
  page_told : (cmd : CacheCmd) → page_in name cmd ≡ Some page
      → uncast_done cmd (λ n. None) name ≡ Some (uncast_page page false)
  page_told (Write n index body (Some class) adj old stg when_reg) e = grind arith
  page_told _ e = absurd cc

  -- whether a command of this sort was accepted
  abbrev tells : (Name16 → CacheCmd → Bool) → Option Accepted → Bool
  tells is told = unwrap_or (option_map (λ told. is name told.command) told) false

  -- the accepted command, if there is one, leaves the page: it is no changed WRITE and no DELETE of the name, and no
  -- UNLOCK after a CASTOUT
  record Spares (told : Option Accepted) (cast : Bool) : Type 0 where
    write : is_some (page_of told) ≡ false
    delete : tells deletes told ≡ false
    unlock : cast ≡ true → tells unlocks told ≡ false

  -- whether a CASTOUT was accepted by then
  abbrev cast_then : Option Accepted → Bool → Bool
  cast_then told cast = cond (tells casts_out told) true cast

  abbrev told_as : CacheCmd → CacheReply → Option Accepted
  told_as command answer = Some (record { command = command; answer = answer })

  spared_done : (cmd : CacheCmd) (answer : CacheReply) (cast : Bool) → Spares (told_as cmd answer) cast → uncast_done
      cmd (λ n. Some (uncast_page page cast)) name ≡ Some (uncast_page page (cast_then (told_as cmd answer) cast))
  spared_done (Write n index body None adj old stg when_reg) answer cast spares = grind arith
  spared_done _ answer cast spares = grind (arith, false≢true)

  -- ---- one entry

  -- the cache's command that an entry tells
  abbrev seen_as : What (AlterCmd CacheCmd) → Reply (AlterReply CacheReply) → Option Accepted
  seen_as told answer = option_and_then cache_told (accepted_as told answer)

  abbrev sees : Sees altered_caches cache_meaning form
  sees = cache_seen form

  -- what an entry tells and does
  module _ (before after : Machine (AlterContent Content)) (by : ConnId) (told : What (AlterCmd CacheCmd))
      (answer : Reply (AlterReply CacheReply))
      (is : IsOrderly (cache_in before.content)) where
    -- a command of the structure, by what it does to the cache
    module _ (caps : Caps) (command : AlterCmd CacheCmd) (accepted : accepted_as told answer ≡ Some (record {
      command = command;
      answer = (altered_caches.done (shape_of form) caps before.content by command).reply;
    })) (then : after.content ≡ (altered_caches.done (shape_of form) caps before.content by command).state) where
      abbrev Inside : Type 0
      Inside = DoneInside altered_caches cache_meaning form cache_in cache_told caps before.content by command

      abbrev replied : Caps → CacheCmd → CacheReply
      replied at seen = (cache_meaning.done (shape_of form) at (cache_in before.content) by seen).reply

      seen_is : (at : Caps) (seen : CacheCmd) → cache_told (record {
        command = command;
        answer = (altered_caches.done (shape_of form) caps before.content by command).reply;
      }) ≡ told_as seen (replied at seen) → seen_as told answer ≡ told_as seen (replied at seen)
      seen_is at seen tells = ap (λ (o : Option AlterAccepted). option_and_then cache_told o) accepted ∙ tells

      none_is : cache_told (record {
        command = command;
        answer = (altered_caches.done (shape_of form) caps before.content by command).reply;
      }) ≡ None → seen_as told answer ≡ None
      none_is tells = ap (λ (o : Option AlterAccepted). option_and_then cache_told o) accepted ∙ tells

      wrote_inside : Inside → page_of (seen_as told answer) ≡ Some page → Keeps (cache_in after.content) false
      wrote_inside (AsCommand at seen tells fine e) wrote = keeps_done at (cache_in before.content)
          (cache_in after.content) by seen false (λ n. None) fine (ap cache_in then ∙ e) is (λ n. tt) (page_told seen
          (subst (λ (o : Option Accepted). page_of o ≡ Some page) (seen_is at seen tells) wrote))
      wrote_inside (AsNothing tells e) wrote = absurd (let gone : None ≡ Some page =
          subst (λ (o : Option Accepted). page_of o ≡ Some page) (none_is tells) wrote in cc)

      kept_inside : (cast : Bool) → Keeps (cache_in before.content) cast → Inside → Spares (seen_as told answer) cast
          → Keeps (cache_in after.content) (cast_then (seen_as told answer) cast)
      kept_inside cast keeps (AsCommand at seen tells fine e) spares =
          let same = seen_is at seen tells in
          let own = own_done seen keeps.uncast
          ∙ ap (λ (o : Option Uncast). uncast_done seen (λ n. o) name) keeps.own
          ∙ spared_done seen (replied at seen) cast (subst (λ (o : Option Accepted). Spares o cast) same spares) in
          subst (λ (o : Option Accepted). Keeps (cache_in after.content) (cast_then o cast)) (sym same)
          (keeps_done at (cache_in before.content) (cache_in after.content) by seen
          (cast_then (told_as seen (replied at seen)) cast) keeps.uncast fine (ap cache_in then ∙ e) is keeps.all own)
      kept_inside cast keeps (AsNothing tells e) spares =
          subst (λ (o : Option Accepted). Keeps (cache_in after.content) (cast_then o cast)) (sym (none_is tells))
          (subst (λ (c : Content). Keeps c cast) (sym (ap cache_in then ∙ e)) keeps)

    wrote_by : Change altered_caches form before after by told answer → page_of (seen_as told answer) ≡ Some page
        → Keeps (cache_in after.content) false
    wrote_by (Done command accepted fine e) wrote = wrote_inside before.shell.caps command accepted e
        (sees.done before.shell.caps before.content by command fine) wrote
    wrote_by (Quiet none move) wrote = absurd (let gone : None ≡ Some page = rw none at wrote in cc)

    module _ (cast : Bool) (keeps : Keeps (cache_in before.content) cast)
        (stand : stands_in before && stands_in after ≡ true) where
      kept_deed : (deed : Deed) → cache_in after.content ≡ after_deed form.vector (cache_in before.content) deed
          → uncast_after form.vector (cache_in before.content) keeps.uncast deed name ≡ keeps.uncast name
          → Keeps (cache_in after.content) cast
      kept_deed deed e own = keeps_deed (cache_in before.content) (cache_in after.content) cast keeps.uncast deed is
          keeps.all e (own ∙ keeps.own)

      kept_move : Move altered_caches form before after by told → Keeps (cache_in after.content) cast
      kept_move (Same e) = subst (λ (c : Content). Keeps c cast) (sym (ap cache_in e)) keeps
      kept_move (Left who command asked leaves e) =
          kept_deed (Leaves who.conn) (ap cache_in e ∙ sees.leave before.content who.conn who.keep) refl
      kept_move (Returned keep asked e) =
          subst (λ (c : Content). Keeps c cast) (sym (ap cache_in e ∙ sees.back before.content by)) keeps
      kept_move (Forgotten e) = kept_deed Forgets (ap cache_in e ∙ sees.forget before.content) refl
      kept_move (Cleared e gone) = absurd (false≢true (sym gone ∙ stand))

      kept_by : Change altered_caches form before after by told answer → Spares (seen_as told answer) cast
          → Keeps (cache_in after.content) (cast_then (seen_as told answer) cast)
      kept_by (Done command accepted fine e) spares = kept_inside before.shell.caps command accepted e cast keeps
          (sees.done before.shell.caps before.content by command fine) spares
      kept_by (Quiet none move) spares = rw none (kept_move move)

  -- ---- along a history

  -- the row
  page_kept : (history : CacheHistory) (cast : Bool) → Keeps (content_after form history) cast
      → HasPage form history name page
  page_kept history cast keeps = grind arith

  -- no UNLOCK comes after the CASTOUT
  no_unlock : (casts cast unlock any : Bool) → casts && any ≡ false
      → (cast ≡ true → unlock || any ≡ false) → cond casts true cast ≡ true → any ≡ false
  no_unlock casts cast unlock any none before e = grind (arith, or_parts)

  kept_along : (history since : CacheHistory) (cast : Bool) → Continues altered_caches form history since
      → Keeps (content_after form history) cast → is_allocated form history ≡ true → HasNone (is_changed_write name)
      since → HasNone (is_accepted (deletes name)) since → StaysAllocated form history since → is_cast_out name since
      ≡ false → (cast ≡ true → HasNone (is_accepted (unlocks name)) since) → HasPage form (history ++ since) name page
  kept_along history [] cast goes keeps stood writes deletes' stays out unlocks' =
      subst (λ (h : CacheHistory). HasPage form h name page) (sym (append-nil history)) (page_kept history cast keeps)
  kept_along history (entry ∷ since) cast goes keeps stood writes deletes' stays out unlocks' =
      let write = or_parts (is_changed_write name entry) (list_any (is_changed_write name) since) writes in
      let delete = or_parts (is_accepted (deletes name) entry) (list_any (is_accepted (deletes name)) since) deletes' in
      let casting = or_parts (is_accepted (casts_out name) entry && list_any (is_accepted (unlocks name)) since)
      (is_cast_out name since) out in
      let spares : Spares (acceptance_of entry) cast = grind (arith, or_parts) in
      let next = kept_by (replay altered_caches form history) (replay altered_caches form (history ++ entry ∷ []))
      entry.by entry.what entry.reply (orderly_replay form history)
      cast keeps (and_from _ _ stood stays.0) (next-change altered_caches form history entry goes.0 refl) spares in
      subst (λ (h : CacheHistory). HasPage form h name page) (append_assoc history (entry ∷ []) since)
      (kept_along (history ++ entry ∷ []) since (cast_then (acceptance_of entry) cast) goes.1 next stays.0 write.1
      delete.1 stays.1 casting.1 (no_unlock _ cast _ _ casting.0 unlocks'))

  -- ---- the law

  accepted_page : (told : Option AlterAccepted) → page_of (option_and_then cache_told told) ≡ Some page
      → (one : AlterAccepted) × (told ≡ Some one)
  accepted_page told wrote = grind arith

  kept_since : (before since : CacheHistory) (write : CacheEntry) → IsLegalCache form (before ++ write ∷ since)
      → page_written name write ≡ Some page → HasNone (is_changed_write name) since
      → HasNone (is_accepted (deletes name)) since → StaysAllocated form (before ++ write ∷ []) since
      → is_cast_out name since ≡ false → HasPage form (before ++ write ∷ since) name page
  kept_since before since write legal wrote last not_deleted allocated not_cast_out =
      let goes = (continues_both altered_caches form [] before (write ∷ since)
      (continues_legal altered_caches form (before ++ write ∷ since) legal)).1 in
      let keeps = wrote_by (replay altered_caches form before)
      (replay altered_caches form (before ++ write ∷ [])) write.by write.what
      write.reply (orderly_replay form before) (next-change altered_caches form before write goes.0 refl) wrote in
      let told = accepted_page (accepted_as write.what write.reply) wrote in
      subst (λ (h : CacheHistory). HasPage form h name page) (append_assoc before (write ∷ []) since)
      (kept_along (before ++ write ∷ []) since false goes.1 keeps (next-stands altered_caches form before write goes.0
      told.0 told.1) last not_deleted allocated not_cast_out (λ e. absurd (false≢true e)))

-- a page that isn't cast out is kept
pub uncast_kept : (form : StrForm) (history : CacheHistory) → IsLegalCache form history
    → (name : Name16) (page : Page) → IsUncast form history name page → HasPage form history name page
uncast_kept form history legal name page uncast = grind (arith, kept_since)

-- and whoever reads it or casts it out is answered with it
pub uncast_answered : (form : StrForm) (history : CacheHistory) → IsLegalCache form history → (name : Name16)
    (page : Page) → IsUncast form history name page → IsAnswered form history name page
uncast_answered form history legal name page uncast =
    let has = uncast_kept form history legal name page uncast in
    let rows : List CacheItem = (content_after form history).rows in
    record {
      read = λ by index old stg answer told. answer-content form history by (Read name index old stg) answer told
          ∙ read-changed rows name stg has.row page.body page.adj page.class has.there has.body has.adj has.class;
      castout = λ by answer told. answer-content form history by (Castout name) answer told
          ∙ castout-changed rows name has.row page.body page.adj has.there has.body has.adj;
    }
