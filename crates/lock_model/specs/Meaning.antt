-- What a lock engine means.
use Rattle.std.specs.Prelude.{false}
use Rattle.cf_types.specs.declared.lock_commands.LockCmd.{LockCmd}
use Rattle.cf_types.specs.declared.lock_commands.LockReply.{LockReply}
use Rattle.engine_api.specs.Meaning.{Meaning}
use Rattle.lock_model.specs.declared.items.LockItem.{LockItem}
use Rattle.lock_model.specs.Contents.{Content, no_content, items, content_with, content_without_last, need_of}
use Rattle.lock_model.specs.Departures.{departure_of, with_returned}
use Rattle.lock_model.specs.Step.{cause, done}

-- a lock structure has no vectors and no registrations
abbrev pub lock_meaning : Meaning LockCmd LockReply LockItem Content
lock_meaning =
    record {
      empty = λ shape. no_content;
      cause = λ shape caps content by cmd. cause caps content by cmd;
      done = λ shape caps content by cmd. done content by cmd;
      leave = λ shape content conn keep.
          let left = departure_of conn keep content in
          record { state = left.content; letters = left.letters };
      back = λ content conn. with_returned conn content;
      forget = λ content. content;
      stands = λ content conn index. false;
      items = λ shape content. items content;
      place = λ shape. content_with;
      unplace = λ shape. content_without_last;
      need = need_of;
    }
