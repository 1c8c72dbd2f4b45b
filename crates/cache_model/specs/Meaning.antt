-- What a cache engine means.
use Rattle.std.specs.Prelude.{[]}
use Rattle.cf_types.specs.declared.cache_commands.CacheCmd.{CacheCmd}
use Rattle.cf_types.specs.declared.cache_commands.CacheReply.{CacheReply}
use Rattle.engine_api.specs.Meaning.{Meaning}
use Rattle.cache_regs.specs.Registrations.{stands}
use Rattle.cache_model.specs.declared.items.CacheItem.{CacheItem}
use Rattle.cache_model.specs.Contents.{Content, no_content, content_without, content_forgotten, content_with, content_without_last, need_of}
use Rattle.cache_model.specs.Step.{cause, done}

abbrev pub cache_meaning : Meaning CacheCmd CacheReply CacheItem Content
cache_meaning =
    record {
      empty = λ shape. no_content;
      cause = λ shape caps content by cmd. cause shape.vector caps content by cmd;
      done = λ shape caps content by cmd. done caps content by cmd;
      leave = λ shape content conn keep. record { state = content_without conn content; letters = [] };
      back = λ content conn. content;
      forget = content_forgotten;
      stands = λ content. stands content.regs;
      items = λ shape content. content.rows;
      place = λ shape. content_with;
      unplace = λ shape. content_without_last;
      need = need_of;
    }
