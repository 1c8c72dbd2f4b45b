-- What a list engine means.
use Rattle.std.specs.Prelude.{[]}
use Rattle.cf_types.specs.declared.list_commands.ListCmd.{ListCmd}
use Rattle.cf_types.specs.declared.list_commands.ListReply.{ListReply}
use Rattle.engine_api.specs.Meaning.{Meaning}
use Rattle.list_model.specs.declared.items.ListItem.{ListItem}
use Rattle.list_model.specs.Contents.{Content, no_content, content_without, stands}
use Rattle.list_model.specs.Items.{items_of, content_with, content_without_last, need_of}
use Rattle.list_model.specs.Step.{cause, done}

abbrev pub list_meaning : Meaning ListCmd ListReply ListItem Content
list_meaning =
    record {
      empty = no_content;
      cause = cause;
      done = λ shape caps content by cmd. done content by cmd;
      leave = λ shape content conn keep.
          record { state = content_without content conn keep; letters = [] };
      back = λ content conn. content;
      forget = λ content. content;
      stands = stands;
      items = items_of;
      place = λ shape. content_with;
      unplace = content_without_last;
      need = need_of;
    }
