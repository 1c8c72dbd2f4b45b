-- Event queues over lists of records.
use Rattle.std.specs.List.{list_any}
use Rattle.cf_types.specs.declared.forms.Caps.{Caps}
use Rattle.cf_types.specs.declared.forms.StrForm.{StrForm}
use Rattle.engine_api.specs.declared.shapes.Shape.{Shape}
use Rattle.engine_api.specs.History.{replay}
use Rattle.engine_api.specs.Meaning.{Meaning}
use Rattle.list_model.specs.declared.items.ListItem.{ListItem}
use Rattle.list_model.specs.Contents.{Content, IsContent}
use Rattle.list_model.specs.ListStore.Lists.{records_of}
use Rattle.list_model.specs.Meaning.{list_meaning}
use Rattle.list_model.specs.Records.{has_key}
use Rattle.cf_types.specs.declared.list_commands.QueueCmd.{QueueCmd}
use Rattle.cf_types.specs.declared.list_commands.QueueReply.{QueueReply}
use Rattle.queue_model.specs.declared.items.FirstItem.{FirstItem}
use Rattle.queue_model.specs.FirstItems.{IsBeside}
use Rattle.queue_model.specs.Queues.{Filled, Queued, AreKnown, no_queues}
use Rattle.queue_model.specs.Meaning.{QueueState, is_unmonitored, queue_meaning}
use Rattle.queue_model.specs.Renewals.{QueueEntry}
use Rattle.std.specs.Prelude.{List}

-- a record of the header has the key
abbrev pub filled_in : Content → Filled
filled_in content header key = list_any (has_key key) (records_of content.lists header)

abbrev pub queued_lists : Meaning QueueCmd QueueReply (FirstItem Queued ListItem) (QueueState Content)
queued_lists = queue_meaning filled_in list_meaning

-- a content of a list structure with event queues
abbrev pub IsQueuedContent : Shape → Caps → QueueState Content → Type 0
IsQueuedContent = IsBeside no_queues is_unmonitored AreKnown IsContent

abbrev pub state_after : StrForm → List QueueEntry → QueueState Content
state_after form history = (replay queued_lists form history).content
