-- A caller's desk, as contracts see it: its owner, and its pass to each structure of the board.
use Rattle.std.specs.Prelude.{◌≡◌, [], List, slice_index_or, slice_set}
use Rattle.atomic_table.specs.Seated.{TableId}
use Rattle.plex_script.specs.CfTypes.declared.numbers.ConnId.{ConnId}
use Rattle.plex_script.specs.CfTypes.declared.numbers.StrNo.{StrNo}
use Rattle.struct_cell.specs.VecWords.Tokens.{WordTable}
use Rattle.plex_board.specs.Types.{StrType, OfCache}
use Rattle.plex_script.specs.EngineApi.declared.told.Told.{Told}
use Rattle.plex_script.specs.declared.scripts.AnyAsk.{AnyAsk}
use Rattle.plex_board.specs.declared.any_reply.AnyReply.{AnyReply}
use Rattle.plex_board.specs.Passes.{PassShown, IsLater, unused_pass, with_call}

pub record DeskShown : Type 0 where
  pub owner : ConnId
  pub passes : List PassShown

-- the pass to a structure that isn't there
abbrev pub no_pass : PassShown
no_pass =
    let id : TableId = record {
      words = 0;
      slots = 0;
      views_name = 0;
      atom = 0;
      block = 0;
      offset = 0;
      slot_names = [];
    } in
    unused_pass OfCache (record { id = id; conns = 0; len = 0 }) 0

-- the pass to a structure
abbrev pub pass_at : DeskShown → StrNo → PassShown
pass_at desk on = slice_index_or desk.passes on.0 no_pass

-- the desk once its pass to a structure became this
abbrev pub with_pass : StrNo → PassShown → DeskShown → DeskShown
with_pass on pass desk = record desk { passes = slice_set desk.passes on.0 pass }

-- a call of the desk's owner to a structure was answered, with what is told of it and a reply: its pass there has the
-- call, and nothing else of the desk is different
pub record IsAnsweredOn (on : StrNo) (asked : AnyAsk) (told : Told) (before after : DeskShown) : Type 0 where
  pub reply : AnyReply
  pub desk : after ≡ with_pass on (with_call asked told reply (pass_at before on)) before

-- the desk knows as much of a structure as before, or more
pub record IsLaterOn (on : StrNo) (before after : DeskShown) : Type 0 where
  pub later : IsLater (pass_at before on) (pass_at after on)
  pub rest : after ≡ with_pass on (pass_at after on) before

-- what of a pass never changes: the type of its structure, its words, its owner
pub record Fixed : Type 0 where
  pub str_type : StrType
  pub words : WordTable
  pub owner : ConnId

abbrev pub fixed_of : PassShown → Fixed
fixed_of pass = record { str_type = pass.str_type; words = pass.words; owner = pass.owner }
