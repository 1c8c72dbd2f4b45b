-- A journal with the marks that a call has made.
use Rattle.std.specs.Prelude.{ℕ, ◌+◌, List, [], ◌∷◌, ◌++◌, length, fold}
use Rattle.engine_api.specs.declared.asks.Reply.TheVariants as reply
use Rattle.engine_api.specs.declared.asks.What.TheVariants as what
use Rattle.engine_api.specs.declared.histories.Entry.{Entry}
use Rattle.engine_api.specs.LinkAsks.{operator}
use Rattle.struct_machine.specs.PlexShell.Losses.{reply_as}
use Rattle.struct_machine.specs.declared.marks.Mark.{Mark}

module _ {C R : Type 0} where
  -- the entry of a mark, behind so many
  abbrev pub entry_of_mark : ℕ → Mark → Entry C R
  entry_of_mark before mark =
      record {
        no = before + 1;
        by = operator;
        what = what.Lost mark.cf;
        reply = reply.Shell (reply_as mark.lost);
      }

  abbrev pub with_entry : List (Entry C R) → Mark → List (Entry C R)
  with_entry journal mark = journal ++ entry_of_mark (length journal) mark ∷ []

  -- the journal with the entries of marks
  abbrev pub entered : List (Entry C R) → List Mark → List (Entry C R)
  entered journal marks = fold with_entry journal marks
