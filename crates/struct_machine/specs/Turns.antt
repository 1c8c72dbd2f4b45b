-- A call with the links that it asks: what it leaves, and what it tells.
use Rattle.std.specs.Prelude.{◌≡◌, ℕ, Bool, List, [], ◌∷◌, ◌++◌, fold, Option, true, false}
use Rattle.duplex_pair.specs.CfLink.declared.links.Links.{Links}
use Rattle.duplex_pair.specs.CfLink.Links.{AreAsked}
use Rattle.cf_types.specs.declared.forms.StrForm.{StrForm}
use Rattle.cf_types.specs.declared.numbers.CfId.{CfId}
use Rattle.cf_types.specs.declared.numbers.ConnId.{ConnId}
use Rattle.duplex_pair.specs.declared.lost.Lost.{Lost}
use Rattle.engine_api.specs.declared.asks.Ask.{Ask}
use Rattle.engine_api.specs.declared.asks.Reply.{Reply}
use Rattle.engine_api.specs.declared.asks.Reply.TheVariants as reply
use Rattle.engine_api.specs.LinkAsks.{Asks, apart, links_asked, listed, marks_of, answers_to}
use Rattle.engine_api.specs.Machine.{Machine, loss_step, step}
use Rattle.engine_api.specs.Meaning.{Meaning, Held}
use Rattle.engine_api.specs.Rebuilds.{fresh_of}
use Rattle.engine_api.specs.Shell.{Shell}
use Rattle.plex_shell.specs.Losses.{reply_as}
use Rattle.plex_shell.specs.ShellView.{ShellView}
use Rattle.struct_machine.specs.declared.asking.Asked.{Asked}
use Rattle.struct_machine.specs.declared.marks.Mark.{Mark}
use Rattle.struct_machine.specs.Content.{ContentView, kept_of}
use Rattle.struct_machine.specs.Kept.{judged, machine_of}
use Rattle.struct_machine.specs.StructureView.{StructureView}

-- ---- what is asked, and what is down

abbrev pub asks_in : Asked → Asks
asks_in asked = record { links = listed asked.first ++ listed asked.second; stops = asked.stops }

abbrev pub marks_in : Lost → List CfId
marks_in lost = listed lost.first ++ listed lost.second

-- a command on the content asks the link of each instance
abbrev pub content_asks_of : Shell → Asks
content_asks_of shell =
    record {
      links = apart (listed shell.instances.primary ++ listed shell.instances.secondary);
      stops = false;
    }

-- COPY asks the link of the old instance, and that of the new one unless the first is down
abbrev pub copy_asks_of : Shell → Asks
copy_asks_of shell =
    record { links = apart (listed shell.instances.primary ++ listed (fresh_of shell.rebuild)); stops = true }

module _ {C R I S : Type 0} (meaning : Meaning C R I S) (form : StrForm) where
  -- the machine behind marks
  abbrev pub lost_at : Machine S → CfId → Machine S
  lost_at machine cf = (loss_step meaning form machine cf).machine

  abbrev pub behind_marks : Machine S → List CfId → Machine S
  behind_marks machine cfs = fold lost_at machine cfs

  -- each mark tells what becomes of the machine behind the marks before it
  abbrev pub AreTold : Machine S → List CfId → List Mark → Type 0
  AreTold machine [] [] = Unit {0}
  AreTold machine [] (mark ∷ marks) = ⊥
  AreTold machine (cf ∷ cfs) [] = ⊥
  AreTold machine (cf ∷ cfs) (mark ∷ marks) =
      (mark.cf ≡ cf) × (reply.Shell (reply_as mark.lost) ≡ (loss_step meaning form machine cf).reply)
      × AreTold (lost_at machine cf) cfs marks

  -- marks of these facilities lead from one machine to another, and are told
  abbrev pub LeadTo : Machine S → List CfId → List Mark → Machine S → Type 0
  LeadTo start cfs marks machine = (machine ≡ behind_marks start cfs) × AreTold start cfs marks

  -- where marks have led to a machine, those behind tell of these facilities too
  abbrev pub TellMore : Machine S → (before : List Mark) → List CfId → List Mark → Type 0
  TellMore machine before cfs marks =
      (start : Machine S) (earlier : List CfId) → LeadTo start earlier before machine
      → AreTold start (earlier ++ cfs) marks

  -- the facilities that a call marks, where links answer so
  abbrev pub lost_by : (CfId → Bool) → Machine S → ConnId → Ask C → List CfId
  lost_by down machine by asked = marks_of down (links_asked meaning form machine by asked)

-- A call asks its links, marks those that are down, and is judged and done behind the marks.
pub record IsTurn {C R I S L : Type 0} (calls : L → Option ℕ) (downs : L → Option (List ℕ)) (faults : L → ℕ)
    (meaning : Meaning C R I S) (old new : StructureView S L) (by : ConnId) (call : Ask C) (marks : List Mark)
    (reply : Reply R) : Type 0 where
  pub down : CfId → Bool
  pub told : AreTold meaning old.form old.machine (lost_by meaning old.form down old.machine by call) marks
  pub done : record { reply = reply; machine = new.machine }
      ≡ step meaning old.form
      (behind_marks meaning old.form old.machine (lost_by meaning old.form down old.machine by call)) by call
  pub asked : AreAsked calls downs faults
      (answers_to down (links_asked meaning old.form old.machine by call)) old.links new.links

-- the same, before it counts as one that has come
pub record IsJudgedTurn {C R I S L : Type 0} (calls : L → Option ℕ) (downs : L → Option (List ℕ)) (faults : L → ℕ)
    (meaning : Meaning C R I S) (form : StrForm) (old new : Machine S) (before after : Links L) (by : ConnId)
    (call : Ask C) (marks : List Mark) (reply : Reply R) : Type 0 where
  pub down : CfId → Bool
  pub told : AreTold meaning form old (lost_by meaning form down old by call) marks
  pub done : record { reply = reply; machine = new }
      ≡ judged meaning form (behind_marks meaning form old (lost_by meaning form down old by call)) by call
  pub links : AreAsked calls downs faults (answers_to down (links_asked meaning form old by call)) before after

-- These links were asked, and those that are down are marked: what a call leaves before it is judged behind the marks.
pub record AreMarked {C R I S L : Type 0} (calls : L → Option ℕ) (downs : L → Option (List ℕ)) (faults : L → ℕ)
    (meaning : Meaning C R I S) (form : StrForm) (old new : Machine S) (before after : Links L) (asks : Asks)
    (marks : List Mark) : Type 0 where
  pub down : CfId → Bool
  pub told : AreTold meaning form old (marks_of down asks) marks
  pub machine : new ≡ behind_marks meaning form old (marks_of down asks)
  pub links : AreAsked calls downs faults (answers_to down asks) before after

-- a structure in its parts
abbrev pub structure_of : {C R I S E L : Type 0} → Meaning C R I S → (E → Held S) → ShellView → ContentView E L
    → StructureView S L
structure_of meaning holds shelled content =
    record {
      form = shelled.form;
      machine = machine_of meaning shelled (kept_of holds content);
      links = content.pair.links;
    }

-- the links of a structure in its parts were asked, and those that are down are marked
abbrev pub IsMarked : {C R I S L : Type 0} → (L → Option ℕ) → (L → Option (List ℕ)) → (L → ℕ) → Meaning C R I S
    → (old new : StructureView S L) → Asks → List Mark → Type 0
IsMarked calls downs faults meaning old new asks marks =
    AreMarked calls downs faults meaning old.form old.machine new.machine old.links new.links asks marks

-- the same of structures
abbrev pub IsJudgedCall : {C R I S L : Type 0} → (L → Option ℕ) → (L → Option (List ℕ)) → (L → ℕ) → Meaning C R I S
    → StructureView S L → StructureView S L → ConnId → Ask C → List Mark → Reply R → Type 0
IsJudgedCall calls downs faults meaning old new by call marks reply =
    IsJudgedTurn calls downs faults meaning old.form old.machine new.machine old.links new.links by call marks reply
