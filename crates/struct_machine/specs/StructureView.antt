-- A structure as its machine keeps it: its form, its shell and its content, and the links to the facilities.
use Rattle.std.specs.Prelude.{ℕ, Bool, List, take}
use Rattle.duplex_pair.specs.CfLink.declared.links.Links.{Links}
use Rattle.cf_types.specs.declared.forms.StrForm.{StrForm}
use Rattle.cf_types.specs.declared.numbers.ConnId.{ConnId}
use Rattle.engine_api.specs.Meaning.{Meaning}
use Rattle.engine_api.specs.Machine.{Machine, items_of, opening}

pub record StructureView (S L : Type 0) : Type 0 where
  pub form : StrForm
  pub machine : Machine S
  pub links : Links L

-- before the first call
abbrev pub new_structure : {C R I S L : Type 0} → Meaning C R I S → StrForm → Links L → StructureView S L
new_structure meaning form links = record { form = form; machine = opening meaning form; links = links }

-- the bit of a connector's vector
abbrev pub stands_at : {C R I S : Type 0} → Meaning C R I S → Machine S → ConnId → ℕ → Bool
stands_at meaning machine conn index = meaning.stands machine.content conn index

-- the items in a rebuild's new instance: the first ones of the content
abbrev pub copied_items : {C R I S : Type 0} → Meaning C R I S → StrForm → Machine S → List I
copied_items meaning form machine = take machine.copied (items_of meaning form machine)
