use Rattle.std.proofs.Common.{◌≡◌, ap, ◌∙◌, rules}
use Rattle.std.proofs.lemmas.List.Elements.{same_from_all_zip}
use Rattle.list_keys.specs.Names.{NameBatch}
use Rattle.list_keys.proofs.keys.Keys.copy.Goals as goal

pub returns : goal.returns
returns c =
    let names : c.in_ok-names.names.entries ≡ c.self.inside.names.entries = search (rules, same_from_all_zip) in
    names ∙ ap (λ (b : NameBatch). b.names) c.self.view_is
