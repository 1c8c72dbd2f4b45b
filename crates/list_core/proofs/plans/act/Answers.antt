use Rattle.list_core.proofs.Imports.{ap, ◌∙◌, gains_none, lists_replaced, the_record, Content, stands, has_records, with_new_data, full-replaced}
use Rattle.list_core.proofs.StandLaws.{stands-agree}
use Rattle.list_core.proofs.plans.act.Goals as goal

pub returns-in-Update-clause-content : goal.returns-in-Update-clause-content
returns-in-Update-clause-content c = rw c.in-Update.is c.act-in-Update.ensures.content

pub returns-in-Update-clause-bits : goal.returns-in-Update-clause-bits
returns-in-Update-clause-bits c =
    let u = c.in-Update in
    let content = c.args.kept.now.content in
    let rec = with_new_data u.body u.adj (the_record content.lists u.at) in
    gains_none (stands content) (stands c.act-in-Update.new.kept.content) c.args.out.now.bits.items
    (λ conn index. ap (λ (k : Content). stands k conn index) c.act-in-Update.ensures.content
    ∙ stands-agree content.monitors (has_records (lists_replaced rec content.lists)) (has_records content.lists)
    (λ header. full-replaced rec content.lists header) conn index)
