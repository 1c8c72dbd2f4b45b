use Rattle.list_kept.proofs.Imports.{arith, ◌≤◌, ◌+◌, ◌∙◌, ℕ, List, Option, None, ap, sym, refl, subst, length, list_any, option_or, any-replaced, replaced_twice, Rec, Record, Lists, record_id, all_records, is_id, lists_replaced, record_in, elements_in, elements_of, Bare, blank, with_data}
use Rattle.list_kept.proofs.DataLaws.{elements_renewed, renewed_found}
use Rattle.list_kept.proofs.placing.renew.Goals as goal

pub new_data-chain-requires-clause-used : goal.new_data-chain-requires-clause-used
new_data-chain-requires-clause-used c = grind arith

pub new_data-chain-requires-clause-elements : goal.new_data-chain-requires-clause-elements
new_data-chain-requires-clause-elements c =
    let first = ap (λ (r : Rec). record_in c.args.store.now.chains r) c.record.ensures
    ∙ ap (λ (b : Bare). with_data b None) c.blank.ensures in
    let gone = c.set-old.ensures.lists ∙ ap (λ (r : Record). lists_replaced r c.args.store.now.lists) first in
    let lists = c.args.store.now.lists in
    let old = record_in c.args.store.now.chains c.set-old.result in
    subst (λ (l : Lists). elements_in (all_records l) + elements_of c.args.body.now ≤ length
    c.set-old.new.self.chains) (sym gone) (subst (λ (l : List (Option (List ℕ))). elements_in (all_records
    (lists_replaced (with_data (blank c.args.bare.id) None) lists)) + elements_of c.args.body.now ≤ length l)
    (sym c.set-old.ensures.chains) (elements_renewed lists old c.args.bare c.args.body.now
    (length c.args.store.now.chains) c.set-old.ensures.apart c.set-old.ensures.«record» c.requires.elements))

pub set-gone-requires-clause-there : goal.set-gone-requires-clause-there
set-gone-requires-clause-there c =
    let first = ap (λ (r : Rec). record_in c.args.store.now.chains r) c.record.ensures
    ∙ ap (λ (b : Bare). with_data b None) c.blank.ensures in
    let gone = c.set-old.ensures.lists ∙ ap (λ (r : Record). lists_replaced r c.args.store.now.lists) first in
    ap (λ (l : Lists). list_any (is_id c.args.bare.id) (all_records l)) (c.new_data-chain.ensures.lists ∙ gone)
    ∙ any-replaced record_id (with_data (blank c.args.bare.id) None) c.args.store.now.lists c.args.bare.id.0
    ∙ c.requires.there

pub returns-clause-lists : goal.returns-clause-lists
returns-clause-lists c =
    let first = ap (λ (r : Rec). record_in c.args.store.now.chains r) c.record.ensures
    ∙ ap (λ (b : Bare). with_data b None) c.blank.ensures in
    let gone = c.set-old.ensures.lists ∙ ap (λ (r : Record). lists_replaced r c.args.store.now.lists) first in
    let lists = c.args.store.now.lists in
    let bare = c.args.bare in
    let old = record_in c.args.store.now.chains c.set-old.result in
    let body = option_or c.args.body.now old.body in
    c.give.ensures.lists ∙ c.set-gone.ensures.lists ∙ ap (λ (r : Rec). lists_replaced (record_in
    c.new_data-chain.new.store.chains r) c.new_data-chain.new.store.lists) c.record-2.ensures ∙ ap
    (λ (b : Option (List ℕ)). lists_replaced (with_data bare b) c.new_data-chain.new.store.lists) (grind arith) ∙ ap
    (λ (l : Lists). lists_replaced (with_data bare body) l) (c.new_data-chain.ensures.lists ∙ gone) ∙ replaced_twice
    record_id (with_data (blank bare.id) None) (with_data bare body) refl lists ∙ ap (λ (r : Record). lists_replaced r
    lists) (sym (renewed_found lists old bare c.args.body.now c.set-old.ensures.«record»))

pub returns-clause-loose : goal.returns-clause-loose
returns-clause-loose c = grind arith
