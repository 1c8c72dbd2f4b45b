use Rattle.list_kept.proofs.Imports.{◌≡◌, ℕ, Option, Some, List, Bor, slice_get, option_map, sym, ap, ◌∙◌, arith, list_any, front_next, front_alone, Rec, Record, record_in, record_id, is_id, records_of, all_records}
use Rattle.list_kept.proofs.copies.copy_header.Goals as goal

-- the record that was found stands at its place
there : (chains : List (Option (List ℕ))) (lists : List (List Record)) (h n : ℕ) (o : Option (Bor Rec)) (rec : Bor Rec)
    → option_map (λ r. record_in chains r.now) o ≡ slice_get (records_of lists h) n
    → o ≡ Some rec → slice_get (records_of lists h) n ≡ Some (record_in chains rec.now)
there chains lists h n o rec e is = sym e ∙ ap (option_map (λ (r : Bor Rec). record_in chains r.now)) is

pub push_copy-requires-clause-alone : goal.push_copy-requires-clause-alone
push_copy-requires-clause-alone c =
    let lists = c.args.store.now.lists in
    let chains = c.args.store.now.chains in
    let at = there chains lists c.args.header c.loop-place.place c.at.result c.in-Some.rec c.at.ensures.«record»
    c.in-Some.is in
    ap (λ (l : List (List Record)). list_any (is_id c.in-Some.rec.now.id) (all_records l)) c.loop-place.invariant.0
    ∙ front_alone record_id lists c.args.header c.loop-place.place (record_in chains c.in-Some.rec.now)
    c.at.ensures.apart at

pub loop-place-preserved : goal.loop-place-preserved
loop-place-preserved c = grind (arith, front_next, there)
