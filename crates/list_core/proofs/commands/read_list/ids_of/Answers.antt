use Rattle.list_core.proofs.Imports.{◌≡◌, ◌++◌, ◌∷◌, [], Some, Bor, List, map, take, option_map, slice_get, sym, ap, ◌∙◌, map-append, take_next, EntryId, Rec, records_of, Record, record_in}
use Rattle.list_core.proofs.commands.read_list.ids_of.Goals as goal

pub loop-place-preserved : goal.loop-place-preserved
loop-place-preserved c =
    let recs = records_of c.args.kept.now.content.lists c.args.header in
    let rec = record_in c.args.kept.now.chains c.in-Some.rec.now in
    let there : slice_get recs c.loop-place.place ≡ Some rec = sym c.at.ensures.«record»
    ∙ ap (option_map (λ (r : Bor Rec). record_in c.args.kept.now.chains r.now)) c.in-Some.is in
    c.in_ok-push-in-Some.ensures ∙ ap (λ (l : List EntryId). l ++ rec.id ∷ []) c.loop-place.invariant
    ∙ sym (ap (map (λ (r : Record). r.id)) (take_next recs c.loop-place.place rec there)
    ∙ map-append (λ (r : Record). r.id) (take c.loop-place.place recs) (rec ∷ []))
