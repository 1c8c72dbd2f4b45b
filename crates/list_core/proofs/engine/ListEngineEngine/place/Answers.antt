use Rattle.list_core.proofs.Imports.{◌≡◌, ◌∙◌, ℕ, arith, Shape, Caps, is_list, IsNextItem, content-placed, ListItem, Controls, Row, Content, IsContent, content_with, list_meaning, next-fits, list-fronts, IsPlaceable}
use Rattle.list_core.proofs.PlanLaws.{either_way}
use Rattle.list_core.proofs.engine.ListEngineEngine.place.Goals as goal

placeable : (shape : Shape) (caps : Caps) (elements : ℕ) (content : Content) (item : ListItem)
    → IsNextItem list_meaning IsContent shape content item → elements ≡ caps.elements
    → IsContent shape caps (content_with content item) → IsPlaceable elements content item
placeable shape caps elements content (Controls next limits locks watches) comes is placed = placed.watch
placeable shape caps elements content (Row header id version name key body adj) comes is placed =
    let fits = next-fits shape content header id version name key body adj comes in (
      fits.header,
      fits.alone,
      record {
        ordered = placed.ordered;
        one_for_name = placed.one_for_name;
        enough = omega (arith, placed.elements, is);
      },
    )

pub place_item-requires : goal.place_item-requires
place_item-requires c =
    let e = c.self.inside in
    let next = rw (← c.self.view_is) at c.requires.next in
    let fits = rw (← c.self.view_is) at c.requires.fits in
    let placed = content-placed list_meaning is_list IsContent
    list-fronts e.shape e.kept.content c.args.item next e.caps c.self.invariant.list fits in
    placeable e.shape e.caps e.kept.elements e.kept.content c.args.item next c.self.invariant.pool placed

pub invariant_of-self : goal.invariant_of-self
invariant_of-self c =
    let e = c.self.inside in
    let next = rw (← c.self.view_is) at c.requires.next in
    let fits = rw (← c.self.view_is) at c.requires.fits in
    let placed = content-placed list_meaning is_list IsContent
    list-fronts e.shape e.kept.content c.args.item next e.caps c.self.invariant.list fits in
    record {
      list = c.self.invariant.list;
      caps = c.self.invariant.caps;
      content = either_way (λ (k : Content). IsContent e.shape e.caps k) c.place_item.result _ _ _
          c.place_item.ensures.ok c.place_item.ensures.err placed c.self.invariant.content;
      pool = c.place_item.ensures.elements ∙ c.self.invariant.pool;
      vector = c.place_item.ensures.vector ∙ c.self.invariant.vector;
    }
