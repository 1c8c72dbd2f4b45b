use Rattle.list_watch.proofs.Imports.{◌≡◌, option_map, Option, List, find, sym, ap, ◌∙◌, refl, Monitor, Watched, is_at}
use Rattle.list_watch.proofs.MonitorLaws.{find-map}
use Rattle.list_watch.proofs.watch.Watch.at.Goals as goal

twice : (o : Option Watched) → option_map (λ (r : Watched). r.monitor.header) o ≡ option_map
    (λ (m : Monitor). m.header) (option_map (λ (r : Watched). r.monitor) o)
twice Option.None = refl
twice (Option.Some row) = refl

pub returns : goal.returns
returns c =
    let rows = c.self.inside.rows.items in
    rw (← c.self.view_is)
    (c.header_at.ensures ∙ ap (λ (l : List Watched). option_map (λ (r : Watched). r.monitor.header) (find
    (λ r. is_at c.args.conn c.args.index r.monitor) l)) c.deref.ensures.value
    ∙ twice (find (λ r. is_at c.args.conn c.args.index r.monitor) rows) ∙ ap (option_map (λ (m : Monitor). m.header))
    (sym (find-map (is_at c.args.conn c.args.index) (λ (r : Watched). r.monitor) rows)))
