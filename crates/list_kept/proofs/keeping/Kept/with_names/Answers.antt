use Rattle.list_kept.proofs.Imports.{ℕ, List, Option, None, length, sym, ap, ◌∙◌, subst, list_all, length-replicate, Watched, is_told, Lists, all_records, AreUsed, AreNamed, IsOrderly}
use Rattle.list_kept.proofs.{DataLaws.no_chains, PlaceLaws.orderly-none, PlaceLaws.named_none}
use Rattle.list_kept.proofs.keeping.Kept.with_names.Goals as goal

pub invariant_of-result : goal.invariant_of-result
invariant_of-result c =
    let headers = c.headers_of-headers.result in
    record {
      told = ap (λ (l : List Watched). list_all (is_told c.in_ok-store.store.lists) l) c.in_ok-watch.ensures.rows;
      orderly = subst (IsOrderly c.args.elements) (sym c.in_ok-store.ensures.lists)
          (orderly-none c.args.elements headers);
      named = subst (λ (l : Lists). AreNamed c.args.names.names (all_records l)) (sym c.in_ok-store.ensures.lists)
          (named_none c.args.names.names headers c.requires);
      used = subst AreUsed (sym c.in_ok-store.ensures.loose) (no_chains c.args.elements);
      whole = ap (λ (l : List (Option (List ℕ))). length l) c.in_ok-store.ensures.chains
          ∙ length-replicate c.args.elements None;
    }
