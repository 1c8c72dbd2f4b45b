-- What holds of a content after every history holds of it inside another one.
use Rattle.std.proofs.Common.{◌≡◌, List, [], ◌∷◌, ◌++◌, Option, None, Some, refl, sym, ap, ◌∙◌, subst}
use Rattle.std.specs.Prelude.{option_and_then}
use Rattle.cf_types.specs.declared.forms.Caps.{Caps}
use Rattle.cf_types.specs.declared.forms.StrForm.{StrForm}
use Rattle.cf_types.specs.declared.numbers.ConnId.{ConnId}
use Rattle.engine_api.specs.declared.histories.Entry.{Entry}
use Rattle.engine_api.specs.History.{replay}
use Rattle.engine_api.specs.Machine.{Machine}
use Rattle.engine_api.specs.Meaning.{Meaning}
use Rattle.engine_api.specs.Shapes.{shape_of}
use Rattle.shell_laws.specs.Accepted.{Accepted, accepted_as}
use Rattle.shell_laws.specs.Departures.{IsQuiet}
use Rattle.shell_laws.proofs.Keeping.{IsKept, IsTraced}
use Rattle.shell_laws.specs.Sees.{DoneInside, Sees, seen_in, IsSeen}
use Rattle.shell_laws.specs.Sees.DoneInside.{AsCommand, AsNothing}

module _ {C R I S D Q J T : Type 0} (outer : Meaning C R I S) (inner : Meaning D Q J T) (form : StrForm)
    (sees : Sees outer inner form) where
  -- ---- of a content alone

  kept_inside : (P : T → Type 0) → IsKept inner form P → (caps : Caps) (state : S) (by : ConnId) (command : C)
      → DoneInside outer inner form sees.part sees.told caps state by command → P (sees.part state)
      → P (sees.part (outer.done (shape_of form) caps state by command).state)
  kept_inside P kept caps state by command (AsCommand at seen told none e) is =
      subst P (sym e) (kept.done at (sees.part state) by seen none is)
  kept_inside P kept caps state by command (AsNothing told e) is = subst P (sym e) is

  pub kept-seen : (P : T → Type 0) → IsKept inner form P → IsKept outer form (λ state. P (sees.part state))
  kept-seen P kept = record {
    empty = subst P (sym sees.empty) kept.empty;
    done = λ caps state by command none is.
        kept_inside P kept caps state by command (sees.done caps state by command none) is;
    leave = λ state conn keep is. subst P (sym (sees.leave state conn keep)) (kept.leave (sees.part state) conn keep is);
    back = λ state conn is. subst P (sym (sees.back state conn)) (kept.back (sees.part state) conn is);
    forget = λ state is. subst P (sym (sees.forget state)) (kept.forget (sees.part state) is);
  }

  -- ---- of a history and the content that it leaves

  quiet_inside : (entry : Entry C R) → IsQuiet outer form entry → seen_in outer inner form sees entry ≡ None
  quiet_inside entry quiet = ap (λ (o : Option (Accepted C R)). option_and_then sees.told o) quiet

  module _ (P : List (Entry C R) → T → Type 0) (seen : IsSeen outer inner form sees P) where
    traced_inside : (history : List (Entry C R)) (entry : Entry C R) (caps : Caps) (state : S) (command : C)
        → accepted_as entry.what entry.reply ≡ Some (record {
          command = command;
          answer = (outer.done (shape_of form) caps state entry.by command).reply;
        }) → DoneInside outer inner form sees.part sees.told caps state entry.by command
        → P history (sees.part state)
        → P (history ++ entry ∷ []) (sees.part (outer.done (shape_of form) caps state entry.by command).state)
    traced_inside history entry caps state command accepted (AsCommand at inside told none e) is =
        subst (P (history ++ entry ∷ [])) (sym e) (seen.done history entry at (sees.part state) inside
        (ap (λ (o : Option (Accepted C R)). option_and_then sees.told o) accepted ∙ told) none is)
    traced_inside history entry caps state command accepted (AsNothing told e) is =
        subst (P (history ++ entry ∷ [])) (sym e) (seen.same history entry (sees.part state)
        (ap (λ (o : Option (Accepted C R)). option_and_then sees.told o) accepted ∙ told) is)

    pub traced-seen : IsTraced outer form (λ history state. P history (sees.part state))
    traced-seen = record {
      none = subst (P []) (sym sees.empty) seen.none;
      done = λ history entry command accepted none is.
          let before : Machine S = replay outer form history in
          traced_inside history entry before.shell.caps before.content command accepted
          (sees.done before.shell.caps before.content entry.by command none) is;
      same = λ history entry state quiet is. seen.same history entry (sees.part state) (quiet_inside entry quiet) is;
      leave = λ history entry who state quiet departs is. subst (P (history ++ entry ∷ []))
          (sym (sees.leave state who.conn who.keep))
          (seen.leave history entry who.conn who.keep (sees.part state) (quiet_inside entry quiet) is);
      back = λ history entry state quiet returns is. subst (P (history ++ entry ∷ [])) (sym (sees.back state entry.by))
          (seen.back history entry (sees.part state) (quiet_inside entry quiet) is);
      forget = λ history entry state quiet is. subst (P (history ++ entry ∷ [])) (sym (sees.forget state))
          (seen.forget history entry (sees.part state) (quiet_inside entry quiet) is);
      clear = λ history entry state quiet gone is. subst (P (history ++ entry ∷ [])) (sym sees.empty)
          (seen.clear history entry (sees.part state) (quiet_inside entry quiet) is);
    }

-- ---- a meaning sees itself

abbrev pub the_same : {X : Type 0} → X → X
the_same x = x

pub self-sees : {C R I S : Type 0} (meaning : Meaning C R I S) (form : StrForm) → Sees meaning meaning form
self-sees meaning form = record {
  part = the_same;
  told = Some;
  empty = refl;
  done = λ caps state by command none. AsCommand caps command refl none refl;
  leave = λ state conn keep. refl;
  back = λ state conn. refl;
  forget = λ state. refl;
}
