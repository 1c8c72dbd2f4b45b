-- A desk whose owner has seen more, and a desk that may be used at a structure.
use Rattle.plex_seat.proofs.Imports.{List, refl, sym, ap, subst, ◌∙◌, arith, set-set, StrNo, PassShown, IsLater, DeskShown, pass_at, with_pass, IsLaterOn, with_pass-pass_at, SeatShown, IsSame}

-- ---- more was seen

pub later_same : (on : StrNo) (desk : DeskShown) → IsLaterOn on desk desk
later_same on desk = record {
  later = record { known = omega arith; sure = omega arith; same = refl };
  rest = sym (with_pass-pass_at desk on);
}

later_pass : (first second third : PassShown) → IsLater first second → IsLater second third → IsLater first third
later_pass first second third one two =
    let at : PassShown → PassShown = λ (p : PassShown). record p { known = third.known; sure = third.sure } in
    record {
      known = omega (arith, one.known, two.known);
      sure = omega (arith, one.sure, two.sure);
      same = two.same ∙ ap at one.same;
    }

pub later_later : (on : StrNo) (first second third : DeskShown) → IsLaterOn on first second
    → IsLaterOn on second third → IsLaterOn on first third
later_later on first second third one two =
    let last : PassShown = pass_at third on in
    record {
      later = later_pass (pass_at first on) (pass_at second on) last one.later two.later;
      rest = two.rest ∙ ap (with_pass on last) one.rest ∙ ap (λ (passes : List PassShown). let d : DeskShown =
          record first { passes = passes } in d) (set-set first.passes on.0 (pass_at second on) last);
    }

-- the same at a member's seat
pub seen_more : {L : Type 0} (before between after : SeatShown L) → IsSame before between
    → IsLaterOn before.on before.desk between.desk → IsLaterOn between.on between.desk after.desk
    → IsLaterOn before.on before.desk after.desk
seen_more before between after same one two = later_later before.on before.desk between.desk
    after.desk one (subst (λ (on : StrNo). IsLaterOn on between.desk after.desk) same.on two)
