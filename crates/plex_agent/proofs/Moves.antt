-- What a caller at work does to its desk and its transcript, at one structure and at all.
use Rattle.plex_agent.proofs.Imports.{◌≡◌, ◌≢◌, ℕ, ◌<◌, ◌==◌, false, List, [], ◌++◌, length, sym, ap, subst, ◌∙◌, arith, append-nil, append_assoc, nat_tests, get_or-set_other, StrNo, Shown, Transcript, PassShown, DeskShown, pass_at, with_pass, AtWork, Hears, pass_at-with_pass_same, Each}
use Rattle.std.proofs.lemmas.List.{length-set}
use Rattle.plex_agent.proofs.Passes.{Caller, IsShown, IsGood, IsWithin, Advances, advances_later}
use Rattle.plex_agent.proofs.{Spots.same_number}

-- ---- one pass of a desk is replaced

pub other_number : (x y : ℕ) → x == y ≡ false → y ≢ x
other_number x y apart = grind (arith, nat_tests)

-- what holds at one structure, and at each other one
by_structure : (P : StrNo → Type 0) (on : StrNo) → P on → ((other : StrNo) → on.0 == other.0 ≡ false → P other)
    → (other : StrNo) → P other
by_structure P on here rest other = grind (arith, same_number)

pub pass_elsewhere : (on other : StrNo) (pass : PassShown) (desk : DeskShown) → on.0 == other.0 ≡ false
    → pass_at (with_pass on pass desk) other ≡ pass_at desk other
pass_elsewhere on other pass desk apart = grind (arith, get_or-set_other, other_number)

module _ (me : Caller) where
  -- ---- at one structure

  -- a caller showed these items at a structure, and left the other passes
  pub record Moves (on : StrNo) (before after : AtWork) (part : List Shown) : Type 0 where
    pub items : after.shown.items ≡ before.shown.items ++ part
    pub owner : after.desk.owner ≡ before.desk.owner
    pub passes : length after.desk.passes ≡ length before.desk.passes
    pub here : Advances me on (pass_at before.desk on) (pass_at after.desk on) part
    pub rest : (other : StrNo) → on.0 == other.0 ≡ false → pass_at after.desk other ≡ pass_at before.desk other

  pub moves_by : (on : StrNo) (before after : AtWork) (pass : PassShown) (part : List Shown) → on.0 < length
      before.desk.passes → after.desk ≡ with_pass on pass before.desk → after.shown.items ≡ before.shown.items ++ part
      → Advances me on (pass_at before.desk on) pass part → Moves on before after part
  moves_by on before after pass part within desk items advances =
      grind (arith, length-set, Advances, pass_at-with_pass_same, pass_elsewhere)

  pub moves_still : (on : StrNo) (before after : AtWork) (part : List Shown) → after.desk ≡ before.desk
      → after.shown.items ≡ before.shown.items ++ part
      → Advances me on (pass_at before.desk on) (pass_at before.desk on) part → Moves on before after part
  moves_still on before after part desk items advances = grind (arith, Advances)

  -- ---- at all structures

  abbrev pub AreWithin : DeskShown → Type 0
  AreWithin desk = (on : StrNo) → IsWithin me on (pass_at desk on)

  -- what a caller was shown goes with its desk
  pub record IsTranscript (worker : AtWork) : Type 0 where
    pub shows : (on : StrNo) → IsShown on (pass_at worker.desk on) worker.shown.items
    pub each : Each (IsGood me) worker.shown.items

  -- a caller came from one state of its work to another while it was shown these items
  pub record Goes (before after : AtWork) (part : List Shown) : Type 0 where
    pub items : after.shown.items ≡ before.shown.items ++ part
    pub owner : after.desk.owner ≡ before.desk.owner
    pub passes : length after.desk.passes ≡ length before.desk.passes
    pub owners : (on : StrNo) → (pass_at after.desk on).owner ≡ (pass_at before.desk on).owner
    pub back : AreWithin after.desk → AreWithin before.desk
    pub forth : AreWithin after.desk → IsTranscript before → IsTranscript after

  pub goes_then : (first second third : AtWork) (part more : List Shown)
      → Goes first second part → Goes second third more → Goes first third (part ++ more)
  goes_then first second third part more one two = record {
    items = two.items ∙ ap (λ (t : List Shown). t ++ more) one.items ∙ append_assoc first.shown.items part more;
    owner = two.owner ∙ one.owner;
    passes = two.passes ∙ one.passes;
    owners = λ on. two.owners on ∙ one.owners on;
    back = λ within. one.back (two.back within);
    forth = λ within is. two.forth within (one.forth (two.back within) is);
  }

  pub moves_go : (on : StrNo) (before after : AtWork) (part : List Shown) → Moves on before after part
      → Goes before after part
  moves_go on before after part moves = record {
    items = moves.items;
    owner = moves.owner;
    passes = moves.passes;
    owners = grind (arith, by_structure);
    back = grind (arith, by_structure, IsWithin);
    forth = λ within is.
        let here = moves.here.forth (within on) before.shown.items (is.shows on) is.each in
        rw moves.items (record {
          shows = by_structure (λ other. IsShown other (pass_at after.desk other) (before.shown.items ++ part))
              on here.0 (grind arith);
          each = here.1;
        });
  }

  -- ---- hearings

  -- a caller that hears of others is shown nothing
  pub hears_go : (before after : AtWork) → Hears before after → Goes before after []
  hears_go before after hears = record {
    items = ap (λ (t : Transcript). t.items) hears.shown ∙ sym (append-nil before.shown.items);
    owner = hears.owner;
    passes = hears.passes;
    owners = λ on. ap (λ (p : PassShown). p.owner) (hears.later on).same;
    back = λ within on. (advances on).back (within on);
    forth = λ within is. record {
      shows = grind (arith, IsShown, append-nil, advances);
      each = subst (λ (t : Transcript). Each (IsGood me) t.items) (sym hears.shown) is.each;
    };
  }
    where
      advances : (on : StrNo) → Advances me on (pass_at before.desk on) (pass_at after.desk on) []
      advances on = advances_later me on (pass_at before.desk on) (pass_at after.desk on) (hears.later on)
