-- A transcript shows its caller's works exactly where its items fill the slots.
use Rattle.std.proofs.Common.{◌≡◌, ℕ, zero, suc, ◌+◌, ◌<◌, ◌==◌, Bool, true, false, List, [], ◌∷◌, ◌++◌, length, map, filter, get_or, slice_get, refl, sym, ap, ◌∙◌, arith, cond}
use Rattle.std.specs.Prelude.{All}
use Rattle.std.proofs.lemmas.List.{length-map}
use Rattle.std.proofs.lemmas.List.Elements.{All-head, All-tail}
use Rattle.run_shown.specs.CfTypes.declared.forms.StrForm.{StrForm}
use Rattle.run_shown.specs.CfTypes.declared.numbers.ConnId.{ConnId}
use Rattle.run_shown.specs.CfTypes.declared.numbers.StrNo.{StrNo}
use Rattle.run_shown.specs.PlexScript.declared.asks.AnyHistory.{AnyHistory}
use Rattle.run_shown.specs.PlexScript.declared.scripts.Line.{Line}
use Rattle.run_shown.specs.PlexScript.declared.scripts.Script.{Script}
use Rattle.run_shown.specs.PlexScript.declared.transcripts.Shown.{Shown}
use Rattle.run_shown.specs.PlexScript.Heard.{any_calls, own_calls, calls_of, calls_on}
use Rattle.run_shown.specs.PlexScript.Follows.{numbers_on}
use Rattle.run_shown.specs.Kinds.{Rising}
use Rattle.caller_slots.specs.Works.{Work, Does, leaves_from, works_of, FollowsWorks}
use Rattle.caller_slots.specs.Slots.{Place, no_place, place_at, places_of, IsFilled}
use Rattle.caller_slots.proofs.Own.{same_caller}
use Rattle.caller_slots.proofs.Walks.{AreAt, AreLeft, AreRight, numbers_of, works_fill, fills_work}

-- ---- a caller before its work

abbrev pub fresh_place : ConnId → AnyHistory → Place
fresh_place conn entries = record { linked = false; left = own_calls (any_calls entries) conn }

place_is : (conn : ConnId) (histories : List AnyHistory) (x : ℕ) → x < length histories
    → get_or (map (fresh_place conn) histories) x no_place
    ≡ record { linked = false; left = own_calls (calls_of (slice_get histories x)) conn }
place_is conn [] x within = absurd (omega arith)
place_is conn (entries ∷ histories) zero within = refl
place_is conn (entries ∷ histories) (suc x) within = place_is conn histories x (omega arith)

module _ (script : Script) (histories : List AnyHistory) (conn : ConnId)
    (long : length histories ≡ length script.structures)
    (known : All (λ line. line.on.0 < length script.structures) script.lines)
    (rise : (on : StrNo) → Rising 0 (calls_on histories on)) where
  abbrev many : ℕ
  many = length script.structures

  abbrev Right : List Work → Type 0
  Right works = AreRight script.structures histories conn many rise works

  pub begins_at : AreAt script.structures histories conn many rise [] (places_of histories conn)
  begins_at =
      record {
        size = length-map histories (fresh_place conn) ∙ long;
        each = λ on inside. (let is = place_is conn histories on.0 (omega (arith, inside, long)) in record {
          used = [];
          split = ap (λ (p : Place). p.left) (sym is);
          linked = ap (λ (p : Place). p.linked) is;
          count = refl;
        });
      }

  left_is : (on : StrNo) → on.0 < many
      → (place_at (places_of histories conn) on).left ≡ own_calls (calls_on histories on) conn
  left_is on inside = ap (λ (p : Place). p.left) (place_is conn histories on.0 (omega (arith, inside, long)))

  -- ---- its works are its own, at structures of the script

  abbrev own_lines : List Line → List Line
  own_lines lines = filter (λ line. line.by.0 == conn.0) lines

  lines_right : (lines : List Line) → All (λ line. line.on.0 < many) lines → (more : List Work) → Right more
      → Right (map Does (own_lines lines) ++ more)
  lines_right [] each more right = right
  lines_right (line ∷ lines) each more right =
      by_test (line.by.0 == conn.0) refl
      (lines_right lines (All-tail (λ (l : Line). l.on.0 < many) line lines each) more right)
    where
      by_test : (b : Bool) → line.by.0 == conn.0 ≡ b → Right (map Does (own_lines lines) ++ more)
          → Right (map Does (own_lines (line ∷ lines)) ++ more)
      by_test true mine rest =
          rw mine
          ((same_caller line.by conn mine, All-head (λ (l : Line). l.on.0 < many) line lines each), rest)
      by_test false apart rest = rw apart rest

  leaves_right : (k : ℕ) (forms : List StrForm) → k + length forms ≡ many → Right (leaves_from k forms)
  leaves_right k [] whole = tt
  leaves_right k (form ∷ forms) whole =
      ((tt, omega (arith, whole)), leaves_right (k + 1) forms (omega (arith, whole)))

  pub works_right : Right (works_of script conn)
  works_right = lines_right script.lines known _ (by_owner (conn.0 == 0))
    where
      by_owner : (b : Bool) → Right (cond b [] (leaves_from 0 script.structures))
      by_owner true = tt
      by_owner false = leaves_right 0 script.structures (omega arith)

  -- ---- the laws

  left_of : (items : List Shown)
      → ((on : StrNo) → on.0 < length histories
      → numbers_on on items ≡ numbers_of (own_calls (calls_on histories on) conn))
      → AreLeft script.structures histories conn many rise (places_of histories conn) items
  left_of items agrees on inside = agrees on (omega (arith, inside, long)) ∙ ap numbers_of (sym (left_is on inside))

  pub of_left : (items : List Shown) → AreLeft script.structures histories conn many rise (places_of histories conn) items
      → (on : StrNo) → on.0 < length histories
      → numbers_on on items ≡ numbers_of (own_calls (calls_on histories on) conn)
  of_left items left on inside =
      let within : on.0 < many = omega (arith, inside, long) in left on within ∙ ap numbers_of (left_is on within)

  pub works_filled : (items : List Shown) → FollowsWorks script histories conn items
      → IsFilled script histories conn items
  works_filled items follows =
      let all =
      works_fill script.structures histories conn many rise (works_of script conn) [] (places_of histories conn) items
      works_right begins_at follows.shows (left_of items follows.agrees.numbers) in
      record { ends = all.0; fills = all.1; used = all.2; notes = follows.agrees.notes }

  pub filled_works : (items : List Shown) → IsFilled script histories conn items
      → FollowsWorks script histories conn items
  filled_works items filled =
      let all =
      fills_work script.structures histories conn many rise (works_of script conn) [] (places_of histories conn) items
      works_right begins_at filled.ends filled.fills filled.used in
      record { shows = all.0; agrees = record { numbers = of_left items all.1; notes = filled.notes } }
