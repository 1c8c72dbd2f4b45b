-- Each call of a printed history is one that its caller may ask.
use Rattle.std.proofs.Common.{◌≡◌, ℕ, ◌<◌, List, [], ◌∷◌, map, length, get_or, sym, subst}
use Rattle.std.specs.Prelude.{All}
use Rattle.std.proofs.lemmas.List.Elements.{All-nil, All-cons, All-head, All-tail, All-weaker}
use Rattle.cf_types.specs.declared.forms.StrForm.{StrForm}
use Rattle.cf_types.specs.declared.numbers.ConnId.{ConnId}
use Rattle.engine_api.specs.declared.asks.Ask.{Ask}
use Rattle.engine_api.specs.declared.asks.Reply.{Reply}
use Rattle.engine_api.specs.declared.asks.What.{What}
use Rattle.engine_api.specs.declared.histories.Entry.{Entry}
use Rattle.engine_api.specs.Asking.{MayAsk}
use Rattle.engine_api.specs.History.{calls}
use Rattle.history_check.specs.Judging.{IsAskable, MayTell}
use Rattle.check_model.specs.RunShown.PlexScript.declared.scripts.AnyAsk.{AnyAsk}
use Rattle.check_model.specs.RunShown.PlexScript.declared.asks.AnyHistory.{AnyHistory}
use Rattle.check_model.specs.RunShown.PlexScript.declared.scripts.Script.{Script}
use Rattle.check_model.specs.RunShown.PlexScript.Heard.{AnyCall, any_call, any_calls}
use Rattle.check_model.specs.RunShown.Kinds.{MayAskAny}
use Rattle.check_model.specs.declared.printed.Printed.{Printed}
use Rattle.check_model.specs.Printings.{IsCallOf, IsPrintedOf}
use Rattle.plex_check.proofs.Rows.{at_place}

abbrev pub MayBeCalled : AnyCall → Type 0
MayBeCalled call = MayAskAny call.by call.ask

module _ {C R : Type 0} (of : Ask C → AnyAsk) (may : (by : ConnId) (ask : Ask C) → MayAskAny by (of ask) → MayAsk by ask)
  where
    first_may : (number : ℕ) (by : ConnId) (reply : Reply R) (what : What C) (entries : List (Entry C R))
        → All MayBeCalled (map (any_call of) (calls (record { no = number; by = by; what = what; reply = reply } ∷ entries)))
        → MayTell by what × All MayBeCalled (map (any_call of) (calls entries))
    first_may number by reply (What.Call ask) entries all = (
      may by ask (All-head MayBeCalled (any_call of (record { no = number; by = by; ask = ask; reply = reply }))
          (map (any_call of) (calls entries)) all),
      All-tail MayBeCalled (any_call of (record { no = number; by = by; ask = ask; reply = reply }))
          (map (any_call of) (calls entries)) all,
    )
    first_may number by reply (What.Lost cf) entries all = (tt, all)

    pub all_askable : (entries : List (Entry C R)) → All MayBeCalled (map (any_call of) (calls entries))
        → All IsAskable entries
    all_askable [] all = All-nil IsAskable
    all_askable (entry ∷ entries) all =
        let parts = first_may entry.no entry.by entry.reply entry.what entries all in
        All-cons IsAskable entry entries parts.0 (all_askable entries parts.1)

-- those of a structure of the script
pub asked_of : (script : Script) (printed : Printed) → IsPrintedOf script printed → (forms : List StrForm)
    (histories : List AnyHistory) (place n : ℕ) → forms ≡ script.structures → histories ≡ printed.histories → place ≡ n
    → n < length script.structures → (form : StrForm) → form ≡ get_or forms place form → (entries : AnyHistory)
    → entries ≡ get_or histories place entries → All MayBeCalled (any_calls entries)
asked_of script printed printed_of forms histories place n forms_are histories_are is within form known entries there =
    let whose = printed_of.histories n form entries
    (at_place script.structures forms place n form forms_are is within known)
    (at_place printed.histories histories place n entries histories_are is
    (subst (λ (m : ℕ). n < m) (sym printed_of.structures) within) there) in
    All-weaker (IsCallOf script) MayBeCalled (λ call of. of.1) (any_calls entries) whose.callers
