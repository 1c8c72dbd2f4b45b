-- What a line adds to a script keeps it well formed, and so does a whole text.
use Rattle.plex_script.proofs.Imports.{◌≡◌, ℕ, ◌≤◌, true, not, List, [], ◌∷◌, ◌++◌, Option, Some, length, refl, sym, arith, subst, slice_get, All, nat_tests, All-nil, All-push, All-weaker, CONNECTORS, ConnId, StrNo, Kind, StrForm, ShellCmd, IsConnector, Shell, IsOperator, MayCommand, Declared, shell_tokens, may_give, is_operator, Words, AnyAsk, Act, Call, Test, TestWord, Line, Script, ask_tokens, act_tokens, retry_tokens, MayAsk, MayDo, declared_in, kind_of, AddsLine, IsScript, empty_script, MayAskAny, IsActOf, IsLineOf, IsWellFormed, IsOneOf, AreWithin, words-within, within-front, within-back}
use Rattle.plex_script.proofs.{FormLaws.declaration-keeps, KeptAll.Known, KeptAll.script-keeps}

-- ---- who calls

no_operator : (by : ConnId) → by.0 ≤ CONNECTORS → not (is_operator by) ≡ true → IsConnector by
no_operator by few h = let some : 1 ≤ by.0 = grind (arith, nat_tests) in (some, few)

operator : (by : ConnId) → is_operator by ≡ true → IsOperator by
operator by h = grind (arith, nat_tests)

one_of : (count : ℕ) (conn : ConnId) → count ≤ CONNECTORS → IsOneOf count conn → IsConnector conn
one_of count conn few h = (h.0, omega (arith, few, h.1))

-- ---- what is asked

command-may : (declared : Declared) (by : ConnId) (command : ShellCmd) → length declared.connectors ≤ CONNECTORS →
    by.0 ≤ CONNECTORS → may_give by command ≡ true → AreWithin declared (shell_tokens command) → MayCommand by command
command-may declared by ShellCmd.Next few low may h = low
command-may declared by ShellCmd.Respond few low may h = low
command-may declared by (ShellCmd.RebuildStart caps) few low may h = grind arith
command-may declared by ShellCmd.RebuildStop few low may h = low
command-may declared by (ShellCmd.Copy n) few low may h = (no_operator by low may, h.1.0.0, h.1.0.1)
command-may declared by (ShellCmd.ForceConn conn) few low may h = grind (arith, operator, one_of)
command-may declared by ShellCmd.ForceStr few low may h = operator by may
command-may declared by (ShellCmd.LoseConn conn cf) few low may h = grind (arith, operator, one_of)
command-may declared by (ShellCmd.RestoreConn conn cf) few low may h = grind (arith, operator, one_of)
command-may declared by (ShellCmd.Vary cf off) few low may h = (operator by may, h.1.0.0)
command-may declared by ShellCmd.DuplexStart few low may h = operator by may
command-may declared by ShellCmd.DuplexStop few low may h = operator by may
command-may declared by command few low may h = no_operator by low may

ask-may : (declared : Declared) (by : ConnId) (given : Option ℕ) (asked : AnyAsk)
    → length declared.connectors ≤ CONNECTORS → by.0 ≤ CONNECTORS
    → MayAsk by given asked → AreWithin declared (ask_tokens given asked) → MayAskAny by asked
ask-may declared by given (AnyAsk.Cache (Shell command)) few low may h = command-may declared by command few low may.0 h
ask-may declared by given (AnyAsk.List (Shell command)) few low may h = command-may declared by command few low may.0 h
ask-may declared by given (AnyAsk.Lock (Shell command)) few low may h = command-may declared by command few low may.0 h
ask-may declared by given asked few low may h = no_operator by low may.0

act-may : (declared : Declared) (by : ConnId) (k : Kind) (given : Option ℕ) (act : Act) (retry : ℕ)
    → length declared.connectors ≤ CONNECTORS → by.0 ≤ CONNECTORS
    → MayDo by k given act retry → AreWithin declared (act_tokens given act) → IsActOf k by act
act-may declared by k given (Call asked) retry few low may h = grind (arith, ask-may)
act-may declared by k given (Test index) retry few low may h = no_operator by low may.1
act-may declared by k given (TestWord word) retry few low may h = no_operator by low may.1
act-may declared by k given act retry few low may h = no_operator by low may.0

-- ---- a line

pub kind-known : (structures : List StrForm) (on : StrNo) (form : StrForm) → slice_get structures on.0 ≡ Some form
    → kind_of structures on ≡ form.kind
kind-known structures on form h = rw h refl

-- a line is one of each script with the same structures and connectors
line-same : (script after : Script) (line : Line) → after.structures ≡ script.structures
    → after.connectors ≡ script.connectors → IsLineOf script line → IsLineOf after line
line-same script after line structures connectors h = grind arith

line-keeps : (script : Script) (at : ℕ) (by : ConnId) (on : StrNo) (ws : Words) (after : Script) → IsWellFormed script
    → by.0 ≤ length script.connectors
    → Known script.structures on → AddsLine script at by on ws after → IsWellFormed after
line-keeps script at by on ws after h caller known adds =
    let line : Line = record { at = at; by = by; on = on; act = adds.act; retry = adds.retry } in
    let next = record script { lines = script.lines ++ line ∷ [] } in
    let acts = act_tokens adds.says.given adds.act in
    let retries = retry_tokens adds.retry in
    let bounds = words-within _ _ _ _ adds.says.spelled in
    let front = within-front _ _ _ bounds in
    let back = within-back (declared_in script) acts retries bounds in
    let low : by.0 ≤ CONNECTORS = omega (arith, caller, h.connectors) in
    let k = kind_of script.structures on in
    let does = act-may _ _ k _ _ _ h.connectors low adds.says.allowed front in
    let is : IsLineOf next line = grind (arith, kind-known, nat_tests) in
    let stays : (other : Line) → IsLineOf script other → IsLineOf next other = grind (arith, line-same) in
    let others : All (IsLineOf next) script.lines = grind (arith, All-weaker) in
    let kept : IsWellFormed next = record {
      structures = h.structures;
      connectors = h.connectors;
      forms = h.forms;
      lines = All-push (IsLineOf next) script.lines line others is;
    } in
    subst IsWellFormed (sym adds.same) kept

empty-formed : IsWellFormed empty_script
empty-formed = grind (arith, All-nil)

pub script-formed : (text : List ℕ) (script : Script) → IsScript text script → IsWellFormed script
script-formed text script h = script-keeps IsWellFormed declaration-keeps line-keeps text script empty-formed h
