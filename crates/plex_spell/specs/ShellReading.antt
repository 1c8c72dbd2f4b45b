-- The forms of the commands that structures of every kind share, and what a reader makes of their words.
use Rattle.std.specs.Prelude.{ℕ, List, [], ◌∷◌, Option, codes}
use Rattle.cf_types.specs.declared.limits.TheConstants.{CAPACITY}
use Rattle.cf_types.specs.declared.shell_commands.ShellCmd.{ShellCmd}
use Rattle.cf_types.specs.declared.shell_commands.ShellCmd.TheVariants.{Connect, Disconnect, Fail, Next, Respond, RebuildStart, RebuildStop, RebuildConnect, Copy, RebuildComplete, ForceConn, ForceStr, LoseConn, RestoreConn, Vary, DuplexStart, DuplexStop}
use Rattle.plex_spell.specs.declared.rigour.Rigour.{Rigour}
use Rattle.plex_spell.specs.declared.rigour.Rigour.TheVariants.{Names}
use Rattle.plex_spell.specs.Tokens.{Declared}
use Rattle.plex_spell.specs.Patterns.{Place, Values}
use Rattle.plex_spell.specs.Patterns.Place.{Amount, AFacility, AConnector, Either}
use Rattle.plex_spell.specs.Forms.{Forms, ◌or◌, command_at}
use Rattle.plex_spell.specs.Forms.Forms.{NoForms, Row, Under}

abbrev pub an_amount : Place
an_amount = Amount 1 CAPACITY

abbrev pub caps_places : List Place
caps_places = an_amount ∷ an_amount ∷ []

abbrev pub start_of : Values caps_places → ShellCmd
start_of v = RebuildStart (record { entries = v.0; elements = v.1.0 })

-- behind REBUILD
abbrev pub rebuild_forms : Forms ShellCmd
rebuild_forms =
    Row (codes "START") caps_places start_of
    or Row (codes "STOP") [] (λ v. RebuildStop)
    or Row (codes "CONNECT") [] (λ v. RebuildConnect)
    or Row (codes "COMPLETE") [] (λ v. RebuildComplete)
    or NoForms

-- behind DUPLEX
abbrev pub duplex_forms : Forms ShellCmd
duplex_forms = Row (codes "START") [] (λ v. DuplexStart) or Row (codes "STOP") [] (λ v. DuplexStop) or NoForms

-- commands of the operator alone
abbrev pub operator_forms : Forms ShellCmd
operator_forms =
    Row (codes "FORCECONN") (AConnector ∷ []) (λ v. ForceConn v.0)
    or Row (codes "FORCESTR") [] (λ v. ForceStr)
    or Row (codes "LOSECONN") (AConnector ∷ AFacility ∷ []) (λ v. LoseConn v.0 v.1.0)
    or Row (codes "RESTORECONN") (AConnector ∷ AFacility ∷ []) (λ v. RestoreConn v.0 v.1.0)
    or Row (codes "VARY") (AFacility ∷ Either (codes "OFF") (codes "ON") ∷ []) (λ v. Vary v.0 v.1.0)
    or Under (codes "DUPLEX") duplex_forms
    or NoForms

abbrev pub shell_forms : Forms ShellCmd
shell_forms =
    Row (codes "CONNECT") (Either (codes "KEEP") (codes "DELETE") ∷ []) (λ v. Connect v.0)
    or Row (codes "DISCONNECT") [] (λ v. Disconnect)
    or Row (codes "FAIL") [] (λ v. Fail)
    or Row (codes "NEXT") [] (λ v. Next)
    or Row (codes "RESPOND") [] (λ v. Respond)
    or Under (codes "REBUILD") rebuild_forms
    or Row (codes "COPY") (an_amount ∷ []) (λ v. Copy v.0)
    or operator_forms

abbrev pub rebuild_at : Rigour → Declared → List (List ℕ) → Option (ShellCmd × List (List ℕ))
rebuild_at rigour declared words = command_at rigour declared rebuild_forms words

-- with no place there rigour and names are all one
abbrev pub duplex_at : List (List ℕ) → Option (ShellCmd × List (List ℕ))
duplex_at words =
    command_at Names (record { facilities = []; structures = []; connectors = [] }) duplex_forms words

abbrev pub operator_at : Rigour → Declared → List ℕ → List (List ℕ) → Option (ShellCmd × List (List ℕ))
operator_at rigour declared verb words = command_at rigour declared operator_forms (verb ∷ words)

abbrev pub shell_at : Rigour → Declared → List (List ℕ) → Option (ShellCmd × List (List ℕ))
shell_at rigour declared words = command_at rigour declared shell_forms words
