-- What is read as a command that structures share is spelled so, and what is spelled so is read.
use Rattle.plex_spell.proofs.Imports.{arith, lit<, codes, ◌≡◌, true, Some, ShellCmd, Connect, Disconnect, Fail, Next, Respond, RebuildStart, RebuildStop, RebuildConnect, Copy, RebuildComplete, ForceConn, ForceStr, LoseConn, RestoreConn, Vary, DuplexStart, DuplexStop, shell_tokens, shell_at, shell_forms, rebuild_forms, duplex_forms, Rigour, Declared, Spells, IsSaid}
use Rattle.plex_spell.proofs.FormLaws.{AreForms, AllSay, each-says, says, forms-sound, forms-complete}
use Rattle.plex_spell.proofs.{VerbLaws.is_tail, PlaceLaws.Words, PlaceLaws.FindsAll}

are_shell : AreForms shell_forms
are_shell = grind (arith, lit<)

say_shell : AllSay shell_forms (λ cmd tokens. tokens ≡ shell_tokens cmd)
say_shell = grind arith

shell-said : (cmd : ShellCmd) → IsSaid shell_forms cmd (shell_tokens cmd)
shell-said (Connect keep) = says shell_forms (codes "CONNECT") (keep, tt)
shell-said Disconnect = says shell_forms (codes "DISCONNECT") tt
shell-said Fail = says shell_forms (codes "FAIL") tt
shell-said Next = says shell_forms (codes "NEXT") tt
shell-said Respond = says shell_forms (codes "RESPOND") tt
shell-said (RebuildStart caps) = says shell_forms (codes "REBUILD") _ _
    (says rebuild_forms (codes "START") (caps.entries, (caps.elements, tt)))
shell-said RebuildStop = says shell_forms (codes "REBUILD") _ _ (says rebuild_forms (codes "STOP") tt)
shell-said RebuildConnect = says shell_forms (codes "REBUILD") _ _ (says rebuild_forms (codes "CONNECT") tt)
shell-said (Copy n) = says shell_forms (codes "COPY") (n, tt)
shell-said RebuildComplete = says shell_forms (codes "REBUILD") _ _ (says rebuild_forms (codes "COMPLETE") tt)
shell-said (ForceConn conn) = says shell_forms (codes "FORCECONN") (conn, tt)
shell-said ForceStr = says shell_forms (codes "FORCESTR") tt
shell-said (LoseConn conn cf) = says shell_forms (codes "LOSECONN") (conn, (cf, tt))
shell-said (RestoreConn conn cf) = says shell_forms (codes "RESTORECONN") (conn, (cf, tt))
shell-said (Vary cf off) = says shell_forms (codes "VARY") (cf, (off, tt))
shell-said DuplexStart = says shell_forms (codes "DUPLEX") _ _ (says duplex_forms (codes "START") tt)
shell-said DuplexStop = says shell_forms (codes "DUPLEX") _ _ (says duplex_forms (codes "STOP") tt)

module _ (rigour : Rigour) (declared : Declared) (ws rest : Words) where
  pub shell-sound : (cmd : ShellCmd) → shell_at rigour declared ws ≡ Some (cmd, rest)
      → Spells rigour declared (shell_tokens cmd) ws rest
  shell-sound cmd h =
      let t = forms-sound rigour declared shell_forms ws rest cmd are_shell h in
      rw (← each-says shell_forms (λ c ts. ts ≡ shell_tokens c) cmd t.tokens say_shell t.said) t.spelled

  pub shell-complete : (cmd : ShellCmd) → is_tail rest ≡ true → Spells rigour declared (shell_tokens cmd) ws rest
      → FindsAll rigour (shell_at rigour declared ws) cmd rest
  shell-complete cmd tail h = forms-complete rigour declared shell_forms cmd (shell_tokens cmd) ws rest
      are_shell tail (shell-said cmd) h
