-- What is read as a command of a list structure is spelled so, and what is spelled so is read.
use Rattle.plex_spell.proofs.Imports.{arith, lit<, codes, ◌≡◌, true, List, Some, None, ListCmd, Update, Move, ReadList, LockSet, LockReset, LockTest, LControls, SetLimit, Monitor, Unmonitor, Label, LockUse, list_tokens, IsListLine, list_at, list_forms, Rigour, Declared, Token, Spells, IsSaid}
use Rattle.cf_types.specs.declared.list_commands.ListCmd.TheVariants.{Write, Read, Delete}
use Rattle.plex_spell.proofs.FormLaws.{AreForms, AllSay, each-says, says, forms-sound, forms-complete}
use Rattle.plex_spell.proofs.{VerbLaws.is_tail, PlaceLaws.Words, PlaceLaws.FindsAll}

-- a line says the command, and the tokens are its own
record IsLine (cmd : ListCmd) (tokens : List Token) : Type 0 where
  is_line : IsListLine cmd
  are : tokens ≡ list_tokens cmd

pub record ListTold (rigour : Rigour) (declared : Declared) (ws rest : Words) (cmd : ListCmd) : Type 0 where
  pub is_line : IsListLine cmd
  pub spelled : Spells rigour declared (list_tokens cmd) ws rest

pub are_list : AreForms list_forms
are_list = grind (arith, lit<)

say_list : AllSay list_forms IsLine
say_list = grind arith

pub list-said : (cmd : ListCmd) → IsListLine cmd → IsSaid list_forms cmd (list_tokens cmd)
list-said (Write header head None None body adj cond) is =
    says list_forms (codes "WRITE") (header, (head, (None, (body, (adj, (cond, tt))))))
list-said (Write header head (Some name) None body adj cond) is =
    says list_forms (codes "WRITE") (header, (head, (Some (Label.Name name), (body, (adj, (cond, tt))))))
list-said (Write header head None (Some key) body adj cond) is =
    says list_forms (codes "WRITE") (header, (head, (Some (Label.Key key), (body, (adj, (cond, tt))))))
list-said (Write header head (Some name) (Some key) body adj cond) is = absurd is
list-said (Update ref body adj version cond) is =
    says list_forms (codes "UPDATE") (ref, (body, (adj, (version, (cond, tt)))))
list-said (Read ref cond) is = says list_forms (codes "READ") (ref, (cond, tt))
list-said (Move ref header head key version cond) is =
    says list_forms (codes "MOVE") (ref, (header, (head, (key, (version, (cond, tt))))))
list-said (Delete ref version cond) is = says list_forms (codes "DELETE") (ref, (version, (cond, tt)))
list-said (ReadList header) is = says list_forms (codes "READLIST") (header, tt)
list-said (LockSet lock) is = says list_forms (codes "LOCK") (lock, (LockUse.Set, tt))
list-said (LockReset lock) is = says list_forms (codes "LOCK") (lock, (LockUse.Reset, tt))
list-said (LockTest lock) is = says list_forms (codes "LOCK") (lock, (LockUse.Test, tt))
list-said (LControls header) is = says list_forms (codes "LCONTROLS") (header, tt)
list-said (SetLimit header n) is = says list_forms (codes "SETLIMIT") (header, (n, tt))
list-said (Monitor header index) is = says list_forms (codes "MONITOR") (header, (index, tt))
list-said (Unmonitor header) is = says list_forms (codes "UNMONITOR") (header, tt)

module _ (rigour : Rigour) (declared : Declared) where
  pub list-sound : (ws rest : Words) (cmd : ListCmd) → list_at rigour declared ws ≡ Some (cmd, rest)
      → ListTold rigour declared ws rest cmd
  list-sound ws rest cmd h =
      let t = forms-sound rigour declared list_forms ws rest cmd are_list h in
      let l = each-says list_forms IsLine cmd t.tokens say_list t.said in
      record { is_line = l.is_line; spelled = rw (← l.are) t.spelled }

  pub list-complete : (ws rest : Words) (cmd : ListCmd) → is_tail rest ≡ true → IsListLine cmd
      → Spells rigour declared (list_tokens cmd) ws rest → FindsAll rigour (list_at rigour declared ws) cmd rest
  list-complete ws rest cmd tail is h = forms-complete rigour declared list_forms cmd (list_tokens cmd) ws rest
      are_list tail (list-said cmd is) h
