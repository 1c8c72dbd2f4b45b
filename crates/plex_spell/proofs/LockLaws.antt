-- What is read as a command of a lock structure is spelled so, and what is spelled so is read.
use Rattle.plex_spell.proofs.Imports.{arith, lit<, codes, ◌≡◌, true, Some, LockCmd, Obtain, Alter, Release, Decide, RtRead, RtDelete, lock_tokens, lock_at, lock_forms, Rigour, Declared, Spells, IsSaid}
use Rattle.plex_spell.proofs.FormLaws.{AreForms, AllSay, each-says, says, forms-sound, forms-complete}
use Rattle.plex_spell.proofs.{VerbLaws.is_tail, PlaceLaws.Words, PlaceLaws.FindsAll}

are_lock : AreForms lock_forms
are_lock = grind (arith, lit<)

say_lock : AllSay lock_forms (λ cmd tokens. tokens ≡ lock_tokens cmd)
say_lock = grind arith

lock-said : (cmd : LockCmd) → IsSaid lock_forms cmd (lock_tokens cmd)
lock-said (Obtain r excl rec) = says lock_forms (codes "OBTAIN") (r, (excl, (rec, tt)))
lock-said (Alter r excl rec) = says lock_forms (codes "ALTER") (r, (excl, (rec, tt)))
lock-said (Release r) = says lock_forms (codes "RELEASE") (r, tt)
lock-said (Decide r conn how) = says lock_forms (codes "DECIDE") (r, (conn, (how, tt)))
lock-said (RtRead conn) = says lock_forms (codes "RTREAD") (conn, tt)
lock-said (RtDelete conn r) = says lock_forms (codes "RTDELETE") (conn, (r, tt))

pub lock-complete : (rigour : Rigour) (declared : Declared) (ws rest : Words) (cmd : LockCmd) → is_tail rest ≡ true
    → Spells rigour declared (lock_tokens cmd) ws rest → FindsAll rigour (lock_at rigour declared ws) cmd rest
lock-complete rigour declared ws rest cmd tail h = forms-complete rigour declared lock_forms cmd
    (lock_tokens cmd) ws rest are_lock tail (lock-said cmd) h

pub lock-sound : (rigour : Rigour) (declared : Declared) (ws rest : Words) (cmd : LockCmd)
    → lock_at rigour declared ws ≡ Some (cmd, rest) → Spells rigour declared (lock_tokens cmd) ws rest
lock-sound rigour declared ws rest cmd h =
    let t = forms-sound rigour declared lock_forms ws rest cmd are_lock h in
    rw (← each-says lock_forms (λ c ts. ts ≡ lock_tokens c) cmd t.tokens say_lock t.said) t.spelled
