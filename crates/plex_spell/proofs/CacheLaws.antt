-- What is read as a command of a cache is spelled so, and what is spelled so is read.
use Rattle.plex_spell.proofs.Imports.{arith, lit<, codes, ◌≡◌, ℕ, true, List, Option, Some, CacheCmd, Read, Write, CrossInval, RegList, Castout, Unlock, CoClass, CoStats, DirInfo, Delete, StgStats, cache_tokens, IsGiven, cache_at, cache_forms, Rigour, Declared, Token, Spells, IsSaid}
use Rattle.plex_spell.proofs.FormLaws.{AreForms, AllSay, each-says, says, forms-sound, forms-complete}
use Rattle.plex_spell.proofs.{VerbLaws.is_tail, PlaceLaws.Words, PlaceLaws.FindsAll}

-- the tokens are those of the command, with a storage class that is written out or not
record IsWritten (cmd : CacheCmd) (tokens : List Token) : Type 0 where
  given : Option ℕ
  is_given : IsGiven given cmd
  are : tokens ≡ cache_tokens given cmd

pub record CacheTold (rigour : Rigour) (declared : Declared) (ws rest : Words) (cmd : CacheCmd) : Type 0 where
  pub given : Option ℕ
  pub is_given : IsGiven given cmd
  pub spelled : Spells rigour declared (cache_tokens given cmd) ws rest

pub are_cache : AreForms cache_forms
are_cache = grind (arith, lit<)

say_cache : AllSay cache_forms IsWritten
say_cache = grind arith

pub cache-said : (given : Option ℕ) (cmd : CacheCmd) → IsGiven given cmd
    → IsSaid cache_forms cmd (cache_tokens given cmd)
cache-said given (Read name index old stg) is =
    rw is (says cache_forms (codes "READ") (name, (index, (old, (given, tt)))))
cache-said given (Write name index body class adj old stg when_reg) is = rw is (says cache_forms (codes "WRITE")
    (name, (index, (body, (class, (adj, (old, (given, (when_reg, tt)))))))))
cache-said given (CrossInval name) is = says cache_forms (codes "CROSSINVAL") (name, tt)
cache-said given RegList is = says cache_forms (codes "REGLIST") tt
cache-said given (Castout name) is = says cache_forms (codes "CASTOUT") (name, tt)
cache-said given (Unlock name) is = says cache_forms (codes "UNLOCK") (name, tt)
cache-said given (CoClass class) is = says cache_forms (codes "COCLASS") (class, tt)
cache-said given CoStats is = says cache_forms (codes "COSTATS") tt
cache-said given (DirInfo name) is = says cache_forms (codes "DIRINFO") (name, tt)
cache-said given (Delete name) is = says cache_forms (codes "DELETE") (name, tt)
cache-said given (StgStats stg) is = says cache_forms (codes "STGSTATS") (stg, tt)

pub cache-sound : (rigour : Rigour) (declared : Declared) (ws rest : Words) (cmd : CacheCmd)
    → cache_at rigour declared ws ≡ Some (cmd, rest) → CacheTold rigour declared ws rest cmd
cache-sound rigour declared ws rest cmd h =
    let t = forms-sound rigour declared cache_forms ws rest cmd are_cache h in
    let w = each-says cache_forms IsWritten cmd t.tokens say_cache t.said in
    record { given = w.given; is_given = w.is_given; spelled = rw (← w.are) t.spelled }

pub cache-complete : (rigour : Rigour) (declared : Declared) (ws rest : Words) (given : Option ℕ) (cmd : CacheCmd)
    → is_tail rest ≡ true → IsGiven given cmd → Spells rigour declared (cache_tokens given cmd) ws rest
    → FindsAll rigour (cache_at rigour declared ws) cmd rest
cache-complete rigour declared ws rest given cmd tail is h = forms-complete rigour declared cache_forms cmd
    (cache_tokens given cmd) ws rest are_cache tail (cache-said given cmd is) h
