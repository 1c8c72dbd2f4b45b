-- What is read as a command of a cache whose capacity can be altered is spelled so, and what is spelled so is read.
use Rattle.plex_spell.proofs.Imports.{arith, lit<, codes, ◌≡◌, ℕ, true, List, ◌∷◌, Option, Some, refl, inr, AlterCmd, Inner, Start, Step, Stop, CacheCmd, alter_tokens, IsAlterGiven, alter_at, alter_forms, alterations, cache_forms, Rigour, Declared, Token, Literal, Spells, IsSaid}
use Rattle.plex_spell.proofs.FormLaws.{AreForms, AllSay, each-says, says, forms-sound, forms-complete, still-lacks, are-made, said-made, all-say-made}
use Rattle.plex_spell.proofs.CacheLaws.{are_cache, cache-said}
use Rattle.plex_spell.proofs.{VerbLaws.is_tail, PlaceLaws.Words, PlaceLaws.FindsAll}

-- the tokens are those of the command, with a storage class that is written out or not
record IsWritten (cmd : AlterCmd CacheCmd) (tokens : List Token) : Type 0 where
  given : Option ℕ
  is_given : IsAlterGiven given cmd
  are : tokens ≡ alter_tokens given cmd

pub record AlterTold (rigour : Rigour) (declared : Declared) (ws rest : Words) (cmd : AlterCmd CacheCmd) : Type 0
  where
    pub given : Option ℕ
    pub is_given : IsAlterGiven given cmd
    pub spelled : Spells rigour declared (alter_tokens given cmd) ws rest

are_alterations : AreForms alterations
are_alterations = grind (arith, lit<)

are_alter : AreForms alter_forms
are_alter = (are_alterations, still-lacks Inner (codes "ALTER") cache_forms refl, are-made Inner cache_forms are_cache)

say_inner : AllSay cache_forms (λ cmd tokens. IsWritten (Inner cmd) tokens)
say_inner = grind arith

say_alterations : AllSay alterations (λ cmd tokens. IsWritten cmd (Literal (codes "ALTER") ∷ tokens))
say_alterations = grind arith

say_alter : AllSay alter_forms IsWritten
say_alter = (say_alterations, all-say-made Inner cache_forms IsWritten say_inner)

alter-said : (given : Option ℕ) (cmd : AlterCmd CacheCmd) → IsAlterGiven given cmd
    → IsSaid alter_forms cmd (alter_tokens given cmd)
alter-said given (Inner cmd) is =
    inr (said-made Inner cache_forms cmd (alter_tokens given (Inner cmd)) (cache-said given cmd is))
alter-said given (Start caps) is = says alter_forms (codes "ALTER") _ _
    (says alterations (codes "START") (caps.entries, (caps.elements, tt)))
alter-said given (Step n) is = says alter_forms (codes "ALTER") _ _ (says alterations (codes "STEP") (n, tt))
alter-said given Stop is = says alter_forms (codes "ALTER") _ _ (says alterations (codes "STOP") tt)

pub alter-sound : (rigour : Rigour) (declared : Declared) (ws rest : Words) (cmd : AlterCmd CacheCmd)
    → alter_at rigour declared ws ≡ Some (cmd, rest) → AlterTold rigour declared ws rest cmd
alter-sound rigour declared ws rest cmd h =
    let t = forms-sound rigour declared alter_forms ws rest cmd are_alter h in
    let w = each-says alter_forms IsWritten cmd t.tokens say_alter t.said in
    record { given = w.given; is_given = w.is_given; spelled = rw (← w.are) t.spelled }

pub alter-complete : (rigour : Rigour) (declared : Declared) (ws rest : Words) (given : Option ℕ)
    (cmd : AlterCmd CacheCmd) → is_tail rest ≡ true → IsAlterGiven given cmd
    → Spells rigour declared (alter_tokens given cmd) ws rest → FindsAll rigour (alter_at rigour declared ws) cmd rest
alter-complete rigour declared ws rest given cmd tail is h = forms-complete rigour declared alter_forms cmd
    (alter_tokens given cmd) ws rest are_alter tail (alter-said given cmd is) h
