-- The words of commands with options.
use Rattle.plex_plain.proofs.Imports.{arith, ◌≡◌, ℕ, Bool, List, [], ◌∷◌, ◌++◌, Option, codes, if◌then◌else◌, Name16, Key16, Resource, CacheCmd, AlterCmd, At, Cond, ListCmd, QueueCmd, name_word, Literal, OnResource, all_tokens, state, option_tokens, short_tokens, Refs, StrForm, form_tokens, cache_tokens, alter_tokens, at_tokens, cond_tokens, list_tokens, queue_tokens, resource_word, plain_words, storage_told, alter_storage_told, class_told, castout_words, keep_word, end_word, state_word, refs_word, told_words, number_words, text_words, name_words, key_words, Kind}
use Rattle.std.specs.Fmt.{decimal}
use Rattle.plex_plain.proofs.TokenLaws.{words_option, words_joined}

-- the words of a command under the names of connectors, which it has none of
abbrev pub cache_in : List Name16 → CacheCmd → List (List ℕ)
cache_in connectors cmd = plain_words [] connectors (cache_tokens (storage_told cmd) cmd)

abbrev pub list_in : List Name16 → ListCmd → List (List ℕ)
list_in connectors cmd = plain_words [] connectors (list_tokens cmd)

abbrev pub alter_in : List Name16 → AlterCmd CacheCmd → List (List ℕ)
alter_in connectors cmd = plain_words [] connectors (alter_tokens (alter_storage_told cmd) cmd)

abbrev pub queue_in : List Name16 → QueueCmd → List (List ℕ)
queue_in connectors cmd = plain_words [] connectors (queue_tokens cmd)

pub words_read : (connectors : List Name16) (name : Name16) (index : ℕ) (old : Option Name16) (stg : ℕ) → cache_in
    connectors (CacheCmd.Read name index old stg) ≡ codes "READ" ∷ name_word name ∷ decimal index ∷ (told_words
    (codes "OLD") name_words old ++ (told_words (codes "STG") number_words (class_told stg) ++ []))
words_read connectors name index old stg = grind (arith, words_joined, words_option)

pub words_write : (connectors : List Name16) (name : Name16) (index : ℕ) (body : List ℕ) (class : Option ℕ)
    (adj : Option (List ℕ)) (old : Option Name16) (stg : ℕ) (when_reg : Bool) → cache_in connectors (CacheCmd.Write name
    index body class adj old stg when_reg) ≡ codes "WRITE" ∷ name_word name ∷ decimal index ∷ body ∷ (castout_words
    class ++ (told_words (codes "ADJ") text_words adj ++ (told_words (codes "OLD") name_words old ++ (told_words
    (codes "STG") number_words (class_told stg) ++ ((if when_reg then codes "WHENREG" ∷ [] else []) ++ [])))))
words_write connectors name index body class adj old stg when_reg = grind (arith, words_joined, words_option)

pub words_make : (connectors : List Name16) (header : ℕ) (head : Bool) (name : Option Name16)
    (key : Option Key16) (body adj : Option (List ℕ)) (cond : Option Cond) → list_in connectors
    (ListCmd.Write header head name key body adj cond) ≡ codes "WRITE" ∷ decimal header ∷ end_word head ∷ (told_words
    (codes "NAME") name_words name ++ (told_words (codes "KEY") key_words key ++ (told_words (codes "DATA") text_words
    body ++ (told_words (codes "ADJ") text_words adj ++ (plain_words [] connectors (cond_tokens cond) ++ [])))))
words_make connectors header head name key body adj cond = grind (arith, words_joined, words_option)

pub words_update
    : (connectors : List Name16) (at : At) (body adj : Option (List ℕ)) (version : Option ℕ) (cond : Option Cond)
    → list_in connectors (ListCmd.Update at body adj version cond) ≡ codes "UPDATE" ∷ (plain_words [] connectors
    (at_tokens at) ++ (told_words (codes "DATA") text_words body ++ (told_words (codes "ADJ") text_words adj
    ++ (told_words (codes "VERSION") number_words version ++ (plain_words [] connectors (cond_tokens cond) ++ [])))))
words_update connectors at body adj version cond = grind (arith, words_joined, words_option)

pub words_at : (connectors : List Name16) (verb : List ℕ) (at : At) (cond : Option Cond)
    → plain_words [] connectors (Literal verb ∷ all_tokens (at_tokens at ∷ cond_tokens cond ∷ []))
    ≡ verb ∷ (plain_words [] connectors (at_tokens at) ++ (plain_words [] connectors (cond_tokens cond) ++ []))
words_at connectors verb at cond = grind (arith, words_joined)

pub words_move : (connectors : List Name16)
    (at : At) (header : ℕ) (head : Bool) (key : Option Key16) (version : Option ℕ) (cond : Option Cond)
    → list_in connectors (ListCmd.Move at header head key version cond) ≡ codes "MOVE" ∷ (plain_words
    [] connectors (at_tokens at) ++ ((decimal header ∷ end_word head ∷ []) ++ (told_words (codes "KEY") key_words key
    ++ (told_words (codes "VERSION") number_words version ++ (plain_words [] connectors (cond_tokens cond) ++ [])))))
words_move connectors at header head key version cond = grind (arith, words_joined, words_option)

pub words_delete : (connectors : List Name16) (at : At) (version : Option ℕ) (cond : Option Cond)
    → list_in connectors (ListCmd.Delete at version cond) ≡ codes "DELETE" ∷ (plain_words [] connectors (at_tokens at)
    ++ (told_words (codes "VERSION") number_words version ++ (plain_words [] connectors (cond_tokens cond) ++ [])))
words_delete connectors at version cond = grind (arith, words_joined, words_option)

-- a request for a resource: the command's word, the resource, the state, and record data
pub words_request : (connectors : List Name16) (verb : List ℕ) (r : Resource) (excl : Bool) (rec : Option (List ℕ))
    → plain_words [] connectors (Literal verb ∷ OnResource r ∷ state excl ∷ all_tokens
    (option_tokens (codes "REC") short_tokens rec ∷ []))
    ≡ verb ∷ resource_word r ∷ state_word excl ∷ (told_words (codes "REC") text_words rec ++ [])
words_request connectors verb r excl rec = grind (arith, words_joined, words_option)

-- ---- forms of structures

abbrev pub caps_words : List ℕ → StrForm → List (List ℕ)
caps_words kind form = kind ∷ decimal form.caps.entries ∷ decimal form.caps.elements ∷ decimal form.conns ∷ []

pub words_cache_form : (connectors : List Name16) (form : StrForm) → plain_words [] connectors (form_tokens
    Kind.Cache form) ≡ caps_words (codes "CACHE") form ++ (decimal form.vector ∷ keep_word form.keep ∷ [])
words_cache_form connectors form = grind arith

pub words_list_form : (connectors : List Name16) (form : StrForm) (headers locks : ℕ) (refs : Refs)
    → plain_words [] connectors (form_tokens (Kind.List headers locks refs) form) ≡ caps_words (codes "LIST") form
    ++ ((decimal form.vector ∷ keep_word form.keep ∷ []) ++ (decimal headers ∷ decimal locks ∷ refs_word refs ∷ []))
words_list_form connectors form headers locks refs = grind arith

pub words_lock_form : (connectors : List Name16) (form : StrForm) → plain_words [] connectors
    (form_tokens Kind.Lock form) ≡ caps_words (codes "LOCK") form ++ (keep_word form.keep ∷ [])
words_lock_form connectors form = grind arith
