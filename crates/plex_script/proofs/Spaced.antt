-- Texts that are made of lines, and lines of words.
use Rattle.plex_script.proofs.Imports.{◌≡◌, ℕ, ◌+◌, arith, ◌<◌, length, get_or, drop, drop-cons, List, [], ◌∷◌, ◌++◌, map, append_assoc, flat_map, flat_map-append, map-append, tail_of, line_text, caller_name, structure_name, plain_words, Line, Script, act_tokens, retry_tokens, class_in, body_line}

pub text_append : (xs ys : List (List ℕ)) → flat_map line_text (xs ++ ys) ≡ flat_map line_text xs
    ++ flat_map line_text ys
text_append xs ys = flat_map-append line_text xs ys

-- a line by its parts: who and where, what, and how often
pub body_words : (script : Script) (line : Line) → body_line script
    line ≡ (caller_name script.connectors line.by.0 ++ tail_of (structure_name script.structures line.on.0 ∷ []))
    ++ (tail_of (plain_words [] script.connectors (act_tokens (class_in line.act) line.act)) ++ tail_of
    (plain_words [] script.connectors (retry_tokens line.retry)))
body_words script line = grind (arith, map-append, append_assoc, flat_map-append)

-- a line more, of a thing that comes next
pub line_more : {X : Type 0} (f : X → List ℕ) (xs : List X) (i : ℕ) (d : X) (text one two start : List ℕ)
    → i < length xs → one ≡ text ++ f (get_or xs i d) → two ≡ one ++ 10 ∷ [] → text ++ flat_map
    line_text (map f (drop i xs)) ≡ start → two ++ flat_map line_text (map f (drop (i + 1) xs)) ≡ start
line_more {X} f xs i d text one two start low e g h = grind (arith, drop-cons, append_assoc)

-- three texts behind one
pub four_parts : (old one two three who what often : List ℕ)
    → one ≡ old ++ who → two ≡ one ++ what → three ≡ two ++ often → three ≡ old ++ (who ++ (what ++ often))
four_parts old one two three who what often e f g = grind (arith, append_assoc)
