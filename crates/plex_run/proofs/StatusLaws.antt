-- The lines that tell how a run ended, as they are spelled.
use Rattle.plex_run.proofs.Imports.{◌≡◌, ◌++◌, ◌∷◌, [], refl, ap, arith, codes, decimal-numeral, too_long_line, script_limit, check_limit}

pub script_long : codes "TOOLONG 1048576\n" ≡ too_long_line script_limit
script_long =
    ap (λ digits. codes "TOOLONG " ++ digits ++ 10 ∷ []) (decimal-numeral (codes "1048576") refl (omega arith))

pub whole_long : codes "TOOLONG 16777216\n" ≡ too_long_line check_limit
whole_long =
    ap (λ digits. codes "TOOLONG " ++ digits ++ 10 ∷ []) (decimal-numeral (codes "16777216") refl (omega arith))
