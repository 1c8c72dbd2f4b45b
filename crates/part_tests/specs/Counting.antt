-- What the engine of the trials means: each command adds its number, and a copy is made of the numbers.
use Rattle.std.specs.Prelude.{ℕ, ◌-◌, false, List, [], ◌∷◌, ◌++◌, None, length, take}
use Rattle.engine_api.specs.CfTypes.declared.forms.Caps.{Caps}
use Rattle.engine_api.specs.Meaning.{Meaning}

abbrev pub push : List ℕ → ℕ → List ℕ
push numbers number = numbers ++ number ∷ []

abbrev pub need_of : List ℕ → Caps
need_of numbers = record { entries = length numbers; elements = 0 }

abbrev pub counting : Meaning ℕ ℕ ℕ (List ℕ)
counting =
    record {
      empty = λ shape. [];
      cause = λ shape caps numbers by number. None;
      done = λ shape caps numbers by number. record {
        reply = number;
        state = push numbers number;
        letters = [];
      };
      leave = λ shape numbers conn keep. record { state = numbers; letters = [] };
      back = λ numbers conn. numbers;
      forget = λ numbers. numbers;
      stands = λ numbers conn index. false;
      items = λ shape numbers. numbers;
      place = λ shape. push;
      unplace = λ shape numbers. take (length numbers - 1) numbers;
      need = need_of;
    }
