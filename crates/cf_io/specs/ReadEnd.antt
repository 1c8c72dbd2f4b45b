-- Why reading all of a source ended early.
use Rattle.std.specs.Prelude.{ℕ, ◌<◌, ◌≡◌, List, Option, IfSome, length, ⊤}
use Rattle.cf_io.specs.declared.read_end.ReadEnd.{ReadEnd}
use Rattle.cf_io.specs.declared.read_end.ReadEnd.TheVariants.{ReadFault, TooLong, NoMemory}
use Rattle.cf_io.specs.Count.{Rises}

-- A fault was counted, or more bytes were left than the limit allows. Want of memory needs no cause.
abbrev pub HasCause : ℕ → Option (List ℕ) → ℕ → ℕ → ReadEnd → Type 0
HasCause limit left before after ReadFault = Rises before after
HasCause limit left before after (TooLong l) = (l ≡ limit) × IfSome left (λ bytes. limit < length bytes)
HasCause limit left before after (NoMemory cause) = ⊤
