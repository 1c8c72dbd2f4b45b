-- The last record, and where there is none.
use Rattle.list_kept.proofs.Imports.{◌≡◌, ℕ, ◌-◌, ◌<◌, ◌==◌, ◌++◌, not, true, false, List, length, length-append, take, drop, suc, ap, arith, nat_tests, Record, Lists, all_records, records_of, with_records, count_of, IsLastFull, all-split, popped, first_records}

pub some_test : (n : ℕ) → 0 < n → not (n == 0) ≡ true
some_test n h = grind (arith, nat_tests)

pub none_test : (n : ℕ) → not (n == 0) ≡ false → n ≡ 0
none_test n h = grind (arith, nat_tests)

pub zero_test : (n : ℕ) → not (n == 0) ≡ false → (n == 0) ≡ true
zero_test n h = grind (arith, nat_tests)

pub last-count : (lists : Lists) (header : ℕ) → IsLastFull header lists → 0 < count_of lists
last-count lists header is =
    let front = all_records (take header lists) in
    let back = all_records (drop (suc header) lists) in
    omega (
      arith,
      is.full,
      ap (λ (l : List Record). length l) (all-split lists header is.within),
      length-append front (records_of lists header ++ back),
      length-append (records_of lists header) back,
    )

pub last-gone : (lists : Lists) (header : ℕ) → IsLastFull header lists → with_records lists header
    (take (length (records_of lists header) - 1) (records_of lists header)) ≡ first_records (count_of lists - 1) lists
last-gone lists header is = grind (arith, popped)
