-- The lines of a transcript that follows its script fix it, over histories that are known.
use Rattle.run_laws.proofs.Imports.{◌≡◌, ℕ, zero, suc, ◌+◌, ◌*◌, ◌/◌, ◌%◌, ◌≤◌, ◌<◌, ◌==◌, ◌^◌, ◌||◌, nat_lt, Bool, true, false, List, [], ◌∷◌, ◌++◌, map, codes, get_or, Option, Some, None, refl, sym, ap, subst, ◌∙◌, arith, append_assoc, append-nil, MatchBool, decimal, pow-suc, and_from, nat_tests, append_cancel_left, map-append, Kind, StrForm, ConnId, StrNo, Told, Step, AnyHistory, AnyAsk, Act, Line, Script, Shown, first_step, step_after, asked_by, shell_ask, kind_of, AnyCall, call_numbered, calls_on, length_on, IsHeard, Runs, ShowsAct, ShowsLines, ShowsClosing, ShowsClosings, Follows, lines_of, structure_word, shown_line, bit_word, binary_digits, digits_end, digits_next, ShellCmd, ShowsNumbers, Every, every_front, every_back, same_cut}
use Rattle.run_laws.proofs.CountLaws.{heard_goes}
use Rattle.run_laws.proofs.Cuts.{is_free, same_number, same_end, same_behind, texts, text_of}

-- ---- words that fix what they tell

-- words behind one front, and numbers behind them
same_two : (front a b : List ℕ) (m n : ℕ) (xs ys : List ℕ) → is_free 32 a ≡ true → is_free 32 b ≡ true → m < 2 ^ 64
    → n < 2 ^ 64 → (front ++ (a ++ 32 ∷ decimal m)) ++ 10 ∷ xs ≡ (front ++ (b ++ 32 ∷ decimal n)) ++ 10 ∷ ys
    → (a ≡ b) × (m ≡ n) × (xs ≡ ys)
same_two front a b m n xs ys free_a free_b small_m small_n e =
    grind (arith, append_assoc, same_cut, append_cancel_left, same_number)

-- the words of the bits have no blank, and begin with different letters
abbrev tells_bit : List ℕ → Bool
tells_bit word = (get_or word 0 0 == 86) || (get_or word 0 0 == 78)

bit_told : (k : Kind) (bit : Bool) → (is_free 32 (bit_word k bit) ≡ true) × (tells_bit (bit_word k bit) ≡ bit)
bit_told Kind.Cache true = (refl, refl)
bit_told Kind.Cache false = (refl, refl)
bit_told (Kind.List headers locks refs) true = (refl, refl)
bit_told (Kind.List headers locks refs) false = (refl, refl)
bit_told Kind.Lock true = (refl, refl)
bit_told Kind.Lock false = (refl, refl)

same_bit : (k : Kind) (a b : Bool) → bit_word k a ≡ bit_word k b → a ≡ b
same_bit k a b e = sym (bit_told k a).1 ∙ ap tells_bit e ∙ (bit_told k b).1

free_digits : (count n : ℕ) → is_free 32 (binary_digits count n) ≡ true
free_digits zero n = ap (is_free 32) (digits_end n)
free_digits (suc count) n = grind (arith, nat_tests, is_free, digits_next, and_from, free_digits count (n / 2))

same_digits : (count m n : ℕ) → m < 2 ^ count → n < 2 ^ count → binary_digits count m ≡ binary_digits count n → m ≡ n
same_digits zero m n small_m small_n e = omega arith
same_digits (suc count) m n small_m small_n e =
    let both : (48 + m % 2) ∷ binary_digits count (m / 2) ≡ (48 + n % 2) ∷ binary_digits count (n / 2) =
    sym (digits_next count m) ∙ e ∙ digits_next count n in
    let lows : 48 + m % 2 ≡ 48 + n % 2 = cc in
    let halves : m / 2 ≡ n / 2 = same_digits count (m / 2) (n / 2)
    (omega (arith, pow-suc 2 count, small_m)) (omega (arith, pow-suc 2 count, small_n)) (cc) in
    omega (arith, lows, halves)

-- ---- items

-- what an item tells has at most 64 bits
abbrev pub IsBounded : Shown → Type 0
IsBounded (Shown.Posted on sure) = sure < 2 ^ 64
IsBounded (Shown.Took on sure) = sure < 2 ^ 64
IsBounded item = ShowsNumbers item

abbrev pub AreBounded : List Shown → Type 0
AreBounded items = Every IsBounded items

module _ (script : Script) (histories : List AnyHistory) (small : (on : StrNo) → length_on histories on < 2 ^ 64)
    (within : (on : StrNo) (number : ℕ) (call : AnyCall) → call_numbered number (calls_on histories on) ≡ Some call
    → number ≤ length_on histories on) where
  abbrev line : Shown → List ℕ
  line item = shown_line script item

  abbrev Same : List Shown → List Shown → List (List ℕ) → List (List ℕ) → Type 0
  Same items items' xs ys = (items ≡ items') × (text_of xs ≡ text_of ys)

  abbrev Alike : List Shown → List Shown → List (List ℕ) → List (List ℕ) → Type 0
  Alike items items' xs ys = text_of (map line items ++ xs) ≡ text_of (map line items' ++ ys)

  -- ---- calls

  call_line : (on : StrNo) (number : ℕ)
      → line (Shown.Call on number) ≡ (structure_word script on ++ 32 ∷ []) ++ decimal number
  call_line on number = grind (arith, append-nil, append_assoc)

  -- calls with one line are one, and the same is told of them
  call_same : (by : ConnId) (asked : Option AnyAsk) (on place place' : StrNo) (number number' : ℕ) (told told' : Told)
      (xs ys : List (List ℕ)) → place ≡ on → place' ≡ on → IsHeard (calls_on histories on) by asked number told →
      IsHeard (calls_on histories on) by asked number' told' → text_of (line (Shown.Call place number) ∷ xs) ≡ text_of
      (line (Shown.Call place' number') ∷ ys) → (number ≡ number') × (told ≡ told') × (text_of xs ≡ text_of ys)
  call_same by None on place place' number number' told told' xs ys here here' is is' e = absurd is
  call_same by (Some asked) on place place' number number' told told' xs ys here here' is is' e =
      let ends = same_end (structure_word script on ++ 32 ∷ []) number number' (text_of xs) (text_of ys)
      (omega (arith, within on number _ is, small on)) (omega (arith, within on number' _ is', small on)) (
      grind (arith, texts, call_line)) in
      let numbers : number ≡ number' = ends.0 in
      (numbers, grind arith, ends.1)

  runs_same : (k : Kind) (asked : Option AnyAsk) (by : ConnId) (on : StrNo) (now : Step)
      (items items' : List Shown) (xs ys : List (List ℕ)) → Runs k asked (calls_on histories on) by on now items
      → Runs k asked (calls_on histories on) by on now items' → Alike items items' xs ys → Same items items' xs ys
  runs_same k asked by on now [] [] xs ys runs runs' e = (refl, e)
  runs_same k asked by on now [] (Shown.Call place' number' ∷ items') xs ys runs runs' e = grind (arith, heard_goes)
  runs_same k asked by on now (Shown.Call place number ∷ items) [] xs ys runs runs' e = grind (arith, heard_goes)
  runs_same k asked by on now (Shown.Call place number ∷ items) (Shown.Call place' number' ∷ items') xs ys runs runs'
      e =
      let head = call_same by (asked_by k asked now) on place place' number number' runs.0 runs'.0
      (map line items ++ xs) (map line items' ++ ys) runs.1 runs'.1 runs.2 runs'.2 e in
      let more = runs_same k asked by on (step_after now runs.0) items items' xs ys runs.3 (grind arith) head.2 in
      let numbers : number ≡ number' = head.0 in
      let places : place ≡ place' = runs.1 ∙ sym runs'.1 in
      let rest : items ≡ items' = more.0 in
      (cc, more.1)
  runs_same k asked by on now [] (_ ∷ items') xs ys runs runs' e = absurd runs'
  runs_same k asked by on now (Shown.Call place number ∷ items) (_ ∷ items') xs ys runs runs' e = absurd runs'
  runs_same k asked by on now (_ ∷ items) items' xs ys runs runs' e = absurd runs

  -- ---- tests and notes

  same_items : (items items' : List Shown) (xs ys : List (List ℕ)) → items ≡ items' → Alike items items' xs ys
      → Same items items' xs ys
  same_items items items' xs ys is e = grind (arith, same_behind, text_of)

  -- one item that shows a word and a number behind one front, or that what is tested isn't there
  one_same : {X : Type 0} (front : List ℕ) (show : X → ℕ → Shown) (word : X → List ℕ) (Fits : X → Type 0)
      → ((x : X) (at : ℕ) → line (show x at) ≡ front ++ (word x ++ 32 ∷ decimal at))
      → ((x : X) → is_free 32 (word x) ≡ true) → ((x : X) (at : ℕ) → IsBounded (show x at) → Fits x × (at < 2 ^ 64))
      → ((x y : X) → Fits x → Fits y → word x ≡ word y → x ≡ y) → (bad : Shown) (b : Bool) (items items' : List Shown)
      (xs ys : List (List ℕ)) → MatchBool b ((x : X) × ((at : ℕ) × (items ≡ show x at ∷ []))) (items ≡ bad ∷ [])
      → MatchBool b ((x : X) × ((at : ℕ) × (items' ≡ show x at ∷ []))) (items' ≡ bad ∷ []) → AreBounded items
      → AreBounded items' → Alike items items' xs ys → Same items items' xs ys
  one_same front show word Fits line_is free low same bad true items items' xs ys
      (x, (at, is)) (x', (at', is')) bounded bounded' e =
      let fits = low x at (subst AreBounded is bounded).0 in
      let fits' = low x' at' (subst AreBounded is' bounded').0 in
      let alike : text_of (line (show x at) ∷ xs) ≡ text_of (line (show x' at') ∷ ys) = grind (arith, text_of) in
      let parts = same_two front (word x) (word x') at at' (text_of xs) (text_of ys) (free x) (free x') fits.1 fits'.1
      (texts _ _ (line (show x at)) (line (show x' at')) xs ys (line_is x at) (line_is x' at') alike) in
      let words : x ≡ x' = same x x' fits.0 fits'.0 parts.0 in
      let numbers : at ≡ at' = parts.1 in
      (grind arith, parts.2)
  one_same front show word Fits line_is free low same bad false items items' xs ys is is' bounded bounded' e =
      same_items items items' xs ys (is ∙ sym is') e

  -- ---- lines

  act_same : (form : StrForm) (by : ConnId) (on : StrNo) (retry : ℕ) (done : Act) (items items' : List Shown)
      (xs ys : List (List ℕ)) → ShowsAct form (calls_on histories on) by on retry done items
      → ShowsAct form (calls_on histories on) by on retry done items'
      → AreBounded items → AreBounded items' → Alike items items' xs ys → Same items items' xs ys
  act_same form by on retry (Act.Call asked) items items' xs ys shows shows' bounded bounded' e =
      runs_same form.kind (Some asked) by on (Step.Call retry) items items' xs ys shows shows' e
  act_same form by on retry Act.Events items items' xs ys shows shows' bounded bounded' e =
      runs_same form.kind None by on (first_step Act.Events retry) items items' xs ys shows shows' e
  act_same form by on retry (Act.Test index) items items' xs ys shows shows' bounded bounded' e =
      let k = kind_of script.structures on in
      one_same (structure_word script on ++ ((32 ∷ codes "TEST") ++ ((32 ∷ decimal index) ++ 32 ∷ [])))
      (Shown.Test on index) (bit_word k) (λ bit. Unit {0}) (λ bit at. grind (arith, append_assoc, append-nil))
      (λ bit. (bit_told k bit).0) (λ bit at low. (tt, low)) (λ a b fits fits' same. same_bit k a b same) (Shown.BadIndex
      on index false form.vector) (nat_lt index form.vector) items items' xs ys shows shows' bounded bounded' e
  act_same form by on retry (Act.TestWord word) items items' xs ys shows shows' bounded bounded' e = one_same
      (structure_word script on ++ ((32 ∷ codes "TESTWORD") ++ ((32 ∷ decimal word) ++ 32 ∷ []))) (Shown.Word on word)
      (binary_digits 32) (λ bits. bits < 2 ^ 32) (λ bits at. grind (arith, append_assoc, append-nil))
      (free_digits 32) (λ bits at low. low) (same_digits 32) (Shown.BadIndex on word true form.vector)
      (nat_lt (32 * word) form.vector) items items' xs ys shows shows' bounded bounded' e
  act_same form by on retry Act.Post items items' xs ys (sure, is) (sure', is') bounded bounded' e =
      one_same {X = Unit {0}} (structure_word script on ++ 32 ∷ [])
      (λ u. Shown.Posted on) (λ u. codes "POST") (λ u. Unit {0}) (λ u at. grind (arith, append_assoc, append-nil))
      (λ u. refl) (λ u at low. (tt, low)) (λ a b fits fits' same. refl)
      (Shown.Posted on 0) true items items' xs ys (tt, (sure, is)) (tt, (sure', is')) bounded bounded' e
  act_same form by on retry Act.Take items items' xs ys (sure, is) (sure', is') bounded bounded' e =
      one_same {X = Unit {0}} (structure_word script on ++ 32 ∷ [])
      (λ u. Shown.Took on) (λ u. codes "TAKE") (λ u. Unit {0}) (λ u at. grind (arith, append_assoc, append-nil))
      (λ u. refl) (λ u at low. (tt, low)) (λ a b fits fits' same. refl)
      (Shown.Took on 0) true items items' xs ys (tt, (sure, is)) (tt, (sure', is')) bounded bounded' e

  -- items in two parts, each of which is fixed
  both_same : (first first' others others' items items' : List Shown) (xs ys : List (List ℕ)) → items ≡ first
      ++ others → items' ≡ first' ++ others' → Alike items items' xs ys → (Alike first first' (map line others ++ xs)
      (map line others' ++ ys) → Same first first' (map line others ++ xs) (map line others' ++ ys))
      → (first ≡ first' → Alike others others' xs ys → Same others others' xs ys) → Same items items' xs ys
  both_same first first' others others' items items' xs ys is is' e one two =
      grind (arith, text_of, map-append, append_assoc)

  lines_same : (lines : List Line) (items items' : List Shown) (xs ys : List (List ℕ))
      → ShowsLines script.structures histories lines items → ShowsLines script.structures histories lines items'
      → AreBounded items → AreBounded items' → Alike items items' xs ys → Same items items' xs ys
  lines_same [] items items' xs ys shows shows' bounded bounded' e = grind (arith, same_items)
  lines_same (one ∷ lines) items items' xs ys (form, (first, (others, known, split, shows, more)))
      (form', (first', (others', known', split', shows', more'))) bounded bounded' e =
      let both : Some form' ≡ Some form = sym known' ∙ known in
      let same_form : form' ≡ form = cc in
      let here' : ShowsAct form (calls_on histories one.on) one.by one.on one.retry one.act first' = grind arith in
      let all : AreBounded (first ++ others) = subst AreBounded split bounded in
      let all' : AreBounded (first' ++ others') = subst AreBounded split' bounded' in
      both_same first first' others others' items items' xs ys split split' e (act_same form one.by one.on one.retry
      one.act first first' (map line others ++ xs) (map line others' ++ ys) shows here' (every_front _ first others all)
      (every_front _ first' others' all')) (λ same. lines_same lines others others' xs ys more more'
      (every_back _ first others all) (every_back _ first' others' all'))

  -- ---- the departures

  closing_same : (form : StrForm) (conn : ConnId) (on : StrNo) (before items items' : List Shown)
      (xs ys : List (List ℕ)) → ShowsClosing form (calls_on histories on) conn on before items → ShowsClosing
      form (calls_on histories on) conn on before items' → Alike items items' xs ys → Same items items' xs ys
  closing_same form conn on before items items' xs ys shows shows' e = grind (arith, by_link)
    where
      by_link : (b : Bool) → MatchBool b (Runs form.kind (Some (shell_ask form.kind ShellCmd.Disconnect))
          (calls_on histories on) conn on (Step.Call 0) items) (items ≡ [])
          → MatchBool b (Runs form.kind (Some (shell_ask form.kind ShellCmd.Disconnect))
          (calls_on histories on) conn on (Step.Call 0) items') (items' ≡ []) → Same items items' xs ys
      by_link true runs runs' = runs_same form.kind _ conn on (Step.Call 0) items items' xs ys runs runs' e
      by_link false none none' = same_items items items' xs ys (none ∙ sym none') e

  closings_same : (conn : ConnId) (on : ℕ) (forms : List StrForm)
      (before items items' : List Shown) (xs ys : List (List ℕ)) → ShowsClosings histories conn on forms before items
      → ShowsClosings histories conn on forms before items' → Alike items items' xs ys → Same items items' xs ys
  closings_same conn on [] before items items' xs ys shows shows' e = grind (arith, same_items)
  closings_same conn on (form ∷ forms) before items items' xs ys (first, (others, split, shows, more))
      (first', (others', split', shows', more')) e =
      both_same first first' others others' items items' xs ys split split' e
      (closing_same form conn (record { 0 = on }) before first first' (map line others ++ xs) (map line others' ++ ys)
      shows shows') (λ same. closings_same conn (on + 1) forms before others others' xs ys more more')

  -- ---- a whole transcript

  pub follows_same : (conn : ConnId) (items items' : List Shown) (xs ys : List (List ℕ))
      → Follows script histories conn items → Follows script histories conn items'
      → AreBounded items → AreBounded items' → Alike items items' xs ys → Same items items' xs ys
  follows_same conn items items' xs ys follows follows' bounded bounded' e =
      let all : AreBounded (follows.during ++ follows.after) = subst AreBounded follows.shows bounded in
      let all' : AreBounded (follows'.during ++ follows'.after) = subst AreBounded follows'.shows bounded' in
      let first = lines_same (lines_of script conn) follows.during follows'.during (map line follows.after ++ xs)
      (map line follows'.after ++ ys) follows.lines follows'.lines (every_front _ follows.during follows.after all)
      (every_front _ follows'.during follows'.after all') in
      both_same follows.during follows'.during follows.after follows'.after items items' xs ys follows.shows
      follows'.shows e first (λ same. departs (conn.0 == 0) follows.closings (rw same follows'.closings))
    where
      departs : (b : Bool) → MatchBool b (follows.after ≡ []) (ShowsClosings histories conn
          0 script.structures follows.during follows.after) → MatchBool b (follows'.after ≡ [])
          (ShowsClosings histories conn 0 script.structures follows.during follows'.after)
          → Alike follows.after follows'.after xs ys → Same follows.after follows'.after xs ys
      departs true none none' f = same_items follows.after follows'.after xs ys (none ∙ sym none') f
      departs false shows shows' f =
          closings_same conn 0 script.structures follows.during follows.after follows'.after xs ys shows shows' f
