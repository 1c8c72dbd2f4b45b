-- What a cell keeps: at its start, and from one call to the next.
use Rattle.struct_cell.proofs.Imports.{replay-push, ◌≡◌, ℕ, ◌+◌, ◌/◌, ◌<◌, ◌≤◌, ◌&&◌, Bool, false, List, [], ◌∷◌, ◌++◌, length, map, All, refl, sym, ap, subst, ◌∙◌, arith, Option, nat_tests, map-append, All-nil, All-push, ConnId, AreAsked, Ask, Reply, Entry, Meaning, opening, Call, Turn, calls, replay, with_marks, marks_by, after_turn, links_asked, answers_to, shape_of, calls-turn, call_added, legal_none, legal_turn, number_added, numbered_legal, length-turn, Mark, StructureView, stands_at, IsTurn, Logged, Committed, Place, CallRecord, commits_of, bit_in, StoresEach, IsSpared, WordTable, SeatSeen, commits-commit, count-push, stores-commits, CellKey, About, commit_of, IsCell, Shows, entered, VectorWords, AreOfTable, AreWordsOf, word_at, words_in}
use Rattle.engine_api.specs.declared.asks.What.TheVariants as what
use Rattle.struct_cell.proofs.TurnLaws.{entered-told, replay-marks, length-entered, IsTaken, few_marks, turn_at, links_more, links_none, room_more}
use Rattle.struct_cell.proofs.{MirrorLaws.stores_alike, ShownLaws.shows_next}

zero_bit : (index : ℕ) → bit_in 0 index ≡ false
zero_bit index = grind (arith, nat_tests)

none_shown : (b : Bool) → false ≡ (b && false)
none_shown b = grind arith

module _ {C R I S L : Type 0} (asks : L → Option ℕ) (downs : L → Option (List ℕ)) (faults : L → ℕ)
    (meaning : Meaning C R I S) where
  -- a cell begins so
  pub cell_start : (key : CellKey C R L) (standing : StructureView S L)
      (touched : VectorWords) (seat : SeatSeen (About C R)) (journal : List (Entry C R)) → key ≡ record {
        form = standing.form;
        callers = seat.table.conns;
        limit = key.limit;
        words = seat.table;
        links = standing.links;
      } → standing.machine ≡ opening meaning standing.form
      → ((conn : ConnId) (index : ℕ) → meaning.stands (meaning.empty (shape_of standing.form)) conn index ≡ false)
      → (touched.conns ≡ seat.table.conns) × (touched.len ≡ seat.table.len) → AreWordsOf touched.conns
      touched.len touched.words (λ conn index. false) → seat.table.len ≡ standing.form.vector → seat.number ≡ 0
      → seat.log ≡ [] → journal ≡ [] → IsCell asks downs faults meaning key key.limit standing touched journal seat
  cell_start key standing touched seat journal key_is machine_is clear touches bare len idle log none =
      grind (arith, links_none, All-nil, legal_none, zero_bit, none_shown)

  -- a turn keeps it, where its words are stored and its call is committed
  pub cell_turned : (key : CellKey C R L) (limit : ℕ) (standing standing' : StructureView S L)
      (touched touched' : VectorWords) (journal : List (Entry C R)) (seat begun stored seat' : SeatSeen (About C R))
      (bits : ℕ → ℕ → ℕ) (turn : Turn C) (number : ℕ) (reply : Reply R) → IsCell asks downs
      faults meaning key limit standing touched journal seat → number ≡ number_added meaning key.form journal turn
      → reply ≡ (let call = call_added meaning key.form journal turn in call.reply) → standing'.machine ≡ replay
      meaning key.form (after_turn meaning key.form journal turn) → standing'.form ≡ standing.form → AreOfTable
      touched touched' → turn.by.0 ≤ key.callers → number ≤ limit + 2 → length journal < limit → AreAsked asks downs
      faults (answers_to turn.down (links_asked meaning key.form (replay meaning key.form journal) turn.by turn.ask))
      standing.links standing'.links → ((conn : ConnId) (index : ℕ) → 0 < conn.0 → conn.0 ≤ touched'.conns
      → index < touched'.len → IsSpared touched'.places conn.0 (index / 32) → stands_at meaning
      standing'.machine conn index ≡ stands_at meaning standing.machine conn index) → AreWordsOf touched'.conns
      touched'.len touched'.words (meaning.stands standing'.machine.content) → begun ≡ record seat { number = number }
      → StoresEach key.words.conns key.words.len bits touched'.places begun stored → ((conn word : ℕ)
      → bits conn word ≡ words_in meaning standing'.form standing'.machine conn word) → seat' ≡ record stored
      { number = 0; log = stored.log ++ Committed stored.number turn.by.0 (turn.ask, reply) ∷ [] }
      → IsCell asks downs faults meaning key limit standing' touched' (after_turn meaning key.form journal turn) seat'
  cell_turned key limit standing standing' touched touched' journal seat begun stored seat' bits turn number reply
      cell number_is replies machine_is form_is same_table within few below asked kept words begun_is each are seat_is =
      let form = key.form in
      let history = after_turn meaning form journal turn in
      let about : About C R = (turn.ask, reply) in
      let begun_log : begun.log ≡ seat.log = ap (λ (s : SeatSeen (About C R)). s.log) begun_is in
      let begun_number : begun.number ≡ number = ap (λ (s : SeatSeen (About C R)). s.number) begun_is in
      let begun_table : begun.table ≡ seat.table = ap (λ (s : SeatSeen (About C R)). s.table) begun_is in
      let stored_number : stored.number ≡ number = grind arith in
      let stored_table : stored.table ≡ seat.table = grind arith in
      let log_is : seat'.log ≡ stored.log ++ Committed number turn.by.0 about ∷ [] = grind arith in
      let call : Call C R = call_added meaning form journal turn in
      let here : CallRecord (About C R) = record { number = number; caller = turn.by.0; about = about } in
      let here_is : here ≡ commit_of call = grind arith in
      record {
        form = form_is ∙ cell.form;
        limit_is = cell.limit_is;
        links = links_more asks downs
            faults meaning form journal turn key.links standing.links standing'.links cell.legal cell.links asked;
        table = ap (λ (s : SeatSeen (About C R)). s.table) seat_is ∙ stored_table ∙ cell.table;
        vectors_of = (same_table.0 ∙ cell.vectors_of.0, same_table.1 ∙ cell.vectors_of.1);
        words = words;
        conns = cell.conns;
        len = cell.len;
        idle = ap (λ (s : SeatSeen (About C R)). s.number) seat_is;
        commits = ap commits_of log_is ∙ commits-commit stored.log number turn.by.0 about
            ∙ ap (λ (cs : List (CallRecord (About C R))). cs ++ here ∷ []) (stores-commits key.words.conns
            key.words.len bits touched'.places begun stored each ∙ ap commits_of begun_log ∙ cell.commits)
            ∙ ap (λ (one : CallRecord (About C R)). map commit_of (calls journal) ++ one ∷ []) here_is
            ∙ sym (grind (arith, calls-turn, map-append));
        count = grind (arith, count-push, length-turn);
        callers = subst (All (λ (c : Call C R). c.by.0 ≤ key.callers)) (sym (calls-turn meaning form journal turn))
            (All-push (λ (c : Call C R). c.by.0 ≤ key.callers) (calls journal) call cell.callers within);
        most = grind (arith, number_added, length-turn);
        room = grind (arith, room_more);
        legal = legal_turn meaning form journal turn cell.legal;
        machine = machine_is;
        bits = subst (λ (l : List (Logged (About C R))). Shows meaning form key.callers l history)
            (sym log_is) (shows_next meaning form key.callers journal turn number standing'.machine touched'.places
            bits seat begun stored turn.by.0 about cell.bits (numbered_legal meaning form journal cell.legal)
            begun_log begun_number number_is (grind arith) (grind arith) machine_is (grind arith));
      }

  -- so does a turn of the machine, where its marks are entered, its words stored, and its call committed and entered
  pub cell_answered : (key : CellKey C R L) (limit : ℕ) (standing standing' : StructureView S L)
      (touched touched' : VectorWords) (journal marked journal' : List (Entry C R)) (marks : List Mark)
      (seat learned begun stored seat' : SeatSeen (About C R)) (vectors : WordTable) (named : List Place)
      (count owner : ℕ) (by : ConnId) (ask : Ask C) (reply : Reply R) → IsCell asks downs faults meaning
      key limit standing touched journal seat → IsTurn asks downs faults meaning standing standing' by ask marks reply
      → standing'.form ≡ standing.form → AreOfTable touched touched' → length journal < limit → ((conn : ConnId)
      (index : ℕ) → 0 < conn.0 → conn.0 ≤ touched'.conns → index < touched'.len → IsSpared touched'.places conn.0
      (index / 32) → stands_at meaning standing'.machine conn index ≡ stands_at meaning standing.machine conn index)
      → AreWordsOf touched'.conns touched'.len touched'.words (meaning.stands standing'.machine.content)
      → vectors ≡ key.words → named ≡ touched'.places → learned ≡ seat → marked ≡ entered journal marks
      → count ≡ length marked + 1 → by.0 ≡ owner → owner ≤ vectors.conns → begun ≡ record learned { number = count }
      → StoresEach vectors.conns vectors.len (word_at touched'.len touched'.words) named begun stored
      → seat' ≡ record stored { number = 0; log = stored.log ++ Committed stored.number owner (ask, reply) ∷ [] }
      → journal' ≡ marked ++ record { no = count; by = by; what = what.Call ask; reply = reply } ∷ []
      → IsCell asks downs faults meaning key limit standing' touched' journal' seat'
  cell_answered key limit standing standing' touched touched' journal marked journal' marks
      seat learned begun stored seat' vectors named count owner by ask reply cell done form_is
      same_table few kept words vectors_are named_are learned_is marked_is count_is by_is most begun_is each
      seat_is journal_is =
      let form = key.form in
      let it = turn_at asks downs faults meaning form (replay meaning form journal) standing
      standing' by ask marks reply cell.form cell.machine done in
      let turn : Turn C = record { by = by; ask = ask; down = it.down } in
      let taken_so : IsTaken meaning form journal turn standing'.machine marks reply =
      grind (arith, replay-marks, entered-told, replay-push) in
      let marked_so : marked ≡ with_marks meaning form journal (marks_by meaning form it.down journal by ask) =
      marked_is ∙ taken_so.marked in
      let number_is : count ≡ number_added meaning form journal turn = grind arith in
      let call_is : journal' ≡ after_turn meaning form journal turn = grind (arith, number_added) in
      let within : by.0 ≤ key.callers = grind arith in
      let begun_seat : begun ≡ record seat { number = count } = grind arith in
      let told : ℕ → ℕ → ℕ = word_at touched'.len touched'.words in
      let lens : touched'.len ≡ key.form.vector = same_table.1 ∙ cell.vectors_of.1 in
      let stores : StoresEach key.words.conns key.words.len
      (words_in meaning standing'.form standing'.machine) touched'.places begun stored = grind (arith, stores_alike) in
      let two : length marks ≤ 2 = few_marks asks downs faults meaning standing standing' by ask marks reply done in
      let all : length marked ≡ length journal + length marks = ap length marked_is ∙ length-entered journal marks in
      subst (λ (j : List (Entry C R)). IsCell asks downs faults meaning key limit standing' touched' j seat')
      (sym call_is) (cell_turned key limit standing standing' touched touched' journal seat
      begun stored seat' (words_in meaning standing'.form standing'.machine) turn count reply cell number_is
      taken_so.reply_is taken_so.machine_is form_is same_table within (omega (arith, few, two, all, count_is))
      few it.asked kept words begun_seat stores (λ conn word. refl) (grind arith))
