use Rattle.plex_run.proofs.Imports.{◌≡◌, length, arith}
use Rattle.plex_run.proofs.WordLaws.{asks_load, is_asked}
use Rattle.plex_run.proofs.way.work_of.Goals as goal

pub returns-in-len2-clause-load : goal.returns-in-len2-clause-load
returns-in-len2-clause-load c = λ n.
    let words = c.args.words.now in
    let word = c.word-item-then-words-lt3.result in
    let numeral = c.numeral-item.result in
    let two : length c.args.words.now ≡ 2 = omega (arith, c.in-len2.len_at_least, c.in-len2.len_below) in
    let first = c.word-item-then-words-lt3.is in
    let second = c.numeral-item.is in
    let load = c.work_of_two.ensures.load n in (
      λ is. asks_load words word numeral n two first second (load.0 is).0 (load.0 is).1,
      λ loading. load.1 (is_asked words word numeral n two first second loading),
    )
