use Rattle.plex_board.proofs.Imports.{◌≡◌, length, rules}
use Rattle.plex_board.proofs.TrayLaws.{none-of_board}
use Rattle.plex_board.proofs.board.Board.new_tray.Goals as goal

pub returns-clause-of_board : goal.returns-clause-of_board
returns-clause-of_board g c =
    let count : c.loop.counter ≡ length c.args.self.now.cells = search rules in
    none-of_board c.args.self.now c.loop.counter _ c.loop.invariant count
