-- What a text that can't be read is to a member's work.
use Rattle.plex_board.specs.PlexScript.declared.faults.ReadFault.{ReadFault}
use Rattle.plex_board.specs.PlexScript.declared.faults.ReadFault.TheVariants as unread
use Rattle.plex_report.specs.PlexSpell.declared.misses.Miss.{Miss}
use Rattle.plex_report.specs.PlexSpell.declared.misses.Miss.TheVariants as miss
use Rattle.plex_seat.specs.declared.faults.Fault.{Fault}
use Rattle.plex_seat.specs.declared.faults.Fault.TheVariants.{Policy, Command, NoMemory}

-- a script that isn't read
abbrev pub fault_of : ReadFault → Fault
fault_of (unread.Script line why) = Policy
fault_of (unread.NoMemory cause) = NoMemory cause

-- a command that isn't read
abbrev pub fault_by : Miss → Fault
fault_by miss.NoForm = Command
fault_by (miss.NoMemory cause) = NoMemory cause
