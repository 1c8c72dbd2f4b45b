use Rattle.cache_regs.proofs.Imports.{arith}
use Rattle.cache_regs.proofs.AgreeLaws.{free_place, free_name, added_agreed, added_regs}
use Rattle.cache_regs.proofs.maps.put_in.Goals as goal

pub returns-clause-agreed : goal.returns-clause-agreed
returns-clause-agreed c = added_agreed c.args.places.now.entries
    c.write_place.new.places.entries c.args.names.now.entries c.write_name.new.names.entries
    c.args.new.conn c.args.new.index c.args.new.name c.requires.agreed c.write_place.ensures.unique
    (free_place c.args.places.now.entries c.args.names.now.entries c.requires.agreed c.args.new.conn c.args.new.index
    c.requires.free) (grind (arith, free_name)) c.write_place.ensures.writes c.write_name.ensures.writes

pub returns-clause-regs : goal.returns-clause-regs
returns-clause-regs c = added_regs c.args.places.now.entries
    c.write_place.new.places.entries c.args.names.now.entries c.write_name.new.names.entries
    c.args.new.conn c.args.new.index c.args.new.name c.requires.agreed c.write_place.ensures.unique
    (free_place c.args.places.now.entries c.args.names.now.entries c.requires.agreed c.args.new.conn c.args.new.index
    c.requires.free) (grind (arith, free_name)) c.write_place.ensures.writes c.write_name.ensures.writes
