use Rattle.cache_classes.proofs.MapLaws.{names_none}
use Rattle.cache_classes.proofs.classes.Classes.new.Goals as goal

pub returns : goal.returns
returns c = names_none c.new.result.entries c.new.ensures.empty
