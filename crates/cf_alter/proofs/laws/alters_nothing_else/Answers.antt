use Rattle.alter_model.proofs.AlterLaws.{kept-inner, kept-bits, no-letters}
use Rattle.cf_alter.proofs.laws.alters_nothing_else.Goals as goal

pub returns-clause-content : goal.returns-clause-content
returns-clause-content g c shape caps content by cmd is = kept-inner g.E.Engine.meaning shape caps content by cmd is

pub returns-clause-bits : goal.returns-clause-bits
returns-clause-bits g c shape caps content by cmd conn index is =
    kept-bits g.E.Engine.meaning shape caps content by cmd conn index is

pub returns-clause-letters : goal.returns-clause-letters
returns-clause-letters g c shape caps content by cmd is = no-letters g.E.Engine.meaning shape caps content by cmd is
