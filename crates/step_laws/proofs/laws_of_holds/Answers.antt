use Rattle.step_laws.proofs.Holds.{blocks_where_it_would, holder_keeps_its_core}
use Rattle.step_laws.proofs.laws_of_holds.Goals as goal

pub returns-clause-blocks_where_it_would : goal.returns-clause-blocks_where_it_would
returns-clause-blocks_where_it_would c = blocks_where_it_would

pub returns-clause-holder_keeps_its_core : goal.returns-clause-holder_keeps_its_core
returns-clause-holder_keeps_its_core c = holder_keeps_its_core
