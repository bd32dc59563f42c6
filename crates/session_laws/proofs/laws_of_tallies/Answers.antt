use Rattle.bench_model.specs.Table.{stamp_queues}
use Rattle.bench_model.specs.Lists.{list_queues}
use Rattle.session_laws.proofs.Tallies.{stepwise, parts_added, part_few, tallied_seen}
use Rattle.session_laws.proofs.Shapes.{tallied_shape, added_shape, session_shape}
use Rattle.session_laws.proofs.laws_of_tallies.Goals as goal

pub returns-clause-tallies_are_stepwise : goal.returns-clause-tallies_are_stepwise
returns-clause-tallies_are_stepwise c = stepwise

pub returns-clause-parts_add_up : goal.returns-clause-parts_add_up
returns-clause-parts_add_up c = parts_added

pub returns-clause-counts_are_few : goal.returns-clause-counts_are_few
returns-clause-counts_are_few c = part_few

pub returns-clause-tally_simulates : goal.returns-clause-tally_simulates
returns-clause-tally_simulates c = tallied_seen

pub returns-clause-tallies_fit_settings : goal.returns-clause-tallies_fit_settings
returns-clause-tallies_fit_settings c = session_shape

pub returns-clause-counting_keeps_shape : goal.returns-clause-counting_keeps_shape
returns-clause-counting_keeps_shape c = λ tallies. (λ moment. tallied_shape stamp_queues moment tallies, λ moment. tallied_shape list_queues moment tallies)

pub returns-clause-adding_keeps_shape : goal.returns-clause-adding_keeps_shape
returns-clause-adding_keeps_shape c = added_shape
