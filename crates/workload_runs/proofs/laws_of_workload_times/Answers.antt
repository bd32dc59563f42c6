use Rattle.workload_runs.proofs.Arrivals.{interrupts_come_again}
use Rattle.workload_runs.proofs.Comings.{interrupts_come_at_their_times}
use Rattle.workload_runs.proofs.Keeps.{beginnings_are_in_time}
use Rattle.workload_runs.proofs.TimeLaws.{full_ticks_end, interrupts_are_on_time, no_interrupt_is_missed, passes_end_where_something_does, run_ends_behind_its_last_tick, ticks_are_on_time}
use Rattle.workload_runs.proofs.laws_of_workload_times.Goals as goal

pub returns-clause-beginnings_are_in_time : goal.returns-clause-beginnings_are_in_time
returns-clause-beginnings_are_in_time c = beginnings_are_in_time

pub returns-clause-ticks_are_on_time : goal.returns-clause-ticks_are_on_time
returns-clause-ticks_are_on_time c = ticks_are_on_time

pub returns-clause-full_ticks_end : goal.returns-clause-full_ticks_end
returns-clause-full_ticks_end c = full_ticks_end

pub returns-clause-interrupts_are_on_time : goal.returns-clause-interrupts_are_on_time
returns-clause-interrupts_are_on_time c = interrupts_are_on_time

pub returns-clause-no_interrupt_is_missed : goal.returns-clause-no_interrupt_is_missed
returns-clause-no_interrupt_is_missed c = no_interrupt_is_missed

pub returns-clause-passes_end_where_something_does : goal.returns-clause-passes_end_where_something_does
returns-clause-passes_end_where_something_does c = passes_end_where_something_does

pub returns-clause-run_ends_behind_its_last_tick : goal.returns-clause-run_ends_behind_its_last_tick
returns-clause-run_ends_behind_its_last_tick c = run_ends_behind_its_last_tick

pub returns-clause-interrupts_come_again : goal.returns-clause-interrupts_come_again
returns-clause-interrupts_come_again c = interrupts_come_again

pub returns-clause-interrupts_come_at_their_times : goal.returns-clause-interrupts_come_at_their_times
returns-clause-interrupts_come_at_their_times c = interrupts_come_at_their_times
