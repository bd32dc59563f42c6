use Rattle.std.proofs.Common.{◌/◌, ◌≤◌, List, ℕ, sym, subst, ◌∙◌}
use Rattle.bench_types.specs.Limits.{max_steps}
use Rattle.run_columns.specs.TimeSlots.{whole_time}
use Rattle.run_columns.proofs.Timed.{ticks_fit}
use Rattle.run_columns.proofs.slots.tick_columns.Goals as goal

pub slots_of-requires-clause-low : goal.slots_of-requires-clause-low
slots_of-requires-clause-low c =
    subst (λ (times : List ℕ). whole_time times / 1 ≤ max_steps) (sym (c.as_slice.ensures.value ∙ c.in_ok-times_of.ensures.value))
    (ticks_fit c.args.before.now c.requires.before)

pub slots_of-requires-2-clause-low : goal.slots_of-requires-2-clause-low
slots_of-requires-2-clause-low c =
    subst (λ (times : List ℕ). whole_time times / 1 ≤ max_steps) (sym (c.as_slice-2.ensures.value ∙ c.in_ok-times_of-2.ensures.value))
    (ticks_fit c.args.after.now c.requires.after)
