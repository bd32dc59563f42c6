-- Steps that the test finds alike may share a row, and only those.
use Rattle.std.proofs.Common.{◌&&◌, ◌≡◌, true, refl, ap, ap₂, sym, ◌∙◌}
use Rattle.std.specs.Prelude.{◌==◌}
use Rattle.std.proofs.lemmas.Bool.{and_from, and_parts}
use Rattle.bench_types.specs.declared.step.Step.{Step}
use Rattle.bench_types.specs.declared.step.Step.TheVariants.{Tick, Switch, Call, Interrupt, QueueInterrupt, ResumeInterrupt, Pass}
use Rattle.bench_model.specs.SameTest.{are_same_calls, are_same_directions, are_same_notes}
use Rattle.run_comparisons.specs.Alike.{are_alike, MayShareRow}
use Rattle.run_comparisons.proofs.SameCalls.{call_itself, direction_itself, note_itself, number_itself, one_call, one_direction, one_note, one_number}

pub may_share : (step other : Step) → are_alike step other ≡ true → MayShareRow step other
may_share Tick Tick is = refl
may_share (Switch core) (Switch other) is = ap Switch (one_number core other is)
may_share (Call core task call) (Call other caller made) is =
    let parts = and_parts (task == caller) (are_same_calls call made) is in
    (one_number task caller parts.0, one_call call made parts.1)
may_share (Interrupt core note) (Interrupt other sent) is =
    let parts = and_parts (core == other) (are_same_notes note sent) is in
    ap₂ Interrupt (one_number core other parts.0) (one_note note sent parts.1)
may_share (QueueInterrupt core queue direction) (QueueInterrupt other others way) is =
    let parts = and_parts (core == other && queue == others) (are_same_directions direction way) is in
    let front = and_parts (core == other) (queue == others) parts.0 in
    let core_is = one_number core other front.0 in
    let queue_is = one_number queue others front.1 in
    let way_is = one_direction direction way parts.1 in
    λ i. QueueInterrupt (core_is i) (queue_is i) (way_is i)
may_share (ResumeInterrupt core task) (ResumeInterrupt other resumed) is =
    let parts = and_parts (core == other) (task == resumed) is in
    ap₂ ResumeInterrupt (one_number core other parts.0) (one_number task resumed parts.1)
may_share (Pass units) (Pass others) is = ap Pass (one_number units others is)
may_share step other is = absurd (cc is)

step_itself : (step : Step) → are_alike step step ≡ true
step_itself Tick = refl
step_itself (Switch core) = number_itself core
step_itself (Call core task call) = and_from (task == task) (are_same_calls call call) (number_itself task) (call_itself call)
step_itself (Interrupt core note) = and_from (core == core) (are_same_notes note note) (number_itself core) (note_itself note)
step_itself (QueueInterrupt core queue direction) = and_from (core == core && queue == queue) (are_same_directions direction direction)
    (and_from (core == core) (queue == queue) (number_itself core) (number_itself queue)) (direction_itself direction)
step_itself (ResumeInterrupt core task) = and_from (core == core) (task == task) (number_itself core) (number_itself task)
step_itself (Pass units) = number_itself units

one_step : (step other : Step) → step ≡ other → are_alike step other ≡ true
one_step step other same = ap (are_alike step) (sym same) ∙ step_itself step

pub share_alike : (step other : Step) → MayShareRow step other → are_alike step other ≡ true
share_alike (Call core task call) (Call other caller made) share =
    and_from (task == caller) (are_same_calls call made) (ap (λ n. task == n) (sym share.0) ∙ number_itself task)
    (ap (are_same_calls call) (sym share.1) ∙ call_itself call)
share_alike step other share = one_step step other share
