use Rattle.std.proofs.Common.{◌≡◌, false, ◌++◌, ◌∷◌, [], length, map, ap, refl, arith}
use Rattle.bench_types.proofs.Passes.{checked_header}
use Rattle.bench_types.proofs.Repeats.{repeats_name}
use Rattle.session_text.proofs.NewNames.{are_new_all, few_keys, is_new, goes_on, insert_key_new}
use Rattle.session_text.proofs.names.Names.of.Goals as goal

pub loop-task-init : goal.loop-task-init
loop-task-init c =
    let once : repeats_name c.args.header.now.tasks ≡ false = (checked_header c.args.header.now c.requires).once in
    rw (c.new-names.ensures.empty, c.as_slice-task-items.ensures) (record { so_far = refl; others = are_new_all c.args.header.now.tasks once })

pub loop-task-preserved : goal.loop-task-preserved
loop-task-preserved c =
    let tasks = c.as_slice-task-items.result.now in
    let names = map (λ name. name.now) c.loop-task.names.keys in
    let task = c.task-item.result in
    let new = is_new tasks c.loop-task.task-index names task c.loop-task-test.true c.task-item.is c.loop-task.invariant in
    let grown : map (λ name. name.now) c.insert.new.self.keys ≡ names ++ task.name ∷ [] =
    rw c.in_ok-insert.ensures.keys (rw (← c.as_str.ensures.text) (insert_key_new c.loop-task.names.keys c.as_str.result (rw c.as_str.ensures.text new))) in
    rw grown (goes_on tasks c.loop-task.task-index names task c.loop-task-test.true c.task-item.is c.loop-task.invariant)

pub invariant_of-result : goal.invariant_of-result
invariant_of-result c =
    let limits = checked_header c.args.header.now c.requires in (
      limits.few_cores,
      omega (
        arith,
        few_keys c.as_slice-task-items.result.now c.loop-task.task-index c.loop-task.names.keys c.loop-task.invariant,
        ap length
            c.as_slice-task-items.ensures,
        limits.few_tasks,
      ),
    )
