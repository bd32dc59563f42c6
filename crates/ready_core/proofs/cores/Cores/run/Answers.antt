use Rattle.std.proofs.Common.{◌≡◌, ◌*◌, ◌%◌, ◌^◌, ◌<◌, ◌∙◌, bit_and, w32, length, get_or, ap, refl, sym, arith}
use Rattle.std.specs.Prelude.{slice_set}
use Rattle.std.specs.Int.{bit_not}
use Rattle.std.proofs.lemmas.List.{get_or_read, get_or-set_same, length-set}
use Rattle.bench_model.specs.Control.{current}
use Rattle.bench_model.specs.Cores.{CoresView}
use Rattle.ready_core.specs.Fields.{control_from, ready_below}
use Rattle.list_orders.specs.Search.{has}
use Rattle.ready_core.proofs.Shapes.{shape_run}
use Rattle.ready_core.proofs.Flags.{flags_run}
use Rattle.ready_core.proofs.Marks.{marks_free}
use Rattle.ready_core.proofs.Seats.{bit_there}
use Rattle.ready_core.proofs.cores.Cores.run.Goals as goal

pub invariant_of-self : goal.invariant_of-self
invariant_of-self c =
    let view = c.self.view_is in
    let seats = c.self.inside.seats.items in
    let core = c.args.core in
    let task = c.args.task in
    let control = control_from c.self.inside.cores.items c.self.inside.tasks.items in
    let left : c.running-left.result ≡ current control core = c.running-left.ensures.current ∙ ap (λ (v : CoresView). current v.control core) (sym view) in
    let cleared = bit_and c.index_mut.result.now (bit_not w32 (1 * 2 ^ core % 4294967296)) in
    let tasks = ap (λ (v : CoresView). length v.control.tasks) view in
    let low : core < length c.self.inside.cores.items = omega (arith, c.requires.core, ap (λ (v : CoresView). length v.control.cores) view) in
    let below : task < length c.self.inside.tasks.items = omega (arith, c.requires.task, tasks) in
    let one = get_or_read seats c.running-left.result c.index_mut.result.now (omega (arith, c.running-left.ensures.task, tasks, c.self.invariant.shape.seated))
    c.index_mut.ensures.value 0 in
    let seated = length-set seats c.running-left.result cleared in
    let low_left : c.running-left.result < length seats = omega (arith, c.running-left.ensures.task, tasks, c.self.invariant.shape.seated) in
    let low_task : task < length seats = omega (arith, below, c.self.invariant.shape.seated) in
    let other = get_or_read (slice_set seats c.running-left.result cleared) task c.index_mut-3.result.now (omega (arith, low_task, seated))
    c.index_mut-3.ensures.value 0 in
    let again : c.index.result.now ≡ cleared = get_or_read (slice_set seats c.running-left.result cleared) c.running-left.result c.index.result.now
    (omega (arith, low_left, seated)) c.index.ensures 0 ∙ get_or-set_same seats c.running-left.result cleared 0 low_left in
    let word : core < 32 = omega (arith, low, c.self.invariant.shape.few_cores) in
    let ready = c.ready-is_ready.ensures ∙ ap (λ (v : CoresView). has c.running-left.result v.ready) (sym view) in
    rw (again, left)
    (record {
      shape = shape_run _ _ _ _ _ _ c.self.invariant.shape core task low below c.index_mut.result.now c.index_mut-3.result.now
          (one ∙ ap (λ t. get_or seats t 0) left) (other ∙ ap (λ t. get_or (slice_set seats t cleared) task 0) left);
      flags = flags_run _ _ _ _ c.self.invariant.flags (current control core) task _ _ _ (omega (arith, low_left, left)) low_task
          (ready ∙ ap (λ t. has t (ready_below c.self.inside.lists.lists c.self.inside.priorities)) left) (bit_there c.index_mut-3.result.now core word);
      marks = marks_free _ _ c.self.invariant.marks c.self.invariant.shape.few_cores core low _ refl;
    })
