use Rattle.std.proofs.Common.{◌≡◌, ◌∙◌, ◌+◌, ◌-◌, Some, ap, arith, false, get_or, map, refl}
use Rattle.std.specs.Prelude.{slice_set}
use Rattle.bench_types.specs.declared.kernel_data.CoreLook.{CoreLook}
use Rattle.list_orders.specs.Search.{numbers}
use Rattle.run_pictures.proofs.RowStretches.{core_from, each_runner, no_runner, one_runner}
use Rattle.run_pictures.proofs.row_stretches.all_runners.Goals as goal

pub loop-core-init : goal.loop-core-init
loop-core-init c = c.in_ok-runners.ensures ∙ no_runner c.as_slice-cores.result.now c.args.tasks

pub loop-core-preserved : goal.loop-core-preserved
loop-core-preserved c =
    let cores = c.as_slice-cores.result.now in
    let core = c.loop-core.core - 1 in
    let d : CoreLook = record { current = 0; pend = false; asked = false } in
    let later : c.loop-core.core ≡ core + 1 = omega (arith, c.loop-core-test.true) in
    let task = (get_or cores core d).current in
    let were = c.loop-core.invariant ∙ ap (λ n. map (core_from cores n) (numbers c.args.tasks)) later in
    c.set_runner.ensures ∙ ap (λ all. slice_set all task (Some core)) were
    ∙ one_runner cores core c.args.tasks task d (omega (arith, c.loop-core-test.true, c.loop-core.auto.core)) refl

pub returns : goal.returns
returns c =
    let cores = c.as_slice-cores.result.now in
    let none : c.loop-core.core ≡ 0 = omega (arith, c.loop-core-test.false) in
    c.loop-core.invariant
    ∙ ap (λ n. map (core_from cores n) (numbers c.args.tasks)) none
    ∙ ap (λ all. map (core_from all 0) (numbers c.args.tasks)) c.as_slice-cores.ensures
    ∙ each_runner c.args.look.now c.args.tasks
