use Rattle.std.proofs.Common.{◌≡◌, ◌+◌, ℕ, suc, All, List, length, ap, sym, subst, ◌∙◌, arith}
use Rattle.std.proofs.lemmas.List.FromFn.{length-map-range_with_len}
use Rattle.bench_types.specs.declared.header.Header.{Header}
use Rattle.bench_types.specs.declared.header.TaskArgs.{TaskArgs}
use Rattle.bench_types.specs.declared.step.Step.{Step}
use Rattle.bench_types.specs.Step.{settings_of}
use Rattle.kept_runs.specs.Items.{Item, settled_place}
use Rattle.known_limits.specs.Before.{HasAnchor}
use Rattle.known_limits.proofs.Settings.{few_settings, items_have_places}
use Rattle.known_limits.proofs.known.answers_before.Goals as goal

pub overflow_cast-tasks : goal.overflow_cast-tasks
overflow_cast-tasks c =
    let few = few_settings c.args.session.now c.header-header.ensures.checked in
    omega (
      arith,
      few.1,
      ap (λ (tasks : List TaskArgs). length tasks) c.as_slice.ensures,
      ap (λ (header : Header). length header.tasks) c.header-header.ensures.header,
    )

pub overflow_add-tasks : goal.overflow_add-tasks
overflow_add-tasks c =
    let few = few_settings c.args.session.now c.header-header.ensures.checked in
    omega (
      arith,
      few.0,
      few.1,
      ap (λ (tasks : List TaskArgs). length tasks) c.as_slice.ensures,
      ap (λ (header : Header). length header.tasks) c.header-header.ensures.header,
      ap (λ (header : Header). header.config.cores) c.header-header.ensures.header,
    )

pub answers_in_rows-requires-clause-anchors : goal.answers_in_rows-requires-clause-anchors
answers_in_rows-requires-clause-anchors c =
    let session = c.args.session.now in
    let places = c.as_slice-2.result.now in
    let place = settled_place c.steps.result.now c.steps-2.result.now in
    let many : length places ≡ length session.steps + 1 = omega (
      arith,
      ap (λ (places : List ℕ). length places) (c.as_slice-2.ensures.value ∙ c.in_ok-places.ensures),
      length-map-range_with_len place 0 (suc (length c.steps.result.now)),
      ap (λ (steps : List Step). length steps) c.steps.ensures.steps,
    ) in
    subst (λ (items : List Item). All (HasAnchor places) items) (sym c.as_slice-4.ensures.value)
    (items_have_places (settings_of session.header) (length session.steps) (length c.args.edits.now) c.in_ok-items.items.items places
    c.in_ok-items.ensures.are many)
