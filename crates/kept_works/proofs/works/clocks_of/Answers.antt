use Rattle.std.proofs.Common.{◌≡◌, ◌+◌, ◌++◌, All, List, length, ap, sym, subst, ◌∙◌, arith}
use Rattle.std.proofs.lemmas.List.Elements.{All-append}
use Rattle.bench_types.specs.declared.header.Header.{Header}
use Rattle.bench_types.specs.declared.header.TaskArgs.{TaskArgs}
use Rattle.bench_types.specs.declared.step.Step.{Step}
use Rattle.bench_types.specs.Step.{settings_of}
use Rattle.kept_works.specs.declared.asked.Asked.{Asked}
use Rattle.kept_works.specs.Asked.{IsAsked}
use Rattle.kept_works.specs.Works.{asked_ends}
use Rattle.kept_works.proofs.Whole.{asked_many, ends_asked, few_settings, items_asked}
use Rattle.kept_works.proofs.works.clocks_of.Goals as goal

pub overflow_cast-users : goal.overflow_cast-users
overflow_cast-users c =
    let few = few_settings c.args.settled.now c.header-header.ensures.checked in
    omega (
      arith,
      few.1,
      ap (λ (tasks : List TaskArgs). length tasks) c.as_slice.ensures,
      ap (λ (header : Header). length header.tasks) c.header-header.ensures.header,
    )

pub ask_ends-requires : goal.ask_ends-requires
ask_ends-requires c =
    let few = few_settings c.args.settled.now c.header-header.ensures.checked in
    omega (
      arith,
      few.0,
      few.1,
      ap (λ (tasks : List TaskArgs). length tasks) c.as_slice.ensures,
      ap (λ (header : Header). length header.tasks) c.header-header.ensures.header,
      ap (λ (header : Header). header.config.cores) c.header-header.ensures.header,
    )

pub asked_clocks-requires-clause-asked : goal.asked_clocks-requires-clause-asked
asked_clocks-requires-clause-asked c =
    let run = c.args.settled.now in
    let header = c.header-header.ensures.header in
    let few = few_settings run c.header-header.ensures.checked in
    let tasks = c.as_slice.ensures ∙ ap (λ (header : Header). header.tasks) header in
    let all : (settings_of run.header).tasks ≡ c.header-header.result.now.config.cores + length c.as_slice.result.now =
    omega (arith, ap (λ (tasks : List TaskArgs). length tasks) tasks, ap (λ (header : Header). header.config.cores) header) in
    let own = items_asked run c.args.places.now c.args.items.now (omega (arith, few.2)) c.requires.places c.requires.anchors c.requires.tasks in
    let ends = ends_asked run c.header-header.result.now.config.cores (length c.as_slice.result.now) (sym all) in
    let end : length run.steps ≡ length c.steps.result.now = ap (λ (steps : List Step). length steps) (sym c.steps.ensures.steps) in
    subst (λ (asked : List Asked). All (IsAsked run) asked)
    (sym
    (c.as_slice-2.ensures.value ∙ c.in_ok-ask_ends.ensures
    ∙ (λ i. c.in_ok-asked.ensures i
    ++ asked_ends c.header-header.result.now.config.cores (length c.as_slice.result.now) (sym end i))))
    (All-append (IsAsked run) _ _ own ends)

pub asked_clocks-requires-clause-few : goal.asked_clocks-requires-clause-few
asked_clocks-requires-clause-few c =
    let few = few_settings c.args.settled.now c.header-header.ensures.checked in
    let many = asked_many c.args.places.now c.args.items.now c.header-header.result.now.config.cores (length c.as_slice.result.now)
    (length c.steps.result.now) in
    omega (
      arith,
      few.1,
      c.requires.few,
      many,
      ap (λ (tasks : List TaskArgs). length tasks) c.as_slice.ensures,
      ap (λ (header : Header). length header.tasks) c.header-header.ensures.header,
      ap (λ (asked : List Asked). length asked)
          (c.as_slice-2.ensures.value ∙ c.in_ok-ask_ends.ensures
          ∙ ap (λ (asked : List Asked). asked ++ asked_ends c.header-header.result.now.config.cores (length c.as_slice.result.now) (length c.steps.result.now))
          c.in_ok-asked.ensures),
    )
