use Rattle.std.proofs.Common.{◌≡◌, ◌+◌, ◌≤◌, ◌++◌, ℕ, suc, All, List, length, map, ap, sym, subst, ◌∙◌, arith}
use Rattle.bench_types.specs.declared.header.Header.{Header}
use Rattle.bench_types.specs.declared.header.TaskArgs.{TaskArgs}
use Rattle.bench_types.specs.declared.step.Step.{Step}
use Rattle.bench_types.specs.Session.{Session}
use Rattle.bench_types.specs.Step.{settings_of}
use Rattle.list_orders.specs.Search.{numbers}
use Rattle.kept_runs.specs.declared.clocks.Clock.{Clock}
use Rattle.kept_runs.specs.declared.works.Outside.{Outside}
use Rattle.kept_runs.specs.declared.works.Unmade.{Unmade}
use Rattle.kept_runs.specs.Clocks.{Clocks, zero_clock}
use Rattle.kept_runs.specs.Items.{Item, edited_items, settled_place}
use Rattle.kept_runs.specs.Works.{outside_steps, unmade_calls, works_from}
use Rattle.keeping.specs.Progress.{IsComing}
use Rattle.keeping.specs.Works.{IsUnmade}
use Rattle.kept_works.specs.Asked.{clock_of}
use Rattle.kept_works.specs.Items.{AreItems}
use Rattle.kept_works.specs.Works.{asked_ends, asked_item, outsides, placed_by, AreEnds, HasPlace}
use Rattle.kept_works.proofs.Whole.{clocks_many, few_settings, items_have_places, low_places, many_places, outside_fit, outside_is, unmade_few, unmade_fit, unmade_is}
use Rattle.kept_works.proofs.works.kept_works.Goals as goal

pub overflow_cast-users : goal.overflow_cast-users
overflow_cast-users c =
    let few = few_settings c.args.session.now c.header-header.ensures.checked in
    omega (
      arith,
      few.1,
      ap (λ (tasks : List TaskArgs). length tasks) c.as_slice.ensures,
      ap (λ (header : Header). length header.tasks) c.header-header.ensures.header,
    )

pub overflow_add-cores : goal.overflow_add-cores
overflow_add-cores c =
    let few = few_settings c.args.session.now c.header-header.ensures.checked in
    omega (
      arith,
      few.0,
      few.1,
      ap (λ (tasks : List TaskArgs). length tasks) c.as_slice.ensures,
      ap (λ (header : Header). length header.tasks) c.header-header.ensures.header,
      ap (λ (header : Header). header.config.cores) c.header-header.ensures.header,
    )

places_are : (document settled : List Step) (session run own : Session) (places given : List ℕ) → given ≡ places → document ≡ session.steps
    → settled ≡ own.steps → own ≡ run → places ≡ map (settled_place document settled) (numbers (suc (length document)))
    → given ≡ map (settled_place session.steps run.steps) (numbers (suc (length session.steps)))
places_are document settled session run own places given same one two is are =
    let three : settled ≡ run.steps = two ∙ ap (λ (run : Session). run.steps) is in
    same ∙ are ∙ (λ i. map (settled_place (one i) (three i)) (numbers (suc (length (one i)))))

pub outside_steps-requires-clause-places : goal.outside_steps-requires-clause-places
outside_steps-requires-clause-places c =
    let session = c.args.session.now in
    let run = c.args.settled.now.session in
    let places = c.as_slice-2.result.now in
    let are = places_are c.steps.result.now c.steps-2.result.now session run c.session-run.result.now c.in_ok-places.places.items places
    c.as_slice-2.ensures.value c.steps.ensures.steps c.steps-2.ensures.steps c.session-run.ensures c.in_ok-places.ensures in
    let same = c.steps-3.ensures.steps ∙ ap (λ (run : Session). run.steps) c.session-run.ensures in
    subst (λ (steps : List Step). All (λ place. place ≤ length steps) places) (sym same) (low_places session run places c.requires.settled.0 are)

pub outside_steps-requires-clause-anchors : goal.outside_steps-requires-clause-anchors
outside_steps-requires-clause-anchors c =
    let session = c.args.session.now in
    let run = c.args.settled.now.session in
    let places = c.as_slice-2.result.now in
    let are = places_are c.steps.result.now c.steps-2.result.now session run c.session-run.result.now c.in_ok-places.places.items places
    c.as_slice-2.ensures.value c.steps.ensures.steps c.steps-2.ensures.steps c.session-run.ensures c.in_ok-places.ensures in
    subst (λ (items : List Item). All (HasPlace places) items) (sym c.as_slice-3.ensures.value)
    (items_have_places (settings_of session.header) (length session.steps) (length c.args.edits.now) c.in_ok-items.items.items
    c.in_ok-items.ensures.are.each places (many_places session run places c.requires.settled.0 are))

pub clocks_of-requires-clause-places : goal.clocks_of-requires-clause-places
clocks_of-requires-clause-places c =
    let session = c.args.session.now in
    let run = c.args.settled.now.session in
    let places = c.as_slice-4.result.now in
    let are = places_are c.steps.result.now c.steps-2.result.now session run c.session-run.result.now c.in_ok-places.places.items places
    c.as_slice-4.ensures.value c.steps.ensures.steps c.steps-2.ensures.steps c.session-run.ensures c.in_ok-places.ensures in
    subst (λ (own : Session). All (λ place. place ≤ length own.steps) places) (sym c.session-run.ensures)
    (low_places session run places c.requires.settled.0 are)

pub clocks_of-requires-clause-anchors : goal.clocks_of-requires-clause-anchors
clocks_of-requires-clause-anchors c =
    let session = c.args.session.now in
    let run = c.args.settled.now.session in
    let places = c.as_slice-4.result.now in
    let are = places_are c.steps.result.now c.steps-2.result.now session run c.session-run.result.now c.in_ok-places.places.items places
    c.as_slice-4.ensures.value c.steps.ensures.steps c.steps-2.ensures.steps c.session-run.ensures c.in_ok-places.ensures in
    subst (λ (items : List Item). All (HasPlace places) items) (sym c.as_slice-5.ensures.value)
    (items_have_places (settings_of session.header) (length session.steps) (length c.args.edits.now) c.in_ok-items.items.items
    c.in_ok-items.ensures.are.each places (many_places session run places c.requires.settled.0 are))

pub unmade_calls-requires-clause-many : goal.unmade_calls-requires-clause-many
unmade_calls-requires-clause-many c =
    let own = c.session-run.result.now in
    let many = clocks_many own c.as_slice-4.result.now c.as_slice-5.result.now own.header.config.cores (length own.header.tasks) (length own.steps)
    c.in_ok-clocks.clocks.items c.in_ok-clocks.ensures.clocks in
    let header = ap (λ (run : Session). run.header) c.session-run.ensures ∙ c.requires.settled.0 ∙ sym c.header-header.ensures.header in
    omega (
      arith,
      many,
      ap (λ (header : Header). length header.tasks) header,
      ap (λ (tasks : List TaskArgs). length tasks) c.as_slice.ensures,
      ap (λ (clocks : List Clock). length clocks) c.as_slice-7.ensures.value,
      ap (λ (items : List Item). length items) (c.as_slice-5.ensures.value ∙ sym c.as_slice-6.ensures.value),
    )

pub unmade_calls-requires-clause-few_tasks : goal.unmade_calls-requires-clause-few_tasks
unmade_calls-requires-clause-few_tasks c =
    let few = few_settings c.args.session.now c.header-header.ensures.checked in
    omega (
      arith,
      few.0,
      few.1,
      ap (λ (tasks : List TaskArgs). length tasks) c.as_slice.ensures,
      ap (λ (header : Header). length header.tasks) c.header-header.ensures.header,
      ap (λ (header : Header). header.config.cores) c.header-header.ensures.header,
    )

pub returns-clause-unmade : goal.returns-clause-unmade
returns-clause-unmade c =
    let session = c.args.session.now in
    let run = c.args.settled.now.session in
    let places = c.as_slice-4.result.now in
    let are = places_are c.steps.result.now c.steps-2.result.now session run c.session-run.result.now c.in_ok-places.places.items places
    c.as_slice-4.ensures.value c.steps.ensures.steps c.steps-2.ensures.steps c.session-run.ensures c.in_ok-places.ensures in
    let items = c.in_ok-items.items.items in
    let clocks = c.as_slice-7.result.now in
    let unmade = c.in_ok-unmade.unmade.items in
    let header = c.header-header.result.now in
    let cores = header.config.cores in
    let users = length c.as_slice.result.now in
    let own : run.header ≡ header = c.requires.settled.0 ∙ sym c.header-header.ensures.header in
    let tasks : users ≡ length header.tasks = ap (λ (tasks : List TaskArgs). length tasks) c.as_slice.ensures in
    let is : clocks ≡ map (clock_of run) (map (asked_item places) items ++ asked_ends cores users (length run.steps)) =
    c.as_slice-7.ensures.value ∙ c.in_ok-clocks.ensures.clocks
    ∙ (λ i. map (clock_of (c.session-run.ensures i))
    (map (asked_item places) (c.as_slice-5.ensures.value i)
    ++ asked_ends (c.session-run.ensures i).header.config.cores (length (c.session-run.ensures i).header.tasks) (length (c.session-run.ensures i).steps)))
    ∙ (λ i. map (clock_of run) (map (asked_item places) items ++ asked_ends (own i).config.cores (length (own i).tasks) (length run.steps)))
    ∙ ap (λ users. map (clock_of run) (map (asked_item places) items ++ asked_ends cores users (length run.steps))) (sym tasks) in
    let made =
    subst
    (λ (items : List Item).
    (ends : Clocks) → AreEnds cores (length items) clocks ends
    → unmade ≡ works_from ends (λ task. zero_clock) (map (λ user. cores + user) (numbers users)) (placed_by clocks items))
    c.as_slice-6.ensures.value c.in_ok-unmade.ensures in
    unmade_is session run places c.requires.settled.0 are (settings_of session.header) (length c.args.edits.now) items c.in_ok-items.ensures.are.each cores
    users clocks unmade (ap (λ (header : Header). header.config.cores) c.header-header.ensures.header)
    (tasks ∙ ap (λ (header : Header). length header.tasks) c.header-header.ensures.header) is made
    ∙ ap (λ (items : List Item). unmade_calls session run.steps items) c.in_ok-items.ensures.items

pub returns-clause-outside : goal.returns-clause-outside
returns-clause-outside c =
    let session = c.args.session.now in
    let run = c.args.settled.now.session in
    let places = c.as_slice-2.result.now in
    let are = places_are c.steps.result.now c.steps-2.result.now session run c.session-run.result.now c.in_ok-places.places.items places
    c.as_slice-2.ensures.value c.steps.ensures.steps c.steps-2.ensures.steps c.session-run.ensures c.in_ok-places.ensures in
    let same = c.steps-3.ensures.steps ∙ ap (λ (run : Session). run.steps) c.session-run.ensures in
    c.in_ok-outside.ensures ∙ (λ i. outsides (same i) places (c.as_slice-3.ensures.value i))
    ∙ outside_is session run places c.requires.settled.0 are (settings_of session.header) (length c.args.edits.now) c.in_ok-items.items.items
    c.in_ok-items.ensures.are.each
    ∙ ap (λ (items : List Item). outside_steps session run.steps items) c.in_ok-items.ensures.items

pub returns-clause-fit : goal.returns-clause-fit
returns-clause-fit c =
    let session = c.args.session.now in
    let edits = c.args.edits.now in
    let are = subst (λ (items : List Item). AreItems (settings_of session.header) (length session.steps) (length edits) items) c.in_ok-items.ensures.items
    c.in_ok-items.ensures.are in
    subst (λ (unmade : List Unmade). All (IsUnmade (settings_of session.header)) unmade) (sym (returns-clause-unmade c))
    (unmade_fit session c.args.settled.now.session.steps (length edits) (edited_items session edits) are)

pub returns-clause-few : goal.returns-clause-few
returns-clause-few c =
    let session = c.args.session.now in
    let edits = c.args.edits.now in
    let are = subst (λ (items : List Item). AreItems (settings_of session.header) (length session.steps) (length edits) items) c.in_ok-items.ensures.items
    c.in_ok-items.ensures.are in
    let few = few_settings session c.header-header.ensures.checked in
    omega (
      arith,
      ap (λ (unmade : List Unmade). length unmade) (returns-clause-unmade c),
      unmade_few session c.args.settled.now.session.steps (length edits) (edited_items session edits) are few.1,
    )

pub returns-clause-comings : goal.returns-clause-comings
returns-clause-comings c =
    let session = c.args.session.now in
    let edits = c.args.edits.now in
    let are = subst (λ (items : List Item). AreItems (settings_of session.header) (length session.steps) (length edits) items) c.in_ok-items.ensures.items
    c.in_ok-items.ensures.are in
    subst (λ (outside : List Outside). All (IsComing (settings_of session.header)) outside) (sym (returns-clause-outside c))
    (outside_fit session c.args.settled.now.session.steps (length edits) (edited_items session edits) are)
