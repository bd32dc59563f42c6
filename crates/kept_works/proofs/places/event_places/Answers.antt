use Rattle.std.proofs.Common.{◌≡◌, ◌+◌, ◌<◌, ◌≤◌, [], Some, count_by, take, get_or, length, sym, subst, ap, ◌∙◌, Global, Vec, ℕ, arith}
use Rattle.std.specs.Prelude.{option_map, slice_set}
use Rattle.std.proofs.lemmas.List.{get_or_read, length-set, length-take-le}
use Rattle.std.proofs.lemmas.List.Sums.{count_by-le-length}
use Rattle.bench_types.specs.declared.step.Step.TheVariants.{Tick}
use Rattle.kept_works.specs.Places.{event_place, is_in_row}
use Rattle.kept_works.specs.Rows.{row_at}
use Rattle.kept_works.proofs.FirstPlaces.{counts_on, counts_pass, AreCounts}
use Rattle.kept_works.proofs.Loops.{numbers_on}
use Rattle.kept_works.proofs.Rowed.{row_low}
use Rattle.kept_works.proofs.places.event_places.Goals.{in-Some, in-None}
use Rattle.kept_works.proofs.places.event_places.Goals as goal

pub next_place-requires : goal.next_place-requires
next_place-requires c =
    let tasks = c.args.tasks in
    let document = c.args.document.now in
    let index = c.loop-step.step-index in
    let row = c.in-Some.row in
    let low : row ≤ tasks = row_low tasks (get_or document index Tick) row (c.requires.rows index Tick c.loop-step-test.true) (sym c.row_of.ensures ∙ c.in-Some.is) in
    let read : c.index_mut.result.now ≡ get_or c.loop-step.come.items row 0 =
    get_or_read c.loop-step.come.items row c.index_mut.result.now (omega (arith, low, c.loop-step.invariant.many)) c.index_mut.ensures.value 0 in
    let counts = c.loop-step.invariant.come row low in
    let few = count_by-le-length (is_in_row tasks row) (take index document) in
    let long = length-take-le index document (omega arith) in
    record { few = omega (arith, read, counts, few, long, c.loop-step-test.true, c.requires.few) }

pub loop-step-preserved : goal.loop-step-preserved
loop-step-preserved c =
    let tasks = c.args.tasks in
    let document = c.args.document.now in
    let rows = c.args.rows.now in
    let index = c.loop-step.step-index in
    let come = c.loop-step.come.items in
    record {
      many = elim c.match-row_of.branch [
        | in-Some w ↦
            ap (λ (come : Vec ℕ Global). length come.items) w.come-is ∙ length-set come w.in-Some.row w.next_place.new.come ∙ c.loop-step.invariant.many
        | in-None w ↦ ap (λ (come : Vec ℕ Global). length come.items) w.come-is ∙ c.loop-step.invariant.many
      ];
      come = elim c.match-row_of.branch [
        | in-Some w ↦
            let row = w.in-Some.row in
            let is = sym c.row_of.ensures ∙ w.in-Some.is in
            let low : row ≤ tasks = row_low tasks (get_or document index Tick) row (c.requires.rows index Tick c.loop-step-test.true) is in
            let within : row < length come = omega (arith, low, c.loop-step.invariant.many) in
            let read : w.index_mut.result.now ≡ get_or come row 0 = get_or_read come row w.index_mut.result.now within w.index_mut.ensures.value 0 in
            subst (AreCounts tasks document (index + 1))
            (sym (ap (λ (come : Vec ℕ Global). come.items) w.come-is ∙ ap (slice_set come row) (w.next_place.ensures.come ∙ ap (λ (n : ℕ). n + 1) read)))
            (counts_on tasks document index Tick c.loop-step-test.true come row is within c.loop-step.invariant.come)
        | in-None w ↦
            let is = sym c.row_of.ensures ∙ w.in-None.is in
            subst (λ (come : Vec ℕ Global). AreCounts tasks document (index + 1) come.items) (sym w.come-is)
            (counts_pass tasks document index Tick c.loop-step-test.true come is c.loop-step.invariant.come)
      ];
      places = numbers_on (event_place tasks document rows c.args.end) index [] c.loop-step.places.items _ _
          c.loop-step.invariant.places c.in_ok-push.ensures.items (elim c.match-row_of.branch [
            | in-Some w ↦
                let row = w.in-Some.row in
                let is = sym c.row_of.ensures ∙ w.in-Some.is in
                let low : row ≤ tasks = row_low tasks (get_or document index Tick) row (c.requires.rows index Tick c.loop-step-test.true) is in
                let within : row < length come = omega (arith, low, c.loop-step.invariant.many) in
                let read : w.index_mut.result.now ≡ get_or come row 0 = get_or_read come row w.index_mut.result.now within w.index_mut.ensures.value 0 in
                let own : w.index-rows-row.result ≡ row_at rows row =
                get_or_read rows row w.index-rows-row.result (omega (arith, low, c.requires.many)) w.index-rows-row.is [] in
                w.place-is
                ∙ (λ i. Some (w.next_place.ensures.place i))
                ∙ (λ i. Some (get_or (own i) ((read ∙ c.loop-step.invariant.come row low) i) c.args.end))
                ∙ sym (ap (option_map (λ (row : ℕ). get_or (row_at rows row) (count_by (is_in_row tasks row) (take index document)) c.args.end)) is)
            | in-None w ↦
                let is = sym c.row_of.ensures ∙ w.in-None.is in
                w.place-is
                ∙ sym (ap (option_map (λ (row : ℕ). get_or (row_at rows row) (count_by (is_in_row tasks row) (take index document)) c.args.end)) is)
          ]);
    }
