use Rattle.std.proofs.Common.{◌≡◌, ◌+◌, All, List, Option, Bool, length, map, fold, None, ap, sym, subst, ◌∙◌, arith}
use Rattle.std.proofs.lemmas.List.FromFn.{length-map-range_with_len}
use Rattle.list_orders.specs.Search.{numbers}
use Rattle.bench_types.specs.declared.header.Header.{Header}
use Rattle.bench_types.specs.declared.step.Step.{Step}
use Rattle.bench_types.specs.Session.{Session}
use Rattle.bench_types.specs.Step.{settings_of}
use Rattle.kept_runs.specs.Items.{edited_items, edited_session}
use Rattle.kept_runs.specs.Known.{earlier}
use Rattle.kept_runs.specs.Rule.{first_progress}
use Rattle.keeping.specs.Ends.{first_end}
use Rattle.run_answers.specs.Answers.{answer_at}
use Rattle.run_answers.specs.declared.answer.Answer.{Answer}
use Rattle.smp_kernel.specs.Counting.{meter_after, CountsUpTo}
use Rattle.known_limits.specs.Before.{AreRows}
use Rattle.known_limits.specs.Calls.{BeginsBelow}
use Rattle.known_limits.specs.Limits.{answer_limits, sooner}
use Rattle.known_limits.proofs.Counting.{all_counted, both_counted, refused, some_counted}
use Rattle.known_limits.proofs.Firsts.{both_sooner}
use Rattle.known_limits.proofs.Rowed.{rows_own}
use Rattle.known_limits.proofs.Settings.{checked_calls, tasks_kept}
use Rattle.known_limits.proofs.known.known_until.Goals as goal

pub returns-in_err-rows-clause-some : goal.returns-in_err-rows-clause-some
returns-in_err-rows-clause-some c =
    let settled = length c.args.settled.now.session.steps in
    let all = settled + length c.args.kept.now.run.session.steps in
    let counts = subst (λ (session : Session). CountsUpTo (length session.steps) c.args.meter.now c.answers_before.new.meter) c.session.ensures
    c.in_err-rows.ensures.some in
    refused c.from_residual.result _ (some_counted settled all c.args.meter.now c.answers_before.new.meter (omega arith) counts)

pub returns-in_err-answers-clause-some : goal.returns-in_err-answers-clause-some
returns-in_err-answers-clause-some c =
    let settled = length c.args.settled.now.session.steps in
    let all = settled + length c.args.kept.now.run.session.steps in
    let counted = ap (λ (session : Session). meter_after (length session.steps) c.args.meter.now) c.session.ensures in
    refused c.from_residual-in_err-answers.result _
    (all_counted settled all c.args.meter.now c.run_answers.new.meter (omega arith)
    (c.in_err-answers.ensures.uncounted ∙ c.in_ok-rows.ensures.counted ∙ counted))

pub first_answer_limit-requires-clause-tasks : goal.first_answer_limit-requires-clause-tasks
first_answer_limit-requires-clause-tasks c =
    let session = c.args.session.now in
    let edits = c.args.edits.now in
    let run = c.session-run.result.now in
    let header : run.header ≡ (edited_session session edits).header = ap (λ (run : Session). run.header) c.session-run.ensures ∙ c.requires.header in
    let many : (settings_of run.header).tasks ≡ length c.as_slice-2.result.now
    = ap (λ (header : Header). (settings_of header).tasks) header ∙ tasks_kept session edits
    ∙ sym (ap (λ (rows : List (List (Option Bool))). length rows) c.as_slice-2.ensures.value ∙ c.in_ok-rows.ensures.rows.many) in
    subst (λ (steps : List Step). All (BeginsBelow (length c.as_slice-2.result.now)) steps) (sym c.steps.ensures.steps)
    (checked_calls run (length c.as_slice-2.result.now) c.steps.ensures.checked many)

pub first_answer_limit-requires-clause-many : goal.first_answer_limit-requires-clause-many
first_answer_limit-requires-clause-many c =
    let run = c.session-run.result.now in
    ap (λ (answers : List (Option Answer)). length answers) (c.as_slice.ensures.value ∙ c.in_ok-answers.ensures.answers)
    ∙ length-map-range_with_len (answer_at run.header run.steps) 0 (length run.steps)
    ∙ sym (ap (λ (steps : List Step). length steps) c.steps.ensures.steps)

pub returns-in_err-first-clause-some : goal.returns-in_err-first-clause-some
returns-in_err-first-clause-some c =
    let settled = length c.args.settled.now.session.steps in
    let own = length c.args.kept.now.run.session.steps in
    let counted = ap (λ (session : Session). meter_after (length session.steps) c.args.meter.now) c.session.ensures in
    let more = ap (λ (session : Session). meter_after (length session.steps) c.answers_before.new.meter) c.session-run.ensures in
    refused c.from_residual-in_err-first.result _
    (all_counted (settled + own) (settled + own) c.args.meter.now c.run_answers.new.meter (omega arith)
    (both_counted settled own c.args.meter.now c.answers_before.new.meter c.run_answers.new.meter (c.in_ok-rows.ensures.counted ∙ counted)
    (c.in_ok-answers.ensures.meter ∙ more)))

pub returns-clause-limit : goal.returns-clause-limit
returns-clause-limit c =
    let session = c.args.session.now in
    let edits = c.args.edits.now in
    let settled = c.args.settled.now.session.steps in
    let run = c.args.kept.now.run.session.steps in
    let rows = c.as_slice-2.result.now in
    let steps : c.steps.result.now ≡ run = c.steps.ensures.steps ∙ ap (λ (run : Session). run.steps) c.session-run.ensures in
    let header : c.session-run.result.now.header ≡ (edited_session session edits).header
    = ap (λ (run : Session). run.header) c.session-run.ensures ∙ c.requires.header in
    let are : AreRows session settled (length rows) (edited_items session edits) rows
    = rows_own session settled (settings_of session.header).tasks (edited_items session edits) rows
    (subst (λ (rows : List (List (Option Bool))). AreRows session settled (settings_of session.header).tasks (edited_items session edits) rows)
    (sym c.as_slice-2.ensures.value)
    (subst (λ (before : Session). AreRows session before.steps (settings_of session.header).tasks (edited_items session edits) c.in_ok-rows.rows.items)
    c.session.ensures c.in_ok-rows.ensures.rows)) in
    let answered : c.as_slice.result.now ≡ map (answer_at (edited_session session edits).header c.steps.result.now) (numbers (length c.steps.result.now))
    = c.as_slice.ensures.value ∙ c.in_ok-answers.ensures.answers
    ∙ (λ i. map (answer_at (header i) (sym c.steps.ensures.steps i)) (numbers (length (sym c.steps.ensures.steps i)))) in
    c.sooner.ensures
    ∙ (λ i. sooner (c.in_ok-first.ensures session edits settled are answered i) (c.requires.end i))
    ∙ ap (λ steps. sooner (fold earlier None (answer_limits session edits settled steps (length steps)))
    (first_end (first_progress c.args.order session edits settled) run)) steps
    ∙ both_sooner c.args.order session edits settled run
