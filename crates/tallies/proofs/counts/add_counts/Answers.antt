use Rattle.std.proofs.Common.{◌≡◌, ℕ, ◌+◌, ◌<◌, length, get_or, sym, ap, subst, ◌∙◌, arith}
use Rattle.std.specs.Prelude.{slice_set}
use Rattle.std.proofs.lemmas.List.Elements.{All-get_or}
use Rattle.bench_types.specs.declared.tally.Tally.{Tally}
use Rattle.bench_model.specs.Tallied.{no_counts}
use Rattle.session_laws.proofs.Tallies.{each_at, length_each}
use Rattle.tallies.specs.Sums.{added_counts, all_added_counts, CountsFit}
use Rattle.tallies.specs.Tables.{counts_of}
use Rattle.tallies.proofs.InPlace.{IsSetTo, set_all, set_more}
use Rattle.tallies.proofs.counts.add_counts.Goals as goal

pub add_task_counts-requires : goal.add_task_counts-requires
add_task_counts-requires c =
    let old = c.args.counts.now in
    let more = c.args.more.now in
    let task = c.loop-task.task in
    let sum : ℕ → Tally = λ task. added_counts (counts_of old task) (counts_of more task) in
    let low : task < length old = c.loop-task-test.true in
    let kept : counts_of c.loop-task.counts task ≡ counts_of old task = c.loop-task.invariant.others task (omega arith) in
    let room : CountsFit (get_or (all_added_counts old more) task (no_counts 0)) = All-get_or CountsFit (all_added_counts old more) task (no_counts 0)
    (omega (arith, low, length_each sum (length old))) c.requires.sums in
    subst CountsFit (each_at sum (length old) task (no_counts 0) low ∙ ap (λ t. added_counts t (counts_of more task)) (sym kept)) room

pub loop-task-preserved : goal.loop-task-preserved
loop-task-preserved c =
    let old = c.args.counts.now in
    let more = c.args.more.now in
    let now = c.loop-task.counts in
    let task = c.loop-task.task in
    let sum : ℕ → Tally = λ task. added_counts (counts_of old task) (counts_of more task) in
    let kept : counts_of now task ≡ counts_of old task = c.loop-task.invariant.others task (omega arith) in
    let made : c.add_task_counts.new.counts ≡ sum task = c.add_task_counts.ensures ∙ ap (λ t. added_counts t (counts_of more task)) kept in
    subst (λ t. IsSetTo sum (no_counts 0) old (task + 1) (slice_set now task t)) (sym made)
    (set_more sum (no_counts 0) old now task c.loop-task.invariant (omega (arith, c.loop-task-test.true, c.loop-task.invariant.size)))

pub returns : goal.returns
returns c =
    let old = c.args.counts.now in
    let more = c.args.more.now in
    set_all (λ task. added_counts (counts_of old task) (counts_of more task)) (no_counts 0) old c.loop-task.counts c.loop-task.task c.loop-task.invariant
    c.loop-task-test.false
