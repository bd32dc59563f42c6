use Rattle.std.proofs.Common.{◌+◌, length, sym, ap, ◌∙◌, string_bytes}
use Rattle.std.proofs.lemmas.List.{length-append}
use Rattle.bench_types.specs.Header.{name_of}
use Rattle.program_io.specs.Refusal.{spaced}
use Rattle.bench_commands.proofs.Labelled.{labels_more}
use Rattle.bench_commands.proofs.labels.Labels.of_tasks.Goals as goal

pub loop-task-preserved : goal.loop-task-preserved
loop-task-preserved c =
    let so_far = c.loop-task.invariant in
    record {
      labels = labels_more string_bytes c.args.header.now c.loop-task.texts.items c.push.new.self.items c.in_ok-label_of.field-0 c.in_ok-push.ensures.items
          (c.in_ok-label_of.ensures ∙ ap (λ n. spaced (name_of c.args.header.now n)) (sym so_far.many)) so_far.labels;
      many = ap length c.in_ok-push.ensures.items ∙ length-append c.loop-task.texts.items _ ∙ ap (λ n. n + 1) so_far.many;
    }
