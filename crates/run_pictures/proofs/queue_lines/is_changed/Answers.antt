use Rattle.std.proofs.Common.{map, ap, ◌∙◌}
use Rattle.std.specs.Prelude.{◌==◌, not}
use Rattle.std.specs.List.{list_any}
use Rattle.run_pictures.specs.TaskStretches.{messages_in}
use Rattle.run_pictures.proofs.FirstMessages.{any_seen}
use Rattle.run_pictures.proofs.queue_lines.is_changed.Goals as goal

pub returns : goal.returns
returns c =
    c.has_another.ensures
    ∙ any_seen c.args.queue c.first_messages-first.result c.args.looks.now
    ∙ ap (λ n. list_any (λ value. not (value == n)) (map (messages_in c.args.queue) c.args.looks.now)) c.first_messages-first.ensures
