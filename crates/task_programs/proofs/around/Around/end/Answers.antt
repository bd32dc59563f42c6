use Rattle.std.proofs.Common.{◌≤◌, subst}
use Rattle.task_programs.proofs.Blocks.{room_left}
use Rattle.task_programs.specs.Limits.{max_nesting}
use Rattle.task_programs.proofs.around.Around.end.Goals as goal

pub returns-clause-room : goal.returns-clause-room
returns-clause-room c = room_left c.self.inside.blocks.items c.pop.new.self.items max_nesting c.pop.result c.pop.ensures.len
    (subst (λ n. n ≤ max_nesting) c.len-length.ensures.value c.len-length.ensures.fits)
