use Rattle.std.proofs.Common.{sym, ◌∙◌}
use Rattle.bench_types.specs.Name.{is_name}
use Rattle.session_text.proofs.Accepting.{args_of}
use Rattle.session_text.proofs.header.TaskShape.to_args.Goals as goal

pub returns-in-Ok : goal.returns-in-Ok
returns-in-Ok c =
    let shape = c.self.inside in
    rw (← c.self.view_is) (args_of (is_name shape.name.now) shape.name.now c.in-Ok.name shape.priority shape.mask (sym c.new.ensures ∙ c.in-Ok.is))
