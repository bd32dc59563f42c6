use Rattle.std.proofs.Common.{◌≡◌, Some, Vec, ap, sym, ◌∙◌}
use Rattle.std.specs.declared.alloc.Global.{Global}
use Rattle.bench_types.specs.Flaw.{location_of_no_name}
use Rattle.bench_types.specs.declared.header.TaskArgs.{TaskArgs}
use Rattle.bench_types.proofs.Passes.{names_decide, numbers_decide}
use Rattle.bench_types.specs.declared.header.Header.{Header}
use Rattle.session_text.specs.Header.{verdict}
use Rattle.session_text.proofs.Accepting.{of_refused}
use Rattle.session_text.proofs.header.accepted.Goals as goal

pub returns-in-Some-clause-value : goal.returns-in-Some-clause-value
returns-in-Some-clause-value c =
    let header : Header = record { config = c.args.config; queues = c.args.queues; tasks = c.args.shapes.now } in
    sym (ap (verdict header) (numbers_decide header c.in-Some.flaw (sym c.flaw.ensures ∙ c.in-Some.is)))

pub returns-in-Err-clause-value : goal.returns-in-Err-clause-value
returns-in-Err-clause-value c =
    let header : Header = record { config = c.args.config; queues = c.args.queues; tasks = c.args.shapes.now } in
    let location = of_refused (λ (tasks : Vec TaskArgs Global). tasks.items ≡ c.args.shapes.now)
    (λ location. location_of_no_name c.args.shapes.now ≡ Some location) c.in_ok-tasks-in-None.field-0 c.in-Err.location c.in-Err.is
    c.in_ok-tasks-in-None.ensures in
    sym (ap (verdict header) (names_decide header c.in-Err.location (sym c.flaw.ensures ∙ c.in-None.is) location))
