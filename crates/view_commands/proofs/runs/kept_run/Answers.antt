use Rattle.std.proofs.Common.{◌∙◌, ap}
use Rattle.bench_types.specs.declared.header.Header.{Header}
use Rattle.bench_types.specs.Session.{Session}
use Rattle.view_commands.specs.Known.{known_text}
use Rattle.view_commands.proofs.runs.kept_run.Goals as goal

pub returns-clause-ends : goal.returns-clause-ends
returns-clause-ends c =
    let made = c.in_ok-known in
    record {
      limit = made.known.limit;
      known = made.ensures.run;
      is_told = c.in_ok-ends.ensures ∙ ap (λ (header : Header). known_text header made.known.limit)
          (c.header.ensures.header ∙ ap (λ (session : Session). session.header) c.session.ensures);
    }
