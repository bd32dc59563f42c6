use Rattle.std.proofs.Common.{◌≡◌, List, ap, subst, ◌∙◌}
use Rattle.std.specs.Prelude.{option_map, slice_get}
use Rattle.bench_model.specs.Session.{reply_at}
use Rattle.session_runs.specs.declared.outcomes.Outcome.{Outcome}
use Rattle.session_runs.specs.Made.{reply_in}
use Rattle.session_runs.specs.Run.{RunView}
use Rattle.session_runs.proofs.Rows.{kept_reply}
use Rattle.session_runs.proofs.run.Run.reply.Goals as goal

pub returns : goal.returns
returns c =
    let inside = c.self.inside in
    subst (λ (v : RunView). c.reply_in.result ≡ reply_at v.session.header v.session.steps c.args.place) c.self.view_is
    (c.reply_in.ensures ∙ ap (option_map reply_in) (c.outcome_at.ensures ∙ ap (λ (xs : List Outcome). slice_get xs c.args.place) c.as_slice.ensures.value)
    ∙ kept_reply inside.session inside.outcomes c.self.invariant.0 c.self.invariant.2 c.args.place)
