use Rattle.std.proofs.Common.{rules, ◌≡◌, ◌∙◌, ◌++◌, List, ℕ, Ok, Err, string_bytes, ap, subst}
use Rattle.std.proofs.lemmas.Result.{on_ok_weaker}
use Rattle.session_store.specs.declared.fault.StoreFault.TheVariants as fault
use Rattle.session_store.specs.Trials.{IsTried}
use Rattle.bench_commands.proofs.TrialLines.{refused_line, tried_lines}
use Rattle.bench_commands.proofs.trials.push_trial.Goals as goal

pub returns-in-Ok : goal.returns-in-Ok
returns-in-Ok c kept edit same tried =
    let is : c.args.tried.now ≡ Ok (c.in-Ok.outcome, c.in-Ok.tallies) = search rules in
    let lines = tried_lines kept c.args.header.now edit c.args.index c.in-Ok.outcome c.in-Ok.tallies same (subst (IsTried kept edit) is tried) in
    on_ok_weaker c.push_accepted.result (λ pushed. pushed ∙ ap (λ (more : List ℕ). string_bytes c.args.text.now ++ more) lines) c.push_accepted.ensures

pub returns-in-Err-Edit : goal.returns-in-Err-Edit
returns-in-Err-Edit c kept edit same tried =
    let is : c.args.tried.now ≡ Err (fault.Edit c.in-Err-Edit.why) = search rules in
    let line = refused_line kept edit c.args.index c.in-Err-Edit.why (subst (IsTried kept edit) is tried) in
    on_ok_weaker c.push_edit_line.result (λ pushed. pushed ∙ ap (λ (more : List ℕ). string_bytes c.args.text.now ++ more) line) c.push_edit_line.ensures
