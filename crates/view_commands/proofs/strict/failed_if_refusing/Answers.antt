use Rattle.std.proofs.Common.{◌∙◌}
use Rattle.view_commands.specs.Strict.{IsRefusing}
use Rattle.view_commands.proofs.Judged.{found_refusing, strict_failed, strict_kept}
use Rattle.view_commands.proofs.strict.failed_if_refusing.Goals as goal

pub returns-then-has_refusal : goal.returns-then-has_refusal
returns-then-has_refusal c =
    strict_failed (IsRefusing c.args.source.now) c.has_refusal.result c.args.output c.failed.result c.if-has_refusal.true
    (found_refusing c.args.source.now c.args.run.now c.as_slice.result.now c.has_refusal.result c.requires (c.as_slice.ensures.value ∙ c.in_ok-refused.ensures) c.has_refusal.ensures)
    c.failed.ensures

pub returns : goal.returns
returns c =
    strict_kept (IsRefusing c.args.source.now) c.has_refusal.result c.args.output c.if-has_refusal.false
    (found_refusing c.args.source.now c.args.run.now c.as_slice.result.now c.has_refusal.result c.requires (c.as_slice.ensures.value ∙ c.in_ok-refused.ensures) c.has_refusal.ensures)
