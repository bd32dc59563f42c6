use Rattle.std.proofs.Common.{◌≡◌}
use Rattle.session_edits.specs.Origins.{all_kept}
use Rattle.session_edits.proofs.origins.all_kept.Given as goal

abbrev pub invariant-loop-place : goal.invariant-loop-place
invariant-loop-place l = l.origins.items ≡ all_kept l.place
