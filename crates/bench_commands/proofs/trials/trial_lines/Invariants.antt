use Rattle.std.proofs.Common.{◌≡◌, ◌++◌, drop, string_bytes}
use Rattle.bench_commands.specs.Answer.{trials_text}
use Rattle.bench_commands.proofs.trials.trial_lines.Given as goal

-- the lines so far, and those of the edits that are left, are the lines of all
abbrev pub invariant-loop-index : goal.invariant-loop-index
invariant-loop-index g l = string_bytes l.text ++ trials_text l.store l.index (drop l.index l.edits) ≡ trials_text l.store 0 l.edits
