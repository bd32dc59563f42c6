use Rattle.std.proofs.Common.{ℕ, true, ap, ◌∙◌, arith}
use Rattle.bench_types.specs.declared.kernel_data.TaskControl.{TaskControl}
use Rattle.bench_types.proofs.Masks.{all_bits}
use Rattle.slow_replay.proofs.slow.idle_control.Goals as goal

abbrev idle_with : ℕ → TaskControl
idle_with mask = record { base = 0; in_use = 0; mask = mask; preempt = true }

pub returns : goal.returns
returns c = ap idle_with (c.cores_of_mask.ensures ∙ all_bits c.args.cores (omega (arith, c.requires)))
