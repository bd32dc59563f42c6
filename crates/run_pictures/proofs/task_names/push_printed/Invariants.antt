use Rattle.std.proofs.Common.{◌≡◌, ◌++◌, flat_map, take, string_bytes}
use Rattle.run_pictures.specs.TaskNames.{terms_part}
use Rattle.run_pictures.proofs.task_names.push_printed.Given as goal

abbrev pub invariant-loop-stretch : goal.invariant-loop-stretch
invariant-loop-stretch l = string_bytes l.text ≡ string_bytes l.initial.text ++ flat_map (terms_part l.header.config.cores) (take l.stretch-index l.stretches)
