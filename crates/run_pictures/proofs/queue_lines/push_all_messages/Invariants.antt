use Rattle.std.proofs.Common.{◌≡◌, ◌++◌, flat_map, take, string_bytes}
use Rattle.run_pictures.specs.QueueLines.{message_bar}
use Rattle.run_pictures.proofs.queue_lines.push_all_messages.Given as goal

abbrev pub invariant-loop-stretch : goal.invariant-loop-stretch
invariant-loop-stretch l = string_bytes l.text ≡ string_bytes l.initial.text ++ flat_map (message_bar l.frame l.y l.queue) (take l.stretch-index l.stretches)
