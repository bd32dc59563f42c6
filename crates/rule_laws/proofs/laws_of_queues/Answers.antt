use Rattle.std.proofs.Common.{arith}
use Rattle.rule_laws.proofs.Queues.{called_seen, called_sound, finished_seen, finished_sound, interrupted_seen, interrupted_sound}
use Rattle.rule_laws.proofs.laws_of_queues.Goals as goal

pub returns-clause-call_simulates : goal.returns-clause-call_simulates
returns-clause-call_simulates c = called_seen

pub returns-clause-call_keeps_consistent : goal.returns-clause-call_keeps_consistent
returns-clause-call_keeps_consistent c = λ table core task direction queue ticks sound place user. called_sound table core task direction queue ticks sound place
    (omega (arith, sound.sized.cores, user))

pub returns-clause-finish_simulates : goal.returns-clause-finish_simulates
returns-clause-finish_simulates c = finished_seen

pub returns-clause-finish_keeps_consistent : goal.returns-clause-finish_keeps_consistent
returns-clause-finish_keeps_consistent c = λ table core task direction queue sound place user. finished_sound table core task direction queue sound place
    (omega (arith, sound.sized.cores, user))

pub returns-clause-interrupt_simulates : goal.returns-clause-interrupt_simulates
returns-clause-interrupt_simulates c = interrupted_seen

pub returns-clause-interrupt_keeps_consistent : goal.returns-clause-interrupt_keeps_consistent
returns-clause-interrupt_keeps_consistent c = interrupted_sound
