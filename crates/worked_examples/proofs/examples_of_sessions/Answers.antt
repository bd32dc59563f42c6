use Rattle.worked_examples.proofs.Examples.{sessions, timed_sessions, endless_waits}
use Rattle.worked_examples.proofs.examples_of_sessions.Goals as goal

pub returns-clause-worked_sessions : goal.returns-clause-worked_sessions
returns-clause-worked_sessions c = sessions

pub returns-clause-timed_sessions : goal.returns-clause-timed_sessions
returns-clause-timed_sessions c = timed_sessions

pub returns-clause-endless_waits : goal.returns-clause-endless_waits
returns-clause-endless_waits c = endless_waits
