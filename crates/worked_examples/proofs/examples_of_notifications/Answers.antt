use Rattle.worked_examples.proofs.NoteExamples.{notes, waits, takes, clears, notifies, called, indexed}
use Rattle.worked_examples.proofs.examples_of_notifications.Goals as goal

pub returns-clause-worked_notes : goal.returns-clause-worked_notes
returns-clause-worked_notes c = notes

pub returns-clause-worked_waits : goal.returns-clause-worked_waits
returns-clause-worked_waits c = waits

pub returns-clause-worked_takes : goal.returns-clause-worked_takes
returns-clause-worked_takes c = takes

pub returns-clause-worked_clears : goal.returns-clause-worked_clears
returns-clause-worked_clears c = clears

pub returns-clause-worked_notifies : goal.returns-clause-worked_notifies
returns-clause-worked_notifies c = notifies

pub returns-clause-worked_calls : goal.returns-clause-worked_calls
returns-clause-worked_calls c = called

pub returns-clause-worked_indexes : goal.returns-clause-worked_indexes
returns-clause-worked_indexes c = indexed
