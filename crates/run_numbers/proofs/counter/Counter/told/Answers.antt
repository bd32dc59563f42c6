use Rattle.run_numbers.proofs.counter.Counter.told.Goals as goal

pub with_stretch-requires-clause-room : goal.with_stretch-requires-clause-room
with_stretch-requires-clause-room c = c.requires.opened c.in-Some.since c.in-Some.is
