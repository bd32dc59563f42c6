use Rattle.std.proofs.Common.{subst}
use Rattle.bench_model.specs.Lists.{View}
use Rattle.smp_kernel.specs.Kernel.{StandsForSome}
use Rattle.shift_laws.specs.Later.{later}
use Rattle.shift_laws.proofs.LaterTables.{shifted_stands}
use Rattle.session_segments.proofs.checkpoint.Checkpoint.running.Goals as goal

pub returns-clause-sound : goal.returns-clause-sound
returns-clause-sound c =
    let by = c.self.inside.later in
    let kernel = c.self.inside.kernel in
    let own = c.running.ensures.sound in
    subst StandsForSome c.self.view_is (later by own.0, shifted_stands by kernel own.0 own.1)
