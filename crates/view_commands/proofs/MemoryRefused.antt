-- Memory that is refused before anything is read.
use Rattle.std.proofs.Common.{[], Some, None, inr, refl}
use Rattle.program_io.specs.declared.ending.Ending.TheVariants.{Failed}
use Rattle.program_io.specs.declared.ending.RunFault.TheVariants.{Memory}
use Rattle.program_io.specs.Endings.{Bytes}
use Rattle.program_io.proofs.Ended.{nothing_printed}
use Rattle.view_commands.specs.CommandLine.{Asked, a_view, help, version, lacks, a_mistake}
use Rattle.view_commands.specs.Commands.{IsView}
use Rattle.view_commands.specs.ViewProgram.{EndsAsked, Files}

-- whatever was asked for
pub refused_first : (asked : Asked) (files : Files) (read write : Bytes) → EndsAsked asked files (Failed Memory) read read write write
refused_first (a_view job (Some name)) files read write = inr (tt, (refl, refl))
refused_first (a_view job None) files read write = nothing_printed (IsView job) read write
refused_first help files read write = ([], (refl, refl))
refused_first version files read write = (refl, refl)
refused_first (lacks text) files read write = (refl, refl)
refused_first a_mistake files read write = (refl, refl)
