-- What is left of a document.
use Rattle.std.specs.Prelude.{ℕ, List, Option}
use Rattle.view_commands.specs.declared.source.Device.{Device}
use Rattle.view_commands.specs.declared.source.Device.TheVariants.{Standard, Named}

-- what reads will give from here on, where that is known: of standard input, or of the file that is
-- read in its place
abbrev pub remaining_of :
    {S F : Type 0} → (S → Option (List ℕ)) → (F → Option (List ℕ)) → Device S F → Option (List ℕ)
remaining_of standard file (Standard input) = standard input
remaining_of standard file (Named opened) = file opened
