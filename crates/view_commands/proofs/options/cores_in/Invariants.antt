use Rattle.std.proofs.Common.{◌≡◌, ◌++◌, true, map}
use Rattle.std.specs.List.{list_all}
use Rattle.clap.specs.Words.{values_left}
use Rattle.command_words.specs.Asking.{number_of}
use Rattle.view_commands.specs.Options.{is_number}
use Rattle.view_commands.proofs.options.cores_in.Given as goal

-- the numbers so far, with those that are left, are those of all values
abbrev pub invariant-loop-number : goal.invariant-loop-number
invariant-loop-number l = record {
  numbers : l.cores.items ++ map number_of (values_left l.number-iterator) ≡ map number_of (values_left l.initial.number-iterator);
  taken : list_all is_number (values_left l.number-iterator) ≡ true;
}
