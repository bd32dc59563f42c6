-- What clap is told of the program, and that its options are as they are asked for.
use Rattle.std.proofs.Common.{◌^◌, ◌-◌, List, codes, refl}
use Rattle.clap.specs.Words.{Row}
use Rattle.command_words.specs.Asking.{is_flag}
use Rattle.command_words.specs.Taken.{IsProgram}
use Rattle.command_words.specs.Taken.{AreTaken as ValuesTaken}
use Rattle.command_words.proofs.NumberTexts.{number_taken}
use Rattle.command_words.proofs.ValuesTaken.{all_taken, one_taken}
use Rattle.view_commands.specs.CommandLine.{view_app}
use Rattle.task_programs.specs.Limits.{max_ticks}
use Rattle.view_commands.specs.Options.{AreTaken, is_number, is_ticks}

pub is_program : IsProgram view_app
is_program = record {
  is_simple = refl;
  wants_command = refl;
  is_helpless = (refl, (refl, (refl, (refl, (refl, (refl, (refl, (refl, (refl, (refl, (refl, tt)))))))))));
  are_alike = (refl, (refl, (refl, (refl, (refl, (refl, (refl, (refl, (refl, (refl, (refl, (refl, (refl, (refl, (refl, (refl, (refl, (refl, (refl, (refl, (refl, (refl, (refl, (refl, (refl, (refl, (refl, (refl, (refl, (refl, (refl, (refl, (refl, (refl, (refl, (refl, (refl, (refl, (refl, (refl, (refl, (refl, (refl, (refl, (refl, (refl, (refl, (refl, (refl, (refl, (refl, (refl, (refl, (refl, (refl, (refl, (refl, (refl, (refl, (refl, (refl, (refl, (refl, (refl, (refl, (refl, (refl, (refl, (refl, (refl, (refl, (refl, (refl, tt)))))))))))))))))))))))))))))))))))))))))))))))))))))))))))))))))))))))));
}

pub taken : (rows : List Row) → ValuesTaken view_app rows → AreTaken rows
taken rows given = record {
  settle = one_taken view_app (codes "settle") is_flag (λ text value. value) rows given;
  keep_work = one_taken view_app (codes "keep-work") is_flag (λ text value. value) rows given;
  strict = one_taken view_app (codes "strict") is_flag (λ text value. value) rows given;
  json = one_taken view_app (codes "json") is_flag (λ text value. value) rows given;
  from = one_taken view_app (codes "from") is_number (number_taken 0 (2 ^ 32 - 1)) rows given;
  to = one_taken view_app (codes "to") is_number (number_taken 0 (2 ^ 32 - 1)) rows given;
  best = one_taken view_app (codes "best") is_number (number_taken 0 (2 ^ 32 - 1)) rows given;
  ticks = one_taken view_app (codes "ticks") is_ticks (number_taken 0 max_ticks) rows given;
  cores = all_taken view_app (codes "core") is_number (number_taken 0 (2 ^ 32 - 1)) rows given;
}
