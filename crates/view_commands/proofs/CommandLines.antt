-- What clap's definitions compute to on worked command lines.
use Rattle.std.proofs.Common.{refl}
use Rattle.std.specs.Path.{rsplit_once}
use Rattle.clap.proofs.OnLiterals.{clap_on_literals}
use Rattle.command_words.specs.Answered.{answered_in_words}
use Rattle.view_commands.specs.CommandLines.{WorkedAdvice, WorkedChecks, WorkedHelp, WorkedKeptRuns, WorkedMistakes, WorkedSimulations, WorkedTraces, WorkedVersions, WorkedViews}

pub traces : WorkedTraces
unfolding clap_on_literals answered_in_words
traces = record {
  bare = refl;
  from = refl;
  between = refl;
  hyphen_before_zero = refl;
  tasks_and_cores = refl;
  file = refl;
  file_before_options = refl;
  file_behind_options = refl;
  standard_input = refl;
  end_of_options = refl;
  settled = refl;
}

pub views : WorkedViews
unfolding clap_on_literals answered_in_words
views = record {
  session = refl;
  session_of_file = refl;
  settle = refl;
  compare = refl;
  compare_settled = refl;
  strict_session = refl;
  strict_settle = refl;
  strict_comparison = refl;
  picture = refl;
  picture_between = refl;
  picture_settled = refl;
  picture_by_ticks = refl;
  picture_by_time = refl;
  page = refl;
  page_settled = refl;
  page_by_ticks = refl;
  report = refl;
  report_as_json = refl;
}

pub kept_runs : WorkedKeptRuns
unfolding clap_on_literals answered_in_words
kept_runs = record {
  compare = refl;
  settle = refl;
  trace = refl;
  report = refl;
  both_ways = refl;
  ties_alone = refl;
  settled_ties = refl;
  unknown_order = refl;
  session = refl;
  simulate = refl;
}

pub simulations : WorkedSimulations
unfolding clap_on_literals answered_in_words
simulations = record { as_said = refl; ticks = refl; too_many_ticks = refl }

pub checks : WorkedChecks
unfolding clap_on_literals answered_in_words rsplit_once
checks = record { one_limit = refl; greatest_first = refl; last_sign = refl; no_limit = refl; no_number = refl; no_sign = refl }

pub advice : WorkedAdvice
unfolding clap_on_literals answered_in_words
advice = record { usual = refl; settled_best = refl; pinned = refl; no_task = refl; no_number = refl; no_family = refl }

pub helps : WorkedHelp
unfolding clap_on_literals answered_in_words
helps = record {
  of_program = refl;
  by_letter = refl;
  of_trace = refl;
  of_session = refl;
  of_settle = refl;
  of_compare = refl;
  of_timeline = refl;
  of_page =
      refl;
}

pub versions : WorkedVersions
unfolding clap_on_literals answered_in_words
versions = record { of_program = refl; by_letter = refl; before_a_command = refl }

pub mistakes : WorkedMistakes
unfolding clap_on_literals answered_in_words
mistakes = record {
  no_command = refl;
  help_as_command = refl;
  version_of_a_command = refl;
  unknown_command = refl;
  option_before_command = refl;
  unknown_option
      = refl;
  no_value = refl;
  option_as_value = refl;
  negative_place = refl;
  place_too_great = refl;
  core_no_number = refl;
  two_first_places = refl;
  two_settles
      = refl;
  two_stricts = refl;
  strict_with_value = refl;
  settle_with_value = refl;
  two_files = refl;
  session_from_place = refl;
  settled_settle = refl;
  compared_task = refl;
  page_of_task = refl;
  unknown_axis = refl;
  unknown_axis_of_page = refl;
  picture_of_core = refl;
  no_text = refl;
}
