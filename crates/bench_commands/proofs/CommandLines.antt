-- What clap's definitions compute to on worked command lines.
use Rattle.std.proofs.Common.{refl}
use Rattle.clap.proofs.OnLiterals.{clap_on_literals}
use Rattle.command_words.specs.Answered.{answered_in_words}
use Rattle.bench_commands.specs.CommandLines.{WorkedHelp, WorkedMistakes, WorkedRecordings, WorkedRuns, WorkedTrials}

pub runs : WorkedRuns
unfolding clap_on_literals answered_in_words
runs = record {
  bare = refl;
  span = refl;
  span_with_zeros = refl;
  span_with_plus = refl;
  tally = refl;
  tally_and_span = refl;
  span_and_tally = refl;
  end_of_options = refl;
}

pub trials : WorkedTrials
unfolding clap_on_literals answered_in_words
trials = record { bare = refl; span = refl; span_with_plus = refl; end_of_options = refl }

pub recordings : WorkedRecordings
unfolding clap_on_literals answered_in_words
recordings = record { bare = refl; end_of_options = refl }

pub helps : WorkedHelp
unfolding clap_on_literals answered_in_words
helps = record { of_program = refl; by_letter = refl; of_replay = refl; of_what_if = refl; of_record = refl }

pub mistakes : WorkedMistakes
unfolding clap_on_literals answered_in_words
mistakes = record {
  no_command = refl;
  help_as_command = refl;
  another_word = refl;
  no_value = refl;
  span_of_none = refl;
  span_too_long = refl;
  two_spans =
      refl;
  two_tallies = refl;
  tally_with_value = refl;
  tally_of_what_if = refl;
  span_of_none_of_what_if = refl;
  word_of_what_if = refl;
  span_of_record = refl;
  tally_of_record = refl;
  word_of_record = refl;
  two_commands = refl;
  no_text = refl;
}
