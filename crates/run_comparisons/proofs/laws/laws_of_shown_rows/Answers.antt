use Rattle.run_comparisons.proofs.ShownRows.{all_shown_are_whole, all_shown_is_compared, shown_and_left_out_are_all, shown_have_places}
use Rattle.run_comparisons.proofs.laws.laws_of_shown_rows.Goals as goal

pub returns : goal.returns
returns c = record {
  places = shown_have_places;
  counted = shown_and_left_out_are_all;
  whole = all_shown_are_whole;
  compared = all_shown_is_compared;
}
