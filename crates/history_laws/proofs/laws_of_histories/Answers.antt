use Rattle.history_laws.proofs.Legal.{legal_empty, one_more_legal, end_empty, end-push, cores_there}
use Rattle.history_laws.proofs.Recorded.{legal_sound}
use Rattle.history_laws.proofs.laws_of_histories.Goals as goal

pub returns : goal.returns
returns c = record {
  empty_is_legal = legal_empty;
  one_more_is_legal = one_more_legal;
  empty_ends_at_start = end_empty;
  one_more_ends_after = end-push;
  cores_are_there = cores_there;
  legal_is_sound = legal_sound;
}
