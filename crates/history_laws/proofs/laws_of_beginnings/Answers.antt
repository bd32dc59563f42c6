use Rattle.history_laws.proofs.Parts.{begins_with_all, begins_through, begins_with_first, beginning_legal}
use Rattle.history_laws.proofs.laws_of_beginnings.Goals as goal

pub returns : goal.returns
returns c = record {
  whole_is_beginning = begins_with_all;
  beginnings_nest = begins_through;
  first_is_beginning = begins_with_first;
  beginning_is_legal =
      beginning_legal;
}
