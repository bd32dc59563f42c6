use Rattle.history_laws.proofs.Parts.{no_growth, one_growth, growth_through, others_stay, growth_begins}
use Rattle.history_laws.proofs.laws_of_growth.Goals as goal

pub returns : goal.returns
returns c = record {
  none_is_growth = no_growth;
  one_is_growth = one_growth;
  growth_goes_on = growth_through;
  growth_leaves_others = others_stay;
  growth_keeps_beginning = growth_begins;
}
