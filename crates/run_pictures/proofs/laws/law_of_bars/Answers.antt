use Rattle.run_pictures.proofs.BarTexts.{bars_are_drawn}
use Rattle.run_pictures.proofs.Placed.{run_laid_out, runs_laid_out}
use Rattle.run_pictures.proofs.laws.law_of_bars.Goals as goal

pub returns : goal.returns
returns c = record {
  drawn = bars_are_drawn;
  one = run_laid_out;
  both = runs_laid_out;
}
