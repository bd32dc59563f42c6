use Rattle.history_laws.proofs.KeptOut.{held_kept_out, start_free}
use Rattle.history_laws.proofs.OwnHolds.{others_depth}
use Rattle.history_laws.proofs.laws_of_keeping_out.Goals as goal

pub returns : goal.returns
returns c = record { held_is_kept_out = held_kept_out; start_holds_nothing = start_free; others_keep_depth = others_depth }
