use Rattle.meeting_laws.proofs.Meetings.{before_is_untouched, first_end_is_met, meeting_lasts, met_is_first}
use Rattle.meeting_laws.proofs.Moves.{steps_before_stay, steps_after_move}
use Rattle.meeting_laws.proofs.laws_of_meetings.Goals as goal

pub returns-clause-steps_before_stay : goal.returns-clause-steps_before_stay
returns-clause-steps_before_stay c = steps_before_stay

pub returns-clause-steps_after_move : goal.returns-clause-steps_after_move
returns-clause-steps_after_move c = steps_after_move

pub returns-clause-before_is_untouched : goal.returns-clause-before_is_untouched
returns-clause-before_is_untouched c = before_is_untouched

pub returns-clause-meeting_lasts : goal.returns-clause-meeting_lasts
returns-clause-meeting_lasts c = meeting_lasts

pub returns-clause-met_is_first_end : goal.returns-clause-met_is_first_end
returns-clause-met_is_first_end c = met_is_first

pub returns-clause-first_end_is_met : goal.returns-clause-first_end_is_met
returns-clause-first_end_is_met c = first_end_is_met
