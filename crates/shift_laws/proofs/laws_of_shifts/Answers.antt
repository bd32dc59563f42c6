use Rattle.shift_laws.proofs.LaterTables.{later_shifted, later_sound, shifted_stands, stands_shifted}
use Rattle.shift_laws.proofs.laws_of_shifts.Goals as goal

pub returns-clause-later_is_shifted : goal.returns-clause-later_is_shifted
returns-clause-later_is_shifted c = later_shifted

pub returns-clause-later_is_sound : goal.returns-clause-later_is_sound
returns-clause-later_is_sound c = later_sound

pub returns-clause-shifted_stands_for_later : goal.returns-clause-shifted_stands_for_later
returns-clause-shifted_stands_for_later c = shifted_stands

pub returns-clause-shifted_stands_for_shifted : goal.returns-clause-shifted_stands_for_shifted
returns-clause-shifted_stands_for_shifted c = stands_shifted
