use Rattle.history_laws.proofs.Room.{fits_room, close_done}
use Rattle.history_laws.proofs.laws_of_room.Goals as goal

pub returns : goal.returns
returns c = record { step_fits_room = fits_room; close_is_done = close_done }
