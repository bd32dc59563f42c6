use Rattle.run_pictures.proofs.Replayed.{session_tiled}
use Rattle.run_pictures.proofs.picture.timeline.Goals as goal

pub returns-then-count-gt-MAX_PLACES-clause-tiled : goal.returns-then-count-gt-MAX_PLACES-clause-tiled
returns-then-count-gt-MAX_PLACES-clause-tiled c = session_tiled c.args.extent.places c.args.run.now.session.now c.count_of-count.ensures.checked

pub returns-in_err-text-clause-tiled : goal.returns-in_err-text-clause-tiled
returns-in_err-text-clause-tiled c = session_tiled c.args.extent.places c.args.run.now.session.now c.count_of-count.ensures.checked

pub returns-clause-tiled : goal.returns-clause-tiled
returns-clause-tiled c = session_tiled c.args.extent.places c.args.run.now.session.now c.count_of-count.ensures.checked
