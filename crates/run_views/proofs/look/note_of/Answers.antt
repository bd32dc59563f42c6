use Rattle.bench_model.specs.Looks.{note_look}
use Rattle.run_views.proofs.Shown.{note_shown}
use Rattle.run_views.proofs.look.note_of.Goals as goal

pub returns : goal.returns
returns c table stands = note_shown c.note_look-value.result (note_look table c.args.task c.args.index) (c.note_look-value.ensures table stands)
