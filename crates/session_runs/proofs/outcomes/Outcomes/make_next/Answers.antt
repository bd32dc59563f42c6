use Rattle.std.proofs.Common.{◌≡◌, refl, sym, ap, ◌∙◌, arith}
use Rattle.bench_types.specs.declared.kernel_data.Settings.{Settings}
use Rattle.bench_model.specs.Control.{current}
use Rattle.bench_model.specs.Session.{state_after}
use Rattle.bench_model.specs.Start.{start}
use Rattle.bench_model.specs.Tallied.{shape_of}
use Rattle.session_runs.proofs.Goes.{goes, made_room, some_core}
use Rattle.session_runs.proofs.Rows.{own_core}
use Rattle.session_runs.proofs.outcomes.Outcomes.make_next.Goals as goal

pub make_next-reply-requires-clause-shape : goal.make_next-reply-requires-clause-shape
make_next-reply-requires-clause-shape c = let way = c.requires.way in way.made.sizes ∙ ap shape_of (sym way.made.settings)

pub make_next-reply-requires-clause-room : goal.make_next-reply-requires-clause-room
make_next-reply-requires-clause-room c =
    let way = c.requires.way in made_room way.header way.steps c.args.kernel.now c.args.self.now way.made way.room

pub make_next-reply-requires-clause-tops : goal.make_next-reply-requires-clause-tops
make_next-reply-requires-clause-tops c = c.requires.way.made.tops

pub running-current-requires : goal.running-current-requires
running-current-requires c =
    let way = c.requires.way in
    let some = some_core way.header way.steps c.args.kernel.now c.args.self.now way.made in
    let low = own_core c.args.kernel.now.settings c.args.step.now some c.requires.checked in
    omega (arith, c.core.ensures, low, ap (λ (s : Settings). s.cores) c.make_next-reply.ensures.shape)

pub returns-clause-made : goal.returns-clause-made
returns-clause-made c header steps made =
    let before = state_after (start header) steps in
    goes header steps c.args.kernel.now c.args.self.now made c.args.step.now c.make_next-reply.new.kernel c.make_next-reply.result c.running-current.result _
    (c.make_next-reply.ensures.reply before made.stands) (c.make_next-reply.ensures.state before made.stands) c.make_next-reply.ensures.counted
    (c.running-current.ensures.seen ∙ ap (current c.make_next-reply.new.kernel.control) c.core.ensures) c.push_reserved.ensures.items c.make_next-reply.ensures.shape refl
    c.make_next-reply.ensures.tops
