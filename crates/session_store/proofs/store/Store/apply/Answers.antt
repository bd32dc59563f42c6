use Rattle.std.proofs.Common.{rules, ◌≡◌, ◌∙◌, Ok, ap, length, sym}
use Rattle.bench_types.specs.Edit.{IsEditOfWords}
use Rattle.bench_model.specs.Edits.{accepted}
use Rattle.bench_model.specs.Meeting.{CheckpointedSession}
use Rattle.segment_laws.specs.Segments.{all_steps}
use Rattle.session_store.specs.Kept.{session_of}
use Rattle.session_store.proofs.EditShown.{kept_next}
use Rattle.session_store.proofs.store.Store.apply.Goals as goal

pub invariant_of-self-2 : goal.invariant_of-self-2
invariant_of-self-2 g c =
    let words : IsEditOfWords c.args.edit = search rules in
    let count : length (all_steps c.self.inside.segments) ≡ c.len.result = ap (λ (kept : CheckpointedSession). length kept.session.steps) c.self.view_is ∙ sym
    c.len.ensures.steps in
    let accepts : accepted (session_of c.self.inside.header c.self.inside.segments) c.args.edit ≡ Ok tt = sym
    (c.check_edit.ensures.value (all_steps c.self.inside.segments) count) ∙ c.in_ok-check_edit.was in
    let remade = c.in_ok-outcome.ensures.replay in
    kept_next c.self.inside.header c.self.inside.span c.self.inside.segments c.args.edit c.self.invariant words accepts remade.made remade.before remade.after
    remade.by remade.replay c.in_ok-next.next c.replay_edit.new.segments
    (c.in_ok-next.ensures (all_steps c.self.inside.segments)) remade.whole
