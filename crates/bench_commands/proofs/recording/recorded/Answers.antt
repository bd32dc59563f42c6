use Rattle.std.proofs.Common.{◌∙◌, ap, subst, sym}
use Rattle.bench_types.specs.Session.{IsSession}
use Rattle.core_scripts.specs.Played.{ArePlayed}
use Rattle.session_write.specs.Written.{written}
use Rattle.bench_commands.proofs.Recordings.{is_recorded}
use Rattle.bench_commands.proofs.recording.recorded.Goals as goal

pub write_session-requires : goal.write_session-requires
write_session-requires g c =
    let recorded = c.in_ok-recorded in
    subst (λ steps. IsSession (record { header = recorded.recorded.header; steps = steps })) (sym (c.as_slice.ensures.value ∙ c.in_ok-steps.ensures))
    recorded.ensures.session

pub returns : goal.returns
returns g c =
    let recorded = c.in_ok-recorded in
    let header = recorded.recorded.header in
    is_recorded c.args.rig.now header recorded.recorded.entries c.in_ok-steps.steps.items c.in_ok-text.text.items c.push.new.self.items recorded.ensures.header
    recorded.ensures.legal
    recorded.ensures.current recorded.ensures.few recorded.ensures.unheld
    (subst (λ scripts. ArePlayed header c.args.rig.now.limit recorded.recorded.entries scripts) c.as_slice-scripts.ensures recorded.ensures.played)
    c.in_ok-steps.ensures
    (c.in_ok-text.ensures.text ∙ ap (written header) c.as_slice.ensures.value) c.in_ok-push.ensures.items
