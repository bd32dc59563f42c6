use Rattle.std.proofs.Common.{rules, ◌≡◌, ◌∙◌, subst}
use Rattle.bench_model.specs.Holds.{depth_by}
use Rattle.bench_model.specs.History.{end_of}
use Rattle.bench_model.specs.Sound.{IsSound}
use Rattle.history_laws.specs.SoundHistories.{IsSoundHistory}
use Rattle.history_laws.proofs.Recorded.{legal_sound}
use Rattle.recordings.specs.RecordingView.{RecordingView}
use Rattle.recordings.proofs.Keeping.{none_held}
use Rattle.recordings.proofs.recording.Recording.depth_by.Goals as goal

pub returns-in-Some-clause-none : goal.returns-in-Some-clause-none
returns-in-Some-clause-none c none =
    let depth : depth_by c.args.core (end_of c.args.self.now.header c.args.self.now.entries).hold ≡ c.in-Some.depth = search rules in
    let sound = subst (λ v. IsSound (end_of v.header v.entries)) c.self.view_is c.self.invariant.stands.sound in
    none_held c.args.core _ sound (depth ∙ none)

pub returns-in-Some-clause-sound : goal.returns-in-Some-clause-sound
returns-in-Some-clause-sound c =
    subst (λ (v : RecordingView). IsSoundHistory v.header v.entries) c.self.view_is (legal_sound _ _ c.self.invariant.passes c.self.invariant.legal)

pub returns-in_default-clause-sound : goal.returns-in_default-clause-sound
returns-in_default-clause-sound c =
    subst (λ (v : RecordingView). IsSoundHistory v.header v.entries) c.self.view_is (legal_sound _ _ c.self.invariant.passes c.self.invariant.legal)

pub returns-in_default-2-clause-sound : goal.returns-in_default-2-clause-sound
returns-in_default-2-clause-sound c =
    subst (λ (v : RecordingView). IsSoundHistory v.header v.entries) c.self.view_is (legal_sound _ _ c.self.invariant.passes c.self.invariant.legal)
