-- Settings along segments, and what an edit leaves of the segment with its place.
use Rattle.std.proofs.Common.{◌≡◌, List, [], ◌∷◌, sym, ap, subst, ◌∙◌}
use Rattle.std.specs.Prelude.{All}
use Rattle.std.proofs.lemmas.List.Elements.{All-nil, All-cons}
use Rattle.bench_types.specs.declared.kernel_data.Settings.{Settings}
use Rattle.bench_types.specs.Step.{IsCheckedStep}
use Rattle.bench_model.specs.Equal.{StandsFor}
use Rattle.bench_model.specs.Lists.{View}
use Rattle.bench_model.specs.Session.{state_after}
use Rattle.bench_model.specs.Table.{Table}
use Rattle.step_laws.proofs.Along.{settings_along}
use Rattle.segment_laws.specs.Segments.{SegmentView, all_steps, Follow}
use Rattle.segment_laws.proofs.Following.{All_front, All_back}
use Rattle.session_segments.specs.Replaying.{HasSettings}

-- what stands for a table has its settings
pub stood_settings : (view : View) (table : Table) → StandsFor view table → view.settings ≡ table.settings
stood_settings view table stands = ap (λ (seen : View). seen.settings) (sym stands.shows)

-- the kernels of segments of checked steps have the settings that the first table has
pub follow_settings : (settings : Settings) (table : Table) (segments : List SegmentView) → table.settings ≡ settings → All (IsCheckedStep settings)
    (all_steps segments) → Follow table segments → All (HasSettings settings) segments
follow_settings settings table [] same checked follow = All-nil (HasSettings settings)
follow_settings settings table (segment ∷ segments) same checked follow =
    let front = All_front (IsCheckedStep settings) segment.steps (all_steps segments) checked in
    let own = subst (λ one. All (IsCheckedStep one) segment.steps) (sym same) front in
    let later = settings_along segment.steps table follow.0.sound own ∙ same in
    All-cons (HasSettings settings) segment segments (stood_settings segment.kernel table follow.0 ∙ same)
    (follow_settings settings (state_after table segment.steps) segments later (All_back (IsCheckedStep settings) segment.steps (all_steps segments) checked)
    follow.1)
