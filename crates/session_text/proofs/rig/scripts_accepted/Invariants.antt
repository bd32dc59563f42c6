use Rattle.std.proofs.Common.{◌≡◌, ◌<◌, ℕ, [], drop, get_or, option_map}
use Rattle.std.specs.Prelude.{All}
use Rattle.bench_types.specs.Step.{settings_of}
use Rattle.bench_types.specs.CoreAction.{IsCheckedCoreAction}
use Rattle.json_data.specs.View.{view}
use Rattle.session_text.specs.Path.{path_of}
use Rattle.session_text.specs.Rig.{scripts_accepted}
use Rattle.session_text.proofs.rig.scripts_accepted.Given as goal

-- no script so far is at fault, so that only those from here on are left to look at
abbrev pub invariant-loop-core : goal.invariant-loop-core
invariant-loop-core l =
    let at = path_of l.source.location.now in
    let array = option_map view l.source.value in
    record {
      reading : scripts_accepted l.header at array l.core (drop l.core l.scripts) ≡ scripts_accepted l.header at array 0 l.scripts;
      checked : (core : ℕ) → core < l.core → All (IsCheckedCoreAction (settings_of l.header) core) (get_or l.scripts core []);
    }
