use Rattle.std.proofs.Common.{◌≡◌, ◌∙◌, [], get_or, option_map, subst, Ok}
use Rattle.std.specs.Prelude.{All}
use Rattle.std.proofs.lemmas.List.{get_or_default}
use Rattle.bench_types.specs.Step.{settings_of}
use Rattle.bench_types.specs.CoreAction.{IsCheckedCoreAction}
use Rattle.json_data.specs.View.{view}
use Rattle.session_text.specs.Path.{path_of}
use Rattle.session_text.specs.Rig.{script_accepted}
use Rattle.session_text.proofs.Scripts.{each_more, script_passed}
use Rattle.session_text.proofs.rig.scripts_accepted.Goals as goal

pub loop-core-preserved : goal.loop-core-preserved
loop-core-preserved c =
    let header = c.args.header.now in
    let at = path_of c.args.source.now.location.now in
    let array = option_map view c.args.source.now.value in
    let scripts = c.args.scripts.now in
    let core = c.loop-core.core in
    let script : c.as_slice.result.now ≡ get_or scripts core [] = c.as_slice.ensures ∙ c.index-scripts-core.is ∙ get_or_default scripts core _ []
    c.loop-core-test.true in
    let passed = subst (λ core_actions. script_accepted header at array core core_actions ≡ Ok tt) script c.in_ok-script_accepted.ensures.reading in
    record {
      reading = script_passed header at array scripts core c.loop-core-test.true passed ∙ c.loop-core.invariant.reading;
      checked = each_more (λ core script. All (IsCheckedCoreAction (settings_of header) core) script) scripts [] core c.loop-core.invariant.checked
          (subst (All (IsCheckedCoreAction (settings_of header) core)) script c.in_ok-script_accepted.ensures.checked);
    }
