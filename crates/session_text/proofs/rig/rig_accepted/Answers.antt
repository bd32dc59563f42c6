use Rattle.std.proofs.Common.{length, ap, subst, sym, ◌∙◌}
use Rattle.session_text.specs.Rig.{AreCheckedScripts}
use Rattle.session_text.proofs.rig.rig_accepted.Goals as goal

pub returns-in_ok-scripts_accepted-in-Ok-clause-checked : goal.returns-in_ok-scripts_accepted-in-Ok-clause-checked
returns-in_ok-scripts_accepted-in-Ok-clause-checked c = record {
  header = c.requires.valid c.in-Ok.header c.in-Ok.is;
  timeless = c.in_ok-units_accepted-in-Ok.ensures.timeless;
  few = c.in_ok-limit_accepted-in-Ok.ensures.few;
  one_per_core = ap length c.new.ensures ∙ c.requires.one_per_core c.in-Ok.header c.in-Ok.is;
  core_actions = subst (AreCheckedScripts c.in-Ok.header) (c.as_slice.ensures.value ∙ sym c.new.ensures) c.in_ok-scripts_accepted-in-Ok.ensures.checked;
}
