use Rattle.std.proofs.Common.{◌<◌, length, string_bytes, arith}
use Rattle.ranked_changes.specs.declared.judge.Verdict.TheVariants.{Number}
use Rattle.ranked_changes.specs.declared.rank.Ranked.{Ranked}
use Rattle.ranked_changes.specs.declared.rank.Size.TheVariants.{Priority}
use Rattle.session_advice.specs.Basis.{basis_of}
use Rattle.session_advice.proofs.Texts.{entry_more}
use Rattle.session_advice.proofs.entries.push_entries.Goals as goal

pub loop-place-preserved : goal.loop-place-preserved
loop-place-preserved c =
    let none : Ranked = record { verdict = Number 0; size = Priority 0; index = 0 } in
    let within : c.loop-place.place < length c.args.best.now = omega arith in
    entry_more (basis_of c.args.base.now) c.args.changes.now c.args.best.now c.loop-place.place none (string_bytes c.args.text.now)
    (string_bytes c.loop-place.text) (string_bytes c.push_entry.new.text) within c.loop-place.invariant c.in_ok-push_entry.ensures
