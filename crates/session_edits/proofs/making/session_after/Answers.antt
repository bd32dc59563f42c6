use Rattle.std.proofs.Common.{◌≡◌, ◌<◌, ◌≤◌, length, ap, sym, subst, arith}
use Rattle.bench_types.specs.Limits.{max_steps}
use Rattle.bench_types.specs.Session.{IsSession, Session}
use Rattle.bench_model.specs.Edits.{edited}
use Rattle.session_edits.proofs.Accepting.{edited_checked}
use Rattle.session_edits.proofs.Moving.{edited_whole}
use Rattle.session_edits.proofs.making.session_after.Goals as goal

pub new-requires : goal.new-requires
new-requires c =
    let whole = edited_whole c.args.session c.args.edit.now _ _ _ _ c.into_parts-header.ensures.header c.into_parts-header.ensures.steps
    (c.edited_header.ensures c.into_parts-header.result.1.items) (c.in_ok-edit_steps.ensures c.into_parts-header.result.0) in
    subst IsSession (sym whole)
    (edited_checked c.args.session c.args.edit.now c.into_parts-header.ensures.checked c.requires.words c.requires.accepted).checked

pub unreachable-requires : goal.unreachable-requires
unreachable-requires c =
    let whole = edited_whole c.args.session c.args.edit.now _ _ _ _ c.into_parts-header.ensures.header c.into_parts-header.ensures.steps
    (c.edited_header.ensures c.into_parts-header.result.1.items) (c.in_ok-edit_steps.ensures c.into_parts-header.result.0) in
    let few : length (edited c.args.edit.now c.args.session).steps ≤ max_steps =
    (edited_checked c.args.session c.args.edit.now c.into_parts-header.ensures.checked c.requires.words c.requires.accepted).few in
    let many : length c.edit_steps.new.steps.items ≡ length (edited c.args.edit.now c.args.session).steps = ap (λ (one : Session). length one.steps) whole in
    let long : max_steps < length c.edit_steps.new.steps.items = c.in_default.ensures.long in
    omega (arith, few, many, long)
