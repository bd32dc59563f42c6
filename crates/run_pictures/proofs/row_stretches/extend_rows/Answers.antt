use Rattle.std.proofs.Common.{◌≡◌, ◌∙◌, ◌+◌, ◌<◌, None, ap, arith, length, get_or}
use Rattle.std.proofs.lemmas.List.{get_or_read}
use Rattle.run_pictures.specs.RowStretches.{empty_row, extended_row}
use Rattle.run_pictures.proofs.Numbered.{set_all, set_more}
use Rattle.run_pictures.proofs.RowStretches.{runner_at, runners_count, with_place}
use Rattle.run_pictures.proofs.row_stretches.extend_rows.Goals as goal

pub bounds-runners-task : goal.bounds-runners-task
bounds-runners-task c =
    let tasks = c.args.cores + length c.args.rows.now.items in
    let few : length c.args.runners.now ≡ tasks = ap length c.requires.runners ∙ runners_count c.args.look.now tasks in
    omega (arith, few, c.loop-user.invariant.size, c.len-user-end.ensures, c.loop-user-test.true)

pub extend-requires : goal.extend-requires
extend-requires c =
    let tasks = c.args.cores + length c.args.rows.now.items in
    let task = c.args.cores + c.loop-user.user in
    let low : task < tasks = omega (arith, c.len-user-end.ensures, c.loop-user-test.true) in
    ap (λ all. get_or all task None) c.requires.runners ∙ runner_at c.args.look.now tasks task low

pub loop-user-preserved : goal.loop-user-preserved
loop-user-preserved c =
    let old = c.args.rows.now.items in
    let now = c.loop-user.rows.items in
    let user = c.loop-user.user in
    let row = c.index_mut.result.now in
    let more = extended_row c.args.place c.args.look.now (c.args.cores + user) in
    let f = with_place c.args.place c.args.look.now c.args.cores old in
    let low : user < length now = omega (arith, c.loop-user.invariant.size, c.len-user-end.ensures, c.loop-user-test.true) in
    let here = get_or_read now user row low c.index_mut.ensures.value empty_row in
    let read = here ∙ c.loop-user.invariant.others user (omega arith) in
    let made : c.extend.new.self ≡ f user = c.in_ok-extend.ensures ∙ ap more read in
    set_more f empty_row old now user c.extend.new.self c.loop-user.invariant low made

pub returns : goal.returns
returns c =
    let old = c.args.rows.now.items in
    let f = with_place c.args.place c.args.look.now c.args.cores old in
    set_all f empty_row old c.loop-user.rows.items c.loop-user.user c.loop-user.invariant (omega (arith, c.len-user-end.ensures, c.loop-user-test.false))
