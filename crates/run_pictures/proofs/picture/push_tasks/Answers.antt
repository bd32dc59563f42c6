use Rattle.std.proofs.Common.{◌≡◌, ◌∙◌, ◌+◌, ◌*◌, ◌<◌, ap, arith, get_or, length, string_bytes}
use Rattle.std.proofs.lemmas.List.{get_or_read}
use Rattle.run_pictures.specs.declared.frame.TheConstants.{TASK_ROW}
use Rattle.run_pictures.specs.RowStretches.{empty_row}
use Rattle.run_pictures.specs.TaskBands.{task_row}
use Rattle.run_pictures.proofs.RowStretches.{row_at, rows_count}
use Rattle.run_pictures.proofs.Rows.{row_more}
use Rattle.run_pictures.proofs.picture.push_tasks.Goals as goal

pub loop-user-preserved : goal.loop-user-preserved
loop-user-preserved c = row_more (λ user. task_row c.args.header.now c.args.frame.now (c.args.y + TASK_ROW * user) c.args.looks.now c.in_ok-detail.detail
    (c.args.header.now.config.cores + user)) c.loop-user.user (string_bytes c.args.text.now) (string_bytes c.loop-user.text)
    (string_bytes c.push_task_row.new.text) c.loop-user.invariant c.in_ok-push_task_row.ensures

pub index-requires : goal.index-requires
index-requires c =
    let header = c.args.header.now in
    let first = c.args.frame.now.first in
    let all = rows_count header first c.args.looks.now in
    let count : length c.in_ok-rows.rows.items ≡ length header.tasks = ap length c.in_ok-rows.ensures ∙ all in
    omega (arith, count, ap length c.as_slice.ensures, c.loop-user-test.true)

pub push_task_row-requires-clause-row : goal.push_task_row-requires-clause-row
push_task_row-requires-clause-row c =
    let header = c.args.header.now in
    let first = c.args.frame.now.first in
    let user = c.loop-user.user in
    let all = rows_count header first c.args.looks.now in
    let count : length c.in_ok-rows.rows.items ≡ length header.tasks = ap length c.in_ok-rows.ensures ∙ all in
    let known : user < length header.tasks = omega (arith, ap length c.as_slice.ensures, c.loop-user-test.true) in
    let low : user < length c.in_ok-rows.rows.items = omega (arith, count, known) in
    get_or_read c.in_ok-rows.rows.items user c.index.result.now low c.index.ensures empty_row
    ∙ ap (λ rows. get_or rows user empty_row) c.in_ok-rows.ensures
    ∙ row_at header first c.args.looks.now user known
