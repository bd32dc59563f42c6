use Rattle.std.proofs.Common.{◌≡◌, ◌∙◌, ◌+◌, ◌-◌, ◌<◌, ap, arith, length, map, sym}
use Rattle.list_orders.specs.Search.{numbers}
use Rattle.run_pictures.specs.RowStretches.{all_row_stretches, all_runners, empty_row, row_of}
use Rattle.run_pictures.proofs.Numbered.{size}
use Rattle.run_pictures.proofs.RowStretches.{no_place, one_place, row_from, with_place}
use Rattle.run_pictures.proofs.row_stretches.all_row_stretches.Goals as goal

pub loop-index-init : goal.loop-index-init
loop-index-init c =
    c.in_ok-rows.ensures
    ∙ ap (λ tasks. map (λ _. empty_row) (numbers (length tasks))) c.as_slice-users.ensures
    ∙ no_place c.args.first c.args.looks.now c.args.header.now.config.cores (length c.args.header.now.tasks)

pub extend_rows-requires-clause-few : goal.extend_rows-requires-clause-few
extend_rows-requires-clause-few c =
    let users = length c.args.header.now.tasks in
    let known = row_from c.args.first c.args.looks.now c.args.header.now.config.cores c.loop-index.index in
    let count : length c.loop-index.rows.items ≡ users = ap length c.loop-index.invariant ∙ size known users in
    omega (arith, count, c.requires.cores, c.requires.tasks)

pub extend_rows-requires-clause-runners : goal.extend_rows-requires-clause-runners
extend_rows-requires-clause-runners c =
    let cores = c.args.header.now.config.cores in
    let users = length c.args.header.now.tasks in
    let known = row_from c.args.first c.args.looks.now cores c.loop-index.index in
    let count : length c.loop-index.rows.items ≡ users = ap length c.loop-index.invariant ∙ size known users in
    c.as_slice.ensures.value ∙ c.in_ok-runners.ensures
    ∙ ap (λ n. all_runners c.index-looks-index.result (cores + n)) (ap length c.as_slice-users.ensures ∙ sym count)

pub loop-index-preserved : goal.loop-index-preserved
loop-index-preserved c =
    let first = c.args.first in
    let looks = c.args.looks.now in
    let cores = c.args.header.now.config.cores in
    let users = length c.args.header.now.tasks in
    let index = c.loop-index.index - 1 in
    let look = c.index-looks-index.result in
    let rows = c.loop-index.rows.items in
    let low : index < length looks = omega (arith, c.loop-index-test.true, c.loop-index.auto.index) in
    let later : c.loop-index.index ≡ index + 1 = omega (arith, c.loop-index-test.true) in
    let known = row_from first looks cores c.loop-index.index in
    let count : length rows ≡ users = ap length c.loop-index.invariant ∙ size known users in
    let were = c.loop-index.invariant ∙ ap (λ n. map (row_from first looks cores n) (numbers users)) later in
    let extends = c.in_ok-extend_rows.ensures ∙ ap (λ n. map (with_place (first + index) look cores rows) (numbers n)) count in
    one_place first looks cores users index look look rows c.extend_rows.new.rows.items low c.index-looks-index.is were extends

pub returns : goal.returns
unfolding all_row_stretches
returns c =
    let first = c.args.first in
    let looks = c.args.looks.now in
    let cores = c.args.header.now.config.cores in
    let users = numbers (length c.args.header.now.tasks) in
    let none : c.loop-index.index ≡ 0 = omega (arith, c.loop-index-test.false) in
    let whole : first + 0 ≡ first = omega arith in
    c.loop-index.invariant
    ∙ ap (λ n. map (row_from first looks cores n) users) none
    ∙ ap (λ n. map (λ user. row_of n looks (cores + user)) users) whole
