use Rattle.std.proofs.Common.{◌≡◌, ◌<◌, ◌∙◌, [], ap, arith, length, map}
use Rattle.std.proofs.lemmas.List.{get_or_read}
use Rattle.list_orders.specs.Search.{numbers}
use Rattle.workload_runs.specs.Courses.{first_course}
use Rattle.simulating.proofs.Ends.{end_of, ends_more}
use Rattle.simulating.proofs.progress.ends_at.Goals as goal

pub loop-user-preserved : goal.loop-user-preserved
loop-user-preserved c =
    let courses = c.args.courses.now in
    let user = c.loop-user.user in
    let low : user < length courses = c.loop-user-test.true in
    let here = get_or_read courses user c.index-courses-user.result low c.index-courses-user.is (first_course 0 []) in
    c.in_ok-push.ensures.items ∙ ends_more c.args.programs.now courses user _ _ _ c.loop-user.invariant here c.end_of.ensures

pub returns : goal.returns
returns c =
    let many : c.loop-user.user ≡ length c.args.courses.now = omega (arith, c.loop-user.auto.user-end, c.loop-user-test.false) in
    c.loop-user.invariant ∙ ap (λ many. map (end_of c.args.programs.now c.args.courses.now) (numbers many)) many
