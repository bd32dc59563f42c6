use Rattle.std.proofs.Common.{◌≡◌, ℕ, ◌<◌, ◌-◌, ◌^◌, true, length, ap, subst, sym, ◌∙◌, arith}
use Rattle.std.proofs.lemmas.List.{get_or_default}
use Rattle.task_jobs.specs.declared.crowd.Crowd.{Crowd}
use Rattle.task_jobs.specs.declared.work.Work.{Work}
use Rattle.task_jobs.specs.Works.{first_work, with_turn}
use Rattle.run_numbers.specs.AfterStep.{is_it}
use Rattle.run_numbers.specs.Progress.{crowd_in, nothing_known, work_in}
use Rattle.run_numbers.specs.Taking.{takers_in, IsTimeKept}
use Rattle.run_numbers.proofs.Turning.{joined_crowd, joined_time, left_crowd, left_time, room_to_join, takers_moved, takes_one, times_on}
use Rattle.run_numbers.proofs.taking.work_on.Goals as goal

pub leave-requires : goal.leave-requires
leave-requires c k low takes =
    let works = c.args.works.now in
    let task = c.args.task in
    let same = get_or_default works task _ (first_work nothing_known) c.requires.task in
    let own : is_it (work_in works task).takes k ≡ true = sym (ap (λ (work : Work). is_it work.takes k) same) ∙ takes in
    omega (arith, c.requires.takers k low, takes_one works task k c.requires.task own)

pub join-requires : goal.join-requires
join-requires c k low takes =
    let works = c.args.works.now in
    let crowds = c.args.crowds.now in
    let task = c.args.task in
    let now = c.args.made.now.elapsed in
    let within : k < length crowds = omega (arith, low, c.leave.auto.crowds) in
    let left : crowd_in c.leave.new.crowds k ≡ left_crowd (is_it (work_in works task).takes k) now (crowd_in crowds k) =
    c.leave.ensures k within
    ∙ ap (λ (work : Work). left_crowd (is_it work.takes k) now (crowd_in crowds k)) (get_or_default works task _ (first_work nothing_known) c.requires.task) in
    subst (λ (crowd : Crowd). crowd.tasks < 2 ^ 32 - 1) (sym left)
    (room_to_join works task k now (crowd_in crowds k) c.requires.task c.requires.few (c.requires.takers k within)
    (with_turn c.turn_of-turn.result (first_work nothing_known)) takes)

pub returns-clause-takers : goal.returns-clause-takers
returns-clause-takers c k low =
    let works = c.args.works.now in
    let crowds = c.args.crowds.now in
    let task = c.args.task in
    let now = c.args.made.now.elapsed in
    let turn = c.turn_of-turn.result in
    let there : k < length c.leave.new.crowds = omega (arith, low, c.join.auto.crowds) in
    let within : k < length crowds = omega (arith, there, c.leave.auto.crowds) in
    let left : crowd_in c.leave.new.crowds k ≡ left_crowd (is_it (work_in works task).takes k) now (crowd_in crowds k) =
    c.leave.ensures k within
    ∙ ap (λ (work : Work). left_crowd (is_it work.takes k) now (crowd_in crowds k)) (get_or_default works task _ (first_work nothing_known) c.requires.task) in
    let joined : crowd_in c.join.new.crowds k ≡ joined_crowd (is_it turn.takes k) now (left_crowd (is_it (work_in works task).takes k) now (crowd_in crowds k)) =
    c.join.ensures k there ∙ ap (λ (crowd : Crowd). joined_crowd (is_it turn.takes k) now crowd) left in
    let takes : c.take_turn.new.self.takes ≡ turn.takes = ap (λ (work : Work). work.takes) c.take_turn.ensures in
    ap (λ (crowd : Crowd). crowd.tasks) joined
    ∙ ap (λ it. (joined_crowd (is_it it k) now (left_crowd (is_it (work_in works task).takes k) now (crowd_in crowds k))).tasks) (sym takes)
    ∙ takers_moved works task c.take_turn.new.self k now (crowd_in crowds k) c.requires.task (c.requires.takers k within)

pub returns-clause-times : goal.returns-clause-times
returns-clause-times c k within =
    let works = c.args.works.now in
    let crowds = c.args.crowds.now in
    let task = c.args.task in
    let now = c.args.made.now.elapsed in
    let turn = c.turn_of-turn.result in
    let there : k < length c.leave.new.crowds = omega (arith, within, c.leave.auto.crowds) in
    let left : crowd_in c.leave.new.crowds k ≡ left_crowd (is_it (work_in works task).takes k) now (crowd_in crowds k) =
    c.leave.ensures k within
    ∙ ap (λ (work : Work). left_crowd (is_it work.takes k) now (crowd_in crowds k)) (get_or_default works task _ (first_work nothing_known) c.requires.task) in
    let first : IsTimeKept now (crowd_in crowds k) (crowd_in c.leave.new.crowds k) =
    subst (IsTimeKept now (crowd_in crowds k)) (sym left) (left_time (is_it (work_in works task).takes k) now (crowd_in crowds k)) in
    let next : IsTimeKept now (crowd_in c.leave.new.crowds k) (crowd_in c.join.new.crowds k) =
    subst (IsTimeKept now (crowd_in c.leave.new.crowds k)) (sym (c.join.ensures k there)) (joined_time (is_it turn.takes k) now (crowd_in c.leave.new.crowds k)) in
    times_on first next
