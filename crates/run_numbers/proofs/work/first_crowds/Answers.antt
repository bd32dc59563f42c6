use Rattle.std.proofs.Common.{◌≡◌, ◌++◌, ◌∷◌, [], List, ap, ap₂, sym, ◌∙◌, arith}
use Rattle.std.proofs.lemmas.List.FromFn.{map-range_with_len_more}
use Rattle.task_jobs.specs.declared.crowd.Crowd.{Crowd}
use Rattle.task_jobs.specs.Crowds.{first_crowd}
use Rattle.run_numbers.specs.Taking.{takers_in}
use Rattle.run_numbers.proofs.work.first_crowds.Goals as goal

pub loop-mutex-preserved : goal.loop-mutex-preserved
loop-mutex-preserved c =
    let works = c.args.works.now in
    let mutex = c.loop-mutex.mutex in
    let one : c.start.result ≡ first_crowd (takers_in works mutex) = c.start.ensures ∙ ap first_crowd c.takers.ensures in
    c.in_ok-push.ensures.items ∙ ap₂ (λ (crowds : List Crowd) (crowd : Crowd). crowds ++ crowd ∷ []) c.loop-mutex.invariant one
    ∙ sym (map-range_with_len_more (λ mutex. first_crowd (takers_in works mutex)) 0 mutex mutex (omega arith))
