-- Which user tasks are told of.
use Rattle.std.proofs.Common.{◌≡◌, ℕ, Bool, List, ◌++◌, filter, ap, ◌∙◌, append_assoc}
use Rattle.std.specs.Prelude.{codes}
use Rattle.bench_types.specs.declared.header.Header.{Header}
use Rattle.bench_types.specs.Limits.{max_tasks}
use Rattle.list_orders.specs.Search.{numbers}
use Rattle.task_programs.specs.declared.workload.Workload.{Workload}
use Rattle.simulating.specs.Notes.{ended, ends_text, has_ended, is_under_way, line_text, under_way}

pub ended_known : (at_end : List Bool) (n : ℕ) (found : List ℕ) → n ≡ max_tasks → found ≡ filter (has_ended at_end) (numbers n) → found ≡ ended at_end
unfolding ended
ended_known at_end n found all is = is ∙ ap (λ n. filter (has_ended at_end) (numbers n)) all

pub under_way_known : (workload : Workload) (at_end : List Bool) (n : ℕ) (found : List ℕ) → n ≡ max_tasks
    → found ≡ filter (is_under_way workload at_end) (numbers n) → found ≡ under_way workload at_end
unfolding under_way
under_way_known workload at_end n found all is = is ∙ ap (λ n. filter (is_under_way workload at_end) (numbers n)) all

-- the lines about both, one behind the other
pub ends_told : (workload : Workload) (at_end : List Bool) (header : Header) (old first : List ℕ) (ends others : List ℕ) → header ≡ workload.header
    → ends ≡ ended at_end → others ≡ under_way workload at_end → first ≡ old ++ line_text header (codes "at the end of its program: ") ends
    → first ++ line_text header (codes "not at the end of its program: ") others ≡ old ++ ends_text workload at_end
unfolding ends_text
ends_told workload at_end header old first ends others headers are rest is =
    let one = line_text header (codes "at the end of its program: ") ends in
    let two = line_text header (codes "not at the end of its program: ") others in
    ap (λ first. first ++ two) is ∙ append_assoc old one two
    ∙ (λ i. old ++ (line_text (headers i) (codes "at the end of its program: ") (are i) ++ line_text (headers i) (codes "not at the end of its program: ") (rest i)))
