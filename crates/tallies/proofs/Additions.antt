-- Tallies of a task with as many numbers, and two parts of a session with as many tasks and cores.
use Rattle.std.proofs.Common.{◌≡◌, ℕ, ◌<◌, List, [], length, get_or, sym, ap, ◌∙◌, arith}
use Rattle.std.proofs.lemmas.List.{length-map, get_or-map}
use Rattle.bench_types.specs.declared.tally.Tally.{Tally}
use Rattle.bench_model.specs.Tally.{TaskTally}
use Rattle.bench_model.specs.Tallied.{no_counts, shape, tally_at}

abbrev pub nothing : TaskTally
nothing = record { run = []; counts = no_counts 0 }

pub same_parts : {run run' : List ℕ} {counts counts' : Tally} → run ≡ run' → counts ≡ counts' →
    let a : TaskTally = record { run = run; counts = counts } in
    let b : TaskTally = record { run = run'; counts = counts' } in
    a ≡ b
same_parts run counts = cc

pub same_length : (a b : List TaskTally) → shape a ≡ shape b → length a ≡ length b
same_length a b same = sym (length-map a (λ (t : TaskTally). length t.run)) ∙ ap (λ (ns : List ℕ). length ns) same ∙ length-map b
    (λ (t : TaskTally). length t.run)

-- for as many cores in both
pub run_lengths : (a b : List TaskTally) (task : ℕ) → shape a ≡ shape b → task < length a → length (tally_at a task).run ≡ length (tally_at b task).run
run_lengths a b task same low =
    sym (get_or-map (λ (t : TaskTally). length t.run) a task nothing 0 low) ∙ ap (λ ns. get_or ns task 0) same
    ∙ get_or-map (λ (t : TaskTally). length t.run) b task nothing 0 (omega (arith, low, same_length a b same))
