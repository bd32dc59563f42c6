-- For how many tasks and cores tallies of this shape have numbers.
use Rattle.std.proofs.Common.{◌≡◌, ℕ, ◌<◌, List, length, get_or, sym, ap, ◌∙◌, arith}
use Rattle.std.proofs.lemmas.List.{length-map, get_or-map, length-replicate, get_or-replicate}
use Rattle.bench_types.specs.declared.kernel_data.Settings.{Settings}
use Rattle.bench_model.specs.Tally.{TaskTally}
use Rattle.bench_model.specs.Tallied.{shape, shape_of, tally_at}
use Rattle.tallies.proofs.Additions.{nothing}

pub shape_length : (tallies : List TaskTally) (settings : Settings) → shape tallies ≡ shape_of settings → length tallies ≡ settings.tasks
shape_length tallies settings same =
    sym (length-map tallies (λ (t : TaskTally). length t.run)) ∙ ap (λ (ns : List ℕ). length ns) same ∙ length-replicate settings.tasks settings.cores

-- the numbers of cores are those of the settings
pub shape_runs : (tallies : List TaskTally) (settings : Settings) (task : ℕ) → shape tallies ≡ shape_of settings → task < length tallies → length
    (tally_at tallies task).run ≡ settings.cores
shape_runs tallies settings task same low =
    sym (get_or-map (λ (t : TaskTally). length t.run) tallies task nothing 0 low) ∙ ap (λ ns. get_or ns task 0) same
    ∙ get_or-replicate settings.tasks task settings.cores 0 (omega (arith, low, shape_length tallies settings same))
