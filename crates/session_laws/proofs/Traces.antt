-- The trace of a session has the outcome of each place.
use Rattle.std.proofs.Common.{◌≡◌, ℕ, zero, suc, List, [], ◌∷◌, take, Option, refl}
use Rattle.std.specs.Prelude.{option_map, slice_get}
use Rattle.std.specs.List.{fold}
use Rattle.bench_types.specs.declared.header.Header.{Header}
use Rattle.bench_types.specs.declared.reply.Reply.{Reply}
use Rattle.bench_types.specs.declared.step.Step.{Step}
use Rattle.bench_model.specs.Control.{running}
use Rattle.bench_model.specs.Table.{Table}
use Rattle.bench_model.specs.Start.{start}
use Rattle.bench_model.specs.Session.{step_of, state_at, reply_at, outcome_at, run_results}

abbrev outcome_from : Table → List Step → ℕ → Option (Reply × List ℕ)
outcome_from table steps place = let at = λ (place : ℕ). fold (λ table step. (step_of step table).1) table (take place steps) in
    option_map (λ reply. (reply, running (at (suc place)).control)) (option_map (λ step. (step_of step (at place)).0) (slice_get steps place))

trace_from : (steps : List Step) (table : Table) (place : ℕ) → slice_get (run_results table steps) place ≡ outcome_from table steps place
trace_from [] table place = refl
trace_from (step ∷ steps) table zero = refl
trace_from (step ∷ steps) table (suc place) = trace_from steps (step_of step table).1 place

-- the trace from the start has the outcome of each place
pub trace_at : (header : Header) (steps : List Step) (place : ℕ) → slice_get (run_results (start header) steps) place ≡ outcome_at header steps place
unfolding state_at reply_at
trace_at header steps place = trace_from steps (start header) place
