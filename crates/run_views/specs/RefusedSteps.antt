-- Steps that the kernel refuses.
use Rattle.std.specs.Prelude.{◌≡◌, ℕ, List, take, Option, Some, Bool, true, false, option_map, slice_get}
use Rattle.bench_types.specs.declared.header.Header.{Header}
use Rattle.bench_types.specs.declared.reply.Refusal.{Refusal}
use Rattle.bench_types.specs.declared.reply.Reply.{Reply}
use Rattle.bench_types.specs.declared.reply.Reply.TheVariants.{Refused}
use Rattle.bench_types.specs.declared.step.Step.{Step}
use Rattle.bench_model.specs.Session.{reply_at, state_after, step_of}
use Rattle.bench_model.specs.Table.{Table}

-- the reply says that the step is refused
abbrev pub is_refusal : Reply → Bool
is_refusal (Refused why) = true
is_refusal reply = false

-- the kernel refuses some step of the run
abbrev pub HasRefusedStep : Header → List Step → Type 0
HasRefusedStep header steps =
    (place : ℕ) × (why : Refusal) × (reply_at header steps place ≡ Some (Refused why))

-- the reply of the step at a place, where the steps begin at a table
abbrev pub reply_from : Table → List Step → ℕ → Option Reply
reply_from table steps place =
    option_map (λ step. (step_of step (state_after table (take place steps))).0)
    (slice_get steps place)

-- some step from the table on is refused
abbrev pub IsRefusedFrom : Table → List Step → Type 0
IsRefusedFrom table steps =
    (place : ℕ) × (why : Refusal) × (reply_from table steps place ≡ Some (Refused why))
