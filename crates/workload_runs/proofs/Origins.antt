-- Where the next step of a run comes from.
use Rattle.std.proofs.Common.{◌≡◌, ◌<◌, ◌≤◌, Bool, true, false, cond, leb, [], Option, Some, None, refl, sym, ap, inl, inr, arith, ◌∙◌}
use Rattle.std.specs.Prelude.{◌⊎◌}
use Rattle.std.specs.Option.{option_or}
use Rattle.std.proofs.lemmas.Bool.Decides.{nat_tests}
use Rattle.std.proofs.lemmas.Option.{cond_some}
use Rattle.bench_types.specs.declared.step.Step.{Step}
use Rattle.bench_types.specs.declared.step.Step.TheVariants.{Tick}
use Rattle.bench_model.specs.Table.{Table}
use Rattle.settled_runs.specs.declared.waiting_call.WaitingCall.{WaitingCall}
use Rattle.settled_runs.specs.Settled.{is_finish, quiet_step}
use Rattle.settled_runs.proofs.Pieces.{IsPiece, SwitchMade, FinishMade, piece_of}
use Rattle.task_programs.specs.declared.workload.Workload.{Workload}
use Rattle.workload_runs.specs.Rule.{full_tick, interrupt_step, next_step, program_call, tick_end, time_step}
use Rattle.workload_runs.specs.Situations.{Situation}

-- ---- quiet work where nothing waits

abbrev pub IsQuietPiece : Table → Step → Type 0
IsQuietPiece table step = SwitchMade table step ⊎ FinishMade table step

pub quiet_piece : (table : Table) (step : Step) → quiet_step table [] ≡ Some step → IsQuietPiece table step
quiet_piece table step made = at (piece_of Begins (λ waits is. is) table [] step tt made)
  where
    Begins : WaitingCall → Type 0
    Begins waits = is_finish waits.call ≡ false

    at : IsPiece Begins table [] step → IsQuietPiece table step
    at (inl it) = inl it
    at (inr (inl it)) = inr it
    at (inr (inr it)) = absurd (omega (arith, it.fewer))

-- ---- the origin of a step

pub record FromTick (workload : Workload) (now : Situation) (step : Step) : Type 0 where
  pub quiet : quiet_step now.table [] ≡ None
  pub full : tick_end workload now ≤ now.time
  pub is : step ≡ Tick

pub record FromProgram (workload : Workload) (now : Situation) (step : Step) : Type 0 where
  pub quiet : quiet_step now.table [] ≡ None
  pub early : now.time < tick_end workload now
  pub made : program_call workload now ≡ Some step

pub record FromInterrupt (workload : Workload) (now : Situation) (step : Step) : Type 0 where
  pub quiet : quiet_step now.table [] ≡ None
  pub early : now.time < tick_end workload now
  pub calls : program_call workload now ≡ None
  pub made : interrupt_step workload now ≡ Some step

pub record FromTime (workload : Workload) (now : Situation) (step : Step) : Type 0 where
  pub quiet : quiet_step now.table [] ≡ None
  pub early : now.time < tick_end workload now
  pub calls : program_call workload now ≡ None
  pub interrupts : interrupt_step workload now ≡ None
  pub made : time_step workload now ≡ Some step

abbrev pub Origin : Workload → Situation → Step → Type 0
Origin workload now step =
    (quiet_step now.table [] ≡ Some step) ⊎ FromTick workload now step ⊎ FromProgram workload now step ⊎ FromInterrupt workload now step
    ⊎ FromTime workload now step

pub record NoneIsNext (workload : Workload) (now : Situation) : Type 0 where
  pub quiet : quiet_step now.table [] ≡ None
  pub early : now.time < tick_end workload now
  pub calls : program_call workload now ≡ None
  pub interrupts : interrupt_step workload now ≡ None
  pub over : time_step workload now ≡ None

module _ (workload : Workload) (now : Situation) where
  abbrev is_full : Bool
  is_full = leb (tick_end workload now) now.time

  tick_made : (step : Step) → full_tick workload now ≡ Some step → (tick_end workload now ≤ now.time) × (Tick ≡ step)
  tick_made step made = let both = cond_some is_full Tick step made in (let full = both.0 in grind (arith, nat_tests, full), both.1)

  no_tick : full_tick workload now ≡ None → now.time < tick_end workload now
  no_tick none = at is_full refl none
    where
      at : (b : Bool) → is_full ≡ b → cond b (Some Tick) None ≡ None → now.time < tick_end workload now
      at true is none = absurd (cc none)
      at false is none = grind (arith, nat_tests, is)

  pub origin : (step : Step) → next_step workload now ≡ Some step → Origin workload now step
  unfolding next_step
  origin step made =
      at (quiet_step now.table []) refl (full_tick workload now) refl (program_call workload now) refl (interrupt_step workload now) refl made
    where
      at :
          (a : Option Step) → quiet_step now.table [] ≡ a → (b : Option Step) → full_tick workload now ≡ b → (c : Option Step)
          → program_call workload now ≡ c → (d : Option Step) → interrupt_step workload now ≡ d
          → option_or a (option_or b (option_or c (option_or d (time_step workload now)))) ≡ Some step → Origin workload now step
      at (Some it) first b second c third d fourth made = inl (first ∙ made)
      at None first (Some it) second c third d fourth made =
          let tick = tick_made step (second ∙ made) in inr (inl (record { quiet = first; full = tick.0; is = sym tick.1 }))
      at None first None second (Some it) third d fourth made =
          inr (inr (inl (record { quiet = first; early = no_tick second; made = third ∙ made })))
      at None first None second None third (Some it) fourth made =
          inr (inr (inr (inl (record { quiet = first; early = no_tick second; calls = third; made = fourth ∙ made }))))
      at None first None second None third None fourth made =
          inr (inr (inr (inr (record { quiet = first; early = no_tick second; calls = third; interrupts = fourth; made = made }))))

  pub none_next : next_step workload now ≡ None → NoneIsNext workload now
  unfolding next_step
  none_next made =
      at (quiet_step now.table []) refl (full_tick workload now) refl (program_call workload now) refl (interrupt_step workload now) refl made
    where
      at :
          (a : Option Step) → quiet_step now.table [] ≡ a → (b : Option Step) → full_tick workload now ≡ b → (c : Option Step)
          → program_call workload now ≡ c → (d : Option Step) → interrupt_step workload now ≡ d
          → option_or a (option_or b (option_or c (option_or d (time_step workload now)))) ≡ None → NoneIsNext workload now
      at (Some it) first b second c third d fourth made = absurd (cc made)
      at None first (Some it) second c third d fourth made = absurd (cc made)
      at None first None second (Some it) third d fourth made = absurd (cc made)
      at None first None second None third (Some it) fourth made = absurd (cc made)
      at None first None second None third None fourth made =
          record { quiet = first; early = no_tick second; calls = third; interrupts = fourth; over = made }

  -- where there is no quiet work and the units of the tick have gone by it comes next
  pub tick_next : quiet_step now.table [] ≡ None → tick_end workload now ≤ now.time → next_step workload now ≡ Some Tick
  unfolding next_step
  tick_next quiet full =
      let test : is_full ≡ true = grind (arith, nat_tests, full) in
      let rest = option_or (program_call workload now) (option_or (interrupt_step workload now) (time_step workload now)) in
      ap (λ a. option_or a (option_or (full_tick workload now) rest)) quiet ∙ ap (λ b. option_or (cond b (Some Tick) None) rest) test
