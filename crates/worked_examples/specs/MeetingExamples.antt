-- Worked edits of sessions with checkpoints: where the replay of each begins and ends, and where
-- the checkpoints lie after it.
use Rattle.std.specs.Prelude.{◌≡◌, ℕ, List, [], ◌∷◌, fold, replicate}
use Rattle.bench_types.specs.declared.edit.Edit.{Edit}
use Rattle.bench_types.specs.declared.edit.Edit.TheVariants.{Insert, Remove, Replace, ChangeTask}
use Rattle.bench_types.specs.declared.header.Header.{Header}
use Rattle.bench_types.specs.declared.step.Step.{Step}
use Rattle.bench_types.specs.declared.step.Step.TheVariants.{Tick, Switch, Call}
use Rattle.bench_types.specs.declared.step.Call.TheVariants.{DelayUntil, Yield, StateClear}
use Rattle.bench_model.specs.Edits.{args_of}
use Rattle.bench_model.specs.Meeting.{CheckpointedSession, first_kept, replayed_from, met, replayed, kept_after}
use Rattle.worked_examples.specs.Examples.{three_tasks, timed, slept}

abbrev pub opened : ℕ → Header → List Step → CheckpointedSession
opened span header steps = first_kept span (record { header = header; steps = steps })

-- where the replay of an edit begins, where it ends, and how many steps it has
abbrev pub outcome_of : CheckpointedSession → Edit → ℕ × ℕ × ℕ
outcome_of kept edit = (replayed_from kept edit, met kept edit, replayed kept edit)

-- those of edits in their order, each of the session after those before it
abbrev pub outcomes_of : CheckpointedSession → List Edit → List (ℕ × ℕ × ℕ)
outcomes_of kept [] = []
outcomes_of kept (edit ∷ edits) = outcome_of kept edit ∷ outcomes_of (kept_after edit kept) edits

-- the checkpoints after edits
abbrev pub checkpoints_after : CheckpointedSession → List Edit → List ℕ
checkpoints_after kept edits = (fold (λ kept edit. kept_after edit kept) kept edits).checkpoints

-- ticks, and then task 2 delays until tick count 7, on its core or on another, where it is refused
abbrev pub until_seven : ℕ → CheckpointedSession
until_seven core =
    opened 2 three_tasks
    (Tick ∷ Tick ∷ Tick ∷ Tick ∷ Tick ∷ Call core 2 (DelayUntil 4 3) ∷ [])

-- task 2 yields and is chosen again, and then the tick count grows
abbrev pub yields : CheckpointedSession
yields = opened 2 three_tasks (Call 0 2 Yield ∷ Switch 0 ∷ replicate 4 Tick)

abbrev pub ticks : ℕ → ℕ → CheckpointedSession
ticks span n = opened span three_tasks (replicate n Tick)

-- a switch of a core that is not due is refused, and leaves the state as it was
abbrev pub refused_switch : CheckpointedSession
refused_switch = opened 1 three_tasks (Tick ∷ Switch 0 ∷ Tick ∷ [])

abbrev pub no_steps : CheckpointedSession
no_steps = opened 64 (timed three_tasks) []

-- Where checkpoints lie at the opening.
pub record WorkedOpenings : Type 0 where
  pub multiples : (ticks 2 6).checkpoints ≡ 0 ∷ 2 ∷ 4 ∷ []
  pub none_at_the_end : (ticks 2 4).checkpoints ≡ 0 ∷ 2 ∷ []
  pub no_steps : (ticks 2 0).checkpoints ≡ 0 ∷ []
  pub short : (ticks 64 6).checkpoints ≡ 0 ∷ []

pub record WorkedMeetings : Type 0 where
  -- a changed call whose effect lasts is replayed to the end
  pub lasts :
      outcome_of (opened 64 (timed three_tasks) (slept (Switch 0) (Switch 1)))
      (Replace 0 (Call 0 2 Yield)) ≡ (0, 8, 8)
  -- one whose effect is over meets at the next checkpoint, and each tick more lasts
  pub soon_over :
      outcomes_of yields
      (Replace 0 (Call 0 2 (StateClear 2 0)) ∷ Insert 6 Tick ∷ Insert 7 Tick ∷ Insert 8 Tick ∷ [])
      ≡ (0, 2, 2) ∷ (4, 7, 3) ∷ (4, 8, 4) ∷ (6, 9, 3) ∷ []
  -- a tick less moves what follows in time, and so a second one does
  pub removed_ticks : outcomes_of yields (Remove 2 ∷ Remove 2 ∷ []) ≡ (2, 3, 1) ∷ (2, 2, 0) ∷ []
  pub removed_in_front : outcome_of (ticks 2 6) (Remove 0) ≡ (0, 1, 1)
  pub put_in_front : outcome_of (ticks 2 6) (Insert 0 Tick) ≡ (0, 3, 3)
  -- but not where a later call reads the tick count, also one that is refused
  pub read_later : outcome_of (until_seven 0) (Remove 0) ≡ (0, 5, 5)
  pub refused_later : outcome_of (until_seven 1) (Remove 0) ≡ (0, 5, 5)
  -- a call behind the place where the replay may end is not in its way
  pub read_before : outcome_of (until_seven 0) (Replace 5 Tick) ≡ (4, 6, 2)
  -- the checkpoint after the removed step falls on the place of the edit, and is compared there
  pub meets_at_the_edit : outcome_of refused_switch (Remove 1) ≡ (1, 1, 0)
  pub meets_at_once : outcome_of (ticks 2 6) (Replace 2 Tick) ≡ (2, 4, 2)
  -- a changed task is compared at the start too
  pub changed_task : outcome_of no_steps (ChangeTask 3 3 3) ≡ (0, 0, 0)
  pub equal_arguments : outcome_of no_steps (ChangeTask 3 1 3) ≡ (0, 0, 0)
  pub equal_arguments_with_steps : outcome_of yields (ChangeTask 3 1 3) ≡ (0, 0, 0)
  pub bits_of_no_core : outcome_of yields (ChangeTask 3 1 7) ≡ (0, 0, 0)
  pub bits_stay :
      (args_of (kept_after (ChangeTask 3 1 7) yields).session.header 3).mask ≡ 7
  pub other_priority : outcome_of yields (ChangeTask 4 0 3) ≡ (0, 6, 6)

-- Where checkpoints lie after edits.
pub record WorkedCheckpoints : Type 0 where
  pub not_yet : checkpoints_after yields (Insert 6 Tick ∷ []) ≡ 0 ∷ 2 ∷ 4 ∷ []
  pub one_is_added :
      checkpoints_after yields (Insert 6 Tick ∷ Insert 7 Tick ∷ []) ≡ 0 ∷ 2 ∷ 4 ∷ 6 ∷ []
  pub no_more :
      checkpoints_after yields (Insert 6 Tick ∷ Insert 7 Tick ∷ Insert 8 Tick ∷ [])
      ≡ 0 ∷ 2 ∷ 4 ∷ 6 ∷ []
  pub moved : checkpoints_after yields (Insert 1 Tick ∷ []) ≡ 0 ∷ 3 ∷ 5 ∷ []
  pub moved_back : checkpoints_after yields (Remove 2 ∷ []) ≡ 0 ∷ 2 ∷ 3 ∷ []
  pub moved_in_front : checkpoints_after (ticks 2 6) (Remove 0 ∷ []) ≡ 0 ∷ 1 ∷ 3 ∷ []
  pub two_become_one : checkpoints_after yields (Remove 2 ∷ Remove 2 ∷ []) ≡ 0 ∷ 2 ∷ []
  -- a checkpoint at the last place stays, and an insertion there is replayed from it
  pub at_the_end : checkpoints_after (ticks 2 3) (Remove 2 ∷ []) ≡ 0 ∷ 2 ∷ []
  pub from_the_end :
      outcomes_of (ticks 2 3) (Remove 2 ∷ Insert 2 Tick ∷ []) ≡ (2, 2, 0) ∷ (2, 3, 1) ∷ []
  pub span_of_one : checkpoints_after (ticks 1 2) (Insert 2 Tick ∷ []) ≡ 0 ∷ 1 ∷ 2 ∷ []
  pub all_removed : checkpoints_after (ticks 1 2) (Remove 0 ∷ Remove 0 ∷ []) ≡ 0 ∷ []
  pub changed_task : checkpoints_after yields (ChangeTask 4 0 3 ∷ []) ≡ 0 ∷ 2 ∷ 4 ∷ []
