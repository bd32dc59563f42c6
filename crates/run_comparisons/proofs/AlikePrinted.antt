-- Equal steps of two runs that led to the same are told in the same words.
use Rattle.std.proofs.Common.{◌≡◌, ℕ, Bool, List, [], ◌∷◌, ◌++◌, Option, Some, refl, sym, ap, ap₂, ◌∙◌}
use Rattle.std.specs.Prelude.{◌==◌, codes, if◌then◌else◌}
use Rattle.bench_types.specs.declared.header.Header.{Header}
use Rattle.bench_types.specs.declared.note.Note.{Note}
use Rattle.bench_types.specs.declared.reply.Refusal.{Refusal}
use Rattle.bench_types.specs.declared.reply.Refusal.TheVariants.{Displaced, InCall, NotInCall, HoldBlock}
use Rattle.bench_types.specs.declared.reply.Reply.{Reply}
use Rattle.bench_types.specs.declared.reply.Reply.TheVariants.{Done, Blocked, Flag, Value, Waited, Until, Isr, Refused}
use Rattle.bench_types.specs.declared.step.Call.{Call}
use Rattle.bench_types.specs.declared.step.Call.TheVariants as calls
use Rattle.bench_types.specs.declared.step.Step.{Step}
use Rattle.bench_types.specs.declared.step.Step.TheVariants as steps
use Rattle.bench_types.specs.Step.{core_of}
use Rattle.run_views.specs.ReplyWords.{caller_of, finish_meaning, flag_meaning, flag_text, predicate, refusal_meaning, reply_words, step_flag_meaning, subject_of}
use Rattle.run_views.specs.ReplyWords.{subject_text}
use Rattle.run_views.specs.StepWords.{action_text, call_members, call_word, core_text, clear_text, index_text, note_text, number_text, step_text, task_text}
use Rattle.bench_types.specs.Codes.{refusal_code}
use Rattle.run_comparisons.specs.declared.made.MadeStep.{MadeStep}
use Rattle.run_comparisons.specs.Made.{printed_made, AreMadeAlike, AreNamedAlike}
use Rattle.run_comparisons.specs.Printed.{Words, outcome_text, printed_of, printed_reply, tasks_part}

module _ (header other : Header) (alike : AreNamedAlike header other) where
  same_task : (member : List ℕ) (task : ℕ) → task_text header member task ≡ task_text other member task
  same_task member task = ap (λ (name : List ℕ). codes " " ++ member ++ codes " " ++ name) (alike.names task)

  same_index : (index : ℕ) → index_text header index ≡ index_text other index
  same_index index = ap (λ (n : ℕ). if n == 1 then [] else number_text (codes "index") index) alike.notes

  same_note : (note : Note) → note_text header note ≡ note_text other note
  same_note note =
      ap₂ (λ (task index : List ℕ). task ++ action_text note.action ++ index) (same_task (codes "to") note.task) (same_index note.index)

  same_members : (call : Call) → call_members header call ≡ call_members other call
  same_members (calls.PrioritySet task priority) = ap (λ (text : List ℕ). text ++ number_text (codes "priority") priority) (same_task (codes "to") task)
  same_members (calls.AffinitySet task mask) = ap (λ (text : List ℕ). text ++ number_text (codes "mask") mask) (same_task (codes "to") task)
  same_members (calls.PreemptOff task) = same_task (codes "to") task
  same_members (calls.PreemptOn task) = same_task (codes "to") task
  same_members (calls.Notify note) = same_note note
  same_members (calls.NotifyWait entry exit ticks index) =
      ap (λ (text : List ℕ). number_text (codes "entry") entry ++ number_text (codes "exit") exit ++ number_text (codes "ticks") ticks ++ text) (same_index index)
  same_members (calls.NotifyTake clear ticks index) =
      ap (λ (text : List ℕ). clear_text clear ++ number_text (codes "ticks") ticks ++ text) (same_index index)
  same_members (calls.Suspend task) = same_task (codes "to") task
  same_members (calls.Resume task) = same_task (codes "to") task
  same_members (calls.StateClear task index) = ap₂ (λ (text more : List ℕ). text ++ more) (same_task (codes "to") task) (same_index index)
  same_members (calls.ValueClear task bits index) =
      ap₂ (λ (text more : List ℕ). text ++ number_text (codes "bits") bits ++ more) (same_task (codes "to") task) (same_index index)
  same_members call = refl

  same_step : (step : Step) → step_text header step ≡ step_text other step
  unfolding step_text
  same_step steps.Tick = refl
  same_step (steps.Switch core) = refl
  same_step (steps.Call core task call) =
      ap₂ (λ (by members : List ℕ). call_word call ++ core_text core ++ by ++ members) (same_task (codes "by") task) (same_members call)
  same_step (steps.Interrupt core note) = ap (λ (text : List ℕ). codes "isr_notify" ++ core_text core ++ text) (same_note note)
  same_step (steps.QueueInterrupt core queue direction) = refl
  same_step (steps.ResumeInterrupt core task) = ap (λ (text : List ℕ). codes "isr_resume" ++ core_text core ++ text) (same_task (codes "to") task)
  same_step (steps.Pass units) = refl

  same_subject : (core caller : ℕ) (why : Refusal) → subject_text header core caller (subject_of why) ≡ subject_text other core caller (subject_of why)
  same_subject core caller Displaced = alike.names caller
  same_subject core caller InCall = alike.names caller
  same_subject core caller NotInCall = alike.names caller
  same_subject core caller HoldBlock = alike.names caller
  same_subject core caller why = refl

  same_refusal : (core caller : ℕ) (why : Refusal) → refusal_meaning header core caller why ≡ refusal_meaning other core caller why
  unfolding refusal_meaning
  same_refusal core caller why = ap (λ (text : List ℕ). text ++ predicate why) (same_subject core caller why)

  same_finish : (flag : Bool) → finish_meaning header flag ≡ finish_meaning other flag
  same_finish flag =
      let queued : List ℕ = if flag then codes "the call succeeded" else codes "the call timed out" in
      let plain : List ℕ = if flag then codes "the mutex was taken" else codes "the mutex was not taken in time" in
      ap (λ (some : Bool). if some then queued else plain) alike.queues

  same_flag : (call : Call) (flag : Bool) → flag_meaning header call flag ≡ flag_meaning other call flag
  same_flag calls.Finish flag = same_finish flag
  same_flag call flag = refl

  same_step_flag : (step : Step) (flag : Bool) → step_flag_meaning header step flag ≡ step_flag_meaning other step flag
  same_step_flag (steps.Call core task call) flag = same_flag call flag
  same_step_flag step flag = refl

  same_words : (step : Step) (reply : Reply) → reply_words header step reply ≡ reply_words other step reply
  unfolding reply_words
  same_words step Done = refl
  same_words step Blocked = refl
  same_words step (Flag flag) = ap (λ (text : List ℕ). flag_text flag ++ codes ": " ++ text) (same_step_flag step flag)
  same_words step (Value value) = refl
  same_words step (Waited ok value) = refl
  same_words step (Until delayed wake) = refl
  same_words step (Isr pass pend) = refl
  same_words step (Refused why) =
      ap (λ (text : List ℕ). codes "refused " ++ refusal_code why ++ codes ": " ++ text) (same_refusal (core_of step) (caller_of step) why)

  same_reply : (step : Step) (reply : Reply) → printed_reply header step reply ≡ printed_reply other step reply
  same_reply step Done = refl
  same_reply step Blocked = refl
  same_reply step reply = same_words step reply

  same_tasks : (tasks : List ℕ) → tasks_part header tasks ≡ tasks_part other tasks
  same_tasks [] = refl
  same_tasks (task ∷ tasks) = ap₂ (λ (text rest : List ℕ). codes " " ++ text ++ rest) (alike.names task) (same_tasks tasks)

  same_outcome : (step : Step) (reply : Reply) (tasks : List ℕ) → outcome_text header step reply tasks ≡ outcome_text other step reply tasks
  same_outcome step reply tasks = ap₂ (λ (text more : List ℕ). text ++ codes ";" ++ more) (same_reply step reply) (same_tasks tasks)

  same_printed : (step : Step) (reply : Reply) (tasks : List ℕ) → printed_of header step reply tasks ≡ printed_of other step reply tasks
  same_printed step reply tasks =
      let put : List ℕ → List ℕ → Words = λ words outcome. record { words = words; outcome = outcome } in
      ap₂ put (same_step step) (same_outcome step reply tasks)

-- the same is told of steps that are alike
pub alike_printed : (header other : Header) (made later : MadeStep) (found found_too : Option MadeStep) (words more : Words) → AreNamedAlike header other
    → AreMadeAlike made later → found ≡ Some made → found_too ≡ Some later → printed_made header found ≡ words → printed_made other found_too ≡ more
    → words ≡ more
alike_printed header other made later found found_too words more named alike is is_too told told_too =
    sym told ∙ ap (printed_made header) is
    ∙ same_printed header other named made.step made.reply made.tasks.items
    ∙ ap₂ (λ (step : Step) (reply : Reply). printed_of other step reply made.tasks.items) alike.step alike.reply
    ∙ ap (λ (tasks : List ℕ). printed_of other later.step later.reply tasks) alike.tasks
    ∙ sym (ap (printed_made other) is_too) ∙ told_too
