-- An interrupt of a workload: when it comes, and what it does, as a step of a session says it.
use Rattle.std.specs.Prelude.{ℕ, List, [], ◌∷◌, codes, Option, Some, None, option_and_then, Result, Ok}
use Rattle.serde_json.specs.Data.{Data}
use Rattle.serde_json.specs.Find.{get, as_number, as_u64}
use Rattle.bench_types.specs.declared.step.Step.{Step}
use Rattle.bench_types.specs.declared.step.Step.TheVariants as step
use Rattle.session_text.specs.declared.detail.Detail.TheVariants.{NoWord}
use Rattle.session_text.specs.declared.detail.Expected.TheVariants.{Number}
use Rattle.session_text.specs.declared.fault.TextFault.{TextFault}
use Rattle.session_text.specs.declared.format.Format.TheVariants.{Three}
use Rattle.session_text.specs.declared.step.Kind.{Kind}
use Rattle.session_text.specs.declared.step.Kind.TheVariants as kind
use Rattle.session_text.specs.Array.{list_at}
use Rattle.session_text.specs.Member.{member_at, object_at, only_at, text_at, typed}
use Rattle.session_text.specs.Names.{TaskNames}
use Rattle.session_text.specs.Nearest.{stray}
use Rattle.session_text.specs.Path.{member_path}
use Rattle.session_text.specs.ReadingRules.{◌>>=◌, found}
use Rattle.session_text.specs.Step.{kind_among, kinds_in, members_of, step_of_core_at}
use Rattle.task_programs.specs.declared.workload.Interrupt.{Interrupt}

-- a whole number of 64 bits from 0 on, written without fraction or exponent
abbrev pub as_units : Data → Option ℕ
as_units d = option_and_then as_u64 (as_number d)

unfoldable pub units_at : List ℕ → List ℕ → Data → Result ℕ TextFault
units_at at name d = do
  value ← member_at at name d
  typed Number value (as_units value) (member_path at name)

abbrev pub period_or : List ℕ → Option Data → Result (Option ℕ) TextFault
period_or at None = Ok None
period_or at (Some value) = do
  units ← typed Number value (as_units value) at
  Ok (Some units)

-- after how many units it comes again, which may be left out
abbrev pub period_at : List ℕ → Data → Result (Option ℕ) TextFault
period_at at d = period_or (member_path at (codes "every")) (get (codes "every") d)

abbrev pub as_interrupt : Kind → Option Kind
as_interrupt kind.Interrupt = Some kind.Interrupt
as_interrupt (kind.QueueInterrupt direction) = Some (kind.QueueInterrupt direction)
as_interrupt kind.ResumeInterrupt = Some kind.ResumeInterrupt
as_interrupt other = None

abbrev pub interrupt_kind_of : List ℕ → Option Kind
interrupt_kind_of word = option_and_then as_interrupt (kind_among (kinds_in Three) word)

abbrev pub interrupt_words : List (List ℕ)
interrupt_words =
    codes "isr_notify" ∷ codes "isr_send" ∷ codes "isr_receive" ∷ codes "isr_resume" ∷ []

unfoldable pub interrupt_kind_at : List ℕ → Data → Result Kind TextFault
interrupt_kind_at at d = do
  word ← text_at at (codes "do") d
  found (interrupt_kind_of word) (member_path at (codes "do"))
      (NoWord (stray word interrupt_words))

-- the members of an interrupt; no other step is read as one
abbrev pub interrupt_members : Step → List (List ℕ)
interrupt_members (step.Interrupt core note) =
    codes "at" ∷ codes "every" ∷ members_of Three (step.Interrupt core note)
interrupt_members (step.QueueInterrupt core queue direction) =
    codes "at" ∷ codes "every" ∷ members_of Three (step.QueueInterrupt core queue direction)
interrupt_members (step.ResumeInterrupt core task) =
    codes "at" ∷ codes "every" ∷ members_of Three (step.ResumeInterrupt core task)
interrupt_members other = []

unfoldable pub interrupt_at : TaskNames → List ℕ → Data → Result Interrupt TextFault
interrupt_at names at d = do
  members ← object_at at d
  time ← units_at at (codes "at") d
  every ← period_at at d
  which ← interrupt_kind_at at d
  what ← step_of_core_at Three names which at d
  only ← only_at at (interrupt_members what) members
  Ok (record { at = time; every = every; what = what })

abbrev pub interrupts_or :
    TaskNames → List ℕ → Option Data → Data → Result (List Interrupt) TextFault
interrupts_or names at None d = Ok []
interrupts_or names at (Some value) d = list_at (interrupt_at names) at (codes "interrupts") d

-- the interrupts, which may be left out
abbrev pub interrupts_at : TaskNames → List ℕ → Data → Result (List Interrupt) TextFault
interrupts_at names at d = interrupts_or names at (get (codes "interrupts") d) d
