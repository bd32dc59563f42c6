-- The numbers of a subject at a place, and one place further.
use Rattle.std.proofs.Common.{◌≡◌, ℕ, suc, ◌+◌, max, Bool, true, false, ◌&&◌, nat_lt, List, Some}
use Rattle.std.proofs.Common.{refl, sym, ap, subst, ◌∙◌, arith}
use Rattle.std.specs.Prelude.{if◌then◌else◌, slice_get}
use Rattle.std.specs.List.{sum_by}
use Rattle.list_orders.specs.Search.{numbers}
use Rattle.step_times.specs.Times.{time_of}
use Rattle.bench_types.specs.declared.header.Header.{Header}
use Rattle.bench_types.specs.declared.reply.Reply.{Reply}
use Rattle.bench_types.specs.declared.step.Step.{Step}
use Rattle.bench_model.specs.Lists.{view_of}
use Rattle.bench_model.specs.Session.{state_at, step_of}
use Rattle.bench_model.specs.Sound.{IsConsistent}
use Rattle.bench_model.specs.Table.{Stamps, Table, stamp_queues}
use Rattle.bench_model.specs.Tallied.{one_if}
use Rattle.bench_model.specs.Tally.{Moment, moment_at}
use Rattle.smp_kernel.specs.Raised.{raised_by, KeepsOthers}
use Rattle.smp_kernel.proofs.Raises.{step_others}
use Rattle.run_numbers.specs.Gauge.{Gauge}
use Rattle.run_numbers.specs.declared.subject.Condition.{Condition}
use Rattle.run_numbers.specs.declared.subject.Subject.{Subject}
use Rattle.run_numbers.specs.declared.subject.Subject.TheVariants.{Time, Steps, TopPriority, MostMessages, NotMade, Job, Migrations, RanOut, Unfinished, MutexWait, Run}
use Rattle.run_numbers.specs.Events.{happens}
use Rattle.run_numbers.specs.Gauges.{initial_gauge, spell_after}
use Rattle.run_numbers.specs.Messages.{messages_at}
use Rattle.run_numbers.specs.Moments.{passes_at}
use Rattle.run_numbers.specs.Progress.{stepped}
use Rattle.run_numbers.specs.Readings.{IsSubjectOf}
use Rattle.run_numbers.specs.Stretches.{found_at, holds_at, start_at, stretch_at, time_of_step}
use Rattle.run_numbers.specs.SoFar.{first_top, gauge_at, in_use_at, passed, top}
use Rattle.run_numbers.proofs.Places.{count_more, greatest_more, sum_more}
use Rattle.run_numbers.proofs.Seeing.{happens_seen, holds_seen}

same_gauge : {a a' b b' c c' d d' e e' : ℕ} → a ≡ a' → b ≡ b' → c ≡ c' → d ≡ d' → e ≡ e' →
    let gauge : Gauge = record { reading = record { total = a; longest = b; from = c }; stretch = d; start = e } in
    let gauge' : Gauge = record { reading = record { total = a'; longest = b'; from = c' }; stretch = d'; start = e' } in
    gauge ≡ gauge'
same_gauge a b c d e = cc

-- One place further, with the step that stands there.
module _ (header : Header) (steps : List Step) (place : ℕ) (step : Step) (there : slice_get steps place ≡ Some step)
    (sound : IsConsistent (state_at header steps place)) (units : (state_at header steps place).settings.units ≡ header.config.units) (next : (step_of step (state_at header steps place)).1 ≡ state_at header steps (suc place)) where
  abbrev here : Table
  here = state_at header steps place

  abbrev later : Table
  later = state_at header steps (suc place)

  abbrev reply : Reply
  reply = (step_of step here).0

  abbrev moment : Moment Stamps
  moment = record { before = here; step = step; reply = reply; after = later }

  passes_here : (passes : Moment Stamps → Bool) → passes_at header steps passes place ≡ passes moment
  unfolding moment_at
  passes_here passes = rw there refl

  passed_more : (passes : Moment Stamps → Bool) → passed header steps passes (suc place) ≡ passed header steps passes place + one_if (passes moment)
  passed_more passes = count_more (passes_at header steps passes) place ∙ ap (λ b. passed header steps passes place + one_if b) (passes_here passes)

  time_here : time_of_step header steps place ≡ time_of here.settings.units step
  time_here = rw there (ap (λ units. time_of units step) (sym units))

  pub kept : KeepsOthers (raised_by (view_of here) step) here.control later.control
  kept = subst (λ (table : Table). KeepsOthers (raised_by (view_of here) step) here.control table.control) next (step_others stamp_queues step here)

  spell_more : (condition : Condition) (b : Bool) (t : ℕ) → holds_at header steps condition place ≡ b → time_of_step header steps place ≡ t → spell_after b t
      place (gauge_at header steps place (Time condition)) ≡ gauge_at header steps (suc place) (Time condition)
  spell_more condition true t holding time =
      let stretch = stretch_at header steps condition in
      let own = found_at header steps condition in
      let grown : stretch (suc place) ≡ stretch place + t = rw (holding, time) refl in
      let here_found : own place ≡ t = rw holding time in
      let found : sum_by own (numbers (suc place)) ≡ sum_by own (numbers place) + t =
      sum_more own place ∙ ap (λ n. sum_by own (numbers place) + n) here_found in
      same_gauge (sym found) (sym (greatest_more stretch (suc place) ∙ ap (max (top stretch place)) grown))
      (chosen (nat_lt (top stretch place) (stretch place + t)) (ap (nat_lt (top stretch place)) (sym grown))) (sym grown) refl
    where
      chosen : (b : Bool) → b ≡ nat_lt (top (stretch_at header steps condition) place) (stretch_at header steps condition (suc place)) →
          (if b then start_at header steps condition (suc place) else start_at header steps condition (first_top (stretch_at header steps condition) place))
          ≡ start_at header steps condition (first_top (stretch_at header steps condition) (suc place))
      chosen true is = rw (sym is) refl
      chosen false is = rw (sym is) refl
  spell_more condition false t holding time =
      let stretch = stretch_at header steps condition in
      let own = found_at header steps condition in
      let grown : stretch (suc place) ≡ 0 = rw holding refl in
      let none : own place ≡ 0 = rw holding refl in
      let found : sum_by own (numbers (suc place)) ≡ sum_by own (numbers place) = omega (arith, sum_more own place, none) in
      same_gauge (sym found) (omega (arith, greatest_more stretch (suc place), grown))
      (chosen (nat_lt (top stretch place) (stretch (suc place))) refl (ap (nat_lt (top stretch place)) grown)) (sym grown) refl
    where
      chosen : (b : Bool) → nat_lt (top (stretch_at header steps condition) place) (stretch_at header steps condition (suc place)) ≡ b → nat_lt
          (top (stretch_at header steps condition) place) (stretch_at header steps condition (suc place)) ≡ nat_lt
          (top (stretch_at header steps condition) place) 0 →
          start_at header steps condition (first_top (stretch_at header steps condition) place)
          ≡ start_at header steps condition (first_top (stretch_at header steps condition) (suc place))
      chosen true is none = absurd (grind (arith, is, none))
      chosen false is none = rw is refl

  -- the numbers so far, one place further
  pub gauge_more : (subject : Subject) → IsSubjectOf here.settings subject → stepped (view_of here) step reply (view_of later) place subject
      (gauge_at header steps place subject) ≡ gauge_at header steps (suc place) subject
  gauge_more (Time condition) known = rw (holds_seen here condition sound known)
      (spell_more condition (holds_at header steps condition place) (time_of here.settings.units step) refl time_here)
  gauge_more (Steps event) known = ap initial_gauge (sym
      (passed_more (happens stamp_queues event) ∙ ap (λ b. passed header steps (happens stamp_queues event) place + one_if b)
      (sym (happens_seen event here later step reply sound known kept))))
  gauge_more (TopPriority task) known = ap initial_gauge (sym (greatest_more (in_use_at header steps task) (suc place)))
  gauge_more (MostMessages queue) known = ap initial_gauge (sym (greatest_more (messages_at header steps queue) (suc place)))
  gauge_more (NotMade task) known = refl
  gauge_more (Job task number) known = refl
  gauge_more (Migrations task) known = refl
  gauge_more (RanOut task) known = refl
  gauge_more (Unfinished task) known = refl
  gauge_more (MutexWait mutex) known = refl
  gauge_more (Run number) known = refl
