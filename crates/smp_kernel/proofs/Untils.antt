-- A task that waits until its next wake, or whose wake has passed.
use Rattle.std.proofs.Common.{◌≡◌, ℕ, Bool, true, false, cond, Some, None, refl, sym, ap, subst}
use Rattle.std.proofs.lemmas.List.{length-set}
use Rattle.bench_types.specs.declared.reply.Reply.{Reply}
use Rattle.bench_types.specs.declared.reply.Reply.TheVariants.{Until}
use Rattle.bench_types.specs.declared.step.BlockingCall.TheVariants as blocking
use Rattle.bench_types.specs.declared.step.Unfinished.{Unfinished}
use Rattle.bench_types.specs.declared.step.Unfinished.TheVariants.{Made}
use Rattle.bench_model.specs.Control.{ask}
use Rattle.bench_model.specs.Lists.{View, list_queues, delay}
use Rattle.bench_model.specs.State.{yielded, blocked}
use Rattle.bench_model.specs.Steps.{delayed_until}
use Rattle.bench_model.specs.Until.{next_wake, is_ahead, ticks_to}
use Rattle.tick_delay.specs.Parts.{DelayView, delayed_for, until_delayed}
use Rattle.smp_kernel.specs.Kernel.{Parts, kernel_view, IsKernelShape}
use Rattle.smp_kernel.proofs.Sizes.{reshaped, sizes_of}
use Rattle.smp_kernel.proofs.Blocks.{blocked_parts, block_shape}

-- what the delays answer, and what is left of them
abbrev Outcome : Type 0
Outcome = (Bool × ℕ) × DelayView

abbrev outcome : Bool → ℕ → DelayView → Outcome
outcome delayed wake delays = ((delayed, wake), delays)

abbrev reply_of : Outcome → Reply
reply_of made = Until made.0.0 made.0.1

abbrev known : Reply → View → Reply × View
known reply view = (reply, view)

module _ (parts : Parts) (shape : IsKernelShape parts) (core task prev inc : ℕ) where
  abbrev wake_at : ℕ
  wake_at = next_wake prev inc

  abbrev call : Unfinished
  call = Made (blocking.DelayUntil prev inc)

  abbrev ticks : ℕ
  ticks = ticks_to parts.delays.tick wake_at

  -- the delays of a task that waits, and of one that doesn't
  abbrev waiting : Outcome
  waiting = outcome true wake_at (delayed_for task ticks parts.delays)

  abbrev going : Outcome
  going = outcome false wake_at parts.delays

  -- a kernel whose task waits, with these delays
  abbrev until_parts : DelayView → Parts
  until_parts delays = record (blocked_parts core task call None None parts) { delays = delays }

  -- a kernel whose core asks itself to switch, with these delays
  abbrev passed_parts : DelayView → Parts
  passed_parts delays = record parts { cores = record parts.cores { control = ask core core parts.cores.control }; delays = delays }

  module _ (delayed : Bool) (wake : ℕ) (delays : DelayView) (made : outcome delayed wake delays ≡ until_delayed task prev inc parts.delays) where
    pub until_seen : delayed ≡ true → known (Until delayed wake) (kernel_view (until_parts delays)) ≡ delayed_until list_queues core task prev inc
        (kernel_view parts)
    unfolding until_delayed delayed_until blocked delay
    until_seen waits = at (is_ahead parts.delays.tick prev wake_at) made
      where
        at : (b : Bool) → outcome delayed wake delays ≡ cond b waiting going → known (Until delayed wake) (kernel_view (until_parts delays)) ≡ cond b
            (known (Until true wake_at) (blocked list_queues core task call (Some ticks) None (kernel_view parts)))
            (known (Until false wake_at) (yielded list_queues core (kernel_view parts)))
        at true made = ap (λ (made : Outcome). known (reply_of made) (kernel_view (until_parts made.1))) made
        at false made = absurd (cc (waits, ap (λ (made : Outcome). made.0.0) made))

    pub until_shape : delayed ≡ true → IsKernelShape (until_parts delays)
    unfolding until_delayed
    until_shape waits = at (is_ahead parts.delays.tick prev wake_at) made
      where
        at : (b : Bool) → outcome delayed wake delays ≡ cond b waiting going → IsKernelShape (until_parts delays)
        at true made = subst (λ (made : Outcome). IsKernelShape (until_parts made.1)) (sym made) (block_shape parts shape core task call (Some ticks) None)
        at false made = absurd (cc (waits, ap (λ (made : Outcome). made.0.0) made))

    pub passed_seen : delayed ≡ false → known (Until delayed wake) (kernel_view (passed_parts delays)) ≡ delayed_until list_queues core task prev inc
        (kernel_view parts)
    unfolding until_delayed delayed_until yielded
    passed_seen goes = at (is_ahead parts.delays.tick prev wake_at) made
      where
        at : (b : Bool) → outcome delayed wake delays ≡ cond b waiting going → known (Until delayed wake) (kernel_view (passed_parts delays)) ≡ cond b
            (known (Until true wake_at) (blocked list_queues core task call (Some ticks) None (kernel_view parts)))
            (known (Until false wake_at) (yielded list_queues core (kernel_view parts)))
        at true made = absurd (cc (goes, ap (λ (made : Outcome). made.0.0) made))
        at false made = ap (λ (made : Outcome). known (reply_of made) (kernel_view (passed_parts made.1))) made

    pub passed_shape : delayed ≡ false → IsKernelShape (passed_parts delays)
    unfolding until_delayed
    passed_shape goes = at (is_ahead parts.delays.tick prev wake_at) made
      where
        asked : IsKernelShape (passed_parts parts.delays)
        asked = reshaped parts _ refl (ap (λ a. record (sizes_of parts) { cores = a }) (length-set parts.cores.control.cores core _)) shape.undelayed
            shape.unqueued shape

        at : (b : Bool) → outcome delayed wake delays ≡ cond b waiting going → IsKernelShape (passed_parts delays)
        at true made = absurd (cc (goes, ap (λ (made : Outcome). made.0.0) made))
        at false made = subst (λ (made : Outcome). IsKernelShape (passed_parts made.1)) (sym made) asked
