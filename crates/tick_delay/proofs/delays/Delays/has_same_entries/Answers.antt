use Rattle.std.proofs.Common.{ap, sym, ◌∙◌}
use Rattle.tick_delay.specs.Parts.{DelayView}
use Rattle.tick_delay.proofs.Pair.{same_pairs}
use Rattle.tick_delay.proofs.delays.Delays.has_same_entries.Goals as goal

pub returns-then-this : goal.returns-then-this
returns-then-this c =
    let both = same_pairs _ _ _ _ _ _ _ _ c.self.invariant c.other.invariant
    (ap (λ (view : DelayView). view.tick) c.self.view_is ∙ c.requires ∙ sym (ap (λ (view : DelayView). view.tick) c.other.view_is)) in
    let mine = ap (λ (view : DelayView). view.delayed) c.self.view_is in
    let theirs = ap (λ (view : DelayView). view.delayed) c.other.view_is in (
      λ yes. sym mine ∙ both.0 (c.has_same_entries-this.ensures.0 c.if-this.true) (c.has_same_entries-next.ensures.0 yes) ∙ theirs,
      λ same.
          c.has_same_entries-next.ensures.1 (both.1 (mine ∙ same ∙ sym theirs)).1,
    )

pub returns-else-this : goal.returns-else-this
returns-else-this c =
    let both = same_pairs _ _ _ _ _ _ _ _ c.self.invariant c.other.invariant
    (ap (λ (view : DelayView). view.tick) c.self.view_is ∙ c.requires ∙ sym (ap (λ (view : DelayView). view.tick) c.other.view_is)) in
    let mine = ap (λ (view : DelayView). view.delayed) c.self.view_is in
    let theirs = ap (λ (view : DelayView). view.delayed) c.other.view_is in
    (λ yes. absurd (cc (yes, c.if-this.false)), λ same. c.has_same_entries-this.ensures.1 (both.1 (mine ∙ same ∙ sym theirs)).0)
