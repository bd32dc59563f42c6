-- Events that ascend in both runs, each at alike steps.
use Rattle.std.proofs.Common.{ℕ, suc, List, [], ◌∷◌, length, arith}
use Rattle.std.specs.Prelude.{All}
use Rattle.std.proofs.lemmas.List.Elements.{All-cons}
use Rattle.bench_types.specs.declared.step.Step.{Step}
use Rattle.run_comparisons.specs.declared.place_pair.PlacePair.{PlacePair}
use Rattle.run_comparisons.specs.PairLaws.{AreAlikeAt}
use Rattle.run_comparisons.specs.SideBySide.{IsWithin}
use Rattle.run_comparisons.proofs.SharedPlaces.{Ascend}

pub record AreMet (before after : List Step) (events : List PlacePair) : Type 0 where
  pub up_before : Ascend (λ pair. pair.before) (length before) 0 events
  pub up_after : Ascend (λ pair. pair.after) (length after) 0 events
  pub alike : All (λ pair. AreAlikeAt before after pair.before pair.after) events

-- each stands in both runs
within : (before after : List Step) (from next : ℕ) (events : List PlacePair) → Ascend (λ pair. pair.before) (length before) from events → Ascend
    (λ pair. pair.after) (length after) next events → All (IsWithin before after) events
within before after from next [] up too = λ k d short. absurd (omega (arith, short))
within before after from next (event ∷ events) up too =
    All-cons (IsWithin before after) event events (up.1, too.1) (within before after (suc event.before) (suc event.after) events up.2 too.2)

pub met_within : (before after : List Step) (events : List PlacePair) → AreMet before after events → All (IsWithin before after) events
met_within before after events met = within before after 0 0 events met.up_before met.up_after
