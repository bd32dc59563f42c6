-- The ticks to a wake that lies ahead: one at least, and fewer than there are tick counts.
use Rattle.std.proofs.Common.{◌≡◌, ◌≢◌, ℕ, ◌<◌, ◌^◌, true, arith}
use Rattle.std.proofs.lemmas.Bool.Decides.{nat_tests}
use Rattle.bench_model.specs.Until.{is_ahead, ticks_to}

-- it is not the tick count of now
not_now : (now prev wake : ℕ) → is_ahead now prev wake ≡ true → now ≢ wake
unfolding is_ahead
not_now now prev wake ahead same = grind (arith, nat_tests, ahead, same)

pub some_ticks_to : (now prev wake : ℕ) → now < 2 ^ 32 → wake < 2 ^ 32 → is_ahead now prev wake ≡ true → 0 < ticks_to now wake
some_ticks_to now prev wake low wake_low ahead = omega (arith, low, wake_low, not_now now prev wake ahead)

pub few_ticks_to : (now wake : ℕ) → ticks_to now wake < 2 ^ 32
few_ticks_to now wake = omega arith
