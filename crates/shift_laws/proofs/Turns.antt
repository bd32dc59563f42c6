-- A tick count that turns within its 32 bits, by so many ticks: a renaming of all numbers that a tick goes along with.
use Rattle.std.proofs.Common.{◌≡◌, ℕ, ◌+◌, ◌-◌, ◌<◌, ◌%◌, ◌^◌, ap, arith}
use std.Equiv.{◌≃◌, iso_to_equiv}
use Rattle.bench_model.specs.Lists.{Lists, next_tick}
use Rattle.bench_model.specs.Shifted.{later_tick}

-- the same turn of 2 ^ 32, and in it so many ticks later
abbrev pub turned : ℕ → ℕ → ℕ
turned by tick = (tick - tick % 2 ^ 32) + (tick % 2 ^ 32 + by) % 2 ^ 32

-- the ticks that lead back
abbrev pub back : ℕ → ℕ
back by = 2 ^ 32 - by % 2 ^ 32

pub turned_back : (by tick : ℕ) → turned (back by) (turned by tick) ≡ tick
turned_back by tick = omega arith

pub back_turned : (by tick : ℕ) → turned by (turned (back by) tick) ≡ tick
back_turned by tick = omega arith

pub turned_next : (by tick : ℕ) → next_tick (turned by tick) ≡ turned by (next_tick tick)
turned_next by tick = omega arith

pub turned_later : (by tick : ℕ) → tick < 2 ^ 32 → turned by tick ≡ later_tick by tick
turned_later by tick below = omega (arith, below)

-- lists under a turned tick count
abbrev pub turned_lists : ℕ → Lists → Lists
turned_lists by lists = record lists { tick = turned by lists.tick }

abbrev with_tick : Lists → ℕ → Lists
with_tick lists tick = record lists { tick = tick }

abbrev pub turns : ℕ → Lists ≃ Lists
turns by = iso_to_equiv (record {
  fun = turned_lists by;
  inv = turned_lists (back by);
  rinv = λ lists. ap (with_tick lists) (back_turned by lists.tick);
  linv = λ lists. ap (with_tick lists) (turned_back by lists.tick);
})
