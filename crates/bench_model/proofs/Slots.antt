-- Where notifications stand: each task's of each index has a place of its own.
use Rattle.std.proofs.Common.{ℕ, suc, ◌*◌, ◌<◌, ◌≤◌, arith}
use Rattle.std.proofs.Math.Nat.{suc-mul, mul-le-mul_right}
use Rattle.bench_model.specs.Notes.{slot_in}

-- it is one of those that there are
pub slot_below : (entries tasks task index : ℕ) → task < tasks → index < entries → slot_in entries task index < tasks * entries
unfolding slot_in
slot_below entries tasks task index few low =
    let more : suc task * entries ≤ tasks * entries = mul-le-mul_right entries (omega (arith, few)) in
    omega (arith, more, suc-mul task entries, low)
