use Rattle.std.proofs.Common.{ℕ, ◌+◌, ◌<◌, ◌^◌, get_or, length, sym, subst, arith}
use Rattle.std.specs.Prelude.{slice_set}
use Rattle.std.proofs.lemmas.List.Elements.{All-get_or}
use Rattle.session_laws.proofs.Tallies.{each_at, length_each}
use Rattle.tallies.specs.Sums.{sums_of}
use Rattle.tallies.proofs.InPlace.{IsSetTo, set_none, set_more, set_all}
use Rattle.tallies.proofs.counts.add_ticks.Goals as goal

pub loop-place-init : goal.loop-place-init
loop-place-init c = set_none (λ place. get_or c.args.runs.now place 0 + get_or c.args.more.now place 0) 0 c.args.runs.now

pub overflow_add-runs : goal.overflow_add-runs
overflow_add-runs c =
    let old = c.args.runs.now in
    let more = c.args.more.now in
    let place = c.loop-place.place in
    let sum : ℕ → ℕ = λ place. get_or old place 0 + get_or more place 0 in
    let low : place < length old = omega (arith, c.loop-place-test.true) in
    let below : get_or (sums_of old more) place 0 < 2 ^ 32 = All-get_or (λ n. n < 2 ^ 32) (sums_of old more) place 0
    (omega (arith, low, length_each sum (length old))) c.requires.sums in
    omega (arith, below, each_at sum (length old) place 0 low, c.loop-place.invariant.others place (omega arith))

pub loop-place-preserved : goal.loop-place-preserved
loop-place-preserved c =
    let old = c.args.runs.now in
    let more = c.args.more.now in
    let place = c.loop-place.place in
    let sum : ℕ → ℕ = λ place. get_or old place 0 + get_or more place 0 in
    let kept = c.loop-place.invariant.others place (omega arith) in
    subst (λ n. IsSetTo sum 0 old (place + 1) (slice_set c.loop-place.runs place (n + get_or more place 0))) (sym kept)
    (set_more sum 0 old c.loop-place.runs place c.loop-place.invariant (omega (arith, c.loop-place-test.true, c.loop-place.invariant.size)))

pub returns : goal.returns
returns c = set_all (λ place. get_or c.args.runs.now place 0 + get_or c.args.more.now place 0) 0 c.args.runs.now c.loop-place.runs c.loop-place.place
    c.loop-place.invariant (omega (arith, c.loop-place-test.false))
