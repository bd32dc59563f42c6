use Rattle.std.proofs.Common.{◌≡◌, ℕ, suc, ◌+◌, ◌-◌, ◌*◌, ◌/◌, ◌%◌, ◌<◌, ◌≤◌, List, [], ◌∷◌, ◌++◌, length, take, drop, refl, sym, ap, subst, ◌∙◌, arith}
use Rattle.std.proofs.Common.{length-append}
use Rattle.std.specs.Prelude.{reverse, slice_get}
use Rattle.std.proofs.lemmas.Bool.Decides.{nat_tests}
use Rattle.std.proofs.lemmas.Option.{slice_get_read}
use Rattle.bench_types.specs.declared.header.Header.{Header}
use Rattle.bench_model.specs.Tally.{TaskTally}
use Rattle.session_store.specs.Sums.{block}
use Rattle.session_store.specs.Trials.{AreTalliedFrom, IsReplay}
use Rattle.session_store.proofs.LaterSums.{earlier_fits, earlier_goes, earlier_shapes, last_tallied, sum_pushed, AreFrom}
use Rattle.session_store.proofs.sums.sums_after.Goals.{then-index-eq0+in_ok-copy+in_ok-push, else-index-eq0}
use Rattle.session_store.proofs.sums.sums_after.Goals as goal

pub loop-index-init : goal.loop-index-init
loop-index-init c =
    let segments = c.args.segments.now in
    let last = length segments - 1 in
    let segment = c.index-segments-last.result in
    let low : last < length segments = omega (arith, c.requires.some) in
    let found = slice_get_read segments (length segments) last segment refl low c.index-segments-last.is in
    let all : length segments ≤ suc last = omega arith in
    record {
      total = λ header replay. subst (AreTalliedFrom header (take last segments) (drop last segments)) (sym c.in_ok-total.ensures)
          (last_tallied header segments replay last segment found c.tallies.result.now c.tallies.ensures.tallies c.tallies.ensures.sizes all);
      each = λ header replay k j sum found. let none = ap (λ (sums : List (List TaskTally)). slice_get (reverse sums) j) c.new-after.ensures.items in absurd
          (cc (found, none));
      many = omega (arith, ap (λ (sums : List (List TaskTally)). length sums) c.new-after.ensures.items);
    }

pub add-requires-clause-shapes : goal.add-requires-clause-shapes
add-requires-clause-shapes c =
    let segments = c.args.segments.now in
    let index = c.loop-index.index - 1 in
    let segment = c.index-segments-index.result in
    let low : index < length segments = omega (arith, c.loop-index.auto.index, c.loop-index-test.true) in
    let found = slice_get_read segments (length segments) index segment refl low c.index-segments-index.is in
    let next : c.loop-index.index ≡ suc index = omega (arith, c.loop-index-test.true) in
    let known = c.requires.replay in
    let so_far = subst (λ (n : ℕ). AreTalliedFrom known.0 (take n segments) (drop n segments) c.loop-index.total) next
    (c.loop-index.invariant.total known.0 known.1) in
    earlier_shapes known.0 segments known.1 index segment found c.tallies-in-loop-index.result.now c.tallies-in-loop-index.ensures.tallies
    c.tallies-in-loop-index.ensures.sizes c.loop-index.total so_far

pub add-requires-clause-sums : goal.add-requires-clause-sums
add-requires-clause-sums c =
    let segments = c.args.segments.now in
    let index = c.loop-index.index - 1 in
    let segment = c.index-segments-index.result in
    let low : index < length segments = omega (arith, c.loop-index.auto.index, c.loop-index-test.true) in
    let found = slice_get_read segments (length segments) index segment refl low c.index-segments-index.is in
    let next : c.loop-index.index ≡ suc index = omega (arith, c.loop-index-test.true) in
    let known = c.requires.replay in
    let so_far = subst (λ (n : ℕ). AreTalliedFrom known.0 (take n segments) (drop n segments) c.loop-index.total) next
    (c.loop-index.invariant.total known.0 known.1) in
    earlier_fits known.0 segments known.1 index segment found c.tallies-in-loop-index.result.now c.tallies-in-loop-index.ensures.tallies
    c.tallies-in-loop-index.ensures.sizes c.loop-index.total so_far

pub loop-index-preserved : goal.loop-index-preserved
loop-index-preserved c =
    let segments = c.args.segments.now in
    let end = c.loop-index.index in
    let index = end - 1 in
    let segment = c.index-segments-index.result in
    let low : index < length segments = omega (arith, c.loop-index.auto.index, c.loop-index-test.true) in
    let found = slice_get_read segments (length segments) index segment refl low c.index-segments-index.is in
    let next : end ≡ suc index = omega (arith, c.loop-index-test.true) in
    let invariant = c.loop-index.invariant in
    let total : (header : Header) → IsReplay header segments → AreTalliedFrom header (take index segments) (drop index segments) c.add.new.self = λ header
    replay.
    let so_far = subst (λ (n : ℕ). AreTalliedFrom header (take n segments) (drop n segments) c.loop-index.total) next (invariant.total header replay) in
    earlier_goes header segments replay index segment found c.tallies-in-loop-index.result.now c.tallies-in-loop-index.ensures.tallies
    c.tallies-in-loop-index.ensures.sizes c.loop-index.total so_far c.add.new.self c.add.ensures.added c.add.ensures.kept in
    elim c.if-index-eq0.branch [
      | then-index-eq0+in_ok-copy+in_ok-push w ↦
          let sums = c.loop-index.after.items in
          let pushed : c.if-index-eq0.after.items ≡ sums ++ w.in_ok-copy.field-0 ∷ [] = cc (w.after-is, w.in_ok-push.ensures.items) in
          let zero : (index + 1) % 16 ≡ 0 = grind (arith, nat_tests, w.if-index-eq0.true) in
          let here : end ≡ (end / 16) * block = omega (arith, zero, next) in
          let first : end / 16 ≡ suc (index / 16) = omega (arith, zero, next) in
          let more : length c.if-index-eq0.after.items ≡ length sums + 1 = ap (λ (sums : List (List TaskTally)). length sums) pushed ∙ length-append sums
          (w.in_ok-copy.field-0 ∷ []) in
          record {
            total = total;
            each = λ header replay.
                let tallied = subst (AreTalliedFrom header (take end segments) (drop end segments)) (sym w.in_ok-copy.ensures) (invariant.total header replay)
                in
                subst (λ (n : ℕ). AreFrom header segments n c.if-index-eq0.after.items) first
                (sum_pushed header segments end (end / 16) sums c.if-index-eq0.after.items w.in_ok-copy.field-0 pushed here tallied
                (invariant.each header replay));
            many = omega (arith, first, more, invariant.many);
          }
      | else-index-eq0 w ↦
          let same : c.if-index-eq0.after.items ≡ c.loop-index.after.items = cc w.after-is in
          let some : 0 < (index + 1) % 16 = grind (arith, nat_tests, w.if-index-eq0.false) in
          let first : end / 16 ≡ index / 16 = omega (arith, some, next) in
          record {
            total = total;
            each = λ header replay.
                subst (λ (n : ℕ). AreFrom header segments (suc n) c.if-index-eq0.after.items) first
                (subst (AreFrom header segments (suc (end / 16))) (sym same) (invariant.each header replay));
            many = omega (arith, first, ap (λ (sums : List (List TaskTally)). length sums) same, invariant.many);
          }
    ]

pub returns : goal.returns
returns c =
    let segments = c.args.segments.now in
    let end = c.loop-index.index in
    let sums = c.loop-index.after.items in
    let pushed = c.push-2.new.self.items in
    let invariant = c.loop-index.invariant in
    let zero : end ≡ 0 = omega (arith, c.loop-index-test.false) in
    let is : pushed ≡ sums ++ c.loop-index.total ∷ [] = c.in_ok-push-2.ensures.items in
    let here : 0 ≡ 0 * block = omega arith in
    let first : suc (end / 16) ≡ suc 0 = omega (arith, zero) in
    let many : length pushed ≡ length sums + 1 = ap (λ (sums : List (List TaskTally)). length sums) is ∙ length-append sums (c.loop-index.total ∷ []) in
    λ header replay.
    let tallied = subst (λ (n : ℕ). AreTalliedFrom header (take n segments) (drop n segments) c.loop-index.total) zero (invariant.total header replay) in
    let each = sum_pushed header segments 0 0 sums pushed c.loop-index.total is here tallied
    (subst (λ (n : ℕ). AreFrom header segments n sums) first (invariant.each header replay)) in
    record {
      each = λ k sum low found.
          let same : k ≡ k + 0 = omega arith in
          each k k sum (ap (λ (xs : List (List TaskTally)). slice_get xs k) (sym c.reverse.ensures.items) ∙ found) same;
      all = λ k low. omega (arith, low, zero, many, c.reverse.ensures.len, invariant.many);
    }
