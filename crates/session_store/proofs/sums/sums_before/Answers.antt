use Rattle.std.proofs.Common.{◌≡◌, ℕ, suc, ◌+◌, ◌*◌, ◌%◌, ◌<◌, List, [], ◌∷◌, ◌++◌, length, take, refl, sym, ap, subst, ◌∙◌, arith, length-append}
use Rattle.std.specs.Prelude.{slice_get}
use Rattle.std.proofs.lemmas.Bool.Decides.{nat_tests}
use Rattle.std.proofs.lemmas.Option.{slice_get_read}
use Rattle.bench_types.specs.declared.header.Header.{Header}
use Rattle.bench_model.specs.Tally.{TaskTally}
use Rattle.session_store.specs.Sums.{block}
use Rattle.session_store.specs.Trials.{AreTallied, IsReplay}
use Rattle.session_store.proofs.StoreSums.{next_fits, next_goes, next_shapes, sums_pushed}
use Rattle.session_store.proofs.StoreTallies.{none_tallied}
use Rattle.session_store.proofs.sums.sums_before.Goals.{then-index-eq0+in_ok-copy+in_ok-push, else-index-eq0}
use Rattle.session_store.proofs.sums.sums_before.Goals as goal

pub loop-index-init : goal.loop-index-init
loop-index-init c =
    let segments = c.args.segments.now in
    let first = c.index-segments-0.result in
    let found = slice_get_read segments (length segments) 0 first refl c.requires.some c.index-segments-0.is in
    let none = ap (λ (sums : List (List TaskTally)). length sums) c.new-before.ensures.items in
    record {
      total = λ header replay. none_tallied header segments replay first first.kernel c.in_ok-total.total (sym found) refl c.in_ok-total.ensures.tallies
          c.in_ok-total.ensures.shape;
      each = λ header replay k sum found. let none = ap (λ (sums : List (List TaskTally)). slice_get sums k) c.new-before.ensures.items in absurd
          (cc (found, none));
      many = omega arith;
      few = omega (arith, none);
    }

pub add-requires-clause-shapes : goal.add-requires-clause-shapes
add-requires-clause-shapes c =
    let segments = c.args.segments.now in
    let index = c.loop-index.index in
    let segment = c.index-segments-index.result in
    let found = slice_get_read segments (length segments) index segment refl c.loop-index-test.true c.index-segments-index.is in
    let known = c.requires.replay in
    next_shapes known.0 segments known.1 index segment found c.tallies.result.now c.loop-index.total c.tallies.ensures.tallies
    (c.loop-index.invariant.total known.0 known.1) c.tallies.ensures.sizes

pub add-requires-clause-sums : goal.add-requires-clause-sums
add-requires-clause-sums c =
    let segments = c.args.segments.now in
    let index = c.loop-index.index in
    let segment = c.index-segments-index.result in
    let found = slice_get_read segments (length segments) index segment refl c.loop-index-test.true c.index-segments-index.is in
    let known = c.requires.replay in
    next_fits known.0 segments known.1 index segment found c.tallies.result.now c.loop-index.total c.tallies.ensures.tallies
    (c.loop-index.invariant.total known.0 known.1)

pub loop-index-preserved : goal.loop-index-preserved
loop-index-preserved c =
    let segments = c.args.segments.now in
    let index = c.loop-index.index in
    let segment = c.index-segments-index.result in
    let found = slice_get_read segments (length segments) index segment refl c.loop-index-test.true c.index-segments-index.is in
    let so_far = c.loop-index.invariant in
    let next : suc index ≡ index + 1 = omega arith in
    let total : (header : Header) → IsReplay header segments → AreTallied header (take (index + 1) segments) c.add.new.self = λ header replay.
    subst (λ (n : ℕ). AreTallied header (take n segments) c.add.new.self) next
    (next_goes header segments replay index segment found c.tallies.result.now c.loop-index.total c.tallies.ensures.tallies (so_far.total header replay)
    c.add.new.self c.add.ensures.added c.add.ensures.kept) in
    elim c.if-index-eq0.branch [
      | then-index-eq0+in_ok-copy+in_ok-push w ↦
          let pushed : c.if-index-eq0.before.items ≡ c.loop-index.before.items ++ w.in_ok-copy.field-0 ∷ [] = cc (w.before-is, w.in_ok-push.ensures.items) in
          let zero : index % 16 ≡ 0 = grind (arith, nat_tests, w.if-index-eq0.true) in
          let here : index ≡ length c.loop-index.before.items * block = omega (arith, zero, so_far.many, so_far.few) in
          let more : length c.if-index-eq0.before.items ≡ length c.loop-index.before.items + 1 = ap (λ (sums : List (List TaskTally)). length sums) pushed ∙
          length-append c.loop-index.before.items (w.in_ok-copy.field-0 ∷ []) in
          record {
            total = total;
            each = λ header replay. sums_pushed header segments index c.loop-index.before.items c.if-index-eq0.before.items c.loop-index.total
                w.in_ok-copy.field-0 pushed w.in_ok-copy.ensures here (so_far.total header replay) (so_far.each header replay);
            many = omega (arith, here, more);
            few = omega (arith, here, more);
          }
      | else-index-eq0 w ↦
          let same : c.if-index-eq0.before.items ≡ c.loop-index.before.items = cc w.before-is in
          let some : 0 < index % 16 = grind (arith, nat_tests, w.if-index-eq0.false) in
          let many : length c.if-index-eq0.before.items ≡ length c.loop-index.before.items = ap (λ (sums : List (List TaskTally)). length sums) same in
          record {
            total = total;
            each = λ header replay k sum found. so_far.each header replay k sum (ap (λ (sums : List (List TaskTally)). slice_get sums k) (sym same) ∙ found);
            many = omega (arith, many, some, so_far.many);
            few = omega (arith, many, so_far.few);
          }
    ]

pub returns : goal.returns
returns c = λ header replay.
    let segments = c.args.segments.now in
    record {
      each = λ k sum low found. c.loop-index.invariant.each header replay k sum found;
      all = λ k low. omega (arith, low, c.loop-index.invariant.many, c.loop-index-test.false);
    }
