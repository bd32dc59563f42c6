use Rattle.std.proofs.Common.{rules, ◌≡◌, ℕ, ◌*◌, ◌<◌, length, take, drop, get_or, refl, sym, ap, subst, ◌∙◌, arith}
use Rattle.std.proofs.lemmas.Grind.{div_ceil_times}
use Rattle.std.proofs.lemmas.Option.{slice_get_read}
use Rattle.session_store.specs.Sums.{block, CheckpointSums, HasSums}
use Rattle.session_store.specs.Trials.{AreTalliedFrom}
use Rattle.session_store.proofs.sums.sum_from.Goals as goal

pub index-requires : goal.index-requires
index-requires c =
    let segments = c.args.segments.now in
    let k = c.div_ceil-block.result in
    let has : HasSums segments c.in_ok-sums.sums.now = search rules in
    let low : k * block < length segments = omega (arith, c.in_ok-next.ensures.1, c.if-next-segments.true) in
    omega (arith, has.are_sums.after.all k low, ap (λ (sums : CheckpointSums). length sums.after) c.sums.view_is)

pub returns-then-next-segments : goal.returns-then-next-segments
returns-then-next-segments c =
    let segments = c.args.segments.now in
    let k = c.div_ceil-block.result in
    let sums = c.in_ok-sums.sums.now in
    let has : HasSums segments sums = search rules in
    let next : k * block ≡ c.in_ok-next.next = sym c.in_ok-next.ensures.1 in
    let low : k * block < length segments = omega (arith, next, c.if-next-segments.true) in
    let found = slice_get_read sums.after (length sums.after) k c.index.result.now refl (has.are_sums.after.all k low)
    (c.index.ensures ∙ ap (λ (sums : CheckpointSums). get_or sums.after k c.index.result.now) c.sums.view_is) in
    record {
      header = has.header;
      replay = has.replay;
      order = omega (arith, next, c.div_ceil-block.ensures, div_ceil_times c.args.from 16);
      within = c.if-next-segments.true;
      tallied = subst (λ (n : ℕ). AreTalliedFrom has.header (take n segments) (drop n segments) c.index.result.now) next
          (has.are_sums.after.each k c.index.result.now low found);
    }
