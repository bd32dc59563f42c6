use Rattle.std.proofs.Common.{◌++◌, List, take, sym, subst}
use Rattle.segment_laws.specs.Segments.{SegmentView}
use Rattle.session_store.specs.Sums.{HasSums}
use Rattle.session_store.specs.Trials.{AreTallied, AreTalliedAfter}
use Rattle.session_store.proofs.StoreSums.{front_sums, some_then}
use Rattle.session_store.proofs.StoreTallies.{all_counted, before_back}
use Rattle.session_store.proofs.tallying.tallies_after.Goals as goal

pub tallies_up_to-requires-clause-sums : goal.tallies_up_to-requires-clause-sums
tallies_up_to-requires-clause-sums c =
    let lent = c.as_slice-segments.result.now in
    let there = c.as_slice-segments.ensures.segments in
    some_then _ _ c.args.sums (λ sums has. front_sums lent sums.now c.args.before (subst (λ (xs : List SegmentView). HasSums xs sums.now) (sym there) has))
    c.requires.sums

pub add_rest-requires-clause-sums : goal.add_rest-requires-clause-sums
add_rest-requires-clause-sums c =
    let there = c.as_slice-segments.ensures.segments in
    some_then _ _ c.args.sums (λ sums has. subst (λ (xs : List SegmentView). HasSums xs sums.now) (sym there) has) c.requires.sums

pub add_rest-requires-clause-counted : goal.add_rest-requires-clause-counted
add_rest-requires-clause-counted c =
    let lent = c.as_slice-segments.result.now in
    let there = c.as_slice-segments.ensures.segments in
    let so_far = subst (λ (xs : List SegmentView). (known : AreTalliedAfter (take c.args.before xs) c.args.replayed) → AreTallied known.header
    (take c.args.before xs ++ known.made) c.in_ok-total.total) there c.in_ok-total.ensures in
    let known = c.requires.replayed in
    before_back c.args.segments.now lent c.args.before c.args.after c.args.replayed known.0 known.1 there c.in_ok-total.total (so_far known.0)

pub returns : goal.returns
returns c =
    let lent = c.as_slice-segments.result.now in
    let there = c.as_slice-segments.ensures.segments in
    let so_far = subst (λ (xs : List SegmentView). (known : AreTalliedAfter (take c.args.before xs) c.args.replayed) → AreTallied known.header
    (take c.args.before xs ++ known.made) c.in_ok-total.total) there c.in_ok-total.ensures in
    λ known later. all_counted c.args.segments.now lent c.args.before c.args.after c.args.replayed known later there c.in_ok-total.total (so_far known)
    c.add_rest.new.total c.add_rest.ensures
