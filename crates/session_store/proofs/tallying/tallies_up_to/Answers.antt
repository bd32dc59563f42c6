use Rattle.std.proofs.Common.{◌++◌, ◌-◌, length, take, drop, refl, sym, subst, ◌∙◌}
use Rattle.session_store.specs.Trials.{IsReplay}
use Rattle.std.proofs.lemmas.List.{append_assoc}
use Rattle.session_store.proofs.StoreSums.{before_lent_front, front_added, front_fits, front_shapes}
use Rattle.session_store.proofs.StoreTallies.{empty_front, only_replayed}
use Rattle.session_store.proofs.tallying.tallies_up_to.Goals as goal

pub returns-then-is_empty : goal.returns-then-is_empty
returns-then-is_empty c = λ known. only_replayed c.args.front.now c.args.replayed known
    (empty_front c.args.front.now (sym c.is_empty.ensures ∙ c.if-is_empty.true))

pub add_segments-requires : goal.add_segments-requires
add_segments-requires c =
    let front = c.args.front.now in
    let count = c.in_ok-total.count in
    let known = c.requires.replayed in
    let replay = subst (IsReplay known.header) (append_assoc front known.made known.later) known.replay in
    before_lent_front front c.args.replayed known count (take (length front - count) (drop count front)) refl c.in_ok-total.total
    (c.in_ok-total.ensures.tallied known.header (known.made ++ known.later) replay)

pub add-requires-clause-shapes : goal.add-requires-clause-shapes
add-requires-clause-shapes c =
    let front = c.args.front.now in
    let count = c.in_ok-total.count in
    let known = c.requires.replayed in
    let replay = subst (IsReplay known.header) (append_assoc front known.made known.later) known.replay in
    front_shapes front c.args.replayed known count (take (length front - count) (drop count front)) refl c.in_ok-total.total
    (c.in_ok-total.ensures.tallied known.header (known.made ++ known.later) replay) c.add_segments.new.total c.add_segments.ensures

pub add-requires-clause-sums : goal.add-requires-clause-sums
add-requires-clause-sums c =
    let front = c.args.front.now in
    let count = c.in_ok-total.count in
    let known = c.requires.replayed in
    let replay = subst (IsReplay known.header) (append_assoc front known.made known.later) known.replay in
    front_fits front c.args.replayed known count (take (length front - count) (drop count front)) refl c.in_ok-total.total
    (c.in_ok-total.ensures.tallied known.header (known.made ++ known.later) replay) c.add_segments.new.total c.add_segments.ensures

pub returns : goal.returns
returns c = λ known.
    let front = c.args.front.now in
    let count = c.in_ok-total.count in
    let replay = subst (IsReplay known.header) (append_assoc front known.made known.later) known.replay in
    front_added front c.args.replayed known count (take (length front - count) (drop count front)) refl c.in_ok-total.total
    (c.in_ok-total.ensures.tallied known.header (known.made ++ known.later) replay) c.add_segments.new.total c.add_segments.ensures c.add.new.self
    c.add.ensures.added c.add.ensures.kept
