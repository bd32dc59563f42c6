use Rattle.std.proofs.Common.{◌≡◌, ◌-◌, ◌≤◌, List, length, take, drop, sym, ap, ◌∙◌, arith}
use Rattle.segment_laws.specs.Segments.{SegmentView, lengths, starts}
use Rattle.session_segments.proofs.Places.{front_places, front_stays, parts_fit, places_count}
use Rattle.session_segments.specs.Meetings.{count_delaying}
use Rattle.session_segments.proofs.Delaying.{fewer_than_all, count_exchanged}
use Rattle.session_segments.proofs.segments.Segments.replace.Goals as goal

pub place_from-requires-clause-placed : goal.place_from-requires-clause-placed
place_from-requires-clause-placed g c =
    let segments = c.self.inside.segments.items in
    let within : c.args.from ≤ length segments = omega (arith, c.requires.order, c.requires.within, ap (λ (ss : List SegmentView). length ss) c.self.view_is) in
    let front = ap (take c.args.from) (c.as_slice-2.ensures.value ∙ c.in_ok-exchange.ensures.exchanged) ∙ front_stays c.args.from segments c.args.made.items
    (drop c.args.to segments) within in
    ap (take c.args.from) (c.in_ok-reserve.ensures.items ∙ c.self.invariant.0.begin) ∙ front_places c.args.from 0 segments ∙ ap
    (λ (ss : List SegmentView). starts 0 (lengths ss)) (sym front)

pub place_from-requires-clause-room : goal.place_from-requires-clause-room
place_from-requires-clause-room g c =
    let segments = c.self.inside.segments.items in
    let within : c.args.to ≤ length segments = omega (arith, c.requires.within, ap (λ (ss : List SegmentView). length ss) c.self.view_is) in
    let fits = parts_fit c.args.from c.args.to segments c.args.made.items c.requires.order within in
    let new = ap (λ (ss : List SegmentView). length ss) (c.as_slice-2.ensures.value ∙ c.in_ok-exchange.ensures.exchanged) in
    let placed = ap (λ ps. length ps) c.self.invariant.0.begin ∙ places_count 0 segments in
    omega (arith, fits, new, placed, c.self.inside.places.ok.0, c.args.made.ok.0, c.len.ensures, c.in_ok-reserve.ensures.len, c.in_ok-reserve.ensures.ok)

pub overflow_sub-self : goal.overflow_sub-self
overflow_sub-self g c =
    let fewer = c.count_delaying-fewer.ensures ∙ ap (λ (ss : List SegmentView). count_delaying (take (c.args.to - c.args.from) (drop c.args.from ss)))
    c.deref.ensures.value in
    omega (arith, fewer, c.self.invariant.1, fewer_than_all c.self.inside.segments.items c.args.made.items c.args.from c.args.to c.requires.order)

pub invariant_of-self-2 : goal.invariant_of-self-2
invariant_of-self-2 g c =
    let segments = c.self.inside.segments.items in
    let exchanged = c.in_ok-exchange.ensures.exchanged in
    let placed = c.place_from.ensures ∙ ap (λ (ss : List SegmentView). starts 0 (lengths ss)) c.as_slice-2.ensures.value in
    let counted = count_exchanged segments c.args.made.items c.args.from c.args.to c.requires.order in
    let fewer = c.count_delaying-fewer.ensures ∙ ap (λ (ss : List SegmentView). count_delaying (take (c.args.to - c.args.from) (drop c.args.from ss)))
    c.deref.ensures.value in
    let more = c.count_delaying-more.ensures ∙ ap count_delaying c.as_slice.ensures.value in (
      record { begin = placed; some = rw (exchanged, c.self.view_is) c.requires.some; few_steps = rw (exchanged, c.self.view_is) c.requires.few },
      omega (arith, ap (λ (ss : List SegmentView). count_delaying ss) exchanged, counted, fewer, more, c.self.invariant.1),
    )
