use Rattle.std.proofs.Common.{◌≡◌, ◌≤◌, ◌∙◌, All, None, Ok, length, vec_len, sym, ap, subst, arith}
use Rattle.std.specs.Prelude.{sum_by}
use Rattle.std.proofs.lemmas.Grind.{common_steps}
use Rattle.std.proofs.lemmas.List.Elements.{All-map}
use Rattle.bench_types.specs.declared.header.Header.{Header}
use Rattle.bench_types.specs.Header.{IsCheckedHeader}
use Rattle.bench_types.specs.Limits.{max_cores}
use Rattle.bench_types.proofs.Passes.{checked_header}
use Rattle.bench_model.specs.History.{end_of, IsLegal}
use Rattle.history_laws.proofs.Recorded.{legal_session}
use Rattle.port_locks.specs.Seats as locks_seats
use Rattle.core_rig.specs.Closing.{IsEndOf, close_check, counts}
use Rattle.core_rig.specs.Resting.{at_rest}
use Rattle.core_rig.specs.Seats.{CoreView}
use Rattle.core_rig.proofs.Closing.{counts_add_up, ends_of, ends_unheld, pair_check}
use Rattle.core_rig.proofs.rig.Rig.end.Goals as goal
use Rattle.core_rig.proofs.rig.Rig.end.Goals.{After-into_parts-header}

pub move_all-requires-clause-room : goal.move_all-requires-clause-room
move_all-requires-clause-room c =
    let few : c.self.inside.header.config.cores ≤ max_cores = (checked_header c.self.inside.header c.self.invariant.checked.passes).few_cores in
    let cores : c.args.self.cores ≡ c.self.inside.header.config.cores = ap (λ rig. rig.cores) (sym c.self.view_is) ∙ c.self.invariant.cores in
    grind (arith, common_steps, few, cores, c.requires.all, c.into_list-inner.ensures.room)

pub close-requires : goal.close-requires
close-requires c =
    let own : All (λ seat. locks_seats.IsSeatOf c.self.inside.pair (at_rest seat)) c.args.seats.items =
    subst (λ rig. All (λ seat. locks_seats.IsSeatOf rig (at_rest seat)) c.args.seats.items) (sym c.self.view_is) c.requires.own in
    record {
      own =
          subst (All (locks_seats.IsSeatOf c.self.inside.pair)) (sym c.move_all.ensures.moved)
          (All-map (locks_seats.IsSeatOf c.self.inside.pair) at_rest c.args.seats.items own);
    }

pub unreachable-requires : goal.unreachable-requires
unreachable-requires c =
    let all : close_check c.self.inside.pair.cores c.args.seats.items ≡ Ok tt =
    subst (λ rig. close_check rig.cores c.args.seats.items ≡ Ok tt) (sym c.self.view_is) c.requires.all in
    let passes = pair_check c.self.inside.pair.cores c.args.seats.items all in
    let failed = c.in_default.ensures.refused.2 in
    absurd (cc (passes, c.move_all.ensures.moved, failed))

-- the seats' ends
ends : (c : After-into_parts-header) → All (IsEndOf c.in-Ok.recording.entries) c.args.seats.items
ends c = ends_of c.in-Ok.recording.entries c.args.seats.items _ c.move_all.ensures.moved c.in-Ok.ensures.seats

-- the recording's header is the rig's
its_header : (c : After-into_parts-header) → c.in-Ok.recording.header ≡ c.self.inside.pair.terms.header
its_header c = ap (λ terms. terms.header) c.in-Ok.ensures.terms

unheld : (c : After-into_parts-header) → (end_of c.in-Ok.recording.header c.in-Ok.recording.entries).hold ≡ None
unheld c =
    let its = c.into_parts-header.ensures in
    let header = c.in-Ok.recording.header in
    let cores : c.args.self.cores ≡ header.config.cores =
    ap (λ rig. rig.cores) (sym c.self.view_is) ∙ c.self.invariant.cores
    ∙ ap (λ header. header.config.cores) (sym c.self.invariant.same ∙ sym (its_header c)) in
    let all = subst (λ cores. close_check cores c.args.seats.items ≡ Ok tt) cores c.requires.all in
    let terms : All (λ (seat : CoreView). seat.terms.header ≡ header) c.args.seats.items =
    λ k d less. ap (λ terms. terms.header) ((c.requires.own k d less).1 ∙ ap (λ rig. rig.terms) (sym c.self.view_is)) ∙ sym (its_header c) in
    ends_unheld header c.in-Ok.recording.entries c.args.seats.items c.self.inside.pair its.passes its.legal all terms c.move_all.ensures.own (ends c)

pub returns-clause-session : goal.returns-clause-session
returns-clause-session c =
    let its = c.into_parts-header.ensures in
    let at = (goal.at.returns-clause-session c).After-into_parts-header in
    let checked = subst IsCheckedHeader (sym (its.header ∙ its_header at ∙ c.self.invariant.same)) c.self.invariant.checked in
    let legal = subst (λ entries. IsLegal c.in-Ok.recording.header entries) (sym (c.new.ensures ∙ its.entries)) its.legal in
    legal_session c.into_parts-header.result.0 c.new.result checked (subst (λ (header : Header). IsLegal header c.new.result) (sym its.header) legal)

pub returns-clause-seats : goal.returns-clause-seats
returns-clause-seats c =
    subst (λ entries. All (IsEndOf entries) c.args.seats.items) (sym (c.new.ensures ∙ c.into_parts-header.ensures.entries))
    (ends (goal.at.returns-clause-seats c).After-into_parts-header)

pub returns-clause-unheld : goal.returns-clause-unheld
returns-clause-unheld c =
    let its = c.into_parts-header.ensures in
    let entries = c.new.ensures ∙ its.entries in
    (λ i. (end_of (its.header i) (entries i)).hold) ∙ unheld (goal.at.returns-clause-unheld c).After-into_parts-header

pub returns-clause-all_made : goal.returns-clause-all_made
returns-clause-all_made c =
    let its = c.into_parts-header.ensures in
    ap (sum_by (λ n. n)) (c.count_by_core-made.ensures ∙ (λ i. counts (its.header i).config.cores ((c.as_slice.ensures.value ∙ its.entries) i)))
    ∙ counts_add_up c.in-Ok.recording.header c.in-Ok.recording.entries its.passes its.legal ∙ ap length (sym (c.new.ensures ∙ its.entries))
