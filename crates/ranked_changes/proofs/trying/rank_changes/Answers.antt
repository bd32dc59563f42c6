use Rattle.std.proofs.Common.{◌≡◌, ◌<◌, ◌^◌, List, length, ap, sym, subst, ◌∙◌}
use Rattle.std.specs.Prelude.{Result}
use Rattle.std.specs.declared.alloc.AllocError.{AllocError}
use Rattle.bench_types.specs.declared.header.Header.{Header}
use Rattle.ranked_changes.specs.declared.change.Change.{Change}
use Rattle.ranked_changes.specs.declared.judge.Verdict.{Verdict}
use Rattle.run_sources.proofs.CheckedSources.{header_checked, steps_few}
use Rattle.ranked_changes.specs.Changes.{changes_of}
use Rattle.ranked_changes.specs.Ranking.{AreRead, AreVerdicts}
use Rattle.ranked_changes.proofs.Few.{changes_few}
use Rattle.ranked_changes.proofs.Rankings.{places_there, ranking, zip_length}
use Rattle.ranked_changes.proofs.trying.rank_changes.Goals as goal

pub entries_of-requires-clause-count : goal.entries_of-requires-clause-count
entries_of-requires-clause-count g c =
    ap length c.as_slice.ensures.value ∙ zip_length _ c.as_slice-part.result.now c.in_ok-verdicts.verdicts.items c.in_ok-verdicts.ensures.verdicts

pub entries_of-requires-clause-few : goal.entries_of-requires-clause-few
entries_of-requires-clause-few g c =
    let source = c.args.source.now in
    let is = c.header.ensures.checked in
    let same : c.as_slice-part.result.now ≡ changes_of source c.args.family = c.as_slice-part.ensures.value ∙ c.in_ok-changes.ensures.changes in
    subst (λ (changes : List Change). length changes < 2 ^ 32) (sym same) (changes_few source (header_checked source is) (steps_few source is) c.args.family)

pub returns-clause-ranked : goal.returns-clause-ranked
returns-clause-ranked g c =
    let source = c.args.source.now in
    let changes : List Change = c.in_ok-changes.changes.items in
    let verdicts : List (Result Verdict AllocError) = c.in_ok-verdicts.verdicts.items in
    let entries = c.in_ok-entries.entries.items in
    let judged =
    subst (λ (changes : List Change). AreVerdicts c.args.judge source changes verdicts) c.as_slice-part.ensures.value c.in_ok-verdicts.ensures.verdicts in
    let read =
    subst (λ (header : Header). AreRead header changes verdicts entries) c.header.ensures.header
    (subst (λ (changes : List Change). AreRead c.header.result.now changes verdicts entries) c.as_slice-part.ensures.value
    (subst (λ (verdicts : List (Result Verdict AllocError)). AreRead c.header.result.now c.as_slice-part.result.now verdicts entries)
    c.as_slice.ensures.value c.in_ok-entries.ensures.read)) in
    let count : length entries ≡ length changes = c.in_ok-entries.ensures.count ∙ ap length c.as_slice-part.ensures.value in
    ranking c.args.judge source changes verdicts entries c.in_ok-ranked.ranked.items judged read count c.in_ok-ranked.ensures.moved
    c.in_ok-ranked.ensures.ordered

pub returns-clause-places : goal.returns-clause-places
returns-clause-places g c =
    places_there c.args.judge c.args.source.now c.in_ok-changes.changes.items c.in_ok-ranked.ranked.items (returns-clause-ranked g c)
