-- The lines of edits that are each tried alone.
use Rattle.std.proofs.Common.{◌≡◌, ℕ, zero, suc, ◌+◌, ◌<◌, List, [], ◌∷◌, ◌++◌, length, drop, get_or, Result, Ok, Err, codes, refl, sym, ap, subst, ◌∙◌, arith}
use Rattle.std.proofs.Common.{append_assoc}
use Rattle.std.specs.Prelude.{is_ok, if◌then◌else◌}
use Rattle.std.specs.List.{AllZip}
use Rattle.std.proofs.lemmas.List.{append-nil}
use Rattle.bench_types.specs.declared.edit.Edit.{Edit}
use Rattle.bench_types.specs.declared.edit.EditFault.{EditFault}
use Rattle.bench_types.specs.declared.header.Header.{Header}
use Rattle.bench_model.specs.Meeting.{CheckpointedSession}
use Rattle.bench_model.specs.Tally.{TaskTally}
use Rattle.tallies.specs.Lines.{tally_lines}
use Rattle.session_store.specs.declared.fault.StoreFault.{StoreFault}
use Rattle.session_store.specs.declared.fault.StoreFault.TheVariants as fault
use Rattle.session_store.specs.declared.outcome.Outcome.{Outcome}
use Rattle.session_store.specs.Outcomes.{answer}
use Rattle.session_store.specs.Trials.{IsTried, tallies_after}
use Rattle.bench_commands.specs.Answer.{tallies_text, trial_text, trials_text}
use Rattle.bench_commands.specs.Lines.{answer_text, edit_line}
use Rattle.program_io.specs.Refusal.{spaced}
use Rattle.bench_commands.specs.TrialLaws.{PartsAreWhole, IndexIsPrinted}
use Rattle.bench_commands.proofs.EditsMade.{accepted_answer, accepted_printed, refused_answer}

abbrev Tried : Type 0
Tried = Result (Outcome × List TaskTally) StoreFault

abbrev tallies_by : CheckpointedSession → Edit → Result (Unit {0}) EditFault → List ℕ
tallies_by kept edit check = if is_ok check then tally_lines kept.session.header 0 (tallies_after edit kept.session) else []

-- the lines of an edit that is accepted
pub tried_lines : (kept : CheckpointedSession) (header : Header) (edit : Edit) (index : ℕ) (outcome : Outcome) (tallies : List TaskTally) → kept.session.header
    ≡ header → IsTried kept edit (Ok (outcome, tallies))
    → edit_line index (Ok outcome) ++ tally_lines header 0 tallies ≡ trial_text kept index edit
tried_lines kept header edit index outcome tallies same tried =
    let accepts = accepted_printed kept edit (λ why refuses. let given = (tried.refused why).1 refuses in cc given) in
    let printed = accepted_answer kept edit outcome accepts tried.outcome in
    let lines : tally_lines kept.session.header 0 tallies ≡ tallies_text kept.session edit =
    ap (tally_lines kept.session.header 0) tried.tallies ∙ sym (ap (tallies_by kept edit) accepts) in
    ap (λ h. edit_line index (Ok outcome) ++ tally_lines h 0 tallies) (sym same)
    ∙ ap (λ answer. edit_line index answer ++ tally_lines kept.session.header 0 tallies) printed ∙ ap (λ lines. edit_line index (answer kept edit) ++ lines)
    lines

-- the line of one that is refused
pub refused_line : (kept : CheckpointedSession) (edit : Edit) (index : ℕ) (why : EditFault) → IsTried kept edit (Err (fault.Edit why)) → edit_line index
    (Err why) ≡ trial_text kept index edit
refused_line kept edit index why tried =
    let refuses = (tried.refused why).0 refl in
    sym (append-nil (edit_line index (Err why))) ∙ ap (λ answer. edit_line index answer ++ []) (refused_answer kept edit why refuses)
    ∙ ap (λ lines. edit_line index (answer kept edit) ++ lines) (sym (ap (tallies_by kept edit) refuses))

-- one edit and its answer, among all
module _ (kept : CheckpointedSession) where
  pub next_lines : (edits : List Edit) (tried : List Tried) (index : ℕ) (d : Tried) → AllZip (IsTried kept) edits tried → index < length tried
      → (edit : Edit) × IsTried kept edit (get_or tried index d) × ((from : ℕ) → trials_text kept from (drop index edits) ≡ trial_text kept from edit ++
      trials_text kept (suc from) (drop (suc index) edits))
  next_lines [] [] index d all within = absurd (omega (arith, within))
  next_lines [] (t ∷ ts) index d all within = absurd all
  next_lines (e ∷ es) [] index d all within = absurd all
  next_lines (e ∷ es) (t ∷ ts) zero d all within = (e, all.0, λ from. refl)
  next_lines (e ∷ es) (t ∷ ts) (suc index) d all within = next_lines es ts index d all.1 (omega (arith, within))

  pub last_lines : (edits : List Edit) (tried : List Tried) (index from : ℕ) → AllZip (IsTried kept) edits tried → index ≡ length tried → trials_text kept from
      (drop index edits) ≡ []
  last_lines [] [] index from all end = ap (λ n. trials_text kept from (drop n [])) end
  last_lines [] (t ∷ ts) index from all end = absurd all
  last_lines (e ∷ es) [] index from all end = absurd all
  last_lines (e ∷ es) (t ∷ ts) zero from all end = absurd (omega (arith, end))
  last_lines (e ∷ es) (t ∷ ts) (suc index) from all end = last_lines es ts index from all.1 (omega (arith, end))

  -- the lines so far, and those of the edits that are left, are the lines of all
  pub lines_more : (edits : List Edit) (tried items : List Tried) (index : ℕ) (item : Tried) (text next : List ℕ) → AllZip (IsTried kept) edits tried → items ≡
      tried → index < length items → item ≡ get_or items index item
      → ((edit : Edit) → IsTried kept edit item → next ≡ text ++ trial_text kept index edit) → text ++ trials_text kept index (drop index edits) ≡ trials_text
      kept 0 edits
      → next ++ trials_text kept (index + 1) (drop (index + 1) edits) ≡ trials_text kept 0 edits
  lines_more edits tried items index item text next all same within read printed so_far =
      let found = next_lines edits items index item (subst (AllZip (IsTried kept) edits) (sym same) all) within in
      let edit = found.0 in
      let line = printed edit (subst (IsTried kept edit) (sym read) found.1) in
      let one : suc index ≡ index + 1 = omega arith in
      let left : ℕ → List ℕ = λ n. trials_text kept n (drop n edits) in
      ap (λ t. t ++ left (index + 1)) line ∙ append_assoc text (trial_text kept index edit) (left (index + 1))
      ∙ ap (λ more. text ++ (trial_text kept index edit ++ more)) (ap left (sym one)) ∙ ap (λ lines. text ++ lines) (sym (found.2 index)) ∙ so_far

  pub lines_end : (edits : List Edit) (tried items : List Tried) (index : ℕ) (text : List ℕ) → AllZip (IsTried kept) edits tried → items ≡ tried → index ≡
      length items
      → text ++ trials_text kept index (drop index edits) ≡ trials_text kept 0 edits → text ≡ trials_text kept 0 edits
  lines_end edits tried items index text all same end so_far =
      sym (append-nil text) ∙ ap (λ more. text ++ more) (sym (last_lines edits items index index (subst (AllZip (IsTried kept) edits) (sym same) all) end)) ∙
      so_far

-- ---- laws

pub parts_are_whole : PartsAreWhole
parts_are_whole kept index [] second = ap (λ n. trials_text kept n second) (omega arith)
parts_are_whole kept index (edit ∷ first) second =
    let rest = parts_are_whole kept (suc index) first second in
    let next : suc index + length first ≡ index + length (edit ∷ first) = omega arith in
    ap (λ lines. trial_text kept index edit ++ lines) (rest ∙ ap (λ n. trials_text kept (suc index) first ++ trials_text kept n second) next)
    ∙ sym (append_assoc (trial_text kept index edit) (trials_text kept (suc index) first) (trials_text kept (index + length (edit ∷ first)) second))

pub index_is_printed : IndexIsPrinted
index_is_printed kept edit = (
  spaced (answer_text (answer kept edit)) ++ (codes "\n" ++ tallies_text kept.session edit),
  λ index. search append_assoc,
)
