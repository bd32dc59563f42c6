-- One thing alone is told of each input.
use Rattle.std.proofs.Common.{◌≡◌, ◌⊎◌, ◌&&◌, ℕ, List, [], ◌∷◌, ◌++◌, length, Bool, true, false, Option, Some, None, Result, Ok, Err, nat_lt, inl, inr, refl, ap, sym}
use Rattle.std.proofs.Common.{ap₂, subst, ◌∙◌}
use Rattle.std.specs.Prelude.{All}
use Rattle.std.proofs.lemmas.List.Elements.{All-head, All-tail}
use Rattle.bench_types.specs.declared.step.Step.{Step}
use Rattle.kept_edits.specs.declared.edit.KeptEdit.{KeptEdit}
use Rattle.kept_edits.specs.Edits.{plain_edits}
use Rattle.kept_runs.specs.declared.call_order.CallOrder.{CallOrder}
use Rattle.kept_runs.specs.declared.known_limit.KnownLimit.{KnownLimit}
use Rattle.kept_runs.specs.Known.{known_until}
use Rattle.kept_sessions.specs.Runs.{IsKnownRunOf}
use Rattle.kept_sessions.specs.Sessions.{without_edits, KeptView}
use Rattle.settled_runs.proofs.Settlings.{settled_run_is_one}
use Rattle.bench_types.specs.Limits.{max_input, max_steps}
use Rattle.bench_types.specs.Session.{Session}
use Rattle.session_text.specs.declared.bench.Bench.{Bench}
use Rattle.session_text.specs.declared.detail.Detail.{Detail}
use Rattle.session_text.specs.declared.fault.TextFault.{TextFault}
use Rattle.session_text.specs.declared.fault.Why.{Why}
use Rattle.session_text.specs.declared.fault.Why.TheVariants as why
use Rattle.serde_json.specs.Data.{Data}
use Rattle.session_text.specs.Bench.{bench_at, bench_of_text, kept_bench_text}
use Rattle.session_text.specs.KeptEdit.{kept_edit_at, kept_flaw}
use Rattle.session_text.specs.ReadingRules.{◌>>=◌}
use Rattle.session_text.specs.Session.{document}
use Rattle.task_programs.specs.declared.flaw.WorkloadFlaw.{WorkloadFlaw}
use Rattle.workload_text.specs.Documents.{is_workload_text}
use Rattle.edited_workloads.specs.declared.document.EditedWorkload.{EditedWorkload}
use Rattle.edited_workloads.specs.Edited.{edited_workload_text}
use Rattle.session_runs.specs.Run.{RunView}
use Rattle.run_sources.specs.declared.source.Source.{Source}
use Rattle.run_sources.specs.declared.source.Source.TheVariants as source
use Rattle.run_sources.specs.Sources.{IsSourceTooLong}
use Rattle.run_sources.proofs.SourceRuns.{source_run_is_one}
use Rattle.run_comparisons.specs.Pairs.{IsKeptPair, IsSimulatedPair, PairView}
use Rattle.run_comparisons.proofs.OnePair.{kept_pair_is_one, settled_pair_is_one, simulated_pair_is_one}
use Rattle.session_advice.specs.Questions.{Printed as AdvicePrinted}
use Rattle.session_advice.proofs.OneAdvice.{advice_is_one}
use Rattle.shown_runs.specs.declared.shown.Shown.{Shown}
use Rattle.shown_runs.specs.declared.shown.Shown.TheVariants.{One, Two}
use Rattle.shown_runs.specs.Runs.{last_of}
use Rattle.shown_runs.specs.Told.{told}
use Rattle.program_io.specs.declared.output.OutputStatus.{OutputStatus}
use Rattle.program_io.specs.declared.output.OutputStatus.TheVariants.{Fine, Failed, Unknown}
use Rattle.program_io.specs.Hint.{IsFaultHint}
use Rattle.program_io.specs.Outputs.{Printed}
use Rattle.program_io.specs.Refusal.{IsPrintedFault, refusal_line, why_text}
use Rattle.program_io.specs.Twice.{twice_note, twice_note_of_refused, warned}
use Rattle.view_commands.specs.declared.edited.EditedSource.{EditedSource}
use Rattle.view_commands.specs.declared.edited.EditedSource.TheVariants as edited
use Rattle.view_commands.specs.declared.request.Command.{Command}
use Rattle.view_commands.specs.declared.request.Command.TheVariants.{Advise, Show}
use Rattle.view_commands.specs.declared.request.Documents.{Documents}
use Rattle.view_commands.specs.declared.request.Documents.TheVariants as documents
use Rattle.view_commands.specs.declared.request.Job.{Job}
use Rattle.view_commands.specs.Answers.{printed_of_advice, sources_for, AreEnds, IsAnswer, IsJudgedAnswer, IsNoted, IsTold}
use Rattle.view_commands.specs.Commands.{is_json, is_json_fault, is_json_text, unshown_edit, IsPrintedOfBench, IsPrintedOfSession, IsPrintedUnless, IsRefusedOr, IsSame}
use Rattle.view_commands.specs.Commands.{IsPrintedOfDocument, IsPrintedOfNone, IsPrintedOfOther, IsPrintedOfText, IsPrintedOfTicked, IsPrintedOfWorkload}
use Rattle.view_commands.specs.Commands.{IsView, ViewIsOne}
use Rattle.view_commands.specs.EditedSources.{after_of, edit_lines, last_workload, making_of, refused_of, session_source}
use Rattle.view_commands.specs.Known.{known_text, IsToldKnown}
use Rattle.view_commands.specs.Refusals.{refused_lines, simulated_too_long, too_long_input, too_many_steps}
use Rattle.view_commands.specs.ShownRuns.{shows_both, IsPair, IsShown}
use Rattle.view_commands.specs.Strict.{IsJudged, IsRefusing, IsStrict}
use Rattle.view_commands.specs.Ticks.{both_ticked, ticks_of}
use Rattle.view_commands.specs.TooLong.{IsFirstTooLong, IsToldTooLong}
use Rattle.view_commands.proofs.OneCaller.{one_caller}

-- ---- runs that are too long

one_told_too_long : (origin : Source) (refusal other : Printed) → IsToldTooLong origin refusal → IsToldTooLong origin other → refusal ≡ other
one_told_too_long (source.Session session) refusal other one two = absurd one
one_told_too_long (source.Settled session) refusal other one two = one.1 ∙ sym two.1
one_told_too_long (source.Workload workload) refusal other one two =
    one.is_told ∙ ap (λ (c : Option ℕ). simulated_too_long workload.header c) (one_caller workload one.caller two.caller one.is_long two.is_long)
    ∙ sym two.is_told
one_told_too_long (source.Kept made order) refusal other one two = one.1 ∙ sym two.1

told_is_too_long : (origin : Source) (refusal : Printed) → IsToldTooLong origin refusal → IsSourceTooLong origin
told_is_too_long (source.Session session) refusal is = is
told_is_too_long (source.Settled session) refusal is = is.0
told_is_too_long (source.Workload workload) refusal is = is.is_long.long
told_is_too_long (source.Kept made order) refusal is = is.0

one_first : (sources : List Source) (refusal other : Printed) → IsFirstTooLong sources refusal → IsFirstTooLong sources other → refusal ≡ other
one_first [] refusal other one two = absurd one
one_first (origin ∷ sources) refusal other (inl one) (inl two) = one_told_too_long origin refusal other one two
one_first (origin ∷ sources) refusal other (inl one) (inr two) = absurd (two.0 (told_is_too_long origin refusal one))
one_first (origin ∷ sources) refusal other (inr one) (inl two) = absurd (one.0 (told_is_too_long origin other two))
one_first (origin ∷ sources) refusal other (inr one) (inr two) = one_first sources refusal other one.1 two.1

none_first : (sources : List Source) (refusal : Printed) → All (λ one. ¬ IsSourceTooLong one) sources → IsFirstTooLong sources refusal → ⊥
none_first [] refusal short is = is
none_first (origin ∷ sources) refusal short (inl is) =
    All-head (λ (one : Source). ¬ IsSourceTooLong one) origin sources short (told_is_too_long origin refusal is)
none_first (origin ∷ sources) refusal short (inr is) =
    none_first sources refusal (All-tail (λ (one : Source). ¬ IsSourceTooLong one) origin sources short) is.1

-- ---- runs that are shown

-- up to where a run that keeps work is known
one_limit : (order : CallOrder) (made : KeptView) (run : RunView) (limit other : Option KnownLimit) → IsKnownRunOf order made run limit
    → IsKnownRunOf order made run other → limit ≡ other
one_limit order made run limit other one two =
    let first = one.run_is.kept in
    let second = two.run_is.kept in
    let same = settled_run_is_one made.session.header made.session.steps first.settled second.settled first.waiting second.waiting first.is_settled
    second.is_settled in
    one.known ∙ ap (λ (steps : List Step). known_until order made.session made.edits steps run.session.steps) same.0 ∙ sym two.known

one_pair : (made : EditedSource) (pair other : PairView) → IsPair made pair → IsPair made other → pair ≡ other
one_pair (edited.Session both) pair other one two = one ∙ sym two
one_pair (edited.Settled both) pair other one two = settled_pair_is_one both.session both.edits pair other one two
one_pair (edited.Workload both) pair other one two =
    let before = source_run_is_one (source.Workload both.workload) pair.before other.before one.before two.before in
    let after = source_run_is_one (source.Workload (last_workload both)) pair.after other.after one.after two.after in
    let beside = subst (λ (run : RunView). IsSimulatedPair run other.after other) (sym before) two.beside in
    simulated_pair_is_one pair.before pair.after pair other one.beside (subst (λ (run : RunView). IsSimulatedPair pair.before run other) (sym after) beside)
one_pair (edited.Kept both order) pair other one two =
    let edits = plain_edits both.edits in
    let refused = refused_of (edited.Kept both order) in
    let before = source_run_is_one (source.Kept (without_edits both) order) pair.before other.before one.before two.before in
    let after = source_run_is_one (source.Kept both order) pair.after other.after one.after.run_is two.after.run_is in
    let known = one_limit order both pair.after pair.known other.known one.after
    (subst (λ (run : RunView). IsKnownRunOf order both run other.known) (sym after) two.after) in
    let limit = subst (λ (limit : Option KnownLimit). IsKeptPair both.session edits refused limit other.before other.after other) (sym known) two.beside in
    let beside = subst (λ (run : RunView). IsKeptPair both.session edits refused pair.known run other.after other) (sym before) limit in
    kept_pair_is_one both.session edits refused pair.known pair.before pair.after pair other one.beside
    (subst (λ (run : RunView). IsKeptPair both.session edits refused pair.known pair.before run other) (sym after) beside)

one_shown : (both : Bool) (made : EditedSource) (shown other : Shown) → IsShown both made shown → IsShown both made other → shown ≡ other
one_shown false made (One run) (One next) one two = ap (λ (r : RunView). One r) (source_run_is_one (after_of made) run next one two)
one_shown false made (One run) (Two pair) one two = absurd two
one_shown false made (Two pair) other one two = absurd one
one_shown true made (One run) other one two = absurd one
one_shown true made (Two pair) (One run) one two = absurd two
one_shown true made (Two pair) (Two next) one two = ap (λ (p : PairView). Two p) (one_pair made pair next one two)

-- what is told of how far a run is known
one_known : (order : CallOrder) (made : KeptView) (run : RunView) (text other : List ℕ) → IsToldKnown order made run text → IsToldKnown order made run other
    → text ≡ other
one_known order made run text other one two =
    let limit = one_limit order made run one.limit two.limit one.known two.known in
    one.is_told ∙ ap (known_text run.session.header) limit ∙ sym two.is_told

one_end : (reads : Documents) (origin : Source) (run : RunView) (ends other : List ℕ) → AreEnds reads origin run ends → AreEnds reads origin run other
    → ends ≡ other
one_end reads (source.Session session) run ends other one two = one ∙ sym two
one_end reads (source.Settled session) run ends other one two = one ∙ sym two
one_end reads (source.Workload workload) run ends other one two = one ∙ sym two
one_end reads (source.Kept made order) run ends other one two = one_known order made run ends other one two

one_told : (reads : Documents) (command : Command) (made : EditedSource) (printed other : Printed) → IsTold reads command made printed → IsTold reads command made
    other → printed ≡ other
one_told reads (Show asked) made printed other one two =
    let same = one_shown (shows_both asked made) made one.shown two.shown one.is_shown two.is_shown in
    let first = subst (λ (shown : Shown). AreEnds reads (after_of made) (last_of shown) one.ends) same one.are_ends in
    let alike = one_end reads (after_of made) (last_of two.shown) one.ends two.ends first two.are_ends in
    one.is_told ∙ ap₂ (λ (ends : List ℕ) (shown : Shown). warned ends (told (making_of made) asked shown)) alike same ∙ sym two.is_told
one_told reads (Advise question) made printed other one two =
    let same = advice_is_one question (after_of made) one.advised two.advised one.is_advice two.is_advice in
    one.is_printed ∙ ap (λ (advised : AdvicePrinted). printed_of_advice advised.status advised.text) same ∙ sym two.is_printed

-- ---- judged

one_strict : (Refused : Type 0) (status : OutputStatus) (printed judged other : Printed) → IsStrict Refused status printed judged → IsStrict Refused status
    printed other → judged ≡ other
one_strict Refused Fine printed judged other (inl one) (inl two) = one.1 ∙ sym two.1
one_strict Refused Fine printed judged other (inl one) (inr two) = absurd (two.0 one.0)
one_strict Refused Fine printed judged other (inr one) (inl two) = absurd (one.0 two.0)
one_strict Refused Fine printed judged other (inr one) (inr two) = one.1 ∙ sym two.1
one_strict Refused Failed printed judged other one two = one ∙ sym two
one_strict Refused Unknown printed judged other one two = one ∙ sym two

one_judged : (strict : Bool) (Refused : Type 0) (printed judged other : Printed) → IsJudged strict Refused printed judged → IsJudged strict Refused printed
    other → judged ≡ other
one_judged false Refused printed judged other one two = one ∙ sym two
one_judged true Refused printed judged other one two = one_strict Refused printed.status printed judged other one two

one_judged_answer : (reads : Documents) (strict : Bool) (command : Command) (made : EditedSource) (judged other : Printed)
    → IsJudgedAnswer reads strict command made judged → IsJudgedAnswer reads strict command made other → judged ≡ other
one_judged_answer reads strict command made judged other one two =
    let same = one_told reads command made one.printed two.printed one.is_told two.is_told in
    one_judged strict (IsRefusing made) two.printed judged other
    (subst (λ (t : Printed). IsJudged strict (IsRefusing made) t judged) same one.is_judged) two.is_judged

one_answer : (job : Job) (made : EditedSource) (printed other : Printed) → IsAnswer job made printed → IsAnswer job made other → printed ≡ other
one_answer job made printed other (inl one) (inl two) = one_judged_answer job.documents job.strict job.command made printed other one two
one_answer job made printed other (inl one) (inr two) = absurd (none_first (sources_for job.command made) other one.short two)
one_answer job made printed other (inr one) (inl two) = absurd (none_first (sources_for job.command made) printed two.short one)
one_answer job made printed other (inr one) (inr two) = one_first (sources_for job.command made) printed other one two

one_noted : (lines : List ℕ) (job : Job) (made : EditedSource) (printed other : Printed) → IsNoted lines job made printed → IsNoted lines job made other
    → printed ≡ other
one_noted lines job made printed other one two =
    one.is_noted ∙ ap (warned (lines ++ edit_lines made)) (one_answer job made one.answer two.answer one.is_answer two.is_answer) ∙ sym two.is_noted

-- ---- by the input

-- what is told in full is the same
same_printed : (input : List ℕ) (printed other : Printed) → printed ≡ other → IsSame input printed other
same_printed input printed other same = record {
  status = ap (λ (t : Printed). t.status) same;
  text = ap (λ (t : Printed). t.text) same;
  note = λ json. ap
      (λ (t : Printed). t.note) same;
}

-- a refusal, or what is one besides
one_or_refused : (test : Bool) (refused : Printed) (claim other_claim : Type 0) (input : List ℕ) (printed other : Printed) →
    (claim → other_claim → IsSame input printed other) → IsRefusedOr test refused claim printed → IsRefusedOr test refused other_claim other → IsSame input
    printed other
one_or_refused true refused claim other_claim input printed other both one two = same_printed input printed other (one ∙ sym two)
one_or_refused false refused claim other_claim input printed other both one two = both one two

one_of_session : (lines : List ℕ) (job : Job) (input : List ℕ) (bench : Bench KeptEdit) (printed other : Printed) → IsPrintedOfSession lines job bench printed →
    IsPrintedOfSession lines job bench other → IsSame input printed other
one_of_session lines job input bench printed other one two =
    let made : EditedSource = session_source job.sessions (record { header = bench.header; steps = bench.steps }) bench.edits in
    one_or_refused (nat_lt max_steps (length bench.steps)) (warned lines too_many_steps) (IsNoted lines job made printed) (IsNoted lines job made other) input
    printed other (λ first second. same_printed input printed other (one_noted lines job made printed other first second)) one two

one_unless : (found : Option ℕ) (lines : List ℕ) (job : Job) (input : List ℕ) (bench : Bench KeptEdit) (printed other : Printed)
    → IsPrintedUnless found lines job bench printed → IsPrintedUnless found lines job bench other → IsSame input printed other
one_unless (Some place) lines job input bench printed other one two = same_printed input printed other (one ∙ sym two)
one_unless None lines job input bench printed other one two = one_of_session lines job input bench printed other one two

one_of_bench : (lines : List ℕ) (job : Job) (input : List ℕ) (bench : Bench KeptEdit) (printed other : Printed) → IsPrintedOfBench lines job bench printed →
    IsPrintedOfBench lines job bench other → IsSame input printed other
one_of_bench lines job input bench printed other one two =
    one_unless (unshown_edit job.sessions bench.edits) lines job input bench printed other one two

-- a text that is JSON has one hint
one_hint : (input : List ℕ) (why : Why) (path : List ℕ) (more : Detail) (hint other : List ℕ) → is_json_fault why ≡ true → IsFaultHint input why path more hint
    → IsFaultHint input why path more other → hint ≡ other
one_hint input why.NotJson path more hint other json one two = absurd (cc json)
one_hint input why.BadShape path more hint other json one two = one ∙ sym two
one_hint input (why.Bench fault) path more hint other json one two = one ∙ sym two
one_hint input why.NoMemory path more hint other json one two = absurd one

-- of both tests
left_of : (a b : Bool) → (a && b) ≡ true → a ≡ true
left_of true b both = refl
left_of false b both = absurd (cc both)

right_of : (a b : Bool) → (a && b) ≡ true → b ≡ true
right_of true b both = both
right_of false b both = absurd (cc both)

one_of_fault : (input : List ℕ) (fault : TextFault) (printed other : Printed) → (is_json_text input ≡ true → is_json_fault fault.why ≡ true)
    → IsPrintedFault refused_lines input fault printed → IsPrintedFault refused_lines input fault other → IsSame input printed other
one_of_fault input fault printed other told one two = record {
  status = ap (λ (t : Printed). t.status) one.is_printed ∙ sym (ap (λ (t : Printed). t.status) two.is_printed);
  text = ap (λ (t : Printed). t.text) one.is_printed ∙ sym (ap (λ (t : Printed). t.text) two.is_printed);
  note = λ json.
      let hint = one_hint input fault.why fault.path fault.detail one.hint two.hint (told json) one.is_hint two.is_hint in
      ap (λ (t : Printed). t.note) (one.is_printed
      ∙ ap (λ (h : List ℕ). warned (twice_note_of_refused input) (refused_lines (refusal_line (why_text fault.why) fault.path) h)) hint
      ∙ sym two.is_printed);
}

of_bench : (input : List ℕ) (fault : TextFault) → kept_bench_text input ≡ Err fault → is_json_text input ≡ true → is_json_fault fault.why ≡ true
of_bench input fault read json = sym (ap is_json read) ∙ left_of (is_json (kept_bench_text input)) (is_json (edited_workload_text input)) json

of_workload : (input : List ℕ) (fault : TextFault) → edited_workload_text input ≡ Err fault → is_json_text input ≡ true → is_json_fault fault.why ≡ true
of_workload input fault read json = sym (ap is_json read) ∙ right_of (is_json (kept_bench_text input)) (is_json (edited_workload_text input)) json

one_of_text : (job : Job) (input : List ℕ) (text : Result (Bench KeptEdit) TextFault) (printed other : Printed) → kept_bench_text input ≡ text → IsPrintedOfText job input text
    printed → IsPrintedOfText job input text other → IsSame input printed other
one_of_text job input (Ok bench) printed other read one two = one_of_bench (twice_note input) job input bench printed other one two
one_of_text job input (Err fault) printed other read one two = one_of_fault input fault printed other (of_bench input fault read) one two

-- ---- workloads

one_of_ticked : (lines : List ℕ) (job : Job) (made : Result EditedWorkload WorkloadFlaw) (printed other : Printed) → IsPrintedOfTicked lines job made printed
    → IsPrintedOfTicked lines job made other → printed ≡ other
one_of_ticked lines job (Ok made) printed other one two = one_noted lines job (edited.Workload made) printed other one two
one_of_ticked lines job (Err flaw) printed other one two = one ∙ sym two

one_of_workload : (job : Job) (input : List ℕ) (text : Result EditedWorkload TextFault) (printed other : Printed) → edited_workload_text input ≡ text
    → IsPrintedOfWorkload job input text printed → IsPrintedOfWorkload job input text other → IsSame input printed other
one_of_workload job input (Ok made) printed other read one two =
    same_printed input printed other (one_of_ticked (twice_note input) job (both_ticked (ticks_of job.documents) made) printed other one two)
one_of_workload job input (Err fault) printed other read one two = one_of_fault input fault printed other (of_workload input fault read) one two

-- a text that is no JSON is none of a session
no_bench : (input : List ℕ) (fault : TextFault) → document input ≡ Err fault → kept_bench_text input ≡ Err fault
unfolding bench_of_text
no_bench input fault read = ap (λ (r : Result Data TextFault). r >>= (λ d. bench_at kept_edit_at kept_flaw [] d)) read

one_of_none : (input : List ℕ) (text : Result Data TextFault) (printed other : Printed) → document input ≡ text → IsPrintedOfNone input text printed
    → IsPrintedOfNone input text other → IsSame input printed other
one_of_none input (Ok d) printed other read one two = same_printed input printed other (one ∙ sym two)
one_of_none input (Err fault) printed other read one two =
    one_of_fault input fault printed other (of_bench input fault (no_bench input fault read)) one two

one_of_other : (which : Documents) (job : Job) (input : List ℕ) (printed other : Printed) → IsPrintedOfOther which job input printed → IsPrintedOfOther which job
    input other → IsSame input printed other
one_of_other documents.All job input printed other one two = one_of_text job input (kept_bench_text input) printed other refl one two
one_of_other (documents.Workloads ticks) job input printed other one two = one_of_none input (document input) printed other refl one two

one_of_document : (is : Bool) (job : Job) (input : List ℕ) (printed other : Printed) → IsPrintedOfDocument is job input printed → IsPrintedOfDocument is job
    input other → IsSame input printed other
one_of_document true job input printed other one two = one_of_workload job input (edited_workload_text input) printed other refl one two
one_of_document false job input printed other one two = one_of_other job.documents job input printed other one two

pub one_view : ViewIsOne
unfolding IsView
one_view job input printed other one two =
    let is = is_workload_text input in
    one_or_refused (nat_lt max_input (length input)) too_long_input (IsPrintedOfDocument is job input printed) (IsPrintedOfDocument is job input other) input
    printed other (one_of_document is job input printed other) one two
