use Rattle.std.proofs.Common.{◌≡◌, ℕ, ◌<◌, ◌++◌, ◌∷◌, [], List, length, ap, ap₂, subst, sym, ◌∙◌, arith}
use Rattle.std.specs.Prelude.{false}
use Rattle.std.proofs.lemmas.List.{get_or_default}
use Rattle.std.proofs.lemmas.List.Elements.{All-get_or}
use Rattle.std.proofs.lemmas.List.FromFn.{map-range_with_len_more}
use Rattle.run_numbers.specs.declared.counter.Counter.{Counter}
use Rattle.run_numbers.specs.declared.subject.Measured.{Measured}
use Rattle.run_numbers.specs.declared.subject.Reading.{Reading}
use Rattle.run_numbers.specs.declared.subject.Subject.{Subject}
use Rattle.run_numbers.specs.declared.subject.Subject.TheVariants.{NotMade}
use Rattle.run_numbers.specs.Counted.{IsWorkOf}
use Rattle.run_numbers.specs.Counters.{first_counter, HasRoom}
use Rattle.run_numbers.specs.Past.{past}
use Rattle.run_numbers.specs.Progress.{counter_in, measured_at, reading_in, subject_in}
use Rattle.run_numbers.proofs.run.all_measured.Goals as goal

pub reading-reading-requires-clause-room : goal.reading-reading-requires-clause-room
reading-reading-requires-clause-room c =
    let counted = c.args.counted.now in
    let k = c.loop-k.k in
    let within : k < length counted.counters.items = omega (arith, c.loop-k-test.true, c.requires.size) in
    let own : c.index.result.now ≡ counter_in counted.counters.items k =
    c.index.ensures ∙ get_or_default counted.counters.items k _ (first_counter 0 false) within in
    subst (HasRoom (past counted.clock.elapsed counted.clock.places.items)) (sym own) (c.requires.room k c.loop-k-test.true)

pub loop-k-preserved : goal.loop-k-preserved
loop-k-preserved c =
    let counted = c.args.counted.now in
    let counters = counted.counters.items in
    let k = c.loop-k.k in
    let left = c.args.left.now in
    let subjects = c.args.subjects.now in
    let steps = c.args.steps in
    let works = counted.works.items in
    let crowds = counted.crowds.items in
    let so_far = past counted.clock.elapsed counted.clock.places.items in
    let within : k < length counters = omega (arith, c.loop-k-test.true, c.requires.size) in
    let own : c.index.result.now ≡ counter_in counters k = c.index.ensures ∙ get_or_default counters k _ (first_counter 0 false) within in
    let same = get_or_default subjects k _ (NotMade 0) c.loop-k-test.true in
    let reading =
    c.reading-reading.ensures ∙ ap (λ (subject : Subject). reading_in steps so_far works crowds c.index.result.now left subject) same
    ∙ ap (λ (counter : Counter). reading_in steps so_far works crowds counter left (subject_in subjects k)) own in
    let one = ap₂ (λ (subject : Subject) (reading : Reading). record { subject = subject; reading = reading }) same reading in
    c.in_ok-push.ensures.items ∙ ap (λ (m : Measured). c.loop-k.all.items ++ m ∷ []) one
    ∙ ap (λ (ms : List Measured). ms ++ measured_at steps so_far works crowds counters left subjects k ∷ []) c.loop-k.invariant
    ∙ sym (map-range_with_len_more (measured_at steps so_far works crowds counters left subjects) 0 k k (omega arith))

pub reading-reading-requires-clause-work : goal.reading-reading-requires-clause-work
reading-reading-requires-clause-work c =
    let counted = c.args.counted.now in
    let subjects = c.args.subjects.now in
    let k = c.loop-k.k in
    let same = get_or_default subjects k _ (NotMade 0) c.loop-k-test.true in
    let known = All-get_or (IsWorkOf counted.works.items counted.crowds.items) subjects k (NotMade 0) c.loop-k-test.true c.requires.works in
    subst (IsWorkOf counted.works.items counted.crowds.items) (sym same) known
