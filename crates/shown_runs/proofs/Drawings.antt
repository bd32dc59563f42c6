-- What is written where a picture was asked for.
use Rattle.std.proofs.Common.{◌≡◌, ℕ, List, [], Bool, true, false, Result, Ok, Err, IfOk, Global, nat_lt, arith, sym, ap, subst, ◌∙◌}
use Rattle.std.specs.Prelude.{Option, None, String, if◌then◌else◌}
use Rattle.std.proofs.lemmas.Bool.Decides.{nat_tests}
use Rattle.run_pictures.specs.declared.picture.TooLong.{TooLong}
use Rattle.bench_types.specs.Session.{Session}
use Rattle.run_pictures.specs.declared.picture.Extent.{Extent}
use Rattle.run_pictures.specs.Drawn.{Drawn}
use Rattle.run_pictures.specs.Limits.{max_places}
use Rattle.run_pictures.specs.Picture.{count_of, count_of_both, picture_text, pictures_text, Answers}
use Rattle.program_io.specs.Outputs.{Printed, fine}
use Rattle.shown_runs.specs.Pictures.{answer_output, drawn_in, picture_of_run, picture_of_runs, picture_or, refused_long}

-- an answer is the picture, or that it would be too long
answered : (count : ℕ) (picture : List ℕ) (answer : Result (String Global) TooLong) → Answers count picture answer → answer_output answer ≡ picture_or count
    picture
answered count picture (Ok text) printed =
    let few : nat_lt max_places count ≡ false = grind (arith, nat_tests, printed.0) in
    ap fine printed.1 ∙ sym (ap (λ (many : Bool). if many then refused_long count else fine picture) few)
answered count picture (Err why) printed =
    let many : nat_lt max_places count ≡ true = grind (arith, nat_tests, printed.0) in
    ap refused_long printed.1 ∙ sym (ap (λ (many : Bool). if many then refused_long count else fine picture) many)

-- the bytes of an answer
pictured : {E : Type 0} (count : ℕ) (picture : List ℕ) (answer : Result (String Global) TooLong) (result : Result Printed E) → Answers count picture answer →
    IfOk result (λ shown. shown ≡ answer_output answer) → IfOk result (λ shown. shown ≡ picture_or count picture)
pictured count picture answer (Err e) answers printed = tt
pictured count picture answer (Ok text) answers printed = printed ∙ answered count picture answer answers

-- of one run that is that
pub run_pictured : {E : Type 0} (extent : Extent) (session : Session) (one : Drawn) (answer : Result (String Global) TooLong) (result : Result Printed E) → one ≡
    drawn_in extent [] None session session session → Answers (count_of extent.places one) (picture_text extent.places extent.axis one) answer
    → IfOk result (λ shown. shown ≡ answer_output answer) → IfOk result (λ shown. shown ≡ picture_of_run extent session)
run_pictured extent session one answer result is answers printed =
    let run = drawn_in extent [] None session session session in
    pictured (count_of extent.places run) (picture_text extent.places extent.axis run) answer result
    (subst (λ (drawn : Drawn). Answers (count_of extent.places drawn) (picture_text extent.places extent.axis drawn) answer) is answers) printed

-- of two runs
pub runs_pictured : {E : Type 0} (extent : Extent) (before after : Drawn) (answer : Result (String Global) TooLong) (result : Result Printed E) → Answers
    (count_of_both extent.places before after) (pictures_text extent.places extent.axis before after) answer
    → IfOk result (λ shown. shown ≡ answer_output answer) → IfOk result (λ shown. shown ≡ picture_of_runs extent before after)
runs_pictured extent before after answer result answers printed = pictured (count_of_both extent.places before after)
    (pictures_text extent.places extent.axis before after) answer result answers printed

-- of two runs that are those
pub same_pictured : {E : Type 0} (extent : Extent) (before after one other : Drawn) (answer : Result (String Global) TooLong) (result : Result Printed E) → one ≡
    before → other ≡ after → Answers (count_of_both extent.places one other) (pictures_text extent.places extent.axis one other) answer
    → IfOk result (λ shown. shown ≡ answer_output answer) → IfOk result (λ shown. shown ≡ picture_of_runs extent before after)
same_pictured extent before after one other answer result is is_too answers printed =
    runs_pictured extent before after answer result
    (subst (λ (run : Drawn). Answers (count_of_both extent.places before run) (pictures_text extent.places extent.axis before run) answer) is_too
    (subst (λ (run : Drawn). Answers (count_of_both extent.places run other) (pictures_text extent.places extent.axis run other) answer) is answers))
    printed

-- a run, each of whose places is drawn at a column, and known up to a place
abbrev pub with_columns : Session → Option ℕ → List ℕ → Drawn
with_columns session known columns = record { header = session.header; steps = session.steps; columns = columns; known = known }
