-- A row in words: a mark, the places before and after the edits, the step, and what it led to.
use Rattle.std.specs.Prelude.{ℕ, List, [], ◌++◌, codes, decimal, Bool, true, not, ◌&&◌, Option, Some, None, if◌then◌else◌}
use Rattle.std.specs.Str.{bytes_eq}
use Rattle.bench_types.specs.Session.{Session}
use Rattle.run_comparisons.specs.declared.rows.Row.{Row}
use Rattle.run_comparisons.specs.declared.rows.Row.TheVariants.{Both, Removed, Inserted}
use Rattle.run_comparisons.specs.Printed.{Words, printed_at}

abbrev pub place_text : Option ℕ → List ℕ
place_text None = codes " -"
place_text (Some place) = codes " " ++ decimal place

abbrev pub head_text : List ℕ → Option ℕ → Option ℕ → List ℕ
head_text mark before after = mark ++ place_text before ++ place_text after

abbrev pub line_of : Words → List ℕ
line_of printed = codes " " ++ printed.words ++ codes ": " ++ printed.outcome

-- the words and what they led to are the same
abbrev pub are_same : Words → Words → Bool
are_same before after =
    bytes_eq before.words after.words && bytes_eq before.outcome after.outcome

-- the words of the step only where they are others
abbrev pub later_text : Words → Words → List ℕ
later_text before after =
    if bytes_eq before.words after.words then codes " " ++ after.outcome else line_of after

-- where the two are the same one of them, else both
abbrev pub both_text : Words → Words → List ℕ
both_text before after =
    line_of before ++ (if are_same before after then [] else codes " ->" ++ later_text before after)

abbrev pub same_mark : Bool → List ℕ
same_mark same = if same then codes " " else codes "|"

abbrev pub both_line : ℕ → ℕ → Words → Words → List ℕ
both_line before after old new =
    head_text (same_mark (are_same old new)) (Some before) (Some after) ++ both_text old new
    ++ codes "\n"

abbrev pub alone_line : List ℕ → Option ℕ → Option ℕ → Words → List ℕ
alone_line mark before after printed = head_text mark before after ++ line_of printed ++ codes "\n"

-- the line of a row of the session before the edits and that after them
abbrev pub row_line : Session → Session → Row → List ℕ
row_line before after (Both old new) =
    both_line old new (printed_at before old) (printed_at after new)
row_line before after (Removed old) =
    alone_line (codes "-") (Some old) None (printed_at before old)
row_line before after (Inserted new) =
    alone_line (codes "+") None (Some new) (printed_at after new)

-- whether the runs differ there
abbrev pub differs : Session → Session → Row → Bool
differs before after (Both old new) = not (are_same (printed_at before old) (printed_at after new))
differs before after (Removed old) = true
differs before after (Inserted new) = true
