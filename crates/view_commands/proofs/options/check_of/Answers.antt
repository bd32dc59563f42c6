use Rattle.std.proofs.Common.{◌≡◌, ◌∙◌, ◌==◌, ◌&&◌, ◌++◌, Bool, true, false, List, Bor, Some, None, length, flat_map, ap, ap₂, sym, codes, arith, if◌then◌else◌}
use Rattle.std.specs.List.{list_all}
use Rattle.clap.specs.Words.{Text, found_of, rows_of}
use Rattle.report_figures.specs.declared.limits.Bound.TheVariants.{AtMost, AtLeast}
use Rattle.session_reports.specs.Asked.{Asked}
use Rattle.shown_runs.specs.declared.ask.Ask.TheVariants.{Check}
use Rattle.view_commands.specs.Options.{is_limit, limits_from, limits_in, texts_in}
use Rattle.view_commands.proofs.Texts.{lent_are_limits, lent_limits}
use Rattle.view_commands.proofs.options.check_of.Goals as goal

-- whether limits that are lent are well written
abbrev are_lent : List (Bor Text) → List (Bor Text) → Bool
are_lent most least =
    if length most == 0 && length least == 0 then false else (list_all (λ (t : Bor Text). is_limit t.now) most && list_all (λ (t : Bor Text). is_limit t.now)
    least)

abbrev lent : List (Bor Text) → List (Bor Text) → List Asked
lent most least = flat_map (λ (t : Bor Text). limits_from AtMost t.now) most ++ flat_map (λ (t : Bor Text). limits_from AtLeast t.now) least

pub returns-then-not-are_limits : goal.returns-then-not-are_limits
returns-then-not-are_limits c =
    let rows = rows_of (found_of c.args.options.now) in
    let some = texts_in (codes "at-most") rows in
    let more = texts_in (codes "at-least") rows in
    let same = c.are_limits.ensures ∙ ap₂ are_lent c.as_slice-most.ensures.value c.as_slice-least.ensures.value
    ∙ lent_are_limits c.in_ok-most.most.items c.in_ok-least.least.items some more c.in_ok-most.ensures c.in_ok-least.ensures in
    let no : c.are_limits.result ≡ false = grind (arith, c.if-not-are_limits.true) in
    sym (ap (λ (is : Bool). if is then Some (Check (limits_in rows)) else None) (sym same ∙ no))

pub returns : goal.returns
returns c =
    let rows = rows_of (found_of c.args.options.now) in
    let some = texts_in (codes "at-most") rows in
    let more = texts_in (codes "at-least") rows in
    let same = c.are_limits.ensures ∙ ap₂ are_lent c.as_slice-most.ensures.value c.as_slice-least.ensures.value
    ∙ lent_are_limits c.in_ok-most.most.items c.in_ok-least.least.items some more c.in_ok-most.ensures c.in_ok-least.ensures in
    let yes : c.are_limits.result ≡ true = grind (arith, c.if-not-are_limits.false) in
    let limits = c.new.ensures ∙ c.in_ok-limits_in.ensures ∙ ap₂ lent c.as_slice-most.ensures.value c.as_slice-least.ensures.value
    ∙ lent_limits c.in_ok-most.most.items c.in_ok-least.least.items some more c.in_ok-most.ensures c.in_ok-least.ensures in
    (λ t. Some (Check (limits t)))
    ∙ sym (ap (λ (is : Bool). if is then Some (Check (limits_in rows)) else None) (sym same ∙ yes))
