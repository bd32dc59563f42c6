use Rattle.std.proofs.Common.{◌≡◌, ℕ, ◌<◌, ◌≤◌, Bool, true, false, ◌&&◌, nat_lt, get_or, length, refl, subst, sym, ◌∙◌, arith}
use Rattle.std.specs.List.{list_any}
use Rattle.std.proofs.lemmas.Bool.Decides.{nat_tests}
use Rattle.std.proofs.lemmas.List.Folds.{list_any_none}
use Rattle.std.proofs.lemmas.List.FromFn.{get_or-range_with_len, length-range_with_len}
use Rattle.list_orders.specs.Search.{numbers}
use Rattle.bench_model.specs.Control.{current, is_allowed}
use Rattle.bench_model.specs.Seek.{effective}
use Rattle.run_numbers.proofs.look.outranks_lowest.Goals as goal

-- none of the numbers below one passes
none_below : (p : ℕ → Bool) (n : ℕ) → ((k : ℕ) → k < n → p k ≡ false) → list_any p (numbers n) ≡ false
none_below p n each = list_any_none p (numbers n) (λ i d low.
    let within : i < n = omega (arith, low, length-range_with_len 0 n) in
    let is : get_or (numbers n) i d ≡ i = omega (arith, get_or-range_with_len 0 n i d within) in
    subst (λ k. p k ≡ false) (sym is) (each i within))

second_fails : (b c : Bool) → c ≡ false → (b && c) ≡ false
second_fails true c is = is
second_fails false c is = refl

pub returns-else-stands_below : goal.returns-else-stands_below
returns-else-stands_below c =
    let control = c.args.kernel.now.control in
    let task = c.args.task in
    let below : effective control task ≤ effective control c.args.lowest =
    grind (arith, nat_tests, sym c.stands_below.ensures ∙ c.if-stands_below.false) in
    c.if-stands_below.false
    ∙ sym (none_below (λ core. is_allowed control core task && nat_lt (effective control (current control core)) (effective control task))
    (length control.cores)
    (λ core low.
    let least = c.requires.lowest core low in
    let fails : nat_lt (effective control (current control core)) (effective control task) ≡ false = grind (arith, nat_tests, below, least) in
    second_fails (is_allowed control core task) _ fails))
