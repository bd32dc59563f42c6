use Rattle.std.proofs.Common.{◌≡◌, ℕ, ◌*◌, ◌<◌, ◌≤◌, ◌%◌, ◌^◌, ◌∙◌, ◌&&◌, Bool, true, false, not, eqb, bit_and, length, w32, refl, ap, sym, arith}
use Rattle.std.specs.Int.{bit_not, trailing_zeros}
use Rattle.std.proofs.lemmas.Bool.Decides.{nat_tests}
use Rattle.std.proofs.lemmas.Nat.Bits.{bit_at-zero}
use Rattle.bench_model.specs.Control.{is_due}
use Rattle.bench_model.specs.Cores.{CoresView}
use Rattle.ready_core.specs.Fields.{is_set}
use Rattle.ready_core.proofs.Marks.{less_bits, lowest_bit}
use Rattle.ready_core.proofs.Seats.{bit_cleared}
use Rattle.ready_core.proofs.Slices.{due_stays, size_stays, slice_more, slice_none, sliced_on, sliced_off}
use Rattle.ready_core.proofs.cores.Cores.slice.Goals as goal

pub loop-rest-init : goal.loop-rest-init
loop-rest-init c =
    let view = c.self.view_is in
    let undue = c.self.inside.undue in
    let bit = λ (core : ℕ). c.self.invariant.marks.at_bit core in
    record {
      so_far = slice_none c.args.self.now (λ core. not (is_set undue core))
          (λ core low off. sym (ap (λ (v : CoresView). is_due v.control core) view) ∙ grind
          (arith, nat_tests, off, bit core, low, ap (λ (v : CoresView). length v.control.cores) view));
      left = λ core on.
          let both = sym (bit core) ∙ on in (
            grind (arith, nat_tests, both, ap (λ (v : CoresView). length v.control.cores) view),
            sym (ap (λ (v : CoresView). is_due v.control core) view) ∙ grind
                (arith, both),
          );
    }

pub end_slice-requires-clause-core : goal.end_slice-requires-clause-core
end_slice-requires-clause-core c =
    let found = lowest_bit c.loop-rest.rest c.loop-rest-test.true (omega (arith, c.loop-rest.auto.rest-fits)) in
    omega (
      arith,
      (c.loop-rest.invariant.left (trailing_zeros w32 c.loop-rest.rest) found.1).0,
      size_stays c.args.self.now c.loop-rest.self
          (λ core. not (is_set c.loop-rest.rest core)) c.loop-rest.invariant.so_far,
    )

pub end_slice-requires-clause-undue : goal.end_slice-requires-clause-undue
end_slice-requires-clause-undue c =
    let found = lowest_bit c.loop-rest.rest c.loop-rest-test.true (omega (arith, c.loop-rest.auto.rest-fits)) in
    let core = trailing_zeros w32 c.loop-rest.rest in
    let left = c.loop-rest.invariant.left core found.1 in
    due_stays c.args.self.now c.loop-rest.self (λ core. not (is_set c.loop-rest.rest core)) core left.0 c.loop-rest.invariant.so_far (ap not found.1) ∙ left.1

pub loop-rest-smaller : goal.loop-rest-smaller
loop-rest-smaller c =
    let found = lowest_bit c.loop-rest.rest c.loop-rest-test.true (omega (arith, c.loop-rest.auto.rest-fits)) in
    less_bits c.loop-rest.rest (trailing_zeros w32 c.loop-rest.rest) found.0 found.1

pub loop-rest-preserved : goal.loop-rest-preserved
loop-rest-preserved c =
    let rest = c.loop-rest.rest in
    let found = lowest_bit rest c.loop-rest-test.true (omega (arith, c.loop-rest.auto.rest-fits)) in
    let core = trailing_zeros w32 rest in
    let left = c.loop-rest.invariant.left core found.1 in
    let few : length c.args.self.now.control.cores ≤ 32 = omega (
      arith,
      c.self.invariant.shape.few_cores,
      ap (λ (v : CoresView). length v.control.cores)
          c.self.view_is,
    ) in
    let far : (d : ℕ) → 32 ≤ d → is_set rest d ≡ false = λ d over. off_past rest d (length c.args.self.now.control.cores)
    (λ there. (c.loop-rest.invariant.left d there).0) (omega (arith, few, over)) in
    let bits : (d : ℕ) → is_set (bit_and rest (bit_not w32 (1 * 2 ^ core % 4294967296))) d ≡ (not (eqb d core) && is_set rest d) = λ d. bit_cleared rest core d
    found.0 (far d) in
    record {
      so_far = c.end_slice.ensures ∙ slice_more c.args.self.now c.loop-rest.self (λ d. not (is_set rest d))
          (λ d. not (is_set (bit_and rest (bit_not w32 (1 * 2 ^ core % 4294967296))) d)) core left.0 c.loop-rest.invariant.so_far (ap not found.1)
          (ap not (bits core) ∙ grind (arith, nat_tests)) (λ d apart. ap not (sym (bits d ∙ grind (arith, nat_tests, apart))));
      left = λ d there. c.loop-rest.invariant.left d (let both = sym (bits d) ∙ there in grind (arith, both));
    }
  where
    off_past : (rest d n : ℕ) → (is_set rest d ≡ true → d < n) → n ≤ d → is_set rest d ≡ false
    off_past rest d n low past = at (is_set rest d) low
      where
        at : (b : Bool) → (b ≡ true → d < n) → b ≡ false
        at true under = absurd (omega (arith, under refl, past))
        at false under = refl

pub returns-after-loop-rest : goal.returns-after-loop-rest
returns-after-loop-rest c =
    c.loop-rest.invariant.so_far
    ∙ sliced_on c.args.self.now (λ core. not (is_set c.loop-rest.rest core)) (ap (λ (v : CoresView). v.slicing) (sym c.self.view_is) ∙ c.if-self.true)
    (λ core. ap (λ n. not (is_set n core)) c.loop-rest-test.false ∙ ap (λ b. not (eqb b 1)) (bit_at-zero core) ∙ grind (arith, nat_tests))

pub returns-else-self : goal.returns-else-self
returns-else-self c = sliced_off c.args.self.now (ap (λ (v : CoresView). v.slicing) (sym c.self.view_is) ∙ c.if-self.false)
