-- From one item to the next.
use Rattle.std.proofs.Common.{◌≡◌, ℕ, suc, ◌+◌, ◌-◌, ◌<◌, ◌≤◌, ◌==◌, true, false, cond, List, length, Some, None, ap, sym, ◌∙◌, arith}
use Rattle.std.specs.Prelude.{nat_le, slice_get}
use Rattle.std.proofs.lemmas.Bool.Decides.{nat_tests}
use Rattle.task_programs.specs.declared.instruction.Instruction.{Instruction}
use Rattle.session_text.specs.declared.fault.TextFault.{TextFault}
use Rattle.session_text.specs.declared.fault.Why.TheVariants.{Bench}
use Rattle.session_text.specs.Path.{item_path, member_path, path_text}
use Rattle.task_programs.specs.declared.flaw.InstructionFlaw.{InstructionFlaw}
use Rattle.task_programs.specs.Flaw.{instruction_fault}
use Rattle.workload_text.specs.Workloads.{instruction_detail}
use Rattle.workload_text.specs.Places.{end_at, item_with, part_of, place_in, place_or}

pub item_on : (program : List Instruction) (index n place first end : ℕ) → place < n → end ≡ end_at program first → end ≤ index
    → item_with program index (n - place) place first ≡ item_with program index (n - (place + 1)) (place + 1) end
item_on p i n place first end within is passed =
    let more : n - place ≡ suc (n - (place + 1)) = omega (arith, within) in
    let test : nat_le (end_at p first) i ≡ true = grind (arith, nat_tests, is, passed) in
    ap (λ most. item_with p i most place first) more
    ∙ ap (λ b. cond b (item_with p i (n - (place + 1)) (place + 1) (end_at p first)) (place, first)) test
    ∙ ap (item_with p i (n - (place + 1)) (place + 1)) (sym is)

-- one list further in
opened : (n : ℕ) → (n ≡ 0 → ⊥) → n ≡ suc (n - 1)
opened n some = omega (arith, some)

module _ (p : List Instruction) (i room : ℕ) (at : List ℕ) (start place first : ℕ) (some : room ≡ 0 → ⊥)
    (is : (place, first) ≡ item_with p i (length p) 0 start) where
  -- what is found, where there is room
  inside : place_in p i room at start
      ≡ cond (first == i) (item_path at place) (place_or (item_path at place) (place_in p i (room - 1)) (part_of i first (slice_get p first)))
  unfolding place_in
  inside = ap (λ room. place_in p i room at start) (opened room some)
      ∙ ap (λ (found : ℕ × ℕ). cond (found.1 == i) (item_path at found.0)
      (place_or (item_path at found.0) (place_in p i (room - 1)) (part_of i found.1 (slice_get p found.1)))) (sym is)

  pub place_here : first ≡ i → place_in p i room at start ≡ item_path at place
  place_here same =
      let test : (first == i) ≡ true = grind (arith, nat_tests, same) in
      inside ∙ ap (λ b. cond b (item_path at place) (place_or (item_path at place) (place_in p i (room - 1)) (part_of i first (slice_get p first)))) test

  apart : (first ≡ i → ⊥) → place_in p i room at start
      ≡ place_or (item_path at place) (place_in p i (room - 1)) (part_of i first (slice_get p first))
  apart other =
      let test : (first == i) ≡ false = grind (arith, nat_tests, other) in
      inside ∙ ap (λ b. cond b (item_path at place) (place_or (item_path at place) (place_in p i (room - 1)) (part_of i first (slice_get p first)))) test

  pub place_alone : (first ≡ i → ⊥) → part_of i first (slice_get p first) ≡ None → place_in p i room at start ≡ item_path at place
  place_alone other none = apart other ∙ ap (place_or (item_path at place) (place_in p i (room - 1))) none

  pub place_within : (first ≡ i → ⊥) → (part : List ℕ × ℕ) → part_of i first (slice_get p first) ≡ Some part
      → place_in p i room at start ≡ place_in p i (room - 1) (member_path (item_path at place) part.0) part.1
  place_within other part found = apart other ∙ ap (place_or (item_path at place) (place_in p i (room - 1))) found

-- the fault of a flaw at a location
abbrev pub told : InstructionFlaw → List ℕ → TextFault
told flaw path = record { why = Bench (instruction_fault flaw); path = path_text path; detail = instruction_detail flaw }
