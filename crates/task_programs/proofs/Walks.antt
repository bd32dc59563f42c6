-- A walk of a program without a flaw comes to a work, to a call or to the end.
use Rattle.std.proofs.Common.{◌≡◌, ℕ, zero, suc, ◌+◌, ◌-◌, ◌*◌, ◌<◌, ◌≤◌, ◌==◌, Bool, true, false, not, cond, List, [], ◌∷◌, length, drop, Option, Some, None, is_none, option_and_then, option_map, refl, ap, sym, subst, arith}
use Rattle.std.specs.Prelude.{find, nat_lt, slice_get, ⊤}
use Rattle.std.specs.Option.{option_map_or, option_or}
use Rattle.std.proofs.lemmas.Bool.{and_parts}
use Rattle.std.proofs.lemmas.Bool.Decides.{nat_tests}
use Rattle.std.proofs.lemmas.Option.{slice_get_past}
use Rattle.bench_types.specs.declared.kernel_data.Settings.{Settings}
use Rattle.task_programs.specs.declared.around.Block.{Block}
use Rattle.task_programs.specs.declared.around.Block.TheVariants.{Branch, Body}
use Rattle.task_programs.specs.declared.flaw.InstructionFlaw.{InstructionFlaw}
use Rattle.task_programs.specs.declared.flaw.InstructionFlaw.TheVariants.{Misplaced, NoBody}
use Rattle.task_programs.specs.declared.instruction.Instruction.{Instruction}
use Rattle.task_programs.specs.declared.instruction.Instruction.TheVariants.{Work, Call as Calls, Join, Enter, Again, Break}
use Rattle.task_programs.specs.Programs.{around_next, begins_body, body_flaw, ends_at, flaw_from, innermost, instruction_flaw, is_body, is_body_of, is_branch_to, is_placed, nesting_flaw, own_flaw, place_flaw, program_flaw, reach_flaw, rounds_flaw}
use Rattle.task_programs.specs.Walks.{led_by, next_round, next_walk, walk_after, Walk, WalksCome}
use Rattle.task_programs.proofs.Flaws.{none_of, passes}

negated : (b : Bool) → not b ≡ false → b ≡ true
negated true is = refl
negated false is = absurd (cc is)

-- where an instruction without a flaw leads
abbrev LeadsOn : List Instruction → ℕ → Instruction → Type 0
LeadsOn p i (Work units end) = ⊤
LeadsOn p i (Calls made otherwise end) = ⊤
LeadsOn p i (Join end) = i < end
LeadsOn p i (Enter rounds end) = begins_body (slice_get p (i + 1)) ≡ true
LeadsOn p i (Again body) = begins_body (slice_get p body) ≡ true
LeadsOn p i (Break end) = i < end

-- the bodies around begin well
abbrev Begun : List Instruction → List Block → Type 0
Begun p [] = ⊤
Begun p (Branch until end ∷ outer) = Begun p outer
Begun p (Body body end ∷ outer) = (begins_body (slice_get p body) ≡ true) × Begun p outer

module _ (s : Settings) (p : List Instruction) where
  placed : (a : List Block) (i : ℕ) (x : Instruction) → instruction_flaw s p a i x ≡ None → is_placed p a i x ≡ true
  unfolding instruction_flaw
  placed a i x is =
      let place = (none_of (option_or (reach_flaw p i x) (own_flaw s p a i x)) (place_flaw p a i x) is).1 in
      negated (is_placed p a i x) (passes (not (is_placed p a i x)) Misplaced place)

  begins : (a : List Block) (i : ℕ) (rounds : Option ℕ) (end : ℕ) → instruction_flaw s p a i (Enter rounds end) ≡ None → begins_body (slice_get p (i + 1)) ≡ true
  unfolding instruction_flaw
  begins a i rounds end is =
      let x = Enter rounds end in
      let own = (none_of (reach_flaw p i x) (own_flaw s p a i x) (none_of (option_or (reach_flaw p i x) (own_flaw s p a i x)) (place_flaw p a i x) is).0).1 in
      let body = (none_of (option_or (nesting_flaw a) (rounds_flaw rounds)) (body_flaw p (i + 1)) own).1 in
      negated (begins_body (slice_get p (i + 1))) (passes (not (begins_body (slice_get p (i + 1)))) NoBody body)

  body_there : (a : List Block) (body end : ℕ) → is_body_of body end (innermost a) ≡ true → Begun p a → begins_body (slice_get p body) ≡ true
  body_there [] body end is begun = absurd (cc is)
  body_there (Branch until last ∷ outer) body end is begun = absurd (cc is)
  body_there (Body first last ∷ outer) body end is begun =
      let same : (first == body) ≡ true = (and_parts (first == body) (last == end) is).0 in
      let equal : first ≡ body = grind (arith, nat_tests, same) in
      subst (λ body. begins_body (slice_get p body) ≡ true) equal begun.0

  leads_here : (a : List Block) (i : ℕ) (x : Instruction) → instruction_flaw s p a i x ≡ None → Begun p a → LeadsOn p i x
  leads_here a i (Work units end) is begun = tt
  leads_here a i (Calls made otherwise end) is begun = tt
  leads_here a i (Join end) is begun =
      let on : nat_lt i end ≡ true = (and_parts (nat_lt i end) (is_branch_to (i + 1) end (innermost a)) (placed a i (Join end) is)).0 in
      grind (arith, nat_tests, on)
  leads_here a i (Enter rounds end) is begun = begins a i rounds end is
  leads_here a i (Again body) is begun = body_there a body (i + 1) (placed a i (Again body) is) begun
  leads_here a i (Break end) is begun =
      let on : nat_lt i end ≡ true = (and_parts (nat_lt i end) (ends_at end (find is_body a)) (placed a i (Break end) is)).0 in
      grind (arith, nat_tests, on)

  either : (b : Bool) (until end : ℕ) (a : List Block) → Begun p a → Begun p (cond b a (Branch until end ∷ a))
  either true until end a begun = begun
  either false until end a begun = begun

  outer_begun : (a : List Block) → Begun p a → Begun p (drop 1 a)
  outer_begun [] begun = tt
  outer_begun (Branch until end ∷ outer) begun = begun
  outer_begun (Body body end ∷ outer) begun = begun.1

  begun_on : (a : List Block) (i : ℕ) (x : Instruction) → instruction_flaw s p a i x ≡ None → Begun p a → Begun p (around_next i x a)
  begun_on a i (Work units end) is begun = begun
  begun_on a i (Calls made otherwise end) is begun = either (end == i + 1) otherwise end a begun
  begun_on [] i (Join end) is begun = tt
  begun_on (Branch until last ∷ outer) i (Join end) is begun = either (until == last) last last outer begun
  begun_on (Body body last ∷ outer) i (Join end) is begun = begun.1
  begun_on a i (Enter rounds end) is begun = (begins a i rounds end is, begun)
  begun_on a i (Again body) is begun = outer_begun a begun
  begun_on a i (Break end) is begun = begun

  abbrev told : ℕ → Option InstructionFlaw → Option (ℕ × InstructionFlaw)
  told i flaw = option_map (λ (flaw : InstructionFlaw). (i, flaw)) flaw

  untold : (i : ℕ) (flaw : Option InstructionFlaw) → told i flaw ≡ None → flaw ≡ None
  untold i None is = refl
  untold i (Some flaw) is = absurd (cc is)

  -- each instruction from one on leads on
  leads_from : (a : List Block) (i : ℕ) (rest : List Instruction) → flaw_from s p a i rest ≡ None → Begun p a
      → (k j : ℕ) (x : Instruction) → j ≡ i + k → slice_get rest k ≡ Some x → LeadsOn p j x
  leads_from a i [] is begun k j x there found = absurd (cc found)
  leads_from a i (y ∷ rest) is begun zero j x there found =
      let parts = none_of (told i (instruction_flaw s p a i y)) (flaw_from s p (around_next i y a) (i + 1) rest) is in
      let none = untold i (instruction_flaw s p a i y) parts.0 in
      let same : y ≡ x = cc in
      let at : i ≡ j = omega (arith, there) in
      subst (λ x. LeadsOn p j x) same (subst (λ j. LeadsOn p j y) at (leads_here a i y none begun))
  leads_from a i (y ∷ rest) is begun (suc k) j x there found =
      let parts = none_of (told i (instruction_flaw s p a i y)) (flaw_from s p (around_next i y a) (i + 1) rest) is in
      let none = untold i (instruction_flaw s p a i y) parts.0 in
      let at : j ≡ (i + 1) + k = omega (arith, there) in
      leads_from (around_next i y a) (i + 1) rest parts.1 (begun_on a i y none begun) k j x at found

  leads : program_flaw s p ≡ None → (i : ℕ) (x : Instruction) → slice_get p i ≡ Some x → LeadsOn p i x
  unfolding program_flaw
  leads is i x found = let at : i ≡ 0 + i = omega arith in leads_from [] 0 p is tt i i x at found

module _ (p : List Instruction) where
  -- a walk that has come makes no more moves
  abbrev HasCome : Walk → Type 0
  HasCome walk = is_none (next_walk p walk) ≡ true

  still : (n : ℕ) (walk : Walk) → next_walk p walk ≡ None → HasCome (walk_after p n walk)
  still zero walk is = ap is_none is
  still (suc n) walk is =
      let stays : walk_after p (suc n) walk ≡ walk = ap (λ next. option_map_or (walk_after p n) next walk) is in
      subst HasCome (sym stays) (ap is_none is)

  moved : (n : ℕ) (walk next : Walk) → next_walk p walk ≡ Some next → HasCome (walk_after p n next) → HasCome (walk_after p (suc n) walk)
  moved n walk next is come =
      let goes : walk_after p (suc n) walk ≡ walk_after p n next = ap (λ next. option_map_or (walk_after p n) next walk) is in
      subst HasCome (sym goes) come

  led : (walk : Walk) (found : Option Instruction) → slice_get p walk.index ≡ found → next_walk p walk ≡ option_and_then (led_by walk) found
  led walk found is = ap (option_and_then (led_by walk)) is

  past : (n : ℕ) (walk : Walk) → length p ≤ walk.index → HasCome (walk_after p n walk)
  past n walk end = still n walk (led walk None (slice_get_past p walk.index end))

  abbrev Leads : Type 0
  Leads = (i : ℕ) (x : Instruction) → slice_get p i ≡ Some x → LeadsOn p i x

  -- from where a body begins
  abbrev FromBody : ℕ → Type 0
  FromBody n = (walk : Walk) → length p ≤ walk.index + n → begins_body (slice_get p walk.index) ≡ true → HasCome (walk_after p n walk)

  body_step : Leads → (n : ℕ) → FromBody n → (walk : Walk) (found : Option Instruction) → slice_get p walk.index ≡ found
      → length p ≤ walk.index + suc n → begins_body found ≡ true → HasCome (walk_after p (suc n) walk)
  body_step leads n from walk None is near begins = absurd (cc begins)
  body_step leads n from walk (Some (Work units end)) is near begins = still (suc n) walk (led walk (Some (Work units end)) is)
  body_step leads n from walk (Some (Calls made otherwise end)) is near begins = still (suc n) walk (led walk (Some (Calls made otherwise end)) is)
  body_step leads n from walk (Some (Join end)) is near begins = absurd (cc begins)
  body_step leads n from walk (Some (Enter rounds end)) is near begins =
      let next : Walk = record { index = walk.index + 1; rounds = rounds ∷ walk.rounds } in
      let nearer : length p ≤ (walk.index + 1) + n = omega (arith, near) in
      moved n walk next (led walk (Some (Enter rounds end)) is) (from next nearer (leads walk.index (Enter rounds end) is))
  body_step leads n from walk (Some (Again body)) is near begins = absurd (cc begins)
  body_step leads n from walk (Some (Break end)) is near begins = absurd (cc begins)

  from_body : Leads → (n : ℕ) → FromBody n
  from_body leads zero walk near begins = past zero walk (omega (arith, near))
  from_body leads (suc n) walk near begins =
      body_step leads n (from_body leads n) walk (slice_get p walk.index) refl near begins

  -- from anywhere
  abbrev FromAnywhere : ℕ → Type 0
  FromAnywhere n = (m : ℕ) (walk : Walk) → m + length p ≤ n → length p ≤ walk.index + m → HasCome (walk_after p n walk)

  -- a round over: the next one begins, or the walk goes on behind
  round_over : (n body end : ℕ) (rounds : List (Option ℕ)) → ((rest : List (Option ℕ)) → HasCome (walk_after p n (record { index = body; rounds = rest })))
      → ((rest : List (Option ℕ)) → HasCome (walk_after p n (record { index = end; rounds = rest }))) → HasCome (walk_after p n (next_round body end rounds))
  round_over n body end [] again on = on []
  round_over n body end (None ∷ outer) again on = again (None ∷ outer)
  round_over n body end (Some rounds ∷ outer) again on = chosen (nat_lt 1 rounds)
    where
      chosen : (b : Bool) → HasCome (walk_after p n (cond b (record { index = body; rounds = Some (rounds - 1) ∷ outer }) (record { index = end; rounds = outer })))
      chosen true = again (Some (rounds - 1) ∷ outer)
      chosen false = on outer

  step : Leads → (n : ℕ) → FromAnywhere n → (m : ℕ) (walk : Walk) (found : Option Instruction) → slice_get p walk.index ≡ found
      → suc m + length p ≤ suc n → length p ≤ walk.index + suc m → HasCome (walk_after p (suc n) walk)
  step leads n from m walk None is few near = still (suc n) walk (led walk None is)
  step leads n from m walk (Some (Work units end)) is few near = still (suc n) walk (led walk (Some (Work units end)) is)
  step leads n from m walk (Some (Calls made otherwise end)) is few near = still (suc n) walk (led walk (Some (Calls made otherwise end)) is)
  step leads n from m walk (Some (Join end)) is few near =
      let on : walk.index < end = leads walk.index (Join end) is in
      moved n walk (record { index = end; rounds = walk.rounds }) (led walk (Some (Join end)) is)
      (from m (record { index = end; rounds = walk.rounds }) (omega (arith, few)) (omega (arith, near, on)))
  step leads n from m walk (Some (Enter rounds end)) is few near =
      let next : Walk = record { index = walk.index + 1; rounds = rounds ∷ walk.rounds } in
      moved n walk next (led walk (Some (Enter rounds end)) is) (from m next (omega (arith, few)) (omega (arith, near)))
  step leads n from m walk (Some (Again body)) is few near =
      let body_begins = leads walk.index (Again body) is in
      let again = λ (rest : List (Option ℕ)). from_body leads n (record { index = body; rounds = rest }) (omega (arith, few)) body_begins in
      let on = λ (rest : List (Option ℕ)). from m (record { index = walk.index + 1; rounds = rest }) (omega (arith, few)) (omega (arith, near)) in
      moved n walk (next_round body (walk.index + 1) walk.rounds) (led walk (Some (Again body)) is) (round_over n body (walk.index + 1) walk.rounds again on)
  step leads n from m walk (Some (Break end)) is few near =
      let on : walk.index < end = leads walk.index (Break end) is in
      let next : Walk = record { index = end; rounds = drop 1 walk.rounds } in
      moved n walk next (led walk (Some (Break end)) is) (from m next (omega (arith, few)) (omega (arith, near, on)))

  from_anywhere : Leads → (n : ℕ) → FromAnywhere n
  from_anywhere leads n zero walk few near = past n walk (omega (arith, near))
  from_anywhere leads zero (suc m) walk few near = absurd (omega (arith, few))
  from_anywhere leads (suc n) (suc m) walk few near =
      step leads n (from_anywhere leads n) m walk (slice_get p walk.index) refl few near

pub walks_come : WalksCome
walks_come settings program walk none =
    from_anywhere program (leads settings program none) (2 * length program) (length program) walk (omega arith) (omega arith)
