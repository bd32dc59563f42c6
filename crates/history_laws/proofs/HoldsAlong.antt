-- A core's hold along a history: what other cores record leaves it.
use Rattle.bench_types.specs.Step.{core_of}
use Rattle.std.proofs.Common.{inl, inr, ◌≡◌, ℕ, suc, Bool, true, false, cond, eqb, List, [], ◌∷◌, ◌++◌, length, drop, refl, sym, ap, subst, ◌∙◌, arith}
use Rattle.std.proofs.Common.{append_assoc}
use Rattle.std.specs.Prelude.{All, ◌≢◌, ◌⊎◌}
use Rattle.std.proofs.lemmas.Bool.Decides.{nat_tests}
use Rattle.std.proofs.lemmas.List.{append-nil}
use Rattle.std.proofs.lemmas.List.Elements.{All-head, All-tail, All-drop}
use Rattle.bench_types.specs.declared.entry.Entry.{Entry}
use Rattle.bench_types.specs.declared.header.Header.{Header}
use Rattle.bench_model.specs.History.{end_of, made_by, StartsWith, IsLegal}
use Rattle.bench_model.specs.Holds.{is_held_by}
use Rattle.bench_model.specs.Sound.{IsSound}
use Rattle.history_laws.specs.SoundHistories.{IsSoundHistory}
use Rattle.history_laws.proofs.Legal.{end_empty, end-push}
use Rattle.history_laws.proofs.OwnHolds.{others_held}
use Rattle.history_laws.proofs.Parts.{begins_with_first, begins_with_all, split_at, made-append}

-- a core that has no entry more made none of them
not_its : (core : ℕ) (entry : Entry) (rest : List Entry) → made_by core (entry ∷ rest) ≡ [] → core ≢ entry.core
not_its core entry rest none same = absurd (at (eqb entry.core core) (grind (arith, nat_tests, same)) none)
  where
    at : (b : Bool) → b ≡ true → cond b (entry ∷ made_by core rest) (made_by core rest) ≡ [] → ⊥
    at true is none = cc none
    at false is none = cc is

not_more : (core : ℕ) (entry : Entry) (rest : List Entry) → made_by core (entry ∷ rest) ≡ [] → made_by core rest ≡ []
not_more core entry rest none = at (eqb entry.core core) none
  where
    at : (b : Bool) → cond b (entry ∷ made_by core rest) (made_by core rest) ≡ [] → made_by core rest ≡ []
    at true none = absurd (cc none)
    at false none = none

held_past : (header : Header) (core : ℕ) (rest front : List Entry) → IsSoundHistory header (front ++ rest) → All (λ entry. entry.core ≡ core_of entry.step) rest
    → made_by core rest ≡ [] → is_held_by core (end_of header (front ++ rest)).hold ≡ is_held_by core (end_of header front).hold
held_past header core [] front sound own none = ap (λ es. is_held_by core (end_of header es).hold) (append-nil front)
held_past header core (entry ∷ rest) front sound own none =
    let whole : (front ++ entry ∷ []) ++ rest ≡ front ++ entry ∷ rest = append_assoc front (entry ∷ []) rest in
    let later = held_past header core rest (front ++ entry ∷ []) (subst (IsSoundHistory header) (sym whole) sound)
    (All-tail (λ (entry : Entry). entry.core ≡ core_of entry.step) entry rest own) (not_more core entry rest none) in
    let its : entry.core ≡ core_of entry.step = All-head (λ (entry : Entry). entry.core ≡ core_of entry.step) entry rest own in
    let apart : core ≢ core_of entry.step = λ same. not_its core entry rest none (same ∙ sym its) in
    let step = others_held (end_of header front) entry.step core (sound front (begins_with_first front (entry ∷ rest))) apart in
    ap (λ es. is_held_by core (end_of header es).hold) (sym whole) ∙ later
    ∙ ap (λ table. is_held_by core table.hold) (end-push header front entry) ∙ step

nothing_after : {X : Type 0} (first rest : List X) → first ++ rest ≡ first → rest ≡ []
nothing_after [] rest same = same
nothing_after (x ∷ first) rest same = nothing_after first rest (cc same)

-- whether a core holds the kernel depends on its own entries alone
pub held_as_made : (header : Header) (core : ℕ) (entries first : List Entry) → IsSoundHistory header entries → IsLegal header entries → StartsWith entries first
    → made_by core entries ≡ made_by core first → is_held_by core (end_of header entries).hold ≡ is_held_by core (end_of header first).hold
held_as_made header core entries first sound legal begins same =
    let rest = drop (length first) entries in
    let whole : entries ≡ first ++ rest = split_at entries first begins in
    let none : made_by core rest ≡ [] = nothing_after (made_by core first) (made_by core rest)
    (sym (made-append core first rest) ∙ ap (made_by core) (sym whole) ∙ same) in
    let own = All-drop (λ (entry : Entry). entry.core ≡ core_of entry.step) (length first) entries legal.own in
    ap (λ es. is_held_by core (end_of header es).hold) whole
    ∙ held_past header core rest first (subst (IsSoundHistory header) whole sound) own none

-- a beginning of one entry more is one of those before, or all of it
pub begins_push : {X : Type 0} (items : List X) (last : X) (first : List X) → StartsWith (items ++ last ∷ []) first → StartsWith items first ⊎
    (first ≡ items ++ last ∷ [])
begins_push items last [] begins = inl refl
begins_push [] last (x ∷ []) begins = inr (sym begins)
begins_push [] last (x ∷ (y ∷ first)) begins = absurd (cc begins)
begins_push (item ∷ items) last (x ∷ first) begins = at (begins_push items last first (cc begins))
  where
    at : StartsWith items first ⊎ (first ≡ items ++ last ∷ []) → StartsWith (item ∷ items) (x ∷ first) ⊎ (x ∷ first ≡ item ∷ (items ++ last ∷ []))
    at (inl front) = inl (cc (front, begins))
    at (inr all) = inr (cc (all, begins))
