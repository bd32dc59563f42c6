-- The search for the offset at which a token begins, a byte at a time.
use Rattle.std.proofs.Common.{◌≡◌, ℕ, zero, suc, ◌+◌, ◌-◌, ◌<◌, ◌≤◌, List, ◌∷◌, length, drop, get_or, true, false, cond, Some, None, sym, ap, ◌∙◌, arith}
use Rattle.std.specs.Prelude.{slice_get}
use Rattle.std.proofs.lemmas.List.{at_drop_more, at_drop_all}
use Rattle.text_locations.specs.Starts.{begins_token, mode_after, starts}
use Rattle.text_locations.specs.declared.starts.Mode.{Mode}

turn : (mode : Mode) (at : ℕ) (text : List ℕ) (d : ℕ) (left : ℕ) → at < length text
    → slice_get (starts mode at (drop at text)) left
    ≡ slice_get
    (cond (begins_token mode (get_or text at d)) (at ∷ starts (mode_after mode (get_or text at d)) (at + 1) (drop (at + 1) text))
    (starts (mode_after mode (get_or text at d)) (at + 1) (drop (at + 1) text))) left
turn mode at text d left low = at_drop_more (λ bytes. slice_get (starts mode at bytes) left) text at d low

pub found_start : (mode : Mode) (at : ℕ) (text : List ℕ) (d left : ℕ) → at < length text → begins_token mode (get_or text at d) ≡ true → left ≡ 0 → Some at ≡
    slice_get (starts mode at (drop at text)) left
found_start mode at text d left low begins none =
    let next = starts (mode_after mode (get_or text at d)) (at + 1) (drop (at + 1) text) in
    ap (λ n. slice_get (at ∷ next) n) (sym none) ∙ ap (λ b. slice_get (cond b (at ∷ next) next) left) (sym begins) ∙ sym (turn mode at text d left low)

pub passed_start : (mode : Mode) (at : ℕ) (text : List ℕ) (d left : ℕ) → at < length text → begins_token mode (get_or text at d) ≡ true → 0 < left
    → slice_get (starts mode at (drop at text)) left ≡ slice_get (starts (mode_after mode (get_or text at d)) (at + 1) (drop (at + 1) text)) (left - 1)
passed_start mode at text d left low begins some =
    let next = starts (mode_after mode (get_or text at d)) (at + 1) (drop (at + 1) text) in
    turn mode at text d left low ∙ ap (λ b. slice_get (cond b (at ∷ next) next) left) begins ∙ less next left some
  where
    less : (next : List ℕ) (left : ℕ) → 0 < left → slice_get (at ∷ next) left ≡ slice_get next (left - 1)
    less next zero some = absurd (omega arith)
    less next (suc n) some = let same : n ≡ suc n - 1 = omega arith in ap (slice_get next) same

pub no_start : (mode : Mode) (at : ℕ) (text : List ℕ) (d left : ℕ) → at < length text → begins_token mode (get_or text at d) ≡ false
    → slice_get (starts mode at (drop at text)) left ≡ slice_get (starts (mode_after mode (get_or text at d)) (at + 1) (drop (at + 1) text)) left
no_start mode at text d left low not =
    let next = starts (mode_after mode (get_or text at d)) (at + 1) (drop (at + 1) text) in
    turn mode at text d left low ∙ ap (λ b. slice_get (cond b (at ∷ next) next) left) not

pub starts_end : (mode : Mode) (at : ℕ) (text : List ℕ) (left : ℕ) → length text ≤ at → None ≡ slice_get (starts mode at (drop at text)) left
starts_end mode at text left past = sym (at_drop_all (λ bytes. slice_get (starts mode at bytes) left) text at past)
