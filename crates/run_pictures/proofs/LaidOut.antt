-- No bar stands outside its row or beside the columns, and none over another of its kind in a row.
use Rattle.std.proofs.Common.{◌≡◌, ◌<◌, ◌≤◌, ℕ, zero, suc, ◌+◌, ◌-◌, List, [], ◌∷◌, ◌++◌, flat_map, length, length-append, Bool, true, false}
use Rattle.std.proofs.Common.{ap, ◌∙◌, arith}
use Rattle.std.specs.Prelude.{Decides, is_some, slice_get}
use Rattle.std.specs.List.{AllByRecursion, range_with_len}
use Rattle.std.proofs.lemmas.List.{length-replicate}
use Rattle.std.proofs.lemmas.List.Elements.{All-from_recursion}
use Rattle.list_orders.proofs.Filters.{All-append}
use Rattle.list_orders.specs.Search.{numbers}
use Rattle.run_pictures.specs.declared.bar.Bar.{Bar}
use Rattle.run_pictures.specs.declared.frame.Frame.{Frame}
use Rattle.run_pictures.specs.declared.frame.Scale.{Scale}
use Rattle.run_pictures.specs.declared.frame.Scale.TheVariants.{Broad, Widest, Wide, Middle, Narrow, Narrowest}
use Rattle.run_pictures.specs.declared.ink.Ink.TheVariants as ink
use Rattle.run_pictures.specs.declared.run_looks.Made.{Made}
use Rattle.run_pictures.specs.declared.stretch.Stretch.{Stretch}
use Rattle.run_pictures.specs.BarLaws.{columns_begin, FillRow, IsWithinRow, StandApart}
use Rattle.run_pictures.specs.Bars.{step_shape, where_drawn}
use Rattle.run_pictures.specs.Frame.{column_of, pixels, width_between, x_of}
use Rattle.run_pictures.specs.StretchesOf.{stretches_of, values_in, Follow}
use Rattle.run_pictures.proofs.Tiling.{tiled}

-- ---- pixels

pixels_add : (scale : Scale) (a b : ℕ) → pixels scale a + pixels scale b ≡ pixels scale (a + b)
pixels_add Broad a b = omega arith
pixels_add Widest a b = omega arith
pixels_add Wide a b = omega arith
pixels_add Middle a b = omega arith
pixels_add Narrow a b = omega arith
pixels_add Narrowest a b = omega arith

pub pixels_le : (scale : Scale) (a b : ℕ) → a ≤ b → pixels scale a ≤ pixels scale b
pixels_le Broad a b le = omega (arith, le)
pixels_le Widest a b le = omega (arith, le)
pixels_le Wide a b le = omega (arith, le)
pixels_le Middle a b le = omega (arith, le)
pixels_le Narrow a b le = omega (arith, le)
pixels_le Narrowest a b le = omega (arith, le)

-- ---- the bars of one kind in a row

-- at most one bar, over the stretch's places
abbrev pub IsOver : {X : Type 0} → Stretch X → List Bar → Type 0
IsOver stretch [] = Unit {0}
IsOver stretch (bar ∷ []) = (bar.first ≡ stretch.first) × (bar.last ≡ stretch.last)
IsOver stretch (bar ∷ other ∷ bars) = ⊥

pub over_where : {X : Type 0} (drawn : Bool) (stretch : Stretch X) (bar : Bar) → bar.first ≡ stretch.first → bar.last ≡ stretch.last → IsOver stretch
    (where_drawn drawn bar)
over_where true stretch bar first last = (first, last)
over_where false stretch bar first last = tt

pub within_where : {top height : ℕ} (drawn : Bool) (bar : Bar) → IsWithinRow top height bar → AllByRecursion (IsWithinRow top height) (where_drawn drawn bar)
within_where true bar is = (is, tt)
within_where false bar is = tt

-- of a frame that shows so many places
module _ (frame : Frame) (count right : ℕ)
    (climb : (p q : ℕ) → frame.first ≤ p → p ≤ q → q ≤ frame.first + count → column_of frame.columns p ≤ column_of frame.columns q)
    (begun : frame.left ≤ column_of frame.columns frame.first)
    (ending : 0 < count → x_of frame (frame.first + count) ≤ right)
    (least : columns_begin ≤ right) where
  begun_at : (p : ℕ) → frame.first ≤ p → p ≤ frame.first + count → frame.left ≤ column_of frame.columns p
  begun_at p from within = let later = climb frame.first p (omega arith) from within in omega (arith, begun, later)

  ends : (p q : ℕ) → frame.first ≤ p → p ≤ q → suc q ≤ frame.first + count → x_of frame p + width_between frame p q ≡ x_of frame (suc q)
  unfolding x_of width_between
  ends p q from order within =
      let a = column_of frame.columns p in
      let b = column_of frame.columns (suc q) in
      let left = begun_at p from (omega (arith, order, within)) in
      let later = climb p (suc q) from (omega (arith, order)) within in
      let both : a - frame.left + (b - a) ≡ b - frame.left = omega (arith, left, later) in
      omega (arith, pixels_add frame.scale (a - frame.left) (b - a), ap (pixels frame.scale) both)

  x_later : (p q : ℕ) → frame.first ≤ p → p ≤ q → q ≤ frame.first + count → x_of frame p ≤ x_of frame q
  unfolding x_of
  x_later p q from order within =
      let a = column_of frame.columns p in
      let b = column_of frame.columns q in
      let later = climb p q from order within in
      omega (arith, pixels_le frame.scale (a - frame.left) (b - frame.left) (omega (arith, later)))

  x_least : (p : ℕ) → columns_begin ≤ x_of frame p
  unfolding x_of
  x_least p = omega arith

  x_most : (p : ℕ) → 0 < count → frame.first ≤ p → p ≤ frame.first + count → x_of frame p ≤ right
  x_most p some from within = let later = x_later p (frame.first + count) from within (omega arith) in omega (arith, later, ending some)

  module _ {X : Type 0} (shape : Stretch X → List Bar) (over : (stretch : Stretch X) → IsOver stretch (shape stretch)) where
    apart : (place left : ℕ) (stretches : List (Stretch X)) → 0 < count → frame.first ≤ place → Follow place stretches
        → place + length (flat_map values_in stretches) ≤ frame.first + count → left ≤ x_of frame place
        → StandApart frame left right (flat_map shape stretches)
    apart place left [] some from follow within behind = let most = x_most place some from (omega (arith, within)) in omega (arith, behind, most)
    apart place left (stretch ∷ stretches) some from follow within behind =
        at (shape stretch) (over stretch)
        (λ next ahead. apart (suc stretch.last) next stretches some (omega (arith, from, first, order)) follow.2 rest ahead)
      where
        first : stretch.first ≡ place
        first = follow.0

        order : stretch.first ≤ stretch.last
        order = follow.1

        rest : suc stretch.last + length (flat_map values_in stretches) ≤ frame.first + count
        rest = omega (
          arith,
          within,
          first,
          order,
          length-append (values_in stretch) (flat_map values_in stretches),
          length-replicate (suc stretch.last - stretch.first) stretch.value,
        )

        later : x_of frame place ≤ x_of frame (suc stretch.last)
        later = x_later place (suc stretch.last) from (omega (arith, first, order)) (omega (arith, rest))

        at : (bars : List Bar) → IsOver stretch bars
            → ((next : ℕ) → next ≤ x_of frame (suc stretch.last) → StandApart frame next right (flat_map shape stretches))
            → StandApart frame left right (bars ++ flat_map shape stretches)
        at [] is more = more left (omega (arith, behind, later))
        at (bar ∷ []) is more =
            let here : x_of frame bar.first ≡ x_of frame place = ap (x_of frame) (is.0 ∙ first) in
            let wide : x_of frame bar.first + width_between frame bar.first bar.last ≡ x_of frame (suc stretch.last) =
            (λ i. x_of frame (is.0 i) + width_between frame (is.0 i) (is.1 i))
            ∙ ends stretch.first stretch.last (omega (arith, from, first)) order (omega (arith, rest)) in
            (omega (arith, behind, here), more (x_of frame bar.first + width_between frame bar.first bar.last) (omega (arith, wide)))
        at (bar ∷ other ∷ bars) is more = elim is [ ]

    module _ (top height : ℕ) (inside : (stretch : Stretch X) → AllByRecursion (IsWithinRow top height) (shape stretch)) where
      all_inside : (stretches : List (Stretch X)) → AllByRecursion (IsWithinRow top height) (flat_map shape stretches)
      all_inside [] = tt
      all_inside (stretch ∷ stretches) = All-append (IsWithinRow top height) (shape stretch) (flat_map shape stretches) (inside stretch) (all_inside stretches)

      -- the stretches of so many values
      pub fill : (same : X → X → Bool) → ((a b : X) → Decides (same a b) (a ≡ b)) → (values : List X) → length values ≡ count →
          FillRow frame right top height (flat_map shape (stretches_of same frame.first values))
      fill same tells values many = record {
        apart = at values many;
        within = All-from_recursion (IsWithinRow top height) (flat_map shape (stretches_of same frame.first values))
            (all_inside (stretches_of same frame.first values));
      }
        where
          at : (values : List X) → length values ≡ count → StandApart frame columns_begin right (flat_map shape (stretches_of same frame.first values))
          at [] many = least
          at (value ∷ values) many =
              let tiles = tiled same tells frame.first (value ∷ values) in
              apart frame.first columns_begin (stretches_of same frame.first (value ∷ values)) (omega (arith, many)) (omega arith) tiles.follow
              (omega (arith, ap length tiles.cover, many)) (x_least frame.first)

  -- ---- the bars over which steps are told

  module _ (top : ℕ) (made : List Made) where
    steps_apart : (k n left : ℕ) → k + n ≤ count → left ≤ right → left ≤ x_of frame (frame.first + k)
        → StandApart frame left right (flat_map (step_shape frame.first top made) (range_with_len k n))
    steps_apart k zero left within fits behind = fits
    steps_apart k (suc n) left within fits behind =
        at (is_some (slice_get made k))
        (λ next fits_next ahead. steps_apart (k + 1) n next (omega (arith, within)) fits_next ahead)
      where
        next : suc (frame.first + k) ≡ frame.first + (k + 1)
        next = omega arith

        later : x_of frame (frame.first + k) ≤ x_of frame (frame.first + (k + 1))
        later = x_later (frame.first + k) (frame.first + (k + 1)) (omega arith) (omega arith) (omega (arith, within))

        most : x_of frame (frame.first + (k + 1)) ≤ right
        most = x_most (frame.first + (k + 1)) (omega (arith, within)) (omega arith) (omega (arith, within))

        wide : x_of frame (frame.first + k) + width_between frame (frame.first + k) (frame.first + k) ≡ x_of frame (frame.first + (k + 1))
        wide = ends (frame.first + k) (frame.first + k) (omega arith) (omega arith) (omega (arith, within)) ∙ ap (x_of frame) next

        at : (drawn : Bool)
            → ((next : ℕ) → next ≤ right → next ≤ x_of frame (frame.first + (k + 1))
            → StandApart frame next right (flat_map (step_shape frame.first top made) (range_with_len (k + 1) n)))
            → StandApart frame left right (where_drawn drawn
            (record { ink = ink.Clear; first = frame.first + k; last = frame.first + k; y = top; height = 14 })
            ++ flat_map (step_shape frame.first top made) (range_with_len (k + 1) n))
        at false more = more left fits (omega (arith, behind, later))
        at true more = (
          behind,
          more (x_of frame (frame.first + k) + width_between frame (frame.first + k) (frame.first + k)) (omega (arith, wide, most)) (omega (arith, wide)),
        )

    steps_inside : (k n : ℕ) → AllByRecursion (IsWithinRow top 36) (flat_map (step_shape frame.first top made) (range_with_len k n))
    steps_inside k zero = tt
    steps_inside k (suc n) =
        All-append (IsWithinRow top 36) (step_shape frame.first top made k) (flat_map (step_shape frame.first top made) (range_with_len (k + 1) n))
        (within_where (is_some (slice_get made k))
        (record { ink = ink.Clear; first = frame.first + k; last = frame.first + k; y = top; height = 14 })
        (record { above = omega arith; below = omega arith })) (steps_inside (k + 1) n)

    pub fill_steps : FillRow frame right top 36 (flat_map (step_shape frame.first top made) (numbers count))
    fill_steps = record {
      apart = steps_apart 0 count columns_begin (omega arith) least (x_least (frame.first + 0));
      within = All-from_recursion (IsWithinRow top 36) (flat_map (step_shape frame.first top made) (numbers count)) (steps_inside 0 count);
    }
