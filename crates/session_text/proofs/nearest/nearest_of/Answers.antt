use Rattle.std.proofs.Common.{ℕ, List, [], take, get_or, map, Bor, sym, ◌∙◌, subst, arith}
use Rattle.std.proofs.lemmas.List.{map_more, take_all}
use Rattle.session_text.specs.Nearest.{distance, nearest_of}
use Rattle.session_text.proofs.NearWords.{Holds, found_by, holds_next, holds_same}
use Rattle.session_text.proofs.nearest.nearest_of.Goals as goal
use Rattle.session_text.proofs.nearest.nearest_of.Goals.{then-is_nearer, else-is_nearer}

pub loop-word-preserved : goal.loop-word-preserved
loop-word-preserved c =
    let text = c.args.text.now in
    let words = c.args.words.now in
    let seen = map (λ (word : Bor (List ℕ)). word.now) (take c.loop-word.word-index words) in
    let word = get_or words c.loop-word.word-index (record { ref_ptr = (0, 0); now = [] }) in
    let more = map_more (λ (word : Bor (List ℕ)). word.now) words c.loop-word.word-index (record { ref_ptr = (0, 0); now = [] }) c.loop-word-test.true in
    elim c.if-is_nearer.branch [
      | then-is_nearer w ↦ rw (more, w.best-is) (holds_next text seen c.loop-word.best (record { word = word; distance = c.in_ok-distance.distance })
          c.loop-word.invariant c.in_ok-distance.ensures.value (sym w.if-is_nearer.ensures))
      | else-is_nearer w ↦ rw (more, w.best-is) (holds_same text seen c.loop-word.best (record { word = word; distance = c.in_ok-distance.distance })
          c.loop-word.invariant c.in_ok-distance.ensures.value (sym w.if-is_nearer.ensures))
    ]

pub returns : goal.returns
unfolding nearest_of
returns c =
    let words = c.args.words.now in
    let all = take_all c.loop-word.word-index words (omega (arith, c.loop-word-test.false)) in
    let held = subst (λ seen. Holds c.args.text.now (map (λ word. word.now) seen) c.loop-word.best) all c.loop-word.invariant in
    c.word_of.ensures ∙ found_by (distance c.args.text.now) (map (λ word. word.now) words) _ held.kept
