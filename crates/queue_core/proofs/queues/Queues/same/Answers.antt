use Rattle.std.proofs.Common.{◌≡◌, ◌∙◌, ℕ, true, arith, subst, sym}
use Rattle.std.specs.Bool.{Decides}
use Rattle.std.proofs.lemmas.Bool.Decides.{nat_tests}
use Rattle.std.proofs.lemmas.Slice.Eq.{slice_eq-Decides}
use Rattle.bench_types.specs.declared.kernel_data.QueueLook.{QueueLook}
use Rattle.bench_types.specs.contracts.kernel_data.QueueLookPartialEq.TheImpl as looks
use Rattle.queue_core.proofs.queues.Queues.same.Goals as goal

look : ℕ → ℕ → QueueLook
look length messages = record { length = length; messages = messages }

same_parts : (l k m n : ℕ) → l ≡ k → m ≡ n → look l m ≡ look k n
same_parts l k m n one two = cc

same_look : (a b : QueueLook) → looks.eq-value.it a b ≡ true → a ≡ b
unfolding look
same_look a b same = same_parts a.length b.length a.messages b.messages (grind (arith, nat_tests, same)) (grind (arith, nat_tests, same))

look_itself : (a : QueueLook) → looks.eq-value.it a a ≡ true
look_itself a = grind (arith, nat_tests)

look_decides : (a b : QueueLook) → Decides (looks.eq-value.it a b) (a ≡ b)
look_decides a b = (same_look a b, λ equal. subst (λ x. looks.eq-value.it a x ≡ true) equal (look_itself a))

pub returns : goal.returns
returns c =
    let queues = slice_eq-Decides look_decides c.self.inside.queues.items c.other.inside.queues.items c.eq.result c.eq.ensures in
    (λ yes. sym c.self.view_is ∙ queues.0 yes ∙ c.other.view_is, λ same. queues.1 (c.self.view_is ∙ same ∙ sym c.other.view_is))
