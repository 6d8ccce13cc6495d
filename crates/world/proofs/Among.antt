-- Queues with their rings: with another state of one, with one more, and without one.
use Rattle.std.proofs.Common.{◌≡◌, ◌≢◌, ℕ, List, [], ◌∷◌, ◌++◌, refl, sym, ap, ◌∙◌, subst, Bool, true, false, Option, Some, None, inl, inr}
use Rattle.std.specs.Prelude.{◌==◌, if◌then◌else◌}
use Rattle.std.proofs.lemmas.Bool.{eq-eqb}
use Rattle.std.proofs.lemmas.Bool.Decides.{eqb_tells}
use Rattle.aql_packet.specs.declared.ids.QueueId.{QueueId}
use Rattle.ring_core.specs.Machine.{Machine}
use Rattle.world.specs.InStep.{AreApart}
use Rattle.world.specs.States.{QueueMachine, Rings, among, leave_out, put, queue_machine}

-- a queue is its number
pub same_queue : (one other : QueueId) → one.0 ≡ other.0 → one ≡ other
same_queue one other e = λ i. record { 0 = e i }

pub differs : (one other : ℕ) → one ≢ other → (one == other) ≡ false
differs one other apart = elim (eqb_tells one other) [ inl e ↦ absurd (apart e.1) | inr e ↦ e.0 ]

pub some_is : {X : Type 0} (x y : X) → Some x ≡ Some y → x ≡ y
some_is x y e = cc

-- ---- the first, and those behind it

at_here : (x : QueueMachine) (xs : Rings) (queue : QueueId) → x.queue.0 ≡ queue.0 → among (x ∷ xs) queue ≡ Some x.ring
at_here x xs queue e = ap (λ b. if b then Some x.ring else among xs queue) (eq-eqb x.queue.0 queue.0 e)

at_there : (x : QueueMachine) (xs : Rings) (queue : QueueId) → x.queue.0 ≢ queue.0 → among (x ∷ xs) queue ≡ among xs queue
at_there x xs queue apart = ap (λ b. if b then Some x.ring else among xs queue) (differs x.queue.0 queue.0 apart)

puts_here : (x : QueueMachine) (xs : Rings) (queue : QueueId) (ring : Machine) → x.queue.0 ≡ queue.0 → put (x ∷ xs) queue ring ≡ queue_machine x.queue ring ∷ xs
puts_here x xs queue ring e = ap (λ b. if b then queue_machine x.queue ring ∷ xs else x ∷ put xs queue ring) (eq-eqb x.queue.0 queue.0 e)

puts_there : (x : QueueMachine) (xs : Rings) (queue : QueueId) (ring : Machine) → x.queue.0 ≢ queue.0 → put (x ∷ xs) queue ring ≡ x ∷ put xs queue ring
puts_there x xs queue ring apart = ap (λ b. if b then queue_machine x.queue ring ∷ xs else x ∷ put xs queue ring) (differs x.queue.0 queue.0 apart)

outs_here : (x : QueueMachine) (xs : Rings) (queue : QueueId) → x.queue.0 ≡ queue.0 → leave_out (x ∷ xs) queue ≡ xs
outs_here x xs queue e = ap (λ b. if b then xs else x ∷ leave_out xs queue) (eq-eqb x.queue.0 queue.0 e)

outs_there : (x : QueueMachine) (xs : Rings) (queue : QueueId) → x.queue.0 ≢ queue.0 → leave_out (x ∷ xs) queue ≡ x ∷ leave_out xs queue
outs_there x xs queue apart = ap (λ b. if b then xs else x ∷ leave_out xs queue) (differs x.queue.0 queue.0 apart)

-- ---- another state of one

pub put_found : (xs : Rings) (queue : QueueId) (was now : Machine) → among xs queue ≡ Some was → among (put xs queue now) queue ≡ Some now
put_found [] queue was now e = absurd (cc)
put_found (x ∷ xs) queue was now e = elim (eqb_tells x.queue.0 queue.0) [
  | inl same ↦ ap (λ rs. among rs queue) (puts_here x xs queue now same.1) ∙ at_here (queue_machine x.queue now) xs queue same.1
  | inr away ↦
      ap (λ rs. among rs queue) (puts_there x xs queue now away.1) ∙ at_there x (put xs queue now) queue away.1
      ∙ put_found xs queue was now (sym (at_there x xs queue away.1) ∙ e)
]

pub put_others : (xs : Rings) (queue other : QueueId) (now : Machine) → other.0 ≢ queue.0 → among (put xs queue now) other ≡ among xs other
put_others [] queue other now apart = refl
put_others (x ∷ xs) queue other now apart = elim (eqb_tells x.queue.0 queue.0) [
  | inl same ↦
      let away : x.queue.0 ≢ other.0 = λ e. apart (sym e ∙ same.1) in
      ap (λ rs. among rs other) (puts_here x xs queue now same.1) ∙ at_there (queue_machine x.queue now) xs other away ∙ sym (at_there x xs other away)
  | inr away ↦
      ap (λ rs. among rs other) (puts_there x xs queue now away.1)
      ∙ elim (eqb_tells x.queue.0 other.0) [
        | inl here ↦ at_here x (put xs queue now) other here.1 ∙ sym (at_here x xs other here.1)
        | inr there ↦ at_there x (put xs queue now) other there.1 ∙ put_others xs queue other now apart ∙ sym (at_there x xs other there.1)
      ]
]

-- of two in turn the second counts
pub put_twice : (xs : Rings) (queue : QueueId) (one other : Machine) → put (put xs queue one) queue other ≡ put xs queue other
put_twice [] queue one other = refl
put_twice (x ∷ xs) queue one other = elim (eqb_tells x.queue.0 queue.0) [
  | inl same ↦
      ap (λ rs. put rs queue other) (puts_here x xs queue one same.1)
      ∙ puts_here (queue_machine x.queue one) xs queue other same.1 ∙ sym (puts_here x xs queue other same.1)
  | inr away ↦
      ap (λ rs. put rs queue other) (puts_there x xs queue one away.1)
      ∙ puts_there x (put xs queue one) queue other away.1 ∙ ap (λ rs. x ∷ rs) (put_twice xs queue one other) ∙ sym (puts_there x xs queue other away.1)
]

-- what a queue has already changes nothing
pub put_its_own : (xs : Rings) (queue : QueueId) (ring : Machine) → among xs queue ≡ Some ring → put xs queue ring ≡ xs
put_its_own [] queue ring e = refl
put_its_own (x ∷ xs) queue ring e = elim (eqb_tells x.queue.0 queue.0) [
  | inl same ↦
      puts_here x xs queue ring same.1
      ∙ ap (λ r. queue_machine x.queue r ∷ xs) (some_is ring x.ring (sym e ∙ at_here x xs queue same.1))
  | inr away ↦ puts_there x xs queue ring away.1 ∙ ap (λ rs. x ∷ rs) (put_its_own xs queue ring (sym (at_there x xs queue away.1) ∙ e))
]

pub apart_put : (xs : Rings) (queue : QueueId) (ring : Machine) → AreApart xs → AreApart (put xs queue ring)
apart_put [] queue ring apart = apart
apart_put (x ∷ xs) queue ring apart = elim (eqb_tells x.queue.0 queue.0) [
  | inl same ↦ subst AreApart (sym (puts_here x xs queue ring same.1)) apart
  | inr away ↦ subst AreApart (sym (puts_there x xs queue ring away.1)) (put_others xs queue x.queue ring away.1 ∙ apart.0, apart_put xs queue ring apart.1)
]

-- ---- one more

pub more_found : (xs : Rings) (queue other : QueueId) (ring : Machine) → queue.0 ≡ other.0 → among xs other ≡ None → among (xs ++ queue_machine queue ring ∷ []) other ≡ Some ring
more_found [] queue other ring is none = at_here (queue_machine queue ring) [] other is
more_found (x ∷ xs) queue other ring is none = elim (eqb_tells x.queue.0 other.0) [
  | inl same ↦ absurd (let never : Some x.ring ≡ None = sym (at_here x xs other same.1) ∙ none in cc)
  | inr away ↦ at_there x (xs ++ queue_machine queue ring ∷ []) other away.1 ∙ more_found xs queue other ring is (sym (at_there x xs other away.1) ∙ none)
]

pub more_others : (xs : Rings) (queue other : QueueId) (ring : Machine) → queue.0 ≢ other.0 → among (xs ++ queue_machine queue ring ∷ []) other ≡ among xs other
more_others [] queue other ring apart = at_there (queue_machine queue ring) [] other apart
more_others (x ∷ xs) queue other ring apart = elim (eqb_tells x.queue.0 other.0) [
  | inl same ↦ at_here x (xs ++ queue_machine queue ring ∷ []) other same.1 ∙ sym (at_here x xs other same.1)
  | inr away ↦ at_there x (xs ++ queue_machine queue ring ∷ []) other away.1 ∙ more_others xs queue other ring apart ∙ sym (at_there x xs other away.1)
]

pub apart_more : (xs : Rings) (queue : QueueId) (ring : Machine) → among xs queue ≡ None → AreApart xs → AreApart (xs ++ queue_machine queue ring ∷ [])
apart_more [] queue ring none apart = (refl, tt)
apart_more (x ∷ xs) queue ring none apart = elim (eqb_tells x.queue.0 queue.0) [
  | inl same ↦ absurd (let never : Some x.ring ≡ None = sym (at_here x xs queue same.1) ∙ none in cc)
  | inr away ↦ (
    more_others xs queue x.queue ring (λ e. away.1 (sym e)) ∙ apart.0,
    apart_more xs queue ring (sym (at_there x xs queue away.1) ∙ none) apart.1,
  )
]

-- ---- without one

pub out_found : (xs : Rings) (queue : QueueId) → AreApart xs → among (leave_out xs queue) queue ≡ None
out_found [] queue apart = refl
out_found (x ∷ xs) queue apart = elim (eqb_tells x.queue.0 queue.0) [
  | inl same ↦ ap (λ rs. among rs queue) (outs_here x xs queue same.1) ∙ ap (among xs) (sym (same_queue x.queue queue same.1)) ∙ apart.0
  | inr away ↦ ap (λ rs. among rs queue) (outs_there x xs queue away.1) ∙ at_there x (leave_out xs queue) queue away.1 ∙ out_found xs queue apart.1
]

pub out_others : (xs : Rings) (queue other : QueueId) → other.0 ≢ queue.0 → among (leave_out xs queue) other ≡ among xs other
out_others [] queue other apart = refl
out_others (x ∷ xs) queue other apart = elim (eqb_tells x.queue.0 queue.0) [
  | inl same ↦ ap (λ rs. among rs other) (outs_here x xs queue same.1) ∙ sym (at_there x xs other (λ e. apart (sym e ∙ same.1)))
  | inr away ↦
      ap (λ rs. among rs other) (outs_there x xs queue away.1)
      ∙ elim (eqb_tells x.queue.0 other.0) [
        | inl here ↦ at_here x (leave_out xs queue) other here.1 ∙ sym (at_here x xs other here.1)
        | inr there ↦ at_there x (leave_out xs queue) other there.1 ∙ out_others xs queue other apart ∙ sym (at_there x xs other there.1)
      ]
]

pub apart_out : (xs : Rings) (queue : QueueId) → AreApart xs → AreApart (leave_out xs queue)
apart_out [] queue apart = apart
apart_out (x ∷ xs) queue apart = elim (eqb_tells x.queue.0 queue.0) [
  | inl same ↦ subst AreApart (sym (outs_here x xs queue same.1)) apart.1
  | inr away ↦ subst AreApart (sym (outs_there x xs queue away.1)) (out_others xs queue x.queue away.1 ∙ apart.0, apart_out xs queue apart.1)
]
