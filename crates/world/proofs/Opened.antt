-- Which queues are open behind an opening and behind a close, and whether a queue was opened.
use Rattle.std.proofs.Common.{◌≡◌, ◌≢◌, ℕ, ◌+◌, ◌≤◌, List, [], ◌∷◌, ◌++◌, refl, sym, ap, ◌∙◌, Bool, true, false, Some, None, inl, inr, arith}
use Rattle.std.specs.Prelude.{◌==◌, ◌&&◌, filter, find, is_some, nat_le, not, option_map, if◌then◌else◌}
use Rattle.std.proofs.lemmas.Bool.{eq-eqb}
use Rattle.std.proofs.lemmas.Bool.Decides.{eqb_tells, leb_tells}
use Rattle.aql_packet.specs.declared.ids.QueueId.{QueueId}
use Rattle.core_model.specs.History.{OpenQueue}
use Rattle.core_model.specs.Queues.{is_queue, opening_in}
use Rattle.world.proofs.Among.{differs}

abbrev pub open_in : List OpenQueue → QueueId → Bool
open_in queues queue = is_some (opening_in queues queue)

-- ---- one queue more

pub more_here : (queues : List OpenQueue) (q : OpenQueue) (queue : QueueId) → q.queue.0 ≡ queue.0 → open_in (queues ++ q ∷ []) queue ≡ true
more_here [] q queue is = ap (λ (b : Bool). is_some (option_map (λ (x : OpenQueue). x.opening) (if b then Some q else None))) (eq-eqb q.queue.0 queue.0 is)
more_here (x ∷ queues) q queue is = by_test (is_queue queue x) (more_here queues q queue is)
  where
    by_test : (b : Bool) → open_in (queues ++ q ∷ []) queue ≡ true
        → is_some (option_map (λ (x : OpenQueue). x.opening) (if b then Some x else find (is_queue queue) (queues ++ q ∷ []))) ≡ true
    by_test true rest = refl
    by_test false rest = rest

pub more_there : (queues : List OpenQueue) (q : OpenQueue) (queue : QueueId) → q.queue.0 ≢ queue.0 → open_in (queues ++ q ∷ []) queue ≡ open_in queues queue
more_there [] q queue apart = ap (λ (b : Bool). is_some (option_map (λ (x : OpenQueue). x.opening) (if b then Some q else None))) (differs q.queue.0 queue.0 apart)
more_there (x ∷ queues) q queue apart = by_test (is_queue queue x) (more_there queues q queue apart)
  where
    by_test : (b : Bool) → open_in (queues ++ q ∷ []) queue ≡ open_in queues queue
        → is_some (option_map (λ (x : OpenQueue). x.opening) (if b then Some x else find (is_queue queue) (queues ++ q ∷ [])))
        ≡ is_some (option_map (λ (x : OpenQueue). x.opening) (if b then Some x else find (is_queue queue) queues))
    by_test true rest = refl
    by_test false rest = rest

-- ---- one queue less

pub less_here : (queues : List OpenQueue) (queue : QueueId) → open_in (filter (λ q. not (is_queue queue q)) queues) queue ≡ false
less_here [] queue = refl
less_here (x ∷ queues) queue = by_test (is_queue queue x) refl (less_here queues queue)
  where
    by_test : (b : Bool) → is_queue queue x ≡ b → open_in (filter (λ q. not (is_queue queue q)) queues) queue ≡ false
        → open_in (if not b then x ∷ filter (λ q. not (is_queue queue q)) queues else filter (λ q. not (is_queue queue q)) queues) queue ≡ false
    by_test true is rest = rest
    by_test false is rest =
        ap (λ (b : Bool). is_some (option_map (λ (x : OpenQueue). x.opening) (if b then Some x else find (is_queue queue) (filter (λ q. not (is_queue queue q)) queues)))) is ∙ rest

pub less_there : (queues : List OpenQueue) (closed queue : QueueId) → queue.0 ≢ closed.0 → open_in (filter (λ q. not (is_queue closed q)) queues) queue ≡ open_in queues queue
less_there [] closed queue apart = refl
less_there (x ∷ queues) closed queue apart =
    elim (eqb_tells x.queue.0 closed.0) [
      | inl same ↦
          ap (λ (b : Bool). open_in (if not b then x ∷ rest else rest) queue) same.0
          ∙ less_there queues closed queue apart
          ∙ ap (λ (b : Bool). is_some (option_map (λ (x : OpenQueue). x.opening) (if b then Some x else find (is_queue queue) queues))) (sym (differs x.queue.0 queue.0 (λ e. apart (sym e ∙ same.1))))
      | inr away ↦
          ap (λ (b : Bool). open_in (if not b then x ∷ rest else rest) queue) away.0
          ∙ by_test (is_queue queue x) (less_there queues closed queue apart)
    ]
  where
    rest : List OpenQueue
    rest = filter (λ q. not (is_queue closed q)) queues

    by_test : (b : Bool) → open_in rest queue ≡ open_in queues queue
        → is_some (option_map (λ (x : OpenQueue). x.opening) (if b then Some x else find (is_queue queue) rest))
        ≡ is_some (option_map (λ (x : OpenQueue). x.opening) (if b then Some x else find (is_queue queue) queues))
    by_test true same = refl
    by_test false same = same

-- ---- whether a number is one of so many, from 1 on

pub le_true : (a b : ℕ) → a ≤ b → nat_le a b ≡ true
le_true a b le = elim (leb_tells a b) [ inl e ↦ e.0 | inr e ↦ absurd (omega (arith, le, e.1)) ]

pub le_false : (a b : ℕ) → b + 1 ≤ a → nat_le a b ≡ false
le_false a b lt = elim (leb_tells a b) [ inl e ↦ absurd (omega (arith, lt, e.1)) | inr e ↦ e.0 ]

-- with one more they are the same, but for the last
pub among_old : (number count : ℕ) → number ≢ count + 1 → (nat_le 1 number && nat_le number (count + 1)) ≡ (nat_le 1 number && nat_le number count)
among_old number count apart = ap (λ (b : Bool). nat_le 1 number && b) (by_order)
  where
    by_order : nat_le number (count + 1) ≡ nat_le number count
    by_order = elim (leb_tells number count) [
      | inl e ↦ le_true number (count + 1) (omega (arith, e.1)) ∙ sym e.0
      | inr e ↦ elim (leb_tells number (count + 1)) [ inl f ↦ absurd (apart (omega (arith, e.1, f.1))) | inr f ↦ f.0 ∙ sym e.0 ]
    ]

pub among_new : (number count : ℕ) → number ≡ count + 1 → (nat_le 1 number && nat_le number (count + 1)) ≡ true
among_new number count is = (λ i. le_true 1 number (omega (arith, is)) i && le_true number (count + 1) (omega (arith, is)) i)

pub not_among : (number count : ℕ) → number ≡ count + 1 → (nat_le 1 number && nat_le number count) ≡ false
not_among number count is = ap (λ (b : Bool). nat_le 1 number && b) (le_false number count (omega (arith, is))) ∙ and_false (nat_le 1 number)
  where
    and_false : (b : Bool) → (b && false) ≡ false
    and_false true = refl
    and_false false = refl

pub none_among : (number : ℕ) → (nat_le 1 number && nat_le number 0) ≡ false
none_among number = elim (leb_tells 1 number) [
  | inl e ↦ ap (λ (b : Bool). nat_le 1 number && b) (le_false number 0 (omega (arith, e.1))) ∙ ap (λ (b : Bool). b && false) e.0
  | inr e ↦ ap (λ (b : Bool). b && nat_le number 0) e.0
]
