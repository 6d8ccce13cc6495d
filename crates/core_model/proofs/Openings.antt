-- Which queues are open: one that is opened gets a new number, and one that is closed is gone for good.
use Rattle.std.proofs.Common.{◌≡◌, ℕ, ◌+◌, ◌<◌, ◌≤◌, List, [], ◌∷◌, ◌++◌, length, refl, sym, ◌∙◌, ap, subst, Bool, true, false, Option, Some, None, append_assoc, arith}
use Rattle.std.specs.Prelude.{All, ◌==◌, ◌||◌, filter, find, fold, not, option_map, if◌then◌else◌}
use Rattle.std.specs.List.{list_any}
use Rattle.std.proofs.lemmas.Bool.{eq-eqb, eqb-true}
use Rattle.std.proofs.lemmas.List.{append-nil}
use Rattle.std.proofs.lemmas.List.Elements.{All-filter, All-head, All-nil, All-push, All-tail, All-weaker}
use Rattle.aql_packet.specs.declared.ids.QueueId.{QueueId}
use Rattle.core_model.specs.declared.call.Call.TheVariants.{Grant, Revoke, Stop, Close, RunNext, Poll, Finish, HostWrite, ChangeSignal}
use Rattle.core_model.specs.declared.entry.Entry.{Entry}
use Rattle.core_model.specs.declared.event.Event.{Event}
use Rattle.core_model.specs.declared.event.Event.TheVariants.{Open, Take, Reload, Call}
use Rattle.core_model.specs.History.{OpenQueue, Opening, Openings, Start, opening_state}
use Rattle.core_model.specs.Queues.{closes_queue, is_queue, next_queue, opening_in, openings, openings_after, owner, with_queue, without_queue}
use Rattle.core_model.specs.Legal.{IsLegal}
use Rattle.core_model.proofs.Lists.{found-all, found-passes}
use Rattle.core_model.proofs.More.{openings-more}

-- ---- what is found in a list that grows, or of which something is left out

find-stays : {X : Type 0} (test : X → Bool) (xs more : List X) (x : X) → find test xs ≡ Some x → find test (xs ++ more) ≡ Some x
find-stays test [] more x is = absurd cc
find-stays test (y ∷ ys) more x is = by_test (test y) is (find-stays test ys more x)
  where
    by_test : (b : Bool) → (if b then Some y else find test ys) ≡ Some x → (find test ys ≡ Some x → find test (ys ++ more) ≡ Some x) → (if b then Some y else find test (ys ++ more)) ≡ Some x
    by_test true is rest = is
    by_test false is rest = rest is

find-last : {X : Type 0} (test : X → Bool) (xs : List X) (x : X) → find test xs ≡ None → find test (xs ++ x ∷ []) ≡ (if test x then Some x else None)
find-last test [] x none = refl
find-last test (y ∷ ys) x none = by_test (test y) none (find-last test ys x)
  where
    by_test : (b : Bool) → (if b then Some y else find test ys) ≡ None → (find test ys ≡ None → find test (ys ++ x ∷ []) ≡ (if test x then Some x else None))
        → (if b then Some y else find test (ys ++ x ∷ [])) ≡ (if test x then Some x else None)
    by_test true none rest = absurd cc
    by_test false none rest = rest none

-- one that is sought isn't left out
find-kept : {X : Type 0} (test keep : X → Bool) → ((x : X) → test x ≡ true → keep x ≡ true) → (xs : List X) → find test (filter keep xs) ≡ find test xs
find-kept test keep each [] = refl
find-kept test keep each (x ∷ xs) = by_tests (test x) refl (keep x) refl (find-kept test keep each xs)
  where
    by_tests : (t : Bool) → test x ≡ t → (k : Bool) → keep x ≡ k → find test (filter keep xs) ≡ find test xs
        → find test (if k then x ∷ filter keep xs else filter keep xs) ≡ (if t then Some x else find test xs)
    by_tests true is true kept rest = ap (λ (b : Bool). if b then Some x else find test (filter keep xs)) is
    by_tests false is true kept rest = ap (λ (b : Bool). if b then Some x else find test (filter keep xs)) is ∙ rest
    by_tests true is false kept rest = let stays : keep x ≡ true = each x is in absurd cc
    by_tests false is false kept rest = rest

-- of those that don't pass a test none does
find-none : {X : Type 0} (test : X → Bool) (xs : List X) → find test (filter (λ x. not (test x)) xs) ≡ None
find-none test [] = refl
find-none test (x ∷ xs) = by_test (test x) refl (find-none test xs)
  where
    by_test : (b : Bool) → test x ≡ b → find test (filter (λ y. not (test y)) xs) ≡ None
        → find test (if not b then x ∷ filter (λ y. not (test y)) xs else filter (λ y. not (test y)) xs) ≡ None
    by_test true is rest = rest
    by_test false is rest = ap (λ (c : Bool). if c then Some x else find test (filter (λ y. not (test y)) xs)) is ∙ rest

-- ---- a queue among those that are open

abbrev IsNumbered : List OpenQueue → QueueId → Option OpenQueue → Type 0
IsNumbered queues queue found = find (is_queue queue) queues ≡ found

found-queue : (queues : List OpenQueue) (queue : QueueId) (opening : Opening) → opening_in queues queue ≡ Some opening → (q : OpenQueue) × IsNumbered queues queue (Some q)
found-queue queues queue opening is = by_found (find (is_queue queue) queues) refl is
  where
    by_found : (found : Option OpenQueue) → IsNumbered queues queue found → option_map (λ q. q.opening) found ≡ Some opening → (q : OpenQueue) × IsNumbered queues queue (Some q)
    by_found None there is = absurd cc
    by_found (Some q) there is = (q, there)

none-queue : (queues : List OpenQueue) (queue : QueueId) → opening_in queues queue ≡ None → IsNumbered queues queue None
none-queue queues queue is = by_found (find (is_queue queue) queues) refl is
  where
    by_found : (found : Option OpenQueue) → IsNumbered queues queue found → option_map (λ q. q.opening) found ≡ None → IsNumbered queues queue None
    by_found None there is = there
    by_found (Some q) there is = absurd cc

-- the queue that is opened next
abbrev new_queue : Openings → Opening → OpenQueue
new_queue all opening = record { queue = next_queue all.opened; opening = opening }

-- a queue with another number is another
other-queue : (queue closed : QueueId) → (closed.0 == queue.0) ≡ false → (q : OpenQueue) → is_queue queue q ≡ true → not (is_queue closed q) ≡ true
other-queue queue closed other q is = by_test (is_queue closed q) refl
  where
    by_test : (b : Bool) → is_queue closed q ≡ b → not (is_queue closed q) ≡ true
    by_test false differs = ap not differs
    by_test true same =
        let one : q.queue.0 ≡ closed.0 = eqb-true _ _ same in
        let two : q.queue.0 ≡ queue.0 = eqb-true _ _ is in
        let whole : (closed.0 == queue.0) ≡ true = eq-eqb closed.0 queue.0 (sym one ∙ two) in
        absurd cc

-- ---- one event

-- each open queue has a number up to how many were ever opened
abbrev pub AreNumbered : Openings → Type 0
AreNumbered all = All (λ q. q.queue.0 ≤ all.opened) all.queues

-- a queue that was opened is open no more
abbrev pub IsPast : Openings → QueueId → Type 0
IsPast all queue = (opening_in all.queues queue ≡ None) × (queue.0 ≤ all.opened)

pub numbered-up_to : (all : Openings) (queue : QueueId) (opening : Opening) → AreNumbered all → opening_in all.queues queue ≡ Some opening → queue.0 ≤ all.opened
numbered-up_to all queue opening each is =
    let found = found-queue all.queues queue opening is in
    let low : found.0.queue.0 ≤ all.opened = found-all (λ (q : OpenQueue). q.queue.0 ≤ all.opened) (is_queue queue) all.queues found.0 each found.1 in
    let same : found.0.queue.0 ≡ queue.0 = eqb-true _ _ (found-passes (is_queue queue) all.queues found.0 found.1) in
    omega (arith, low, same)

-- what an opening and a close keep, each event does
module _ (Fact : Openings → Type 0) (opens : (all : Openings) (opening : Opening) → Fact all → Fact (with_queue all opening)) (closes : (all : Openings) (queue : QueueId) → Fact all → Fact (without_queue all queue)) where
  kept-after : (all : Openings) (event : Event) → Fact all → Fact (openings_after all event)
  kept-after all (Open client agent size) fact = opens all (record { client = client; agent = agent }) fact
  kept-after all (Call (Close queue)) fact = closes all queue fact
  kept-after all (Take _ _ _) fact = fact
  kept-after all (Reload _) fact = fact
  kept-after all (Call (Grant _ _ _)) fact = fact
  kept-after all (Call (Revoke _ _ _)) fact = fact
  kept-after all (Call (Stop _)) fact = fact
  kept-after all (Call (RunNext _ _)) fact = fact
  kept-after all (Call (Poll _ _)) fact = fact
  kept-after all (Call (Finish _ _)) fact = fact
  kept-after all (Call (HostWrite _ _ _)) fact = fact
  kept-after all (Call (ChangeSignal _ _ _)) fact = fact

pub numbered-after : (all : Openings) (event : Event) → AreNumbered all → AreNumbered (openings_after all event)
numbered-after =
    kept-after AreNumbered
    (λ all opening each.
    All-push (λ (q : OpenQueue). q.queue.0 ≤ all.opened + 1) all.queues (new_queue all opening)
    (All-weaker (λ (q : OpenQueue). q.queue.0 ≤ all.opened) (λ (q : OpenQueue). q.queue.0 ≤ all.opened + 1) (λ q low. omega (arith, low)) all.queues each) (omega arith))
    (λ all queue each. All-filter (λ q. not (is_queue queue q)) (λ (q : OpenQueue). q.queue.0 ≤ all.opened) all.queues each)

-- a queue stays whose it is until it is closed
pub opening-stays : (all : Openings) (event : Event) (queue : QueueId) (opening : Opening) → closes_queue queue event ≡ false → opening_in all.queues queue ≡ Some opening → opening_in (openings_after all event).queues queue ≡ Some opening
opening-stays all (Open client agent size) queue opening stays is =
    let found = found-queue all.queues queue opening is in
    ap (option_map (λ (q : OpenQueue). q.opening)) (find-stays (is_queue queue) all.queues (new_queue all (record { client = client; agent = agent }) ∷ []) found.0 found.1 ∙ sym found.1) ∙ is
opening-stays all (Call (Close closed)) queue opening stays is =
    ap (option_map (λ (q : OpenQueue). q.opening)) (find-kept (is_queue queue) (λ q. not (is_queue closed q)) (other-queue queue closed stays) all.queues) ∙ is
opening-stays all (Take _ _ _) queue opening stays is = is
opening-stays all (Reload _) queue opening stays is = is
opening-stays all (Call (Grant _ _ _)) queue opening stays is = is
opening-stays all (Call (Revoke _ _ _)) queue opening stays is = is
opening-stays all (Call (Stop _)) queue opening stays is = is
opening-stays all (Call (RunNext _ _)) queue opening stays is = is
opening-stays all (Call (Poll _ _)) queue opening stays is = is
opening-stays all (Call (Finish _ _)) queue opening stays is = is
opening-stays all (Call (HostWrite _ _ _)) queue opening stays is = is
opening-stays all (Call (ChangeSignal _ _ _)) queue opening stays is = is

-- and is gone for good then
closed-none : (all : Openings) (queue : QueueId) → opening_in (without_queue all queue).queues queue ≡ None
closed-none all queue = ap (option_map (λ (q : OpenQueue). q.opening)) (find-none (is_queue queue) all.queues)

past-opened : (queue : QueueId) (all : Openings) (opening : Opening) → IsPast all queue → IsPast (with_queue all opening) queue
past-opened queue all opening past = (
  ap (option_map (λ (q : OpenQueue). q.opening))
      (find-last (is_queue queue) all.queues (new_queue all opening) (none-queue all.queues queue past.0) ∙ by_number (all.opened + 1 == queue.0) refl),
  omega (arith, past.1),
)
  where
    by_number : (b : Bool) → (all.opened + 1 == queue.0) ≡ b → (if b then Some (new_queue all opening) else None) ≡ None
    by_number true same = let number : all.opened + 1 ≡ queue.0 = eqb-true _ _ same in absurd (omega (arith, number, past.1))
    by_number false other = refl

past-left : (queue : QueueId) (all : Openings) (closed : QueueId) → IsPast all queue → IsPast (without_queue all closed) queue
past-left queue all closed past = by_test (closed.0 == queue.0) refl
  where
    by_test : (b : Bool) → (closed.0 == queue.0) ≡ b → IsPast (without_queue all closed) queue
    by_test true same =
        let queue_is : closed ≡ queue = ap (λ n. record { 0 = n }) (eqb-true _ _ same) in
        (subst (λ (now : QueueId). opening_in (without_queue all now).queues queue ≡ None) (sym queue_is) (closed-none all queue), past.1)
    by_test false other = (ap (option_map (λ (q : OpenQueue). q.opening)) (find-kept (is_queue queue) (λ q. not (is_queue closed q)) (other-queue queue closed other) all.queues) ∙ past.0, past.1)

pub past-after : (all : Openings) (event : Event) (queue : QueueId) → IsPast all queue → IsPast (openings_after all event) queue
past-after all event queue = kept-after (λ now. IsPast now queue) (past-opened queue) (past-left queue) all event

-- which event closes a queue
pub closes-is : (queue : QueueId) (event : Event) → closes_queue queue event ≡ true → event ≡ Call (Close queue)
closes-is queue (Call (Close closed)) is = ap (λ n. Call (Close (record { 0 = n }))) (eqb-true closed.0 queue.0 is)
closes-is queue (Open _ _ _) is = absurd cc
closes-is queue (Take _ _ _) is = absurd cc
closes-is queue (Reload _) is = absurd cc
closes-is queue (Call (Grant _ _ _)) is = absurd cc
closes-is queue (Call (Revoke _ _ _)) is = absurd cc
closes-is queue (Call (Stop _)) is = absurd cc
closes-is queue (Call (RunNext _ _)) is = absurd cc
closes-is queue (Call (Poll _ _)) is = absurd cc
closes-is queue (Call (Finish _ _)) is = absurd cc
closes-is queue (Call (HostWrite _ _ _)) is = absurd cc
closes-is queue (Call (ChangeSignal _ _ _)) is = absurd cc

-- ---- entries

-- what holds of the openings behind each event holds of them behind any entries
module _ (start : Start) (Fact : Openings → Type 0) (more : (all : Openings) (event : Event) → Fact all → Fact (openings_after all event)) where
  pub openings-along : (before es : List Entry) → Fact (openings start before) → Fact (openings start (before ++ es))
  openings-along before [] fact = subst (λ (now : List Entry). Fact (openings start now)) (sym (append-nil before)) fact
  openings-along before (e ∷ es) fact =
      subst (λ (now : List Entry). Fact (openings start now)) (append_assoc before (e ∷ []) es)
      (openings-along (before ++ e ∷ []) es (subst Fact (sym (openings-more start before e)) (more (openings start before) e.event fact)))

-- a queue stays whose it is until it is closed
pub owner-more : (start : Start) (es : List Entry) (e : Entry) (queue : QueueId) (opening : Opening) → closes_queue queue e.event ≡ false → owner start es queue ≡ Some opening → owner start (es ++ e ∷ []) queue ≡ Some opening
owner-more start es e queue opening stays is =
    ap (λ (all : Openings). opening_in all.queues queue) (openings-more start es e) ∙ opening-stays (openings start es) e.event queue opening stays is

pub owner-closed : (start : Start) (es : List Entry) (e : Entry) (queue : QueueId) → closes_queue queue e.event ≡ true → owner start (es ++ e ∷ []) queue ≡ None
owner-closed start es e queue closes =
    ap (λ (all : Openings). opening_in all.queues queue) (openings-more start es e ∙ ap (openings_after (openings start es)) (closes-is queue e.event closes)) ∙ closed-none (openings start es) queue

-- whatever entries follow, of which none closes it
pub owner-stays : (start : Start) (es more : List Entry) (queue : QueueId) (opening : Opening) → list_any (λ (later : Entry). closes_queue queue later.event) more ≡ false → owner start es queue ≡ Some opening → owner start (es ++ more) queue ≡ Some opening
owner-stays start es [] queue opening none is = subst (λ (now : List Entry). owner start now queue ≡ Some opening) (sym (append-nil es)) is
owner-stays start es (e ∷ more) queue opening none is =
    let both = neither (closes_queue queue e.event) (list_any (λ (later : Entry). closes_queue queue later.event) more) none in
    subst (λ (now : List Entry). owner start now queue ≡ Some opening) (append_assoc es (e ∷ []) more)
    (owner-stays start (es ++ e ∷ []) more queue opening both.1 (owner-more start es e queue opening both.0 is))
  where
    neither : (a b : Bool) → (a || b) ≡ false → (a ≡ false) × (b ≡ false)
    neither false b is = (refl, is)
    neither true b is = absurd cc

-- one that is opened is its opener's
pub owner-opened : (all : Openings) (opening : Opening) → opening_in all.queues (next_queue all.opened) ≡ None
    → opening_in (all.queues ++ new_queue all opening ∷ []) (next_queue all.opened) ≡ Some opening
owner-opened all opening none =
    ap (option_map (λ (q : OpenQueue). q.opening))
    (find-last (is_queue (next_queue all.opened)) all.queues (new_queue all opening) (none-queue all.queues (next_queue all.opened) none)
    ∙ ap (λ (b : Bool). if b then Some (new_queue all opening) else None) (eq-eqb (all.opened + 1) (all.opened + 1) refl))

-- ---- legal histories

numbered-first : (start : Start) → start ≡ opening_state start.policy start.kernels → AreNumbered (openings start [])
unfolding openings
numbered-first start opens = subst (λ (now : Start). AreNumbered now.openings) (sym opens) (All-nil (λ (q : OpenQueue). q.queue.0 ≤ 0))

pub numbered-whole : (start : Start) → start ≡ opening_state start.policy start.kernels → (es : List Entry) → AreNumbered (openings start es)
numbered-whole start opens es = openings-along start AreNumbered numbered-after [] es (numbered-first start opens)

-- no open queue has the next number
pub next-unowned : (all : Openings) → AreNumbered all → opening_in all.queues (next_queue all.opened) ≡ None
next-unowned all each = by_opening (opening_in all.queues (next_queue all.opened)) refl
  where
    by_opening : (o : Option Opening) → opening_in all.queues (next_queue all.opened) ≡ o → opening_in all.queues (next_queue all.opened) ≡ None
    by_opening None is = is
    by_opening (Some opening) is = let low = numbered-up_to all (next_queue all.opened) opening each is in absurd (omega (arith, low))

-- ---- numbers ascend

-- each queue has a number above a least one, and above those before it
abbrev pub AreAscendingFrom : ℕ → List OpenQueue → Type 0
AreAscendingFrom low [] = Unit {0}
AreAscendingFrom low (q ∷ qs) = (low < q.queue.0) × AreAscendingFrom q.queue.0 qs

-- the open queues have numbers from 1 up to how many were ever opened, ascending
abbrev pub AreOrdered : Openings → Type 0
AreOrdered all = AreAscendingFrom 0 all.queues × AreNumbered all

-- so a queue that is open has a number above the least
pub numbered-above : (low : ℕ) (qs : List OpenQueue) (queue : QueueId) (opening : Opening) → AreAscendingFrom low qs → opening_in qs queue ≡ Some opening → low < queue.0
numbered-above low [] queue opening ascend is = absurd cc
numbered-above low (q ∷ qs) queue opening ascend is = by_test (is_queue queue q) refl is (numbered-above q.queue.0 qs queue opening ascend.1)
  where
    by_test : (b : Bool) → is_queue queue q ≡ b → option_map (λ (p : OpenQueue). p.opening) (if b then Some q else find (is_queue queue) qs) ≡ Some opening
        → (opening_in qs queue ≡ Some opening → q.queue.0 < queue.0) → low < queue.0
    by_test true same is rest =
        let number : q.queue.0 ≡ queue.0 = eqb-true _ _ same in
        let above = ascend.0 in
        omega (arith, number, above)
    by_test false other is rest = let first = ascend.0 in let above = rest is in omega (arith, first, above)

ascending-weaker : (low high : ℕ) (qs : List OpenQueue) → low ≤ high → AreAscendingFrom high qs → AreAscendingFrom low qs
ascending-weaker low high [] up ascend = tt
ascending-weaker low high (q ∷ qs) up ascend = let above = ascend.0 in (omega (arith, up, above), ascend.1)

ascending-filter : (keep : OpenQueue → Bool) (low : ℕ) (qs : List OpenQueue) → AreAscendingFrom low qs → AreAscendingFrom low (filter keep qs)
ascending-filter keep low [] ascend = tt
ascending-filter keep low (q ∷ qs) ascend = by_test (keep q) (ascending-filter keep q.queue.0 qs ascend.1)
  where
    by_test : (b : Bool) → AreAscendingFrom q.queue.0 (filter keep qs) → AreAscendingFrom low (if b then q ∷ filter keep qs else filter keep qs)
    by_test true rest = (ascend.0, rest)
    by_test false rest = let above = ascend.0 in ascending-weaker low q.queue.0 (filter keep qs) (omega (arith, above)) rest

ascending-push : (low : ℕ) (qs : List OpenQueue) (x : OpenQueue) → low < x.queue.0 → AreAscendingFrom low qs → All (λ q. q.queue.0 < x.queue.0) qs → AreAscendingFrom low (qs ++ x ∷ [])
ascending-push low [] x above ascend all = (above, tt)
ascending-push low (q ∷ qs) x above ascend all =
    (ascend.0, ascending-push q.queue.0 qs x (All-head (λ (p : OpenQueue). p.queue.0 < x.queue.0) q qs all) ascend.1 (All-tail (λ (p : OpenQueue). p.queue.0 < x.queue.0) q qs all))

pub ordered-after : (all : Openings) (event : Event) → AreOrdered all → AreOrdered (openings_after all event)
ordered-after =
    kept-after AreOrdered
    (λ all opening ordered. (
      ascending-push 0 all.queues (new_queue all opening) (omega arith) ordered.0
          (All-weaker (λ (q : OpenQueue). q.queue.0 ≤ all.opened) (λ (q : OpenQueue). q.queue.0 < all.opened + 1) (λ q low. omega (arith, low)) all.queues ordered.1),
      numbered-after all (Open opening.client opening.agent 0) ordered.1,
    ))
    (λ all queue ordered. (ascending-filter (λ q. not (is_queue queue q)) 0 all.queues ordered.0, numbered-after all (Call (Close queue)) ordered.1))

ordered-first : (start : Start) → start ≡ opening_state start.policy start.kernels → AreOrdered (openings start [])
unfolding openings
ordered-first start opens = subst (λ (now : Start). AreOrdered now.openings) (sym opens) (tt, All-nil (λ (q : OpenQueue). q.queue.0 ≤ 0))

pub ordered-whole : (start : Start) → start ≡ opening_state start.policy start.kernels → (es : List Entry) → AreOrdered (openings start es)
ordered-whole start opens es = openings-along start AreOrdered ordered-after [] es (ordered-first start opens)

-- ---- no more queues were opened than entries came

opened-once : (all : Openings) (event : Event) → (openings_after all event).opened ≤ all.opened + 1
opened-once all (Open _ _ _) = omega arith
opened-once all (Take _ _ _) = omega arith
opened-once all (Reload _) = omega arith
opened-once all (Call (Grant _ _ _)) = omega arith
opened-once all (Call (Revoke _ _ _)) = omega arith
opened-once all (Call (Stop _)) = omega arith
opened-once all (Call (Close _)) = omega arith
opened-once all (Call (RunNext _ _)) = omega arith
opened-once all (Call (Poll _ _)) = omega arith
opened-once all (Call (Finish _ _)) = omega arith
opened-once all (Call (HostWrite _ _ _)) = omega arith
opened-once all (Call (ChangeSignal _ _ _)) = omega arith

opened-along : (all : Openings) (es : List Entry) → (fold (λ (before : Openings) (entry : Entry). openings_after before entry.event) all es).opened ≤ all.opened + length es
opened-along all [] = omega arith
opened-along all (e ∷ es) =
    let one = opened-once all e.event in
    let rest = opened-along (openings_after all e.event) es in
    omega (arith, one, rest)

pub opened-le : (start : Start) (es : List Entry) → (openings start es).opened ≤ start.openings.opened + length es
unfolding openings
opened-le start es = opened-along start.openings es

pub opened-before : (s : Start) (es : List Entry) → IsLegal s es → s.openings.opened ≤ s.before
opened-before s es legal =
    let first = opening_state legal.first s.kernels in
    subst (λ (now : Start). now.openings.opened ≤ now.before) (sym legal.start_is) (opened-le first legal.prior)
