-- An item that runs until it stops is the least item first.
use Rattle.executor.proofs.Maps.{get_past}
use Rattle.std.proofs.Common.{◌≡◌, ◌==◌, false, cond, Option, Some, None, length, ℕ, zero, suc, ◌+◌, ◌<◌, ◌≤◌, List, [], ◌∷◌, ◌++◌, slice_index, arith, refl, sym, ap, ◌∙◌, subst}
use Rattle.executor.specs.Group.{Standing, ready, waiting, ended, Advance, stepped, settled, failed, context_of_item, taken, behind, advance, Status, running, faulted, least_waiting, met, followed, follow, LeadsIn, Leads}
use Rattle.executor.specs.Items.{Contents, Surroundings}
use Rattle.executor.specs.inner.Stops.{AreStopped}
use Rattle.executor.specs.Meaning.{Act, goes_on, arrives, ends, broke, act, turn, turn_at}
use Rattle.executor.specs.declared.rounds.Waiter.{Waiter}
use Rattle.executor.specs.inner.Turns.{Acts}
use Rattle.executor.specs.declared.act.Outcome.{Outcome}
use Rattle.kernel_check.specs.declared.step.Step.{Step}
use Rattle.queue_error.specs.declared.rule.Rule.TheVariants.{A5}
use Rattle.std.specs.Prelude.{slice_get}
use Rattle.std.proofs.lemmas.Bool.Decides.{nat_tests}
use Rattle.executor.specs.declared.fault.ItemFault.{ItemFault}
use Rattle.executor.specs.declared.item.Item.{Item}
use Rattle.kernel_check.specs.Programs.{Program}
use Rattle.queue_error.specs.declared.error.SegmentAddress.{SegmentAddress}
use Rattle.queue_error.specs.declared.rule.Rule.{Rule}

-- items before those of which a turn is told
abbrev pub behind_all : List Standing → Advance → Advance
behind_all [] next = next
behind_all (s ∷ rest) next = behind s (behind_all rest next)

pub stepped_behind : (earlier items : List Standing) (m : Contents) → behind_all earlier (stepped items m) ≡ stepped (earlier ++ items) m
stepped_behind [] items m = refl
stepped_behind (s ∷ rest) items m = ap (behind s) (stepped_behind rest items m)

pub failed_behind : (earlier : List Standing) (f : ItemFault) → behind_all earlier (failed f) ≡ failed f
failed_behind [] f = refl
failed_behind (s ∷ rest) f = ap (behind s) (failed_behind rest f)

module _ (a : Surroundings) (p : Program) where
  -- the least item that can take a turn is the first behind those that can't
  pub advance_after : (earlier : List Standing) (first n : ℕ) (i : Item) (executed : ℕ) (rest : List Standing) (m : Contents) → AreStopped earlier → first + length earlier ≡ n
      → advance a p first (earlier ++ ready i executed ∷ rest) m
      ≡ behind_all earlier (taken n (slice_index p.lines i.next) executed rest (turn (context_of_item a n) p.steps i executed m))
  advance_after [] first n i executed rest m are e =
      let same : first ≡ n = omega (arith, e) in
      ap (λ k. taken k (slice_index p.lines i.next) executed rest (turn (context_of_item a k) p.steps i executed m)) same
  advance_after (ready j spent ∷ earlier) first n i executed rest m are e = absurd are
  advance_after (waiting j spent ∷ earlier) first n i executed rest m are e =
      let next : first + 1 + length earlier ≡ n = omega (arith, e) in
      ap (behind (waiting j spent)) (advance_after earlier (first + 1) n i executed rest m are next)
  advance_after (ended ∷ earlier) first n i executed rest m are e =
      let next : first + 1 + length earlier ≡ n = omega (arith, e) in
      ap (behind ended) (advance_after earlier (first + 1) n i executed rest m are next)

  settled_after : (items : List Standing) (first : ℕ) (m : Contents) → AreStopped items → advance a p first items m ≡ settled
  settled_after [] first m are = refl
  settled_after (ready j spent ∷ items) first m are = absurd are
  settled_after (waiting j spent ∷ items) first m are = ap (behind (waiting j spent)) (settled_after items (first + 1) m are)
  settled_after (ended ∷ items) first m are = ap (behind ended) (settled_after items (first + 1) m are)

  abbrev at : List Standing → Item → ℕ → List Standing → List Standing
  at earlier i executed rest = earlier ++ ready i executed ∷ rest

  -- turns before turns
  trans_in : (n : ℕ) (x y z : Status) → LeadsIn a p n x y → Leads a p y z → Leads a p x z
  trans_in zero x y z first then = subst (λ w. Leads a p w z) (sym first) then
  trans_in (suc n) x y z first then =
      let r = trans_in n (follow a p x) y z first then in
      (suc r.0, r.1)

  pub leads_trans : (x y z : Status) → Leads a p x y → Leads a p y z → Leads a p x z
  leads_trans x y z first then = trans_in first.0 x y z first.1 then

  pub leads_none : (x : Status) → Leads a p x x
  leads_none x = (0, refl)

  pub leads_one : (x y : Status) → follow a p x ≡ y → Leads a p x y
  leads_one x y e = (1, e)

  module _ (n : ℕ) (earlier rest : List Standing) (are : AreStopped earlier) (many : length earlier ≡ n) (from : Status) (i : Item) (executed : ℕ) (m : Contents)
      (before : Leads a p from (running (at earlier i executed rest) m)) where
    abbrev line : ℕ
    line = slice_index p.lines i.next

    one_turn : (x : Act) → turn (context_of_item a n) p.steps i executed m ≡ x
        → follow a p (running (at earlier i executed rest) m) ≡ followed p (at earlier i executed rest) m (behind_all earlier (taken n line executed rest x))
    one_turn x is =
        ap (followed p (at earlier i executed rest) m)
        (advance_after earlier 0 n i executed rest m are (omega (arith, many)) ∙ ap (λ t. behind_all earlier (taken n line executed rest t)) is)

    steps_to : (x : Act) (items : List Standing) (now : Contents) → taken n line executed rest x ≡ stepped items now → turn (context_of_item a n) p.steps i executed m ≡ x
        → Leads a p from (running (earlier ++ items) now)
    steps_to x items now made is =
        leads_trans from (running (at earlier i executed rest) m) (running (earlier ++ items) now) before
        (leads_one (running (at earlier i executed rest) m) (running (earlier ++ items) now)
        (one_turn x is ∙ ap (followed p (at earlier i executed rest) m) (ap (behind_all earlier) made ∙ stepped_behind earlier items now)))

    -- one more turn of the item
    pub goes_more : (now : Item) (after_m : Contents) → turn (context_of_item a n) p.steps i executed m ≡ goes_on now after_m
        → Leads a p from (running (at earlier now (executed + 1) rest) after_m)
    goes_more now after_m is = steps_to (goes_on now after_m) (ready now (executed + 1) ∷ rest) after_m refl is

    pub arrives_now : (now : Item) (after_m : Contents) → turn (context_of_item a n) p.steps i executed m ≡ arrives now after_m
        → Leads a p from (running (earlier ++ waiting now (executed + 1) ∷ rest) after_m)
    arrives_now now after_m is = steps_to (arrives now after_m) (waiting now (executed + 1) ∷ rest) after_m refl is

    pub ends_now : (after_m : Contents) → turn (context_of_item a n) p.steps i executed m ≡ ends after_m
        → Leads a p from (running (earlier ++ ended ∷ rest) after_m)
    ends_now after_m is = steps_to (ends after_m) (ended ∷ rest) after_m refl is

    abbrev pub fault_here : Rule → Option SegmentAddress → ItemFault
    fault_here rule address = record { item = n; line = line; rule = rule; address = address }

    pub breaks_now : (rule : Rule) (address : Option SegmentAddress) → turn (context_of_item a n) p.steps i executed m ≡ broke rule address → Leads a p from (faulted (fault_here rule address))
    breaks_now rule address is =
        leads_trans from (running (at earlier i executed rest) m) (faulted (fault_here rule address)) before
        (leads_one (running (at earlier i executed rest) m) (faulted (fault_here rule address))
        (one_turn (broke rule address) is ∙ ap (followed p (at earlier i executed rest) m) (failed_behind earlier (fault_here rule address))))

  -- none can take a turn
  pub meet : (items : List Standing) (m : Contents) (o : Option Waiter) → AreStopped items → least_waiting 0 items ≡ o → follow a p (running items m) ≡ met p items m o
  meet items m o are least = ap (followed p items m) (settled_after items 0 m are) ∙ ap (met p items m) least

-- a turn within the budget is what its step does
pub acts_turn : (a : Surroundings) (steps : List Step) (i now : Item) (m after_m : Contents) (s : Step) (o : Outcome)
    → slice_get steps i.next ≡ Some s → Acts (act a i m s) o now after_m
    → (executed : ℕ) → executed < 65536 → Acts (turn a steps i executed m) o now after_m
acts_turn a steps i now m after_m s o found acts executed few =
    let within : (executed == 65536) ≡ false = grind (arith, nat_tests) in
    let same : turn a steps i executed m ≡ act a i m s =
    ap (turn_at a i executed m) found ∙ ap (λ b. cond b (broke A5 None) (act a i m s)) within in
    subst (λ t. Acts t o now after_m) (sym same) acts

get_there : {X : Type 0} (xs : List X) (i : ℕ) → i < length xs → (x : X) × (slice_get xs i ≡ Some x)
get_there [] i h = absurd (omega arith)
get_there (x ∷ xs) zero h = (x, refl)
get_there (x ∷ xs) (suc i) h = get_there xs i (omega arith)

-- an item that has a step left and no budget
pub spent : (a : Surroundings) (steps : List Step) (i : Item) (executed : ℕ) (m : Contents) → i.next < length steps → executed ≡ 65536
    → turn a steps i executed m ≡ broke A5 None
spent a steps i executed m there all =
    ap (λ n. turn a steps i n m) all ∙ ap (turn_at a i 65536 m) (get_there steps i.next there).1

-- an item that has no step left
pub stops : (a : Surroundings) (steps : List Step) (i : Item) (executed : ℕ) (m : Contents) → length steps ≤ i.next
    → turn a steps i executed m ≡ ends m
stops a steps i executed m past = ap (turn_at a i executed m) (get_past steps i.next past)
