-- A history that goes on from the state behind another is owed what the two in one are owed.
use Rattle.std.proofs.Common.{◌≡◌, ℕ, ◌+◌, ◌≤◌, List, [], ◌∷◌, ◌++◌, length, refl, sym, ◌∙◌, ap, subst, Bool, Option, append_assoc, arith}
use Rattle.std.specs.Prelude.{Some, None, map, ◌&&◌, ◌||◌, fold, not, if◌then◌else◌}
use Rattle.std.proofs.Common.{true, false}
use Rattle.std.specs.List.{list_any}
use Rattle.std.proofs.lemmas.List.{append-nil, length-append}
use Rattle.std.proofs.lemmas.List.Sums.{fold-append}
use Rattle.aql_packet.specs.declared.ids.ClientId.{ClientId}
use Rattle.aql_packet.specs.declared.ids.QueueId.{QueueId}
use Rattle.aql_packet.specs.declared.ids.PacketId.{PacketId}
use Rattle.policy.specs.declared.object.Object.{Object}
use Rattle.policy.specs.declared.rights.Right.{Right}
use Rattle.core_model.specs.declared.entry.Entry.{Entry}
use Rattle.core_model.specs.declared.event.Event.{Event}
use Rattle.core_model.specs.declared.event.Query.{Query}
use Rattle.core_model.specs.declared.flight.InFlight.{InFlight}
use Rattle.core_model.specs.History.{History, IsOpeningOrigin, Openings, Origin, PacketOrigin, Part, QueueOrigin, Start, begin, beginning, effects_of, no_queue, open_queue, opening_state, packet_holds, packet_in, queue_in}
use Rattle.regions.specs.Memory.{byte_at, lies_in_region, zeros}
use Rattle.regions.proofs.Laws.{byte_at-outside, byte_at-zeros, lengths_of-zeros}
use Rattle.policy.specs.Policy.{Declared, region_lengths}
use Rattle.core_model.specs.declared.event.Query.TheVariants as query
use Rattle.std.specs.Option.{unwrap_or}
use Rattle.core_model.specs.declared.flight.TheConstants.{LAUNCH_PROGRESS}
use Rattle.kernel_check.specs.Programs.{Program}
use Rattle.core_model.specs.Grants.{in_force}
use Rattle.core_model.specs.Policies.{rows_at}
use Rattle.core_model.specs.Memory.{byte_after, memory_at, signals, signals_after}
use Rattle.core_model.specs.Queues.{closes_queue, hands_over_packet_of, openings, owner, next_id, next_id_after, errors, is_stopped}
use Rattle.core_model.specs.Flight.{flight, launched_by, progress, releases}
use Rattle.core_model.specs.Holds.{along, arguments, arguments_after, arguments_if, gives, held, held_after, is_launch}
use Rattle.core_model.specs.States.{state_after}
use Rattle.core_model.specs.Owed.{enters, owed}
use Rattle.core_model.specs.Queries.{query_answer}
use Rattle.core_model.specs.Rotation.{IsRotated}
use Rattle.core_model.specs.Legal.{IsFollowedBy, SameOrigin, IsLegal, IsLegalAfter, IsLegalPart, IsWhole, joined}
use Rattle.core_model.proofs.More.{along-append, effects_of-append}

-- what is owed behind some entries is owed in the state behind them
pub owed-now : (start : Start) (es : List Entry) (event : Event) → owed start es event ≡ owed (state_after start es) [] event
unfolding owed rows_at in_force memory_at signals openings next_id errors is_stopped flight progress held arguments effects_of
owed-now start es event = refl

-- and so is what a query is answered, but for the audit's own
answer-now : (start : Start) (es : List Entry) (asked : Query) → (asked ≡ query.Audit → ⊥) → query_answer start es asked ≡ query_answer (state_after start es) [] asked
unfolding query_answer in_force memory_at signals openings errors effects_of
answer-now start es (query.HostRead client address size) other = refl
answer-now start es (query.LoadSignal client signal) other = refl
answer-now start es (query.TestSignal client signal condition than) other = refl
answer-now start es (query.List client) other = refl
answer-now start es (query.Errors queue) other = refl
answer-now start es query.Audit other = absurd (other refl)

-- behind no entry the state is the one that was begun from
pub state-now : (s : Start) → state_after s [] ≡ s
unfolding rows_at in_force memory_at signals openings next_id errors is_stopped flight progress held arguments effects_of
state-now s = λ i. record {
  policy = s.policy;
  kernels = s.kernels;
  in_force = s.in_force;
  memory = s.memory;
  signals = s.signals;
  openings = s.openings;
  next_id = s.next_id;
  errors = s.errors;
  is_stopped = s.is_stopped;
  flight = s.flight;
  progress = s.progress;
  held = s.held;
  arguments = s.arguments;
  before = count i;
}
  where
    count : s.before + 0 ≡ s.before
    count = omega arith

-- ---- each question, asked of two lists of entries in one

module _ (s : Start) (a b : List Entry) where
  abbrev mid : Start
  mid = state_after s a

  in_force-join : (client : ClientId) (on : Object) (right : Right) → in_force s (a ++ b) client on right ≡ in_force mid b client on right
  unfolding in_force
  in_force-join client on right = fold-append _ _ a b

  rows-join : rows_at s (a ++ b) ≡ rows_at mid b
  unfolding rows_at
  rows-join = fold-append _ _ a b

  memory-join : (x : ℕ) → memory_at s (a ++ b) x ≡ memory_at mid b x
  unfolding memory_at
  memory-join x = ap (fold (byte_after x) (s.memory x)) (effects_of-append a b) ∙ fold-append (byte_after x) (s.memory x) (effects_of a) (effects_of b)

  signals-join : signals s (a ++ b) ≡ signals mid b
  unfolding signals
  signals-join = ap (fold signals_after s.signals) (effects_of-append a b) ∙ fold-append signals_after s.signals (effects_of a) (effects_of b)

  openings-join : openings s (a ++ b) ≡ openings mid b
  unfolding openings
  openings-join = fold-append _ _ a b

  next_id-join : (queue : QueueId) → next_id s (a ++ b) queue ≡ next_id mid b queue
  unfolding next_id
  next_id-join queue = fold-append _ _ a b

  errors-join : (queue : QueueId) → errors s (a ++ b) queue ≡ errors mid b queue
  unfolding errors
  errors-join queue = fold-append _ _ a b

  is_stopped-join : (queue : QueueId) → is_stopped s (a ++ b) queue ≡ is_stopped mid b queue
  unfolding is_stopped
  is_stopped-join queue = fold-append _ _ a b

  flight-join : flight s (a ++ b) ≡ flight mid b
  unfolding flight
  flight-join = fold-append _ _ a b

  progress-join : (queue : QueueId) (id : PacketId) → progress s (a ++ b) queue id ≡ progress mid b queue id
  unfolding progress
  progress-join queue id = fold-append _ _ a b

  -- ---- what launches give

  -- what a launch is judged by
  abbrev judged : (ClientId → Object → Right → Bool) → (ℕ → ℕ) → Openings → Start
  judged granted memory opened = record s { in_force = granted; memory = memory; openings = opened }

  judged-join : judged (in_force s (a ++ b)) (memory_at s (a ++ b)) (openings s (a ++ b)) ≡ judged (in_force mid b) (memory_at mid b) (openings mid b)
  judged-join = λ i. judged (λ client on right. in_force-join client on right i) (λ x. memory-join x i) (openings-join i)

  pub gives-join : (client : ClientId) (on : Object) (right : Right) (queue : QueueId) (f : Option InFlight) → gives s (a ++ b) client on right (owner s (a ++ b) queue) f ≡ gives mid b client on right (owner mid b queue) f
  unfolding in_force memory_at openings effects_of
  gives-join client on right queue f = ap (λ (now : Start). gives now [] client on right (owner now [] queue) f) judged-join

  pub arguments_if-join : (f : Option InFlight) → arguments_if s (a ++ b) f ≡ arguments_if mid b f
  unfolding memory_at effects_of
  arguments_if-join f = ap (λ (now : Start). arguments_if now [] f) judged-join

-- ---- along entries that come behind others

module _ {X : Type 0} (pre : List Entry) (one other : List Entry → X → Entry → X) (same : (before : List Entry) (x : X) (e : Entry) → one (pre ++ before) x e ≡ other before x e) where
  along-behind : (before : List Entry) (x : X) (es : List Entry) → along one (pre ++ before) x es ≡ along other before x es
  along-behind before x [] = refl
  along-behind before x (e ∷ es) =
      ap (λ (now : List Entry). along one now (one (pre ++ before) x e) es) (append_assoc pre before (e ∷ []))
      ∙ along-behind (before ++ e ∷ []) (one (pre ++ before) x e) es
      ∙ ap (λ (y : X). along other (before ++ e ∷ []) y es) (same before x e)

  along-join : (x : X) (more : List Entry) → along one [] x (pre ++ more) ≡ along other [] (along one [] x pre) more
  along-join x more =
      along-append one [] x pre more
      ∙ ap (λ (now : List Entry). along one now (along one [] x pre) more) (sym (append-nil pre))
      ∙ along-behind [] (along one [] x pre) more

module _ (s : Start) (a b : List Entry) where
  held-join : (queue : QueueId) (id : PacketId) (client : ClientId) (on : Object) (right : Right) → held s (a ++ b) queue id client on right ≡ held (state_after s a) b queue id client on right
  unfolding held
  held-join queue id client on right =
      along-join a (held_after s queue id client on right) (held_after (state_after s a) queue id client on right) step (s.held queue id client on right) b
    where
      step : (before : List Entry) (was : Bool) (e : Entry) → held_after s queue id client on right (a ++ before) was e ≡ held_after (state_after s a) queue id client on right before was e
      step before was e =
          ap (λ (given : Bool). (was || (is_launch queue id (launched_by e.event e.outcome) && given)) && not (list_any (releases queue id) e.effects))
          (gives-join s a before client on right queue (launched_by e.event e.outcome))

  arguments-join : (queue : QueueId) (id : PacketId) → arguments s (a ++ b) queue id ≡ arguments (state_after s a) b queue id
  unfolding arguments
  arguments-join queue id = along-join a (arguments_after s queue id) (arguments_after (state_after s a) queue id) step (s.arguments queue id) b
    where
      step : (before : List Entry) (was : List ℕ) (e : Entry) → arguments_after s queue id (a ++ before) was e ≡ arguments_after (state_after s a) queue id before was e
      step before was e =
          ap (λ (given : List ℕ). if list_any (releases queue id) e.effects then [] else if is_launch queue id (launched_by e.event e.outcome) then given else was)
          (arguments_if-join s a before (launched_by e.event e.outcome))

  -- the state behind two lists of entries is that behind the second, from the state behind the first
  pub state-join : state_after s (a ++ b) ≡ state_after (state_after s a) b
  state-join = λ i. record {
    policy = record s.policy { rows = rows-join s a b i };
    kernels = s.kernels;
    in_force = λ client on right. in_force-join s a b client on right i;
    memory = λ x. memory-join s a b x i;
    signals = signals-join s a b i;
    openings = openings-join s a b i;
    next_id = λ queue. next_id-join s a b queue i;
    errors = λ queue. errors-join s a b queue i;
    is_stopped = λ queue. is_stopped-join s a b queue i;
    flight = flight-join s a b i;
    progress = λ queue id. progress-join s a b queue id i;
    held = λ queue id client on right. held-join queue id client on right i;
    arguments = λ queue id. arguments-join queue id i;
    before = count i;
  }
    where
      count : s.before + length (a ++ b) ≡ (s.before + length a) + length b
      count = omega (arith, length-append a b)

  -- and so is what is owed
  pub owed-join : (event : Event) → owed s (a ++ b) event ≡ owed (state_after s a) b event
  owed-join event = owed-now s (a ++ b) event ∙ ap (λ (now : Start). owed now [] event) state-join ∙ sym (owed-now (state_after s a) b event)

  pub answer-join : (asked : Query) → (asked ≡ query.Audit → ⊥) → query_answer s (a ++ b) asked ≡ query_answer (state_after s a) b asked
  answer-join asked other = answer-now s (a ++ b) asked other ∙ ap (λ (now : Start). query_answer now [] asked) state-join ∙ sym (answer-now (state_after s a) b asked other)

-- ---- legal histories

pub append-legal : (s : Start) (pre a b : List Entry) → IsLegalAfter s pre a → IsLegalAfter s (pre ++ a) b → IsLegalAfter s pre (a ++ b)
append-legal s pre [] b one two = subst (λ (now : List Entry). IsLegalAfter s now b) (append-nil pre) two
append-legal s pre (e ∷ es) b one two =
    (one.0, append-legal s (pre ++ e ∷ []) es b one.1 (subst (λ (now : List Entry). IsLegalAfter s now b) (sym (append_assoc pre (e ∷ []) es)) two))

pub split-legal : (s : Start) (pre a b : List Entry) → IsLegalAfter s pre (a ++ b) → IsLegalAfter s pre a × IsLegalAfter s (pre ++ a) b
split-legal s pre [] b legal = (tt, subst (λ (now : List Entry). IsLegalAfter s now b) (sym (append-nil pre)) legal)
split-legal s pre (e ∷ es) b legal =
    let rest = split-legal s (pre ++ e ∷ []) es b legal.1 in
    ((legal.0, rest.0), subst (λ (now : List Entry). IsLegalAfter s now b) (append_assoc pre (e ∷ []) es) rest.1)

pub legal-behind : (s : Start) (a before b : List Entry) → IsLegalAfter (state_after s a) before b → IsLegalAfter s (a ++ before) b
legal-behind s a before [] legal = tt
legal-behind s a before (e ∷ es) legal =
    (owed-join s a before e.event ∙ legal.0, subst (λ (now : List Entry). IsLegalAfter s now es) (sym (append_assoc a before (e ∷ []))) (legal-behind s a (before ++ e ∷ []) es legal.1))

pub legal-from : (s : Start) (a before b : List Entry) → IsLegalAfter s (a ++ before) b → IsLegalAfter (state_after s a) before b
legal-from s a before [] legal = tt
legal-from s a before (e ∷ es) legal =
    (sym (owed-join s a before e.event) ∙ legal.0, legal-from s a (before ++ e ∷ []) es (subst (λ (now : List Entry). IsLegalAfter s now es) (append_assoc a before (e ∷ [])) legal.1))

-- the entries of a legal history follow lawfully from its start
pub legal-own : (s : Start) (es : List Entry) → IsLegal s es → IsLegalAfter s [] es
legal-own s es legal =
    let first = opening_state legal.first s.kernels in
    let parts = split-legal first [] legal.prior es legal.whole.legal in
    subst (λ (now : Start). IsLegalAfter now [] es) (sym legal.start_is)
    (legal-from first legal.prior [] es (subst (λ (now : List Entry). IsLegalAfter first now es) (sym (append-nil legal.prior)) parts.1))

-- what follows lawfully behind a legal history makes a whole one with it
pub whole-more : (s : Start) (a b : List Entry) (legal : IsLegal s a) → IsLegalAfter s a b → IsWhole (opening_state legal.first s.kernels) (legal.prior ++ (a ++ b))
whole-more s a b legal rest =
    let first = opening_state legal.first s.kernels in
    let from : IsLegalAfter (state_after first legal.prior) a b = subst (λ (now : Start). IsLegalAfter now a b) legal.start_is rest in
    let behind : IsLegalAfter first (legal.prior ++ a) b = legal-behind first legal.prior a b from in
    record {
      opens = refl;
      legal = subst (IsLegalAfter first []) (append_assoc legal.prior a b) (append-legal first [] (legal.prior ++ a) b legal.whole.legal behind);
    }

-- and a legal one
pub legal-more : (s : Start) (a b : List Entry) → IsLegal s a → IsLegalAfter s a b → IsLegal s (a ++ b)
legal-more s a b legal rest = record { first = legal.first; prior = legal.prior; start_is = legal.start_is; whole = whole-more s a b legal rest }

-- a part of a history that begins from the state behind another, and is legal, makes a legal one with it
pub join-legal : (s : Start) (a : List Entry) (t : Start) (b : List Entry) → IsLegal s a → IsLegal t b → t ≡ state_after s a → IsLegal s (a ++ b)
join-legal s a t b one two follows =
    legal-more s a b one
    (subst (λ (now : List Entry). IsLegalAfter s now b) (append-nil a)
    (legal-behind s a [] b (subst (λ (now : Start). IsLegalAfter now [] b) follows (legal-own t b two))))

-- and it ends where the second part does
pub join-end : (s : Start) (a : List Entry) (t : Start) (b : List Entry) → t ≡ state_after s a → state_after t b ≡ state_after s (a ++ b)
join-end s a t b follows = ap (λ (now : Start). state_after now b) follows ∙ sym (state-join s a b)

-- the state behind a legal history begins a legal one
pub rotate-legal : (s : Start) (a : List Entry) → IsLegal s a → IsLegal (state_after s a) []
rotate-legal s a legal =
    let first = opening_state legal.first s.kernels in
    record {
      first = legal.first;
      prior = legal.prior ++ a;
      start_is = ap (λ (now : Start). state_after now a) legal.start_is ∙ sym (state-join first legal.prior a);
      whole = record { opens = refl; legal = subst (IsLegalAfter first []) (sym (append-nil (legal.prior ++ a))) legal.whole.legal };
    }

-- one entry more, as it was owed
pub IsLegal-more : (s : Start) (es : List Entry) (e : Entry) → IsLegal s es → owed s es e.event ≡ enters e.outcome e.effects → IsLegal s (es ++ e ∷ [])
IsLegal-more s es e legal owing = legal-more s es (e ∷ []) legal (owing, tt)

-- a beginning of a legal history is one
pub legal-beginning : (s : Start) (es more : List Entry) → IsLegal s (es ++ more) → IsLegal s es
legal-beginning s es more legal =
    let first = opening_state legal.first s.kernels in
    record {
      first = legal.first;
      prior = legal.prior;
      start_is = legal.start_is;
      whole = record {
        opens = refl;
        legal = (split-legal first [] (legal.prior ++ es) more (subst (IsLegalAfter first []) (sym (append_assoc legal.prior es more)) legal.whole.legal)).0;
      };
    }

-- and so is what follows behind its beginning
pub part-legal : (s : Start) (a b : List Entry) → IsLegal s (a ++ b) → IsLegal (state_after s a) b
part-legal s a b legal =
    let behind : IsLegalAfter s a b = (split-legal s [] a b (legal-own s (a ++ b) legal)).1 in
    let from : IsLegalAfter (state_after s a) [] b = legal-from s a [] b (subst (λ (now : List Entry). IsLegalAfter s now b) (sym (append-nil a)) behind) in
    legal-more (state_after s a) [] b (rotate-legal s a (legal-beginning s a b legal)) from

-- ---- whole histories

-- a whole history is legal
pub whole-legal : (s : Start) (es : List Entry) → IsWhole s es → IsLegal s es
whole-legal s es whole = record {
  first = s.policy;
  prior = [];
  start_is = whole.opens ∙ sym (state-now (opening_state s.policy s.kernels));
  whole = subst (λ (now : Start). IsWhole now es) whole.opens whole;
}

-- a legal history before whose start there was no entry is a whole one
none-there : (es : List Entry) → length es ≡ 0 → es ≡ []
none-there [] none = refl
none-there (e ∷ es) none = absurd (omega (arith, none))

module _ (s : Start) (es : List Entry) (legal : IsLegal s es) (none : s.before ≡ 0) where
  pub none-prior : legal.prior ≡ []
  none-prior = none-there legal.prior (let count : s.before ≡ 0 + length legal.prior = ap (λ (now : Start). now.before) legal.start_is in omega (arith, none, count))

  pub legal-whole : IsWhole s es
  legal-whole =
      let first = opening_state legal.first s.kernels in
      let opens : s ≡ first = legal.start_is ∙ ap (state_after first) none-prior ∙ state-now first in
      subst (λ (now : Start). IsWhole now es) (sym opens) (subst (λ (prior : List Entry). IsWhole first (prior ++ es)) none-prior legal.whole)

-- ---- what an opened core begins from

none-written : (lengths : List ℕ) (x : ℕ) → unwrap_or (byte_at (zeros lengths) x) 0 ≡ 0
none-written lengths x = by_place (lies_in_region lengths x) refl
  where
    by_place : (b : Bool) → lies_in_region lengths x ≡ b → unwrap_or (byte_at (zeros lengths) x) 0 ≡ 0
    by_place true lies = ap (λ (o : Option ℕ). unwrap_or o 0) (byte_at-zeros lengths x lies)
    by_place false lies = ap (λ (o : Option ℕ). unwrap_or o 0) (byte_at-outside (zeros lengths) x (ap (λ (ls : List ℕ). lies_in_region ls x) (lengths_of-zeros lengths) ∙ lies))

-- of no queues nothing is told
none-told : (queues : List QueueOrigin) → queues ≡ [] → (queue : QueueId) → queue_in queues queue ≡ no_queue
none-told queues none queue = ap (λ (qs : List QueueOrigin). queue_in qs queue) none

-- it is the opening state
pub begin-opening : (policy : Declared) (kernels : List Program) (o : Origin) → IsOpeningOrigin policy o → begin kernels o ≡ opening_state policy kernels
begin-opening policy kernels o opened = λ i. record {
  policy = record (opened.policy_is i) { rows = (opened.rules i).rows };
  kernels = kernels;
  in_force = λ client on right. opened.grants.none_in_force client on right i;
  memory = λ x. (ap (λ (bytes : List (List ℕ)). unwrap_or (byte_at bytes x) 0) opened.memory ∙ none-written (region_lengths policy) x) i;
  signals = opened.signals i;
  openings = record { opened = opened.opened i; queues = map open_queue (opened.queues i) };
  next_id = λ queue. (none-told o.queues opened.queues queue i).next;
  errors = λ queue. (none-told o.queues opened.queues queue i).errors;
  is_stopped = λ queue. (none-told o.queues opened.queues queue i).stopped;
  flight = map (λ (p : PacketOrigin). p.flying) (opened.packets i);
  progress = λ queue id. elim (packet_in (opened.packets i) queue id) [ None ↦ LAUNCH_PROGRESS | Some p ↦ p.progress ];
  held = λ queue id client on right. packet_holds client on right (packet_in (opened.packets i) queue id);
  arguments = λ queue id. elim (packet_in (opened.packets i) queue id) [ None ↦ [] | Some p ↦ p.arguments ];
  before = opened.before i;
}

-- no queue's next id is above how many entries came before
next-along : (queue : QueueId) (from : ℕ) (es : List Entry) → fold (λ next entry. next_id_after queue next entry.event) from es ≤ from + length es
next-along queue from [] = omega arith
next-along queue from (e ∷ es) = by_tests (closes_queue queue e.event) (hands_over_packet_of queue e.event) (next-along queue 0 es) (next-along queue (from + 1) es) (next-along queue from es)
  where
    AreLow : ℕ → Type 0
    AreLow next = fold (λ next entry. next_id_after queue next entry.event) next es ≤ next + length es

    by_tests : (closes hands : Bool) → AreLow 0 → AreLow (from + 1) → AreLow from
        → fold (λ next entry. next_id_after queue next entry.event) (if closes then 0 else if hands then from + 1 else from) es ≤ from + length (e ∷ es)
    by_tests true hands none one same = omega (arith, none)
    by_tests false true none one same = omega (arith, one)
    by_tests false false none one same = omega (arith, same)

pub next_id-le : (s : Start) (es : List Entry) (queue : QueueId) → next_id s es queue ≤ s.next_id queue + length es
unfolding next_id
next_id-le s es queue = next-along queue (s.next_id queue) es

pub next-before : (s : Start) (es : List Entry) → IsLegal s es → (queue : QueueId) → s.next_id queue ≤ s.before
next-before s es legal queue =
    let first = opening_state legal.first s.kernels in
    subst (λ (now : Start). now.next_id queue ≤ now.before) (sym legal.start_is) (next_id-le first legal.prior queue)

-- ---- parts

-- the same to begin from gives the same answers
pub same-begin : (kernels : List Program) (one other : Origin) → SameOrigin one other → begin kernels one ≡ begin kernels other
same-begin kernels one other same = λ i. record {
  policy = same.policy i;
  kernels = kernels;
  in_force = λ client on right. same.granted client on right i;
  memory = λ x. unwrap_or (byte_at (same.memory i) x) 0;
  signals = same.signals i;
  openings = record { opened = same.opened i; queues = map open_queue (same.queues i) };
  next_id = λ queue. (queue_in (same.queues i) queue).next;
  errors = λ queue. (queue_in (same.queues i) queue).errors;
  is_stopped = λ queue. (queue_in (same.queues i) queue).stopped;
  flight = map (λ p. p.flying) (same.packets i);
  progress = λ queue id. elim (packet_in (same.packets i) queue id) [ None ↦ LAUNCH_PROGRESS | Some p ↦ p.progress ];
  held = λ queue id client on right. packet_holds client on right (packet_in (same.packets i) queue id);
  arguments = λ queue id. elim (packet_in (same.packets i) queue id) [ None ↦ [] | Some p ↦ p.arguments ];
  before = same.before i;
}

pub joined-part : (kernels : List Program) (first second : Part) → IsLegalPart kernels first → IsLegalPart kernels second → IsFollowedBy first second → IsLegalPart kernels (joined first second)
joined-part kernels first second one two follows =
    let here : begin kernels second.start ≡ state_after (begin kernels first.start) first.entries = same-begin kernels second.start first.end follows ∙ one.end_is in
    record {
      legal = join-legal (begin kernels first.start) first.entries (begin kernels second.start) second.entries one.legal two.legal here;
      end_is = two.end_is ∙ join-end (begin kernels first.start) first.entries (begin kernels second.start) second.entries here;
    }

-- ---- rotations

-- a rotated history goes on from the state behind the old one
pub rotated-start : (old new : History) (part : Part) → IsRotated old part new → beginning new ≡ state_after (beginning old) old.entries
rotated-start old new part is = ap (λ (kernels : List Program). begin kernels new.origin) is.kernels_are ∙ same-begin old.kernels new.origin part.end is.goes_on ∙ is.end_is

-- what it hands out of a legal one is legal
pub rotated-part : (old new : History) (part : Part) → IsLegal (beginning old) old.entries → IsRotated old part new → IsLegalPart old.kernels part
rotated-part old new part legal is =
    let began : begin old.kernels part.start ≡ beginning old = ap (begin old.kernels) is.start_is in
    record {
      legal = subst (λ (s : Start). IsLegal s part.entries) (sym began) (subst (IsLegal (beginning old)) (sym is.entries_are) legal);
      end_is = is.end_is ∙ sym (λ i. state_after (began i) (is.entries_are i));
    }

-- and so is what is left
pub rotated-rest : (old new : History) (part : Part) → IsLegal (beginning old) old.entries → IsRotated old part new → IsLegal (beginning new) new.entries
rotated-rest old new part legal is =
    subst (IsLegal (beginning new)) (sym is.empty) (subst (λ (s : Start). IsLegal s []) (sym (rotated-start old new part is)) (rotate-legal (beginning old) old.entries legal))
