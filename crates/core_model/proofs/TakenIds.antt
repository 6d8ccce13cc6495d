-- What is taken of a queue has the ids from its start's next one on, each once, in order.
use Rattle.std.proofs.Common.{◌≡◌, ℕ, zero, suc, ◌+◌, List, [], ◌∷◌, ◌++◌, length, refl, sym, ◌∙◌, ap, subst, Bool, true, false, Option, Some, None, append_assoc, arith}
use Rattle.std.proofs.lemmas.Bool.{eqb-true}
use Rattle.std.proofs.lemmas.List.{append-nil}
use Rattle.std.specs.Prelude.{◌==◌, ◌||◌, if◌then◌else◌, is_some, option_to_list, slice_get}
use Rattle.std.specs.List.{cons_option, list_any}
use Rattle.aql_packet.specs.declared.ids.QueueId.{QueueId}
use Rattle.core_model.specs.declared.entry.Entry.{Entry}
use Rattle.core_model.specs.declared.entry.Effect.{Effect}
use Rattle.core_model.specs.declared.event.Event.{Event}
use Rattle.core_model.specs.declared.event.Event.TheVariants.{Open, Take, Reload, Call}
use Rattle.core_model.specs.declared.call.Call.TheVariants.{Grant, Revoke, Stop, Close, RunNext, Poll, Finish, HostWrite, ChangeSignal}
use Rattle.core_model.specs.declared.outcome.Outcome.{Outcome}
use Rattle.core_model.specs.declared.served.Served.{Served}
use Rattle.core_model.specs.History.{Start}
use Rattle.core_model.specs.Legal.{IsLegal, IsLegalAfter}
use Rattle.core_model.specs.Owed.{enters, owed}
use Rattle.core_model.specs.Queues.{Openings, closes_queue, hands_over_packet_of, next_id, openings}
use Rattle.core_model.specs.Closed.{names_queue}
use Rattle.core_model.specs.Takes.{taken_by, takes}
use Rattle.core_model.proofs.Closing.{named-open}
use Rattle.core_model.proofs.Launches.{IsNext-from_owed, past-closed}
use Rattle.core_model.proofs.More.{next_id-more, openings-more}
use Rattle.core_model.proofs.Openings.{AreNumbered, IsPast, closes-is, numbered-after, past-after}
use Rattle.core_model.proofs.Behind.{ordered-legal}
use Rattle.core_model.proofs.States.{legal-beginning, legal-own}

-- ---- one event

-- what an event takes of a queue it takes under its next id
is_next : (s : Start) (before : List Entry) (queue : QueueId) (event : Event) (told : Outcome) (effects : List Effect) (t : Served)
    → owed s before event ≡ enters told effects → taken_by queue event ≡ Some t → t.id.0 ≡ next_id s before queue
is_next s before queue (Take q id bytes) told effects t owing is = by_test (q.0 == queue.0) refl is
  where
    by_test : (b : Bool) → (q.0 == queue.0) ≡ b → (if b then Some (record { id = id; bytes = bytes }) else None) ≡ Some t → t.id.0 ≡ next_id s before queue
    by_test true same now =
        let queues : q ≡ queue = ap (λ n. record { 0 = n }) (eqb-true _ _ same) in
        let next = IsNext-from_owed s before q id bytes told effects owing in
        let which : id.0 ≡ t.id.0 = ap (λ (o : Option Served). elim o [ None ↦ 0 | Some one ↦ one.id.0 ]) now in
        subst (λ (of : QueueId). t.id.0 ≡ next_id s before of) queues (sym which ∙ next.id_is)
    by_test false other now = absurd cc
is_next s before queue (Call (Grant _ _ _)) told effects t owing is = absurd cc
is_next s before queue (Call (Revoke _ _ _)) told effects t owing is = absurd cc
is_next s before queue (Open _ _ _) told effects t owing is = absurd cc
is_next s before queue (Call (Stop _)) told effects t owing is = absurd cc
is_next s before queue (Call (Close _)) told effects t owing is = absurd cc
is_next s before queue (Call (RunNext _ _)) told effects t owing is = absurd cc
is_next s before queue (Call (Poll _ _)) told effects t owing is = absurd cc
is_next s before queue (Call (Finish _ _)) told effects t owing is = absurd cc
is_next s before queue (Call (HostWrite _ _ _)) told effects t owing is = absurd cc
is_next s before queue (Call (ChangeSignal _ _ _)) told effects t owing is = absurd cc
is_next s before queue (Reload _) told effects t owing is = absurd cc

-- an event hands over a packet of a queue just where it takes one of it
hands : (queue : QueueId) (event : Event) → hands_over_packet_of queue event ≡ is_some (taken_by queue event)
hands queue (Take q id bytes) = by_test (q.0 == queue.0)
  where
    taken_if : Bool → Option Served
    taken_if b = if b then Some (record { id = id; bytes = bytes }) else None

    by_test : (b : Bool) → b ≡ is_some (taken_if b)
    by_test true = refl
    by_test false = refl
hands queue (Call (Grant _ _ _)) = refl
hands queue (Call (Revoke _ _ _)) = refl
hands queue (Open _ _ _) = refl
hands queue (Call (Stop _)) = refl
hands queue (Call (Close _)) = refl
hands queue (Call (RunNext _ _)) = refl
hands queue (Call (Poll _ _)) = refl
hands queue (Call (Finish _ _)) = refl
hands queue (Call (HostWrite _ _ _)) = refl
hands queue (Call (ChangeSignal _ _ _)) = refl
hands queue (Reload _) = refl

next-taken : (s : Start) (es : List Entry) (e : Entry) (queue : QueueId) → closes_queue queue e.event ≡ false → next_id s (es ++ e ∷ []) queue ≡ next_id s es queue + length (option_to_list (taken_by queue e.event))
next-taken s es e queue stays =
    next_id-more s es e queue
    ∙ ap (λ (b : Bool). if b then 0 else if hands_over_packet_of queue e.event then next_id s es queue + 1 else next_id s es queue) stays
    ∙ ap (λ (b : Bool). if b then next_id s es queue + 1 else next_id s es queue) (hands queue e.event)
    ∙ by_taken (taken_by queue e.event)
  where
    by_taken : (o : Option Served) → (if is_some o then next_id s es queue + 1 else next_id s es queue) ≡ next_id s es queue + length (option_to_list o)
    by_taken None = omega arith
    by_taken (Some t) = refl

-- ---- lists

-- the next id counts what was taken
pub count : (s : Start) (before es : List Entry) (queue : QueueId) → list_any (λ (e : Entry). closes_queue queue e.event) es ≡ false → next_id s (before ++ es) queue ≡ next_id s before queue + length (takes es queue)
count s before [] queue none = let same : next_id s (before ++ []) queue ≡ next_id s before queue = ap (λ (now : List Entry). next_id s now queue) (append-nil before) in omega (arith, same)
count s before (e ∷ es) queue none =
    let both = neither (closes_queue queue e.event) (list_any (λ (later : Entry). closes_queue queue later.event) es) none in
    let all : next_id s (before ++ e ∷ es) queue ≡ next_id s ((before ++ e ∷ []) ++ es) queue = ap (λ (now : List Entry). next_id s now queue) (sym (append_assoc before (e ∷ []) es)) in
    let rest = count s (before ++ e ∷ []) es queue both.1 in
    let one = next-taken s before e queue both.0 in
    let whole = longer (taken_by queue e.event) (takes es queue) in
    omega (arith, all, rest, one, whole)
  where
    longer : (o : Option Served) (rest : List Served) → length (cons_option o rest) ≡ length (option_to_list o) + length rest
    longer None rest = omega arith
    longer (Some t) rest = omega arith

    neither : (a b : Bool) → (a || b) ≡ false → (a ≡ false) × (b ≡ false)
    neither false b is = (refl, is)
    neither true b is = absurd cc

-- of a queue that is gone for good nothing is taken
taken-names : (queue : QueueId) (event : Event) (t : Served) → taken_by queue event ≡ Some t → names_queue queue event ≡ true
taken-names queue (Take q id bytes) t is = by_test (q.0 == queue.0) is
  where
    by_test : (b : Bool) → (if b then Some (record { id = id; bytes = bytes }) else None) ≡ Some t → b ≡ true
    by_test true now = refl
    by_test false now = absurd cc
taken-names queue (Open _ _ _) t is = absurd cc
taken-names queue (Reload _) t is = absurd cc
taken-names queue (Call (Grant _ _ _)) t is = absurd cc
taken-names queue (Call (Revoke _ _ _)) t is = absurd cc
taken-names queue (Call (Stop _)) t is = absurd cc
taken-names queue (Call (Close _)) t is = absurd cc
taken-names queue (Call (RunNext _ _)) t is = absurd cc
taken-names queue (Call (Poll _ _)) t is = absurd cc
taken-names queue (Call (Finish _ _)) t is = absurd cc
taken-names queue (Call (HostWrite _ _ _)) t is = absurd cc
taken-names queue (Call (ChangeSignal _ _ _)) t is = absurd cc

past-untaken : (s : Start) (before es : List Entry) (queue : QueueId) → IsPast (openings s before) queue → IsLegalAfter s before es → takes es queue ≡ []
past-untaken s before [] queue past legal = refl
past-untaken s before (e ∷ es) queue past legal =
    ap (λ (o : Option Served). cons_option o (takes es queue)) (none (taken_by queue e.event) refl)
    ∙ past-untaken s (before ++ e ∷ []) es queue (subst (λ (all : Openings). IsPast all queue) (sym (openings-more s before e)) (past-after (openings s before) e.event queue past)) legal.1
  where
    none : (o : Option Served) → taken_by queue e.event ≡ o → taken_by queue e.event ≡ None
    none None is = is
    none (Some t) is =
        let owned = named-open s before queue e.event e.outcome e.effects (taken-names queue e.event t is) legal.0 in
        let same : Some owned.0 ≡ None = sym owned.1 ∙ past.0 in
        absurd cc

-- the ids go on from the next one, by whether the first entry takes one, where those behind it do
ids-by : (s : Start) (before : List Entry) (e : Entry) (es : List Entry) (queue : QueueId) (t : Served) → owed s before e.event ≡ enters e.outcome e.effects
    → closes_queue queue e.event ≡ false → ((place : ℕ) → slice_get (takes es queue) place ≡ Some t → t.id.0 ≡ next_id s (before ++ e ∷ []) queue + place)
    → (o : Option Served) → taken_by queue e.event ≡ o → (place : ℕ) → slice_get (cons_option o (takes es queue)) place ≡ Some t → t.id.0 ≡ next_id s before queue + place
ids-by s before e es queue t owing stays rest None none place there =
    let here = rest place there in
    let none_taken : Option Served = None in
    let same : next_id s (before ++ e ∷ []) queue ≡ next_id s before queue + length (option_to_list none_taken) =
    next-taken s before e queue stays ∙ ap (λ (o : Option Served). next_id s before queue + length (option_to_list o)) none in
    omega (arith, here, same)
ids-by s before e es queue t owing stays rest (Some one) some zero there =
    let here : t.id.0 ≡ next_id s before queue = is_next s before queue e.event e.outcome e.effects t owing (some ∙ there) in
    omega (arith, here)
ids-by s before e es queue t owing stays rest (Some one) some (suc place) there =
    let here = rest place there in
    let more : next_id s (before ++ e ∷ []) queue ≡ next_id s before queue + length (option_to_list (Some one)) =
    next-taken s before e queue stays ∙ ap (λ (o : Option Served). next_id s before queue + length (option_to_list o)) some in
    omega (arith, here, more)

-- an entry that closes the queue takes nothing of it, and neither do those behind
ids-closed : (s : Start) (before : List Entry) (e : Entry) (es : List Entry) (queue : QueueId) → AreNumbered (openings s before) → IsLegalAfter s before (e ∷ es) → closes_queue queue e.event ≡ true → takes (e ∷ es) queue ≡ []
ids-closed s before e es queue each legal closes =
    ap (λ (event : Event). cons_option (taken_by queue event) (takes es queue)) (closes-is queue e.event closes)
    ∙ past-untaken s (before ++ e ∷ []) es queue (past-closed s before e queue each legal.0 closes) legal.1

ids-after : (s : Start) (before es : List Entry) (queue : QueueId) → AreNumbered (openings s before) → IsLegalAfter s before es → (place : ℕ) (t : Served) → slice_get (takes es queue) place ≡ Some t
    → t.id.0 ≡ next_id s before queue + place
ids-after s before [] queue each legal place t found = absurd cc
ids-after s before (e ∷ es) queue each legal place t found =
    by_close (closes_queue queue e.event) refl
    (λ later there. ids-after s (before ++ e ∷ []) es queue (subst AreNumbered (sym (openings-more s before e)) (numbered-after (openings s before) e.event each)) legal.1 later t there)
  where
    by_close : (b : Bool) → closes_queue queue e.event ≡ b → ((place : ℕ) → slice_get (takes es queue) place ≡ Some t → t.id.0 ≡ next_id s (before ++ e ∷ []) queue + place) → t.id.0 ≡ next_id s before queue + place
    by_close false stays rest = ids-by s before e es queue t legal.0 stays rest (taken_by queue e.event) refl place found
    by_close true closes rest = let none : slice_get [] place ≡ Some t = ap (λ (ts : List Served). slice_get ts place) (sym (ids-closed s before e es queue each legal closes)) ∙ found in absurd cc

pub ids : (s : Start) (es : List Entry) (queue : QueueId) (place : ℕ) (t : Served) → IsLegal s es → slice_get (takes es queue) place ≡ Some t → t.id.0 ≡ next_id s [] queue + place
ids s es queue place t legal found = ids-after s [] es queue (ordered-legal s [] (legal-beginning s [] es legal)).1 (legal-own s es legal) place t found
