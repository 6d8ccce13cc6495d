-- The requests of a drain, one list of them behind the other, and what is kept of them.
use Rattle.std.proofs.Common.{◌≡◌, ℕ, ◌+◌, ◌<◌, ◌≤◌, List, [], ◌∷◌, ◌++◌, ◌||◌, Bool, true, false, Option, Some, None, get_or, length, take, refl, sym, ap, subst, ◌∙◌, append_assoc, append-nil}
use Rattle.std.proofs.lemmas.List.{take_all, take_more}
use Rattle.std.specs.List.{list_any}
use Rattle.std.proofs.Math.Bool.{or-false}
use Rattle.std.proofs.lemmas.List.Folds.{list_any-append}
use Rattle.aql_packet.specs.declared.ids.QueueId.{QueueId}
use Rattle.aql_packet.specs.declared.packet.Packet.{Packet}
use Rattle.core_model.specs.declared.flight.InFlight.{InFlight}
use Rattle.world.specs.States.{Joined}
use Rattle.script.specs.Expansions.{does}
use Rattle.script.specs.Runs.{Told}
use Rattle.readable.specs.declared.fates.Fate.{Fate}
use Rattle.readable.specs.declared.flight.Queues.{Queues}
use Rattle.readable.specs.declared.log.Log.{Log}
use Rattle.readable.specs.declared.moves.Came.{Came}
use Rattle.readable.specs.declared.moves.Move.{Move}
use Rattle.readable.specs.declared.moves.Move.TheVariants as move
use Rattle.readable.specs.declared.steps.Step.{Step}
use Rattle.readable.specs.declared.tally.Tally.{Tally}
use Rattle.readable.specs.Drains.{Drains, Makes, Story}
use Rattle.readable.specs.Fates.{fated, with_fate}
use Rattle.readable.specs.Moves.{Made, MadeInTurn, came_of, command_of}
use Rattle.readable.specs.Rounds.{AreWorkedOn, EndsWith, Finishes, IsBehind, IsFirst, IsRound, IsWorkedOn, Served, finish_of, flight_in, work_of}
use Rattle.readable.specs.Steps.{has_moved, is_again, is_done, moves, step_made, step_of}
use Rattle.readable.specs.Tallies.{none_yet, tallied, with_came}
use Rattle.readable.specs.inner.Keeping.{Asks, Counts, Ends, Requests, Rounds}

or_assoc : (x y z : Bool) → (x || (y || z)) ≡ ((x || y) || z)
or_assoc true y z = refl
or_assoc false y z = refl

-- ---- requests in turn

pub turn_none : (world : Joined) → MadeInTurn world [] world
unfolding MadeInTurn
turn_none world = refl

pub turn_one : (old new : Joined) (one : Made) → does [] (command_of one.asked) old one.told new → MadeInTurn old (one ∷ []) new
unfolding MadeInTurn
turn_one old new one done = (new, done, refl)

pub turn_more : (old mid new : Joined) (made more : List Made) → MadeInTurn old made mid → MadeInTurn mid more new → MadeInTurn old (made ++ more) new
unfolding MadeInTurn
turn_more old mid new [] more same h = subst (λ start. MadeInTurn start more new) same h
turn_more old mid new (first ∷ made) more h k = (h.0, h.1, turn_more h.0 mid new made more h.2 k)

pub makes_more : (old mid new : Joined) (made : List Made) → MadeInTurn old made mid → Makes mid new → Makes old new
makes_more old mid new made h k = (made ++ k.0, turn_more old mid new made k.0 h k.1)

-- ---- what is kept of them

tallied_more : (t : Tally) (made more : List Made) → tallied t (made ++ more) ≡ tallied (tallied t made) more
unfolding tallied
tallied_more t [] more = refl
tallied_more t (first ∷ made) more = tallied_more (with_came t (came_of first.told)) made more

fated_more : (fates : List Fate) (made more : List Made) → fated fates (made ++ more) ≡ fated (fated fates made) more
unfolding fated
fated_more fates [] more = refl
fated_more fates (first ∷ made) more = fated_more (with_fate fates first.asked first.about (came_of first.told)) made more

tallied_none : (t : Tally) → t ≡ tallied t []
unfolding tallied
tallied_none t = refl

fated_none : (fates : List Fate) → fates ≡ fated fates []
unfolding fated
fated_none fates = refl

tallied_one : (t : Tally) (one : Made) → with_came t (came_of one.told) ≡ tallied t (one ∷ [])
unfolding tallied
tallied_one t one = refl

fated_one : (fates : List Fate) (one : Made) → with_fate fates one.asked one.about (came_of one.told) ≡ fated fates (one ∷ [])
unfolding fated
fated_one fates one = refl

counts_none : (log : Log) → Counts log [] log
counts_none log = record { tally = tallied_none log.tally; fates = fated_none log.fates.items }

counts_more : (before mid after : Log) (made more : List Made) → Counts before made mid → Counts mid more after → Counts before (made ++ more) after
counts_more before mid after made more h k = record {
  tally = k.tally ∙ ap (λ t. tallied t more) h.tally ∙ sym (tallied_more before.tally made more);
  fates = k.fates ∙ ap (λ fates. fated fates more) h.fates ∙ sym (fated_more before.fates.items made more);
}

pub asks_none : (world : Joined) (log : Log) → Asks world log [] world log
asks_none world log = record { made_in_turn = turn_none world; counts = counts_none log; moved = sym (or-false log.has_moved) }

pub asks_more : (old mid new : Joined) (before between after : Log) (made more : List Made) →
    Asks old before made mid between → Asks mid between more new after → Asks old before (made ++ more) new after
asks_more old mid new before between after made more h k = record {
  made_in_turn = turn_more old mid new made more h.made_in_turn k.made_in_turn;
  counts = counts_more before between after made more h.counts k.counts;
  moved = k.moved ∙ ap (λ moved. moved || list_any has_moved more) h.moved ∙ sym (or_assoc before.has_moved (list_any has_moved made) (list_any has_moved more))
      ∙ sym (ap (λ any. before.has_moved || any) (list_any-append has_moved made more));
}

-- ---- one request

abbrev MakesOne : Joined → Log → Move → Step → Joined → Log → Type 0
MakesOne old before asked step new after = (one : Made) × (one.asked ≡ asked) × (step_made one ≡ step) × Asks old before (one ∷ []) new after

one_made : (old new : Joined) (before after : Log) (one : Made) → does [] (command_of one.asked) old one.told new →
    after.tally ≡ with_came before.tally (came_of one.told) → after.fates.items ≡ with_fate before.fates.items one.asked one.about (came_of one.told) →
    after.has_moved ≡ (before.has_moved || has_moved one) → Asks old before (one ∷ []) new after
one_made old new before after one done tally fates moved = record {
  made_in_turn = turn_one old new one done;
  counts = record { tally = tally ∙ tallied_one before.tally one; fates = fates ∙ fated_one before.fates.items one };
  moved = moved ∙ ap (λ b. before.has_moved || b) (sym (or-false (has_moved one)));
}

pub made_one : (old new : Joined) (before after : Log) (asked : Move) (about : Option Packet) (came : Came) (step : Step) → Requests asked old came new →
    after.tally ≡ with_came before.tally came → after.fates.items ≡ with_fate before.fates.items asked about came →
    after.has_moved ≡ (before.has_moved || moves (step_of came)) → step ≡ step_of came → MakesOne old before asked step new after
made_one old new before after asked about came step request tally fates moved is =
    let told = request.0 in
    let same = request.2 in
    let one : Made = record { asked = asked; told = told; about = about } in (
      one,
      refl,
      sym (is ∙ ap step_of same),
      one_made old new before after one request.1 (tally ∙ ap (λ came. with_came before.tally came) same) (fates ∙ ap (λ came. with_fate before.fates.items asked about came) same)
          (moved ∙ ap (λ came. before.has_moved || moves (step_of came)) same),
    )

pub made_unkept : (old new : Joined) (asked : Move) (came : Came) → Requests asked old came new → Makes old new
made_unkept old new asked came request =
    let one : Made = record { asked = asked; told = request.0; about = None } in
    (one ∷ [], turn_one old new one request.1)

-- ---- a request until it isn't asked once more

pub ended_with : (old mid new : Joined) (before between after : Log) (asked : Move) (step : Step) → ((made : List Made) × Asks old before made mid between) →
    MakesOne mid between asked step new after → is_again step ≡ false → (made : List Made) × EndsWith asked step made × Asks old before made new after
ended_with old mid new before between after asked step h k still = (
  h.0 ++ k.0 ∷ [],
  (h.0, k.0, refl, k.1, k.2, still),
  asks_more old mid new before between after h.0 (k.0 ∷ []) h.1 k.3,
)

pub asks_begun : (world : Joined) (log : Log) → (made : List Made) × Asks world log made world log
asks_begun world log = ([], asks_none world log)

pub asked_again : (old mid new : Joined) (before between after : Log) (asked : Move) (step : Step) → ((made : List Made) × Asks old before made mid between) →
    MakesOne mid between asked step new after → (made : List Made) × Asks old before made new after
asked_again old mid new before between after asked step h k = (h.0 ++ k.0 ∷ [], asks_more old mid new before between after h.0 (k.0 ∷ []) h.1 k.3)

pub unkept_behind : (old mid new : Joined) (before between : Log) → ((made : List Made) × Asks old before made mid between) → Makes mid new → Makes old new
unkept_behind old mid new before between h k = makes_more old mid new h.0 h.1.made_in_turn k

pub unkept : (old new : Joined) (before after : Log) → ((made : List Made) × Asks old before made new after) → Makes old new
unkept old new before after h = (h.0, h.1.made_in_turn)

-- ---- queues in turn

abbrev ServesTo : Queues → Joined → Log → Joined → Log → Option QueueId → Type 0
ServesTo queues old before new after next =
    (made : List Made) × (served : List QueueId) × Served queues old served made new next × Asks old before made new after

abbrev EndsOn : Joined → Log → Move → Step → Joined → Log → Type 0
EndsOn old before asked step new after = (made : List Made) × EndsWith asked step made × Asks old before made new after

pub served_none : (queues : Queues) (world : Joined) (log : Log) (next : Option QueueId) → IsFirst queues world next → ServesTo queues world log world log next
unfolding Served
served_none queues world log next first = ([], [], (refl, refl, first), asks_none world log)

pub served_more : (queues : Queues) (old mid new : Joined) (before between after : Log) (queue : QueueId) (step : Step) (now next : Option QueueId) → now ≡ Some queue →
    ServesTo queues old before mid between now → EndsOn mid between (move.Serve queue) step new after → IsBehind queues new queue next → ServesTo queues old before new after next
unfolding Served
served_more queues old mid new before between after queue step now next is h k behind = (
  h.0 ++ k.0,
  queue ∷ h.1,
  (h.0, k.0, mid, step, refl, subst (λ now. Served queues old h.1 h.0 mid now) is h.2, k.2.made_in_turn, k.1, behind),
  asks_more old mid new before between after h.0 k.0 h.3 k.2,
)

pub served_unkept : (queues : Queues) (old mid new : Joined) (before between : Log) (next : Option QueueId) → ServesTo queues old before mid between next → Makes mid new → Makes old new
served_unkept queues old mid new before between next h k = makes_more old mid new h.0 h.3.made_in_turn k

pub served_all : (queues : Queues) (old new : Joined) (before after : Log) (next : Option QueueId) → next ≡ None → ServesTo queues old before new after next →
    ServesTo queues old before new after None
served_all queues old new before after next is h = subst (λ next. ServesTo queues old before new after next) is h

pub serves_undone : (queues : Queues) (old new : Joined) (before after : Log) (next : Option QueueId) → ServesTo queues old before new after next → Makes old new
serves_undone queues old new before after next h = (h.0, h.3.made_in_turn)

-- ---- packets in turn

abbrev WorksOn : InFlight → Joined → Log → Joined → Log → Type 0
WorksOn f old before new after = (made : List Made) × IsWorkedOn f made × Asks old before made new after

abbrev WorksOnEach : List InFlight → Joined → Log → Joined → Log → Type 0
WorksOnEach flight old before new after = (made : List Made) × AreWorkedOn flight made × Asks old before made new after

pub worked_and_finished : (f : InFlight) (old mid new : Joined) (before between after : Log) (step last : Step) → EndsOn old before (work_of f) step mid between → is_done step ≡ true →
    MakesOne mid between (finish_of f) last new after → WorksOn f old before new after
worked_and_finished f old mid new before between after step last h done k = (
  h.0 ++ k.0 ∷ [],
  (h.0, k.0 ∷ [], step, refl, h.1, subst (λ b. Finishes f b (k.0 ∷ [])) (sym done) (k.0, refl, k.1)),
  asks_more old mid new before between after h.0 (k.0 ∷ []) h.2 k.3,
)

pub worked : (f : InFlight) (old new : Joined) (before after : Log) (step : Step) → EndsOn old before (work_of f) step new after → is_done step ≡ false → WorksOn f old before new after
worked f old new before after step h undone = (
  h.0,
  (h.0, [], step, sym (append-nil h.0), h.1, subst (λ b. Finishes f b []) (sym undone) refl),
  h.2,
)

pub ended_unkept : (old mid new : Joined) (before between : Log) (asked : Move) (step : Step) → EndsOn old before asked step mid between → Makes mid new → Makes old new
ended_unkept old mid new before between asked step h k = makes_more old mid new h.0 h.2.made_in_turn k

pub each_none : (world : Joined) (log : Log) → WorksOnEach [] world log world log
unfolding AreWorkedOn
each_none world log = ([], refl, asks_none world log)

-- one packet more was worked on, behind others
are_more : (flight : List InFlight) (f : InFlight) (made first : List Made) → AreWorkedOn flight made → IsWorkedOn f first → AreWorkedOn (flight ++ f ∷ []) (made ++ first)
unfolding AreWorkedOn
are_more [] f made first none h = (first, [], ap (λ front. front ++ first) none ∙ sym (append-nil first), h, refl)
are_more (g ∷ flight) f made first h k = (
  h.0,
  h.1 ++ first,
  ap (λ front. front ++ first) h.2 ∙ append_assoc h.0 h.1 first,
  h.3,
  are_more flight f h.1 first h.4 k,
)

pub each_more : (flight : List InFlight) (place : ℕ) (d : InFlight) (old mid new : Joined) (before between after : Log) → place < length flight →
    WorksOnEach (take place flight) old before mid between → WorksOn (get_or flight place d) mid between new after → WorksOnEach (take (place + 1) flight) old before new after
each_more flight place d old mid new before between after lt h k =
    subst (λ fs. WorksOnEach fs old before new after) (sym (take_more flight place d lt)) (
      h.0 ++ k.0,
      are_more (take place flight) (get_or flight place d) h.0 k.0 h.1 k.1,
      asks_more old mid new before between after h.0 k.0 h.2 k.2,
    )

pub each_all : (flight : List InFlight) (place : ℕ) (old new : Joined) (before after : Log) → length flight ≤ place → WorksOnEach (take place flight) old before new after →
    WorksOnEach flight old before new after
each_all flight place old new before after le h = subst (λ fs. WorksOnEach fs old before new after) (take_all place flight le) h

pub each_unkept : (flight : List InFlight) (old mid new : Joined) (before between : Log) → WorksOnEach flight old before mid between → Makes mid new → Makes old new
each_unkept flight old mid new before between h k = makes_more old mid new h.0 h.2.made_in_turn k

-- ---- rounds

abbrev MakesRound : Queues → Joined → Log → Joined → Log → Type 0
MakesRound queues old before new after = (made : List Made) × IsRound queues old made new × Asks old before made new after

pub round_made : (queues : Queues) (flight : List InFlight) (old mid new : Joined) (before between after : Log) → ServesTo queues old before mid between None → flight ≡ flight_in queues mid →
    WorksOnEach flight mid between new after → MakesRound queues old before new after
round_made queues flight old mid new before between after h is k = (
  h.0 ++ k.0,
  (h.0, k.0, mid, h.1, refl, h.2, k.2.made_in_turn, subst (λ flight. AreWorkedOn flight k.0) is k.1),
  asks_more old mid new before between after h.0 k.0 h.3 k.2,
)

pub serves_unkept : (queues : Queues) (old mid new : Joined) (before between : Log) → ServesTo queues old before mid between None → Makes mid new → Makes old new
serves_unkept queues old mid new before between h k = makes_more old mid new h.0 h.3.made_in_turn k

abbrev RoundsTo : Joined → Log → Joined → Log → Type 0
RoundsTo old before new after = (made : List Made) × Rounds old before made new after

pub rounds_none : (world : Joined) (log : Log) → RoundsTo world log world log
rounds_none world log = ([], record { made_in_turn = turn_none world; counts = counts_none log })

-- counts go on where a round begins
counts_on : (before mid begun after : Log) (made more : List Made) → Counts before made mid → begun.tally ≡ mid.tally → begun.fates.items ≡ mid.fates.items → Counts begun more after →
    Counts before (made ++ more) after
counts_on before mid begun after made more h tally fates k =
    counts_more before begun after made more (record { tally = tally ∙ h.tally; fates = fates ∙ h.fates }) k

pub rounds_more : (queues : Queues) (old mid new : Joined) (before between begun after : Log) → RoundsTo old before mid between → begun.tally ≡ between.tally →
    begun.fates.items ≡ between.fates.items → MakesRound queues mid begun new after → RoundsTo old before new after
rounds_more queues old mid new before between begun after h tally fates k = (
  h.0 ++ k.0,
  record {
    made_in_turn = turn_more old mid new h.0 k.0 h.1.made_in_turn k.2.made_in_turn;
    counts = counts_on before between begun after h.0 k.0 h.1.counts tally fates k.2.counts;
  },
)

pub rounds_over : (queues : Queues) (old mid new : Joined) (before between begun after : Log) → RoundsTo old before mid between → begun.tally ≡ between.tally →
    begun.fates.items ≡ between.fates.items → begun.has_moved ≡ false → MakesRound queues mid begun new after → after.has_moved ≡ false →
    (made : List Made) × Ends queues old before made new after
rounds_over queues old mid new before between begun after h tally fates none k still = (
  h.0 ++ k.0,
  record {
    front = h.0;
    round = k.0;
    mid = mid;
    made_is = refl;
    made_before = h.1.made_in_turn;
    is_round = k.1;
    still = sym (ap (λ b. b || list_any has_moved k.0) none) ∙ sym k.2.moved ∙ still;
    made_in_turn = turn_more old mid new h.0 k.0 h.1.made_in_turn k.2.made_in_turn;
    counts = counts_on before between begun after h.0 k.0 h.1.counts tally fates k.2.counts;
  },
)

pub rounds_unkept : (old mid new : Joined) (before between : Log) → RoundsTo old before mid between → Makes mid new → Makes old new
rounds_unkept old mid new before between h k = makes_more old mid new h.0 h.1.made_in_turn k

pub rounds_undone : (old new : Joined) (before after : Log) → RoundsTo old before new after → Makes old new
rounds_undone old new before after h = (h.0, h.1.made_in_turn)

-- ---- a drain

abbrev told : Tally → List Fate → Story
told tally fates = record { tally = tally; fates = fates }

pub drained : (queues : Queues) (old new : Joined) (before after : Log) (tally : Tally) (fates : List Fate) → before.tally ≡ none_yet → before.fates.items ≡ [] →
    ((made : List Made) × Ends queues old before made new after) → tally ≡ after.tally → fates ≡ after.fates.items → Drains queues old (told tally fates) new
drained queues old new before after tally fates none empty (made, ends) is same = (
  made,
  ends.made_in_turn,
  (ends.front, ends.round, ends.mid, ends.made_is, ends.made_before, ends.is_round, ends.still),
  ap (λ t. told t fates) (is ∙ ends.counts.tally ∙ ap (λ t. tallied t made) none)
      ∙ ap (λ fs. told (tallied none_yet made) fs) (same ∙ ends.counts.fates ∙ ap (λ fs. fated fs made) empty),
)

pub made_over : (queues : Queues) (old new : Joined) (before after : Log) → ((made : List Made) × Ends queues old before made new after) → Makes old new
made_over queues old new before after (made, ends) = (made, ends.made_in_turn)
