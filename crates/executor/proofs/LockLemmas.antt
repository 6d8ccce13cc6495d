-- What a group's items did in any order, with no mark in the way, is the least item first.
use Rattle.std.proofs.Common.{◌≡◌, ℕ, zero, suc, ◌+◌, List, [], ◌∷◌, ◌++◌, length, refl, sym, ap, subst, arith, append-nil}
use Rattle.executor.specs.Group.{Standing, ready, waiting, ended, Status, running, done, Leads, context_of_item, least_waiting, met}
use Rattle.executor.specs.Items.{Contents, Surroundings}
use Rattle.executor.specs.Footprints.{Bytes, IsTurn, LeadsTo, contents_of}
use Rattle.executor.specs.LockStep.{HaveStopped, Moment, PassesPhases, RunsInLockStep, RunsToStop, TakesTurn, TakeTurns, status_around}
use Rattle.executor.specs.Meaning.{Act, goes_on, arrives, ends, broke, turn}
use Rattle.executor.specs.inner.Stops.{AreStopped}
use Rattle.executor.specs.Items.{blank}
use Rattle.executor.specs.Locations.{count_of}
use Rattle.executor.specs.Results.{group_result, result_at, wrote}
use Rattle.executor.specs.Runs.{GroupInput, begun, location_of, surroundings_of}
use Rattle.executor.specs.Told.{runs_of}
use Rattle.kernel_check.specs.Programs.{Program}
use Rattle.std.proofs.Math.Nat.{min-le_left}
use Rattle.std.specs.Prelude.{slice_set, ◌≤◌}
use Rattle.executor.proofs.GroupEnds.{product_le}
use Rattle.executor.proofs.TurnLemmas.{one_end}
use Rattle.executor.proofs.GroupLemmas.{arrives_now, ends_now, goes_more, leads_none, leads_one, leads_trans, meet}
use Rattle.executor.proofs.Layers.{AloneIn, InTurn, Kept, in_order, none_yet, turns}

-- a turn as a step from memory to memory
abbrev Turns : Surroundings → Program → ℕ → ℕ → Standing → Bytes → Standing → Bytes → Type 0
Turns a p size n s m next after = IsTurn a p size n s m next (contents_of size after)

stopped_first : (s : Standing) (rest : List Standing) → AreStopped (s ∷ rest) → AreStopped (s ∷ [])
stopped_first (ready i executed) rest are = are
stopped_first (waiting i executed) rest are = tt
stopped_first ended rest are = tt

stopped_rest : (s : Standing) (rest : List Standing) → AreStopped (s ∷ rest) → AreStopped rest
stopped_rest (ready i executed) rest are = absurd are
stopped_rest (waiting i executed) rest are = are
stopped_rest ended rest are = are

pub stopped_both : (xs ys : List Standing) → AreStopped xs → AreStopped ys → AreStopped (xs ++ ys)
stopped_both [] ys are others = others
stopped_both (ready i executed ∷ xs) ys are others = absurd are
stopped_both (waiting i executed ∷ xs) ys are others = stopped_both xs ys are others
stopped_both (ended ∷ xs) ys are others = stopped_both xs ys are others

pub one_behind : (xs : List Standing) (s : Standing) (ys : List Standing) → (xs ++ s ∷ []) ++ ys ≡ xs ++ s ∷ ys
one_behind [] s ys = refl
one_behind (x ∷ xs) s ys = ap (λ t. x ∷ t) (one_behind xs s ys)

pub one_longer : (xs : List Standing) (s : Standing) (n : ℕ) → length xs ≡ n → length (xs ++ s ∷ []) ≡ n + 1
one_longer [] s n e = omega (arith, e)
one_longer (x ∷ xs) s n e = let rest : length (xs ++ s ∷ []) ≡ length xs + 1 = one_longer xs s (length xs) refl in omega (arith, rest, e)

module _ (a : Surroundings) (p : Program) (size : ℕ) (from : Status) where
  module _ (n : ℕ) (earlier rest : List Standing) (are : AreStopped earlier) (many : length earlier ≡ n) where
    -- one turn of the least item that is ready
    one_more : (s next : Standing) (m after : Bytes) → Turns a p size n s m next after
        → Leads a p from (running (earlier ++ s ∷ rest) (contents_of size m)) → Leads a p from (running (earlier ++ next ∷ rest) (contents_of size after))
    one_more (waiting i executed) next m after took before = absurd took
    one_more ended next m after took before = absurd took
    one_more (ready i executed) next m after took before = by_act (turn (context_of_item a n) p.steps i executed (contents_of size m)) refl took
      where
        by_act : (x : Act) → turn (context_of_item a n) p.steps i executed (contents_of size m) ≡ x → LeadsTo executed x next (contents_of size after)
            → Leads a p from (running (earlier ++ next ∷ rest) (contents_of size after))
        by_act (goes_on now c) is went =
            subst (λ w. Leads a p from w) (λ j. running (earlier ++ sym went.0 j ∷ rest) (went.1 j))
            (goes_more a p n earlier rest are many from i executed (contents_of size m) before now c is)
        by_act (arrives now c) is went =
            subst (λ w. Leads a p from w) (λ j. running (earlier ++ sym went.0 j ∷ rest) (went.1 j))
            (arrives_now a p n earlier rest are many from i executed (contents_of size m) before now c is)
        by_act (ends c) is went =
            subst (λ w. Leads a p from w) (λ j. running (earlier ++ sym went.0 j ∷ rest) (went.1 j))
            (ends_now a p n earlier rest are many from i executed (contents_of size m) before c is)
        by_act (broke rule address) is went = absurd went

    -- all of its turns
    alone_more : (k : ℕ) (s next : Standing) (m after : Bytes) → AloneIn (Turns a p size n) k s m next after
        → Leads a p from (running (earlier ++ s ∷ rest) (contents_of size m)) → Leads a p from (running (earlier ++ next ∷ rest) (contents_of size after))
    alone_more zero s next m after alone before =
        subst (λ w. Leads a p from w) (λ j. running (earlier ++ alone.0 j ∷ rest) (contents_of size (alone.1 j))) before
    alone_more (suc k) s next m after alone before =
        one_more alone.0 next alone.1 after alone.3 (alone_more k s alone.0 m alone.1 alone.2 before)

  -- items one after the other
  in_turn_leads : (n : ℕ) (earlier starts items later : List Standing) (m after : Bytes) → AreStopped earlier → length earlier ≡ n
      → InTurn (Turns a p size) n starts m items after → AreStopped items
      → Leads a p from (running (earlier ++ (starts ++ later)) (contents_of size m)) → Leads a p from (running (earlier ++ (items ++ later)) (contents_of size after))
  in_turn_leads n earlier [] [] later m after are many turns stopped before =
      subst (λ w. Leads a p from (running (earlier ++ later) (contents_of size w))) turns before
  in_turn_leads n earlier [] (s ∷ items) later m after are many turns stopped before = absurd turns
  in_turn_leads n earlier (begun ∷ starts) [] later m after are many turns stopped before = absurd turns
  in_turn_leads n earlier (begun ∷ starts) (s ∷ items) later m after are many turns stopped before =
      let here = alone_more n earlier (starts ++ later) are many turns.1.0 begun s m turns.0 turns.1.1 before in
      subst (λ w. Leads a p from (running w (contents_of size after))) (one_behind earlier s (items ++ later))
      (in_turn_leads (n + 1) (earlier ++ s ∷ []) starts items later turns.0 after
      (stopped_both earlier (s ∷ []) are (stopped_first s items stopped)) (one_longer earlier s n many) turns.2 (stopped_rest s items stopped)
      (subst (λ w. Leads a p from (running w (contents_of size turns.0))) (sym (one_behind earlier s (starts ++ later))) here))

-- ---- turns in any order

-- one turn beside what each work-item would find alone
module _ (a : Surroundings) (p : Program) (size first : ℕ) (layer : Bytes) (starts : List Standing) where
  abbrev KeptAt : Moment → Type 0
  KeptAt moment = Kept (Turns a p size) first layer starts moment.items moment.marks.read moment.marks.wrote moment.memory

  one_taken : (place : ℕ) (before after : Moment) → TakesTurn a p size first place before after → KeptAt before → KeptAt after
  one_taken place before after t kept =
      subst (λ items. Kept (Turns a p size) first layer starts items after.marks.read after.marks.wrote after.memory) (sym t.items)
      (subst (λ m. Kept (Turns a p size) first layer starts (slice_set before.items place t.next) after.marks.read after.marks.wrote m) (sym t.memory)
      (turns (Turns a p size) (first + place) t.item t.next t.footprint.writes t.footprint.reads before.memory before.marks.read before.marks.wrote
      after.marks.read after.marks.wrote t.turns t.no_conflict.read_unwritten
      (λ x some. (t.no_conflict.written_unwritten x some, t.no_conflict.written_unread x some))
      (record { keep = t.marks.read_kept; above = t.marks.reader_marked })
      (record { keep = t.marks.wrote_kept; above = t.marks.writer_marked })
      place first refl layer starts before.items t.there kept))

  all_taken : (order : List ℕ) (before after : Moment) → TakeTurns a p size first order before after → KeptAt before → KeptAt after
  all_taken [] before after same kept = subst KeptAt same kept
  all_taken (place ∷ later) before after taken kept =
      all_taken later taken.0 after taken.2 (one_taken place before taken.0 taken.1 kept)

-- what work-items did in any order they do one after the other
in_turn : (a : Surroundings) (p : Program) (size first : ℕ) (order : List ℕ) (before after : Moment) → TakeTurns a p size first order before after
    → InTurn (Turns a p size) first before.items before.memory after.items after.memory
in_turn a p size first order before after taken =
    in_order (Turns a p size) first before.memory before.items after.items after.marks.read after.marks.wrote after.memory
    (all_taken a p size first before.memory before.items order before after taken
    (none_yet (Turns a p size) first before.memory before.items before.marks.read before.marks.wrote))

are_stopped : (items : List Standing) → HaveStopped items → AreStopped items
are_stopped [] have = tt
are_stopped (ready i executed ∷ items) have = absurd have
are_stopped (waiting i executed ∷ items) have = are_stopped items have
are_stopped (ended ∷ items) have = are_stopped items have

-- a strip: those before it have stopped, those behind it are as they were
pub strip_leads : (a : Surroundings) (p : Program) (size : ℕ) (earlier later : List Standing) (before after : Moment)
    → HaveStopped earlier → RunsToStop a p size (length earlier) before after
    → Leads a p (status_around earlier later size before) (status_around earlier later size after)
strip_leads a p size earlier later before after have run =
    let begun = status_around earlier later size before in
    in_turn_leads a p size begun (length earlier) earlier before.items after.items later before.memory after.memory (are_stopped earlier have) refl
    (in_turn a p size (length earlier) run.0 before after run.1) (are_stopped after.items run.2) (leads_none a p begun)

-- a phase of a whole group, to its meeting
phase_leads : (a : Surroundings) (p : Program) (size : ℕ) (before after : Moment) → RunsToStop a p size 0 before after
    → Leads a p (running before.items (contents_of size before.memory)) (met p after.items (contents_of size after.memory) (least_waiting 0 after.items))
phase_leads a p size before after run =
    let all = strip_leads a p size [] [] before after tt run in
    let here : Leads a p (running before.items (contents_of size before.memory)) (running after.items (contents_of size after.memory)) =
    subst (λ xs. Leads a p (running xs (contents_of size before.memory)) (running after.items (contents_of size after.memory))) (append-nil before.items)
    (subst (λ ys. Leads a p (running (before.items ++ []) (contents_of size before.memory)) (running ys (contents_of size after.memory))) (append-nil after.items) all) in
    leads_trans a p (running before.items (contents_of size before.memory)) (running after.items (contents_of size after.memory)) (met p after.items (contents_of size after.memory) (least_waiting 0 after.items)) here
    (leads_one a p (running after.items (contents_of size after.memory)) (met p after.items (contents_of size after.memory) (least_waiting 0 after.items))
    (meet a p after.items (contents_of size after.memory) (least_waiting 0 after.items) (are_stopped after.items run.2) refl))

phases_lead : (a : Surroundings) (p : Program) (size n : ℕ) (from to : Status) → PassesPhases a p size n from to → Leads a p from to
phases_lead a p size zero from to same = subst (Leads a p from) same (leads_none a p from)
phases_lead a p size (suc n) from to passes =
    let before = passes.0 in
    let after = passes.1 in
    let met_then = met p after.items (contents_of size after.memory) (least_waiting 0 after.items) in
    leads_trans a p from met_then to
    (subst (λ s. Leads a p s met_then) (sym passes.2) (phase_leads a p size before after passes.3))
    (phases_lead a p size n met_then to passes.4)

-- a group that ran in lock-step comes to what it wrote
pub group_comes : (i : GroupInput) (m : Contents) → count_of i.group_size ≤ 1024 → RunsInLockStep i m → group_result i ≡ wrote (runs_of m.written)
unfolding group_result
group_comes i m few run =
    let size = i.group_size in
    let now = (location_of size i.grid_size i.group).current_size in
    let fewer : count_of now ≤ count_of size =
    product_le now.x now.y now.z size.x size.y size.z (min-le_left _ _) (min-le_left _ _) (min-le_left _ _) in
    ap result_at (one_end (surroundings_of i) i.program (count_of now) (blank i.group_segment_size) (done m) (omega arith) tt
    (phases_lead (surroundings_of i) i.program i.group_segment_size run.0 (begun i) (done m) run.1))
