-- The steps of a call on a queue's ring are requests, made in turn.
use Rattle.std.proofs.Common.{◌≡◌, ℕ, ◌+◌, Bool, true, false, List, [], ◌∷◌, ◌++◌, length, refl, sym, ap, ◌∙◌, subst, Option, Some, None, Result, Ok, Err, inl}
use Rattle.std.specs.Prelude.{◌&&◌, get_or, option_map, replicate, slice_get, slice_index, slice_set, if◌then◌else◌}
use Rattle.std.specs.Option.{option_map_or}
use Rattle.aql_packet.specs.declared.ids.PacketId.{PacketId}
use Rattle.aql_packet.specs.declared.ids.QueueId.{QueueId}
use Rattle.core_model.specs.declared.refusal.Refusal.TheVariants as why
use Rattle.ring_core.specs.declared.access.Access.{Access}
use Rattle.ring_core.specs.declared.access.Access.TheVariants.{LoadReadIndex, StoreBody, StoreHeader, LoadHeader, LoadBody, ClearHeader, RaiseReadIndex}
use Rattle.ring_core.specs.declared.access.Made.{Made}
use Rattle.ring_core.specs.declared.access.Seen.TheVariants as seen
use Rattle.ring_core.specs.declared.access.Step.{Step}
use Rattle.ring_core.specs.Calls.{has_room, made_of, publication, retiring, showing}
use Rattle.ring_core.specs.InTurn.{MadeInTurn, collecting, look_if, packet_among, publishing, step_by}
use Rattle.ring_core.specs.Machine.{Machine, Makes, found, is_allowed, made, read_index}
use Rattle.ring_core.specs.Words.{is_invalid}
use Rattle.ring_core.proofs.Gathering.{eight}
use Rattle.world.specs.declared.lane.Sent.TheVariants as sent
use Rattle.world.specs.declared.reply.Answer.{Answer}
use Rattle.world.specs.declared.reply.Refusal.{Refusal}
use Rattle.world.specs.declared.reply.Refusal.TheVariants as refusal
use Rattle.world.specs.Actions.{Action, and_then, asks, if_else, makes, number_read, reads, returns, step}
use Rattle.world.specs.Dues.{Meets, answer_to, due_step, due_where, has_spent, hindrance, is_decided, may_follow, reserves}
use Rattle.world.specs.Lanes.{collects, peek, publish_where, retire, shown_as, shows, stores, stores_body}
use Rattle.world.specs.States.{Joined, joined, ring_of, slots_of, with_ring}
use Rattle.world.specs.inner.Calling.{sent_as}
use Rattle.world.proofs.Among.{put_found, put_its_own, put_twice}

-- ---- whether a step is hindered

-- a step that is allowed, reserves nothing and clears no header too early
pub unhindering : (decided : Bool) (ring : Machine) (step : Step) → reserves step.access ≡ false → may_follow decided step.access ≡ true → is_allowed ring step ≡ true → hindrance decided ring step ≡ None
unhindering decided ring step none follows allowed =
    λ i. if none i && has_spent (slice_get ring.parts step.seat) then Some refusal.Spent else if allowed i && follows i then None else Some refusal.NotAStep

-- a header that would be cleared too early
pub undecided : (decided : Bool) (ring : Machine) → decided ≡ false → hindrance decided ring (step_by 0 ClearHeader) ≡ Some refusal.NotAStep
undecided decided ring none = (λ i. if is_allowed ring (step_by 0 ClearHeader) && none i then None else Some refusal.NotAStep) ∙ by_allowed (is_allowed ring (step_by 0 ClearHeader))
  where
    by_allowed : (b : Bool) → (if b && false then None else Some refusal.NotAStep) ≡ Some refusal.NotAStep
    by_allowed true = refl
    by_allowed false = refl

-- ---- a queue that isn't open

pub asks_nowhere : (world : Joined) (queue : QueueId) (seat : ℕ) (access : Access) → ring_of world queue ≡ None → asks (step queue seat access) world (Err (refusal.Core why.UnknownQueue)) world
unfolding asks
asks_nowhere world queue seat access none =
    subst (λ o. Meets world (due_step world queue (step_by seat access) o) (Err (refusal.Core why.UnknownQueue)) world) (sym none) (inl (refl, refl))

if_true : {X : Type 0} (b : Bool) (first second : Action X) (old : Joined) (result : Result X Refusal) (new : Joined) → b ≡ true → first old result new → if_else b first second old result new
if_true true first second old result new is h = h
if_true false first second old result new is h = absurd (cc)

if_false : {X : Type 0} (b : Bool) (first second : Action X) (old : Joined) (result : Result X Refusal) (new : Joined) → b ≡ false → second old result new → if_else b first second old result new
if_false true first second old result new is h = absurd (cc)
if_false false first second old result new is h = h

-- ---- one step more

module _ (world : Joined) (queue : QueueId) (start : Machine) (has : ring_of world queue ≡ Some start) where
  -- the world with another state of the queue's ring
  abbrev pub Over : Machine → Joined
  Over ring = with_ring world queue ring

  over_ring : (ring : Machine) → ring_of (Over ring) queue ≡ Some ring
  over_ring ring = put_found world.rings queue start ring has

  pub over_start : Over start ≡ world
  over_start = λ i. joined world.core (put_its_own world.rings queue start has i) world.closed

  over_again : (one other : Machine) → with_ring (Over one) queue other ≡ Over other
  over_again one other = λ i. joined world.core (put_twice world.rings queue one other i) world.closed

  goes : (ring : Machine) (seat : ℕ) (access : Access) → hindrance (is_decided world.core queue ring) ring (step_by seat access) ≡ None
      → asks (step queue seat access) (Over ring) (Ok (answer_to access (read_index ring) (found ring (step_by seat access)))) (Over (made ring (step_by seat access)))
  unfolding asks
  goes ring seat access free =
      let told : Result Answer Refusal = Ok (answer_to access (read_index ring) (found ring (step_by seat access))) in
      subst (λ o. Meets (Over ring) (due_step (Over ring) queue (step_by seat access) o) told (Over (made ring (step_by seat access)))) (sym (over_ring ring))
      (subst (λ o. Meets (Over ring) (due_where (Over ring) queue ring (step_by seat access) o) told (Over (made ring (step_by seat access)))) (sym free)
      (inl (refl, sym (over_again ring (made ring (step_by seat access))))))

  -- a first step that is hindered
  pub asks_refused : (seat : ℕ) (access : Access) (cause : Refusal) → hindrance (is_decided world.core queue start) start (step_by seat access) ≡ Some cause → asks (step queue seat access) world (Err cause) world
  unfolding asks
  asks_refused seat access cause hindered =
      subst (λ o. Meets world (due_step world queue (step_by seat access) o) (Err cause) world) (sym has)
      (subst (λ o. Meets world (due_where world queue start (step_by seat access) o) (Err cause) world) (sym hindered) (inl (refl, refl)))

  reads_one : (ring : Machine) (seat : ℕ) (access : Access) (word : ℕ) → hindrance (is_decided world.core queue ring) ring (step_by seat access) ≡ None
      → word ≡ number_read (answer_to access (read_index ring) (found ring (step_by seat access))) → reads queue seat access (Over ring) (Ok word) (Over (made ring (step_by seat access)))
  reads_one ring seat access word free is = (Ok (answer_to access (read_index ring) (found ring (step_by seat access))), Over (made ring (step_by seat access)), goes ring seat access free, (ap Ok is, refl))

  makes_one : (ring : Machine) (seat : ℕ) (access : Access) → hindrance (is_decided world.core queue ring) ring (step_by seat access) ≡ None
      → makes queue seat access (Over ring) (Ok tt) (Over (made ring (step_by seat access)))
  makes_one ring seat access free = (Ok (answer_to access (read_index ring) (found ring (step_by seat access))), Over (made ring (step_by seat access)), goes ring seat access free, (refl, refl))

  same_read : (one other : ℕ) → seen.Read one ≡ seen.Read other → one ≡ other
  same_read one other e = cc

  -- ---- collecting

  -- the loads of these words from a place on, and where they are put
  abbrev loads : ℕ → List ℕ → List Made
  loads place [] = []
  loads place (word ∷ words) = made_of (LoadBody place) word ∷ loads (place + 1) words

  abbrev put_from : ℕ → List ℕ → List ℕ → List ℕ
  put_from place all [] = all
  put_from place all (word ∷ words) = put_from (place + 1) (slice_set all place word) words

  collects_all : (ring last : Machine) (place : ℕ) (all words : List ℕ) → MadeInTurn ring 0 (loads place words) last → collects queue place (length words) all (Over ring) (Ok (put_from place all words)) (Over last)
  unfolding collects
  collects_all ring last place all [] turn = (refl, ap Over turn)
  collects_all ring last place all (word ∷ words) turn =
      let free : hindrance (is_decided world.core queue ring) ring (step_by 0 (LoadBody place)) ≡ None = unhindering (is_decided world.core queue ring) ring (step_by 0 (LoadBody place)) refl refl turn.0.allowed in (
        Ok word,
        Over (made ring (step_by 0 (LoadBody place))),
        reads_one ring 0 (LoadBody place) word free (same_read word (found ring (step_by 0 (LoadBody place))) turn.0.told),
        collects_all (made ring (step_by 0 (LoadBody place))) last (place + 1) (slice_set all place word) words turn.1,
      )

  peeks_invalid : (header : ℕ) (last : Machine) → is_invalid header ≡ true → MadeInTurn start 0 (made_of LoadHeader header ∷ []) last → peek queue (Over start) (Ok None) (Over last)
  peeks_invalid header last invalid turn =
      let free : hindrance (is_decided world.core queue start) start (step_by 0 LoadHeader) ≡ None = unhindering (is_decided world.core queue start) start (step_by 0 LoadHeader) refl refl turn.0.allowed in
      let same : header ≡ found start (step_by 0 LoadHeader) = same_read header (found start (step_by 0 LoadHeader)) turn.0.told in
      let next : Machine = made start (step_by 0 LoadHeader) in (
        Ok (answer_to LoadHeader (read_index start) (found start (step_by 0 LoadHeader))),
        Over next,
        goes start 0 LoadHeader free,
        if_true (is_invalid (found start (step_by 0 LoadHeader))) (returns None) _ (Over next) (Ok None) (Over last) (ap is_invalid (sym same) ∙ invalid) (refl, ap Over turn.1),
      )

  peeks_whole : (w0 w1 w2 w3 w4 w5 w6 w7 : ℕ) (last : Machine) → is_invalid w0 ≡ false
      → MadeInTurn start 0 (showing (w0 ∷ w1 ∷ w2 ∷ w3 ∷ w4 ∷ w5 ∷ w6 ∷ w7 ∷ [])) last
      → peek queue (Over start) (Ok (Some (shown_as (record { 0 = read_index start }) (w0 ∷ w1 ∷ w2 ∷ w3 ∷ w4 ∷ w5 ∷ w6 ∷ w7 ∷ [])))) (Over last)
  peeks_whole w0 w1 w2 w3 w4 w5 w6 w7 last valid turn =
      let free : hindrance (is_decided world.core queue start) start (step_by 0 LoadHeader) ≡ None = unhindering (is_decided world.core queue start) start (step_by 0 LoadHeader) refl refl turn.0.allowed in
      let same : w0 ≡ found start (step_by 0 LoadHeader) = same_read w0 (found start (step_by 0 LoadHeader)) turn.0.told in
      let next : Machine = made start (step_by 0 LoadHeader) in
      let packet : PacketId = record { 0 = read_index start } in
      let words : List ℕ = w0 ∷ w1 ∷ w2 ∷ w3 ∷ w4 ∷ w5 ∷ w6 ∷ w7 ∷ [] in
      let rest : collects queue 1 7 (w0 ∷ replicate 7 0) (Over next) (Ok words) (Over last) = collects_all next last 1 (w0 ∷ replicate 7 0) (w1 ∷ w2 ∷ w3 ∷ w4 ∷ w5 ∷ w6 ∷ w7 ∷ []) turn.1 in
      let body : shows queue packet w0 (Over next) (Ok (Some (shown_as packet words))) (Over last) =
      if_false (is_invalid w0) (returns None) (and_then (collects queue 1 7 (w0 ∷ replicate 7 0)) (λ all. returns (Some (shown_as packet all)))) (Over next) (Ok (Some (shown_as packet words))) (Over last) valid
      (Ok words, Over last, rest, (refl, refl)) in (
        Ok (answer_to LoadHeader (read_index start) (found start (step_by 0 LoadHeader))),
        Over next,
        goes start 0 LoadHeader free,
        subst (λ (header : ℕ). shows queue packet header (Over next) (Ok (Some (shown_as packet words))) (Over last)) same body,
      )

  peeks_words : (words : List ℕ) (last : Machine) (b : Bool) → is_invalid (slice_index words 0) ≡ b → length words ≡ 8
      → MadeInTurn start 0 (if b then made_of LoadHeader (slice_index words 0) ∷ [] else showing words) last
      → peek queue (Over start) (Ok (option_map (shown_as (record { 0 = read_index start })) (if b then None else Some words))) (Over last)
  peeks_words words last true invalid n turn = peeks_invalid (slice_index words 0) last invalid turn
  peeks_words words last false valid n turn =
      subst (λ (ws : List ℕ). peek queue (Over start) (Ok (Some (shown_as (record { 0 = read_index start }) ws))) (Over last)) (sym (eight 0 words n))
      (peeks_whole (get_or words 0 0) (get_or words 1 0) (get_or words 2 0) (get_or words 3 0) (get_or words 4 0) (get_or words 5 0) (get_or words 6 0) (get_or words 7 0) last valid
      (subst (λ (ws : List ℕ). MadeInTurn start 0 (showing ws) last) (eight 0 words n) turn))

  pub peeked : (words : List ℕ) (last : Machine) → length words ≡ 8 → MadeInTurn start 0 (collecting words) last
      → peek queue world (Ok (option_map (shown_as (record { 0 = read_index start })) (packet_among words))) (Over last)
  peeked words last n turn =
      subst (λ (w : Joined). peek queue w (Ok (option_map (shown_as (record { 0 = read_index start })) (packet_among words))) (Over last)) over_start
      (peeks_words words last (is_invalid (slice_index words 0)) refl n turn)

  -- ---- retiring

  pub retired : (index : ℕ) (last : Machine) → is_decided world.core queue start ≡ true → MadeInTurn start 0 (retiring index) last → retire queue world (Ok index) (Over last)
  retired index last decided turn =
      let next : Machine = made start (step_by 0 ClearHeader) in
      let clears : hindrance (is_decided world.core queue start) start (step_by 0 ClearHeader) ≡ None = unhindering (is_decided world.core queue start) start (step_by 0 ClearHeader) refl decided turn.0.allowed in
      let raises : hindrance (is_decided world.core queue next) next (step_by 0 RaiseReadIndex) ≡ None = unhindering (is_decided world.core queue next) next (step_by 0 RaiseReadIndex) refl refl turn.1.0.allowed in
      let all : retire queue (Over start) (Ok index) (Over (made next (step_by 0 RaiseReadIndex))) =
      (Ok tt, Over next, makes_one start 0 ClearHeader clears, reads_one next 0 RaiseReadIndex index raises (same_read index (found next (step_by 0 RaiseReadIndex)) turn.1.0.told)) in
      subst (λ (w : Joined). retire queue w (Ok index) (Over last)) over_start
      (subst (λ (m : Machine). retire queue (Over start) (Ok index) (Over m)) (sym turn.1.1) all)

  -- ---- publishing

  -- the stores of these words from a place on
  abbrev body_from : ℕ → PacketId → ℕ → List ℕ → List Made
  body_from read ticket place [] = []
  body_from read ticket place (word ∷ words) = made_of (StoreBody ticket place word) read ∷ body_from read ticket (place + 1) words

  stores_all : (ring last : Machine) (producer read : ℕ) (ticket : PacketId) (place header : ℕ) (words : List ℕ)
      → MadeInTurn ring producer (body_from read ticket place words ++ made_of (StoreHeader ticket header) read ∷ []) last
      → (mid : Machine) × stores_body queue producer ticket place words (Over ring) (Ok tt) (Over mid) × MadeInTurn mid producer (made_of (StoreHeader ticket header) read ∷ []) last
  unfolding stores_body
  stores_all ring last producer read ticket place header [] turn = (ring, (refl, refl), turn)
  stores_all ring last producer read ticket place header (word ∷ words) turn =
      let store : Access = StoreBody ticket place word in
      let free : hindrance (is_decided world.core queue ring) ring (step_by producer store) ≡ None = unhindering (is_decided world.core queue ring) ring (step_by producer store) refl refl turn.0.allowed in
      let more = stores_all (made ring (step_by producer store)) last producer read ticket (place + 1) header words turn.1 in
      (more.0, (Ok tt, Over (made ring (step_by producer store)), makes_one ring producer store free, more.1), more.2)

  -- after its look at the read index the ring has as many slots as before
  slots_are : (ring : Machine) → slots_of (Over ring) queue ≡ ring.size
  slots_are ring = ap (λ (o : Option Machine). option_map_or (λ (r : Machine). r.size) o 0) (over_ring ring)

  module _ (producer read : ℕ) (ticket : PacketId) where
    abbrev looked : Machine
    looked = made start (step_by producer (LoadReadIndex ticket))

    look : Makes start (step_by producer (LoadReadIndex ticket)) (seen.Read read) looked → reads queue producer (LoadReadIndex ticket) (Over start) (Ok read) (Over looked)
    look saw =
        reads_one start producer (LoadReadIndex ticket) read (unhindering (is_decided world.core queue start) start (step_by producer (LoadReadIndex ticket)) refl refl saw.allowed)
        (same_read read (found start (step_by producer (LoadReadIndex ticket))) saw.told)

    room_is : (b : Bool) → has_room start.size ticket.0 read ≡ b → has_room (slots_of (Over looked) queue) ticket.0 read ≡ b
    room_is b is = ap (λ (slots : ℕ). has_room slots ticket.0 read) (slots_are looked) ∙ is

    publishes_busy : (words : List ℕ) (last : Machine) → has_room start.size ticket.0 read ≡ false → MadeInTurn start producer (made_of (LoadReadIndex ticket) read ∷ []) last
        → publish_where queue producer ticket words (Over start) (Ok (sent.Busy ticket read)) (Over last)
    publishes_busy words last full turn = (
      Ok read,
      Over looked,
      look turn.0,
      if_false (has_room (slots_of (Over looked) queue) ticket.0 read) (stores queue producer ticket words) (returns (sent.Busy ticket read)) (Over looked) (Ok (sent.Busy ticket read)) (Over last) (room_is false full)
          (refl, ap Over turn.1),
    )

    publishes_whole : (w0 w1 w2 w3 w4 w5 w6 w7 : ℕ) (last : Machine) → has_room start.size ticket.0 read ≡ true
        → MadeInTurn start producer (publication ticket.0 read (w0 ∷ w1 ∷ w2 ∷ w3 ∷ w4 ∷ w5 ∷ w6 ∷ w7 ∷ [])) last
        → publish_where queue producer ticket (w0 ∷ w1 ∷ w2 ∷ w3 ∷ w4 ∷ w5 ∷ w6 ∷ w7 ∷ []) (Over start) (Ok (sent.Published ticket)) (Over last)
    publishes_whole w0 w1 w2 w3 w4 w5 w6 w7 last room turn =
        let words : List ℕ = w0 ∷ w1 ∷ w2 ∷ w3 ∷ w4 ∷ w5 ∷ w6 ∷ w7 ∷ [] in
        let body = stores_all looked last producer read ticket 1 w0 (w1 ∷ w2 ∷ w3 ∷ w4 ∷ w5 ∷ w6 ∷ w7 ∷ []) turn.1 in
        let mid : Machine = body.0 in
        let free : hindrance (is_decided world.core queue mid) mid (step_by producer (StoreHeader ticket w0)) ≡ None =
        unhindering (is_decided world.core queue mid) mid (step_by producer (StoreHeader ticket w0)) refl refl body.2.0.allowed in
        let stored : stores queue producer ticket words (Over looked) (Ok (sent.Published ticket)) (Over last) =
        (Ok tt, Over mid, body.1, (Ok tt, Over (made mid (step_by producer (StoreHeader ticket w0))), makes_one mid producer (StoreHeader ticket w0) free, (refl, ap Over body.2.1))) in (
          Ok read,
          Over looked,
          look turn.0,
          if_true (has_room (slots_of (Over looked) queue) ticket.0 read) (stores queue producer ticket words) (returns (sent.Busy ticket read)) (Over looked) (Ok (sent.Published ticket)) (Over last) (room_is true room) stored,
        )

    publishes_by : (words : List ℕ) (last : Machine) (b : Bool) → has_room start.size ticket.0 read ≡ b → length words ≡ 8
        → MadeInTurn start producer (if b then publication ticket.0 read words else made_of (LoadReadIndex ticket) read ∷ []) last
        → publish_where queue producer ticket words (Over start) (Ok (sent_as ticket (look_if b read))) (Over last)
    publishes_by words last false full n turn = publishes_busy words last full turn
    publishes_by words last true room n turn =
        subst (λ (ws : List ℕ). publish_where queue producer ticket ws (Over start) (Ok (sent.Published ticket)) (Over last)) (sym (eight 0 words n))
        (publishes_whole (get_or words 0 0) (get_or words 1 0) (get_or words 2 0) (get_or words 3 0) (get_or words 4 0) (get_or words 5 0) (get_or words 6 0) (get_or words 7 0) last room
        (subst (λ (ws : List ℕ). MadeInTurn start producer (publication ticket.0 read ws) last) (eight 0 words n) turn))

    pub published : (words : List ℕ) (last : Machine) → length words ≡ 8 → MadeInTurn start producer (publishing start.size ticket.0 read words) last
        → publish_where queue producer ticket words world (Ok (sent_as ticket (look_if (has_room start.size ticket.0 read) read))) (Over last)
    published words last n turn =
        subst (λ (w : Joined). publish_where queue producer ticket words w (Ok (sent_as ticket (look_if (has_room start.size ticket.0 read) read))) (Over last)) over_start
        (publishes_by words last (has_room start.size ticket.0 read) refl n turn)
