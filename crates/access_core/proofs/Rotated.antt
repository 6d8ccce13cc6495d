-- What a core's fields tell is what its history goes on from: the state behind its audit.
use Rattle.std.proofs.Common.{◌≡◌, ℕ, ◌+◌, List, [], ◌∷◌, length, map, refl, sym, ◌∙◌, ap, subst, arith, Bool, true, false, Option, Some, None}
use Rattle.std.specs.Prelude.{◌&&◌, ◌||◌, ◌==◌, All, find, fold, option_map, if◌then◌else◌}
use Rattle.std.specs.List.{cons_option, filter_map, list_any}
use Rattle.std.specs.Option.{unwrap_or}
use Rattle.std.proofs.lemmas.Bool.{and_parts, eqb-true}
use Rattle.std.proofs.lemmas.List.Elements.{All-cons, All-head, All-nil, All-tail, All-weaker}
use Rattle.access_core.specs.inner.Ready.{IsTold}
use Rattle.aql_packet.specs.Ids.{same_packet}
use Rattle.core_model.specs.History.{OpenQueue, Openings, begin, no_queue, open_queue, packet_holds, packet_in, queue_in}
use Rattle.access_core.specs.inner.Numbers.{has_number, queue_in as find_queue}
use Rattle.core_model.specs.declared.origin.PacketOrigin.{PacketOrigin}
use Rattle.core_model.specs.declared.origin.QueueOrigin.{QueueOrigin}
use Rattle.core_model.specs.States.{state_after}
use Rattle.core_model.proofs.Absent.{launch-absent, zero-outside}
use Rattle.core_model.proofs.Apart.{AreApart, apart-legal, found-legal}
use Rattle.core_model.specs.Holds.{arguments, held}
use Rattle.grants.specs.Pairs.{is_named as names_right}
use Rattle.core_model.specs.Queues.{errors, is_stopped}
use Rattle.regions.proofs.Laws.{byte_at-outside}
use Rattle.access_core.specs.inner.Origins.{SameInForce, origin_behind, packet_origin, queue_origin, sought_in}
use Rattle.access_core.proofs.Terms.{ArgumentBlock, ClientId, IsCached, Inside, InFlight, Ledger, Object, PacketId, Place, Progress, Queue, QueueId, QueueView, Start, are_region_lengths, block_behind, byte_at, cached_queue}
use Rattle.access_core.proofs.Terms.{cached_view, flight, in_flight, is_block, is_given, is_packet, is_place_of, lies_in_region, memory_at, name_of, next_id, packet_of, place_of}
use Rattle.access_core.proofs.Terms.{Right, program_of, progress, region_lengths, start_of}
use Rattle.access_core.proofs.WorkLemmas.{find-placed}
use Rattle.core_model.specs.declared.flight.TheConstants.{LAUNCH_PROGRESS}

-- ---- queues

are-open : (queues : List Queue) → map open_queue (map queue_origin queues) ≡ map cached_queue queues
are-open [] = refl
are-open (q ∷ queues) = ap (λ more. cached_queue q ∷ more) (are-open queues)

-- a queue is found among what is told where it is among those that are kept
found-told : (queues : List Queue) (queue : QueueId) → find (λ (q : QueueOrigin). q.queue.0 == queue.0) (map queue_origin queues) ≡ option_map queue_origin (find_queue queues queue)
found-told [] queue = refl
found-told (q ∷ queues) queue = by_test (has_number queue q) (found-told queues queue)
  where
    by_test : (b : Bool) → find (λ (o : QueueOrigin). o.queue.0 == queue.0) (map queue_origin queues) ≡ option_map queue_origin (find_queue queues queue)
        → (if b then Some (queue_origin q) else find (λ (o : QueueOrigin). o.queue.0 == queue.0) (map queue_origin queues)) ≡ option_map queue_origin (if b then Some q else find_queue queues queue)
    by_test true rest = refl
    by_test false rest = rest

-- what is told of a queue, by what is kept of it
told_next : (o : Option Queue) → (unwrap_or (option_map queue_origin o) no_queue).next ≡ (cached_view o).next
told_next None = refl
told_next (Some q) = refl

told_errors : (o : Option Queue) → (unwrap_or (option_map queue_origin o) no_queue).errors ≡ (cached_view o).errors
told_errors None = refl
told_errors (Some q) = refl

told_stopped : (o : Option Queue) → (unwrap_or (option_map queue_origin o) no_queue).stopped ≡ (cached_view o).stopped
told_stopped None = refl
told_stopped (Some q) = refl

-- what holds of each and also holds of each holds both
pub All-both : {X : Type 0} (P Q : X → Type 0) (xs : List X) → All P xs → All Q xs → All (λ x. P x × Q x) xs
All-both P Q [] ps qs = All-nil (λ x. P x × Q x)
All-both P Q (x ∷ xs) ps qs = All-cons (λ x. P x × Q x) x xs (All-head P x xs ps, All-head Q x xs qs) (All-both P Q xs (All-tail P x xs ps) (All-tail Q x xs qs))

-- where no packet in flight has a name no block has it
pub others-named : (queue : QueueId) (id : PacketId) (fs : List InFlight) (bs : List ArgumentBlock) → map packet_of bs ≡ map name_of fs → list_any (is_packet queue id) fs ≡ false
    → All (λ (b : ArgumentBlock). same_packet queue id b.queue b.packet ≡ false) bs
others-named queue id [] [] names none = All-nil (λ (b : ArgumentBlock). same_packet queue id b.queue b.packet ≡ false)
others-named queue id [] (b ∷ bs) names none = absurd cc
others-named queue id (f ∷ fs) [] names none = absurd cc
others-named queue id (f ∷ fs) (b ∷ bs) names none =
    let head : packet_of b ≡ name_of f = cc in
    let rest : map packet_of bs ≡ map name_of fs = cc in
    let other = or_none (is_packet queue id f) (list_any (is_packet queue id) fs) none in
    All-cons (λ (b : ArgumentBlock). same_packet queue id b.queue b.packet ≡ false) b bs (not_it head other.0) (others-named queue id fs bs rest other.1)
  where
    or_none : (x y : Bool) → (x || y) ≡ false → (x ≡ false) × (y ≡ false)
    or_none false y is = (refl, is)
    or_none true y is = absurd cc

    not_it : packet_of b ≡ name_of f → is_packet queue id f ≡ false → same_packet queue id b.queue b.packet ≡ false
    not_it head other =
        let same_queue : b.queue.0 ≡ f.queue.0 = ap (λ n. n.0.0) head in
        let same_id : b.packet.0 ≡ f.id.0 = ap (λ n. n.1.0) head in
        grind (arith, same_queue, same_id, other)

module _ (a : Inside) (kept : IsCached a) where
  abbrev Now : Start
  Now = state_after (start_of a) a.audit.items

  abbrev Flying : List InFlight
  Flying = flight (start_of a) a.audit.items

  queue-is : (queue : QueueId) → queue_in (map queue_origin a.queues.items) queue ≡ unwrap_or (option_map queue_origin (find_queue a.queues.items queue)) no_queue
  queue-is queue = ap (λ (o : Option QueueOrigin). unwrap_or o no_queue) (found-told a.queues.items queue)

  next-is : (queue : QueueId) → (queue_in (map queue_origin a.queues.items) queue).next ≡ next_id (start_of a) a.audit.items queue
  next-is queue = ap (λ (q : QueueOrigin). q.next) (queue-is queue) ∙ told_next (find_queue a.queues.items queue) ∙ ap (λ (v : QueueView). v.next) (kept.queues queue)

  errors-are : (queue : QueueId) → (queue_in (map queue_origin a.queues.items) queue).errors ≡ errors (start_of a) a.audit.items queue
  errors-are queue = ap (λ (q : QueueOrigin). q.errors) (queue-is queue) ∙ told_errors (find_queue a.queues.items queue) ∙ ap (λ (v : QueueView). v.errors) (kept.queues queue)

  stopped-is : (queue : QueueId) → (queue_in (map queue_origin a.queues.items) queue).stopped ≡ is_stopped (start_of a) a.audit.items queue
  stopped-is queue = ap (λ (q : QueueOrigin). q.stopped) (queue-is queue) ∙ told_stopped (find_queue a.queues.items queue) ∙ ap (λ (v : QueueView). v.stopped) (kept.queues queue)

  -- ---- memory

  memory-is : are_region_lengths (region_lengths a.start.policy) ≡ true → (x : ℕ) → unwrap_or (byte_at a.memory x) 0 ≡ memory_at (start_of a) a.audit.items x
  memory-is fit x = by_place (lies_in_region (region_lengths a.start.policy) x) refl
    where
      by_place : (b : Bool) → lies_in_region (region_lengths a.start.policy) x ≡ b → unwrap_or (byte_at a.memory x) 0 ≡ memory_at (start_of a) a.audit.items x
      by_place true lies = ap (λ (o : Option ℕ). unwrap_or o 0) (kept.memory x lies)
      by_place false outside =
          ap (λ (o : Option ℕ). unwrap_or o 0) (byte_at-outside a.memory x (ap (λ (ls : List ℕ). lies_in_region ls x) kept.lengths ∙ outside))
          ∙ sym (zero-outside (start_of a) a.audit.items kept.legal fit x outside)

  -- ---- packets

  abbrev place_at : InFlight → Place
  place_at f = place_of (start_of a) a.audit.items f.queue f

  -- its place is in its queue, of which it is the one with its id
  sought-view : (queue : QueueId) (id : PacketId) (o : Option Queue) → sought_in o id ≡ find (is_place_of id) (cached_view o).places
  sought-view queue id None = refl
  sought-view queue id (Some q) = refl

  in-queue : (f : InFlight) → in_flight (start_of a) a.audit.items f.queue f.id ≡ Some f → sought_in (find_queue a.queues.items f.queue) f.id ≡ Some (place_at f)
  in-queue f found =
      sought-view f.queue f.id (find_queue a.queues.items f.queue)
      ∙ ap (λ (v : QueueView). find (is_place_of f.id) v.places) (kept.queues f.queue)
      ∙ find-placed (place_of (start_of a) a.audit.items f.queue) f.queue.0 f.id.0 Flying (λ f. refl)
      ∙ ap (option_map (place_of (start_of a) a.audit.items f.queue)) found

  -- what is told of a packet in flight with its block
  abbrev told_of : InFlight → ArgumentBlock → PacketOrigin
  told_of f block = record { flying = f; progress = progress (start_of a) a.audit.items f.queue f.id; client = block.client; rights = block.rights; arguments = block.bytes }

  abbrev told_all : List InFlight → List ArgumentBlock → List PacketOrigin
  told_all [] blocks = []
  told_all (f ∷ fs) [] = []
  told_all (f ∷ fs) (block ∷ blocks) = told_of f block ∷ told_all fs blocks

  abbrev Sought : InFlight → Type 0
  Sought f = sought_in (find_queue a.queues.items f.queue) f.id ≡ Some (place_at f)

  told-one : (f : InFlight) (block : ArgumentBlock) → block.queue ≡ f.queue → block.packet ≡ f.id → Sought f → packet_origin a.queues.items block ≡ Some (told_of f block)
  told-one f block queue id there =
      let here : sought_in (find_queue a.queues.items block.queue) block.packet ≡ Some (place_at f) = (λ i. sought_in (find_queue a.queues.items (queue i)) (id i)) ∙ there in
      ap (option_map (λ (place : Place). told_here block place)) here
      ∙ (λ i. Some (record { flying = record { queue = queue i; id = id i; packet = f.packet }; progress = progress (start_of a) a.audit.items f.queue f.id; client = block.client; rights = block.rights; arguments = block.bytes }))
    where
      told_here : ArgumentBlock → Place → PacketOrigin
      told_here block place = record { flying = record { queue = block.queue; id = block.packet; packet = place.packet }; progress = place.progress; client = block.client; rights = block.rights; arguments = block.bytes }

  told-are : (fs : List InFlight) (blocks : List ArgumentBlock) → map packet_of blocks ≡ map name_of fs → All Sought fs → filter_map (packet_origin a.queues.items) blocks ≡ told_all fs blocks
  told-are [] [] names there = refl
  told-are [] (block ∷ blocks) names there = absurd cc
  told-are (f ∷ fs) [] names there = absurd cc
  told-are (f ∷ fs) (block ∷ blocks) names there =
      let head : packet_of block ≡ name_of f = cc in
      let rest : map packet_of blocks ≡ map name_of fs = cc in
      (λ i. cons_option (told-one f block (ap (λ n. n.0) head) (ap (λ n. n.1) head) (All-head Sought f fs there) i) (told-are fs blocks rest (All-tail Sought f fs there) i))

  flying-told : (fs : List InFlight) (blocks : List ArgumentBlock) → map packet_of blocks ≡ map name_of fs → map (λ (p : PacketOrigin). p.flying) (told_all fs blocks) ≡ fs
  flying-told [] blocks names = refl
  flying-told (f ∷ fs) [] names = absurd cc
  flying-told (f ∷ fs) (block ∷ blocks) names =
      let rest : map packet_of blocks ≡ map name_of fs = cc in
      ap (λ more. f ∷ more) (flying-told fs blocks rest)

  module _ (queue : QueueId) (id : PacketId) where
    abbrev found_progress : Option PacketOrigin → Progress
    found_progress found = elim found [ None ↦ LAUNCH_PROGRESS | Some p ↦ p.progress ]

    abbrev found_arguments : List ℕ → Option PacketOrigin → List ℕ
    found_arguments none found = elim found [ None ↦ none | Some p ↦ p.arguments ]

    abbrev is_named : PacketOrigin → Bool
    is_named p = same_packet p.flying.queue p.flying.id queue id

    -- how far it has come
    progress-told : (fs : List InFlight) (blocks : List ArgumentBlock) → map packet_of blocks ≡ map name_of fs →
        found_progress (find is_named (told_all fs blocks)) ≡ (if list_any (is_packet queue id) fs then progress (start_of a) a.audit.items queue id else LAUNCH_PROGRESS)
    progress-told [] blocks names = refl
    progress-told (f ∷ fs) [] names = absurd cc
    progress-told (f ∷ fs) (block ∷ blocks) names =
        let rest : map packet_of blocks ≡ map name_of fs = cc in
        by_test (progress-told fs blocks rest) (is_packet queue id f) refl
      where
        by_test : found_progress (find is_named (told_all fs blocks)) ≡ (if list_any (is_packet queue id) fs then progress (start_of a) a.audit.items queue id else LAUNCH_PROGRESS) →
            (b : Bool) → is_packet queue id f ≡ b →
            found_progress (if b then Some (told_of f block) else find is_named (told_all fs blocks)) ≡ (if b || list_any (is_packet queue id) fs then progress (start_of a) a.audit.items queue id else LAUNCH_PROGRESS)
        by_test behind false is = behind
        by_test behind true is =
            let both = and_parts (f.queue.0 == queue.0) (f.id.0 == id.0) is in
            let same_queue : f.queue ≡ queue = ap (λ n. record { 0 = n }) (eqb-true _ _ both.0) in
            let same_id : f.id ≡ id = ap (λ n. record { 0 = n }) (eqb-true _ _ both.1) in
            λ i. progress (start_of a) a.audit.items (same_queue i) (same_id i)

    -- its arguments: no other block has its name
    pub none-behind : (fs : List InFlight) (blocks : List ArgumentBlock) (bytes : List ℕ) → map packet_of blocks ≡ map name_of fs → list_any (is_packet queue id) fs ≡ false → fold (block_behind queue id) bytes blocks ≡ bytes
    none-behind [] [] bytes names none = refl
    none-behind [] (block ∷ blocks) bytes names none = absurd cc
    none-behind (f ∷ fs) [] bytes names none = absurd cc
    none-behind (f ∷ fs) (block ∷ blocks) bytes names none =
        let head : packet_of block ≡ name_of f = cc in
        let rest : map packet_of blocks ≡ map name_of fs = cc in
        let other = or_none (is_packet queue id f) (list_any (is_packet queue id) fs) none in
        let not_this : is_block queue id block ≡ false = (λ i. (head i).0.0 == queue.0 && (head i).1.0 == id.0) ∙ other.0 in
        ap (λ (b : Bool). fold (block_behind queue id) (if b then block.bytes else bytes) blocks) not_this ∙ none-behind fs blocks bytes rest other.1
      where
        or_none : (x y : Bool) → (x || y) ≡ false → (x ≡ false) × (y ≡ false)
        or_none false y is = (refl, is)
        or_none true y is = absurd cc

    arguments-told : (fs : List InFlight) (blocks : List ArgumentBlock) (bytes : List ℕ) → map packet_of blocks ≡ map name_of fs → AreApart fs →
        found_arguments bytes (find is_named (told_all fs blocks)) ≡ fold (block_behind queue id) bytes blocks
    arguments-told [] [] bytes names apart = refl
    arguments-told [] (block ∷ blocks) bytes names apart = absurd cc
    arguments-told (f ∷ fs) [] bytes names apart = absurd cc
    arguments-told (f ∷ fs) (block ∷ blocks) bytes names apart =
        let head : packet_of block ≡ name_of f = cc in
        let rest : map packet_of blocks ≡ map name_of fs = cc in
        by_test rest (λ i. (head i).0.0 == queue.0 && (head i).1.0 == id.0) (arguments-told fs blocks bytes rest apart.1) (is_packet queue id f) refl
      where
        by_test : map packet_of blocks ≡ map name_of fs → is_block queue id block ≡ is_packet queue id f → found_arguments bytes (find is_named (told_all fs blocks)) ≡ fold (block_behind queue id) bytes blocks →
            (b : Bool) → is_packet queue id f ≡ b →
            found_arguments bytes (if b then Some (told_of f block) else find is_named (told_all fs blocks)) ≡ fold (block_behind queue id) (if is_block queue id block then block.bytes else bytes) blocks
        by_test rest named behind false is = behind ∙ ap (λ (b : Bool). fold (block_behind queue id) (if b then block.bytes else bytes) blocks) (sym (named ∙ is))
        by_test rest named behind true is =
            let both = and_parts (f.queue.0 == queue.0) (f.id.0 == id.0) is in
            let same_queue : f.queue ≡ queue = ap (λ n. record { 0 = n }) (eqb-true _ _ both.0) in
            let same_id : f.id ≡ id = ap (λ n. record { 0 = n }) (eqb-true _ _ both.1) in
            let none : list_any (is_packet queue id) fs ≡ false = (λ i. list_any (is_packet (sym same_queue i) (sym same_id i)) fs) ∙ apart.0 in
            sym (ap (λ (b : Bool). fold (block_behind queue id) (if b then block.bytes else bytes) blocks) (named ∙ is) ∙ none-behind fs blocks block.bytes rest none)

  -- what it holds: no other block has its name
  module _ (queue : QueueId) (id : PacketId) (client : ClientId) (on : Object) (right : Right) where
    abbrev lists : ArgumentBlock → Bool
    lists block = names_right block.rights block.client client on right

    none-listed : (fs : List InFlight) (blocks : List ArgumentBlock) → map packet_of blocks ≡ map name_of fs → list_any (is_packet queue id) fs ≡ false → is_given blocks queue id client on right ≡ false
    none-listed [] [] names none = refl
    none-listed [] (block ∷ blocks) names none = absurd cc
    none-listed (f ∷ fs) [] names none = absurd cc
    none-listed (f ∷ fs) (block ∷ blocks) names none =
        let head : packet_of block ≡ name_of f = cc in
        let rest : map packet_of blocks ≡ map name_of fs = cc in
        let other = or_none (is_packet queue id f) (list_any (is_packet queue id) fs) none in
        let not_this : is_block queue id block ≡ false = (λ i. (head i).0.0 == queue.0 && (head i).1.0 == id.0) ∙ other.0 in
        ap (λ (b : Bool). (b && lists block) || is_given blocks queue id client on right) not_this ∙ none-listed fs blocks rest other.1
      where
        or_none : (x y : Bool) → (x || y) ≡ false → (x ≡ false) × (y ≡ false)
        or_none false y is = (refl, is)
        or_none true y is = absurd cc

    held-told : (fs : List InFlight) (blocks : List ArgumentBlock) → map packet_of blocks ≡ map name_of fs → AreApart fs →
        packet_holds client on right (find (is_named queue id) (told_all fs blocks)) ≡ is_given blocks queue id client on right
    held-told [] [] names apart = refl
    held-told [] (block ∷ blocks) names apart = absurd cc
    held-told (f ∷ fs) [] names apart = absurd cc
    held-told (f ∷ fs) (block ∷ blocks) names apart =
        let head : packet_of block ≡ name_of f = cc in
        let rest : map packet_of blocks ≡ map name_of fs = cc in
        by_test rest (λ i. (head i).0.0 == queue.0 && (head i).1.0 == id.0) (held-told fs blocks rest apart.1) (is_packet queue id f) refl
      where
        or-false : (b : Bool) → b ≡ ((true && b) || false)
        or-false true = refl
        or-false false = refl

        by_test : map packet_of blocks ≡ map name_of fs → is_block queue id block ≡ is_packet queue id f → packet_holds client on right (find (is_named queue id) (told_all fs blocks)) ≡ is_given blocks queue id client on right →
            (b : Bool) → is_packet queue id f ≡ b →
            packet_holds client on right (if b then Some (told_of f block) else find (is_named queue id) (told_all fs blocks)) ≡ ((is_block queue id block && lists block) || is_given blocks queue id client on right)
        by_test rest named behind false is = behind ∙ ap (λ (b : Bool). (b && lists block) || is_given blocks queue id client on right) (sym (named ∙ is))
        by_test rest named behind true is =
            let both = and_parts (f.queue.0 == queue.0) (f.id.0 == id.0) is in
            let same_queue : f.queue ≡ queue = ap (λ n. record { 0 = n }) (eqb-true _ _ both.0) in
            let same_id : f.id ≡ id = ap (λ n. record { 0 = n }) (eqb-true _ _ both.1) in
            let none : list_any (is_packet queue id) fs ≡ false = (λ i. list_any (is_packet (sym same_queue i) (sym same_id i)) fs) ∙ apart.0 in
            or-false (lists block)
            ∙ ap (λ (b : Bool). (true && lists block) || b) (sym (none-listed fs blocks rest none))
            ∙ ap (λ (b : Bool). (b && lists block) || is_given blocks queue id client on right) (sym (named ∙ is))

  apart : AreApart Flying
  apart = apart-legal (start_of a) a.audit.items kept.legal

  all-sought : All Sought Flying
  all-sought = All-weaker (λ (f : InFlight). in_flight (start_of a) a.audit.items f.queue f.id ≡ Some f) Sought in-queue Flying (found-legal (start_of a) a.audit.items kept.legal)

  packets-are : filter_map (packet_origin a.queues.items) kept.blocks ≡ told_all Flying kept.blocks
  packets-are = told-are Flying kept.blocks kept.blocks_are all-sought

  flying-are : map (λ (p : PacketOrigin). p.flying) (filter_map (packet_origin a.queues.items) kept.blocks) ≡ Flying
  flying-are = ap (map (λ (p : PacketOrigin). p.flying)) packets-are ∙ flying-told Flying kept.blocks kept.blocks_are

  progress-is : (queue : QueueId) (id : PacketId) → found_progress queue id (packet_in (filter_map (packet_origin a.queues.items) kept.blocks) queue id) ≡ progress (start_of a) a.audit.items queue id
  progress-is queue id =
      ap (λ packets. found_progress queue id (packet_in packets queue id)) packets-are
      ∙ progress-told queue id Flying kept.blocks kept.blocks_are
      ∙ by_flight (list_any (is_packet queue id) Flying) refl
    where
      by_flight : (b : Bool) → list_any (is_packet queue id) Flying ≡ b → (if b then progress (start_of a) a.audit.items queue id else LAUNCH_PROGRESS) ≡ progress (start_of a) a.audit.items queue id
      by_flight true is = refl
      by_flight false is = sym (launch-absent (start_of a) a.audit.items kept.legal queue id is)

  arguments-are : (queue : QueueId) (id : PacketId) → found_arguments queue id [] (packet_in (filter_map (packet_origin a.queues.items) kept.blocks) queue id) ≡ arguments (start_of a) a.audit.items queue id
  arguments-are queue id =
      ap (λ packets. found_arguments queue id [] (packet_in packets queue id)) packets-are
      ∙ arguments-told queue id Flying kept.blocks [] kept.blocks_are apart
      ∙ kept.arguments queue id

  held-is : (queue : QueueId) (id : PacketId) (client : ClientId) (on : Object) (right : Right)
      → packet_holds client on right (packet_in (filter_map (packet_origin a.queues.items) kept.blocks) queue id) ≡ held (start_of a) a.audit.items queue id client on right
  held-is queue id client on right =
      ap (λ packets. packet_holds client on right (packet_in packets queue id)) packets-are
      ∙ held-told queue id client on right Flying kept.blocks kept.blocks_are apart
      ∙ kept.held queue id client on right

  -- each is told of by its name
  told-there : (fs : List InFlight) (blocks : List ArgumentBlock) → map packet_of blocks ≡ map name_of fs → AreApart fs → All (IsTold (told_all fs blocks)) blocks
  told-there [] [] names apart = All-nil (IsTold [])
  told-there [] (block ∷ blocks) names apart = absurd cc
  told-there (f ∷ fs) [] names apart = All-nil (IsTold (told_all (f ∷ fs) []))
  told-there (f ∷ fs) (block ∷ blocks) names apart =
      let head : packet_of block ≡ name_of f = cc in
      let rest : map packet_of blocks ≡ map name_of fs = cc in
      All-cons (IsTold (told_of f block ∷ told_all fs blocks)) block blocks
      (record { told = told_of f block; found = by_test (same_packet f.queue f.id block.queue block.packet) (its_own head); client = refl; rights = refl; arguments = refl })
      (All-weaker (λ (b : ArgumentBlock). IsTold (told_all fs blocks) b × (same_packet f.queue f.id b.queue b.packet ≡ false)) (IsTold (told_of f block ∷ told_all fs blocks))
      (λ b so. record { told = so.0.told; found = ap (λ (x : Bool). if x then Some (told_of f block) else packet_in (told_all fs blocks) b.queue b.packet) so.1 ∙ so.0.found; client = so.0.client; rights = so.0.rights; arguments = so.0.arguments })
      blocks (All-both (IsTold (told_all fs blocks)) (λ (b : ArgumentBlock). same_packet f.queue f.id b.queue b.packet ≡ false) blocks (told-there fs blocks rest apart.1) (others-named f.queue f.id fs blocks rest apart.0)))
    where
      its_own : packet_of block ≡ name_of f → same_packet f.queue f.id block.queue block.packet ≡ true
      its_own head =
          let queue : block.queue.0 ≡ f.queue.0 = ap (λ n. n.0.0) head in
          let id : block.packet.0 ≡ f.id.0 = ap (λ n. n.1.0) head in
          grind (arith, queue, id)

      by_test : (x : Bool) → x ≡ true → (if x then Some (told_of f block) else packet_in (told_all fs blocks) block.queue block.packet) ≡ Some (told_of f block)
      by_test true is = refl
      by_test false is = absurd cc

  pub all-told : All (IsTold (filter_map (packet_origin a.queues.items) kept.blocks)) kept.blocks
  all-told = subst (λ (ps : List PacketOrigin). All (IsTold ps) kept.blocks) (sym packets-are) (told-there Flying kept.blocks kept.blocks_are apart)

  -- ---- all of it

  pub rotated : (grants : Ledger) → SameInForce a.grants grants → are_region_lengths (region_lengths a.start.policy) ≡ true
      → begin (map program_of a.kernels.items) (origin_behind a grants kept.blocks) ≡ state_after (start_of a) a.audit.items
  rotated grants holding fit = λ i. record {
    policy = record a.start.policy { rows = ((holding.same_rules ∙ kept.rules) i).rows };
    kernels = map program_of a.kernels.items;
    in_force = λ client on right. (holding.same_rights client on right ∙ kept.granted client on right) i;
    memory = λ x. memory-is fit x i;
    signals = kept.values i;
    openings = (ap (λ queues. record { opened = a.opened; queues = queues }) (are-open a.queues.items) ∙ kept.openings) i;
    next_id = λ queue. next-is queue i;
    errors = λ queue. errors-are queue i;
    is_stopped = λ queue. stopped-is queue i;
    flight = flying-are i;
    progress = λ queue id. progress-is queue id i;
    held = λ queue id client on right. held-is queue id client on right i;
    arguments = λ queue id. arguments-are queue id i;
    before = a.start.before + length a.audit.items;
  }
