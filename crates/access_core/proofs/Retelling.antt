-- What was told of packets in flight is told anew: of those that were launched before a number in the memory that it has, of the others in
-- room that was got.
use Rattle.std.proofs.Common.{◌≡◌, ℕ, zero, suc, ◌+◌, ◌-◌, ◌<◌, ◌≤◌, ◌⊎◌, inl, inr, Bool, true, false, List, [], ◌∷◌, ◌++◌, length, filter, find, fold, max, refl, sym, ◌∙◌, ap, subst, Option, Some, None, arith, All, get_or, nat_le, remove, slice_get, take, if◌then◌else◌}
use Rattle.std.specs.List.{Contains, filter_map}
use Rattle.std.specs.Prelude.{option_to_list}
use Rattle.std.proofs.lemmas.List.Elements.{All-contains_itself}
use Rattle.aql_packet.specs.Ids.{same_packet}
use Rattle.core_model.specs.History.{packet_in}
use Rattle.core_model.specs.declared.limits.TheConstants.{ALL_IN_FLIGHT}
use Rattle.core_model.specs.declared.origin.PacketOrigin.{PacketOrigin}
use Rattle.access_core.specs.declared.fresh.Fresh.{Fresh}
use Rattle.access_core.specs.inner.MovingOn.{IsIndexIn, MayTell}
use Rattle.access_core.specs.inner.Origins.{AreInOrder, packet_origin, sooner}
use Rattle.access_core.specs.inner.Ready.{Fits, HasLists, HasRoomFor, IsTold, LeavesOthers, Spends, WasTold, later}
use Rattle.access_core.proofs.Rotated.{All-both}
use Rattle.access_core.proofs.InOrder.{AreTold, later-all, next-left, told-next, told-none}
use Rattle.access_core.proofs.Terms.{All-cons, All-filter, All-head, All-nil, All-tail, All-weaker, ArgumentBlock, PacketId, Queue, QueueId, all_blocks}

-- ---- one taken out of those that are told

-- whether a packet is told of here
abbrev pub is_told_of : QueueId → PacketId → PacketOrigin → Bool
is_told_of queue id p = same_packet p.flying.queue p.flying.id queue id

-- of two names that aren't alike no packet has both
two-names : (p : PacketOrigin) (queue q : QueueId) (id i : PacketId) → is_told_of queue id p ≡ true → same_packet queue id q i ≡ false → is_told_of q i p ≡ false
two-names p queue q id i is other = grind arith

-- one that is found has the name
pub found-named : (ps : List PacketOrigin) (queue : QueueId) (id : PacketId) (one : PacketOrigin) → packet_in ps queue id ≡ Some one → is_told_of queue id one ≡ true
found-named [] queue id one found = absurd cc
found-named (p ∷ ps) queue id one found = by_test (found-named ps queue id one) (is_told_of queue id p) refl found
  where
    by_test : (packet_in ps queue id ≡ Some one → is_told_of queue id one ≡ true) → (b : Bool) → is_told_of queue id p ≡ b → (if b then Some p else packet_in ps queue id) ≡ Some one → is_told_of queue id one ≡ true
    by_test more true is same = let first : p ≡ one = cc in ap (is_told_of queue id) (sym first) ∙ is
    by_test more false is rest = more rest

-- the index at which it is found, where none before it has the name
pub index-found : (ps : List PacketOrigin) (queue : QueueId) (id : PacketId) (i : ℕ) (x : PacketOrigin) → i < length ps → x ≡ get_or ps i x → is_told_of queue id x ≡ true
    → ((k : ℕ) (d : PacketOrigin) → k < i → is_told_of queue id (get_or ps k d) ≡ false) → IsIndexIn ps queue id i
index-found [] queue id i x less is named before = absurd (omega (arith, less))
index-found (p ∷ ps) queue id zero x less is named before =
    let there : is_told_of queue id p ≡ true = ap (is_told_of queue id) (sym is) ∙ named in (
      sym (ap (λ (b : Bool). if b then Some p else packet_in ps queue id) there),
      omega arith,
      All-nil (λ (y : PacketOrigin). is_told_of queue id y ≡ false),
    )
index-found (p ∷ ps) queue id (suc k) x less is named before =
    let past : is_told_of queue id p ≡ false = before 0 p (omega arith) in
    let rest = index-found ps queue id k x (omega (arith, less)) is named (λ j d below. before (suc j) d (omega (arith, below))) in
    let within = rest.1 in (
      rest.0 ∙ sym (ap (λ (b : Bool). if b then Some p else packet_in ps queue id) past),
      omega (arith, within),
      All-cons (λ (y : PacketOrigin). is_told_of queue id y ≡ false) p (take k ps) past rest.2,
    )

pub index-none : (ps : List PacketOrigin) (queue : QueueId) (id : PacketId) → ((k : ℕ) (d : PacketOrigin) → k < length ps → is_told_of queue id (get_or ps k d) ≡ false) → IsIndexIn ps queue id (length ps)
index-none [] queue id before = (refl, omega arith, All-nil (λ (y : PacketOrigin). is_told_of queue id y ≡ false))
index-none (p ∷ ps) queue id before =
    let past : is_told_of queue id p ≡ false = before 0 p (omega arith) in
    let rest = index-none ps queue id (λ j d below. before (suc j) d (omega (arith, below))) in (
      rest.0 ∙ sym (ap (λ (b : Bool). if b then Some p else packet_in ps queue id) past),
      omega arith,
      All-cons (λ (y : PacketOrigin). is_told_of queue id y ≡ false) p (take (length ps) ps) past rest.2,
    )

-- where one is taken out, others are told of as before
pub others-stay : (ps : List PacketOrigin) (queue : QueueId) (id : PacketId) (index : ℕ) (one : PacketOrigin) → IsIndexIn ps queue id index → packet_in ps queue id ≡ Some one
    → (q : QueueId) (i : PacketId) → same_packet queue id q i ≡ false → packet_in (remove ps index) q i ≡ packet_in ps q i
others-stay [] queue id index one at found q i other = absurd cc
others-stay (p ∷ ps) queue id zero one at found q i other =
    let first : Some p ≡ Some one = at.0 ∙ found in
    let same : p ≡ one = cc in
    let named : is_told_of queue id p ≡ true = ap (is_told_of queue id) same ∙ found-named (p ∷ ps) queue id one found in
    ap (λ (b : Bool). if b then Some p else packet_in ps q i) (sym (two-names p queue q id i named other))
others-stay (p ∷ ps) queue id (suc k) one at found q i other =
    let past : is_told_of queue id p ≡ false = All-head (λ (x : PacketOrigin). is_told_of queue id x ≡ false) p (take k ps) at.2 in
    let rest = others-stay ps queue id k one (behind past) (skipped past) q i other in
    ap (λ (more : Option PacketOrigin). if is_told_of q i p then Some p else more) rest
  where
    skipped : is_told_of queue id p ≡ false → packet_in ps queue id ≡ Some one
    skipped past = sym (ap (λ (b : Bool). if b then Some p else packet_in ps queue id) past) ∙ found

    behind : is_told_of queue id p ≡ false → IsIndexIn ps queue id k
    behind past =
        let within = at.1 in (
          at.0 ∙ ap (λ (b : Bool). if b then Some p else packet_in ps queue id) past,
          omega (arith, within),
          All-tail (λ (x : PacketOrigin). is_told_of queue id x ≡ false) p (take k ps) at.2,
        )

-- what lies at an index lies inside
lies-inside : (ps : List PacketOrigin) (index : ℕ) (one : PacketOrigin) → slice_get ps index ≡ Some one → index < length ps
lies-inside [] zero one is = absurd cc
lies-inside [] (suc k) one is = absurd cc
lies-inside (p ∷ ps) zero one is = omega arith
lies-inside (p ∷ ps) (suc k) one is = let rest = lies-inside ps k one is in omega (arith, rest)

-- a packet that is told of is so at an index inside
pub index-inside : (ps : List PacketOrigin) (queue : QueueId) (id : PacketId) (index : ℕ) (one : PacketOrigin) → IsIndexIn ps queue id index → packet_in ps queue id ≡ Some one → index < length ps
index-inside ps queue id index one at found = lies-inside ps index one (at.0 ∙ found)

-- and it is the one that lies there
pub the-one : (ps : List PacketOrigin) (queue : QueueId) (id : PacketId) (index : ℕ) (one taken : PacketOrigin) → IsIndexIn ps queue id index → packet_in ps queue id ≡ Some one → slice_get ps index ≡ Some taken
    → taken ≡ one
the-one ps queue id index one taken at found lies =
    let same : Some taken ≡ Some one = sym lies ∙ at.0 ∙ found in
    cc

-- ---- those that aren't told yet

later-later : (m n : ℕ) (bs : List ArgumentBlock) → m ≤ n → later n (later m bs) ≡ later n bs
later-later m n [] up = refl
later-later m n (b ∷ bs) up = grind (arith, later-later m n bs up)

later-under : (m n : ℕ) (bs : List ArgumentBlock) → m ≤ n → later m (later n bs) ≡ later n bs
later-under m n [] up = refl
later-under m n (b ∷ bs) up = grind (arith, later-under m n bs up)

since-le : (m n : ℕ) → m ≤ n → nat_le m n ≡ true
since-le m n up = grind arith

-- one that is next, and not before a number, is the next from that number on
pub next-since : (told from : ℕ) (bs : List ArgumentBlock) (one : ArgumentBlock) → later from bs ≡ one ∷ later (one.number + 1) bs → from ≤ told → told ≤ one.number
    → later told bs ≡ one ∷ later (one.number + 1) bs
next-since told from bs one next up since =
    sym (later-later from told bs up) ∙ ap (later told) next
    ∙ ap (λ (b : Bool). if b then one ∷ later told (later (one.number + 1) bs) else later told (later (one.number + 1) bs)) (since-le told one.number since)
    ∙ ap (λ xs. one ∷ xs) (later-under told (one.number + 1) bs (omega (arith, since)))

-- where those are that were launched before a number or aren't told yet
since-max : (told from : ℕ) (bs : List ArgumentBlock) (one : ArgumentBlock) → later from bs ≡ one ∷ later (one.number + 1) bs → from ≤ one.number → told ≤ one.number
    → later (max told from) bs ≡ one ∷ later (one.number + 1) bs
since-max told from bs one next up since = by_order (nat_le told from) refl
  where
    by_order : (b : Bool) → nat_le told from ≡ b → later (max told from) bs ≡ one ∷ later (one.number + 1) bs
    by_order true is = ap (λ n. later n bs) (larger is) ∙ next
      where
        larger : nat_le told from ≡ true → max told from ≡ from
        larger is = grind arith
    by_order false is = ap (λ n. later n bs) (smaller is) ∙ next-since told from bs one next (below is) since
      where
        smaller : nat_le told from ≡ false → max told from ≡ told
        smaller is = grind arith

        below : nat_le told from ≡ false → from ≤ told
        below is = grind arith

le-of : (m n : ℕ) → nat_le m n ≡ true → m ≤ n
le-of m n is = grind arith

lt-of : (m n : ℕ) → nat_le m n ≡ false → n < m
lt-of m n is = grind arith

max-right : (m n : ℕ) → m ≤ n → max m n ≡ n
max-right m n up = grind arith

max-left : (m n : ℕ) → n ≤ m → max m n ≡ m
max-left m n down = grind arith

-- those from a number on lie among all, and none comes before it
lie-later : (from : ℕ) (bs : List ArgumentBlock) → All (λ (b : ArgumentBlock). Contains bs b × (from ≤ b.number)) (later from bs)
lie-later from bs =
    All-both (Contains bs) (λ (b : ArgumentBlock). from ≤ b.number) (later from bs)
    (All-filter (λ (b : ArgumentBlock). nat_le from b.number) (Contains bs) bs (All-contains_itself bs)) (up bs)
  where
    up : (xs : List ArgumentBlock) → All (λ (b : ArgumentBlock). from ≤ b.number) (later from xs)
    up [] = All-nil (λ (b : ArgumentBlock). from ≤ b.number)
    up (x ∷ xs) = by_test (up xs) (nat_le from x.number) refl
      where
        by_test : All (λ (b : ArgumentBlock). from ≤ b.number) (later from xs) → (b : Bool) → nat_le from x.number ≡ b → All (λ (b : ArgumentBlock). from ≤ b.number) (if b then x ∷ later from xs else later from xs)
        by_test rest true is = All-cons (λ (b : ArgumentBlock). from ≤ b.number) x (later from xs) (le-of from x.number is) rest
        by_test rest false is = rest

-- Of packets in flight those so far are told anew.
pub record AreRetold (queues : List Queue) (told : ℕ) (blocks : List ArgumentBlock) (origins : List PacketOrigin) (first fresh : Fresh) (from turns : ℕ) : Type 0 where
  pub so_far : AreTold queues blocks origins from turns
  pub were_told : All (WasTold told fresh.packets) (later from blocks)
  pub room : HasLists fresh (length (later (max told from) blocks))
  pub spent : Spends turns first fresh

module _ (queues : List Queue) (count told : ℕ) (packets : List PacketOrigin) (first : Fresh) (blocks : List ArgumentBlock) (may : MayTell queues count told packets first blocks) where
  -- none is told yet
  pub retold-none : first.packets ≡ packets → AreRetold queues told blocks [] first first 0 0
  retold-none same = record {
    so_far = told-none queues blocks;
    were_told = subst (All (WasTold told first.packets)) (sym (later-all blocks)) (subst (λ (ps : List PacketOrigin). All (WasTold told ps) blocks) (sym same) may.were_told);
    room = subst (λ n. HasLists first (length (later n blocks))) (sym (max-left told 0 (omega arith))) may.room;
    spent = record { rights_each = refl; bytes_each = refl; rights = omega arith; bytes = omega arith };
  }

  module _ (origins : List PacketOrigin) (fresh : Fresh) (from turns : ℕ) (was : AreRetold queues told blocks origins first fresh from turns) (one : ArgumentBlock)
      (found : fold (sooner from) None (all_blocks queues) ≡ Some one) where
    next : later from blocks ≡ one ∷ later (one.number + 1) blocks
    next = next-left queues count blocks may.in_order from one found

    -- the next was told before, if it was launched before the number
    pub next-told : WasTold told fresh.packets one
    next-told = All-head (WasTold told fresh.packets) one (later (one.number + 1) blocks) (subst (All (WasTold told fresh.packets)) next was.were_told)

    -- else there is room for it
    pub next-room : from ≤ one.number → told ≤ one.number → HasLists fresh 1
    next-room up since =
        let longer : length (later (max told from) blocks) ≡ length (one ∷ later (one.number + 1) blocks) = ap length (since-max told from blocks one next up since) in
        let rights = was.room.0 in
        let bytes = was.room.1 in
        (omega (arith, longer, rights), omega (arith, longer, bytes))

    -- what was told of those behind it stays
    stays-told : (after : Fresh) → LeavesOthers one fresh.packets after.packets → Contains blocks one → (b : ArgumentBlock) → Contains blocks b → one.number < b.number → WasTold told fresh.packets b
        → WasTold told after.packets b
    stays-told after others there b lies above told_before less =
        let is = told_before less in
        record { told = is.told; found = others b.queue b.packet (by_name (same_packet one.queue one.packet b.queue b.packet) refl) ∙ is.found; client = is.client; rights = is.rights; arguments = is.arguments }
      where
        by_name : (x : Bool) → same_packet one.queue one.packet b.queue b.packet ≡ x → same_packet one.queue one.packet b.queue b.packet ≡ false
        by_name false is = is
        by_name true is = let same = may.apart one b there lies is in absurd (omega (arith, same, above))

    -- so it is told behind the others
    pub retold-next : from ≤ one.number → Contains blocks one → (new : List PacketOrigin) → new ≡ origins ++ option_to_list (packet_origin queues one) → (after : Fresh) → LeavesOthers one fresh.packets after.packets
        → (one.number < told → Spends 0 fresh after) → Spends 1 fresh after → AreRetold queues told blocks new first after (one.number + 1) (turns + 1)
    retold-next up there new is after others again spent =
        let before = was.spent in
        let rights = before.rights in
        let bytes = before.bytes in
        let more_rights = spent.rights in
        let more_bytes = spent.bytes in
        record {
          so_far = told-next queues count blocks may.in_order origins new from turns one found is was.so_far;
          were_told = kept;
          room = by_order (nat_le told one.number) refl;
          spent = record {
            rights_each = spent.rights_each ∙ before.rights_each;
            bytes_each = spent.bytes_each ∙ before.bytes_each;
            rights = omega (arith, rights, more_rights);
            bytes = omega (arith, bytes, more_bytes);
          };
        }
      where
        kept : All (WasTold told after.packets) (later (one.number + 1) blocks)
        kept =
            All-weaker (λ (b : ArgumentBlock). (Contains blocks b × (one.number + 1 ≤ b.number)) × WasTold told fresh.packets b) (WasTold told after.packets)
            (λ b so. stays-told after others there b so.0.0 (let above = so.0.1 in omega (arith, above)) so.1) (later (one.number + 1) blocks)
            (All-both (λ (b : ArgumentBlock). Contains blocks b × (one.number + 1 ≤ b.number)) (WasTold told fresh.packets) (later (one.number + 1) blocks) (lie-later (one.number + 1) blocks)
            (All-tail (WasTold told fresh.packets) one (later (one.number + 1) blocks) (subst (All (WasTold told fresh.packets)) next was.were_told)))

        by_order : (b : Bool) → nat_le told one.number ≡ b → HasLists after (length (later (max told (one.number + 1)) blocks))
        by_order true is_since =
            let since = le-of told one.number is_since in
            let shorter : length (later (max told from) blocks) ≡ length (one ∷ later (one.number + 1) blocks) = ap length (since-max told from blocks one next up since) in
            let same : max told (one.number + 1) ≡ one.number + 1 = max-right told (one.number + 1) (omega (arith, since)) in
            let r = was.room.0 in
            let b = was.room.1 in
            let more_r = spent.rights in
            let more_b = spent.bytes in
            subst (λ n. HasLists after (length (later n blocks))) (sym same) (omega (arith, shorter, r, more_r), omega (arith, shorter, b, more_b))
        by_order false is_before =
            let less = lt-of told one.number is_before in
            let still = again less in
            let r = was.room.0 in
            let b = was.room.1 in
            let more_r = still.rights in
            let more_b = still.bytes in
            let same : max told (one.number + 1) ≡ max told from = max-left told (one.number + 1) (omega (arith, less)) ∙ sym (max-left told from (omega (arith, less, up))) in
            subst (λ n. HasLists after (length (later n blocks))) (sym same) (omega (arith, r, more_r), omega (arith, b, more_b))
