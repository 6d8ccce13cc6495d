-- The least of the packets that pass a test is the first to pass it by queue and id.
use Rattle.std.proofs.Common.{◌≡◌, List, [], ◌∷◌, refl, ap, Bool, true, false, Some, None, arith, All, ◌&&◌, ◌||◌, ◌==◌, filter, find}
use Rattle.access_core.proofs.Terms.{All-head, All-nil, All-tail, InFlight, IsFirstTo, IsUpTo, PacketId, QueueId, all-from_list_all, and_parts, found-all, found-passes, is_packet}
use Rattle.access_core.proofs.Terms.{is_up_to}
use Rattle.access_core.proofs.Terms.{least_in_flight, list_all, list_any, or_parts, or_right}
use Rattle.std.proofs.lemmas.Bool.{eqb-true}

-- ---- what is found in a list

-- where one passes, one is found
pub record IsFound {X : Type 0} (test : X → Bool) (xs : List X) : Type 0 where
  pub one : X
  pub is : find test xs ≡ Some one

pub any-found : {X : Type 0} (test : X → Bool) (xs : List X) → list_any test xs ≡ true → IsFound test xs
any-found test [] any = absurd cc
any-found test (x ∷ xs) any = first (test x) refl any (any-found test xs)
  where
    first : (b : Bool) → test x ≡ b → (b || list_any test xs) ≡ true → (list_any test xs ≡ true → IsFound test xs) → IsFound test (x ∷ xs)
    first true is any more = record { one = x; is = rw is refl }
    first false is any more = let later = more any in record { one = later.one; is = rw is later.is }

-- one that is found by one test, and passes another, is one that passes
pub found-any : {X : Type 0} (sought test : X → Bool) (xs : List X) (f : X) → find sought xs ≡ Some f → test f ≡ true → list_any test xs ≡ true
found-any sought test [] f found passes = absurd cc
found-any sought test (x ∷ xs) f found passes = grind (arith, found-any sought test xs f)

list_all-from_all : {X : Type 0} (P : X → Type 0) (test : X → Bool) (xs : List X) → ((x : X) → P x → test x ≡ true) → All P xs → list_all test xs ≡ true
list_all-from_all P test [] step all = refl
list_all-from_all P test (x ∷ xs) step all = rw (step x (All-head P x xs all), list_all-from_all P test xs step (All-tail P x xs all)) refl

-- ---- packets

is_packet-itself : (f : InFlight) → is_packet f.queue f.id f ≡ true
is_packet-itself f = grind arith

-- a packet that comes up to one by its numbers comes up to it
up_to-test : (f g : InFlight) → IsUpTo f.queue f.id g.queue g.id → is_up_to f g ≡ true
up_to-test f g h3 = grind arith

module _ (test : InFlight → Bool) where
  -- whether a packet of the list with this queue and id passes
  abbrev pub passes : List InFlight → QueueId → PacketId → Bool
  passes fs queue id = list_any (λ f. is_packet queue id f && test f) fs

  -- one of the list that passes, passes by its queue and id
  itself-passes : (f : InFlight) (fs : List InFlight) → test f ≡ true → passes (f ∷ fs) f.queue f.id ≡ true
  itself-passes f fs is = rw (is_packet-itself f, is) refl

  later-passes : (f : InFlight) (fs : List InFlight) (queue : QueueId) (id : PacketId) → passes fs queue id ≡ true → passes (f ∷ fs) queue id ≡ true
  later-passes f fs queue id is = or_right (is_packet queue id f && test f) _ is

  -- what holds of all that pass by queue and id holds of each of the list that passes
  all-passing : (P : QueueId → PacketId → Type 0) (fs : List InFlight) → ((queue : QueueId) (id : PacketId) → passes fs queue id ≡ true → P queue id)
      → All (λ f. P f.queue f.id) (filter test fs)
  all-passing P [] step = All-nil (λ f. P f.queue f.id)
  all-passing P (f ∷ fs) step = grind (arith, all-passing P fs (λ queue id is. step queue id (later-passes f fs queue id is)))

  -- none passes
  none-passing : (fs : List InFlight) → ((queue : QueueId) (id : PacketId) → passes fs queue id ≡ false) → filter test fs ≡ []
  none-passing [] none = refl
  none-passing (f ∷ fs) none = grind (arith, none-passing fs (λ queue id. (or_parts (is_packet queue id f && test f) (passes fs queue id) (none queue id)).1), itself-passes f fs)

  -- one that passes by its queue and id is found among those that pass
  passing-found : (fs : List InFlight) (queue : QueueId) (id : PacketId) → passes fs queue id ≡ true → list_any (is_packet queue id) (filter test fs) ≡ true
  passing-found [] queue id is = absurd cc
  passing-found (f ∷ fs) queue id is = grind (arith, passing-found fs queue id)

-- a packet that is the first, and one that comes up to it, are the same
same_name : (queue : QueueId) (id : PacketId) (f g : InFlight) → is_packet queue id g ≡ true → IsUpTo queue id f.queue f.id → is_up_to f g ≡ true
    → (f.queue.0 ≡ queue.0) × (f.id.0 ≡ id.0)
same_name queue id f g same first up = grind arith

module _ (test : InFlight → Bool) (fs : List InFlight) where
  -- no packet passes
  pub least-none : IsFirstTo (passes test fs) None → least_in_flight (filter test fs) ≡ None
  least-none none = rw (none-passing test fs none) refl

  -- the first by queue and id of those that pass is the least of them
  pub record IsLeast (queue : QueueId) (id : PacketId) : Type 0 where
    pub one : InFlight
    pub is : least_in_flight (filter test fs) ≡ Some one
    pub queue_is : one.queue ≡ queue
    pub id_is : one.id ≡ id

  pub least-first : (queue : QueueId) (id : PacketId) → IsFirstTo (passes test fs) (Some (queue, id)) → IsLeast queue id
  least-first queue id first =
      let all : List InFlight = filter test fs in
      let up : All (λ f. IsUpTo queue id f.queue f.id) all = all-passing test (IsUpTo queue id) fs first.1 in
      let there = any-found (is_packet queue id) all (passing-found test fs queue id first.0) in
      let named : is_packet queue id there.one ≡ true = found-passes (is_packet queue id) all there.one there.is in
      let numbers = and_parts (there.one.queue.0 == queue.0) (there.one.id.0 == id.0) named in
      let lowest : list_all (is_up_to there.one) all ≡ true =
      list_all-from_all (λ f. IsUpTo queue id f.queue f.id) (is_up_to there.one) all
      (λ f below. up_to-test there.one f (lowered queue id there.one f (eqb-true _ _ numbers.0) (eqb-true _ _ numbers.1) below)) up in
      let some = any-found (λ f. list_all (is_up_to f) all) all (found-any (is_packet queue id) (λ f. list_all (is_up_to f) all) all there.one there.is lowest) in
      let below : is_up_to some.one there.one ≡ true =
      found-all (λ g. is_up_to some.one g ≡ true) (is_packet queue id) all there.one
      (all-from_list_all (is_up_to some.one) all (found-passes (λ f. list_all (is_up_to f) all) all some.one some.is)) there.is in
      let same = same_name queue id some.one there.one named (found-all (λ f. IsUpTo queue id f.queue f.id) (λ f. list_all (is_up_to f) all) all some.one up some.is) below in
      record {
        one = some.one;
        is = some.is;
        queue_is = ap (λ n. record { 0 = n }) same.0;
        id_is = ap (λ n. record { 0 = n }) same.1;
      }
    where
      lowered : (queue : QueueId) (id : PacketId) (f g : InFlight) → f.queue.0 ≡ queue.0 → f.id.0 ≡ id.0 → IsUpTo queue id g.queue g.id → IsUpTo f.queue f.id g.queue g.id
      lowered queue_0 id_1 f g h5 h6 h7 = grind arith
