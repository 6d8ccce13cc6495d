-- Lists of holds, by what is found in them.
use Rattle.std.proofs.Common.{[], ◌≡◌, ℕ, ◌+◌, ◌<◌, ◌⊎◌, Bool, true, false, not, ◌&&◌, ◌||◌, List, ◌∷◌, ◌++◌, map, filter, take, get_or, length, Option, Some, None, refl, sym, ◌∙◌}
use Rattle.std.proofs.Common.{arith}
use Rattle.grants.proofs.Terms.{ClientId, IsFirstTo, IsUpTo, Object, PacketId, QueueId, Right, Rights, all_rights, has, have_common_right, hold_of, holds_one, is_held, is_hold, is_of}
use Rattle.grants.proofs.Terms.{is_on, list_any, list_any-append, list_any_more, same_packet, same_pair}
use Rattle.std.proofs.lemmas.Map.Views.{any-filter_same}
use Rattle.grants.specs.declared.hold.Hold.{Hold}
use Rattle.policy.proofs.ValueLemmas.{list_any-map}

-- ---- tests

pub and-true : (a : Bool) → (a && true) ≡ a
and-true a = grind arith

pub and-false : (a : Bool) → (a && false) ≡ false
and-false a = grind arith

pub or-false : (a : Bool) → (a || false) ≡ a
or-false a = grind arith

-- ---- holds

-- what is held where the holds of a packet are taken out
pub held-dropped : (q : QueueId) (p : PacketId) (q' : QueueId) (p' : PacketId) (c : ClientId) (o : Object) (right : Right) (holds : List Hold)
    → is_held (filter (λ hold. not (is_of q p hold)) holds) q' p' c o right ≡ (not (same_packet q' p' q p) && is_held holds q' p' c o right)
held-dropped q p q' p' c o right holds = grind (arith, any-filter_same)

never : {X : Type 0} (xs : List X) → list_any (λ _. false) xs ≡ false
never [] = refl
never (x ∷ xs) = never xs

any-and : {X : Type 0} (b : Bool) (f g : X → Bool) (xs : List X) → list_any (λ x. (b && f x) && g x) xs ≡ (b && list_any (λ x. f x && g x) xs)
any-and true f g xs = refl
any-and false f g xs = never xs

-- what is held where a packet's holds are put behind
pub held-pushed : (q : QueueId) (p : PacketId) (c : ClientId) (rights : List (Object × Rights)) (q' : QueueId) (p' : PacketId) (c' : ClientId) (o' : Object) (right : Right)
    (holds : List Hold)
    → is_held (holds ++ map (hold_of q p c) rights) q' p' c' o' right
    ≡ (is_held holds q' p' c' o' right || (same_packet q' p' q p && list_any (λ named. same_pair c' o' c named.0 && has named.1 right) rights))
held-pushed q p c rights q' p' c' o' right holds = grind (
  arith,
  list_any-append (is_hold q' p' c' o' right) holds (map (hold_of q p c) rights),
  list_any-map (is_hold q' p' c' o' right) (hold_of q p c) rights,
  any-and (same_packet q' p' q p) (λ named. same_pair c' o' c named.0) (λ named. has named.1 right) rights,
)

-- ---- holders

spread : (m a b c A B : Bool) → ((a && ((m && b) || c)) || ((m && A) || B)) ≡ ((m && ((a && b) || A)) || ((a && c) || B))
spread m a b c A B = grind arith

spread_any : {X : Type 0} (m : Bool) (f k h : X → Bool) (xs : List X)
    → list_any (λ x. f x && ((m && k x) || h x)) xs ≡ ((m && list_any (λ x. f x && k x) xs) || list_any (λ x. f x && h x) xs)
spread_any m f k h [] = sym (or-false (m && false) ∙ and-false m)
spread_any m f k h (x ∷ xs) = grind (arith, spread_any m f k h xs)

none_of : {X : Type 0} (f : X → Bool) (xs : List X) → list_any (λ x. f x && false) xs ≡ false
none_of f [] = refl
none_of f (x ∷ xs) = rw (and-false (f x)) (none_of f xs)

-- a packet holds one of the rights where one of its holds has one
pub holder : (holds : List Hold) (c : ClientId) (o : Object) (rights : Rights) (q : QueueId) (p : PacketId)
    → list_any (λ right. has rights right && is_held holds q p c o right) all_rights ≡ holds_one holds c o rights q p
holder [] c o rights q p = none_of (has rights) all_rights
holder (h ∷ hs) c o rights q p = grind (arith, spread_any (is_on q p c o h) (has rights) (has h.rights) (is_held hs q p c o) all_rights, holder hs c o rights q p)

-- ---- the first

pub first_same : (test test' : QueueId → PacketId → Bool) (first : Option (QueueId × PacketId)) → ((q : QueueId) (p : PacketId) → test' q p ≡ test q p) → IsFirstTo test first
    → IsFirstTo test' first
first_same test test' None same h = λ q p. same q p ∙ h q p
first_same test test' (Some x) same h = (same x.0 x.1 ∙ h.0, λ q p t. h.1 q p (sym (same q p) ∙ t))

module _ (test test' : QueueId → PacketId → Bool) (a : QueueId) (b : PacketId) (more : (q : QueueId) (p : PacketId) → test' q p ≡ (test q p || same_packet q p a b)) where
  -- the first packet that passes is the first
  pub first_of_none : IsFirstTo test None → IsFirstTo test' (Some (a, b))
  first_of_none none = grind arith

  passes : (y : QueueId × PacketId) (x : QueueId × PacketId) → test x.0 x.1 ≡ true → (y ≡ x) ⊎ (y ≡ (a, b)) → test' y.0 y.1 ≡ true
  passes y x h3 h4 = grind arith

  -- the earlier of the first so far and one more is the first
  pub first_of_some : (x y : QueueId × PacketId) → IsFirstTo test (Some x) → (y ≡ x) ⊎ (y ≡ (a, b)) → IsUpTo y.0 y.1 x.0 x.1 → IsUpTo y.0 y.1 a b → IsFirstTo test' (Some y)
  first_of_some x y first either to_x to_new = grind arith

-- one more hold: it adds its packet where it blocks, and none otherwise
module _ (holds : List Hold) (c : ClientId) (o : Object) (rights : Rights) (i : ℕ) (d : Hold) (within : i < length holds) where
  abbrev next : Hold
  next = get_or holds i d

  pub holds_one-blocking : (same_pair c o next.client next.object && have_common_right rights next.rights) ≡ true → (q : QueueId) (p : PacketId)
      → holds_one (take (i + 1) holds) c o rights q p ≡ (holds_one (take i holds) c o rights q p || same_packet q p next.queue next.packet)
  holds_one-blocking blocks q p = grind (arith, list_any_more (λ hold. is_on q p c o hold && have_common_right rights hold.rights) holds i d within)

  pub holds_one-passing : (same_pair c o next.client next.object && have_common_right rights next.rights) ≡ false → (q : QueueId) (p : PacketId)
      → holds_one (take (i + 1) holds) c o rights q p ≡ holds_one (take i holds) c o rights q p
  holds_one-passing passes q p = grind (arith, list_any_more (λ hold. is_on q p c o hold && have_common_right rights hold.rights) holds i d within)
