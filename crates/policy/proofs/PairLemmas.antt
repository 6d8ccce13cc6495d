-- Clients and objects that a test finds the same, and what is so of every right.
use Rattle.std.proofs.Common.{◌≡◌, ℕ, Bool, true, false, not, ◌&&◌, ◌||◌, ◌==◌, refl, sym, ap, true≢false}
use Rattle.std.proofs.lemmas.Bool.Decides.{Decides-eqb}
use Rattle.aql_packet.specs.declared.ids.ClientId.{ClientId}
use Rattle.policy.specs.declared.object.Object.{Object}
use Rattle.policy.specs.declared.object.Object.TheVariants.{Agent, Region, Signal, Kernel}
use Rattle.policy.specs.Object.{same_object}
use Rattle.policy.specs.declared.rights.Right.{Right}
use Rattle.policy.specs.declared.rights.Right.TheVariants.{Use, Read, Write, Wait, Change, Launch}
use Rattle.policy.specs.declared.rights.Rights.{Rights}
use Rattle.policy.specs.Pairs.{same_pair}
use Rattle.policy.specs.Rights.{has, each_right}

pub both : (a b : Bool) → (a && b) ≡ true → (a ≡ true) × (b ≡ true)
both true b h = (refl, h)
both false b h = absurd (true≢false (sym h))

pub same_number : (m n : ℕ) → (m == n) ≡ true → m ≡ n
same_number m n h = (Decides-eqb m n).0 h

pub same_client : (a b : ClientId) → (a.0 == b.0) ≡ true → a ≡ b
same_client a b h = ap (λ n. record { 0 = n }) (same_number a.0 b.0 h)

pub same_object_is : (a b : Object) → same_object a b ≡ true → a ≡ b
same_object_is (Agent h) (Agent k) e = ap (λ n. Agent (record { 0 = n })) (same_number h.0 k.0 e)
same_object_is (Region h) (Region k) e = ap (λ n. Region (record { 0 = n })) (same_number h.0 k.0 e)
same_object_is (Signal h) (Signal k) e = ap (λ n. Signal (record { 0 = n })) (same_number h.0 k.0 e)
same_object_is (Kernel h) (Kernel k) e = ap (λ n. Kernel (record { 0 = n })) (same_number h.0 k.0 e)
same_object_is _ _ e = absurd (true≢false (sym e))

pub same_pair_is : (c : ClientId) (o : Object) (c' : ClientId) (o' : Object) → same_pair c o c' o' ≡ true → (c ≡ c') × (o ≡ o')
same_pair_is c o c' o' h =
    let parts = both (c.0 == c'.0) (same_object o o') h in
    (same_client c c' parts.0, same_object_is o o' parts.1)

pub itself : (n : ℕ) → (n == n) ≡ true
itself n = (Decides-eqb n n).1 refl

pub same_object_itself : (o : Object) → same_object o o ≡ true
same_object_itself (Agent h) = itself h.0
same_object_itself (Region h) = itself h.0
same_object_itself (Signal h) = itself h.0
same_object_itself (Kernel h) = itself h.0

pub same_pair_itself : (c : ClientId) (o : Object) → same_pair c o c o ≡ true
same_pair_itself c o = rw (itself c.0) (same_object_itself o)

-- what is so of each of the six is so of every right
pub for_each_right : (P : Right → Type 0) → P Use → P Read → P Write → P Wait → P Change → P Launch → (right : Right) → P right
for_each_right P a b c d e f Use = a
for_each_right P a b c d e f Read = b
for_each_right P a b c d e f Write = c
for_each_right P a b c d e f Wait = d
for_each_right P a b c d e f Change = e
for_each_right P a b c d e f Launch = f

implied : (a b : Bool) → (not a || b) ≡ true → a ≡ true → b ≡ true
implied true b h e = h
implied false b h e = absurd (true≢false (sym e))

-- each right of the set passes the test
pub each_right-has : (rights : Rights) (test : Right → Bool) → each_right rights test ≡ true → (right : Right) → has rights right ≡ true → test right ≡ true
each_right-has rights test h right =
    let a = both _ _ h in let b = both _ _ a.1 in let c = both _ _ b.1 in let d = both _ _ c.1 in let e = both _ _ d.1 in let f = both _ _ e.1 in
    for_each_right (λ r. has rights r ≡ true → test r ≡ true)
    (implied (has rights Use) (test Use) a.0) (implied (has rights Read) (test Read) b.0) (implied (has rights Write) (test Write) c.0)
    (implied (has rights Wait) (test Wait) d.0) (implied (has rights Change) (test Change) e.0) (implied (has rights Launch) (test Launch) f.0) right
