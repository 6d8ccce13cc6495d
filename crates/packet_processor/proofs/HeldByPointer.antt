-- What is gathered item by item is what all of them give.
use Rattle.std.proofs.Common.{◌≡◌, ℕ, ◌+◌, ◌<◌, List, [], ◌∷◌, ◌++◌, drop, drop-cons, add-one, get_or, length, refl, sym, ◌∙◌, ap, Bool, append_assoc, arith}
use Rattle.std.specs.Prelude.{map, take}
use Rattle.std.specs.Int.{from_le_bytes, w64}
use Rattle.std.specs.List.{flat_map}
use Rattle.policy.specs.declared.object.Object.{Object}
use Rattle.policy.specs.declared.rights.Right.{Right}
use Rattle.policy.specs.declared.rights.Rights.{Rights}
use Rattle.core_model.specs.Holds.{held_by_pointer}
use Rattle.core_model.specs.Kernels.{wide_arguments}
use Rattle.packet_processor.specs.Holding.{as_rights}
use Rattle.packet_processor.specs.inner.RightsPassing.{rights_passing}

-- the item at a place stands before those behind it
pub at_place : {X : Type 0} (xs : List X) (i : ℕ) (d : X) → i < length xs → drop i xs ≡ get_or xs i d ∷ drop (i + 1) xs
at_place xs i d lt = rw (add-one, drop-cons xs i d) refl

pub more : {X Y : Type 0} (all : List X → List Y) (piece : X → List Y) → ((x : X) (xs : List X) → all (x ∷ xs) ≡ piece x ++ all xs) →
    (held now whole : List Y) (x : X) (rest tail : List X) → rest ≡ x ∷ tail → now ≡ held ++ piece x → held ++ all rest ≡ whole → now ++ all tail ≡ whole
more all piece splits held now whole x rest tail is grown so_far =
    ap (λ ys. ys ++ all tail) grown ∙ append_assoc held (piece x) (all tail)
    ∙ ap (λ ys. held ++ ys) (sym (splits x tail)) ∙ ap (λ xs. held ++ all xs) (sym is) ∙ so_far

pub rights_passing-splits : (test : Right → Bool) (on : Object) (x : Right) (xs : List Right)
    → rights_passing test on (x ∷ xs) ≡ rights_passing test on (x ∷ []) ++ rights_passing test on xs
rights_passing-splits test on x xs = grind arith

-- what the argument at an offset has a packet hold
abbrev pub pointed : (Object → Right → Bool) → List ℕ → List ℕ → ℕ → List (Object × Rights)
pointed in_force lengths block offset = map as_rights (held_by_pointer in_force lengths (from_le_bytes w64 (take 8 (drop offset block))))

abbrev pub all_pointed : (Object → Right → Bool) → List ℕ → List ℕ → List ℕ → List (Object × Rights)
all_pointed in_force lengths block offsets = map as_rights (flat_map (held_by_pointer in_force lengths) (wide_arguments offsets block))

pub pointed-splits : (in_force : Object → Right → Bool) (lengths block : List ℕ) (x : ℕ) (xs : List ℕ)
    → all_pointed in_force lengths block (x ∷ xs) ≡ pointed in_force lengths block x ++ all_pointed in_force lengths block xs
pointed-splits in_force lengths block x xs = grind arith
