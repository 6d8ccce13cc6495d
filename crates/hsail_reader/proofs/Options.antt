-- What an answer that was found tells of what it was found by.
use Rattle.std.proofs.Common.{◌≡◌, ◌⊎◌, inl, inr, List, ℕ, Bool, true, false, not, if◌then◌else◌, Option, Some, None, Result, Ok, Err, refl, sym, ◌∙◌}
use Rattle.std.specs.Option.{is_some, option_map}
use Rattle.hsail_reader.specs.Bytes.{◌>>=◌, or_else}

pub nothing : {A B : Type 0} (x : B) → None ≡ Some x → A
nothing x e = cc

pub same_some : {A : Type 0} (x y : A) → Some x ≡ Some y → x ≡ y
same_some x y e = cc

pub same_ok : {A E : Type 0} (x y : A) → ◌≡◌ {A = Result A E} (Ok x) (Ok y) → x ≡ y
same_ok x y is = cc

pub no_ok : {A B E : Type 0} (e : E) (x : B) → ◌≡◌ {A = Result B E} (Err e) (Ok x) → A
no_ok e x is = cc

pub true_is_not_false : {A : Type 0} (p : Bool) → p ≡ true → p ≡ false → A
true_is_not_false p yes' no' = absurd (contradiction (sym yes' ∙ no'))
  where
    contradiction : true ≡ false → ⊥
    contradiction e = cc

pub not_false : (p : Bool) → not p ≡ true → p ≡ false
not_false true e = sym e
not_false false e = refl

pub mapped : {A B : Type 0} (f : A → B) (o : Option A) (y : B) → option_map f o ≡ Some y →
    (x : A) × (o ≡ Some x) × (Some (f x) ≡ Some y)
mapped f None y e = cc
mapped f (Some x) y e = (x, refl, e)

pub bound : {A B : Type 0} (o : Option A) (f : A → Option B) (y : B) → (o >>= f) ≡ Some y →
    (x : A) × (o ≡ Some x) × (f x ≡ Some y)
bound None f y e = cc
bound (Some x) f y e = (x, refl, e)

pub chosen : {A : Type 0} (b : Bool) (x y z : A) → (if b then x else y) ≡ z →
    ((b ≡ true) × (x ≡ z)) ⊎ ((b ≡ false) × (y ≡ z))
chosen true x y z e = inl (refl, e)
chosen false x y z e = inr (refl, e)

-- the one is found, or the other
pub either : {A : Type 0} (o other : Option A) (x : A) → or_else o other ≡ Some x → (o ≡ Some x) ⊎ (other ≡ Some x)
either None other x is = inr is
either (Some y) other x is = inl is

-- what stands behind a front that is there
pub some_rest : (o : Option (List ℕ)) → is_some o ≡ true → (rest : List ℕ) × (o ≡ Some rest)
some_rest None is = true_is_not_false false is refl
some_rest (Some rest) is = (rest, refl)
