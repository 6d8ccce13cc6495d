-- The value of a signal by its index, which is its number less one, and lists of values that are the same.
use Rattle.std.proofs.Common.{◌≡◌, ℕ, ◌-◌, ◌<◌, ◌≤◌, List, Bool, length, get_or, false, true, Some, None, is_some, refl, subst, inl, inr}
use Rattle.std.specs.Prelude.{ℤ, slice_set, nat_lt}
use Rattle.std.specs.Bool.{Decides}
use Rattle.std.specs.Cmp.Lexicographic.{pointwise}
use Rattle.std.specs.Ordering.{int_eq}
use Rattle.std.proofs.lemmas.Bool.{cases_lt, lt-ltb, le-ltb}
use Rattle.std.proofs.lemmas.Bool.Decides.{Decides-int_eq}
use Rattle.std.proofs.lemmas.Slice.Eq.{slice_eq-Decides}
use Rattle.std.proofs.lemmas.Option.{slice_get-get_or, slice_get_past}
use Rattle.signals.specs.declared.operation.SignalOp.{SignalOp}
use Rattle.signals.specs.Values.{after, applied, value_of}

module _ (values : List ℤ) (number : ℕ) (there : is_some (value_of values number) ≡ true) where
  -- a signal that is there has an index
  pub index_of : (1 ≤ number) × (number - 1 < length values)
  unfolding value_of
  index_of = elim (cases_lt 0 number) [
    | inl above ↦ elim (cases_lt (number - 1) (length values)) [
      | inl within ↦ (above, within)
      | inr past ↦ absurd (let test : nat_lt 0 number ≡ true = lt-ltb 0 number above in let none : value_of values number ≡ None = rw test (slice_get_past values (number - 1) past) in cc)
    ]
    | inr below ↦ absurd (let test : nat_lt 0 number ≡ false = le-ltb 0 number below in let none : value_of values number ≡ None = rw test refl in cc)
  ]

  -- and its change is one of the value at that index
  pub changed_at : (other : ℤ) (operation : SignalOp) → slice_set values (number - 1) (applied operation (get_or values (number - 1) other)) ≡ after values number operation
  unfolding value_of after
  changed_at other operation =
      let test : nat_lt 0 number ≡ true = lt-ltb 0 number index_of.0 in
      let found : value_of values number ≡ Some (get_or values (number - 1) other) = rw test (slice_get-get_or values (number - 1) other index_of.1) in
      rw found refl

-- where there is no signal all values stay
pub unchanged : (values : List ℤ) (number : ℕ) (operation : SignalOp) → value_of values number ≡ None → values ≡ after values number operation
unfolding after
unchanged values number operation none = rw none refl

-- values that are compared one by one are the same where each is
pub same_values : (shown others values other : List ℤ) (r : Bool) → r ≡ pointwise int_eq shown others → shown ≡ values → others ≡ other → Decides r (values ≡ other)
same_values shown others values other r is one two =
    subst (λ x. Decides r (x ≡ other)) one (subst (λ x. Decides r (shown ≡ x)) two (slice_eq-Decides Decides-int_eq shown others r is))
