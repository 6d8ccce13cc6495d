-- Arrays of rows, one row more.
use Rattle.std.proofs.Common.{◌≡◌, ℕ, ◌+◌, ◌<◌, List, [], ◌∷◌, ◌++◌, length, get_or, drop, map, Result, Ok, Err, refl, sym, ap, subst, ◌∙◌, arith, add-one, drop-cons, length-append}
use Rattle.toml.specs.Data.{Members, as_table}
use Rattle.toml.specs.View.{view}
use Rattle.toml.specs.declared.value.Value.{Value}
use Rattle.policy.specs.declared.fault.RowFault.{RowFault}
use Rattle.policy.specs.declared.fault.PolicyFault.{PolicyFault}
use Rattle.policy.specs.declared.fault.RowError.{RowError}
use Rattle.policy.specs.declared.fault.RowError.TheVariants as error
use Rattle.policy.specs.declared.fault.Section.{Section}
use Rattle.policy.specs.Reading.{placed, RowGives}
use Rattle.policy.specs.Format.{of_table, read_each}

-- a row that was read in its place
pub placed_ok : {A B : Type 0} (s : Section) (n : ℕ) (r : Result A RowError) (x : A) (f : A → B) (reading : Result B RowFault)
    → Ok x ≡ placed s n r → RowGives f r reading → reading ≡ Ok (f x)
placed_ok s n (Ok y) x f reading e g = let same : y ≡ x = cc in subst (λ v. reading ≡ Ok (f v)) same g
placed_ok s n (Err error.OutOfMemory) x f reading e g = cc
placed_ok s n (Err (error.Fault fault)) x f reading e g = cc

-- the rows that are left behind it
pub read_more : {R : Type 0} (s : Section) (read : List R → Members → Result R RowFault) (rows : List Value) (v : Value) (i : ℕ) (before after : List R) (row : R)
    (all : Result (List R) PolicyFault) → i < length rows → v ≡ get_or rows i v → length before ≡ i → of_table (read before) (as_table (view v)) ≡ Ok row
    → after ≡ before ++ row ∷ [] → read_each s read before (map view (drop i rows)) ≡ all
    → read_each s read after (map view (drop (i + 1) rows)) ≡ all
read_more s read rows v i before after row all h at n reads e so =
    let split : drop i rows ≡ get_or rows i v ∷ drop (i + 1) rows = rw (add-one, drop-cons rows i v) refl in
    let here : read_each s read before (view v ∷ map view (drop (i + 1) rows)) ≡ all =
    subst (λ x. read_each s read before (view x ∷ map view (drop (i + 1) rows)) ≡ all) (sym at) (rw split at so) in
    let step : read_each s read (before ++ row ∷ []) (map view (drop (i + 1) rows)) ≡ all = rw reads at here in
    subst (λ rows'. read_each s read rows' (map view (drop (i + 1) rows)) ≡ all) (sym e) step

pub length_more : {R : Type 0} (before after : List R) (row : R) (i : ℕ) → length before ≡ i → after ≡ before ++ row ∷ [] → length after ≡ i + 1
length_more before after row i n e = ap length e ∙ length-append before (row ∷ []) ∙ omega arith
