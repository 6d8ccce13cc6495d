-- The fault of a reading is that of the first of its checks that fails.
use Rattle.std.proofs.Common.{◌≡◌, ℕ, ◌+◌, nat_le, ◌==◌, length, Bool, true, false, List, [], ◌∷◌, ◌++◌, map, Option, Some, None, option_map, option_and_then, Result, Ok, Err, refl, sym, ap, ◌∙◌}
use Rattle.std.specs.List.{list_all}
use Rattle.std.specs.Option.{option_or}
use Rattle.std.specs.Result.{result_err}
use Rattle.toml.specs.Data.{Data, Members, get_member, as_table}
use Rattle.policy.specs.declared.fault.RowFault.{RowFault}
use Rattle.policy.specs.declared.fault.PolicyCause.TheVariants.{BadValue, DoubleName, TooMany}
use Rattle.policy.specs.declared.fault.PolicyFault.{PolicyFault}
use Rattle.policy.specs.declared.fault.Section.{Section}
use Rattle.policy.specs.SectionNames.{name_of_section}
use Rattle.policy.specs.declared.key.Key.{Key}
use Rattle.policy.specs.declared.key.Key.TheVariants as keys
use Rattle.policy.specs.Names.{Name, names, number_in}
use Rattle.policy.specs.Reading.{◌>>=◌, unless, or_fault, fault_at, fault_of_array, fault_in}
use Rattle.policy.specs.Format.{name_of_key, a_name, in_row, of_table, is_table, tables_in, rows_in, items_in, read_each, array_of, right_value, key, only, named_row}
use Rattle.policy.specs.Checks.{first_of, says, row_name, double_name, named_checks, row_checks, rows_checks, tables_checks, member_checks, array_checks}
use Rattle.policy.proofs.StepLemmas.{in_row_ok}

-- ---- first faults

first-append : {E : Type 0} (xs ys : List (Option E)) → first_of (xs ++ ys) ≡ option_or (first_of xs) (first_of ys)
first-append [] ys = refl
first-append (None ∷ xs) ys = first-append xs ys
first-append (Some e ∷ xs) ys = refl

first-map : {A B : Type 0} (f : A → B) (xs : List (Option A)) → first_of (map (option_map f) xs) ≡ option_map f (first_of xs)
first-map f [] = refl
first-map f (None ∷ xs) = first-map f xs
first-map f (Some e ∷ xs) = refl

-- one step after another has the checks of the one and then of the other
pub step_after : {A B E : Type 0} (r : Result A E) (f : A → Result B E) (xs ys : List (Option E))
    → result_err r ≡ first_of xs → ((x : A) → r ≡ Ok x → result_err (f x) ≡ first_of ys) → result_err (r >>= f) ≡ first_of (xs ++ ys)
step_after (Ok x) f xs ys h later = later x refl ∙ sym (first-append xs ys ∙ ap (λ o. option_or o (first_of ys)) (sym h))
step_after (Err e) f xs ys h later = sym (first-append xs ys ∙ ap (λ o. option_or o (first_of ys)) (sym h))

-- the same after one check
pub check_after : {A B E : Type 0} (r : Result A E) (f : A → Result B E) (ys : List (Option E))
    → ((x : A) → r ≡ Ok x → result_err (f x) ≡ first_of ys) → result_err (r >>= f) ≡ first_of (result_err r ∷ ys)
check_after (Ok x) f ys later = later x refl
check_after (Err e) f ys later = refl

-- and where it is the last
pub check_last : {A B E : Type 0} (r : Result A E) (f : A → B) → result_err (r >>= (λ x. Ok (f x))) ≡ first_of (result_err r ∷ [])
check_last (Ok x) f = refl
check_last (Err e) f = refl

pub check_alone : {A E : Type 0} (r : Result A E) → result_err r ≡ first_of (result_err r ∷ [])
check_alone (Ok x) = refl
check_alone (Err e) = refl

-- what a key gives, the row says
pub key_says : {X : Type 0} (of : Key) (read : Data → Option X) (row : Members) (x : X) → key of read row ≡ Ok x → says of read row ≡ Some x
key_says {X} of read row x h = at (get_member (name_of_key of) row) h
  where
    given : (o : Option X) → or_fault (fault_at of BadValue) o ≡ Ok x → o ≡ Some x
    given None e = cc
    given (Some y) e = cc

    at : (o : Option Data) → right_value of read o ≡ Ok x → option_and_then read o ≡ Some x
    at None e = cc
    at (Some d) e = given (read d) e

-- ---- rows

-- a row with a name, below rows of these names
pub named_agrees : {V : Type 0} (known : List Key) (rest : Members → Result V RowFault) (checks : Members → List (Option RowFault))
    → ((row : Members) → result_err (rest row) ≡ first_of (checks row))
    → (before : List (Name × V)) (above : List Name) → names before ≡ above → (row : Members)
    → result_err (named_row known rest before row) ≡ first_of (named_checks known checks above row)
named_agrees {V} known rest checks agrees before above same row =
    check_after (only known row) _ _ (λ u e. check_after (key keys.Name a_name row) _ _ (λ name k.
    step_after (rest row) _ (checks row) (double_name above (row_name row) ∷ []) (agrees row) (λ value v. last name value (key_says keys.Name a_name row name k))))
  where
    last : (name : Name) (value : V) → row_name row ≡ Some name
        → result_err {T = Name × V} (unless (number_in (names before) name == 0) (fault_at keys.Name DoubleName) >>= (λ _. Ok (name, value))) ≡ first_of (double_name above (row_name row) ∷ [])
    last name value says_so = rw (says_so, same) (check_last (unless (number_in above name == 0) (fault_at keys.Name DoubleName)) (λ _. (name, value)))

-- ---- arrays

in_row_fault : {A : Type 0} (s : Section) (n : ℕ) (r : Result A RowFault) → result_err (in_row s n r) ≡ option_map (fault_in s n) (result_err r)
in_row_fault s n (Ok x) = refl
in_row_fault s n (Err fault) = refl

table_agrees : {R : Type 0} (read : Members → Result R RowFault) (checks : Members → List (Option RowFault)) → ((row : Members) → result_err (read row) ≡ first_of (checks row))
    → (o : Option Members) → result_err (of_table read o) ≡ first_of (row_checks checks o)
table_agrees read checks agrees None = refl
table_agrees read checks agrees (Some row) = agrees row

-- rows read in order, and what ties those that were read to those above
module _ {R : Type 0} (s : Section) (read : List R → Members → Result R RowFault) (checks : List Data → Members → List (Option RowFault)) (Fits : List R → List Data → Type 0)
    (long : (before : List R) (above : List Data) → Fits before above → length before ≡ length above)
    (more : (before : List R) (above : List Data) (d : Data) (r : R) → Fits before above → of_table (read before) (as_table d) ≡ Ok r → Fits (before ++ r ∷ []) (above ++ d ∷ []))
    (agrees : (before : List R) (above : List Data) → Fits before above → (row : Members) → result_err (read before row) ≡ first_of (checks above row)) where
  row_agrees : (before : List R) (above : List Data) → Fits before above → (o : Option Members)
      → result_err (in_row s (length before + 1) (of_table (read before) o)) ≡ first_of (map (option_map (fault_in s (length above + 1))) (row_checks (checks above) o))
  row_agrees before above fits o =
      rw (long before above fits) (in_row_fault s (length above + 1) (of_table (read before) o)
      ∙ ap (option_map (fault_in s (length above + 1))) (table_agrees (read before) (checks above) (agrees before above fits) o)
      ∙ sym (first-map (fault_in s (length above + 1)) (row_checks (checks above) o)))

  pub each_agrees : (ds : List Data) (before : List R) (above : List Data) → Fits before above
      → result_err (read_each s read before ds) ≡ first_of (rows_checks s checks above ds)
  each_agrees [] before above fits = refl
  each_agrees (d ∷ ds) before above fits =
      step_after (in_row s (length before + 1) (of_table (read before) (as_table d))) _ (map (option_map (fault_in s (length above + 1))) (row_checks (checks above) (as_table d))) (rows_checks s checks (above ++ d ∷ []) ds)
      (row_agrees before above fits (as_table d))
      (λ r h. each_agrees ds (before ++ r ∷ []) (above ++ d ∷ []) (more before above d r fits (in_row_ok s (length before + 1) (of_table (read before) (as_table d)) r h)))

  two_tests : (limit : ℕ) (ds : List Data) (f : List Data → Result (List R) PolicyFault) (later : List (Option PolicyFault)) (t u : Bool) → result_err (f ds) ≡ first_of later
      → result_err ((unless t (fault_of_array s BadValue) >>= (λ _. unless u (fault_of_array s TooMany) >>= (λ _. Ok ds))) >>= f)
      ≡ first_of (result_err (unless t (fault_of_array s BadValue)) ∷ result_err (unless u (fault_of_array s TooMany)) ∷ later)
  two_tests limit ds f later true true h = h
  two_tests limit ds f later true false h = refl
  two_tests limit ds f later false u h = refl

  pub array_agrees : Fits [] [] → (limit : ℕ) (file : Members) → result_err (array_of s limit read file) ≡ first_of (array_checks s limit checks file)
  array_agrees fits limit file = at (get_member (name_of_section s) file)
    where
      of_items : (o : Option (List Data)) → result_err (tables_in s limit o >>= read_each s read []) ≡ first_of (tables_checks s limit checks o)
      of_items None = refl
      of_items (Some ds) = two_tests limit ds (read_each s read []) (rows_checks s checks [] ds) (list_all is_table ds) (nat_le (length ds) limit) (each_agrees ds [] [] fits)

      at : (o : Option Data) → result_err (rows_in s limit o >>= read_each s read []) ≡ first_of (member_checks s limit checks o)
      at None = refl
      at (Some d) = of_items (items_in d)
