-- A file that is read keeps to the limits.
use Rattle.std.proofs.Common.{◌≡◌, ℕ, if◌then◌else◌, ◌+◌, ◌≤◌, nat_le, length, Bool, true, false, ◌&&◌, ◌==◌, List, [], ◌∷◌, ◌++◌, map, sum_by, ℤ, pos, negsuc, Option, Some, None, Result, Ok, Err, refl, sym, ap, subst, ◌∙◌, arith, length-append}
use Rattle.std.specs.List.{list_all}
use Rattle.std.proofs.lemmas.Bool.{and_from}
use Rattle.std.proofs.lemmas.Bool.Decides.{nat_tests}
use Rattle.std.proofs.lemmas.List.{length-map}
use Rattle.std.proofs.lemmas.List.Folds.{list_all-append, list_all-map}
use Rattle.toml.specs.Data.{Data, integer, Members, get_member, as_table}
use Rattle.aql_packet.specs.declared.memory.TheConstants.{MOST_REGIONS}
use Rattle.policy.specs.declared.limits.TheConstants.{MOST_AGENTS, MOST_ALLOW_ROWS, MOST_CLIENTS, MOST_DENY_ROWS, MOST_KERNELS, MOST_MEMORY_BYTES, MOST_SIGNALS}
use Rattle.policy.specs.declared.fault.RowFault.{RowFault}
use Rattle.policy.specs.declared.fault.PolicyCause.TheVariants.{BadValue, DoubleName, TooMany}
use Rattle.policy.specs.declared.fault.Section.{Section}
use Rattle.policy.specs.declared.fault.Section.TheVariants as section
use Rattle.policy.specs.declared.key.Key.TheVariants as keys
use Rattle.policy.specs.declared.row.Takes.{Takes}
use Rattle.policy.specs.declared.rows.PolicyRows.{PolicyRows}
use Rattle.policy.specs.declared.version.Version.{Version}
use Rattle.policy.specs.Policy.{Name, Source, Declared, names, number_in}
use Rattle.policy.specs.Reading.{◌>>=◌, unless, or_fault, fault_at, fault_of_array, fault_of_lengths}
use Rattle.aql_packet.specs.Memory.{are_region_lengths, is_region_length}
use Rattle.policy.specs.Limits.{IsWithinLimits}
use Rattle.policy.specs.Format.{name_of_key, in_row, of_table, is_table, tables_in, rows_in, items_in, read_each, array_of, right_value, key, a_name, a_length, length_of_number, only, named_row, region_keys, region_length, regions_of, rights_row, policy_rows, no_more_keys, takes, initial_value, kernel_source, client_keys, agent_keys, signal_keys, kernel_keys}
use Rattle.policy.specs.SectionNames.{name_of_section}
use Rattle.policy.proofs.StepLemmas.{then_ok, in_row_ok}

-- what two steps give, each of the two gave
passed : {E : Type 0} (test : Bool) (e : E) (u : Unit {0}) → unless test e ≡ Ok u → test ≡ true
passed true e u h = refl
passed false e u h = cc

of_table_ok : {A : Type 0} (read : Members → Result A RowFault) (o : Option Members) (x : A) → of_table read o ≡ Ok x → (row : Members) × (read row ≡ Ok x)
of_table_ok read None x h = cc
of_table_ok read (Some row) x h = (row, h)

-- ---- arrays

tables_few : (s : Section) (limit : ℕ) (o : Option (List Data)) (ds : List Data) → tables_in s limit o ≡ Ok ds → length ds ≤ limit
tables_few s limit None ds h = cc
tables_few s limit (Some all) ds h =
    let a = then_ok (unless (list_all is_table all) (fault_of_array s BadValue)) (λ _. unless (nat_le (length all) limit) (fault_of_array s TooMany) >>= (λ _. Ok all)) ds h in
    let b = then_ok (unless (nat_le (length all) limit) (fault_of_array s TooMany)) (λ _. Ok all) ds a.2 in
    let e : all ≡ ds = cc in
    let t = passed (nat_le (length all) limit) (fault_of_array s TooMany) b.0 b.1 in
    subst (λ x. length x ≤ limit) e (grind (arith, nat_tests))

rows_few : (s : Section) (limit : ℕ) (o : Option Data) (ds : List Data) → rows_in s limit o ≡ Ok ds → length ds ≤ limit
rows_few s limit None ds h = let e : [] ≡ ds = cc in subst (λ x. length x ≤ limit) e (omega arith)
rows_few s limit (Some d) ds h = tables_few s limit (items_in d) ds h

module _ {R : Type 0} (s : Section) (read : List R → Members → Result R RowFault) where
  length-read_each : (ds : List Data) (before rows : List R) → read_each s read before ds ≡ Ok rows → length rows ≡ length before + length ds
  length-read_each [] before rows h = let e : before ≡ rows = cc in subst (λ x. length x ≡ length before + 0) e (omega arith)
  length-read_each (d ∷ ds) before rows h =
      let p = then_ok (in_row s (length before + 1) (of_table (read before) (as_table d))) (λ row. read_each s read (before ++ row ∷ []) ds) rows h in
      let e = length-read_each ds (before ++ p.0 ∷ []) rows p.2 in
      let l = length-append before (p.0 ∷ []) in
      omega arith

  each_read : (fits : R → Bool) → ((before : List R) (row : Members) (r : R) → read before row ≡ Ok r → fits r ≡ true)
      → (ds : List Data) (before rows : List R) → list_all fits before ≡ true → read_each s read before ds ≡ Ok rows → list_all fits rows ≡ true
  each_read fits each [] before rows all h = let e : before ≡ rows = cc in subst (λ x. list_all fits x ≡ true) e all
  each_read fits each (d ∷ ds) before rows all h =
      let p = then_ok (in_row s (length before + 1) (of_table (read before) (as_table d))) (λ row. read_each s read (before ++ row ∷ []) ds) rows h in
      let q = of_table_ok (read before) (as_table d) p.0 (in_row_ok s (length before + 1) (of_table (read before) (as_table d)) p.0 p.1) in
      each_read fits each ds (before ++ p.0 ∷ []) rows
      (list_all-append fits before (p.0 ∷ []) ∙ and_from (list_all fits before) (fits p.0 && true) all (and_from (fits p.0) true (each before q.0 p.0 q.1) refl))
      p.2

  module _ (limit : ℕ) (file : Members) (rows : List R) (h : array_of s limit read file ≡ Ok rows) where
    -- an array has no more rows than its limit
    pub few_rows : length rows ≤ limit
    few_rows =
        let p = then_ok (rows_in s limit (get_member (name_of_section s) file)) (λ ds. read_each s read [] ds) rows h in
        let l = rows_few s limit (get_member (name_of_section s) file) p.0 p.1 in
        let e = length-read_each p.0 [] rows p.2 in
        omega arith

    each_row : (fits : R → Bool) → ((before : List R) (row : Members) (r : R) → read before row ≡ Ok r → fits r ≡ true) → list_all fits rows ≡ true
    each_row fits each =
        let p = then_ok (rows_in s limit (get_member (name_of_section s) file)) (λ ds. read_each s read [] ds) rows h in
        each_read fits each p.0 [] rows refl p.2

-- ---- regions

if_some : {X : Type 0} (test : Bool) (x y : X) → (if test then Some x else None) ≡ Some y → (x ≡ y) × (test ≡ true)
if_some true x y h = (cc, refl)
if_some false x y h = cc

number_fits : (z : ℤ) (n : ℕ) → length_of_number z ≡ Some n → is_region_length n ≡ true
number_fits (pos m) n h =
    let p = if_some (is_region_length m) m n h in
    subst (λ x. is_region_length x ≡ true) p.0 p.1
number_fits (negsuc m) n h = cc

length_fits : (d : Data) (n : ℕ) → a_length d ≡ Some n → is_region_length n ≡ true
length_fits (integer z) n h = number_fits z n h
length_fits _ n h = cc

or_fault_ok : {A E : Type 0} (e : E) (o : Option A) (x : A) → or_fault e o ≡ Ok x → o ≡ Some x
or_fault_ok e None x h = cc
or_fault_ok e (Some y) x h = cc

value_fits : (o : Option Data) (n : ℕ) → right_value keys.Length a_length o ≡ Ok n → is_region_length n ≡ true
value_fits None n h = cc
value_fits (Some d) n h = length_fits d n (or_fault_ok (fault_at keys.Length BadValue) (a_length d) n h)

row_fits : (u : Result (Unit {0}) RowFault) (name : Name) (size : ℕ) (region : Name × ℕ) → (u >>= (λ _. Ok (name, size))) ≡ Ok region
    → is_region_length size ≡ true → is_region_length region.1 ≡ true
row_fits (Ok x) name size region h fits = let e : (name, size) ≡ region = cc in subst (λ r. is_region_length r.1 ≡ true) e fits
row_fits (Err e) name size region h fits = cc

region_fits : (before : List (Name × ℕ)) (row : Members) (region : Name × ℕ) → named_row region_keys region_length before row ≡ Ok region → is_region_length region.1 ≡ true
region_fits before row region h =
    let a = then_ok (only region_keys row) (λ _. key keys.Name a_name row >>= (λ name. region_length row >>= (λ value. unless (number_in (names before) name == 0) (fault_at keys.Name DoubleName) >>= (λ _. Ok (name, value))))) region h in
    let b = then_ok (key keys.Name a_name row) (λ name. region_length row >>= (λ value. unless (number_in (names before) name == 0) (fault_at keys.Name DoubleName) >>= (λ _. Ok (name, value)))) region a.2 in
    let c = then_ok (region_length row) (λ value. unless (number_in (names before) b.0 == 0) (fault_at keys.Name DoubleName) >>= (λ _. Ok (b.0, value))) region b.2 in
    row_fits (unless (number_in (names before) b.0 == 0) (fault_at keys.Name DoubleName)) b.0 c.0 region c.2 (value_fits (get_member (name_of_key keys.Length) row) c.0 c.1)

-- the regions are few, each of a fitting length, and not too long together
regions_fit : (file : Members) (regions : List (Name × ℕ)) → regions_of file ≡ Ok regions
    → (are_region_lengths (map (λ row. row.1) regions) ≡ true) × (sum_by (λ region. region.1) regions ≤ MOST_MEMORY_BYTES)
regions_fit file regions h =
    let a = then_ok (array_of section.Region MOST_REGIONS (named_row region_keys region_length) file)
    (λ rows. unless (nat_le (sum_by (λ region. region.1) rows) MOST_MEMORY_BYTES) fault_of_lengths >>= (λ _. Ok rows)) regions h in
    let b = then_ok (unless (nat_le (sum_by (λ region. region.1) a.0) MOST_MEMORY_BYTES) fault_of_lengths) (λ _. Ok a.0) regions a.2 in
    let e : a.0 ≡ regions = cc in
    subst (λ rows. (are_region_lengths (map (λ row. row.1) rows) ≡ true) × (sum_by (λ region. region.1) rows ≤ MOST_MEMORY_BYTES)) e (fit a.0 a.1, within a.0 (passed _ _ b.0 b.1))
  where
    within : (rows : List (Name × ℕ)) → nat_le (sum_by (λ region. region.1) rows) MOST_MEMORY_BYTES ≡ true → sum_by (λ region. region.1) rows ≤ MOST_MEMORY_BYTES
    within rows t = grind (arith, nat_tests)

    fit : (rows : List (Name × ℕ)) → array_of section.Region MOST_REGIONS (named_row region_keys region_length) file ≡ Ok rows → are_region_lengths (map (λ row. row.1) rows) ≡ true
    fit rows h =
        let few = few_rows section.Region (named_row region_keys region_length) MOST_REGIONS file rows h in
        let test : nat_le (length rows) MOST_REGIONS ≡ true = grind (arith, nat_tests) in
        and_from (nat_le (length (map (λ row. row.1) rows)) MOST_REGIONS) (list_all is_region_length (map (λ row. row.1) rows))
        (ap (λ n. nat_le n MOST_REGIONS) (length-map rows (λ row. row.1)) ∙ test)
        (list_all-map is_region_length (λ row. row.1) rows ∙ each_row section.Region (named_row region_keys region_length) MOST_REGIONS file rows h (λ row. is_region_length row.1) region_fits)

-- what is declared before the rows on rights keeps to the limits
pub objects_within : (version : Version) (file : Members) (clients : List (Name × Unit {0})) (agents : List (Name × Takes)) (regions : List (Name × ℕ)) (signals : List (Name × ℤ)) (kernels : List (Name × Source))
    → array_of section.Client MOST_CLIENTS (named_row client_keys no_more_keys) file ≡ Ok clients → array_of section.Agent MOST_AGENTS (named_row agent_keys takes) file ≡ Ok agents
    → regions_of file ≡ Ok regions → array_of section.Signal MOST_SIGNALS (named_row signal_keys initial_value) file ≡ Ok signals
    → array_of section.Kernel MOST_KERNELS (named_row kernel_keys kernel_source) file ≡ Ok kernels
    → IsWithinLimits (record { version = version; clients = names clients; agents = agents; regions = regions; signals = signals; kernels = kernels; rows = record { allows = []; denies = [] } })
objects_within version file clients agents regions signals kernels c a r s k =
    let fit = regions_fit file regions r in
    record {
      clients = subst (λ n. n ≤ MOST_CLIENTS) (sym (length-map clients (λ row. row.0))) (few_rows section.Client (named_row client_keys no_more_keys) MOST_CLIENTS file clients c);
      agents = few_rows section.Agent (named_row agent_keys takes) MOST_AGENTS file agents a;
      regions = fit.0;
      memory = fit.1;
      signals = few_rows section.Signal (named_row signal_keys initial_value) MOST_SIGNALS file signals s;
      kernels = few_rows section.Kernel (named_row kernel_keys kernel_source) MOST_KERNELS file kernels k;
      allows = omega arith;
      denies = omega arith;
    }

-- the rows on rights are few
pub few_rights_rows : (declared : Declared) (file : Members) (rows : PolicyRows) → policy_rows declared file ≡ Ok rows → (length rows.allows ≤ MOST_ALLOW_ROWS) × (length rows.denies ≤ MOST_DENY_ROWS)
few_rights_rows declared file rows h =
    let a = then_ok (array_of section.Allow MOST_ALLOW_ROWS (λ _ row. rights_row declared row) file) _ rows h in
    let b = then_ok (array_of section.Deny MOST_DENY_ROWS (λ _ row. rights_row declared row) file) _ rows a.2 in
    let e : record { allows = a.0; denies = b.0 } ≡ rows = cc in
    subst (λ (r : PolicyRows). (length r.allows ≤ MOST_ALLOW_ROWS) × (length r.denies ≤ MOST_DENY_ROWS)) e
    (few_rows section.Allow (λ _ row. rights_row declared row) MOST_ALLOW_ROWS file a.0 a.1, few_rows section.Deny (λ _ row. rights_row declared row) MOST_DENY_ROWS file b.0 b.1)
