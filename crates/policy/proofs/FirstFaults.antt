-- The fault of a file is that of the first of its checks that fails.
use Rattle.std.proofs.Common.{◌≡◌, ℕ, ◌+◌, nat_le, ◌==◌, length, Bool, true, false, List, [], ◌∷◌, ◌++◌, map, sum, sum_by, ℤ, Option, Some, None, option_and_then, Result, Ok, Err, refl, sym, ap, subst, ◌∙◌, length-append}
use Rattle.std.specs.List.{list_all, cons_option}
use Rattle.std.specs.Result.{result_err}
use Rattle.std.proofs.lemmas.List.{map-append, append_assoc}
use Rattle.std.proofs.lemmas.List.Elements.{filter_map-append}
use Rattle.std.proofs.lemmas.List.Sums.{sum-map}
use Rattle.toml.specs.Data.{Data, Members, get_member, as_table}
use Rattle.aql_packet.specs.declared.memory.TheConstants.{MOST_REGIONS}
use Rattle.policy.specs.declared.limits.TheConstants.{MOST_AGENTS, MOST_ALLOW_ROWS, MOST_CLIENTS, MOST_DENY_ROWS, MOST_KERNELS, MOST_MEMORY_BYTES, MOST_SIGNALS}
use Rattle.policy.specs.declared.fault.RowFault.{RowFault}
use Rattle.policy.specs.declared.fault.PolicyCause.TheVariants.{BadValue, DoubleName, UnknownName, TooMany}
use Rattle.policy.specs.declared.fault.Section.{Section}
use Rattle.policy.specs.declared.fault.Section.TheVariants as section
use Rattle.policy.specs.declared.key.Key.{Key}
use Rattle.policy.specs.declared.key.Key.TheVariants as keys
use Rattle.policy.specs.declared.object.Kind.{Kind}
use Rattle.policy.specs.declared.object.Kind.TheVariants as kind
use Rattle.policy.specs.declared.row.RightsRow.{RightsRow}
use Rattle.policy.specs.declared.row.Takes.{Takes}
use Rattle.policy.specs.declared.version.Version.{Version}
use Rattle.policy.specs.SectionNames.{name_of_section}
use Rattle.policy.specs.Names.{Name, names, number_in}
use Rattle.policy.specs.Policy.{Declared, Source, names_of}
use Rattle.policy.specs.Reading.{◌>>=◌, unless, or_fault, fault_at, fault_of_array, fault_of_lengths, fault_of_file, fault_of_version}
use Rattle.policy.specs.Format.{a_name, a_length, a_choice, a_kind, some_rights, an_entry, a_text, in_row, of_table, is_table, tables_in, rows_in, items_in, keys_in, read_each, array_of, key, only, named_row, rights_row, no_more_keys, takes, region_length, initial_value, kernel_source, subject_of, target_of, client_keys, agent_keys, region_keys, signal_keys, kernel_keys, rights_keys, is_part_of, name_of_key, version_of, file_head, regions_of, objects_of, policy_rows, declared_by}
use Rattle.policy.specs.Checks.{first_of, said_by, says, row_name, row_length, rows_of, rows_at, names_at, section_of, named_checks, client_rest, agent_rest, region_rest, signal_rest, kernel_rest, rights_checks, rights_check, client_check, object_check, array_checks, named_array_checks, sum_check, keys_check, head_checks, object_checks, policy_rows_checks, file_checks}
use Rattle.policy.proofs.StepLemmas.{then_ok, in_row_ok}
use Rattle.policy.proofs.CheckLemmas.{step_after, check_after, check_last, check_alone, key_says, named_agrees, array_agrees}

-- what two steps give, each of the two gave
-- ---- what rows say

said_by-append : {X : Type 0} (f : Members → Option X) (ds es : List Data) → said_by f (ds ++ es) ≡ said_by f ds ++ said_by f es
said_by-append f ds es = filter_map-append (λ d. option_and_then f (as_table d)) ds es

-- a row that was read says what was read
table_says : {R X : Type 0} (read : Members → Result R RowFault) (g : R → X) (f : Members → Option X) → ((row : Members) (r : R) → read row ≡ Ok r → f row ≡ Some (g r))
    → (o : Option Members) (r : R) → of_table read o ≡ Ok r → option_and_then f o ≡ Some (g r)
table_says read g f each None r h = cc
table_says read g f each (Some row) r h = each row r h

-- rows that were read, by what they say
module _ {R X : Type 0} (s : Section) (read : List R → Members → Result R RowFault) (g : R → X) (f : Members → Option X)
    (each : (before : List R) (row : Members) (r : R) → read before row ≡ Ok r → f row ≡ Some (g r)) where
  said_more : (before : List R) (above : List Data) (d : Data) (r : R) → map g before ≡ said_by f above → of_table (read before) (as_table d) ≡ Ok r
      → map g (before ++ r ∷ []) ≡ said_by f (above ++ d ∷ [])
  said_more before above d r same h =
      map-append g before (r ∷ []) ∙ ap (λ xs. xs ++ g r ∷ []) same
      ∙ sym (said_by-append f above (d ∷ []) ∙ ap (λ o. said_by f above ++ cons_option o []) (table_says (read before) g f (each before) (as_table d) r h))

  read_says : (ds : List Data) (before rows : List R) → read_each s read before ds ≡ Ok rows → map g rows ≡ map g before ++ said_by f ds
  read_says [] before rows h = let e : before ≡ rows = cc in subst (λ x. map g x ≡ map g before ++ []) e (sym (append-nil (map g before)))
    where
      append-nil : (xs : List X) → xs ++ [] ≡ xs
      append-nil [] = refl
      append-nil (x ∷ xs) = ap (λ ys. x ∷ ys) (append-nil xs)
  read_says (d ∷ ds) before rows h =
      let p = then_ok (in_row s (length before + 1) (of_table (read before) (as_table d))) (λ row. read_each s read (before ++ row ∷ []) ds) rows h in
      let q = in_row_ok s (length before + 1) (of_table (read before) (as_table d)) p.0 p.1 in
      read_says ds (before ++ p.0 ∷ []) rows p.2
      ∙ ap (λ xs. xs ++ said_by f ds) (map-append g before (p.0 ∷ []))
      ∙ append_assoc (map g before) (g p.0 ∷ []) (said_by f ds)
      ∙ ap (λ o. map g before ++ cons_option o (said_by f ds)) (sym (table_says (read before) g f (each before) (as_table d) p.0 q))

  array_says : (limit : ℕ) (file : Members) (rows : List R) → array_of s limit read file ≡ Ok rows → map g rows ≡ said_by f (rows_at s file)
  array_says limit file rows h = at (get_member (name_of_section s) file) h
    where
      two_passed : (ds : List Data) (t u : Bool) → ((unless t (fault_of_array s BadValue) >>= (λ _. unless u (fault_of_array s TooMany) >>= (λ _. Ok ds))) >>= read_each s read []) ≡ Ok rows → read_each s read [] ds ≡ Ok rows
      two_passed ds true true e = e
      two_passed ds true false e = cc
      two_passed ds false u e = cc

      of_items : (o : Option (List Data)) → (tables_in s limit o >>= read_each s read []) ≡ Ok rows → map g rows ≡ said_by f (rows_of o)
      of_items None e = cc
      of_items (Some ds) e = read_says ds [] rows (two_passed ds (list_all is_table ds) (nat_le (length ds) limit) e)

      at : (o : Option Data) → (rows_in s limit o >>= read_each s read []) ≡ Ok rows → map g rows ≡ said_by f (rows_of (option_and_then items_in o))
      at None e = let none : [] ≡ rows = cc in subst (λ x. map g x ≡ []) none refl
      at (Some d) e = of_items (items_in d) e

-- ---- arrays of rows with names

module _ {V : Type 0} (known : List Key) (rest : Members → Result V RowFault) where
  -- the name and the rest of a row that was read
  named_parts : (before : List (Name × V)) (row : Members) (r : Name × V) → named_row known rest before row ≡ Ok r → (row_name row ≡ Some r.0) × (rest row ≡ Ok r.1)
  named_parts before row r h =
      let a = then_ok (only known row) (λ _. key keys.Name a_name row >>= (λ name. rest row >>= (λ value. unless (number_in (names before) name == 0) (fault_at keys.Name DoubleName) >>= (λ _. Ok (name, value))))) r h in
      let b = then_ok (key keys.Name a_name row) (λ name. rest row >>= (λ value. unless (number_in (names before) name == 0) (fault_at keys.Name DoubleName) >>= (λ _. Ok (name, value)))) r a.2 in
      let c = then_ok (rest row) (λ value. unless (number_in (names before) b.0 == 0) (fault_at keys.Name DoubleName) >>= (λ _. Ok (b.0, value))) r b.2 in
      let d = then_ok (unless (number_in (names before) b.0 == 0) (fault_at keys.Name DoubleName)) (λ _. Ok (b.0, c.0)) r c.2 in
      let e : (b.0, c.0) ≡ r = cc in
      subst (λ x. (row_name row ≡ Some x.0) × (rest row ≡ Ok x.1)) {x = (b.0, c.0)} e (key_says keys.Name a_name row b.0 b.1, c.1)

  module _ (s : Section) (limit : ℕ) (file : Members) where
    -- the names of an array that was read
    named_says : (rows : List (Name × V)) → array_of s limit (named_row known rest) file ≡ Ok rows → names rows ≡ names_at s file
    named_says rows h = array_says s (named_row known rest) (λ row. row.0) row_name (λ before row r e. (named_parts before row r e).0) limit file rows h

    named_array : (checks : Members → List (Option RowFault)) → ((row : Members) → result_err (rest row) ≡ first_of (checks row))
        → result_err (array_of s limit (named_row known rest) file) ≡ first_of (named_array_checks s limit known checks file)
    named_array checks agrees =
        array_agrees s (named_row known rest) (λ above. named_checks known checks (said_by row_name above))
        (λ before above. (names before ≡ said_by row_name above) × (length before ≡ length above))
        (λ before above fits. fits.1)
        (λ before above d r fits h. (
          said_more s (named_row known rest) (λ row. row.0) row_name (λ b row x e. (named_parts b row x e).0) before above d r fits.0 h,
          length-append before (r ∷ []) ∙ ap (λ n. n + 1) fits.1 ∙ sym (length-append above (d ∷ [])),
        ))
        (λ before above fits row. named_agrees known rest checks agrees before (said_by row_name above) fits.0 row)
        (refl, refl) limit file

kernel_agrees : (row : Members) → result_err (kernel_source row) ≡ first_of (kernel_rest row)
kernel_agrees row = check_after (key keys.Entry an_entry row) _ _ (λ entry e. check_last (key keys.Text a_text row) _)

-- ---- regions

regions_agree : (file : Members) → result_err (regions_of file) ≡ first_of (named_array_checks section.Region MOST_REGIONS region_keys region_rest file ++ sum_check file ∷ [])
regions_agree file =
    step_after (array_of section.Region MOST_REGIONS (named_row region_keys region_length) file) _ (named_array_checks section.Region MOST_REGIONS region_keys region_rest file) (sum_check file ∷ [])
    (named_array region_keys region_length section.Region MOST_REGIONS file region_rest (λ row. check_alone (region_length row)))
    (λ rows h. total rows h)
  where
    sizes : (rows : List (Name × ℕ)) → array_of section.Region MOST_REGIONS (named_row region_keys region_length) file ≡ Ok rows
        → sum_by (λ region. region.1) rows ≡ sum (said_by row_length (rows_at section.Region file))
    sizes rows h =
        sym (sum-map (λ region. region.1) rows)
        ∙ ap sum (array_says section.Region (named_row region_keys region_length) (λ row. row.1) row_length
        (λ before row r e. key_says keys.Length a_length row r.1 (named_parts region_keys region_length before row r e).1) MOST_REGIONS file rows h)

    total : (rows : List (Name × ℕ)) → array_of section.Region MOST_REGIONS (named_row region_keys region_length) file ≡ Ok rows
        → result_err (unless (nat_le (sum_by (λ region. region.1) rows) MOST_MEMORY_BYTES) fault_of_lengths >>= (λ _. Ok rows)) ≡ first_of (sum_check file ∷ [])
    total rows h = rw (sizes rows h) (check_last (unless (nat_le (sum (said_by row_length (rows_at section.Region file))) MOST_MEMORY_BYTES) fault_of_lengths) (λ _. rows))

-- ---- rows on rights

rights_agree : (declared : Declared) (clients : List Name) (objects : Kind → List Name) → declared.clients ≡ clients → ((on : Kind) → names_of declared on ≡ objects on)
    → (row : Members) → result_err (rights_row declared row) ≡ first_of (rights_checks clients objects row)
rights_agree declared clients objects same_clients same_objects row =
    check_after (only rights_keys row) _ _ (λ u e.
    check_after (key keys.Client a_choice row) _ _ (λ client c.
    check_after (key keys.Kind a_kind row) _ _ (λ on k.
    check_after (key keys.Object a_choice row) _ _ (λ object o.
    rest client on object (key_says keys.Client a_choice row client c) (key_says keys.Kind a_kind row on k) (key_says keys.Object a_choice row object o)))))
  where
    rest : (client : Option Name) (on : Kind) (object : Option Name) → says keys.Client a_choice row ≡ Some client → says keys.Kind a_kind row ≡ Some on → says keys.Object a_choice row ≡ Some object
        → result_err {T = RightsRow} (key keys.Rights (some_rights on) row >>= (λ rights. or_fault (fault_at keys.Client UnknownName) (subject_of declared.clients client) >>= (λ subject. or_fault (fault_at keys.Object UnknownName) (target_of on (names_of declared on) object) >>= (λ target. Ok (record { subject = subject; target = target; rights = rights })))))
        ≡ first_of (rights_check (says keys.Kind a_kind row) row ∷ client_check clients (says keys.Client a_choice row) ∷ object_check objects (says keys.Kind a_kind row) (says keys.Object a_choice row) ∷ [])
    rest client on object c k o =
        rw (c, k, o, ← same_clients, ← same_objects on)
        (check_after (key keys.Rights (some_rights on) row) _ _ (λ rights r.
        check_after (or_fault (fault_at keys.Client UnknownName) (subject_of declared.clients client)) _ _ (λ subject s.
        check_last (or_fault (fault_at keys.Object UnknownName) (target_of on (names_of declared on) object)) _)))

last_step : {A B E : Type 0} (r : Result A E) (f : A → B) (xs : List (Option E)) → result_err r ≡ first_of xs → result_err (r >>= (λ x. Ok (f x))) ≡ first_of xs
last_step (Ok x) f xs h = h
last_step (Err e) f xs h = h

module _ (declared : Declared) (file : Members) (clients : declared.clients ≡ names_at section.Client file) (objects : (on : Kind) → names_of declared on ≡ names_at (section_of on) file) where
  array_of_rights : (s : Section) (limit : ℕ) → result_err (array_of s limit (λ _ row. rights_row declared row) file) ≡ first_of (array_checks s limit (λ above. rights_checks (names_at section.Client file) (λ on. names_at (section_of on) file)) file)
  array_of_rights s limit =
      array_agrees s (λ _ row. rights_row declared row) (λ above. rights_checks (names_at section.Client file) (λ on. names_at (section_of on) file))
      (λ before above. length before ≡ length above)
      (λ before above fits. fits)
      (λ before above d r fits h. length-append before (r ∷ []) ∙ ap (λ n. n + 1) fits ∙ sym (length-append above (d ∷ [])))
      (λ before above fits row. rights_agree declared (names_at section.Client file) (λ on. names_at (section_of on) file) clients objects row)
      refl limit file

  rows_agree : result_err (policy_rows declared file) ≡ first_of (policy_rows_checks file)
  rows_agree =
      step_after (array_of section.Allow MOST_ALLOW_ROWS (λ _ row. rights_row declared row) file) _ (array_checks section.Allow MOST_ALLOW_ROWS (λ above. rights_checks (names_at section.Client file) (λ on. names_at (section_of on) file)) file) _
      (array_of_rights section.Allow MOST_ALLOW_ROWS) (λ allows a.
      last_step (array_of section.Deny MOST_DENY_ROWS (λ _ row. rights_row declared row) file) _ (array_checks section.Deny MOST_DENY_ROWS (λ above. rights_checks (names_at section.Client file) (λ on. names_at (section_of on) file)) file)
      (array_of_rights section.Deny MOST_DENY_ROWS))

-- ---- the file

head_agrees : (file : Members) → result_err (file_head file) ≡ first_of (head_checks file)
head_agrees file = at (version_of (get_member (name_of_key keys.Version) file))
  where
    at : (o : Option Version)
        → result_err (or_fault fault_of_version o >>= (λ version. unless (list_all (is_part_of version) (keys_in file)) (fault_of_file BadValue) >>= (λ _. Ok version)))
        ≡ first_of (result_err (or_fault fault_of_version o) ∷ keys_check o file ∷ [])
    at None = refl
    at (Some version) = check_last (unless (list_all (is_part_of version) (keys_in file)) (fault_of_file BadValue)) (λ _. version)

no_rest : (row : Members) → result_err (no_more_keys row) ≡ first_of (client_rest row)
no_rest row = refl

objects_agree : (version : Version) (file : Members) → result_err (objects_of version file) ≡ first_of (object_checks file)
objects_agree version file =
    step_after (array_of section.Client MOST_CLIENTS (named_row client_keys no_more_keys) file) _ (named_array_checks section.Client MOST_CLIENTS client_keys client_rest file) _
    (named_array client_keys no_more_keys section.Client MOST_CLIENTS file client_rest no_rest) (λ clients c.
    step_after (array_of section.Agent MOST_AGENTS (named_row agent_keys takes) file) _ (named_array_checks section.Agent MOST_AGENTS agent_keys agent_rest file) _
    (named_array agent_keys takes section.Agent MOST_AGENTS file agent_rest (λ row. check_alone (takes row))) (λ agents a.
    step_after (regions_of file) _ (named_array_checks section.Region MOST_REGIONS region_keys region_rest file ++ sum_check file ∷ []) _ (regions_agree file) (λ regions r.
    step_after (array_of section.Signal MOST_SIGNALS (named_row signal_keys initial_value) file) _ (named_array_checks section.Signal MOST_SIGNALS signal_keys signal_rest file) _
    (named_array signal_keys initial_value section.Signal MOST_SIGNALS file signal_rest (λ row. check_alone (initial_value row))) (λ signals s.
    last_step (array_of section.Kernel MOST_KERNELS (named_row kernel_keys kernel_source) file) _ (named_array_checks section.Kernel MOST_KERNELS kernel_keys kernel_rest file)
    (named_array kernel_keys kernel_source section.Kernel MOST_KERNELS file kernel_rest kernel_agrees)))))

-- what is declared before the rows on rights has the names that the rows say
module _ (version : Version) (file : Members) (declared : Declared) (h : objects_of version file ≡ Ok declared) where
  abbrev SaysNames : Declared → Type 0
  SaysNames d = (d.clients ≡ names_at section.Client file) × ((on : Kind) → names_of d on ≡ names_at (section_of on) file)

  objects_say : SaysNames declared
  objects_say =
      let a = then_ok (array_of section.Client MOST_CLIENTS (named_row client_keys no_more_keys) file) _ declared h in
      let b = then_ok (array_of section.Agent MOST_AGENTS (named_row agent_keys takes) file) _ declared a.2 in
      let c = then_ok (regions_of file) _ declared b.2 in
      let d = then_ok (array_of section.Signal MOST_SIGNALS (named_row signal_keys initial_value) file) _ declared c.2 in
      let e = then_ok (array_of section.Kernel MOST_KERNELS (named_row kernel_keys kernel_source) file) _ declared d.2 in
      let r = then_ok (array_of section.Region MOST_REGIONS (named_row region_keys region_length) file) _ c.0 c.1 in
      let u = then_ok (unless (nat_le (sum_by (λ region. region.1) r.0) MOST_MEMORY_BYTES) fault_of_lengths) _ c.0 r.2 in
      let same : r.0 ≡ c.0 = cc in
      let whole : record { version = version; clients = names a.0; agents = b.0; regions = c.0; signals = d.0; kernels = e.0; rows = record { allows = []; denies = [] } } ≡ declared = cc in
      subst SaysNames whole (
        named_says client_keys no_more_keys section.Client MOST_CLIENTS file a.0 a.1,
        by_kind b.0 c.0 d.0 e.0 (named_says agent_keys takes section.Agent MOST_AGENTS file b.0 b.1)
            (subst (λ x. names x ≡ names_at section.Region file) same (named_says region_keys region_length section.Region MOST_REGIONS file r.0 r.1))
            (named_says signal_keys initial_value section.Signal MOST_SIGNALS file d.0 d.1) (named_says kernel_keys kernel_source section.Kernel MOST_KERNELS file e.0 e.1) (names a.0),
      )
    where
      by_kind : (agents : List (Name × Takes)) (regions : List (Name × ℕ)) (signals : List (Name × ℤ)) (kernels : List (Name × Source))
          → names agents ≡ names_at section.Agent file → names regions ≡ names_at section.Region file → names signals ≡ names_at section.Signal file → names kernels ≡ names_at section.Kernel file
          → (clients : List Name) (on : Kind)
          → names_of (record { version = version; clients = clients; agents = agents; regions = regions; signals = signals; kernels = kernels; rows = record { allows = []; denies = [] } }) on ≡ names_at (section_of on) file
      by_kind agents regions signals kernels a r s k clients kind.Agent = a
      by_kind agents regions signals kernels a r s k clients kind.Region = r
      by_kind agents regions signals kernels a r s k clients kind.Signal = s
      by_kind agents regions signals kernels a r s k clients kind.Kernel = k

-- the fault of a file is that of the first of its checks that fails
pub faults_agree : (file : Members) → result_err (declared_by file) ≡ first_of (file_checks file)
faults_agree file =
    step_after (file_head file) _ (head_checks file) _ (head_agrees file) (λ version e.
    step_after (objects_of version file) _ (object_checks file) _ (objects_agree version file) (λ declared d.
    last_step (policy_rows declared file) _ (policy_rows_checks file)
    (let said = objects_say version file declared d in rows_agree declared file said.0 said.1)))
