-- The checks of a policy file, each by itself, in the order in which their faults are told: the file's version and its
-- keys, then array by array and row by row; in a row its keys, their values in order, and its names (own).
use Rattle.std.specs.Prelude.{ℕ, ◌+◌, ◌==◌, nat_le, List, [], ◌∷◌, ◌++◌, length, map, sum, Option, Some, None, option_map, option_and_then}
use Rattle.std.specs.List.{list_all, filter_map}
use Rattle.std.specs.Result.{result_err}
use Rattle.toml.specs.Data.{Data, Members, get_member, as_table}
use Rattle.aql_packet.specs.Memory.{most_regions}
use Rattle.policy.specs.Limits.{most_agents, most_allow_rows, most_clients, most_deny_rows, most_kernels, most_memory_bytes, most_signals}
use Rattle.policy.specs.declared.fault.PolicyCause.TheVariants.{BadValue, DoubleName, UnknownName, TooMany}
use Rattle.policy.specs.declared.fault.PolicyFault.{PolicyFault}
use Rattle.policy.specs.declared.fault.RowFault.{RowFault}
use Rattle.policy.specs.declared.fault.Section.{Section}
use Rattle.policy.specs.declared.fault.Section.TheVariants as section
use Rattle.policy.specs.declared.key.Key.{Key}
use Rattle.policy.specs.declared.key.Key.TheVariants as keys
use Rattle.policy.specs.declared.object.Kind.{Kind}
use Rattle.policy.specs.declared.object.Kind.TheVariants as kind
use Rattle.policy.specs.declared.version.Version.{Version}
use Rattle.policy.specs.Names.{Name, number_in}
use Rattle.policy.specs.SectionNames.{name_of_section}
use Rattle.policy.specs.Reading.{or_fault, unless, fault_at, fault_at_none, fault_of_file, fault_of_version, fault_of_array, fault_of_lengths, fault_in}
use Rattle.policy.specs.Format.{a_name, a_length, a_choice, a_kind, some_rights, an_entry, a_text, items_in, keys_in, only, key, takes, region_length, initial_value, subject_of, target_of, is_table, version_of, is_part_of, name_of_key, client_keys, agent_keys, region_keys, signal_keys, kernel_keys, rights_keys}

-- the first fault of some
abbrev pub first_of : {E : Type 0} → List (Option E) → Option E
first_of [] = None
first_of (None ∷ later) = first_of later
first_of (Some fault ∷ later) = Some fault

-- ---- what rows say of themselves, each by itself

-- what each of some rows says, those left out that don't say it
abbrev pub said_by : {X : Type 0} → (Members → Option X) → List Data → List X
said_by says rows = filter_map (λ row. option_and_then says (as_table row)) rows

-- what a row says at a key
abbrev pub says : {X : Type 0} → Key → (Data → Option X) → Members → Option X
says at read row = option_and_then read (get_member (name_of_key at) row)

abbrev pub row_name : Members → Option Name
row_name = says keys.Name a_name

abbrev pub row_length : Members → Option ℕ
row_length = says keys.Length a_length

-- the rows of an array, if there is one
abbrev pub rows_of : Option (List Data) → List Data
rows_of None = []
rows_of (Some ds) = ds

abbrev pub rows_at : Section → Members → List Data
rows_at at file = rows_of (option_and_then items_in (get_member (name_of_section at) file))

-- the names that the rows of an array give themselves
abbrev pub names_at : Section → Members → List Name
names_at at file = said_by row_name (rows_at at file)

-- the array of a kind's objects
abbrev pub section_of : Kind → Section
section_of kind.Agent = section.Agent
section_of kind.Region = section.Region
section_of kind.Signal = section.Signal
section_of kind.Kernel = section.Kernel

-- ---- rows

-- an earlier row has the name already
abbrev pub double_name : List Name → Option Name → Option RowFault
double_name above None = None
double_name above (Some name) = result_err (unless (number_in above name == 0) (fault_at keys.Name DoubleName))

-- a row with a name of its own, below rows of these names: its keys, its name, the rest of it, and its name again
abbrev pub named_checks : List Key → (Members → List (Option RowFault)) → List Name → Members → List (Option RowFault)
named_checks known rest above row =
    result_err (only known row) ∷ result_err (key keys.Name a_name row) ∷ rest row ++ double_name above (row_name row) ∷ []

abbrev pub client_rest : Members → List (Option RowFault)
client_rest row = []

abbrev pub agent_rest : Members → List (Option RowFault)
agent_rest row = result_err (takes row) ∷ []

abbrev pub region_rest : Members → List (Option RowFault)
region_rest row = result_err (region_length row) ∷ []

abbrev pub signal_rest : Members → List (Option RowFault)
signal_rest row = result_err (initial_value row) ∷ []

abbrev pub kernel_rest : Members → List (Option RowFault)
kernel_rest row = result_err (key keys.Entry an_entry row) ∷ result_err (key keys.Text a_text row) ∷ []

-- the rights of a row are those of its kind
abbrev pub rights_check : Option Kind → Members → Option RowFault
rights_check None row = None
rights_check (Some on) row = result_err (key keys.Rights (some_rights on) row)

-- its client is declared
abbrev pub client_check : List Name → Option (Option Name) → Option RowFault
client_check clients None = None
client_check clients (Some client) = result_err (or_fault (fault_at keys.Client UnknownName) (subject_of clients client))

-- its object is declared, among those of its kind
abbrev pub object_check : (Kind → List Name) → Option Kind → Option (Option Name) → Option RowFault
object_check objects None object = None
object_check objects (Some on) None = None
object_check objects (Some on) (Some object) = result_err (or_fault (fault_at keys.Object UnknownName) (target_of on (objects on) object))

-- an allow row or a deny row: its keys, each in turn, and then the names
abbrev pub rights_checks : List Name → (Kind → List Name) → Members → List (Option RowFault)
rights_checks clients objects row =
    result_err (only rights_keys row)
    ∷ result_err (key keys.Client a_choice row)
    ∷ result_err (key keys.Kind a_kind row)
    ∷ result_err (key keys.Object a_choice row)
    ∷ rights_check (says keys.Kind a_kind row) row
    ∷ client_check clients (says keys.Client a_choice row)
    ∷ object_check objects (says keys.Kind a_kind row) (says keys.Object a_choice row)
    ∷ []

-- ---- arrays

abbrev pub row_checks : (Members → List (Option RowFault)) → Option Members → List (Option RowFault)
row_checks checks None = Some (fault_at_none BadValue) ∷ []
row_checks checks (Some row) = checks row

-- rows, by the rows above each
abbrev pub rows_checks : Section → (List Data → Members → List (Option RowFault)) → List Data → List Data → List (Option PolicyFault)
rows_checks at checks above [] = []
rows_checks at checks above (d ∷ ds) =
    map (option_map (fault_in at (length above + 1))) (row_checks (checks above) (as_table d)) ++ rows_checks at checks (above ++ d ∷ []) ds

-- an array: that it is one of tables, that it isn't too long, and its rows
abbrev pub tables_checks : Section → ℕ → (List Data → Members → List (Option RowFault)) → Option (List Data) → List (Option PolicyFault)
tables_checks at limit checks None = Some (fault_of_array at BadValue) ∷ []
tables_checks at limit checks (Some ds) =
    result_err (unless (list_all is_table ds) (fault_of_array at BadValue))
    ∷ result_err (unless (nat_le (length ds) limit) (fault_of_array at TooMany))
    ∷ rows_checks at checks [] ds

-- the same at a key
abbrev pub member_checks : Section → ℕ → (List Data → Members → List (Option RowFault)) → Option Data → List (Option PolicyFault)
member_checks at limit checks None = []
member_checks at limit checks (Some d) = tables_checks at limit checks (items_in d)

abbrev pub array_checks : Section → ℕ → (List Data → Members → List (Option RowFault)) → Members → List (Option PolicyFault)
array_checks at limit checks file = member_checks at limit checks (get_member (name_of_section at) file)

abbrev pub named_array_checks : Section → ℕ → List Key → (Members → List (Option RowFault)) → Members → List (Option PolicyFault)
named_array_checks at limit known rest = array_checks at limit (λ above. named_checks known rest (said_by row_name above))

-- the regions together don't have too many bytes
abbrev pub sum_check : Members → Option PolicyFault
sum_check file =
    result_err (unless (nat_le (sum (said_by row_length (rows_at section.Region file))) most_memory_bytes) fault_of_lengths)

-- ---- the file

-- the keys are those of the version
abbrev pub keys_check : Option Version → Members → Option PolicyFault
keys_check None file = None
keys_check (Some version) file = result_err (unless (list_all (is_part_of version) (keys_in file)) (fault_of_file BadValue))

abbrev pub head_checks : Members → List (Option PolicyFault)
head_checks file =
    result_err (or_fault fault_of_version (version_of (get_member (name_of_key keys.Version) file)))
    ∷ keys_check (version_of (get_member (name_of_key keys.Version) file)) file
    ∷ []

abbrev pub object_checks : Members → List (Option PolicyFault)
object_checks file =
    named_array_checks section.Client most_clients client_keys client_rest file
    ++ (named_array_checks section.Agent most_agents agent_keys agent_rest file
    ++ ((named_array_checks section.Region most_regions region_keys region_rest file ++ sum_check file ∷ [])
    ++ (named_array_checks section.Signal most_signals signal_keys signal_rest file
    ++ named_array_checks section.Kernel most_kernels kernel_keys kernel_rest file)))

abbrev pub policy_rows_checks : Members → List (Option PolicyFault)
policy_rows_checks file =
    array_checks section.Allow most_allow_rows (λ above. rights_checks (names_at section.Client file) (λ on. names_at (section_of on) file)) file
    ++ array_checks section.Deny most_deny_rows (λ above. rights_checks (names_at section.Client file) (λ on. names_at (section_of on) file)) file

-- all checks of a file
abbrev pub file_checks : Members → List (Option PolicyFault)
file_checks file =
    head_checks file ++ (object_checks file
    ++ policy_rows_checks file)
