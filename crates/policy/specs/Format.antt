-- The policy file: its arrays, the keys of their rows, and the order in which faults are looked for.
use Rattle.std.specs.Prelude.{ℕ, ◌+◌, ◌≡◌, ◌<◌, ◌≤◌, ℤ, pos, negsuc, Bool, true, false, ◌&&◌, ◌||◌, ◌==◌, nat_lt, nat_le, codes, List, [], ◌∷◌, ◌++◌, length, sum_by, slice_index, Option, Some, None, option_map, option_and_then, Result, Ok, Err, if◌then◌else◌, IsUtf8}
use Rattle.std.specs.List.{list_any, list_all}
use Rattle.std.specs.Str.{bytes_eq}
use Rattle.aql_packet.specs.Memory.{is_region_length}
use Rattle.toml.specs.Data.{Data, string, integer, table, Items, no_items, item, Members, no_members, member, get_member, as_str, as_integer, as_array, as_table}
use Rattle.toml.specs.Parse.{parse_document}
use Rattle.aql_packet.specs.Memory.{most_regions}
use Rattle.policy.specs.Limits.{most_agents, most_allow_rows, most_clients, most_deny_rows, most_kernels, most_memory_bytes, most_name_bytes, most_policy_bytes, most_signals}
use Rattle.policy.specs.declared.fault.PolicyCause.TheVariants.{NotToml, MissingKey, BadValue, UnknownName, DoubleName, TooMany}
use Rattle.policy.specs.declared.fault.PolicyFault.{PolicyFault}
use Rattle.policy.specs.declared.fault.RowFault.{RowFault}
use Rattle.policy.specs.declared.fault.Section.{Section}
use Rattle.policy.specs.declared.fault.ReadPolicyError.{ReadPolicyError}
use Rattle.policy.specs.declared.fault.ReadPolicyError.TheVariants as error
use Rattle.policy.specs.declared.fault.Section.TheVariants as section
use Rattle.policy.specs.declared.key.Key.{Key}
use Rattle.policy.specs.declared.key.Key.TheVariants as keys
use Rattle.policy.specs.declared.object.Kind.{Kind}
use Rattle.policy.specs.declared.object.Kind.TheVariants as kind
use Rattle.policy.specs.declared.rights.Right.{Right}
use Rattle.policy.specs.declared.rights.Right.TheVariants.{Use, Read, Write, Wait, Change, Launch}
use Rattle.policy.specs.declared.rights.Rights.{Rights}
use Rattle.policy.specs.declared.row.Grantee.{Grantee}
use Rattle.policy.specs.declared.row.Grantee.TheVariants as subject
use Rattle.policy.specs.declared.row.Target.{Target}
use Rattle.policy.specs.declared.row.Target.TheVariants as target
use Rattle.policy.specs.declared.row.RightsRow.{RightsRow}
use Rattle.policy.specs.declared.row.Takes.{Takes}
use Rattle.policy.specs.declared.rows.PolicyRows.{PolicyRows}
use Rattle.policy.specs.declared.version.Version.{Version}
use Rattle.policy.specs.declared.version.Version.TheVariants.{First, Second}
use Rattle.policy.specs.RightNames.{name_of_right}
use Rattle.policy.specs.SectionNames.{name_of_section, all_sections}
pub use Rattle.policy.specs.Keys.{name_of_key, keys_of, client_keys, agent_keys, region_keys, signal_keys, kernel_keys, rights_keys}
use Rattle.policy.specs.Object.{same_kind, object_of}
use Rattle.policy.specs.Rights.{all_rights, rights_that}
use Rattle.policy.specs.Policy.{Name, Source, Declared, names, names_of, number_in}
use Rattle.policy.specs.Reading.{◌>>=◌, or_fault, unless, fault_at, fault_at_none, fault_of_file, fault_of_version, fault_of_array, fault_of_lengths, fault_in}

-- ---- values

-- an ASCII letter or digit, `_` or `-`
abbrev pub is_name_byte : ℕ → Bool
is_name_byte b =
    (((nat_le 97 b && nat_le b 122) || (nat_le 65 b && nat_le b 90)) || (nat_le 48 b && nat_le b 57)) || (b == 95 || b == 45)

-- a name is some of these, and not too many (own)
abbrev pub is_name : List ℕ → Bool
is_name text = (nat_le 1 (length text) && nat_le (length text) most_name_bytes) && list_all is_name_byte text

abbrev pub a_text_that : (List ℕ → Bool) → Data → Option (List ℕ)
a_text_that test (string text) = if test text then Some text else None
a_text_that test _ = None

abbrev pub a_name : Data → Option Name
a_name = a_text_that is_name

abbrev pub a_text : Data → Option (List ℕ)
a_text = as_str

-- a text beginning with `&`
abbrev pub an_entry : Data → Option (List ℕ)
an_entry = a_text_that (λ text. nat_le 1 (length text) && slice_index text 0 == 38)

-- the value is this text
abbrev pub is_text : List ℕ → Data → Bool
is_text wanted (string text) = bytes_eq text wanted
is_text wanted _ = false

-- the elements of an array
abbrev pub elements : Items → List Data
elements no_items = []
elements (item d ds) = d ∷ elements ds

-- the elements of a value that is an array
abbrev pub items_in : Data → Option (List Data)
items_in d = option_map elements (as_array d)

-- an array of "kernel" and "agent", possibly empty
abbrev pub dispatches_in : List Data → Option Takes
dispatches_in ds =
    if list_all (λ d. is_text (codes "kernel") d || is_text (codes "agent") d) ds
    then Some (record { kernel = list_any (is_text (codes "kernel")) ds; agent = list_any (is_text (codes "agent")) ds })
    else None

abbrev pub some_dispatches : Data → Option Takes
some_dispatches d = option_and_then dispatches_in (items_in d)

-- a region's length
abbrev pub length_of_number : ℤ → Option ℕ
length_of_number (pos n) = if is_region_length n then Some n else None
length_of_number (negsuc n) = None

abbrev pub a_length : Data → Option ℕ
a_length (integer z) = length_of_number z
a_length _ = None

abbrev pub a_number : Data → Option ℤ
a_number = as_integer

-- the name of a kind of objects
abbrev pub kind_named : List ℕ → Option Kind
kind_named text =
    if bytes_eq text (codes "agent") then Some kind.Agent
    else if bytes_eq text (codes "region") then Some kind.Region
    else if bytes_eq text (codes "signal") then Some kind.Signal
    else if bytes_eq text (codes "kernel") then Some kind.Kernel
    else None

abbrev pub a_kind : Data → Option Kind
a_kind (string text) = kind_named text
a_kind _ = None

-- a name, or "*", which is none
abbrev pub choice_of : List ℕ → Option (Option Name)
choice_of text = if bytes_eq text (codes "*") then Some None else if is_name text then Some (Some text) else None

abbrev pub a_choice : Data → Option (Option Name)
a_choice (string text) = choice_of text
a_choice _ = None

-- the kind of objects that a right is on
abbrev pub kind_of_right : Right → Kind
kind_of_right Use = kind.Agent
kind_of_right Read = kind.Region
kind_of_right Write = kind.Region
kind_of_right Wait = kind.Signal
kind_of_right Change = kind.Signal
kind_of_right Launch = kind.Kernel

-- the value names a right on objects of the kind
abbrev pub names_right : Kind → Data → Bool
names_right on d = list_any (λ right. same_kind (kind_of_right right) on && is_text (name_of_right right) d) all_rights

-- an array of the kind's rights, possibly empty, in which repeats count once
abbrev pub rights_in : Kind → List Data → Option Rights
rights_in on ds =
    if list_all (names_right on) ds
    then Some (rights_that (λ right. list_any (is_text (name_of_right right)) ds))
    else None

abbrev pub some_rights : Kind → Data → Option Rights
some_rights on d = option_and_then (rights_in on) (items_in d)

-- ---- rows

-- the keys of a table
abbrev pub keys_in : Members → List Name
keys_in no_members = []
keys_in (member k d ms) = k ∷ keys_in ms

-- the name is that of one of some keys
abbrev pub is_key_of : List Key → Name → Bool
is_key_of known name = list_any (λ at. bytes_eq name (name_of_key at)) known

-- no key but these
abbrev pub only : List Key → Members → Result (Unit {0}) RowFault
only known row = unless (list_all (is_key_of known) (keys_in row)) (fault_at_none BadValue)

-- the value at a key: MissingKey there where it is absent, BadValue there where it is wrong
abbrev pub right_value : {A : Type 0} → Key → (Data → Option A) → Option Data → Result A RowFault
right_value at read None = Err (fault_at at MissingKey)
right_value at read (Some d) = or_fault (fault_at at BadValue) (read d)

abbrev pub key : {A : Type 0} → Key → (Data → Option A) → Members → Result A RowFault
key at read row = right_value at read (get_member (name_of_key at) row)

-- what a row holds beside its name
abbrev pub no_more_keys : Members → Result (Unit {0}) RowFault
no_more_keys row = Ok tt

abbrev pub takes : Members → Result Takes RowFault
takes = key keys.Takes some_dispatches

abbrev pub region_length : Members → Result ℕ RowFault
region_length = key keys.Length a_length

abbrev pub initial_value : Members → Result ℤ RowFault
initial_value = key keys.Initial a_number

abbrev pub kernel_source : Members → Result Source RowFault
kernel_source row = do
  entry ← key keys.Entry an_entry row
  text ← key keys.Text a_text row
  Ok (record { entry = entry; text = text })

-- a row with a name of its own: its keys, its name, the rest of it, and no earlier row of that name
abbrev pub named_row : {V : Type 0} → List Key → (Members → Result V RowFault) → List (Name × V) → Members → Result (Name × V) RowFault
named_row known rest before row = do
  _ ← only known row
  name ← key keys.Name a_name row
  value ← rest row
  _ ← unless (number_in (names before) name == 0) (fault_at keys.Name DoubleName)
  Ok (name, value)

-- whom, and what, a row on rights covers: a name has to be declared
abbrev pub subject_of : List Name → Option Name → Option Grantee
subject_of clients None = Some subject.Any
subject_of clients (Some name) = if nat_lt 0 (number_in clients name) then Some (subject.One (record { 0 = number_in clients name })) else None

abbrev pub target_of : Kind → List Name → Option Name → Option Target
target_of on objects None = Some (target.Any on)
target_of on objects (Some name) = if nat_lt 0 (number_in objects name) then Some (target.One (object_of on (number_in objects name))) else None

-- an allow row or a deny row: its keys, each in turn, and then the names
abbrev pub rights_row : Declared → Members → Result RightsRow RowFault
rights_row declared row = do
  _ ← only rights_keys row
  client ← key keys.Client a_choice row
  on ← key keys.Kind a_kind row
  object ← key keys.Object a_choice row
  rights ← key keys.Rights (some_rights on) row
  subject ← or_fault (fault_at keys.Client UnknownName) (subject_of declared.clients client)
  target ← or_fault (fault_at keys.Object UnknownName) (target_of on (names_of declared on) object)
  Ok (record { subject = subject; target = target; rights = rights })

-- ---- arrays

abbrev pub in_row : {A : Type 0} → Section → ℕ → Result A RowFault → Result A PolicyFault
in_row section row (Ok x) = Ok x
in_row section row (Err fault) = Err (fault_in section row fault)

abbrev pub is_table : Data → Bool
is_table (table ms) = true
is_table _ = false

-- a row, which is a table
abbrev pub of_table : {A : Type 0} → (Members → Result A RowFault) → Option Members → Result A RowFault
of_table read None = Err (fault_at_none BadValue)
of_table read (Some row) = read row

-- the rows of an array of tables, of at most so many
abbrev pub tables_in : Section → ℕ → Option (List Data) → Result (List Data) PolicyFault
tables_in section limit None = Err (fault_of_array section BadValue)
tables_in section limit (Some ds) = do
  _ ← unless (list_all is_table ds) (fault_of_array section BadValue)
  _ ← unless (nat_le (length ds) limit) (fault_of_array section TooMany)
  Ok ds

-- the same at a key: no rows where the array is absent
abbrev pub rows_in : Section → ℕ → Option Data → Result (List Data) PolicyFault
rows_in section limit None = Ok []
rows_in section limit (Some d) = tables_in section limit (items_in d)

-- rows read in order, each beside those before it
abbrev pub read_each : {R : Type 0} → Section → (List R → Members → Result R RowFault) → List R → List Data → Result (List R) PolicyFault
read_each section read before [] = Ok before
read_each section read before (d ∷ ds) = do
  row ← in_row section (length before + 1) (of_table (read before) (as_table d))
  read_each section read (before ++ row ∷ []) ds

abbrev pub array_of : {R : Type 0} → Section → ℕ → (List R → Members → Result R RowFault) → Members → Result (List R) PolicyFault
array_of section limit read file = do
  rows ← rows_in section limit (get_member (name_of_section section) file)
  read_each section read [] rows

-- ---- the file

-- the version of a number: 1 or 2
abbrev pub version_numbered : Data → Option Version
version_numbered (integer (pos n)) = if n == 1 then Some First else if n == 2 then Some Second else None
version_numbered _ = None

-- the version that a file names, and the first where it names none
abbrev pub version_of : Option Data → Option Version
version_of None = Some First
version_of (Some d) = version_numbered d

-- the array is one of a version's: deny rows are the second's alone
abbrev pub is_array_of : Version → Section → Bool
is_array_of First section.Deny = false
is_array_of First _ = true
is_array_of Second _ = true

-- the name is that of an array of a version's files, or of another key of them
abbrev pub names_array : Version → Name → Bool
names_array version name = list_any (λ array. is_array_of version array && bytes_eq name (name_of_section array)) all_sections

abbrev pub is_part_of : Version → Name → Bool
is_part_of version name = bytes_eq name (name_of_key keys.Version) || names_array version name

-- the file's version, and its keys
abbrev pub file_head : Members → Result Version PolicyFault
file_head file = do
  version ← or_fault fault_of_version (version_of (get_member (name_of_key keys.Version) file))
  _ ← unless (list_all (is_part_of version) (keys_in file)) (fault_of_file BadValue)
  Ok version

-- the regions, which have not too many bytes together
abbrev pub regions_of : Members → Result (List (Name × ℕ)) PolicyFault
regions_of file = do
  regions ← array_of section.Region most_regions (named_row region_keys region_length) file
  _ ← unless (nat_le (sum_by (λ region. region.1) regions) most_memory_bytes) fault_of_lengths
  Ok regions

-- the clients and the objects, with no rows on rights yet
abbrev pub objects_of : Version → Members → Result Declared PolicyFault
objects_of version file = do
  clients ← array_of section.Client most_clients (named_row client_keys no_more_keys) file
  agents ← array_of section.Agent most_agents (named_row agent_keys takes) file
  regions ← regions_of file
  signals ← array_of section.Signal most_signals (named_row signal_keys initial_value) file
  kernels ← array_of section.Kernel most_kernels (named_row kernel_keys kernel_source) file
  Ok (record { version = version; clients = names clients; agents = agents; regions = regions; signals = signals; kernels = kernels; rows = record { allows = []; denies = [] } })

-- the allow rows, and then the deny rows
abbrev pub policy_rows : Declared → Members → Result PolicyRows PolicyFault
policy_rows declared file = do
  allows ← array_of section.Allow most_allow_rows (λ _ row. rights_row declared row) file
  denies ← array_of section.Deny most_deny_rows (λ _ row. rights_row declared row) file
  Ok (record { allows = allows; denies = denies })

-- what a file declares, or its first fault: the file's version and keys, and then the arrays in order
abbrev pub declared_by : Members → Result Declared PolicyFault
declared_by file = do
  version ← file_head file
  declared ← objects_of version file
  rows ← policy_rows declared file
  Ok (record declared { rows = rows })

-- the text is the TOML document of a file
abbrev pub IsFile : List ℕ → Members → Type 0
IsFile text file = IsUtf8 text × (parse_document text ≡ Some file)

-- the text declares this
pub record Declares (text : List ℕ) (declared : Declared) : Type 0 where
  pub short : length text ≤ most_policy_bytes
  pub file : Members
  pub is_file : IsFile text file
  pub rows : declared_by file ≡ Ok declared

-- the first fault of a text: it is too long, it is no TOML document, or the file that it is has that fault first
pub data HasFault (text : List ℕ) (fault : PolicyFault) : Type 0 where
  too_long : most_policy_bytes < length text → fault ≡ fault_of_file TooMany → HasFault text fault
  not_toml : length text ≤ most_policy_bytes → ((file : Members) → IsFile text file → ⊥) → fault ≡ fault_of_file NotToml → HasFault text fault
  in_file : length text ≤ most_policy_bytes → (file : Members) → IsFile text file → declared_by file ≡ Err fault → HasFault text fault

-- why a text isn't read: its first fault, or no memory
abbrev pub IsRefused : List ℕ → ReadPolicyError → Type 0
IsRefused text error.OutOfMemory = Unit {0}
IsRefused text (error.Fault fault) = HasFault text fault
