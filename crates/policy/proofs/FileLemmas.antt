-- A file that is read, and a text that is refused for its file.
use Rattle.std.proofs.Common.{◌≡◌, ℕ, ◌≤◌, List, [], length, ℤ, Result, Ok, Err, IfErr}
use Rattle.toml.specs.Data.{Members}
use Rattle.policy.specs.declared.limits.TheConstants.{MOST_AGENTS, MOST_ALLOW_ROWS, MOST_CLIENTS, MOST_DENY_ROWS, MOST_KERNELS, MOST_POLICY_BYTES, MOST_SIGNALS}
use Rattle.policy.specs.declared.fault.ReadPolicyError.{ReadPolicyError}
use Rattle.policy.specs.declared.fault.ReadPolicyError.TheVariants as error
use Rattle.policy.specs.declared.fault.PolicyFault.{PolicyFault}
use Rattle.policy.specs.declared.fault.Section.TheVariants.{Client, Agent, Signal, Kernel, Allow, Deny}
use Rattle.policy.specs.declared.row.RightsRow.{RightsRow}
use Rattle.policy.specs.declared.row.Takes.{Takes}
use Rattle.policy.specs.declared.rows.PolicyRows.{PolicyRows}
use Rattle.policy.specs.declared.version.Version.{Version}
use Rattle.policy.specs.Policy.{Declared, Name, Source, names}
use Rattle.policy.specs.Reading.{◌>>=◌, FileGives, FileFails}
use Rattle.policy.specs.Format.{file_head, regions_of, objects_of, declared_by, array_of, named_row, rights_row, policy_rows, client_keys, agent_keys, signal_keys, kernel_keys, no_more_keys, takes, initial_value, kernel_source, IsFile, IsRefused, in_file}

-- a fault of the file is the text's
pub refused_in_file : (text : List ℕ) (file : Members) → length text ≤ MOST_POLICY_BYTES → IsFile text file → (r : Result Declared ReadPolicyError) → FileGives r (declared_by file) → IfErr r (IsRefused text)
refused_in_file text file short is_file (Ok p) gives = tt
refused_in_file text file short is_file (Err error.OutOfMemory) gives = tt
refused_in_file text file short is_file (Err (error.Fault fault)) gives = in_file short file is_file gives

-- a fault in the last array is that of the rows on rights
pub fails_at_denies : (file : Members) (declared : Declared) (allows : List RightsRow) (e : ReadPolicyError) → array_of Allow MOST_ALLOW_ROWS (λ _ row. rights_row declared row) file ≡ Ok allows
    → FileFails e (array_of Deny MOST_DENY_ROWS (λ _ row. rights_row declared row) file) → FileFails e (policy_rows declared file)
fails_at_denies file declared allows e first fails = rw first (after e (array_of Deny MOST_DENY_ROWS (λ _ row. rights_row declared row) file) fails)
  where
    after : (e : ReadPolicyError) (denies : Result (List RightsRow) PolicyFault) → FileFails e denies → FileFails {B = PolicyRows} e (denies >>= (λ rows. Ok (record { allows = allows; denies = rows })))
    after error.OutOfMemory denies fails = tt
    after (error.Fault fault) denies fails = rw fails

-- a fault in the rows on rights is the file's
pub fails_at_rows : (file : Members) (version : Version) (declared : Declared) (e : ReadPolicyError) → file_head file ≡ Ok version → objects_of version file ≡ Ok declared
    → FileFails e (policy_rows declared file) → FileFails e (declared_by file)
fails_at_rows file version declared e head objects fails = rw (head, objects) (after e (policy_rows declared file) fails)
  where
    after : (e : ReadPolicyError) (rows : Result PolicyRows PolicyFault) → FileFails e rows → FileFails e (rows >>= (λ rows'. Ok (record declared { rows = rows' })))
    after error.OutOfMemory rows fails = tt
    after (error.Fault fault) rows fails = rw fails

-- a fault in the kernels is the objects'
pub fails_at_kernels : (version : Version) (file : Members) (clients : List (Name × Unit {0})) (agents : List (Name × Takes)) (regions : List (Name × ℕ)) (signals : List (Name × ℤ)) (e : ReadPolicyError)
    → array_of Client MOST_CLIENTS (named_row client_keys no_more_keys) file ≡ Ok clients → array_of Agent MOST_AGENTS (named_row agent_keys takes) file ≡ Ok agents
    → regions_of file ≡ Ok regions → array_of Signal MOST_SIGNALS (named_row signal_keys initial_value) file ≡ Ok signals
    → FileFails e (array_of Kernel MOST_KERNELS (named_row kernel_keys kernel_source) file) → FileFails e (objects_of version file)
fails_at_kernels version file clients agents regions signals e c a r s fails = rw (c, a, r, s) (after e (array_of Kernel MOST_KERNELS (named_row kernel_keys kernel_source) file) fails)
  where
    after : (e : ReadPolicyError) (kernels : Result (List (Name × Source)) PolicyFault) → FileFails e kernels
        → FileFails {B = Declared} e (kernels >>= (λ ks. Ok (record { version = version; clients = names clients; agents = agents; regions = regions; signals = signals; kernels = ks; rows = record { allows = []; denies = [] } })))
    after error.OutOfMemory kernels fails = tt
    after (error.Fault fault) kernels fails = rw fails
