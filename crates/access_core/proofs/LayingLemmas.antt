-- Changes that are laid over memory one after another, and what a group of a kernel dispatch that ran is due.
use Rattle.core_model.specs.History.{beginning}
use Rattle.std.proofs.Common.{◌≡◌, ℕ, List, Bool, true, length, map, if◌then◌else◌, arith}
use Rattle.std.proofs.Common.{All}
use Rattle.access_core.proofs.Terms.{All-map, Call, History, LiesWithin, PacketId, QueueId, Ran, RunNext, WrittenRange, due, enters, is_full, is_within}
use Rattle.access_core.proofs.Terms.{may_lack_memory, owed, refuses, write_of_run}
use Rattle.access_core.proofs.KernelLemmas.{runs-write}
use Rattle.core_model.specs.declared.outcome.Outcome.TheVariants as outcome
use Rattle.core_model.specs.declared.refusal.Refusal.TheVariants as refusal

-- ---- changes over memory

-- what runs write lies whole in regions where the runs do
pub runs-within : (lengths : List ℕ) (runs : List WrittenRange) → All (λ run. is_within lengths run.address (length run.bytes) ≡ true) runs → All (LiesWithin lengths) (map write_of_run runs)
runs-within lengths runs within = All-map (LiesWithin lengths) write_of_run runs within

-- ---- what the group is due

module _ (h : History) (queue : QueueId) (id : PacketId) (group left : ℕ) (runs : List WrittenRange)
    (owing : owed (beginning h) h.entries (Call (RunNext queue id)) ≡ enters (outcome.Worked (Ran group left)) (map write_of_run runs)) where
  pub group-due : (full : Bool) → is_full h ≡ full → due h (Call (RunNext queue id))
      ≡ (if full then refuses refusal.AuditFull else enters (outcome.Worked (Ran group left)) (map write_of_run runs))
  group-due full room = grind (arith, runs-write runs)

  -- its run may want memory, whether the audit has room or not
  pub group-may_lack_memory : may_lack_memory (Call (RunNext queue id)) (due h (Call (RunNext queue id))) ≡ true
  group-may_lack_memory = grind arith
