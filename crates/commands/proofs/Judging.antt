-- A policy that is judged.
use Rattle.std.proofs.Common.{ℕ, List, Result, Ok, Err, inl, inr, sym, subst}
use Rattle.policy.specs.Policy.{Declared}
use Rattle.policy.specs.Format.{Declares, IsRefused}
use Rattle.policy.specs.declared.fault.ReadPolicyError.{ReadPolicyError}
use Rattle.policy.specs.declared.fault.ReadPolicyError.TheVariants as reading
use Rattle.commands.specs.declared.failure.Failure.{Failure}
use Rattle.commands.specs.declared.check.Setup.{Setup}
use Rattle.commands.specs.declared.failure.Failure.TheVariants.{OutOfMemory, Policy, Kernel, KernelCount, NoEntry, Capacity, Line, Read, Write}
use Rattle.commands.specs.Commands.{JudgesPolicy, PassesPolicy}
use Rattle.commands.specs.Failures.{failure_of_reading}
use Rattle.commands.specs.Kernels.{AreLaunchable}

-- a policy that was read, by the check of its kernels
pub judged : (text : List ℕ) (policy : Declared) (r : Result Setup Failure) → Declares text policy → PassesPolicy policy r → JudgesPolicy text r
judged text policy (Ok setup) declares p = (subst (Declares text) (sym p.0) declares, subst (λ x. AreLaunchable x.kernels setup.kernels.items) (sym p.0) p.1)
judged text policy (Err OutOfMemory) declares p = inr (policy, declares, p)
judged text policy (Err (Kernel fault)) declares p = (policy, declares, p)
judged text policy (Err (Policy fault)) declares p = absurd p
judged text policy (Err KernelCount) declares p = absurd p
judged text policy (Err (NoEntry kernel)) declares p = absurd p
judged text policy (Err Capacity) declares p = absurd p
judged text policy (Err (Line number)) declares p = absurd p
judged text policy (Err Read) declares p = absurd p
judged text policy (Err Write) declares p = absurd p

-- a policy that isn't read
pub unread : (text : List ℕ) (why : ReadPolicyError) → IsRefused text why → JudgesPolicy text (Err (failure_of_reading why))
unread text reading.OutOfMemory refused = inl refused
unread text (reading.Fault fault) refused = refused
