use Rattle.std.proofs.Common.{refl}
use Rattle.policy.proofs.CopyLemmas.{copied_within}
use Rattle.policy.proofs.policy.Policy.copy.Goals as goal

pub invariant_of-result : goal.invariant_of-result
invariant_of-result c =
    copied_within (record {
      version = c.self.inside.version;
      clients = c.in_ok-copy.field-0;
      agents = c.in_ok-copy-2.field-0;
      regions = c.in_ok-copy-3.field-0;
      signals = c.in_ok-copy-4.field-0;
      kernels = c.in_ok-copy-5.field-0;
      rows = c.in_ok-copy-6.field-0;
    }) c.self.inside refl (c.in_ok-copy.ensures (λ held copy h. h)) (c.in_ok-copy-2.ensures (λ held copy h. h)) (c.in_ok-copy-3.ensures (λ held copy h. h)) (c.in_ok-copy-4.ensures (λ held copy h. h))
    (c.in_ok-copy-5.ensures (λ held copy h. h)) c.in_ok-copy-6.ensures c.self.invariant
