-- What the next text comes to goes behind what those before declare.
use Rattle.std.proofs.Common.{ℕ, List, arith, subst}
use Rattle.policy.specs.Format.{Declares, IsRefused}
use Rattle.commands.proofs.Reading.{declare-next, unread-next}
use Rattle.commands.proofs.further.read_further.Goals as goal

pub returns-in-Err-clause-refused : goal.returns-in-Err-clause-refused
returns-in-Err-clause-refused c =
    unread-next c.args.texts.now c.loop-text.text-index c.text-item.result c.loop-text.policies.items c.in-Err.why (omega arith) c.loop-text.invariant
    (subst (λ (text : List ℕ). IsRefused text c.in-Err.why) c.text-item.is c.in-Err.ensures.refused)

pub loop-text-preserved : goal.loop-text-preserved
loop-text-preserved c =
    let read = c.in_default.ensures.read in
    rw read.2
    (declare-next c.args.texts.now c.loop-text.text-index c.text-item.result c.loop-text.policies.items read.0 (omega arith) c.loop-text.invariant
    (subst (λ (text : List ℕ). Declares text read.0) c.text-item.is read.1))
