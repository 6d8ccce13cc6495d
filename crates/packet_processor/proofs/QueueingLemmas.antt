-- What a queue's answers say.
use Rattle.std.proofs.Common.{◌≡◌, Option, Some, None, arith}
use Rattle.core_model.specs.declared.outcome.WaitCause.{WaitCause}
use Rattle.packet_processor.specs.declared.queue_state.MayLaunch.TheVariants.{Go, Waiting}
use Rattle.packet_processor.specs.Queueing.{may_launch_unless}

-- a packet that waits has this cause to
pub launching-waits : (o : Option WaitCause) (cause : WaitCause) → Waiting cause ≡ may_launch_unless o → o ≡ Some cause
launching-waits o cause h3 = grind arith

-- a packet that may go has none
pub launching-goes : (o : Option WaitCause) → Go ≡ may_launch_unless o → o ≡ None
launching-goes o h2 = grind arith
