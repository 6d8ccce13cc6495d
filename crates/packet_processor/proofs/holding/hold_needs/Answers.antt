-- What the five rules that ask for rights need is put behind each other.
use Rattle.packet_processor.proofs.HeldByRule.{held_behind}
use Rattle.packet_processor.proofs.holding.hold_needs.Goals as goal

pub returns : goal.returns
returns c = λ client.
    held_behind (record { client = client; agent = c.args.asked.now.agent }) c.args.asked.now.packet _ _ _ _ _ _
    (rw c.agent.ensures at (rw c.agent_needs.ensures at c.in_ok-hold_all.ensures))
    (rw c.packet-packet.ensures at (rw c.kernel_needs.ensures at c.in_ok-hold_all-2.ensures))
    (rw c.packet-packet.ensures at (rw c.memory_needs.ensures at c.in_ok-hold_all-3.ensures))
    (rw c.packet-packet.ensures at (rw c.wait_needs.ensures at c.in_ok-hold_all-4.ensures))
    (rw c.packet-packet.ensures at (rw c.completion_needs.ensures at c.in_ok-hold_all-5.ensures))
