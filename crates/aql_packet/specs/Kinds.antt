-- The types of packets (PSA, Architected Queuing Language: the packet header).
use Rattle.std.specs.Prelude.{ℕ}

-- A slot that holds no packet: INVALID.
abbrev pub invalid_type : ℕ
invalid_type = 1

-- A kernel dispatch.
abbrev pub kernel_type : ℕ
kernel_type = 2

-- A barrier-AND packet.
abbrev pub barrier_and_type : ℕ
barrier_and_type = 3

-- An agent dispatch.
abbrev pub agent_type : ℕ
agent_type = 4

-- A barrier-OR packet.
abbrev pub barrier_or_type : ℕ
barrier_or_type = 5
