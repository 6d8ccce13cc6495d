-- A list with room got before: its items, and how many more can be put behind them without memory.
use Rattle.std.specs.Prelude.{ℕ, List, All, ◌≤◌, vec_capacity}
use Rattle.std.specs.Global.{Vec}

-- the items in order, and the room left
pub record Roomy (T : Type 0) : Type 0 where
  pub items : List T
  pub room : ℕ

-- memory for lists: for how many, and for how many items each
pub record Pooled : Type 0 where
  pub lists : ℕ
  pub each : ℕ

-- each of these lists has memory for so many items (own)
abbrev pub HaveRoom : {T : Type 0} → ℕ → List (Vec T) → Type 0
HaveRoom each lists = All (λ list. each ≤ vec_capacity list) lists
