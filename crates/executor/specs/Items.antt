-- A work-item as it begins, what surrounds it, and what a group's memory has.
use Rattle.std.specs.Prelude.{ℕ, List, Option, replicate}
use Rattle.policy.specs.declared.rights.Rights.{Rights}
use Rattle.executor.specs.Registers.{cleared}
use Rattle.executor.specs.Written.{nothing}
use Rattle.executor.specs.declared.item.Item.{Item}
use Rattle.executor.specs.declared.location.Location.{Location}
use Rattle.executor.specs.declared.held.HeldRegion.{HeldRegion}

-- registers are zero, and the first step is next (own)
abbrev pub fresh : Item
fresh = record { registers = cleared; next = 0 }

-- the bytes of group memory, and those written over the memory that is lent
pub record Contents : Type 0 where
  pub group : List ℕ
  pub written : ℕ → Option ℕ

-- memory as a group begins: group memory is zeros, and nothing is written (own)
abbrev pub blank : ℕ → Contents
blank size = record { group = replicate size 0; written = nothing }

-- a region that a packet holds, as it is lent: its number, the rights that are held, and its bytes (own)
pub record LentRegion : Type 0 where
  pub number : ℕ
  pub rights : Rights
  pub bytes : List ℕ

abbrev pub lent_region : HeldRegion → LentRegion
lent_region region = record { number = region.handle.0; rights = region.rights; bytes = region.bytes.now }

-- what an item can see and not change: the argument block, the regions that the packet holds, and its place
pub record Surroundings : Type 0 where
  pub arguments : List ℕ
  pub view : List LentRegion
  pub location : Location
