-- How the code finds the region that an address lies in: an entry for each number (own).
use Rattle.std.specs.Prelude.{◌≡◌, ℕ, zero, suc, ◌+◌, ◌<◌, ◌≤◌, ◌==◌, ◌&&◌, ◌⊎◌, nat_le, nat_lt, if◌then◌else◌, Bool, List, [], ◌∷◌, length, Option, Some, None, All}
use Rattle.executor.specs.declared.entry.Entry.{Entry}
use Rattle.executor.specs.declared.held.HeldRegion.{HeldRegion}
use Rattle.policy.specs.Rights.{has}
use Rattle.policy.specs.declared.rights.Right.{Right}
use Rattle.policy.specs.declared.rights.Right.TheVariants.{Read, Write}

-- the regions that some entries have
abbrev pub held : List Entry → List HeldRegion
held [] = []
held (e ∷ es) = if e.region.handle.0 == 0 then held es else e.region ∷ held es

-- how many bytes of a region may be accessed with a right
abbrev pub reach : HeldRegion → Right → ℕ
reach region right = if has region.rights right then length region.bytes.now else 0

-- the entry of a number: it has the region of that number, or none
pub record IsEntry (number : ℕ) (e : Entry) : Type 0 where
  pub own : (e.region.handle.0 ≡ 0) ⊎ (e.region.handle.0 ≡ number)
  pub none : e.region.handle.0 ≡ 0 → length e.region.bytes.now ≡ 0
  pub readable : e.readable ≡ reach e.region Read
  pub writable : e.writable ≡ reach e.region Write

-- the entries from a number on
abbrev pub Numbered : ℕ → List Entry → Type 0
Numbered n [] = Unit {0}
Numbered n (e ∷ es) = IsEntry n e × Numbered (suc n) es

-- the entries of all numbers up to the last region's
pub record IsView (entries : List Entry) : Type 0 where
  pub numbered : Numbered 0 entries
  pub few : (number : ℕ) → All (λ region. region.handle.0 < number) (held entries) → length entries ≤ number

-- a region, if it has a byte at an offset
abbrev pub if_long : ℕ → Option HeldRegion → Option HeldRegion
if_long offset None = None
if_long offset (Some region) = if nat_lt offset (length region.bytes.now) then Some region else None

-- a region, if n bytes from an offset on lie in it, and may be accessed with a right
abbrev pub if_reached : Right → ℕ → ℕ → Option HeldRegion → Option HeldRegion
if_reached right offset n None = None
if_reached right offset n (Some region) = if has region.rights right && nat_le (offset + n) (length region.bytes.now) then Some region else None
