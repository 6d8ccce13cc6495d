-- The line by which a client writes a kernel's argument block (own).
use Rattle.std.specs.Prelude.{◌≡◌, ◌==◌, ℕ, List, [], ◌∷◌, ◌++◌, codes, length, if◌then◌else◌}
use Rattle.aql_packet.specs.declared.ids.Address.{Address}
use Rattle.words.specs.Bytes.{text_of_address, text_of_bytes}
use Rattle.assemble.specs.declared.layout.ArgumentPlace.{ArgumentPlace}
use Rattle.assemble.specs.Blocks.{block_from}

-- a client writes bytes at an address
abbrev pub write_line : (client : List ℕ) → Address → List ℕ → List ℕ
write_line client place bytes =
    (codes "write" ++ 32 ∷ []) ++ (client ++ 32 ∷ []) ++ text_of_address place.0 ++ 32 ∷ [] ++ text_of_bytes bytes ++ 10 ∷ []

-- it writes a block, if that has a byte
abbrev pub block_line : (client : List ℕ) → Address → List ℕ → List ℕ
block_line client place bytes = if length bytes == 0 then [] else write_line client place bytes

-- behind a text comes the line by which it writes at an address the block of arguments at these places, each with a value, and no byte more
abbrev pub Writes : (client : List ℕ) → Address → List ArgumentPlace → (before after : List ℕ) → Type 0
Writes client place places before after =
    (values : List ℕ) × (length values ≡ length places) × (after ≡ before ++ block_line client place (block_from [] places values))
