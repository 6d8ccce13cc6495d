-- A type that follows a stem at once has no modifiers before it.
use Rattle.std.proofs.Common.{◌≡◌, ℕ, List, ◌++◌, Some, None, codes, refl, ap, ◌∙◌}
use Rattle.hsail_reader.specs.Rows.{type_name}
use Rattle.hsail_reader.specs.Words.{first_behind, modifier_at, modifiers_at, type_at}
use Rattle.hsail_reader.specs.WordSpelling.{SpellsType}
use Rattle.hsail_reader.specs.Nouns.{DataType, TypeSet, Untyped}
use Rattle.hsail_reader.specs.declared.types.DataType.TheVariants as type
use Rattle.hsail_reader.specs.declared.types.Modifiers.TheVariants as modifiers
use Rattle.hsail_reader.proofs.WordRows.{type_is_found}

-- the name of no type begins as a modifier
no_modifier : (t : DataType) → modifier_at (codes "_" ++ type_name t) ≡ None
no_modifier type.B1 = refl
no_modifier type.B8 = refl
no_modifier type.B16 = refl
no_modifier type.B32 = refl
no_modifier type.B64 = refl
no_modifier type.U8 = refl
no_modifier type.U16 = refl
no_modifier type.U32 = refl
no_modifier type.U64 = refl
no_modifier type.S8 = refl
no_modifier type.S16 = refl
no_modifier type.S32 = refl
no_modifier type.S64 = refl

plain_before : (set : TypeSet) (t : DataType) (bytes : List ℕ) → SpellsType set t bytes → modifier_at bytes ≡ None
plain_before Untyped t bytes (none, is) = ap modifier_at none
plain_before set t bytes (spelled, listed) = ap modifier_at spelled ∙ no_modifier t

pub typed_at_once : (set : TypeSet) (t : DataType) (bytes : List ℕ) → type_at set bytes ≡ Some t → modifiers_at bytes ≡ (modifiers.Plain, bytes)
typed_at_once set t bytes is = ap (λ found. first_behind found bytes) (plain_before set t bytes (type_is_found set bytes t is))
