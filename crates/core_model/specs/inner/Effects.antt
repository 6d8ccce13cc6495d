-- Where an entry's changes are kept.
use Rattle.std.specs.Prelude.{List, []}
use Rattle.core_model.specs.declared.entry.Effect.{Effect}
use Rattle.core_model.specs.declared.effects.Kept.{Kept}
use Rattle.core_model.specs.declared.effects.Kept.TheVariants.{Few0, Few1, Few2, Many}

-- the changes, in order (own)
abbrev pub effects_in_order : Kept → List Effect
effects_in_order Few0 = []
effects_in_order (Few1 few) = few
effects_in_order (Few2 few) = few
effects_in_order (Many many) = many.items
