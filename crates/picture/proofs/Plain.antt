-- What is written of a byte has no markup, and so has what is written of a text.
use Rattle.std.proofs.Common.{◌≡◌, ℕ, List, [], ◌∷◌, ◌∙◌, refl, arith, Bool, true, false, ◌||◌, ◌==◌, flat_map, ap}
use Rattle.std.specs.List.{list_any}
use Rattle.std.proofs.lemmas.List.Folds.{list_any-append}
use Rattle.picture.specs.Escaping.{escaped, escaped_byte, is_markup}

plain_byte : (byte : ℕ) → list_any is_markup (escaped_byte byte) ≡ false
plain_byte byte = grind arith

no_markup_in : (text : List ℕ) → list_any is_markup (flat_map escaped_byte text) ≡ false
no_markup_in [] = refl
no_markup_in (byte ∷ text) = grind (arith, list_any-append, plain_byte byte, no_markup_in text)

pub no_markup : (text : List ℕ) → list_any is_markup (escaped text) ≡ false
no_markup text = no_markup_in text
