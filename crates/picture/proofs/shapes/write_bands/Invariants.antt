-- What stands at the left of so many bands is written.
use Rattle.std.proofs.Common.{◌≡◌, ◌++◌, string_bytes}
use Rattle.picture.specs.Shapes.{text_of_bands}
use Rattle.picture.proofs.shapes.write_bands.Given as goal

abbrev pub invariant-bands : goal.invariant-bands
invariant-bands l = string_bytes l.out ≡ string_bytes l.fn.out ++ text_of_bands l.frame l.band
