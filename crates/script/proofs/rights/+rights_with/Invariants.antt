-- The names between commas grow shorter.
use Rattle.std.proofs.Common.{length}
use Rattle.script.proofs.rights.+rights_with.Given as goal

abbrev pub decreases-rights_with : goal.decreases-rights_with
decreases-rights_with l = length l.word.now
