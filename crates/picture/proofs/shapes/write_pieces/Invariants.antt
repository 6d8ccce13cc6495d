-- So many pieces are written.
use Rattle.std.proofs.Common.{◌≡◌, ◌++◌, string_bytes}
use Rattle.picture.specs.Shapes.{text_of_pieces}
use Rattle.picture.proofs.shapes.write_pieces.Given as goal

abbrev pub invariant-pieces : goal.invariant-pieces
invariant-pieces l = string_bytes l.out ≡ string_bytes l.fn.out ++ text_of_pieces l.frame l.element l.words l.brief l.piece
