-- Each piece is written in turn.
use Rattle.std.proofs.Common.{sym, append-nil}
use Rattle.picture.specs.Shapes.{text_of_pieces}
use Rattle.picture.proofs.Walks.{piece_step}
use Rattle.picture.proofs.shapes.write_pieces.Goals as goal

pub pieces-init : goal.pieces-init
unfolding text_of_pieces
pieces-init c = sym (append-nil _)

pub pieces-preserved : goal.pieces-preserved
pieces-preserved c =
    piece_step c.args.frame.now c.args.element.now c.args.words.now c.args.brief.now c.pieces.piece _ c.pieces.invariant c.in_ok-write_piece.ensures
