-- A line of a cell in pieces, as code puts it. This project's.
use Rattle.std.specs.Prelude.{List, decimal}
use Rattle.std.specs.List.{flat_map}
use Rattle.hw_names.specs.Name.{Text}
use Rattle.ver_print.specs.Words.{counter, part}
use Rattle.ver_print.specs.declared.pieces.Piece.{Piece}
use Rattle.ver_print.specs.declared.pieces.Piece.TheVariants.{Words, Part, Number, Counter}

abbrev pub piece_text : Text → Piece → Text
piece_text cell (Words text) = text.now
piece_text cell (Part name) = part cell name.now
piece_text cell (Number n) = decimal n
piece_text cell Counter = counter cell

abbrev pub pieces_text : Text → List Piece → Text
pieces_text cell pieces = flat_map (piece_text cell) pieces
