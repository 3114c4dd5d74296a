-- What a reader's `Piece` is among the definitions of reading.
use Rattle.der.specs.FirstFault as reading
use Rattle.der.specs.declared.read.Piece.{Piece}

abbrev pub piece_view : Piece → reading.Piece
piece_view piece = record { identifier = piece.tag.octet; contents = piece.contents.now; rest = piece.rest.now }
