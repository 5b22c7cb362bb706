-- How the frames of a stream are spelled.
use Rattle.vl_stream.specs.Pieces.{IsPiece, Piece, piece_body, piece_kind}
use Rattle.vl_stream.specs.laws.GrammarLaws.{in_backup, one_spelling}
use Rattle.vl_frame.specs.Runs.{Grammar}
use Rattle.vl_frame.specs.declared.kinds.FileKind.TheVariants as files

-- A backup's frames are checked as those of a file with number 0.
abbrev pub stream_grammar : Grammar Piece
stream_grammar = record {
  file = files.Backup;
  kind = piece_kind;
  body = piece_body;
  lawful = IsPiece;
  in_file = in_backup;
  one = one_spelling;
}
