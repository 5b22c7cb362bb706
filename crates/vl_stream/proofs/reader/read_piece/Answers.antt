use Rattle.std.proofs.Common.{[], length}
use Rattle.vl_frame.specs.laws.RunLaws.{frame_of}
use Rattle.vl_stream.proofs.Framed.{agrees, no_changes, no_end, none_partly, says_end}
use Rattle.vl_stream.specs.Grammar.{stream_grammar}
use Rattle.vl_stream.specs.Pieces.{piece_body, piece_kind}
use Rattle.vl_stream.proofs.reader.read_piece.Goals as goal

pub returns-in_default-clause-none : goal.returns-in_default-clause-none
returns-in_default-clause-none c piece s next =
    c.in_default.ensures.none (piece_kind piece) (piece_body piece)
    (frame_of stream_grammar 0 c.args.at c.args.frame.now piece [] s)

pub returns-then-found-frame-clause-none : goal.returns-then-found-frame-clause-none
returns-then-found-frame-clause-none c piece s next =
    none_partly c.args.at c.args.frame.now c.in-Some.found.kind c.in-Some.found.body.now c.in-Some.found.length
    c.in-Some.ensures.found.0 c.in-Some.ensures.found.1 c.if-found-frame.true piece s

pub returns-in-None-clause-none : goal.returns-in-None-clause-none
returns-in-None-clause-none c piece s next =
    no_changes c.in-Some.found.kind c.in-Some.found.body.now c.args.last.now c.args.records piece c.in-Changes.is
    (rw c.in-None.is at c.in_ok-read_changes-in-Changes.ensures.none)
    (agrees c.args.at c.args.frame.now c.in-Some.found.kind c.in-Some.found.body.now piece [] c.in-Some.ensures.found.0 s)
    s.lawful next

pub returns-then-not-counts-clause-none : goal.returns-then-not-counts-clause-none
returns-then-not-counts-clause-none c piece s next =
    no_end c.in-Some.found.kind c.in-Some.found.body.now c.args.last.now c.args.records piece c.in-BackupEnd.is
    (λ number fits counted says. c.counts.ensures.no c.if-not-counts.true number fits says)
    (agrees c.args.at c.args.frame.now c.in-Some.found.kind c.in-Some.found.body.now piece [] c.in-Some.ensures.found.0 s)
    s.lawful next

pub returns-else-not-counts-clause-end : goal.returns-else-not-counts-clause-end
returns-else-not-counts-clause-end c is =
    let y = c.counts.ensures.yes c.if-not-counts.false in
    says_end c.args.at c.args.frame.now c.in-Some.found.kind c.in-Some.found.body.now c.in-Some.found.length y.0 c.args.records
    c.in-Some.ensures.found.0 c.in-Some.ensures.rest c.if-found-frame.false c.in-BackupEnd.is y.1 c.ranges.records.fits y.2
