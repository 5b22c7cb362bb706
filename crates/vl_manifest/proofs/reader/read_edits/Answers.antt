use Rattle.vl_frame.specs.laws.Laws.{one_frame}
use Rattle.vl_frame.specs.laws.RunLaws.{frame_of}
use Rattle.vl_frame.specs.declared.kinds.FileKind.TheVariants as files
use Rattle.vl_frame.specs.declared.kinds.FrameKind.TheVariants as kinds
use Rattle.vl_manifest.specs.Grammar.{edits_grammar}
use Rattle.vl_manifest.specs.Edits.{edits_body}
use Rattle.vl_manifest.proofs.reader.read_edits.Goals as goal

pub returns-in_default-clause-none : goal.returns-in_default-clause-none
returns-in_default-clause-none c = λ edits rest s.
    c.in_default.ensures.none kinds.Edits (edits_body edits)
    (frame_of (edits_grammar c.args.format) c.args.number c.args.at c.args.bytes.now edits rest s)

pub returns-in-None-clause-none : goal.returns-in-None-clause-none
returns-in-None-clause-none c = λ edits rest s.
    let frame = c.in-Some.frame in
    let same = one_frame files.Manifest c.args.number c.args.at c.args.bytes.now frame.kind kinds.Edits frame.body.now (edits_body edits)
    c.in-Some.ensures.found.0 (frame_of (edits_grammar c.args.format) c.args.number c.args.at c.args.bytes.now edits rest s) in
    let none = rw c.in-None.is at c.in_ok-read_body.ensures.none in
    none edits s.lawful same.1
