use Rattle.std.proofs.Common.{rules}
use Rattle.vl_manifest.proofs.writer.write_edit.Goals as goal

pub returns-in-Head-clause-written : goal.returns-in-Head-clause-written
returns-in-Head-clause-written c = rw (c.in-Head.is, ← c.head_bytes.ensures.bytes) (search rules)
