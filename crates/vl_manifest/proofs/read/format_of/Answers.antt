use Rattle.vl_manifest.proofs.Said.{none_weaker}
use Rattle.vl_manifest.proofs.read.format_of.Goals as goal

pub returns-clause-none : goal.returns-clause-none
returns-clause-none c =
    none_weaker c.read_header.result (λ none format h. none format h.first h.readable h.header) c.read_header.ensures.none
