use Rattle.vl_table.proofs.Results.{if_none_weaker}
use Rattle.vl_table.proofs.begin.format_in.Goals as goal

pub returns-clause-none : goal.returns-clause-none
returns-clause-none c =
    if_none_weaker c.read_header.result _ _ (λ none format h. none format h.first h.readable h.header) c.read_header.ensures.none
