use Rattle.vl_stream.proofs.Headers.{no_letters, no_numbers}
use Rattle.vl_stream.proofs.reader.StreamReader.begin.Goals as goal

pub returns-then-branch-lt4-clause-other : goal.returns-then-branch-lt4-clause-other
returns-then-branch-lt4-clause-other g c input is _ =
    no_letters input _ _ c.fill.new.out c.in_ok-fill.field-0 is c.in_ok-fill.ensures.given c.if-branch-lt4.true
    c.in_ok-fill.ensures.length c.in_ok-fill.ensures.end

pub returns-then-branch-lt12-clause-other : goal.returns-then-branch-lt12-clause-other
returns-then-branch-lt12-clause-other g c input is _ =
    no_numbers input _ _ _ c.fill.new.out c.fill-2.new.out c.in_ok-fill.field-0 c.in_ok-fill-2.field-0 is
    c.in_ok-fill.ensures.given c.in_ok-fill.ensures.length c.in_ok-fill-2.ensures.given c.if-branch-lt12.true
    c.in_ok-fill-2.ensures.length c.in_ok-fill-2.ensures.end
