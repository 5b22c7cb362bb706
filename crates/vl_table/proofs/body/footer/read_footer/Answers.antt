use Rattle.std.proofs.Common.{sym, ◌∙◌}
use Rattle.vl_table.specs.body.Footer.{points, head_of}
use Rattle.vl_table.specs.laws.FooterLaws.{one_head}
use Rattle.vl_table.specs.body.Lists.{counted_bytes}
use Rattle.vl_table.proofs.body.footer.read_footer.Goals as goal

pub returns-in_default-clause-none : goal.returns-in_default-clause-none
returns-in_default-clause-none c = λ foot spelled.
    c.in_default.ensures.none foot.head (counted_bytes points foot.points) spelled.head spelled.spelled

pub returns-in-None-clause-none : goal.returns-in-None-clause-none
returns-in-None-clause-none c = λ foot spelled.
    let none = rw c.in-None.is at c.in_ok-read_points.ensures.none in
    let one = one_head c.args.format (head_of c.in-Some.head) foot.head c.in-Some.rest.now
    (counted_bytes points foot.points) c.in-Some.ensures.lawful spelled.head (sym c.in-Some.ensures.found ∙ spelled.spelled) in
    none foot.points spelled.points one.1
