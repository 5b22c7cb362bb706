use Rattle.std.proofs.Common.{ap, ◌∙◌, take}
use Rattle.vl_version.proofs.CutLaws.{back_cut}
use Rattle.vl_version.proofs.own.cut_back.Goals as goal

pub returns : goal.returns
returns c =
    ap (λ k. take k c.args.writes.now) c.count_below-end.ensures.count ∙ back_cut c.args.writes.now c.requires c.args.high.now
