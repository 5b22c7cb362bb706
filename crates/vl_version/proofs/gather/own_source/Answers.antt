use Rattle.std.proofs.Common.{◌++◌, ◌∷◌, [], ap, ◌∙◌, List}
use Rattle.std.specs.FinMap.{entries}
use Rattle.vl_version.specs.declared.source.Source.{Source}
use Rattle.vl_version.specs.declared.source.Source.TheVariants.{Own}
use Rattle.vl_version.proofs.Telling.{quiet_own, tells_own}
use Rattle.vl_version.proofs.NamingLaws.{fail_own}
use Rattle.vl_version.proofs.gather.own_source.Goals as goal

pub returns-clause-winners : goal.returns-clause-winners
returns-clause-winners g c =
    tells_own g.H.HeldFile.bytes c.args.wanted.low.now c.args.wanted.high.now c.args.wanted.way c.args.number (entries c.args.own.now)
    c.as_slice.result.now c.within-writes.result c.push.new.self.items c.as_slice.ensures.entries c.as_slice.ensures.rising
    c.within-writes.ensures
    (c.in_ok-push.ensures.items
    ∙ ap (λ (l : List (Source g.row.H.Denot g.row.R.Denot g.H.HeldFile g.H.Clone)). l ++ Own c.within-writes.result ∷ []) c.new-sources.ensures.items)

pub returns-clause-quiet : goal.returns-clause-quiet
returns-clause-quiet g c =
    quiet_own g.H.HeldFile.bytes c.within-writes.result c.push.new.self.items
    (c.in_ok-push.ensures.items
    ∙ ap (λ (l : List (Source g.row.H.Denot g.row.R.Denot g.H.HeldFile g.H.Clone)). l ++ Own c.within-writes.result ∷ []) c.new-sources.ensures.items)

pub returns-clause-faults : goal.returns-clause-faults
returns-clause-faults g c span =
    fail_own g.H.HeldFile.bytes span c.within-writes.result c.push.new.self.items
    (c.in_ok-push.ensures.items
    ∙ ap (λ (l : List (Source g.row.H.Denot g.row.R.Denot g.H.HeldFile g.H.Clone)). l ++ Own c.within-writes.result ∷ []) c.new-sources.ensures.items)
