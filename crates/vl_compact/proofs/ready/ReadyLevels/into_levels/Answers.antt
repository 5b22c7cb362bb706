use Rattle.std.proofs.Common.{◌∙◌, ap}
use Rattle.vl_compact.proofs.PutLaws.{put_deeper, put_front}
use Rattle.vl_compact.proofs.ready.ReadyLevels.into_levels.Goals as goal

pub returns-then-level-eq0 : goal.returns-then-level-eq0
returns-then-level-eq0 g c = λ target inputs first ls new are begins.
    put_front g.H.HeldFile.bytes target inputs first ls new c.args.self are begins c.new.result c.if-level-eq0.true
    c.new.ensures.newest c.new.ensures.deeper

pub returns : goal.returns
returns g c = λ target inputs first ls new are begins.
    put_deeper g.H.HeldFile.bytes target inputs first ls new c.args.self are begins c.new-2.result c.if-level-eq0.false
    c.new-2.ensures.newest (ap (λ v. v.items) c.new-2.ensures.deeper ∙ c.with_level.ensures)
