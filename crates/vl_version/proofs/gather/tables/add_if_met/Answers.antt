use Rattle.std.proofs.Common.{◌∷◌, [], sym, ◌∙◌}
use Rattle.vl_version.proofs.TableSources.{have_outside, have_shared}
use Rattle.vl_version.proofs.NamingLaws.{meet_next, meet_outside}
use Rattle.vl_version.proofs.WholeLaws.{are_met, are_outside}
use Rattle.vl_version.proofs.gather.tables.add_if_met.Goals as goal

pub returns-then-not-meets-clause-have : goal.returns-then-not-meets-clause-have
returns-then-not-meets-clause-have g c es fs have of_t =
    have_outside g.H.HeldFile.bytes c.args.span.now c.args.table.now c.args.met.now.items
    (sym c.meets.ensures ∙ c.if-not-meets.true) es fs have of_t

pub returns-clause-have : goal.returns-clause-have
returns-clause-have g c es fs have of_t =
    have_shared g.H.HeldFile.bytes g.H.HeldFile.size g.H.HeldFile.named c.args.span.now c.args.table.now c.in_ok-share.field-0
    c.args.met.now.items c.push.new.self.items c.in_ok-share.ensures c.in_ok-push.ensures.items es fs have of_t

pub returns-then-not-meets-clause-faults : goal.returns-then-not-meets-clause-faults
returns-then-not-meets-clause-faults g c before meet =
    meet_outside g.H.HeldFile.bytes c.args.span.now before (c.args.table.now ∷ []) c.args.met.now.items meet

pub returns-clause-faults : goal.returns-clause-faults
returns-clause-faults g c before meet =
    meet_next g.H.HeldFile.bytes c.args.span.now g.H.HeldFile.size g.H.HeldFile.named before c.args.met.now.items c.args.table.now
    c.in_ok-share.field-0 c.in_ok-share.ensures (sym c.meets.ensures ∙ c.if-not-meets.false) meet c.push.new.self.items
    c.in_ok-push.ensures.items

pub returns-then-not-meets-clause-copies : goal.returns-then-not-meets-clause-copies
returns-then-not-meets-clause-copies g c before are =
    are_outside g.H.HeldFile.bytes c.args.span.now before c.args.met.now.items c.args.table.now
    (sym c.meets.ensures ∙ c.if-not-meets.true) are

pub returns-clause-copies : goal.returns-clause-copies
returns-clause-copies g c before are =
    are_met g.H.HeldFile.bytes c.args.span.now g.H.HeldFile.size g.H.HeldFile.named before c.args.met.now.items c.push.new.self.items
    c.args.table.now c.in_ok-share.field-0 (sym c.meets.ensures ∙ c.if-not-meets.false) c.in_ok-share.ensures c.in_ok-push.ensures.items are
