use Rattle.std.proofs.Common.{sym, ◌∙◌}
use Rattle.vl_version.proofs.SinceLaws.{since_passed, since_pushed}
use Rattle.vl_version.proofs.levels.since.add_if_since.Goals as goal

pub returns-then-not-is_since : goal.returns-then-not-is_since
returns-then-not-is_since g c before same =
    since_passed g.H.HeldFile.bytes c.args.since before c.args.all.now.items c.args.table.now
    (sym c.is_since.ensures ∙ c.if-not-is_since.true) same

pub returns : goal.returns
returns g c before same =
    since_pushed g.H.HeldFile.bytes c.args.since before c.args.all.now.items c.push.new.self.items c.args.table.now
    c.in_ok-share.field-0
    (sym c.is_since.ensures ∙ c.if-not-is_since.false) same
    (record { shape = c.in_ok-share.ensures.shape; bytes = c.in_ok-share.ensures.bytes }) c.in_ok-push.ensures.items
