use Rattle.std.proofs.Common.{sym, ap, ◌∙◌}
use Rattle.std.specs.Option.{option_map}
use Rattle.vl_mem.specs.Kept.{image_of}
use Rattle.vl_mem.proofs.Leaving.{left_of_all, pushed, with_left}
use Rattle.vl_mem.proofs.files_left.files_left.Goals as goal

pub loop-name-preserved-in-Continue-1 : goal.loop-name-preserved-in-Continue-1
loop-name-preserved-in-Continue-1 c = pushed c.args.outcome c.loop-name.name-iterator c.next.new.self
    c.loop-name.files.items c.push.new.self.items c.in-Some.name c.in-Some.entry c.in-Some-left.bytes _
    c.in-Some.ensures.steps c.in_ok-push.ensures.items
    (sym c.left.ensures ∙ ap (option_map (λ bytes. bytes.items)) c.in-Some-left.is) c.loop-name.invariant

pub returns : goal.returns
returns c disk has = sym
    (ap (λ es. with_left c.args.outcome es (image_of c.loop-name.files.items)) c.in-None.ensures.steps.0) ∙ c.loop-name.invariant
    ∙ left_of_all c.args.outcome c.args.entries disk has c.into_iter-name-iterator.ensures.into_iter_gives.5
