use Rattle.std.proofs.Common.{ℕ, List, ap, refl, ◌∙◌}
use Rattle.std.specs.List.{filter}
use Rattle.vl_recover.specs.opening.Named.{is_stray}
use Rattle.vl_recover.specs.opening.LogsSoFar.{damage_of, walk_of}
use Rattle.vl_recover.proofs.opening.Composing.{is_found, logs_refuse, numbered_last}
use Rattle.vl_recover.proofs.find.found.Goals as goal

pub returns-in-Ok-clause-answer : goal.returns-in-Ok-clause-answer
returns-in-Ok-clause-answer g c = λ disk read levels is lists leads logs.
    is_found read c.args.state levels c.args.led.items leads c.args.logs logs disk c.args.names.items _ is lists c.requires.greatest
    c.in-Ok.is refl refl refl
    (c.strays.ensures ∙ ap (λ (led : List ℕ). filter (is_stray c.args.state led) c.args.names.items) c.deref.ensures.value)

pub returns-in-Err-clause-answer : goal.returns-in-Err-clause-answer
returns-in-Err-clause-answer g c = λ disk read levels is lists leads logs.
    logs_refuse read c.args.state levels c.args.led.items leads c.args.logs logs (damage_of c.in-Err.damage) (ap walk_of c.in-Err.is)

pub returns-in-Ok-clause-last : goal.returns-in-Ok-clause-last
returns-in-Ok-clause-last g c = numbered_last c.args.names.items c.args.greatest c.requires.greatest c.args.logs.last c.requires.last
