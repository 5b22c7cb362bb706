use Rattle.std.proofs.Common.{◌≡◌, [], ap}
use Rattle.vl_drive.specs.Steps.{history_by}
use Rattle.vl_sequence.proofs.Writing.{small_none}
use Rattle.vl_thread_tests.proofs.sequences.overtaken.OvertakenShop.commit.Goals as goal
use Rattle.vl_thread_tests.proofs.sequences.overtaken.OvertakenShop.commit.Goals.{then-self+in-Ok+then-is_ok+in-Ok-At, then-self+in-Ok+then-is_ok+in-Err}
use Rattle.vl_thread_tests.proofs.sequences.overtaken.OvertakenShop.commit.Goals.{then-self+in-Ok+else-is_ok, then-self+in-Err-TooMany, else-self}

pub set-requires-clause-small : goal.set-requires-clause-small
set-requires-clause-small g c = small_none (g.S.Shop.writes c.in-Ok.write) c.in-Ok.ensures.new

pub commit-requires-clause-sees : goal.commit-requires-clause-sees
commit-requires-clause-sees g c =
    let v = g.S.Shop.knows c.begin.new.self in
    let h = history_by v.origin v.seen in
    (h, [], c.set.ensures.sees h [] c.in-Ok.ensures.sees)

pub returns-clause-steps : goal.returns-clause-steps
returns-clause-steps g c h reads sees =
    let shop_is : c.if-self.self.shop ≡ c.args.self.now.shop = elim c.if-self.branch [
      | then-self+in-Ok+then-is_ok+in-Ok-At w ↦ ap (λ s. s.shop) w.self-is
      | then-self+in-Ok+then-is_ok+in-Err w ↦ ap (λ s. s.shop) w.self-is
      | then-self+in-Ok+else-is_ok w ↦ ap (λ s. s.shop) w.self-is
      | then-self+in-Err-TooMany w ↦ ap (λ s. s.shop) w.self-is
      | else-self w ↦ ap (λ s. s.shop) w.self-is
    ] in
    rw shop_is at (c.commit-2.ensures.steps h reads sees)
