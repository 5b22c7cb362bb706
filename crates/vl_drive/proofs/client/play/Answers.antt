use Rattle.std.proofs.Common.{Bool, refl, ap, ◌∙◌, subst, arith}
use Rattle.vl_drive.proofs.Meeting.{met_none, met_turn}
use Rattle.vl_drive.proofs.Modesty.{idle_modest, idle_new, modest_more}
use Rattle.vl_drive.proofs.Playing.{on_itself, on_then}
use Rattle.vl_drive.proofs.Scoring.{draws, next_turn, score_none, turn_committed, turn_refused}
use Rattle.vl_drive.specs.Numbers.{transfer_of}
use Rattle.vl_drive.specs.Playing.{HasTaken}
use Rattle.vl_drive.proofs.client.play.Goals.{then-branch, else-branch}
use Rattle.vl_drive.proofs.client.play.Goals as goal

pub loop-turn-init : goal.loop-turn-init
loop-turn-init g c =
    let v = g.S.Shop.knows c.args.shop.now in
    (on_itself v, refl, refl, λ none. score_none (draws c.args.seed) v none, λ none. idle_new v none, λ none. met_none v none)

pub loop-turn-preserved : goal.loop-turn-preserved
loop-turn-preserved g c =
    let inv = c.loop-turn.invariant in
    let shop = g.S.Shop in
    let v = shop.knows c.args.shop.now in
    let u = shop.knows c.loop-turn.shop in
    let w = shop.knows c.take_turn.new.shop in
    let seed = c.args.seed in
    let turn = c.loop-turn.turn in
    let x = c.loop-turn.x in
    let score = c.loop-turn.score in
    let t = c.of.result in
    let on = on_then v u w inv.0 c.in_ok-take_turn.ensures.on in
    let next = c.next_number-x.ensures ∙ next_turn seed turn x inv.1 in
    let is = c.of.ensures ∙ ap transfer_of c.next_number-x.ensures in
    let taken = c.in_ok-take_turn.ensures.taken in
    let count = inv.2 in
    elim c.if-branch.branch [
      | then-branch b ↦ rw b.score-is (
        on,
        next,
        omega (arith, count),
        λ none. turn_committed seed turn score.commits score.conflicts x t u w inv.1 is (inv.3 none)
            (subst (λ (committed : Bool). HasTaken t committed u w) b.if-branch.true taken),
        λ none. c.in_ok-take_turn.ensures.idle turn (inv.4 none),
        λ none. met_turn v.seen t _ u w (inv.5 none) taken,
      )
      | else-branch b ↦ rw b.score-is (
        on,
        next,
        omega (arith, count),
        λ none. turn_refused seed turn score.commits score.conflicts x t u w inv.1 is (inv.3 none)
            (subst (λ (committed : Bool). HasTaken t committed u w) b.if-branch.false taken),
        λ none. c.in_ok-take_turn.ensures.idle turn (inv.4 none),
        λ none. met_turn v.seen t _ u w (inv.5 none) taken,
      )
    ]

pub returns-in_err-take_turn-clause-modest : goal.returns-in_err-take_turn-clause-modest
returns-in_err-take_turn-clause-modest g c none =
    let turn = c.loop-turn.turn in
    let below = c.loop-turn-test.true in
    modest_more turn c.args.txns (g.S.Shop.knows c.take_turn.new.shop) (omega (arith, below))
    (c.in_err-take_turn.ensures.modest turn (c.loop-turn.invariant.4 none))

pub returns-clause-modest : goal.returns-clause-modest
returns-clause-modest g c none =
    let turn = c.loop-turn.turn in
    let end = c.loop-turn.auto.turn-end in
    let w = g.S.Shop.knows c.loop-turn.shop in
    modest_more turn c.args.txns w (omega (arith, end)) (idle_modest turn w (c.loop-turn.invariant.4 none))
