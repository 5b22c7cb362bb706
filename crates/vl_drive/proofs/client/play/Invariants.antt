use Rattle.std.proofs.Common.{◌≡◌, ◌+◌, []}
use Rattle.vl_drive.proofs.Scoring.{draws}
use Rattle.vl_drive.specs.Clients.{HasMet}
use Rattle.vl_drive.specs.Knowing.{GoesOn}
use Rattle.vl_drive.specs.Modest.{IsIdle}
use Rattle.vl_drive.specs.Numbers.{number_in_turn}
use Rattle.vl_drive.specs.Playing.{HasScored}
use Rattle.vl_drive.proofs.client.play.Given as goal

abbrev pub invariant-loop-turn : goal.invariant-loop-turn
invariant-loop-turn g l =
    let v = g.S.Shop.knows l.fn.shop in
    let w = g.S.Shop.knows l.shop in
    GoesOn v w × (l.x ≡ number_in_turn l.fn.seed l.turn) × (l.score.commits + l.score.conflicts ≡ l.turn)
    × (v.own ≡ [] → HasScored (draws l.fn.seed) l.turn l.score.commits l.score.conflicts w)
    × (v.own ≡ [] → IsIdle l.turn w) × (v.own ≡ [] → HasMet v.seen w)
