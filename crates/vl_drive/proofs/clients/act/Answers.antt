use Rattle.std.proofs.Common.{sym, ◌∙◌, subst}
use Rattle.std.proofs.lemmas.Bool.{false≢true}
use Rattle.std.specs.Prelude.{IfOk}
use Rattle.vl_drive.proofs.Gathering.{count_up, kept_of, none_up}
use Rattle.vl_drive.proofs.Scoring.{draws}
use Rattle.vl_drive.specs.Clients.{HasOpened}
use Rattle.vl_drive.specs.Playing.{HasScored}
use Rattle.vl_drive.specs.declared.client.Score.{Score}
use Rattle.vl_drive.proofs.clients.act.Goals.{then-player, else-player}
use Rattle.vl_drive.proofs.clients.act.Goals as goal

pub returns : goal.returns
returns g c =
    let knows = g.S.Shop.knows in
    let txns = c.args.txns in
    elim c.if-player.branch [
      | then-player w ↦ rw w.player-is (rw w.player2-is (record {
        on = w.keep_up-player.ensures.on;
        played = λ plays none. absurd (false≢true (sym plays ∙ w.if-player.true));
        met = λ plays none. absurd (false≢true (sym plays ∙ w.if-player.true));
        kept_up = λ keeps note opened. kept_of (HasOpened note (knows w.keep_up-player.new.shop)) w.keep_up-player.result
            w.keep_up-player.ensures.none (w.keep_up-player.ensures.opened note opened);
        modest = λ plays none. absurd (false≢true (sym plays ∙ w.if-player.true));
        still_modest = λ keeps modest. w.keep_up-player.ensures.modest txns modest;
        count = none_up txns w.keep_up-player.result w.keep_up-player.ensures.none;
        trouble = w.keep_up-player.ensures.trouble;
      }))
      | else-player w ↦ rw w.player-is (rw w.player2-is (record {
        on = w.play-player.ensures.on;
        played = λ plays none. subst (λ s. IfOk w.play-player.result (λ (score : Score).
            HasScored (draws s) txns score.commits score.conflicts (knows w.play-player.new.shop)))
            w.seed_of.ensures (w.play-player.ensures.scored none);
        met = λ plays none. w.play-player.ensures.met none;
        kept_up = λ keeps note opened. absurd (false≢true (sym w.if-player.false ∙ keeps));
        modest = λ plays none. w.play-player.ensures.modest none;
        still_modest = λ keeps modest. absurd (false≢true (sym w.if-player.false ∙ keeps));
        count = count_up txns w.play-player.result w.play-player.ensures.count;
        trouble = w.play-player.ensures.trouble;
      }))
    ]
