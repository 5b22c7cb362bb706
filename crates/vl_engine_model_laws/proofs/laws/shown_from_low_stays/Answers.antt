use Rattle.std.proofs.Common.{Bool, true, false}
use Rattle.std.specs.Prelude.{T, IsTrue}
use Rattle.std.specs.FinMap.{is_sorted}
use Rattle.vl_model.specs.Keys.{key_cmp}
use Rattle.vl_engine_model.specs.laws.LowRulings.{commit_shows_low, rotate_shows_low, flush_shows_low, relocate_shows_low}
use Rattle.vl_engine_model.specs.laws.LowRulings.{ended_shows_low, begun_shows_low, keeping_shows_low}
use Rattle.vl_engine_model_laws.proofs.laws.shown_from_low_stays.Goals as goal

as_T : (b : Bool) → IsTrue b → T b
as_T true is = tt
as_T false is = cc

pub returns-clause-commit : goal.returns-clause-commit
returns-clause-commit c logs l h t rising up shows = commit_shows_low h l logs t (as_T (is_sorted key_cmp t.writes) rising) up shows

pub returns-clause-rotate : goal.returns-clause-rotate
returns-clause-rotate c logs l h shows = rotate_shows_low h l logs shows

pub returns-clause-flush : goal.returns-clause-flush
returns-clause-flush c logs l h level deeper are found shows = flush_shows_low h l logs level deeper are found shows

pub returns-clause-relocate : goal.returns-clause-relocate
returns-clause-relocate c logs l h pass batch there shows = relocate_shows_low h l logs pass batch there shows

pub returns-clause-end : goal.returns-clause-end
returns-clause-end c logs l h ticket shows = ended_shows_low h l logs ticket shows

pub returns-clause-begin : goal.returns-clause-begin
returns-clause-begin c logs l h ticket shows = begun_shows_low h l logs ticket shows

pub returns-clause-keep : goal.returns-clause-keep
returns-clause-keep c logs l h v shows = keeping_shows_low h l logs v shows
