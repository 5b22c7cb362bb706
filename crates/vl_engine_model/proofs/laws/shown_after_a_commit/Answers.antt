use Rattle.std.proofs.Common.{Bool, true, false}
use Rattle.std.specs.Prelude.{T, IsTrue}
use Rattle.std.specs.FinMap.{is_sorted}
use Rattle.vl_model.specs.Keys.{key_cmp}
use Rattle.vl_engine_model.specs.laws.RulingShows.{commit_ruling-shows}
use Rattle.vl_engine_model.proofs.laws.shown_after_a_commit.Goals as goal

as_T : (b : Bool) → IsTrue b → T b
as_T true is = tt
as_T false is = cc

pub returns : goal.returns
returns c logs from l h t rising up begins shows =
    commit_ruling-shows logs from l h t up begins (as_T (is_sorted key_cmp t.writes) rising) shows
