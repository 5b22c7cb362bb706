-- What is so of all that lives: transactions and views.
use Rattle.std.specs.Prelude.{◌≤◌, length}
use Rattle.std.specs.List.{AllByRecursion}
use Rattle.vl_model.specs.History.{History, last_number}
use Rattle.vl_model.specs.Limits.{max_live}
use Rattle.vl_engine_model.specs.Rising.{IsRising}
use Rattle.vl_engine_model.specs.Ruling.{Ruling}
use Rattle.vl_engine_model.specs.declared.layout.Layout.{Layout}
use Rattle.vl_engine_model.specs.declared.live.Live.{Live}

-- tickets rise, so that no two have one; each reads at a number that is at most the last commit's; and
-- there are no more than the limit
pub record IsLivedIn (l : Layout) (h : History) : Type 0 where
  pub rising : IsRising (λ (x : Live). x.ticket) l.live
  pub known : AllByRecursion (λ (x : Live). x.number ≤ last_number h) l.live
  pub few : length l.live ≤ max_live

-- all that a ruling leaves
abbrev pub LeavesLive : {A : Type 0} → Ruling A → Type 0
LeavesLive r = IsLivedIn r.layout r.history
