-- An engine's front knows the history for which the engine stands.
use Rattle.std.specs.Prelude.{ℕ}
use Rattle.std.proofs.Common.{sym, subst}
use Rattle.vl_conflict.specs.Recent.{Remembers}
use Rattle.vl_engine_laws.specs.Represents.{Fronts}
use Rattle.vl_engine_laws.specs.declared.kept.Core.{Core}
use Rattle.vl_engine_laws.specs.laws.LiveLaws.{same_floor}
use Rattle.vl_front.specs.Front.{Knows}
use Rattle.vl_engine_model.specs.declared.layout.Layout.{Layout}
use Rattle.vl_model.specs.History.{History}

pub knows_of : {H : Type 0} (core : Core H) (h : History) (l : Layout) → Fronts core h l → Knows core.front h
knows_of core h l is =
    let f = is.front in
    record {
      last = f.last;
      remembers = subst (λ (n : ℕ). Remembers n h core.front.recent.named)
          (sym (same_floor core.front.oracle l h f.last f.live_are f.lived)) f.remembers;
    }
