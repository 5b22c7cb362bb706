-- What there is of each log, as it is told.
use Rattle.std.proofs.Common.{◌≡◌, List, [], ◌∷◌, refl, ap}
use Rattle.std.specs.Prelude.{map}
use Rattle.vl_engine_model.specs.declared.segment.SegmentStat.{SegmentStat}
use Rattle.vl_script_model.specs.Sequential.{stat_of_line, segment_line}

pub told_back : (stats : List SegmentStat) → map stat_of_line (map segment_line stats) ≡ stats
told_back [] = refl
told_back (stat ∷ stats) = ap (λ (more : List SegmentStat). stat ∷ more) (told_back stats)
