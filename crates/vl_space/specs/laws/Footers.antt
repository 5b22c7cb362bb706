-- What the footers of a version's tables say, gathered level by level.
use Rattle.std.specs.Prelude.{◌≡◌, ◌+◌, Bool, true, false, if◌then◌else◌, List, [], ◌∷◌, ◌++◌, refl}
use Rattle.std.specs.List.{filter}
use Rattle.std.proofs.Common.{ap}
use Rattle.vl_model.specs.declared.point.Point.{Point}
use Rattle.vl_space.specs.Collecting.{points_in}
use Rattle.vl_table.specs.declared.table.Table.{Table}

module _ {H : Type 0} where
  pub points-append : (ts us : List (Table H)) → points_in (ts ++ us) ≡ points_in ts ++ points_in us
  points-append [] us = refl
  points-append (t ∷ ts) us = ap (λ (ps : List (List Point)). points_in (t ∷ []) ++ ps) (points-append ts us)

  pub some-append : (p : Table H → Bool) (ts us : List (Table H))
      → points_in (filter p (ts ++ us)) ≡ points_in (filter p ts) ++ points_in (filter p us)
  some-append p [] us = refl
  some-append p (t ∷ ts) us = by (p t) (some-append p ts us)
    where
      by : (b : Bool) → points_in (filter p (ts ++ us)) ≡ points_in (filter p ts) ++ points_in (filter p us)
          → points_in (if b then t ∷ filter p (ts ++ us) else filter p (ts ++ us))
          ≡ points_in (if b then t ∷ filter p ts else filter p ts) ++ points_in (filter p us)
      by true later = ap (λ (ps : List (List Point)). points_in (t ∷ []) ++ ps) later
      by false later = later
