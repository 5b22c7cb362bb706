-- Items of bodies that are read.
use Rattle.std.specs.Prelude.{◌-◌, ◌<◌, ◌≤◌, ℕ, IsTrue, nat_lt, Option, None, Some, List, length, get_or}
use Rattle.std.proofs.Common.{sym, subst, arith}
use Rattle.std.proofs.lemmas.Bool.Decides.{nat_tests}
use Rattle.vl_table.specs.body.Lists.{IsNext}
use Rattle.vl_table.specs.body.Lists.{last_item}
use Rattle.vl_table.specs.laws.ListLaws.{last-of}
use Rattle.vl_table.specs.body.Footer.{point_bytes, points}
use Rattle.vl_table.specs.body.Index.{place_bytes, places}
use Rattle.vl_table.specs.declared.body.index.BlockPlace.{BlockPlace}
use Rattle.vl_model.specs.declared.point.Point.{Point}

pub place_is_some : (p : BlockPlace) → 1 ≤ length (place_bytes p)
place_is_some p = omega arith

pub point_is_some : (p : Point) → 1 ≤ length (point_bytes p)
point_is_some p = omega arith

-- a point behind the last of some
pub next_point : (list : List Point) (p d : Point) → 0 < length list
    → (IsTrue (nat_lt (get_or list (length list - 1) d).segment p.segment) → IsNext points (last_item list) p)
    × (IsNext points (last_item list) p → IsTrue (nat_lt (get_or list (length list - 1) d).segment p.segment))
next_point list p d some =
    let last = get_or list (length list - 1) d in
    let is = last-of list d some in (
      λ less. subst (λ (o : Option Point). IsNext points o p) (sym is) (is_less last.segment p.segment less),
      λ next. less_is last.segment p.segment (subst (λ (o : Option Point). IsNext points o p) is next),
    )
  where
    is_less : (m n : ℕ) → IsTrue (nat_lt m n) → m < n
    is_less m n less = grind (arith, nat_tests)

    less_is : (m n : ℕ) → m < n → IsTrue (nat_lt m n)
    less_is m n less = grind (arith, nat_tests)

-- places come in any order
pub next_place : (o : Option BlockPlace) (p : BlockPlace) → IsNext places o p
next_place None p = tt
next_place (Some q) p = tt
