-- An image gives one finding, and its strays are as many in any list of them.
use Rattle.std.proofs.Common.{◌≡◌, ⊎_elim, ℕ, ◌≤◌, ◌<◌, List, [], ◌∷◌, ◌++◌, length, refl, sym, ap, subst, ◌∙◌, arith}
use Rattle.std.specs.Prelude.{◌≢◌, zero, suc, None, Result, Ok, Err, Contains, AllPairs, slice_index_or}
use Rattle.std.proofs.lemmas.Bool.{cases_lt}
use Rattle.vl_disk.specs.Crash.{Image}
use Rattle.vl_disk.specs.declared.name.Name.{Name}
use Rattle.vl_disk.specs.declared.name.Name.TheVariants.{Log, Manifest, Table}
use Rattle.vl_engine_model.specs.declared.segment.Segment.{Segment}
use Rattle.vl_recover.specs.opening.Answers.{AreStrayNames, Finds, IsNotOpened, and_made, as_segments, calls_to_open, logs_then, used_up}
use Rattle.vl_recover.specs.opening.Opening.{Opening, Opens, Refusal, StandingLogs}
use Rattle.vl_recover.specs.laws.opening.OpeningLaws.{one_standing, single_opening}
use Rattle.vl_recover.specs.opening.Plans.{AreGreatest, Greatest, IsGreatest, calls_of_opening, exhausted, log_made, new_state}
use Rattle.vl_recover.specs.laws.repairing.StageLaws.{ok_same}
use Rattle.vl_recover.specs.opening.Walk.{StandingLog}

err_ok : {A E : Type 0} (e : E) (a : A) → ◌≡◌ {A = Result A E} (Err e) (Ok a) → ⊥
err_ok e a is = cc

module _ (image : Image) where
  one_greatest : (kind : ℕ → Name) (a b : ℕ) → IsGreatest image kind a → IsGreatest image kind b → a ≡ b
  one_greatest kind a b is_a is_b = ⊎_elim
      (λ (less : a < b). absurd (is_b.stands (omega (arith, less)) (is_a.none_above b less)))
      (λ (le : b ≤ a). ⊎_elim
      (λ (less : b < a). absurd (is_a.stands (omega (arith, less)) (is_b.none_above a less)))
      (λ (ge : a ≤ b). omega (arith, le, ge))
      (cases_lt b a))
      (cases_lt a b)

  all_greatest : (a b : Greatest) → AreGreatest image a → AreGreatest image b → a ≡ b
  all_greatest a b is_a is_b =
      ap (λ (n : ℕ). record { log = n; table = a.table; manifest = a.manifest }) (one_greatest Log a.log b.log is_a.log is_b.log)
      ∙ ap (λ (n : ℕ). record { log = b.log; table = n; manifest = a.manifest }) (one_greatest Table a.table b.table is_a.table is_b.table)
      ∙ ap (λ (n : ℕ). record { log = b.log; table = b.table; manifest = n }) (one_greatest Manifest a.manifest b.manifest is_a.manifest
      is_b.manifest)

  module _ (a b : Finds image) where
    pub same_opening : a.opening ≡ b.opening
    same_opening = ok_same {E = Refusal} a.opening b.opening (single_opening image (Ok a.opening) (Ok b.opening) a.opens b.opens)

    pub same_greatest : a.greatest ≡ b.greatest
    same_greatest = all_greatest a.greatest b.greatest a.are_greatest b.are_greatest

    pub same_logs : a.logs ≡ b.logs
    same_logs = one_standing image b.opening.state.head a.logs b.logs
        (subst (λ (o : Opening). StandingLogs image o.state.head a.logs) same_opening a.standing) b.standing

    pub same_used_up : used_up a ≡ used_up b
    same_used_up =
        ap (λ (g : Greatest). exhausted g a.opening.state a.logs) same_greatest
        ∙ ap (λ (o : Opening). exhausted b.greatest o.state a.logs) same_opening
        ∙ ap (λ (logs : List StandingLog). exhausted b.greatest b.opening.state logs) same_logs

    pub same_calls : (removed : ℕ) → calls_to_open a removed ≡ calls_to_open b removed
    same_calls removed =
        ap (λ (g : Greatest). calls_of_opening g a.opening.state a.logs removed) same_greatest
        ∙ ap (λ (o : Opening). calls_of_opening b.greatest o.state a.logs removed) same_opening
        ∙ ap (λ (logs : List StandingLog). calls_of_opening b.greatest b.opening.state logs removed) same_logs

    pub same_logs_then : logs_then a ≡ logs_then b
    same_logs_then =
        ap (λ (g : Greatest). of g a.opening a.logs) same_greatest
        ∙ ap (λ (o : Opening). of b.greatest o a.logs) same_opening
        ∙ ap (λ (logs : List StandingLog). of b.greatest b.opening logs) same_logs
      where
        of : Greatest → Opening → List StandingLog → List Segment
        of g o logs = as_segments logs ++ and_made (log_made (new_state g o.state) logs)

-- ---- as many strays

cut_out : ℕ → List Name → List Name
cut_out k [] = []
cut_out zero (name ∷ names) = names
cut_out (suc k) (name ∷ names) = name ∷ cut_out k names

cut_length : (k : ℕ) (names : List Name) → k < length names → length names ≡ suc (length (cut_out k names))
unfolding cut_out
cut_length k [] less = absurd (omega (arith, less))
cut_length zero (name ∷ names) less = refl
cut_length (suc k) (name ∷ names) less = let rest = cut_length k names (omega (arith, less)) in omega (arith, rest)

cut_has : (k j : ℕ) (names : List Name) (name : Name) → j ≢ k → j < length names → slice_index_or names j name ≡ name
    → Contains (cut_out k names) name
unfolding cut_out
cut_has k j [] name other less is = absurd (omega (arith, less))
cut_has zero zero (first ∷ names) name other less is = absurd (other refl)
cut_has zero (suc j) (first ∷ names) name other less is = (j, omega (arith, less), is)
cut_has (suc k) zero (first ∷ names) name other less is = (0, omega arith, is)
cut_has (suc k) (suc j) (first ∷ names) name other less is =
    let (i, within, at) = cut_has k j names name (λ e. other (ap suc e)) (omega (arith, less)) is in
    (suc i, omega (arith, within), at)

-- names that differ are no more than those of a list that has them all
no_more : (few many : List Name) → AllPairs (λ a b. a ≢ b) few → ((name : Name) → Contains few name → Contains many name)
    → length few ≤ length many
no_more [] many once all = omega arith
no_more (name ∷ names) many once all =
    let (k, less, is) = all name (0, omega arith, refl) in
    let rest = no_more names (cut_out k many)
    (λ i j d below within. once (suc i) (suc j) d (omega (arith, below)) (omega (arith, within)))
    (λ other (i, within, at).
    let (j, inside, there) = all other (suc i, omega (arith, within), at) in
    cut_has k j many other
    (λ (same : j ≡ k).
    once 0 (suc i) other (omega arith) (omega (arith, within))
    (sym is ∙ first_of many k name other less (subst (λ (n : ℕ). slice_index_or many n other ≡ other) same there) ∙ sym at))
    inside there) in
    omega (arith, rest, cut_length k many less)
  where
    first_of : (many : List Name) (k : ℕ) (a b : Name) → k < length many → slice_index_or many k b ≡ b → slice_index_or many k a ≡ b
    first_of [] k a b less at = absurd (omega (arith, less))
    first_of (m ∷ ms) zero a b less at = at
    first_of (m ∷ ms) (suc k) a b less at = first_of ms k a b (omega (arith, less)) at

pub as_many : (image : Image) (o : Opening) (a b : List Name) → AreStrayNames image o a → AreStrayNames image o b → length a ≡ length b
as_many image o a b is_a is_b =
    let le = no_more a b is_a.once (λ name among. (is_b.all name).1 ((is_a.all name).0 among)) in
    let ge = no_more b a is_b.once (λ name among. (is_a.all name).1 ((is_b.all name).0 among)) in
    omega (arith, le, ge)

-- what is opened isn't refused
pub opened_not : (image : Image) (found : Finds image) → used_up found ≡ None → IsNotOpened image → ⊥
opened_not image found unused not = ⊎_elim
    (λ (refused : (why : Refusal) × Opens image (Err why)).
    err_ok refused.0 found.opening (single_opening image (Err refused.0) (Ok found.opening) refused.1 found.opens))
    (λ (other : (f : Finds image) × (used_up f ≢ None)). other.1 (same_used_up image other.0 found ∙ unused))
    not
