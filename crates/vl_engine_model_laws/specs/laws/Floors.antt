-- The floor never falls, nor does the least number at which a key can be read; and what a change of how
-- many versions are kept leaves.
use Rattle.std.proofs.Common.{◌≡◌, ℕ, ◌≤◌, Bool, true, false, not, ◌||◌, List, [], ◌∷◌, refl, sym, arith}
use Rattle.std.proofs.lemmas.Bool.Decides.{nat_tests}
use Rattle.std.proofs.lemmas.List.{append-nil}
use Rattle.std.specs.Prelude.{Option, Some, None, ◌<◌, ◌==◌, nat_lt, if◌then◌else◌}
use Rattle.vl_model.specs.History.{Extends, History, last_number, with_commit}
use Rattle.vl_model.specs.Keys.{Writes}
use Rattle.vl_model.specs.Numbers.{since_kept}
use Rattle.vl_model.specs.Versions.{low, versions}
use Rattle.vl_model.specs.laws.NumberLaws.{low-kept}
use Rattle.vl_engine_model.specs.Ruling.{Ruling, ended, leaving, pin_of}
use Rattle.vl_engine_model.specs.Rulings.Begin.{begun}
use Rattle.vl_engine_model.specs.Rulings.Keep.{InvalidRequest, KeepAnswer, Kept, keeping, keep_ruling, keep_unless}
use Rattle.vl_engine_model.specs.Sources.{floor}
use Rattle.vl_engine_model.specs.declared.file_name.FileName.{FileName}
use Rattle.vl_engine_model.specs.declared.layout.Layout.{Layout}
use Rattle.vl_engine_model.specs.declared.live.Live.{Live}
use Rattle.vl_engine_model.specs.laws.LowShows.{floor-begun, floor-rises, floor-up, low_rises}
use Rattle.vl_engine_model_laws.specs.Kept.{IsFloorUp, IsLowUp}

module _ (l : Layout) (h : History) where
  -- ---- the floor, and from where each key can be read

  pub committed-extends : (writes : Writes) → Extends h (with_commit h writes)
  committed-extends writes = record { first = refl; base = refl; later = writes ∷ []; commits = refl }

  same-extends : Extends h h
  same-extends = record { first = refl; base = refl; later = []; commits = sym (append-nil h.commits) }

  pub floor-same : IsFloorUp l h l h
  floor-same = omega arith

  pub floor-with : (ticket : ℕ) → IsFloorUp l h (begun l ticket (last_number h)) h
  floor-with ticket =
      let same = floor-begun l (begun l ticket (last_number h)) h
      (record { ticket = ticket; number = last_number h; pin = pin_of l }) refl refl in
      omega (arith, same)

  pub floor-ended : (ticket : ℕ) → IsFloorUp l h (ended ticket l) h
  floor-ended ticket = floor-rises l (ended ticket l) h h same-extends (λ (x : Live). not (x.ticket == ticket)) refl

  pub floor-committed : (ticket : ℕ) (writes : Writes) → IsFloorUp l h (ended ticket l) (with_commit h writes)
  floor-committed ticket writes =
      floor-rises l (ended ticket l) h (with_commit h writes) (committed-extends writes) (λ (x : Live). not (x.ticket == ticket)) refl

  -- where as many are kept as before
  pub low-with : (f : ℕ) → floor l h ≤ f → (key : List ℕ)
      → low h (floor l h) l.keep l.since key ≤ low h f l.keep l.since key
  low-with f le key = low_rises h h same-extends (floor l h) f l.keep l.since key le

  pub low-committed : (f : ℕ) (writes : Writes) → floor l h ≤ f → (key : List ℕ)
      → low h (floor l h) l.keep l.since key ≤ low (with_commit h writes) f l.keep l.since key
  low-committed f writes le key =
      low_rises h (with_commit h writes) (committed-extends writes) (floor l h) f l.keep l.since key le

  pub low-keeping : (v : ℕ) → IsLowUp l h (keeping v h l) h
  low-keeping v key = low-kept (versions h key) (floor l h) (last_number h) l.keep l.since v (floor-up l h)

  -- ---- how many versions are kept

  since_raised : (v : ℕ) → l.keep < v → since_kept (last_number h) l.keep l.since v ≡ last_number h
  since_raised v less = by_test (nat_lt l.keep v) refl
    where
      by_test : (b : Bool) → nat_lt l.keep v ≡ b → (if b then last_number h else l.since) ≡ last_number h
      by_test true is = refl
      by_test false is = absurd (grind (arith, nat_tests, less, is))

  since_lowered : (v : ℕ) → v ≤ l.keep → since_kept (last_number h) l.keep l.since v ≡ l.since
  since_lowered v le = by_test (nat_lt l.keep v) refl
    where
      by_test : (b : Bool) → nat_lt l.keep v ≡ b → (if b then last_number h else l.since) ≡ l.since
      by_test true is = absurd (grind (arith, nat_tests, le, is))
      by_test false is = refl

  module _ (v : ℕ) where
    pub record IsKept (r : Ruling KeepAnswer) : Type 0 where
      pub told : r.answer ≡ Kept → r.layout.keep ≡ v
      pub raised : r.answer ≡ Kept → l.keep < v → r.layout.since ≡ last_number h
      pub lowered : r.answer ≡ Kept → v ≤ l.keep → r.layout.since ≡ l.since
      pub refused : (r.answer ≡ Kept → ⊥) → r.layout ≡ l

    by_change : (b : Bool) → (v == l.keep) ≡ b
        → IsKept (if b then leaving Kept h l else record { answer = Kept; history = h; layout = keeping v h l; calls = 2; gone = [] })
    by_change true is =
        let same : l.keep ≡ v = grind (arith, nat_tests, is) in
        record {
          told = λ kept. same;
          raised = λ kept less. absurd (omega (arith, less, same));
          lowered = λ kept le.
              refl;
          refused = λ other. refl;
        }
    by_change false is =
        record {
          told = λ kept. refl;
          raised = λ kept less. since_raised v less;
          lowered = λ kept le. since_lowered v
              le;
          refused = λ other. absurd (other refl);
        }

    by_request : (b : Bool) → IsKept (if b then leaving InvalidRequest h l
        else (if v == l.keep then leaving Kept h l else record
        { answer = Kept; history = h; layout = keeping v h l; calls = 2; gone = [] }))
    by_request true = record
        { told = λ kept. absurd cc; raised = λ kept less. absurd cc; lowered = λ kept le. absurd cc; refused = λ other. refl }
    by_request false = by_change (v == l.keep) refl

    unless : (halted : Option FileName) → IsKept (keep_unless halted l h v)
    unless (Some name) = record
        { told = λ kept. absurd cc; raised = λ kept less. absurd cc; lowered = λ kept le. absurd cc; refused = λ other. refl }
    unless None = by_request ((v == 0) || nat_lt 16 v)

    pub keep_is : IsKept (keep_ruling l h v)
    keep_is = unless l.halted
