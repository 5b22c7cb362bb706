-- Reads of a disk give one refusal at most, and none where the disk opens.
use Rattle.std.proofs.Common.{◌≡◌, ◌⊎◌, ⊎_elim, inl, inr, refl, sym, ap, subst, ◌∙◌}
use Rattle.std.specs.Prelude.{None, Some, Result, Ok, Err}
use Rattle.vl_disk.specs.Crash.{Image}
use Rattle.vl_model.specs.declared.counter.Counter.{Counter}
use Rattle.vl_recover.specs.opening.Answers.{Finds, used_up}
use Rattle.vl_recover.specs.laws.opening.OneFinding.{same_used_up}
use Rattle.vl_recover.specs.opening.Opening.{Opens}
use Rattle.vl_recover.specs.opening.Opening as openings
use Rattle.vl_recover.specs.laws.opening.OpeningLaws.{single_opening}
use Rattle.vl_recover.specs.declared.fails.OpenError.{OpenError}
use Rattle.vl_recover.specs.declared.fails.OpenError.TheVariants as why
use Rattle.vl_script_model.specs.Opening.{IsRefused, why_refused}
use Rattle.vl_engine.specs.Opening.{IsFault, AnswersOpening}
use Rattle.vl_script_model.specs.Steps.{CameFirst, EndsFor}
use Rattle.vl_script_model.specs.declared.fails.Refusal.{Refusal}
use Rattle.vl_script_model.specs.declared.fails.Refusal.TheVariants.{NotAStore, NewerFormat, Damaged, Exhausted}

-- ---- one refusal

err_ok : {A E : Type 0} (e : E) (a : A) → ◌≡◌ {A = Result A E} (Err e) (Ok a) → ⊥
err_ok e a is = cc

err_same : {A E : Type 0} (d e : E) → ◌≡◌ {A = Result A E} (Err d) (Err e) → d ≡ e
err_same d e is = cc

some_same : {X : Type 0} (x y : X) → Some x ≡ Some y → x ≡ y
some_same x y e = cc

none_some : {X : Type 0} (x : X) → None ≡ Some x → ⊥
none_some x e = cc

module _ (read : Image) where
  not_both : (refusal : openings.Refusal) → Opens read (Err refusal) → Finds read → ⊥
  not_both refusal refused found = err_ok refusal found.opening (single_opening read (Err refusal) (Ok found.opening) refused found.opens)

  one_refused : (a b : openings.Refusal) → Opens read (Err a) → Opens read (Err b) → a ≡ b
  one_refused a b is_a is_b = err_same a b (single_opening read (Err a) (Err b) is_a is_b)

  one_used : (a b : Counter) (found other : Finds read) → used_up found ≡ Some a → used_up other ≡ Some b → a ≡ b
  one_used a b found other is_a is_b = some_same a b (sym is_a ∙ same_used_up read found other ∙ is_b)

  -- what opens isn't refused
  pub opened_not_refused : (found : Finds read) → used_up found ≡ None → (refusal : Refusal) → IsRefused read refusal → ⊥
  opened_not_refused found unused NotAStore refused = not_both openings.NotAStore refused found
  opened_not_refused found unused (NewerFormat format) refused = not_both (openings.NewerFormat format) refused found
  opened_not_refused found unused (Damaged name place) refused = not_both (openings.Damaged name place) refused found
  opened_not_refused found unused (Exhausted counter) (other, used) = none_some counter (sym unused ∙ same_used_up read found other ∙ used)

  -- two refusals are one
  one_refusal : (a b : Refusal) → IsRefused read a → IsRefused read b → a ≡ b
  one_refusal NotAStore NotAStore p q = refl
  one_refusal NotAStore (NewerFormat g) p q = let same = one_refused openings.NotAStore (openings.NewerFormat g) p q in cc
  one_refusal NotAStore (Damaged m y) p q = let same = one_refused openings.NotAStore (openings.Damaged m y) p q in cc
  one_refusal NotAStore (Exhausted d) p (found, used) = absurd (not_both openings.NotAStore p found)
  one_refusal (NewerFormat f) NotAStore p q = let same = one_refused (openings.NewerFormat f) openings.NotAStore p q in cc
  one_refusal (NewerFormat f) (NewerFormat g) p q = let same = one_refused (openings.NewerFormat f) (openings.NewerFormat g) p q in cc
  one_refusal (NewerFormat f) (Damaged m y) p q = let same = one_refused (openings.NewerFormat f) (openings.Damaged m y) p q in cc
  one_refusal (NewerFormat f) (Exhausted d) p (found, used) = absurd (not_both (openings.NewerFormat f) p found)
  one_refusal (Damaged n x) NotAStore p q = let same = one_refused (openings.Damaged n x) openings.NotAStore p q in cc
  one_refusal (Damaged n x) (NewerFormat g) p q = let same = one_refused (openings.Damaged n x) (openings.NewerFormat g) p q in cc
  one_refusal (Damaged n x) (Damaged m y) p q = let same = one_refused (openings.Damaged n x) (openings.Damaged m y) p q in cc
  one_refusal (Damaged n x) (Exhausted d) p (found, used) = absurd (not_both (openings.Damaged n x) p found)
  one_refusal (Exhausted c) NotAStore (found, used) q = absurd (not_both openings.NotAStore q found)
  one_refusal (Exhausted c) (NewerFormat g) (found, used) q = absurd (not_both (openings.NewerFormat g) q found)
  one_refusal (Exhausted c) (Damaged m y) (found, used) q = absurd (not_both (openings.Damaged m y) q found)
  one_refusal (Exhausted c) (Exhausted d) (found, used) (other, used_too) = ap Exhausted (one_used c d found other used used_too)

  -- where reads give a refusal, an opening answers it, unless memory ran out or the disk failed before
  pub refused_or_first : (refusal : Refusal) → IsRefused read refusal → (reason : OpenError)
      → AnswersOpening read (Some reason) → (reason ≡ why_refused refusal) ⊎ CameFirst reason
  refused_or_first refusal is why.NotAStore by = inl (ap why_refused (one_refusal NotAStore refusal by is))
  refused_or_first refusal is (why.NewerFormat format) by = inl (ap why_refused (one_refusal (NewerFormat format) refusal by is))
  refused_or_first refusal is (why.Damaged name place) by = inl (ap why_refused (one_refusal (Damaged name place) refusal by is))
  refused_or_first refusal is (why.Exhausted counter) by = inl (ap why_refused (one_refusal (Exhausted counter) refusal by is))
  refused_or_first refusal is why.NoMemory by = inr tt
  refused_or_first refusal is (why.Disk name) by = inr tt

-- ---- what ends a run whose store wasn't opened

-- a refusal is that of the opening
pub refused_for : (reason how : OpenError) (refusal : Refusal) → EndsFor reason how → how ≡ why_refused refusal
    → reason ≡ why_refused refusal
refused_for reason how refusal for is = ⊎_elim
    (λ (same : how ≡ reason). sym same ∙ is)
    (λ (out : (how ≡ why.NoMemory) × ((other : Refusal) × (reason ≡ why_refused other))). absurd (not_memory refusal (sym out.0 ∙ is)))
    for
  where
    not_memory : (refusal : Refusal) → why.NoMemory ≡ why_refused refusal → ⊥
    not_memory NotAStore e = cc
    not_memory (NewerFormat format) e = cc
    not_memory (Damaged name place) e = cc
    not_memory (Exhausted counter) e = cc

-- no refusal is a fault of the disk
pub no_fault : (refusal : Refusal) → IsFault (Some (why_refused refusal)) → ⊥
no_fault NotAStore fault = fault
no_fault (NewerFormat format) fault = fault
no_fault (Damaged name place) fault = fault
no_fault (Exhausted counter) fault = fault

-- and a fault is that of the opening
pub fault_for : (reason how : OpenError) → EndsFor reason how → IsFault (Some how) → IsFault (Some reason)
fault_for reason how for fault = ⊎_elim
    (λ (same : how ≡ reason). subst (λ (w : OpenError). IsFault (Some w)) same fault)
    (λ (out : (how ≡ why.NoMemory) × ((other : Refusal) × (reason ≡ why_refused other))). absurd
    (subst (λ (w : OpenError). IsFault (Some w)) out.0 fault))
    for

pub fault_of : (reason how : OpenError) → EndsFor reason how → IsFault (Some reason) → IsFault (Some how)
fault_of reason how for fault = ⊎_elim
    (λ (same : how ≡ reason). subst (λ (w : OpenError). IsFault (Some w)) (sym same) fault)
    (λ (out : (how ≡ why.NoMemory) × ((other : Refusal) × (reason ≡ why_refused other))). absurd
    (no_fault out.1.0 (subst (λ (w : OpenError). IsFault (Some w)) out.1.1 fault)))
    for

-- where the opening was refused, that or want of memory ends the run
pub first_for : (reason how : OpenError) (refusal : Refusal) → EndsFor reason how → (reason ≡ why_refused refusal)
    ⊎ CameFirst reason → (how ≡ why_refused refusal) ⊎ CameFirst how
first_for reason how refusal for is = ⊎_elim
    (λ (same : how ≡ reason). subst (λ (w : OpenError). (w ≡ why_refused refusal) ⊎ CameFirst w) (sym same) is)
    (λ (out : (how ≡ why.NoMemory) × ((other : Refusal) × (reason ≡ why_refused other))). inr (subst CameFirst (sym out.0) tt))
    for
