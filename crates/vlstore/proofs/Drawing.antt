-- A file that is lent to a session's merge: whose the merge is, and what is lent to it, behind that.
use Rattle.std.proofs.Common.{◌≡◌, ℕ, List, [], ◌∷◌, ◌++◌, refl, sym, ap, ◌∙◌, subst, arith}
use Rattle.std.proofs.lemmas.Bool.Decides.{nat_tests}
use Rattle.std.specs.Prelude.{Bool, true, false, ◌==◌, ◌||◌, Option, None, Some, is_some, Result, Ok, Err, IfOk, OnErr}
use Rattle.std.specs.List.{AllByRecursion}
use Rattle.std.specs.Option.{option_map}
use Rattle.vl_compact.specs.declared.files.Lent.{Lent}
use Rattle.vl_engine_laws.specs.Represents.{file_of}
use Rattle.vl_steps.specs.Drawing.{IsLentMore, IsSameMerge}
use Rattle.vl_steps.specs.Merging.{fresh_outcome}
use Rattle.vl_steps.specs.declared.fails.StepFail.{StepFail}
use Rattle.vl_steps.specs.declared.fails.StepFail.TheVariants as fails
use Rattle.vl_engine_laws.specs.declared.open.OpenMerge.{OpenMerge}
use Rattle.vl_engine_model.specs.Decides.{Answered, Damaged, Failed, NoMemory, Outcome}
use Rattle.vl_engine_model.specs.LockHistory.{IsOwn, last_layout, open_job}
use Rattle.vl_engine_model.specs.Ruling.{halted_at}
use Rattle.vl_engine_model.specs.Rulings.Fresh as fresh
use Rattle.vl_engine_model.specs.Rulings.Fresh.{FreshAnswer, lent_to}
use Rattle.vl_engine_model.specs.declared.job.OpenJob.{OpenJob}
use Rattle.vl_engine_model.specs.declared.layout.Layout.{Layout}
use Rattle.vl_engine_model.specs.declared.lock_history.LockEntry.{LockEntry}
use Rattle.vl_engine_model.specs.declared.lock_history.LockStep.TheVariants.{Changed}
use Rattle.vl_engine_model.specs.laws.LockHistoryLaws.{last_layout-append, none≢some}
use Rattle.vl_model.specs.History.{History}
use Rattle.vl_model.specs.Numbers.{has}
use Rattle.vlstore.specs.Entries.{drawn_at, fresh_entry}
use Rattle.vlstore.specs.Lists.{layout_by}
use Rattle.vlstore.specs.Merges.{MergesBy, lent_in}
use Rattle.vlstore.specs.declared.locked.Origin.{Origin}
use Rattle.vlstore.proofs.Lending.{merges_drawn, merges_same, open_job-append}
use Rattle.vl_turn.specs.Entries.{with_entry}

-- ---- numbers

has_more : (n : ℕ) (xs more : List ℕ) → has n xs ≡ true → has n (xs ++ more) ≡ true
has_more n [] more is = absurd (subst IsNot is tt)
  where
    IsNot : Bool → Type 0
    IsNot true = ⊥
    IsNot false = Unit {0}
has_more n (x ∷ xs) more is = by_test (x == n) is (has_more n xs more)
  where
    by_test : (b : Bool) → (b || has n xs) ≡ true → (has n xs ≡ true → has n (xs ++ more) ≡ true) → (b || has n (xs ++ more)) ≡ true
    by_test true is rest = refl
    by_test false is rest = rest is

has_last : (n : ℕ) (xs : List ℕ) → has n (xs ++ n ∷ []) ≡ true
has_last n [] = let same : (n == n) ≡ true = grind (arith, nat_tests) in ap (λ b. b || false) same
has_last n (x ∷ xs) = by_test (x == n) (has_last n xs)
  where
    by_test : (b : Bool) → has n (xs ++ n ∷ []) ≡ true → (b || has n (xs ++ n ∷ [])) ≡ true
    by_test true rest = refl
    by_test false rest = rest

pub drawn_more : (lent lent' ns : List ℕ) → ((n : ℕ) → has n lent ≡ true → has n lent' ≡ true)
    → AllByRecursion (λ (n : ℕ). has n lent ≡ true) ns → AllByRecursion (λ (n : ℕ). has n lent' ≡ true) ns
drawn_more lent lent' [] more all = tt
drawn_more lent lent' (n ∷ ns) more all = (more n all.0, drawn_more lent lent' ns more all.1)

pub some_is : {X : Type 0} (x y : X) → Some x ≡ Some y → x ≡ y
some_is {X} x y e = ap of_some e
  where
    of_some : Option X → X
    of_some None = x
    of_some (Some z) = z

lent_drawn : (number : ℕ) (lent : List ℕ) (job : Option OpenJob) → option_map (λ (j : OpenJob). j.lent) job ≡ Some lent
    → option_map (λ (j : OpenJob). j.lent) (lent_to number job) ≡ Some (lent ++ number ∷ [])
lent_drawn number lent None is = absurd (none≢some lent is)
lent_drawn number lent (Some j) is = ap (λ ns. Some (ns ++ number ∷ [])) (some_is j.lent lent is)

-- ---- the session's own steps

module _ (s : ℕ) (l : Layout) (h : History) where
  abbrev entered : Layout → LockEntry
  entered m = record { session = s; step = Changed; layout = m }

  -- its merge stays open
  pub fresh_own : (own : List LockEntry) (outcome : Outcome FreshAnswer)
      → open_job None (with_entry own (fresh_entry s l h outcome)) ≡ open_job None own
  fresh_own own (Answered (fresh.Drawn number)) = open_job-append None own (entered (drawn_at number l) ∷ [])
  fresh_own own (Answered (fresh.Halted name)) = refl
  fresh_own own (Answered (fresh.Exhausted counter)) = refl
  fresh_own own NoMemory = refl
  fresh_own own (Failed name) = open_job-append None own (entered (halted_at name l) ∷ [])
  fresh_own own (Damaged name place) = refl

  -- what is lent to it, and that a file is which was drawn
  pub record IsLent (start : Layout) (lent : List ℕ) (now : List LockEntry) (outcome : Outcome FreshAnswer) : Type 0 where
    pub then_lent : List ℕ
    pub is : lent_in (last_layout start now) ≡ Some then_lent
    pub more : (n : ℕ) → has n lent ≡ true → has n then_lent ≡ true
    pub drawn : (n : ℕ) → outcome ≡ Answered (fresh.Drawn n) → has n then_lent ≡ true

  module _ (start : Layout) (lent : List ℕ) (own : List LockEntry) (was : lent_in (last_layout start own) ≡ Some lent)
      (is : lent_in l ≡ Some lent) where
    abbrev IsDrawn : Outcome FreshAnswer → Type 0
    IsDrawn (Answered (fresh.Drawn n)) = Unit {0}
    IsDrawn (Answered (fresh.Halted name)) = ⊥
    IsDrawn (Answered (fresh.Exhausted counter)) = ⊥
    IsDrawn NoMemory = ⊥
    IsDrawn (Failed name) = ⊥
    IsDrawn (Damaged name place) = ⊥

    abbrev drawn_number : Outcome FreshAnswer → ℕ
    drawn_number (Answered (fresh.Drawn n)) = n
    drawn_number (Answered (fresh.Halted name)) = 0
    drawn_number (Answered (fresh.Exhausted counter)) = 0
    drawn_number NoMemory = 0
    drawn_number (Failed name) = 0
    drawn_number (Damaged name place) = 0

    none_drawn : (now : List LockEntry) (outcome : Outcome FreshAnswer) → (IsDrawn outcome → ⊥)
        → lent_in (last_layout start now) ≡ Some lent → IsLent start lent now outcome
    none_drawn now outcome undrawn at = record {
      then_lent = lent;
      is = at;
      more = λ n among. among;
      drawn = λ n given. absurd (undrawn (subst IsDrawn (sym given) tt));
    }

    pub fresh_lent : (outcome : Outcome FreshAnswer) → IsLent start lent (with_entry own (fresh_entry s l h outcome)) outcome
    fresh_lent (Answered (fresh.Drawn number)) = record {
      then_lent = lent ++ number ∷ [];
      is = ap lent_in (last_layout-append start own (entered (drawn_at number l) ∷ [])) ∙ lent_drawn number lent l.job is;
      more = λ n among. has_more n lent (number ∷ []) among;
      drawn = λ n given. subst (λ m. has m (lent ++ number ∷ []) ≡ true) (ap drawn_number given) (has_last number lent);
    }
    fresh_lent (Answered (fresh.Halted name)) = none_drawn own (Answered (fresh.Halted name)) (λ none. none) was
    fresh_lent (Answered (fresh.Exhausted counter)) = none_drawn own (Answered (fresh.Exhausted counter)) (λ none. none) was
    fresh_lent NoMemory = none_drawn own NoMemory (λ none. none) was
    fresh_lent (Failed name) = none_drawn (own ++ entered (halted_at name l) ∷ []) (Failed name) (λ none. none)
        (ap lent_in (last_layout-append start own (entered (halted_at name l) ∷ [])) ∙ is)
    fresh_lent (Damaged name place) = none_drawn own (Damaged name place) (λ none. none) was

-- ---- what the engine keeps

module _ (o : Origin) (list : List LockEntry) (merging next : Option OpenMerge) (is : MergesBy o list merging) (s : ℕ)
    (own : IsOwn s (open_job None list)) (h : History) where
  same : IsSameMerge merging next → (is_some next ≡ is_some merging)
      × (option_map (λ (m : OpenMerge). m.lent.items) next ≡ option_map (λ (m : OpenMerge). m.lent.items) merging)
  same kept = (
    ap is_some kept.is_open ∙ sym (ap is_some kept.was_open),
    ap (option_map (λ (m : OpenMerge). m.lent.items)) kept.is_open
        ∙ (ap (λ (ns : List ℕ). Some ns) kept.lent ∙ sym (ap (option_map (λ (m : OpenMerge). m.lent.items)) kept.was_open)),
  )

  stays : IsSameMerge merging next → MergesBy o list next
  stays kept = merges_same o list merging next is (same kept).0 (same kept).1

  pub fresh_merges : {W : Type 0} {g : _} (r : Result (Lent W g) StepFail) → IfOk r (λ file. IsLentMore merging next file.number)
      → OnErr r (IsSameMerge merging next) → MergesBy o (with_entry list (fresh_entry s (layout_by o list) h (fresh_outcome r))) next
  fresh_merges (Ok file) more kept =
      let lent : lent_in (layout_by o list) ≡ Some more.merge.lent.items =
      sym is.lent ∙ ap (option_map (λ (m : OpenMerge). m.lent.items)) more.was_open in
      merges_drawn o list merging next is s (drawn_at file.number (layout_by o list)) own
      (ap is_some more.is_open ∙ sym (ap is_some more.was_open))
      (ap (option_map (λ (m : OpenMerge). m.lent.items)) more.is_open ∙ (ap (λ (ns : List ℕ). Some ns) more.lent
      ∙ sym (lent_drawn file.number more.merge.lent.items (layout_by o list).job lent)))
  fresh_merges (Err (fails.Halted name)) more kept = stays kept
  fresh_merges (Err (fails.Exhausted counter)) more kept = stays kept
  fresh_merges (Err fails.NoMemory) more kept = stays kept
  fresh_merges (Err (fails.Disk name)) more kept =
      merges_drawn o list merging next is s (halted_at (file_of name) (layout_by o list)) own (same kept).0 ((same kept).1 ∙ is.lent)
