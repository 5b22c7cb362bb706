-- The ruling on a flush is by what is decided before anything is written.
use Rattle.std.specs.Prelude.{◌≡◌, ◌≤◌, ℕ, nat_le, nat_lt, Bool, true, false, if◌then◌else◌, List, [], ◌∷◌, ◌++◌}
use Rattle.std.specs.Prelude.{length, Option, None, Some, refl}
use Rattle.std.proofs.Common.{sym, ap, ◌∙◌, arith}
use Rattle.std.proofs.lemmas.Bool.Decides.{nat_tests}
use Rattle.vl_back.specs.Deciding as deciding
use Rattle.vl_back.specs.Deciding.{flush_decision}
use Rattle.vl_back.specs.declared.back.Back.{Back}
use Rattle.vl_back.specs.declared.decision.Decision.{Decision}
use Rattle.vl_back.specs.declared.decision.Decision.TheVariants as decisions
use Rattle.vl_engine_laws.specs.MayStep.{HasNumbers}
use Rattle.vl_engine_model.specs.Ruling.{Exhausted, Halted, Idle, Ruling, StepAnswer, Stepped, has_no_number, has_no_epoch, leaving}
use Rattle.vl_engine_model.specs.Rulings.Flush.{flush_of, flush_ruling, flush_unless, flushed}
use Rattle.vl_engine_model.specs.Sources.{oldest}
use Rattle.vl_engine_model.specs.Start.{newest_first}
use Rattle.vl_engine_model.specs.declared.file_name.FileName.{FileName}
use Rattle.vl_engine_model.specs.declared.layout.Layout.{Layout}
use Rattle.vl_engine_model.specs.declared.segment.Segment.{Segment}
use Rattle.vl_manifest.specs.declared.waiting.Waiting.{Waiting}
use Rattle.vl_model.specs.History.{History}
use Rattle.vl_model.specs.Limits.{max_file_number, max_epoch}
use Rattle.vl_model.specs.declared.counter.Counter.TheVariants as counter
use Rattle.vl_recover.specs.opening.HeldFiles.{AreWaiting}

-- the ruling by which the table of this log is made
abbrev pub flush_made : Layout → History → Segment → Ruling StepAnswer
flush_made l h s =
    record { answer = Stepped l.next_table; history = h; layout = flushed l s; calls = 5; gone = [] }

abbrev pub made_of : Layout → History → Option Segment → Ruling StepAnswer
made_of l h None = leaving Idle h l
made_of l h (Some s) = flush_made l h s

-- the ruling on a flush of which this was decided
abbrev pub flush_ruled : Decision → Layout → History → Ruling StepAnswer
flush_ruled decisions.Idle l h = leaving Idle h l
flush_ruled (decisions.Exhausted c) l h = leaving (Exhausted c) h l
flush_ruled decisions.Go l h = made_of l h (oldest l.frozen)

pub flush_halted : (l : Layout) (h : History) (name : FileName) → l.halted ≡ Some name
    → leaving (Halted name) h l ≡ flush_ruling l h
flush_halted l h name halted = sym (ap (λ (o : Option FileName). flush_unless o l h) halted)

-- ---- the logs that wait are the frozen ones

some_oldest : (s : Segment) (ss : List Segment) → (first : Segment) × (oldest (s ∷ ss) ≡ Some first)
some_oldest s [] = (s, refl)
some_oldest s (t ∷ ss) = some_oldest t ss

none_frozen : (covered : ℕ) (ss : List Segment) → AreWaiting covered [] (newest_first ss) → oldest ss ≡ None
none_frozen covered [] are = refl
none_frozen covered (s ∷ ss) are = absurd (by (newest_first ss) are)
  where
    by : (ts : List Segment) → AreWaiting covered [] (ts ++ s ∷ []) → ⊥
    by [] wrong = wrong
    by (t ∷ ts) wrong = wrong

some_frozen : (covered : ℕ) (w : Waiting) (ws : List Waiting) (ss : List Segment) → AreWaiting covered (w ∷ ws) (newest_first ss)
    → (first : Segment) × (oldest ss ≡ Some first)
some_frozen covered w ws [] are = absurd are
some_frozen covered w ws (s ∷ ss) are = some_oldest s ss

module _ (back : Back) (l : Layout) (h : History) (running : l.halted ≡ None) (version : back.epoch ≡ l.epoch)
    (has : HasNumbers back l) where
  -- Where a log waits for its flush, one is frozen.
  pub flush_waits : 1 ≤ length back.waiting.items → (s : Segment) × (oldest l.frozen ≡ Some s)
  flush_waits = by back.waiting.items has.waiting
    where
      by : (ws : List Waiting) → AreWaiting l.covered ws (newest_first l.frozen) → 1 ≤ length ws
          → (s : Segment) × (oldest l.frozen ≡ Some s)
      by [] are some = absurd (omega (arith, some))
      by (w ∷ ws) are some = some_frozen l.covered w ws l.frozen are

  no_number : nat_lt max_file_number back.state.next_table ≡ has_no_number l.next_table 1
  no_number = let same = has.next_table in grind (arith, nat_tests, same)

  no_version : nat_le max_epoch back.epoch ≡ has_no_epoch l
  no_version = grind (arith, nat_tests, version)

  -- by whether a number is left, and whether a version's is
  abbrev by_numbers : Segment → (used_table used_version : Bool) → Ruling StepAnswer
  by_numbers s used_table used_version =
      if used_table then leaving (Exhausted counter.Table) h l
      else (if used_version then leaving (Exhausted counter.Version) h l else flush_made l h s)

  abbrev decided : (used_table used_version : Bool) → Decision
  decided used_table used_version =
      if used_table then decisions.Exhausted counter.Table
      else (if used_version then decisions.Exhausted counter.Version else decisions.Go)

  decided_so : (s : Segment) → oldest l.frozen ≡ Some s → (used_table used_version : Bool)
      → flush_ruled (decided used_table used_version) l h ≡ by_numbers s used_table used_version
  decided_so s waits true used_version = refl
  decided_so s waits false true = refl
  decided_so s waits false false = ap (made_of l h) waits

  of_waiting : (ws : List Waiting) → AreWaiting l.covered ws (newest_first l.frozen)
      → flush_ruled (deciding.flush_of ws back) l h ≡ flush_of l h (oldest l.frozen)
  of_waiting [] are = sym (ap (flush_of l h) (none_frozen l.covered l.frozen are))
  of_waiting (w ∷ ws) are =
      let (s, waits) = some_frozen l.covered w ws l.frozen are in
      decided_so s waits (nat_lt max_file_number back.state.next_table) (nat_le max_epoch back.epoch)
      ∙ ap (λ (b : Bool). by_numbers s b (nat_le max_epoch back.epoch)) no_number
      ∙ ap (by_numbers s (has_no_number l.next_table 1)) no_version
      ∙ sym (ap (flush_of l h) waits)

  -- What is decided is what the ruling has.
  pub flush_ruled_so : flush_ruled (flush_decision back) l h ≡ flush_ruling l h
  flush_ruled_so = of_waiting back.waiting.items has.waiting ∙ sym (ap (λ (o : Option FileName). flush_unless o l h) running)

  pub flush_made_so : flush_decision back ≡ decisions.Go → (s : Segment) → oldest l.frozen ≡ Some s
      → flush_made l h s ≡ flush_ruling l h
  flush_made_so go s waits = sym (ap (made_of l h) waits) ∙ sym (ap (λ (d : Decision). flush_ruled d l h) go) ∙ flush_ruled_so
