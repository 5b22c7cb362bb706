-- A store from its opening to its close: why no call of its shops could have stopped.
use Rattle.std.proofs.Common.{◌≡◌, inl, inr, ℕ, suc, ◌+◌, ◌*◌, ◌^◌, ◌<◌, ◌≤◌, true, List, [], ◌∷◌, length, refl, ap, sym, ◌∙◌, subst, arith}
use Rattle.std.proofs.lemmas.Bool.{false≢true}
use Rattle.std.proofs.lemmas.Nat.{mul-le}
use Rattle.std.specs.List.{AllByRecursion, AllZip}
use Rattle.vl_drive.proofs.Gathering.{sure_of}
use Rattle.vl_drive.proofs.Modest.{never_exhausted, never_full}
use Rattle.vl_drive.proofs.Prefixes.{begins_more}
use Rattle.vl_drive.specs.Clients.{IsNewAt}
use Rattle.vl_drive.specs.Driven.{AreIn, IsClosed}
use Rattle.vl_drive.specs.Knowing.{GoesOn, Knows}
use Rattle.vl_drive.specs.Modest.{AreModest}
use Rattle.vl_drive.specs.Players.{IsCauseOfOne}
use Rattle.vl_drive.specs.Playing.{IsCause}
use Rattle.vl_drive.specs.Steps.{Origin, history_by, layout_by}
use Rattle.vl_drive.specs.Stores.{AreFirst, AreOf, Opened}
use Rattle.vl_drive.specs.declared.trouble.Cause.{Cause}
use Rattle.vl_drive.specs.declared.trouble.Cause.TheVariants as cause
use Rattle.vl_engine_model.specs.LockHistory.{HasOpen, nothing_open}
use Rattle.vl_engine_model.specs.Rulings.Begin.{TooMany, begin_ruling}
use Rattle.vl_engine_model.specs.Rulings.Commit.{Exhausted, commit_ruling}
use Rattle.vl_engine_model.specs.declared.lock_history.LockEntry.{LockEntry}
use Rattle.vl_model.specs.Limits.{max_commit_number}
use Rattle.vl_model.specs.declared.counter.Counter.TheVariants.{Commit as CommitNumber}
use mathlib.Core.List.{IsPrefix}

-- ---- its shops

pub first_new : (o : Opened) (first : ℕ) (vs : List Knows) → AreFirst o first vs → AllByRecursion (IsNewAt o.store) vs
first_new o first [] are = tt
first_new o first (v ∷ vs) are = (record { store_is = are.0.of.store_is; own = are.0.own }, first_new o (first + 1) vs are.1)

first_sure : (o : Opened) (first : ℕ) (vs : List Knows) → AreFirst o first vs → AllByRecursion (λ (v : Knows). v.sure ≡ true) vs
first_sure o first [] are = tt
first_sure o first (v ∷ vs) are = (are.0.sure, first_sure o (first + 1) vs are.1)

-- they stay its shops
pub of_later : (o : Opened) (first : ℕ) (vs ws : List Knows) → AreFirst o first vs → AllZip GoesOn vs ws → AreOf o first ws
of_later o first [] [] are zip = tt
of_later o first [] (w ∷ ws) are zip = absurd zip
of_later o first (v ∷ vs) [] are zip = absurd zip
of_later o first (v ∷ vs) (w ∷ ws) are zip = (
  record {
    store_is = zip.0.store ∙ are.0.of.store_is;
    origin_is = zip.0.origin ∙ are.0.of.origin_is;
    session_is = zip.0.session ∙ are.0.of.session_is;
  },
  of_later o (first + 1) vs ws are.1 zip.1,
)

pub zip_length : (vs ws : List Knows) → AllZip GoesOn vs ws → length ws ≡ length vs
zip_length [] [] zip = refl
zip_length [] (w ∷ ws) zip = absurd zip
zip_length (v ∷ vs) [] zip = absurd zip
zip_length (v ∷ vs) (w ∷ ws) zip = ap suc (zip_length vs ws zip.1)

-- ---- causes

-- whose cause it is has seen a beginning of the list
cause_at : (o : Origin) (list : List LockEntry) (why : Cause) (first : ℕ) (vs ws : List Knows) → AreIn o first list ws
    → IsCauseOfOne why vs ws → (v : Knows) × (w : Knows) × IsCause v w why × (w.origin ≡ o) × IsPrefix w.seen list
cause_at o list why first [] ws are is = absurd is
cause_at o list why first (v ∷ vs) [] are is = absurd is
cause_at o list why first (v ∷ vs) (w ∷ ws) are (inl is) = (v, w, is, are.0, are.2)
cause_at o list why first (v ∷ vs) (w ∷ ws) are (inr is) = cause_at o list why (first + 1) vs ws are.4 is

module _ (o : Opened) (turns : ℕ) (vs ws : List Knows) (list : List LockEntry) (first : AreFirst o 0 vs) (zip : AllZip GoesOn vs ws)
    (modest : AreModest turns ws) (closed : IsClosed o.origin ws list) (nothing : HasOpen nothing_open o.origin.layout)
    (few : length ws ≤ 64) (numbers : o.origin.number + length ws * (turns + 1) < max_commit_number) where
  pub none_stops : (why : Cause) → IsCauseOfOne why vs ws → ⊥
  none_stops cause.Disk is = false≢true (sym (sure_of cause.Disk vs ws zip (first_sure o 0 vs first) is))
  none_stops (cause.Damaged name place) is =
      false≢true (sym (sure_of (cause.Damaged name place) vs ws zip (first_sure o 0 vs first) is))
  none_stops cause.TooMany is =
      let at = cause_at o.origin list cause.TooMany 0 vs ws closed.all is in
      let full = at.2 in
      let front = begins_more full.before at.1.seen list full.seen at.4 in
      never_full o.origin turns ws list full.before closed modest front nothing few
      (subst (λ (p : Origin). (begin_ruling (layout_by p full.before) (history_by p full.before)).answer ≡ TooMany) at.3 full.answer)
  none_stops cause.Exhausted is =
      let at = cause_at o.origin list cause.Exhausted 0 vs ws closed.all is in
      let last = at.2 in
      let front = begins_more last.before at.1.seen list last.seen at.4 in
      never_exhausted o.origin turns ws list last.before closed modest front numbers last.txn
      (subst (λ (p : Origin). (commit_ruling (layout_by p last.before) (history_by p last.before) last.txn).answer ≡ Exhausted CommitNumber)
      at.3 last.answer)

-- so few commits have numbers
pub numbers_reach : (number clients txns shops : ℕ) → number ≡ 0 → shops ≡ clients + 1 → clients ≤ 16 → txns < 2 ^ 32
    → number + shops * (txns + 1) < max_commit_number
numbers_reach number clients txns shops new all few fits =
    let most : shops * (txns + 1) ≤ 17 * (txns + 1) = mul-le shops (txns + 1) 17 (txns + 1) (omega (arith, all, few)) (omega arith) in
    omega (arith, new, most, fits)

pub total_fits : (total : ℕ) → total ≡ 64000 → total < 2 ^ 64
total_fits total is = omega (arith, is)
