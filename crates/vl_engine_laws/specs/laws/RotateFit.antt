-- What an engine's next calls ask of its disk is so behind a rotation, also where that failed.
use Rattle.std.specs.Prelude.{◌≡◌, ◌≢◌, ◌≤◌, ℕ, ◌+◌, Option, None, Some, IsSome, is_some, refl}
use Rattle.std.specs.FinMap.{get}
use Rattle.std.specs.Option.{ForSome, option_map}
use Rattle.std.proofs.Common.{sym, ap, subst, ◌∙◌, arith}
use Rattle.vl_back.specs.Writing.{KeepsOthers}
use Rattle.vl_disk.specs.Disk.{IsChangedBy, IsFree, Stands}
use Rattle.vl_disk.specs.DiskState.{DiskState, File}
use Rattle.vl_disk.specs.MadeFile.{made}
use Rattle.vl_disk.specs.declared.name.Name.TheVariants as names
use Rattle.vl_disk.specs.declared.name.Name.{Name}
use Rattle.vl_engine_laws.specs.Fit.{IsFitFor}
use Rattle.vl_engine_laws.specs.RotateFacts.{IsNextBack, IsSameBack, next_header, next_name}
use Rattle.vl_engine_laws.specs.declared.kept.Core.{Core}
use Rattle.vl_front.specs.declared.front.Front.{Front}
use Rattle.vl_recover.specs.laws.crash.AlikeLaws.{log_same}
use Rattle.vl_recover.specs.laws.crash.OneName.{made_elsewhere, made_there}
use Rattle.vl_recover.specs.laws.opening.OpeningLaws.{some_same}

none_some : (disk : DiskState) → None ≡ Some disk → ⊥
none_some disk e = cc

manifest_log : (m n : ℕ) → names.Manifest m ≡ names.Log n → ⊥
manifest_log m n e = cc

table_log : (m n : ℕ) → names.Table m ≡ names.Log n → ⊥
table_log m n e = cc

-- where memory alone changed
pub fit_same : {H : Type 0} (before after : Core H) → after.front ≡ before.front → IsSameBack before.back after.back
    → (disk : DiskState) → IsFitFor before disk → IsFitFor after disk
fit_same before after front back disk fit = record {
  log = subst (λ (f : Front). Stands (names.Log f.log.number) disk) (sym front) fit.log;
  steps = λ running.
      let so = fit.steps (sym (ap (λ (f : Front). f.halted) front) ∙ running) in
      record {
        manifest = subst (λ (n : ℕ). Stands (names.Manifest n) disk) (sym (ap (λ m. m.number) back.manifest)) so.manifest;
        logs = λ n up. so.logs n (subst (λ (k : ℕ). k ≤ n) back.next_log up);
        tables = λ n up. so.tables n (subst (λ (k : ℕ). k ≤ n) (ap (λ s. s.next_table) back.state) up);
      };
}

pub fit_quiet : {H : Type 0} (before after : Core H) → after.front ≡ before.front → IsSameBack before.back after.back
    → (old new : Option DiskState) → new ≡ old → ForSome old (IsFitFor before) → ForSome new (IsFitFor after)
fit_quiet before after front back old new same fit state told =
    fit_same before after front back state (fit state (sym same ∙ told))

-- ---- behind a new log

module _ {H : Type 0} (before after : Core H)
    (front : after.front ≡ record before.front { log = record { number = before.back.next_log; length = 16 } })
    (back : IsNextBack before after.back) (running : before.front.halted ≡ None) where
  abbrev next : ℕ
  next = before.back.next_log

  fit_made : (disk : DiskState) → IsFitFor before disk → IsFitFor after (made (next_name before) (next_header before) disk)
  fit_made disk fit =
      let then = made (next_name before) (next_header before) disk in
      let so = fit.steps running in
      record {
        log = subst (λ (f : Front). Stands (names.Log f.log.number) then) (sym front)
            (ap is_some (made_there (next_name before) (next_header before) disk));
        steps = λ running_then. record {
          manifest = subst (λ (n : ℕ). Stands (names.Manifest n) then) (sym (ap (λ m. m.number) back.manifest))
              (subst IsSome
              (sym ((made_elsewhere (next_name before) (next_header before) disk).standing (names.Manifest before.back.manifest.number)
              (manifest_log before.back.manifest.number before.back.next_log))) so.manifest);
          logs = λ n up.
              let above : before.back.next_log + 1 ≤ n = subst (λ (k : ℕ). k ≤ n) back.next_log up in
              (made_elsewhere (next_name before) (next_header before) disk).standing (names.Log n)
              (λ q. omega (arith, above, log_same n before.back.next_log q))
              ∙ so.logs n (omega (arith, above));
          tables = λ n up.
              (made_elsewhere (next_name before) (next_header before) disk).standing (names.Table n)
              (table_log n before.back.next_log)
              ∙ so.tables n (subst (λ (k : ℕ). k ≤ n) (ap (λ s. s.next_table) back.state) up);
        };
      }

  pub fit_rotated : (old mid new : Option DiskState) → mid ≡ old
      → IsChangedBy (made (next_name before) (next_header before)) mid new → ForSome old (IsFitFor before)
      → ForSome new (IsFitFor after)
  fit_rotated None mid new same changed fit state told =
      absurd (none_some state (sym (changed ∙ ap (option_map (made (next_name before) (next_header before))) same) ∙ told))
  fit_rotated (Some disk) mid new same changed fit state told =
      let then = made (next_name before) (next_header before) disk in
      subst (IsFitFor after)
      (some_same (made (next_name before) (next_header before) disk) state
      (sym (changed ∙ ap (option_map (made (next_name before) (next_header before))) same) ∙ told))
      (fit_made disk (fit disk refl))

-- ---- where it failed

-- the active log stands still where the making of another one failed
pub stands_still : (active next : ℕ) (old mid new : Option DiskState) → mid ≡ old → KeepsOthers (names.Log next) mid new
    → (mid ≡ None → new ≡ None) → ForSome old (Stands (names.Log active)) → ForSome old (IsFree (names.Log next))
    → ForSome new (Stands (names.Log active))
stands_still active next old mid new same kept untold stands free now is = by mid refl
  where
    by : (told : Option DiskState) → mid ≡ told → Stands (names.Log active) now
    by None e = absurd (none_some now (sym (untold e) ∙ is))
    by (Some disk) e = there (get now.standing (names.Log active)) refl
      where
        stood : Stands (names.Log active) disk
        stood = stands disk (sym same ∙ e)

        missing : (o : Option File) → o ≡ None → IsSome o → ⊥
        missing None none some = cc
        missing (Some file) none some = cc

        apart : names.Log active ≢ names.Log next
        apart q = missing (get disk.standing (names.Log next)) (free disk (sym same ∙ e))
            (subst (λ (n : Name). IsSome (get disk.standing n)) q stood)

        there : (o : Option File) → get now.standing (names.Log active) ≡ o → IsSome (get now.standing (names.Log active))
        there None none = absurd (missing (get disk.standing (names.Log active))
            ((kept disk now e is (names.Log active) apart).0.0 none) stood)
        there (Some file) some = ap is_some some
