-- What is kept of which files can go, behind a change of how many versions are kept.
use Rattle.std.specs.Prelude.{◌≡◌, ℕ, Result, Ok, Err, refl}
use Rattle.std.proofs.Common.{sym, ap, subst, arith}
use Rattle.vl_engine_laws.specs.KeepFacts.{MayKeep}
use Rattle.vl_engine_laws.specs.Represents.{Fronts, file_of}
use Rattle.vl_engine_laws.specs.declared.kept.Core.{Core}
use Rattle.vl_engine_laws.specs.laws.KeepLaws.{keep_made}
use Rattle.vl_disk.specs.declared.watched.Watched.{Ghosts}
use Rattle.vl_steps.specs.laws.Committing.{decides_answered, decides_failed, decides_short}
use Rattle.vl_steps.specs.laws.KeptBy.{ruled_made, runs_on, two_counted}
use Rattle.vl_space.specs.laws.StillRemoved.{pins_alike, removes_alike, removes_halted, removes_same}
use Rattle.vl_steps.specs.Keeping.{KeepsAs, keep_effects, keep_outcome}
use Rattle.vl_space.specs.Removing.{Removes}
use Rattle.vl_steps.specs.declared.fails.KeepFail.TheVariants as fails
use Rattle.vl_steps.specs.declared.fails.KeepFail.{KeepFail}
use Rattle.vl_space.specs.declared.kept.Removing.{Removing}
use Rattle.vl_engine_model.specs.Decides.{Answered, Decides, as_before, no_effects}
use Rattle.vl_engine_model.specs.Ruling.{Ruling}
use Rattle.vl_engine_model.specs.Rulings.Keep.{KeepAnswer, Kept, keep_ruling, keeping}
use Rattle.vl_engine_model.specs.declared.layout.Layout.{Layout}
use Rattle.vl_model.specs.History.{History}
use Rattle.vl_pins.specs.Pins.{ArePinsOf}

module _ {D H L : Type 0} (g : Ghosts D) (before after : Core H) (disk then : D) (v : ℕ) (h : History) (l : Layout)
    (may : MayKeep before v) (logs : after.version.behind.logs.items ≡ before.version.behind.logs.items)
    (old new : Removing L) (same : new ≡ old) (is : Fronts before h l) (removes : Removes before old l) where
  abbrev Stays : History → Layout → Type 0
  Stays _ k = Removes after new k

  stock : new.stock ≡ old.stock
  stock = ap (λ (r : Removing L). r.stock) same

  pins : ArePinsOf new.pins l
  pins = subst (λ (r : Removing L). ArePinsOf r.pins l) (sym same) removes.pins

  pub removes_by : (result : Result (Unit {0}) KeepFail) → KeepsAs g disk then before after v result
      → Decides Stays h l (keep_ruling l h v) (as_before l l) (keep_outcome result) (keep_effects before.back.state.keep v result)
  removes_by (Ok done) did =
      subst (λ (n : ℕ). Decides Stays h l (keep_ruling l h v) (as_before l l) (Answered Kept) (record no_effects { calls = n }))
      (sym (two_counted v before.back.state.keep may.other))
      (subst (λ (r : Ruling KeepAnswer). Decides Stays h l r (as_before l l) (Answered Kept) (record no_effects { calls = 2 }))
      (ruled_made before h l v is may)
      (decides_answered Stays h l (keep_made l h v) (as_before l l) Kept (record no_effects { calls = 2 }) refl refl
      (removes_alike l (keeping v h l) (record {
        flushed = refl;
        frozen = refl;
        levels = refl;
        retired = refl;
        active = refl;
        later = omega arith;
        lent = omega arith;
        running = λ e. e;
      }) before after logs old new stock
      (pins_alike new.pins l (keeping v h l) refl refl refl (omega arith) pins) removes)))
  removes_by (Err (fails.Halted name)) did = absurd did
  removes_by (Err fails.InvalidRequest) did = absurd did
  removes_by (Err fails.NoMemory) did =
      decides_short Stays h l (keep_ruling l h v) l
      (removes_same before after old new l logs stock pins removes)
  removes_by (Err (fails.Disk name)) did =
      decides_failed Stays h l (keep_ruling l h v) l (file_of name) no_effects (runs_on before h l v is may.running)
      (removes_halted after new l (file_of name) pins)
