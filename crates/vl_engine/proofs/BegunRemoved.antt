-- What is kept of which files can go, where a merge or a pass has begun: its epoch is pinned.
use Rattle.std.specs.Prelude.{◌≡◌, ℕ, Bool, Option, None, Some, Result, Ok, Err, refl}
use Rattle.std.proofs.Common.{sym, ap, subst, ◌∙◌, arith}
use Rattle.vl_engine_laws.specs.Represents.{Fronts}
use Rattle.vl_engine_laws.specs.declared.kept.Core.{Core}
use Rattle.vl_space.specs.laws.StillRemoved.{removes_alike}
use Rattle.vl_space.specs.Pinning.{PinsMerge, PinsPass, merge_pinned, pass_pinned}
use Rattle.vl_space.specs.Removing.{Removes}
use Rattle.vl_space.specs.declared.fails.PickFail.{PickFail}
use Rattle.vl_space.specs.declared.kept.Removing.{Removing}
use Rattle.vl_engine_model.specs.Rulings.Pick.{with_pass}
use Rattle.vl_engine_model.specs.Rulings.Plan.{with_job}
use Rattle.vl_engine_model.specs.declared.job.Job.{Job}
use Rattle.vl_engine_model.specs.declared.layout.Layout.{Layout}
use Rattle.vl_model.specs.History.{History}
use Rattle.vl_pins.specs.Pins.{ArePinsOf}

module _ {H L : Type 0} (core after : Core H) (h : History) (l : Layout) (is : Fronts core h l) (same : after ≡ core)
    (old new : Removing L) (removes : Removes core old l) where
  -- where nothing changed
  pub removes_kept : new ≡ old → Removes after new l
  removes_kept kept = subst (λ (c : Core H). Removes c new l) (sym same)
      (subst (λ (r : Removing L). Removes core r l) (sym kept) removes)

  -- a merge has begun
  pub removes_planned : (job : Job) → new ≡ merge_pinned (Some core.back.epoch) old → Removes after new (with_job job l)
  removes_planned job pinned =
      removes_alike l (with_job job l) (record {
        flushed = refl;
        frozen = refl;
        levels = refl;
        retired = refl;
        active = refl;
        later = omega arith;
        lent = omega arith;
        running = λ e. e;
      }) core after (ap (λ (c : Core H). c.version.behind.logs.items) same) old new
      (ap (λ (r : Removing L). r.stock) pinned)
      (subst (λ (r : Removing L). ArePinsOf r.pins (with_job job l)) (sym pinned) (record {
        live = removes.pins.live;
        merge = ap (λ (n : ℕ). Some n) is.version;
        pass = removes.pins.pass;
        last = removes.pins.last;
      })) removes

  -- a pass has begun
  pub removes_picked : (segment : ℕ) → new ≡ pass_pinned (Some core.back.epoch) old → Removes after new (with_pass segment l)
  removes_picked segment pinned =
      removes_alike l (with_pass segment l) (record {
        flushed = refl;
        frozen = refl;
        levels = refl;
        retired = refl;
        active = refl;
        later = omega arith;
        lent = omega arith;
        running = λ e. e;
      }) core after (ap (λ (c : Core H). c.version.behind.logs.items) same) old new
      (ap (λ (r : Removing L). r.stock) pinned)
      (subst (λ (r : Removing L). ArePinsOf r.pins (with_pass segment l)) (sym pinned) (record {
        live = removes.pins.live;
        merge = removes.pins.merge;
        pass = ap (λ (n : ℕ). Some n) is.version;
        last = removes.pins.last;
      })) removes

pub stock_planned : {L J E : Type 0} (version : ℕ) (old new : Removing L) (result : Result (Option J) E)
    → PinsMerge version old new result → new.stock ≡ old.stock
stock_planned {L} version old new (Ok None) is = ap (λ (r : Removing L). r.stock) is
stock_planned {L} version old new (Ok (Some job)) is = ap (λ (r : Removing L). r.stock) is
stock_planned {L} version old new (Err why) is = ap (λ (r : Removing L). r.stock) is

pub stock_picked : {L P : Type 0} (version : ℕ) (old new : Removing L) (result : Result P PickFail) → PinsPass version old new result
    → new.stock ≡ old.stock
stock_picked {L} version old new (Ok pass) is = ap (λ (r : Removing L). r.stock) is
stock_picked {L} version old new (Err why) is = ap (λ (r : Removing L). r.stock) is
