-- What is kept of which files can go stays what the layout has, where a call leaves the files in use and those that wait alone.
use Rattle.std.specs.Prelude.{◌≡◌, ◌≤◌, ◌++◌, true, List, [], ◌∷◌, length, Option, None, Some}
use Rattle.std.specs.List.{AllByRecursion, flat_map}
use Rattle.std.specs.Option.{option_map}
use Rattle.std.proofs.Common.{sym, ap, subst, ◌∙◌, refl, arith}
use Rattle.vl_engine_laws.specs.declared.kept.Core.{Core}
use Rattle.vl_engine_laws.specs.Represents.{Fronts}
use Rattle.vl_space.specs.Pinning.{PinsLive}
use Rattle.vl_space.specs.Removing.{IsStockOf, Removes, UsesThoseOf}
use Rattle.vl_space.specs.declared.kept.Removing.{Removing}
use Rattle.vl_engine_model.specs.Jobs.{lent_numbers}
use Rattle.vl_engine_model.specs.Ruling.{halted_at}
use Rattle.vl_engine_model.specs.Sources.{rising}
use Rattle.vl_engine_model.specs.Tidy.{log_numbers}
use Rattle.vl_engine_model.specs.declared.file_name.FileName.{FileName}
use Rattle.vl_engine_model.specs.declared.file_name.Retired.{Retired}
use Rattle.vl_engine_model.specs.declared.job.OpenJob.{OpenJob}
use Rattle.vl_engine_model.specs.declared.job.OpenPass.{OpenPass}
use Rattle.vl_engine_model.specs.declared.layout.Layout.{Layout}
use Rattle.vl_engine_model.specs.declared.live.Live.{Live}
use Rattle.vl_engine_model.specs.declared.segment.Segment.{Segment}
use Rattle.vl_engine_model.specs.declared.table.Table as laid
use Rattle.vl_model.specs.Numbers.{has}
use Rattle.vl_model.specs.History.{History}
use Rattle.vl_pins.specs.Pins.{ArePinsOf, pinned_of}
use Rattle.vl_pins.specs.declared.pins.Pins.{Pins}
use Rattle.vl_pins.specs.declared.in_use.InUse.{InUse}
use Rattle.vl_pins.specs.declared.stock.Stock.{Stock}
use Rattle.vl_seglog.specs.declared.sealed.SealedLog.{SealedLog}

-- The same sealed logs and tables, the same retired files, and no more files lent; the epoch doesn't fall.
pub record IsAlike (l k : Layout) : Type 0 where
  pub flushed : k.flushed ≡ l.flushed
  pub frozen : k.frozen ≡ l.frozen
  pub levels : k.levels ≡ l.levels
  pub retired : k.retired ≡ l.retired
  pub active : k.active.number ≡ l.active.number
  pub later : l.epoch ≤ k.epoch
  pub lent : length (lent_numbers k.job) ≤ length (lent_numbers l.job)
  pub running : k.halted ≡ None → l.halted ≡ None

module _ (l k : Layout) (alike : IsAlike l k) where
  sealed_same : l.frozen ++ l.flushed ≡ k.frozen ++ k.flushed
  sealed_same = λ i. sym alike.frozen i ++ sym alike.flushed i

  uses_alike : {H : Type 0} (logs : List (SealedLog H)) (in_use : Option InUse) → UsesThoseOf logs in_use l → UsesThoseOf logs in_use k
  uses_alike {H} logs None uses =
      subst (λ (ss : List Segment). AllByRecursion (λ (log : SealedLog H). has log.number (log_numbers ss) ≡ true) logs) sealed_same uses
  uses_alike logs (Some in_use) uses = record {
    tables = subst (λ (ls : List (List laid.Table)).
        AllByRecursion (λ (t : laid.Table). has t.number in_use.tables.items ≡ true) (flat_map (λ (level : List laid.Table). level) ls))
        (sym alike.levels) uses.tables;
    logs = uses.logs ∙ ap (λ (ss : List Segment). log_numbers (rising ss)) sealed_same;
  }

  aged_on : (rs : List Retired) → AllByRecursion (λ (r : Retired). r.epoch ≤ l.epoch) rs
      → AllByRecursion (λ (r : Retired). r.epoch ≤ k.epoch) rs
  aged_on [] all = tt
  aged_on (r ∷ rs) all = (let a = all.0 in let b = alike.later in omega (arith, a, b), aged_on rs all.1)

  module _ {H : Type 0} (core after : Core H) (logs : after.version.behind.logs.items ≡ core.version.behind.logs.items) where
    pub stock_alike : {L : Type 0} (old new : Stock L) → new ≡ old → IsStockOf core old l → IsStockOf after new k
    stock_alike old new same is = subst (λ (s : Stock _). IsStockOf after s k) (sym same) (record {
      in_use = subst (λ (ss : List (SealedLog H)). UsesThoseOf ss old.in_use k) (sym logs)
          (uses_alike core.version.behind.logs.items old.in_use is.in_use);
      trash = is.trash ∙ sym alike.retired;
      aged = subst (AllByRecursion (λ (r : Retired). r.epoch ≤ k.epoch)) (sym alike.retired)
          (aged_on l.retired is.aged);
      room = let room = is.room in let few = alike.lent in omega (arith, room, few);
    })

    pub removes_alike : {L : Type 0} (old new : Removing L) → new.stock ≡ old.stock → ArePinsOf new.pins k → Removes core old l
        → Removes after new k
    removes_alike old new stock pins is = record {
      pins = pins;
      stock = λ running. stock_alike old.stock new.stock stock (is.stock (alike.running running));
    }

-- What is pinned stays where a layout pins the same.
pub pins_alike : (pins : Pins) (l k : Layout) → k.live ≡ l.live
    → option_map (λ (j : OpenJob). j.pin.epoch) k.job ≡ option_map (λ (j : OpenJob). j.pin.epoch) l.job
    → k.pass ≡ l.pass → l.epoch ≤ k.epoch → ArePinsOf pins l → ArePinsOf pins k
pins_alike pins l k live job pass later are = record {
  live = are.live ∙ ap pinned_of (sym live);
  merge = are.merge ∙ sym job;
  pass = are.pass ∙ ap (λ (o : Option OpenPass). option_map (λ (p : OpenPass). p.pin.epoch) o) (sym pass);
  last = let a = are.last in omega (arith, a, later);
}

pub alike_same : (l : Layout) → IsAlike l l
alike_same l = record {
  flushed = refl;
  frozen = refl;
  levels = refl;
  retired = refl;
  active = refl;
  later = omega arith;
  lent = omega arith;
  running = λ e. e;
}

-- Once it is halted nothing is said but of pins.
pub removes_halted : {H L : Type 0} (after : Core H) (new : Removing L) (l : Layout) (name : FileName)
    → ArePinsOf new.pins l → Removes after new (halted_at name l)
removes_halted after new l name pins = record {
  pins = pins_alike new.pins l (halted_at name l) refl refl refl (omega arith) pins;
  stock = λ running. cc;
}

-- Where all but memory stays,
pub removes_same : {H L : Type 0} (core after : Core H) (old new : Removing L) (l : Layout)
    → after.version.behind.logs.items ≡ core.version.behind.logs.items → new.stock ≡ old.stock → ArePinsOf new.pins l
    → Removes core old l → Removes after new l
removes_same core after old new l logs stock pins is = removes_alike l l (alike_same l) core after logs old new stock pins is

-- and where something ends, or begins.
pub removes_live : {H L : Type 0} (core after : Core H) (old new : Removing L) (l : Layout) (live : List Live)
    → after.version.behind.logs.items ≡ core.version.behind.logs.items → new.stock ≡ old.stock
    → ArePinsOf new.pins (record l { live = live }) → Removes core old l → Removes after new (record l { live = live })
removes_live core after old new l live logs stock pins is =
    removes_alike l (record l { live = live }) (record {
      flushed = refl;
      frozen = refl;
      levels = refl;
      retired = refl;
      active = refl;
      later = omega arith;
      lent = omega arith;
      running = λ e. e;
    }) core after logs old new stock pins is

-- What lives is pinned as the layout has it.
pub pins_here : {H L : Type 0} (core : Core H) (h : History) (l : Layout) → Fronts core h l → (kept : Removing L)
    → Removes core kept l → PinsLive core.front.oracle kept.pins core.back.epoch l
pins_here core h l is kept removes = record {
  live_are = is.front.live_are;
  rising = is.front.lived.rising;
  pins_are = removes.pins;
  version_is = is.version;
}
