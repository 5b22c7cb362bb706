-- What an engine keeps of which files can go stays what the layout has, where nothing is retired.
use Rattle.std.proofs.Common.{◌≡◌, ◌⊎◌, ⊎_elim, ℕ, ◌+◌, ◌≤◌, ◌<◌, Bool, true, List, [], length}
use Rattle.std.proofs.Common.{refl, ap, sym, ◌∙◌, subst, arith}
use Rattle.std.specs.Prelude.{Option, None, Some}
use Rattle.std.specs.List.{AllByRecursion}
use Rattle.std.specs.VecDeque.{deque_len, deque_capacity}
use Rattle.vl_engine_laws.specs.Represents.{StandsFor}
use Rattle.vl_engine_laws.specs.declared.kept.Core.{Core}
use Rattle.vl_space.specs.laws.Retired.Laid.{is_stock, uses_first, used_waits}
use Rattle.vl_engine_laws.specs.Lent.{Opens}
use Rattle.vl_space.specs.Removing.{IsStockOf, Removes, UsesThoseOf, all_retired}
use Rattle.vl_engine_laws.specs.Lent.{lent_in}
use Rattle.vl_space.specs.Retiring.{StaysUsed, used_in}
use Rattle.vl_engine_laws.specs.declared.open.OpenMerge.{OpenMerge}
use Rattle.vl_space.specs.declared.kept.Removing.{Removing}
use Rattle.vl_engine_model.specs.Jobs.{lent_numbers}
use Rattle.vl_engine_model.specs.Ruling.{halted_at}
use Rattle.vl_engine_model.specs.Sources.{head as layout_head}
use Rattle.vl_engine_model.specs.declared.file_name.FileName.{FileName}
use Rattle.vl_engine_model.specs.declared.file_name.Retired.{Retired}
use Rattle.vl_engine_model.specs.declared.job.OpenJob.{OpenJob}
use Rattle.vl_engine_model.specs.declared.layout.Layout.{Layout}
use Rattle.vl_engine_model.specs.declared.segment.Segment.{Segment}
use Rattle.vl_model.specs.History.{History}
use Rattle.vl_pins.specs.Files.{Has}
use Rattle.vl_pins.specs.Pins.{ArePinsOf}
use Rattle.vl_pins.specs.declared.in_use.InUse.{InUse}
use Rattle.vl_pins.specs.declared.pins.Pins.{Pins}
use Rattle.vl_pins.specs.declared.retired_file.RetiredFile.{RetiredFile}
use Rattle.vl_pins.specs.declared.stock.Stock.{Stock}
use Rattle.vl_seglog.specs.declared.sealed.SealedLog.{SealedLog}

-- what was lent to the open merge is what the layout has lent
pub opens_lent : (merging : Option OpenMerge) (job : Option OpenJob) → Opens merging job → lent_in merging ≡ lent_numbers job
opens_lent None None opens = refl
opens_lent None (Some j) opens = absurd opens
opens_lent (Some o) None opens = absurd opens
opens_lent (Some o) (Some j) opens = opens.lent

module _ {H L : Type 0} (bytes : H → Option (List ℕ)) (size : H → ℕ)
    (sized : (held : H) (told : List ℕ) → bytes held ≡ Some told → length told ≡ size held) (before after : Core H) (h : History)
    (l : Layout) (is : StandsFor bytes before h l) where
  -- where the files in use may have been noted
  pub stays_stock : (was now : Stock L) → after.version.behind.logs.items ≡ before.version.behind.logs.items → StaysUsed before was now
      → IsStockOf before was l → IsStockOf after now l
  stays_stock was now logs stays stock =
      ⊎_elim (λ (none : (was.in_use ≡ None) × (now.in_use ≡ None)). record {
        in_use = subst (λ (o : Option InUse). UsesThoseOf after.version.behind.logs.items o l) (sym none.1)
            (subst (λ (ls : List (SealedLog H)). UsesThoseOf ls None l) (sym logs)
            (subst (λ (o : Option InUse). UsesThoseOf before.version.behind.logs.items o l) none.0 stock.in_use));
        trash = waits;
        aged = stock.aged;
        room = room;
      })
      (λ (has : Has now (used_in before was)).
      is_stock after now l (used_in before was) has (uses_first bytes before h l is size sized was.trash.items was.in_use stock.in_use)
      (ap all_retired (used_waits before was) ∙ stock.trash) stock.aged room)
      stays.used
    where
      waits : all_retired now.trash.items ≡ l.retired
      waits = ap all_retired stays.trash ∙ stock.trash

      room : deque_len now.trash + length (lent_numbers l.job) ≤ deque_capacity now.trash
      room =
          let a = stock.room in
          let b = stays.capacity in
          let c = ap length stays.trash in
          let d = was.trash.ok.0 in
          let e = now.trash.ok.0 in
          omega (arith, a, b, c, d, e)

  pub stays_removes : (was now : Removing L) → after.version.behind.logs.items ≡ before.version.behind.logs.items
      → StaysUsed before was.stock now.stock → now.pins ≡ was.pins → Removes before was l → Removes after now l
  stays_removes was now logs stays pins removes = record {
    pins = subst (λ (p : Pins). ArePinsOf p l) (sym pins) removes.pins;
    stock = λ running. stays_stock was.stock now.stock logs stays (removes.stock running);
  }

-- where a fault halted, only what is pinned counts
pub halts_removes : {H L : Type 0} (after : Core H) (now : Removing L) (x : Layout) (name : FileName)
    → ArePinsOf now.pins x → Removes after now (halted_at name x)
halts_removes after now x name pins = record {
  pins = record { live = pins.live; merge = pins.merge; pass = pins.pass; last = pins.last };
  stock = λ running. absurd (let clash : Some name ≡ None = running in cc);
}

pub same_pins : {L : Type 0} (was now : Removing L) (l : Layout) → now.pins ≡ was.pins → ArePinsOf was.pins l → ArePinsOf now.pins l
same_pins was now l same is = subst (λ (p : Pins). ArePinsOf p l) (sym same) is
