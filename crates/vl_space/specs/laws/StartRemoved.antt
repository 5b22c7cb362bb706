-- What is kept of which files can go is the layout's at its start: nothing is pinned, and nothing waits.
use Rattle.std.specs.Prelude.{ℕ, List, length}
use Rattle.std.proofs.Common.{sym, ap, subst, arith}
use Rattle.vl_engine_laws.specs.Found.{recovered}
use Rattle.vl_engine_laws.specs.Shown.{Shown}
use Rattle.vl_engine_laws.specs.declared.kept.Core.{Core}
use Rattle.vl_disk.specs.Crash.{Image}
use Rattle.vl_space.specs.Collecting.{AreSealed}
use Rattle.vl_space.specs.Removing.{IsNothingRemoved, Removes, UsesThoseOf, all_retired}
use Rattle.vl_space.specs.declared.kept.Removing.{Removing}
use Rattle.vl_engine_model.specs.Start.{layout_at_start}
use Rattle.vl_engine_model.specs.declared.layout.Layout.{Layout}
use Rattle.vl_model.specs.History.{History, last_number}
use Rattle.vl_oracle.specs.LiveTickets.{LiveTickets}
use Rattle.vl_pins.specs.declared.retired_file.RetiredFile.{RetiredFile}
use Rattle.vl_recover.specs.opening.Answers.{Finds}

module _ {H L : Type 0} (core : Core H) (kept : Removing L) {read : Image} (found : Finds read) (h : History)
    (shown : Shown read h (last_number h)) (room : ℕ) where
  abbrev begun : Layout
  begun = layout_at_start room (recovered found shown)

  pub removes_at_start : IsNothingRemoved kept → AreSealed core.version.behind.logs.items begun → Removes core kept begun
  removes_at_start nothing logs = record {
    pins = record {
      live = ap (λ (live : LiveTickets). live.tickets) nothing.live;
      merge = nothing.merge;
      pass = nothing.pass;
      last = let none = ap (λ (live : LiveTickets). live.last) nothing.live in omega (arith, none);
    };
    stock = λ running. record {
      in_use = subst (λ o. UsesThoseOf core.version.behind.logs.items o begun) (sym nothing.in_use) logs;
      trash = ap (λ (files : List (RetiredFile L)). all_retired files) nothing.trash;
      aged = tt;
      room =
          let none = ap (λ (files : List (RetiredFile L)). length files) nothing.trash in
          let long = kept.stock.trash.ok.0 in
          omega (arith, none, long);
    };
  }
