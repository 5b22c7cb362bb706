-- What a sweep comes to in memory, as the ruling has it.
use Rattle.std.specs.Prelude.{if◌then◌else◌, ◌≡◌, ◌≤◌, ℕ, Bool, List, [], ◌∷◌, length, map, take, Option, None}
use Rattle.std.specs.Prelude.{Some, Result, Ok, Err, true, false, refl}
use Rattle.std.specs.List.{filter}
use Rattle.std.specs.Option.{option_map}
use Rattle.std.proofs.Common.{sym, subst, ap, ◌∙◌, arith, ⊎_elim}
use Rattle.vl_compact.specs.declared.files.Lent.{Lent}
use Rattle.vl_engine_laws.specs.Pointed.{layout_logs}
use Rattle.vl_engine_laws.specs.Represents.{StandsFor, file_of}
use Rattle.vl_engine_laws.specs.declared.kept.Core.{Core}
use Rattle.vl_engine_laws.specs.laws.AsideLaws.{same_stands}
use Rattle.vl_disk.specs.declared.name.Name.{Name}
use Rattle.vl_disk.specs.declared.watched.Watched.{Ghosts}
use Rattle.vl_disk.specs.declared.writer.Writer.{Ghosts as Writers}
use Rattle.vl_space.specs.laws.CollectLaws.{collects_alike, collects_same}
use Rattle.vl_steps.specs.laws.Committing.{decides_answered, decides_failed}
use Rattle.vl_steps.specs.laws.Drawing.{stands_undrawn}
use Rattle.vl_space.specs.laws.Sweeps.Freed.{all_filtered, left_are, swept_are, swept_count}
use Rattle.vl_space.specs.Collecting.{Collects}
use Rattle.vl_engine_laws.specs.Lent.{Opens}
use Rattle.vl_engine_laws.specs.Lent.{StandsOpen}
use Rattle.vl_space.specs.Removing.{IsStockOf, Removes, UsesThoseOf, all_retired}
use Rattle.vl_space.specs.Sweeping.{PinsStay, SweepsAs, SweepsFor, gone_before, held, ready, up_to}
use Rattle.vl_space.specs.Sweeping.{sweep_otherwise}
use Rattle.vl_space.specs.declared.fails.SweepFail.TheVariants as fails
use Rattle.vl_space.specs.declared.fails.SweepFail.{SweepFail}
use Rattle.vl_space.specs.declared.kept.Collecting.{Collecting}
use Rattle.vl_engine_laws.specs.declared.open.OpenMerge.{OpenMerge}
use Rattle.vl_space.specs.declared.kept.Removing.{Removing}
use Rattle.vl_engine_model.specs.Decides.{effects_of, no_effects}
use Rattle.vl_engine_model.specs.Ruling.{halted_at}
use Rattle.vl_engine_model.specs.Rulings.Sweep.{Halted, Removed, sweep_lost, sweep_unless, swept, without_files}
use Rattle.vl_engine_model.specs.declared.file_name.FileName.{FileName}
use Rattle.vl_engine_model.specs.declared.file_name.Retired.{Retired}
use Rattle.vl_engine_model.specs.declared.layout.Layout.{Layout}
use Rattle.vl_engine_model_laws.specs.laws.TidySteps.{tidy_swept}
use Rattle.vl_model.specs.History.{History}
use Rattle.vl_pins.specs.Pins.{ArePinsOf, raised}
use Rattle.vl_pins.specs.declared.retired_file.RetiredFile.{RetiredFile}
use Rattle.vl_pins.specs.laws.PinLaws.{pins_raised}

running_of : (halted : Option Name) (there : Option FileName) → option_map file_of halted ≡ there → halted ≡ None → there ≡ None
running_of halted there same none = sym same ∙ ap (option_map file_of) none

-- ---- as the ruling has it, whatever stands then

-- what stands behind each answer
abbrev pub Leaves : (History → Layout → Type 0) → History → Layout → Option ℕ → (gone : ℕ) → Result ℕ SweepFail → Type 0
Leaves stands h l least gone (Ok count) = stands h (without_files (swept least l) l)
Leaves stands h l least gone (Err (fails.Halted name)) = stands h l
Leaves stands h l least gone (Err (fails.Disk name)) = stands h (halted_at (file_of name) (sweep_lost least l gone))

module _ {D W H : Type 0} (g : Ghosts D) (w : Writers W) {s : _} (old new : D) (bytes : H → Option (List ℕ)) (core after : Core H)
    (before now : Removing (Lent W s)) (h : History) (l : Layout) (is : StandsFor bytes core h l)
    (removes : Removes core before l) (least : Option ℕ) where
  abbrev pub bound : ℕ
  bound = up_to least core.back.epoch before.pins

  pub running : core.front.halted ≡ None → l.halted ≡ None
  running none = running_of core.front.halted l.halted is.fronts.halted none

  module _ (runs : l.halted ≡ None) where
    stock : IsStockOf core before.stock l
    stock = removes.stock runs

    files_are : swept least l ≡ map (λ (file : RetiredFile (Lent W s)). file_of file.name) (ready bound before.stock.trash.items)
    files_are = swept_are l before.pins before.stock.trash.items removes.pins stock.trash stock.aged core.back.epoch
        is.fronts.version least

    pub count_is : length (swept least l) ≡ length (ready bound before.stock.trash.items)
    count_is = swept_count l before.pins before.stock.trash.items removes.pins stock.trash stock.aged core.back.epoch
        is.fronts.version least

    rest_are : all_retired (held bound before.stock.trash.items) ≡ (without_files (swept least l) l).retired
    rest_are = left_are l before.pins before.stock.trash.items removes.pins stock.trash stock.aged core.back.epoch
        is.fronts.version least is.tidy.files.once

  pub sweeps_for : (stands : History → Layout → Type 0) (result : Result ℕ SweepFail)
      → SweepsAs g w bound old new core after before now result → Leaves stands h l least (gone_before before now) result
      → SweepsFor stands h l least bound before now result
  sweeps_for stands (Ok count) did leaves = let runs = running did.0 in
      decides_answered stands h l (sweep_unless l.halted least l h) (sweep_otherwise least l (gone_before before now)) (Removed count)
      (record { calls = count; gone = map (λ (file : RetiredFile (Lent W s)). file_of file.name) (ready bound before.stock.trash.items) })
      (ap Removed (did.2.counted ∙ sym (count_is runs)) ∙ ap (λ (o : Option FileName). (sweep_unless o least l h).answer) (sym runs))
      ((λ i. record { calls = (did.2.counted ∙ sym (count_is runs)) i; gone = sym (files_are runs) i })
      ∙ ap (λ (o : Option FileName). effects_of (sweep_unless o least l h)) (sym runs))
      (subst (λ (o : Option FileName). stands (sweep_unless o least l h).history (sweep_unless o least l h).layout) (sym runs) leaves)
  sweeps_for stands (Err (fails.Halted name)) did leaves =
      let halted : l.halted ≡ Some (file_of name) = sym is.fronts.halted ∙ ap (option_map file_of) did.0 in
      decides_answered stands h l (sweep_unless l.halted least l h) (sweep_otherwise least l (gone_before before now))
      (Halted (file_of name)) no_effects
      (ap (λ (o : Option FileName). (sweep_unless o least l h).answer) (sym halted))
      (ap (λ (o : Option FileName). effects_of (sweep_unless o least l h)) (sym halted))
      (subst (λ (o : Option FileName). stands (sweep_unless o least l h).history (sweep_unless o least l h).layout) (sym halted) leaves)
  sweeps_for stands (Err (fails.Disk name)) did leaves =
      decides_failed stands h l (sweep_unless l.halted least l h) (sweep_lost least l (gone_before before now)) (file_of name)
      no_effects (running did.0) leaves

  -- ---- what it stands for

  swept_stands : (files : List FileName) → StandsFor bytes core h (without_files files l)
  swept_stands files = same_stands l.job (without_files files l).retired h l bytes core (tidy_swept (layout_logs l) l h is.tidy files) is

  pub leaves_stands : (result : Result ℕ SweepFail) → SweepsAs g w bound old new core after before now result
      → Leaves (StandsFor bytes after) h l least (gone_before before now) result
  leaves_stands (Ok count) did =
      subst (λ (c : Core H). StandsFor bytes c h (without_files (swept least l) l)) (sym did.1) (swept_stands (swept least l))
  leaves_stands (Err (fails.Halted name)) did = subst (λ (c : Core H). StandsFor bytes c h l) (sym did.1) is
  leaves_stands (Err (fails.Disk name)) did = stands_undrawn core h (sweep_lost least l (gone_before before now)) bytes
      (swept_stands (take (gone_before before now) (swept least l))) name after did.1

  pub leaves_open : (merging later : Option OpenMerge) → later ≡ merging → Opens merging l.job → (result : Result ℕ SweepFail)
      → Leaves (StandsFor bytes after) h l least (gone_before before now) result
      → Leaves (StandsOpen bytes after later) h l least (gone_before before now) result
  leaves_open merging later same opens (Ok count) stands =
      record { stands = stands; opens = subst (λ (m : Option OpenMerge). Opens m l.job) (sym same) opens }
  leaves_open merging later same opens (Err (fails.Halted name)) stands =
      record { stands = stands; opens = subst (λ (m : Option OpenMerge). Opens m l.job) (sym same) opens }
  leaves_open merging later same opens (Err (fails.Disk name)) stands =
      record { stands = stands; opens = subst (λ (m : Option OpenMerge). Opens m l.job) (sym same) opens }

  -- ---- what is kept

  pins_stay : PinsStay core.back.epoch before.pins now.pins → ArePinsOf now.pins l
  pins_stay stay = record {
    live = ⊎_elim
        (λ (same : now.pins.live ≡ before.pins.live). ap (λ (t : _). t.tickets) same ∙ removes.pins.live)
        (λ (risen : now.pins.live ≡ raised core.back.epoch before.pins.live). ap (λ (t : _). t.tickets) risen ∙ removes.pins.live)
        stay.live;
    merge = stay.merge ∙ removes.pins.merge;
    pass = stay.pass ∙ removes.pins.pass;
    last = ⊎_elim
        (λ (same : now.pins.live ≡ before.pins.live). subst (λ (t : _). t.last ≤ l.epoch) (sym same) removes.pins.last)
        (λ (risen : now.pins.live ≡ raised core.back.epoch before.pins.live).
        subst (λ (t : _). t.last ≤ l.epoch) (sym (risen ∙ ap (λ (v : ℕ). raised v before.pins.live) is.fronts.version))
        (pins_raised before.pins l removes.pins).last)
        stay.live;
  }

  pins_without : (files : List FileName) → ArePinsOf now.pins l → ArePinsOf now.pins (without_files files l)
  pins_without files are = record { live = are.live; merge = are.merge; pass = are.pass; last = are.last }

  pins_halted : (name : FileName) (files : List FileName) → ArePinsOf now.pins l
      → ArePinsOf now.pins (halted_at name (without_files files l))
  pins_halted name files are = record { live = are.live; merge = are.merge; pass = are.pass; last = are.last }

  uses_without : (logs : List _) (o : Option _) (files : List FileName) → UsesThoseOf {H = H} logs o l
      → UsesThoseOf {H = H} logs o (without_files files l)
  uses_without logs None files uses = uses
  uses_without logs (Some in_use) files uses = record { tables = uses.tables; logs = uses.logs }

  shorter : {X : Type 0} (p : X → Bool) (xs : List X) → length (filter p xs) ≤ length xs
  shorter p [] = omega arith
  shorter p (x ∷ xs) = by (p x) (shorter p xs)
    where
      by : (b : Bool) → length (filter p xs) ≤ length xs → length (if b then x ∷ filter p xs else filter p xs) ≤ length (x ∷ xs)
      by true less = omega (arith, less)
      by false less = omega (arith, less)

  pub leaves_removes : (result : Result ℕ SweepFail) → SweepsAs g w bound old new core after before now result
      → Leaves (λ _ x. Removes after now x) h l least (gone_before before now) result
  leaves_removes (Ok count) did = subst (λ (c : Core H). Removes c now (without_files (swept least l) l)) (sym did.1) (record {
    pins = pins_without (swept least l) (pins_stay did.2.pins);
    stock = λ runs. record {
      in_use = subst (λ (o : Option _). UsesThoseOf core.version.behind.logs.items o (without_files (swept least l) l)) (sym did.2.in_use)
          (uses_without core.version.behind.logs.items before.stock.in_use (swept least l) (stock runs).in_use);
      trash = ap all_retired did.2.waiting ∙ rest_are runs;
      aged = all_filtered (λ (r : Retired). r.epoch ≤ l.epoch) _ l.retired (stock runs).aged;
      room = let room = (stock runs).room in let capacity = did.2.capacity in
          let old_len = before.stock.trash.ok.0 in let new_len = now.stock.trash.ok.0 in
          let less = subst (λ (files : List (RetiredFile (Lent W s))). length files ≤ length before.stock.trash.items) (sym did.2.waiting)
          (shorter _ before.stock.trash.items) in
          omega (arith, room, capacity, old_len, new_len, less);
    };
  })
  leaves_removes (Err (fails.Halted name)) did =
      subst (λ (c : Core H). Removes c now l) (sym did.1)
      (subst (λ (k : Removing (Lent W s)). Removes core k l) (sym did.3) removes)
  leaves_removes (Err (fails.Disk name)) did = record {
    pins = pins_halted (file_of name) (take (gone_before before now) (swept least l)) (pins_stay did.3);
    stock = λ runs. absurd (never (file_of name) runs);
  }
    where
      never : (f : FileName) → Some f ≡ None → ⊥
      never f e = cc

  pub leaves_collects : (kept later : Collecting) → later ≡ kept → Collects core kept l → (result : Result ℕ SweepFail)
      → SweepsAs g w bound old new core after before now result
      → Leaves (λ _ x. Collects after later x) h l least (gone_before before now) result
  leaves_collects kept later same has (Ok count) did =
      collects_same core after kept later (without_files (swept least l) l) (ap (λ (c : Core H). c.version.behind.logs.items) did.1) same
      (collects_alike core kept l (without_files (swept least l) l) (record { frozen = refl; flushed = refl; levels = refl; pass = refl })
      has)
  leaves_collects kept later same has (Err (fails.Halted name)) did =
      collects_same core after kept later l (ap (λ (c : Core H). c.version.behind.logs.items) did.1) same has
  leaves_collects kept later same has (Err (fails.Disk name)) did =
      collects_same core after kept later (halted_at (file_of name) (sweep_lost least l (gone_before before now)))
      (ap (λ (c : Core H). c.version.behind.logs.items) did.1) same
      (collects_alike core kept l (halted_at (file_of name) (sweep_lost least l (gone_before before now)))
      (record { frozen = refl; flushed = refl; levels = refl; pass = refl }) has)
