-- What a flush leaves of the files in use and of those that wait is what its ruling leaves.
use Rattle.std.proofs.Common.{◌≡◌, ℕ, ◌+◌, ◌≤◌, ◌<◌, Bool, true, false, List, [], ◌∷◌, ◌++◌, length, map, cond, not}
use Rattle.std.proofs.Common.{refl, ap, sym, ◌∙◌, subst, arith, append_assoc}
use Rattle.std.specs.Prelude.{Option, None, Some, Result, Ok, Err}
use Rattle.std.specs.Prelude.{◌==◌, ◌||◌}
use Rattle.std.proofs.lemmas.Bool.Decides.{nat_tests}
use Rattle.vl_back.specs.FlushEdits.{head_of}
use Rattle.vl_engine_laws.specs.laws.FileLaws.{all_filtered}
use Rattle.vl_engine_laws.specs.laws.WaitingLaws.{waits_first}
use Rattle.vl_engine.proofs.Collected.{flush_by, flush_history}
use Rattle.vl_steps.specs.laws.Leaving.{staged_head}
use Rattle.vl_engine.proofs.Retired.Rotating.{short}
use Rattle.vl_space.specs.Collecting.{Collects}
use Rattle.vl_engine.specs.Space.{FlushesFor}
use Rattle.vl_steps.specs.Flushing.{FlushesAs}
use Rattle.vl_engine.specs.Space.{FlushesStock}
use Rattle.vl_space.specs.Retiring.{HoldsNeeded, IsReadied}
use Rattle.vl_steps.specs.Stepping.{step_outcome}
use Rattle.vl_steps.specs.declared.fails.StepFail.TheVariants as fails
use Rattle.vl_steps.specs.declared.fails.StepFail.{StepFail}
use Rattle.vl_space.specs.declared.kept.Collecting.{Collecting}
use Rattle.vl_engine_model.specs.Decides.{Answered, Damaged, Decides, Effects, Failed, NoMemory, as_before}
use Rattle.vl_engine_model.specs.Ruling.{StepAnswer, Stepped}
use Rattle.vl_engine_model.specs.Rulings.Flush.{flush_ruling}
use Rattle.vl_engine_model.specs.Sources.{number_or}
use Rattle.vl_engine_model.specs.Start.{newest_first}
use Rattle.vl_engine_model.specs.Stock.{IsFalling}
use Rattle.vl_engine_model.specs.declared.file_name.FileName.TheVariants as files
use Rattle.vl_engine_model_laws.specs.laws.Steps.{all_rising}
use Rattle.vl_manifest.specs.declared.state.ManifestState.{ManifestState}
use Rattle.vl_manifest.specs.declared.waiting.Waiting.{Waiting}
use Rattle.vl_pins.specs.Files.{BecomesBy, Has, HasRoom, retired_of}
use Rattle.vl_pins.specs.declared.stock.Stock.{Stock}
use Rattle.vl_recover.specs.opening.HeldFiles.{AreWaiting}
use Rattle.std.specs.List.{AllByRecursion, filter, flat_map}
use Rattle.std.specs.VecDeque.{deque_len, deque_capacity}
use Rattle.vl_compact.specs.declared.files.Lent.{Lent}
use Rattle.vl_engine_laws.specs.MayStep.{HasNumbers}
use Rattle.vl_engine_laws.specs.Represents.{StandsFor}
use Rattle.vl_engine_laws.specs.declared.kept.Core.{Core}
use Rattle.vl_disk.specs.declared.watched.Watched.{Ghosts}
use Rattle.vl_engine.proofs.Collected.{decides_too}
use Rattle.vl_space.specs.laws.CollectLaws.{head_is_laid}
use Rattle.vl_space.specs.laws.Retired.Kept.{halts_removes, opens_lent, same_pins, stays_removes}
use Rattle.vl_space.specs.laws.Retired.Laid.{Uses, aged_more, all_more, front_tables, is_stock, just_retired, switch_logs, switch_retired}
use Rattle.vl_space.specs.laws.Retired.Laid.{switch_tables, switch_waits, uses_first, used_waits}
use Rattle.vl_space.specs.laws.Retired.Changing.{map-both, no_logs, readied_for}
use Rattle.vl_space.specs.laws.Retired.Retiring.{all_weaker, gone_logs}
use Rattle.vl_space.specs.Collecting.{IsTallied, head_in}
use Rattle.vl_engine_laws.specs.Lent.{Opens}
use Rattle.vl_space.specs.Removing.{IsStockOf, Removes, all_retired}
use Rattle.vl_engine_laws.specs.Lent.{lent_in}
use Rattle.vl_space.specs.Retiring.{SwitchesStock, is_idle_in, is_idle_log, retiring, switching, used_in}
use Rattle.vl_engine_laws.specs.declared.open.OpenMerge.{OpenMerge}
use Rattle.vl_space.specs.declared.kept.Removing.{Removing}
use Rattle.vl_engine_model.specs.Jobs.{lent_numbers}
use Rattle.vl_engine_model.specs.Ruling.{is_idle, retired_at, switched}
use Rattle.vl_engine_model.specs.Rulings.Flush.{flushed, flushed_table}
use Rattle.vl_engine_model.specs.Sources.{but_oldest, head, log_of, oldest, rising, tables}
use Rattle.vl_engine_model.specs.Tidy.{log_numbers, sealed}
use Rattle.vl_engine_model.specs.declared.file_name.FileName.{FileName}
use Rattle.vl_engine_model.specs.declared.file_name.Retired.{Retired}
use Rattle.vl_engine_model.specs.declared.layout.Layout.{Layout}
use Rattle.vl_engine_model.specs.declared.segment.Segment.{Segment}
use Rattle.vl_engine_model.specs.declared.table.Table as laid
use Rattle.vl_engine_model_laws.specs.laws.Switches.{flushing}
use Rattle.vl_engine_model_laws.specs.laws.TidyLogs.{sealed_same}
use Rattle.vl_model.specs.History.{History}
use Rattle.vl_model.specs.Numbers.{has}
use Rattle.vl_pins.specs.Files.{Kept, with_tables}
use Rattle.vl_pins.specs.Pins.{ArePinsOf}
use Rattle.vl_stats.specs.Tallies.{IsOfLayout, IsTally, Tallied}
use Rattle.vl_stats.specs.laws.TallyLaws.{falling_less}

-- where it was done, a log waited
pub flush_stepped : (l : Layout) (h : History) (n : ℕ) → (flush_ruling l h).answer ≡ Stepped n
    → (o : Segment) × (oldest l.frozen ≡ Some o) × (l.halted ≡ None) × ((flush_ruling l h).layout ≡ flushed l o)
flush_stepped l h n = flush_by l h (λ r. r.answer ≡ Stepped n
    → (o : Segment) × (oldest l.frozen ≡ Some o) × (l.halted ≡ None) × (r.layout ≡ flushed l o))
    (λ a no stepped. absurd (no n stepped)) (λ s runs at stepped. (s, at, runs, refl))

-- ---- numbers

pub has_more : (n : ℕ) (ns ms : List ℕ) → has n ns ≡ true → has n (ns ++ ms) ≡ true
has_more n [] ms is = absurd (let clash : false ≡ true = is in cc)
has_more n (m ∷ ns) ms is = by (m == n) is (λ later. has_more n ns ms later)
  where
    by : (b : Bool) → (b || has n ns) ≡ true → (has n ns ≡ true → has n (ns ++ ms) ≡ true) → (b || has n (ns ++ ms)) ≡ true
    by true is later = refl
    by false is later = later is

pub has_end : (n : ℕ) (ns : List ℕ) → has n (ns ++ n ∷ []) ≡ true
has_end n [] = let same : (n == n) ≡ true = grind (arith, nat_tests) in ap (λ b. b || false) same
has_end n (m ∷ ns) = ap (λ b. (m == n) || b) (has_end n ns) ∙ or_true (m == n)
  where
    or_true : (b : Bool) → (b || true) ≡ true
    or_true true = refl
    or_true false = refl

-- ---- it was done

module _ {H W : Type 0} {s : _} (bytes : H → Option (List ℕ)) (size : H → ℕ)
    (sized : (held : H) (told : List ℕ) → bytes held ≡ Some told → length told ≡ size held) (before after : Core H)
    (was now : Removing (Lent W s)) (merging : Option OpenMerge) (h : History) (l : Layout) (stands : StandsFor bytes before h l)
    (opens : Opens merging l.job) (removes : Removes before was l) (pins : now.pins ≡ was.pins) where
  module _ (o : Segment) (at : oldest l.frozen ≡ Some o) (running : l.halted ≡ None) (t : Tallied) (tally : IsTally t (flushed l o))
      (after_stands : StandsFor bytes after h (flushed l o)) (n : ℕ) (n_is : n ≡ l.next_table)
      (switches : SwitchesStock before after (n ∷ []) [] (Some t) was.stock now.stock (length (lent_in merging))) where
    abbrev kept : Kept (Lent W s)
    kept = used_in before was.stock

    falls : IsFalling ((flushing l o).active ∷ (flushing l o).frozen)
    falls = falling_less l.active l.frozen stands.tidy.files.stocked.falling

    of : IsOfLayout t.live (head_in after) (flushed l o)
    of = record { live_is = tally.live; head_is = head_is_laid bytes after h (flushed l o) after_stands }

    uses : Uses kept l
    uses = uses_first bytes before h l stands size sized was.stock.trash.items was.stock.in_use (removes.stock running).in_use

    logs : kept.logs ≡ log_numbers (rising (sealed (flushing l o)))
    logs = uses.logs ∙ ap (λ ss. log_numbers (rising ss)) (sym (sealed_same l o at))

    version : before.back.epoch + 1 ≡ (flushing l o).epoch
    version = ap (λ k. k + 1) stands.fronts.version

    pub flushed_stock : IsStockOf after now.stock (flushed l o)
    flushed_stock =
        is_stock after now.stock (flushed l o)
        (retiring (flushing l o).epoch (is_idle_log (head_in after) t.live) (with_tables (n ∷ []) kept))
        (subst (λ v. Has now.stock (retiring v (is_idle_log (head_in after) t.live) (with_tables (n ∷ []) kept))) version
        (switches.switched kept switches.is_ready.has))
        (record {
          tables = subst (λ ns. AllByRecursion (λ (x : laid.Table). has x.number ns ≡ true) (tables (flushed l o)))
              (sym (switch_tables (flushing l o) [] falls t.live (head_in after) of (with_tables (n ∷ []) kept) logs))
              (front_tables (λ (x : laid.Table). has x.number (kept.tables ++ n ∷ []) ≡ true) (flushed_table l o) l.levels
              (subst (λ k. has k (kept.tables ++ n ∷ []) ≡ true) n_is (has_end n kept.tables))
              (all_weaker (λ (x : laid.Table). has x.number kept.tables ≡ true)
              (λ (x : laid.Table). has x.number (kept.tables ++ n ∷ []) ≡ true)
              (λ x is. has_more x.number kept.tables (n ∷ []) is) (tables l) uses.tables));
          logs = switch_logs (flushing l o) [] falls t.live (head_in after) of (with_tables (n ∷ []) kept) logs;
        })
        (ap (all_retired {L = Lent W s}) (switch_waits (flushing l o) [] falls t.live (head_in after) of (with_tables (n ∷ []) kept) logs)
        ∙ map-both retired_of kept.trash
        (gone_logs (flushing l o).epoch (log_numbers (rising (filter (is_idle (flushing l o)) (flushing l o).flushed))))
        ∙ ap (λ (rs : List Retired). rs ++ all_retired {L = Lent W s}
        (gone_logs (flushing l o).epoch (log_numbers (rising (filter (is_idle (flushing l o)) (flushing l o).flushed)))))
        (ap (all_retired {L = Lent W s}) (used_waits before was.stock) ∙ (removes.stock running).trash)
        ∙ ap (λ rs. l.retired ++ rs)
        (switch_retired (flushing l o) [] falls t.live (head_in after) of (with_tables (n ∷ []) kept) logs))
        (all_more (λ (r : Retired). r.epoch ≤ l.epoch + 1) l.retired
        (map (retired_at (l.epoch + 1)) (map log_of (rising (filter (is_idle (flushing l o)) (flushing l o).flushed))))
        (aged_more l.epoch (l.epoch + 1) (omega arith) l.retired (removes.stock running).aged)
        (just_retired (l.epoch + 1) (map log_of (rising (filter (is_idle (flushing l o)) (flushing l o).flushed)))))
        (let room = switches.room.trash in
        let lent = ap length (opens_lent merging l.job opens) in
        omega (arith, room, lent))

    pub flushed_removes : Removes after now (flushed l o)
    flushed_removes = record { pins = next (same_pins was now l pins removes.pins); stock = λ runs. flushed_stock }
      where
        next : ArePinsOf now.pins l → ArePinsOf now.pins (flushed l o)
        next are = record { live = are.live; merge = are.merge; pass = are.pass; last = (let up = are.last in omega (arith, up)) }

  -- whatever is left of the tally
  tallied_some : (kept : Option Tallied) (x : Layout) → IsTallied kept x → (t : Tallied) × (kept ≡ Some t) × IsTally t x
  tallied_some None x is = absurd is
  tallied_some (Some t) x is = (t, refl, is)

  module _ {D : Type 0} (g : Ghosts D) (old new : D) (before_collecting now_collecting : Collecting)
      (collects : Collects before before_collecting l) (numbers : l.halted ≡ None → HasNumbers before.back l) (effects : Effects) where
    abbrev So : History → Layout → Type 0
    So k x = Removes after now x

    pub flush_removes : (result : Result (Option ℕ) StepFail) → FlushesAs g bytes old new before after result
        → FlushesFor bytes before before_collecting now_collecting after result
        → FlushesStock before after was.stock now.stock now_collecting.tally (length (lent_in merging)) result
        → Decides (StandsFor bytes after) h l (flush_ruling l h) (as_before l l) (step_outcome result) effects
        → Decides So h l (flush_ruling l h) (as_before l l) (step_outcome result) effects
    flush_removes (Ok (Some n)) did flushes switches is =
        decides_too (StandsFor bytes after) So h l (flush_ruling l h) (as_before l l) (Answered (Stepped n)) effects is
        (λ a same answer. done a same answer)
        (λ same. absurd (none n same)) (λ name same. absurd (no_fail n name same))
        (λ name place same. absurd (no_damage n name place same))
      where
        one : (n : ℕ) (a : StepAnswer) → Answered (Stepped n) ≡ Answered a → Stepped n ≡ a
        one n a e = cc

        same_number : (n m : ℕ) → Stepped n ≡ Stepped m → n ≡ m
        same_number n m e = cc

        none : (n : ℕ) → Answered (Stepped n) ≡ NoMemory → ⊥
        none n e = cc

        no_fail : (n : ℕ) (name : FileName) → Answered (Stepped n) ≡ Failed name → ⊥
        no_fail n name e = cc

        no_damage : (n : ℕ) (name : FileName) (place : ℕ) → Answered (Stepped n) ≡ Damaged name place → ⊥
        no_damage n name place e = cc

        after_it : (flush_ruling l h).answer ≡ Stepped n → StandsFor bytes after h (flush_ruling l h).layout
        after_it answer = subst (λ (k : History). StandsFor bytes after k (flush_ruling l h).layout) (flush_history l h)
            (is.answered (Stepped n) refl).1

        by_tally : (x : Layout) (o : Segment) → x ≡ flushed l o → oldest l.frozen ≡ Some o → l.halted ≡ None
            → StandsFor bytes after h x → IsTallied now_collecting.tally x → Removes after now x
        by_tally x o same at running after_is tallied =
            let (t, some, tally) = tallied_some now_collecting.tally x tallied in
            subst (λ (y : Layout). Removes after now y) (sym same)
            (flushed_removes o at running t (subst (IsTally t) same tally) (subst (StandsFor bytes after h) same after_is) n
            (did.0 ∙ (numbers running).next_table)
            (subst (λ (k : Option Tallied). SwitchesStock before after (n ∷ []) [] k was.stock now.stock (length (lent_in merging))) some
            switches))

        done : (a : StepAnswer) → Answered (Stepped n) ≡ Answered a → (flush_ruling l h).answer ≡ a
            → Removes after now (flush_ruling l h).layout
        done a same answer =
            let stepped = answer ∙ sym (one n a same) in
            let (o, at, running, layout) = flush_stepped l h n stepped in
            by_tally (flush_ruling l h).layout o layout at running (after_it stepped)
            (flushes.tallied h l n stands collects.tally stepped (after_it stepped))
    flush_removes (Ok None) did flushes switches is = absurd did
    flush_removes (Err (fails.Halted name)) did flushes switches is = absurd did
    flush_removes (Err (fails.Exhausted counter)) did flushes switches is = absurd did
    flush_removes (Err fails.NoMemory) did flushes switches is =
        decides_too (StandsFor bytes after) So h l (flush_ruling l h) (as_before l l) short effects is
        (λ a same answer. absurd (none a same))
        (λ same. stays_removes bytes size sized before after h l stands was now
        (ap (λ (c : Core H). c.version.behind.logs.items) did.0) switches pins removes)
        (λ name same. absurd (no_fail name same)) (λ name place same. absurd (no_damage name place same))
      where
        none : (a : StepAnswer) → short ≡ Answered a → ⊥
        none a e = cc

        no_fail : (name : FileName) → short ≡ Failed name → ⊥
        no_fail name e = cc

        no_damage : (name : FileName) (place : ℕ) → short ≡ Damaged name place → ⊥
        no_damage name place e = cc
    flush_removes (Err (fails.Disk at)) did flushes switches is =
        decides_too (StandsFor bytes after) So h l (flush_ruling l h) (as_before l l) (step_outcome (Err (fails.Disk at))) effects is
        (λ a same answer. absurd (none at a same)) (λ same. absurd (no_memory at same))
        (λ name same. halts_removes after now l name (same_pins was now l pins removes.pins))
        (λ name place same. absurd (no_damage at name place same))
      where
        none : (at : _) (a : StepAnswer) → step_outcome (Err (fails.Disk at)) ≡ Answered a → ⊥
        none at a e = cc

        no_memory : (at : _) → step_outcome (Err (fails.Disk at)) ≡ NoMemory → ⊥
        no_memory at e = cc

        no_damage : (at : _) (name : FileName) (place : ℕ) → step_outcome (Err (fails.Disk at)) ≡ Damaged name place → ⊥
        no_damage at name place e = cc

-- ---- what a switch did

pub switches_stock : {H W : Type 0} {s : _} (before after : Core H) (added dropped : List ℕ) (head version lent counted : ℕ)
    (live : List (ℕ × ℕ))
    (kept : Option Tallied) (old mid new : Stock (Lent W s)) → version ≡ before.back.epoch + 1 → head ≡ head_in after
    → ((n : ℕ) → is_idle_in head kept n ≡ is_idle_log head live n) → counted ≡ lent → IsReadied before old mid (length added) counted
    → BecomesBy (switching version added dropped (is_idle_log head live)) mid new
    → ((n : ℕ) → HasRoom mid (length added) 0 n → HasRoom new 0 0 n) → HoldsNeeded before after kept
    → SwitchesStock before after added dropped kept old new lent
switches_stock {H} {W} {s} before after added dropped head version lent counted live kept old mid new made head_is idle same ready
    switched room held = record {
      readied = mid;
      is_ready = readied_for before old mid (length added) (length added) counted lent refl same ready;
      switched = λ (k : Kept (Lent W s)) has. subst (Has new)
          (ap (λ v. switching v added dropped (is_idle_log head live) k) made
          ∙ ap (λ (i : ℕ → Bool). switching (before.back.epoch + 1) added dropped i k)
          (λ j n. sym (idle n) j)
          ∙ ap (λ m. switching (before.back.epoch + 1) added dropped (is_idle_in m kept) k) head_is)
          (switched k has);
      room = room lent (no_logs mid (length added) (length added) 1 counted lent refl same ready.room);
      held = held;
    }
