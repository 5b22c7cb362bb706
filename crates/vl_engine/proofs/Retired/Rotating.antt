-- What a rotation leaves of the files in use and of those that wait is what its ruling leaves.
use Rattle.std.proofs.Common.{◌≡◌, ℕ, ◌+◌, ◌≤◌, ◌<◌, Bool, true, List, [], ◌∷◌, ◌++◌, length}
use Rattle.std.proofs.Common.{refl, ap, sym, ◌∙◌, subst, arith}
use Rattle.std.specs.Prelude.{Option, None, Some, Result, Ok, Err}
use Rattle.std.specs.List.{AllByRecursion}
use Rattle.std.specs.VecDeque.{deque_len, deque_capacity}
use Rattle.vl_engine_laws.specs.MayStep.{HasNumbers}
use Rattle.vl_engine_laws.specs.Represents.{StandsFor}
use Rattle.vl_engine_laws.specs.RotateFacts.{HasBegun}
use Rattle.vl_engine_laws.specs.declared.kept.Core.{Core}
use Rattle.vl_disk.specs.declared.watched.Watched.{Ghosts}
use Rattle.vl_engine.proofs.Collected.{decides_too}
use Rattle.vl_steps.specs.laws.Committing.{decides_leaving}
use Rattle.vl_space.specs.laws.Retired.Kept.{halts_removes, opens_lent, same_pins, stays_removes}
use Rattle.vl_space.specs.laws.Retired.Laid.{aged_more, is_stock, rotated_numbers, sealed_below, uses_first, used_waits}
use Rattle.vl_steps.specs.laws.Rotated.{ruled_refused}
use Rattle.vl_engine_laws.specs.Lent.{Opens}
use Rattle.vl_space.specs.Removing.{IsStockOf, Removes, all_retired}
use Rattle.vl_engine_laws.specs.Lent.{lent_in}
use Rattle.vl_space.specs.Retiring.{SealsInto, used_in}
use Rattle.vl_engine.specs.Space.{SealsStock}
use Rattle.vl_steps.specs.Rotating.{IsRefusedSo, RotatesAs, rotate_effects}
use Rattle.vl_steps.specs.Stepping.{step_outcome}
use Rattle.vl_steps.specs.declared.fails.StepFail.TheVariants as fails
use Rattle.vl_steps.specs.declared.fails.StepFail.{StepFail}
use Rattle.vl_engine_laws.specs.declared.open.OpenMerge.{OpenMerge}
use Rattle.vl_space.specs.declared.kept.Removing.{Removing}
use Rattle.vl_compact.specs.declared.files.Lent.{Lent}
use Rattle.vl_engine_model.specs.Decides.{Answered, Damaged, Decides, Effects, Failed, NoMemory, Outcome, as_before, no_effects}
use Rattle.vl_engine_model.specs.Jobs.{lent_numbers}
use Rattle.vl_engine_model.specs.Ruling.{StepAnswer, Stepped}
use Rattle.vl_engine_model.specs.Rulings.Rotate.{rotate_ruling, rotated}
use Rattle.vl_engine_model.specs.Sources.{head, number_or, oldest, rising}
use Rattle.vl_engine_model.specs.Tidy.{log_numbers, sealed}
use Rattle.vl_engine_model.specs.declared.file_name.FileName.{FileName}
use Rattle.vl_engine_model.specs.declared.file_name.Retired.{Retired}
use Rattle.vl_engine_model.specs.declared.layout.Layout.{Layout}
use Rattle.vl_engine_model.specs.declared.segment.Segment.{Segment}
use Rattle.vl_model.specs.History.{History}
use Rattle.vl_manifest.specs.declared.state.ManifestState.{ManifestState}
use Rattle.vl_pins.specs.Files.{log_sealed}
use Rattle.vl_pins.specs.Pins.{ArePinsOf}
use Rattle.vl_seglog.specs.declared.sealed.SealedLog.{SealedLog}
use Rattle.vl_stats.specs.laws.RulingLaws.{rotation_leaves}
use Rattle.vl_version.specs.declared.version.Version.{Version}

-- ---- it was done

abbrev pub short : Outcome StepAnswer
short = NoMemory

module _ {H W : Type 0} {s : _} (bytes : H → Option (List ℕ)) (size : H → ℕ)
    (sized : (held : H) (told : List ℕ) → bytes held ≡ Some told → length told ≡ size held) (before after : Core H)
    (was now : Removing (Lent W s)) (merging : Option OpenMerge) (h : History) (l : Layout) (stands : StandsFor bytes before h l)
    (opens : Opens merging l.job) (removes : Removes before was l) (pins : now.pins ≡ was.pins) where
  pub sealed_stock : IsStockOf before was.stock l → SealsInto before was.stock now.stock (length (lent_in merging))
      → IsStockOf after now.stock (rotated l)
  sealed_stock stock seals =
      let uses = uses_first bytes before h l stands size sized was.stock.trash.items was.stock.in_use stock.in_use in
      is_stock after now.stock (rotated l) (log_sealed before.front.log.number (used_in before was.stock))
      (seals.sealed (used_in before was.stock) seals.is_ready.has)
      (record {
        tables = uses.tables;
        logs = ap (λ ns. ns ++ before.front.log.number ∷ []) uses.logs
            ∙ ap (λ n. log_numbers (rising (sealed l)) ++ n ∷ []) stands.fronts.number
            ∙ sym (rotated_numbers l (sealed_below bytes before h l stands));
      })
      (ap all_retired (used_waits before was.stock) ∙ stock.trash)
      (aged_more l.epoch (l.epoch + 1) (omega arith) l.retired stock.aged)
      (let room = seals.is_ready.room.trash in
      let same = ap deque_len seals.trash in
      let size = ap deque_capacity seals.trash in
      let lent = ap length (opens_lent merging l.job opens) in
      omega (arith, room, same, size, lent))

  pub sealed_removes : SealsInto before was.stock now.stock (length (lent_in merging)) → Removes after now (rotated l)
  sealed_removes seals = record {
    pins = next (same_pins was now l pins removes.pins);
    stock = λ running. sealed_stock (removes.stock running) seals;
  }
    where
      next : ArePinsOf now.pins l → ArePinsOf now.pins (rotated l)
      next are = record { live = are.live; merge = are.merge; pass = are.pass; last = (let low = are.last in omega (arith, low)) }

  module _ {D : Type 0} (g : Ghosts D) (old new : D) (S : History → Layout → Type 0) (effects : Effects) where
    abbrev So : History → Layout → Type 0
    So k x = Removes after now x

    pub rotate_removes : (result : Result (Option ℕ) StepFail) → RotatesAs g bytes old new before after result
        → SealsStock before was.stock now.stock (length (lent_in merging)) result
        → Decides S h l (rotate_ruling l h) (as_before l l) (step_outcome result) effects
        → Decides So h l (rotate_ruling l h) (as_before l l) (step_outcome result) effects
    rotate_removes (Ok (Some n)) did seals is =
        decides_too S So h l (rotate_ruling l h) (as_before l l) (Answered (Stepped n)) effects is
        (λ a same answer. rotation_leaves (λ x. Removes after now x) l h (sealed_removes seals) n (answer ∙ sym (one n a same)))
        (λ same. absurd (none n same)) (λ name same. absurd (no_fail n name same))
        (λ name place same. absurd (no_damage n name place same))
      where
        one : (n : ℕ) (a : StepAnswer) → Answered (Stepped n) ≡ Answered a → Stepped n ≡ a
        one n a e = cc

        none : (n : ℕ) → Answered (Stepped n) ≡ NoMemory → ⊥
        none n e = cc

        no_fail : (n : ℕ) (name : FileName) → Answered (Stepped n) ≡ Failed name → ⊥
        no_fail n name e = cc

        no_damage : (n : ℕ) (name : FileName) (place : ℕ) → Answered (Stepped n) ≡ Damaged name place → ⊥
        no_damage n name place e = cc
    rotate_removes (Ok None) did seals is = absurd did
    rotate_removes (Err (fails.Halted name)) did seals is = absurd did
    rotate_removes (Err (fails.Exhausted counter)) did seals is = absurd did
    rotate_removes (Err fails.NoMemory) did seals is =
        decides_too S So h l (rotate_ruling l h) (as_before l l) NoMemory effects is
        (λ a same answer. absurd (none a same))
        (λ same. stays_removes bytes size sized before after h l stands was now
        (ap (λ (v : Version H). v.behind.logs.items) did.0.version) seals pins removes)
        (λ name same. absurd (no_fail name same)) (λ name place same. absurd (no_damage name place same))
      where
        none : (a : StepAnswer) → short ≡ Answered a → ⊥
        none a e = cc

        no_fail : (name : FileName) → short ≡ Failed name → ⊥
        no_fail name e = cc

        no_damage : (name : FileName) (place : ℕ) → short ≡ Damaged name place → ⊥
        no_damage name place e = cc
    rotate_removes (Err (fails.Disk at)) did seals is =
        decides_too S So h l (rotate_ruling l h) (as_before l l) (step_outcome (Err (fails.Disk at))) effects is
        (λ a same answer. absurd (none at a same)) (λ same. absurd (no_memory at same))
        (λ name same. halts_removes after now l name (same_pins was now l pins removes.pins))
        (λ name place same. absurd (no_damage at name place same))
      where
        none : (at : _) (a : StepAnswer) → step_outcome (Err (fails.Disk at)) ≡ Answered a → ⊥
        none at a e = cc

        no_memory : (at : _) → step_outcome (Err (fails.Disk at)) ≡ NoMemory → ⊥
        no_memory at e = cc

        no_damage : (at : _) (name : FileName) (place : ℕ) → step_outcome (Err (fails.Disk at)) ≡ Damaged name place → ⊥
        no_damage at name place e = cc

-- ---- it was refused

pub rotate_leaves_so : {H : Type 0} (bytes : H → Option (List ℕ)) (core : Core H) (h : History) (l : Layout)
    (T : History → Layout → Type 0) → StandsFor bytes core h l → (l.halted ≡ None → HasNumbers core.back l)
    → (result : Result (Option ℕ) StepFail) → IsRefusedSo core result → T h l
    → Decides T h l (rotate_ruling l h) (as_before l l) (step_outcome result) (rotate_effects result)
rotate_leaves_so bytes core h l T is has result why keeps =
    let (answer, ruled, outcome, effects) = ruled_refused core h l is.fronts has is.tidy.true_logs.0 result why in
    subst (Decides T h l (rotate_ruling l h) (as_before l l) (step_outcome result)) (sym effects)
    (subst (λ (o : Outcome StepAnswer). Decides T h l (rotate_ruling l h) (as_before l l) o no_effects) (sym outcome)
    (decides_leaving T h l (rotate_ruling l h) (as_before l l) answer l ruled keeps))
