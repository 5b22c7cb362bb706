-- What an engine's call leaves, put together of what its clauses say.
use Rattle.std.proofs.Common.{◌≡◌, ℕ, List, [], ◌∷◌, length, refl, sym, subst}
use Rattle.std.specs.Prelude.{Bool, true, false, nat_le, if◌then◌else◌, Option, None, Some}
use Rattle.vl_engine_model.specs.Decides.{Answered, Damaged, Decides, Effects, Failed, NoMemory, Otherwise, Outcome, as_before, no_effects}
use Rattle.vl_engine_model.specs.Ruling.{Ruling, has_no_number, has_no_epoch, leaving}
use Rattle.vl_engine_model.specs.Rulings.Begin.{begin_ruling}
use Rattle.vl_engine_model.specs.Rulings.Flush.{flush_of, flush_ruling, flush_unless}
use Rattle.vl_engine_model.specs.Rulings.Rotate.{rotate_of, rotate_ruling, rotate_unless}
use Rattle.vl_engine_model.specs.Sources.{oldest}
use Rattle.vl_engine_model.specs.declared.file_name.FileName.{FileName}
use Rattle.vl_engine_model.specs.declared.layout.Layout.{Layout}
use Rattle.vl_engine_model.specs.declared.segment.Segment.{Segment}
use Rattle.vl_engine_laws.specs.MayStep.{Fits}
use Rattle.vl_engine_laws.specs.Represents.{Represents}
use Rattle.vl_space.specs.Collecting.{Collects}
use Rattle.vl_engine_laws.specs.Lent.{Opens}
use Rattle.vl_engine_laws.specs.Lent.{StandsOpen}
use Rattle.vl_space.specs.Removing.{Removes}
use Rattle.vl_engine_laws.specs.declared.open.OpenMerge.{OpenMerge}
use Rattle.vl_model.specs.History.{History}
use Rattle.vl_model.specs.Limits.{max_live}
use Rattle.vl_model.specs.declared.log_frame.LogFrame.{LogFrame}
use Rattle.vlstore.specs.Standing.{IsWhole, Parts}

module _ {H L A : Type 0} (bytes : H → Option (List ℕ)) (y : Parts H L) (h : History) (l : Layout) (ruling : Ruling A)
    (otherwise : Otherwise) (outcome : Outcome A) (effects : Effects) where
  -- where what is open is so of all that may be left
  pub record LeavesOpen : Type 0 where
    pub answered : Opens y.merging ruling.layout.job
    pub short : Opens y.merging otherwise.short.job
    pub failed : Opens y.merging otherwise.lost.job
    pub damaged : Opens y.merging l.job

  pub whole_by : Decides (Represents bytes y.core y.told) h l ruling otherwise outcome effects → LeavesOpen
      → Decides (Fits y.told y.core) h l ruling otherwise outcome effects
      → Decides (λ _ m. Collects y.core y.collecting m) h l ruling otherwise outcome effects
      → Decides (λ _ m. Removes y.core y.removing m) h l ruling otherwise outcome effects
      → Decides (IsWhole bytes y) h l ruling otherwise outcome effects
  whole_by represents opens fits collects removes = record {
    answered = λ a at. (
      (represents.answered a at).0,
      record {
        represents = (represents.answered a at).1;
        opens = opens.answered;
        fits = (fits.answered a at).1;
        collects = (collects.answered a at).1;
        removes = (removes.answered a at).1;
      },
    );
    did = represents.did;
    no_memory = λ at. (
      record {
        represents = (represents.no_memory at).0;
        opens = opens.short;
        fits = (fits.no_memory at).0;
        collects = (collects.no_memory at).0;
        removes = (removes.no_memory at).0;
      },
      (represents.no_memory at).1,
    );
    failed = λ name at. (
      (represents.failed name at).0,
      record {
        represents = (represents.failed name at).1;
        opens = opens.failed;
        fits = (fits.failed name at).1;
        collects = (collects.failed name at).1;
        removes = (removes.failed name at).1;
      },
    );
    damaged = λ name place at. (
      record {
        represents = (represents.damaged name place at).0;
        opens = opens.damaged;
        fits = (fits.damaged name place at).0;
        collects = (collects.damaged name place at).0;
        removes = (removes.damaged name place at).0;
      },
      (represents.damaged name place at).1,
    );
  }

-- the same, where what is open is said beside
pub whole_with : {H L A : Type 0} (bytes : H → Option (List ℕ)) (y : Parts H L) (h : History) (l : Layout) (ruling : Ruling A)
    (otherwise : Otherwise) (outcome : Outcome A) (effects : Effects)
    → Decides (Represents bytes y.core y.told) h l ruling otherwise outcome effects
    → Decides (StandsOpen bytes y.core y.merging) h l ruling otherwise outcome effects
    → Decides (Fits y.told y.core) h l ruling otherwise outcome effects
    → Decides (λ _ m. Collects y.core y.collecting m) h l ruling otherwise outcome effects
    → Decides (λ _ m. Removes y.core y.removing m) h l ruling otherwise outcome effects
    → Decides (IsWhole bytes y) h l ruling otherwise outcome effects
whole_with bytes y h l ruling otherwise outcome effects represents stands fits collects removes = record {
  answered = λ a at. (
    (represents.answered a at).0,
    record {
      represents = (represents.answered a at).1;
      opens = (stands.answered a at).1.opens;
      fits = (fits.answered a at).1;
      collects = (collects.answered a at).1;
      removes = (removes.answered a at).1;
    },
  );
  did = represents.did;
  no_memory = λ at. (
    record {
      represents = (represents.no_memory at).0;
      opens = (stands.no_memory at).0.opens;
      fits = (fits.no_memory at).0;
      collects = (collects.no_memory at).0;
      removes = (removes.no_memory at).0;
    },
    (represents.no_memory at).1,
  );
  failed = λ name at. (
    (represents.failed name at).0,
    record {
      represents = (represents.failed name at).1;
      opens = (stands.failed name at).1.opens;
      fits = (fits.failed name at).1;
      collects = (collects.failed name at).1;
      removes = (removes.failed name at).1;
    },
  );
  damaged = λ name place at. (
    record {
      represents = (represents.damaged name place at).0;
      opens = (stands.damaged name place at).0.opens;
      fits = (fits.damaged name place at).0;
      collects = (collects.damaged name place at).0;
      removes = (removes.damaged name place at).0;
    },
    (represents.damaged name place at).1,
  );
}

-- a call that is always answered
pub answered_by : (h : History) (l m : Layout)
    → Decides (λ _ _. Unit {0}) h l (leaving {A = Unit {0}} tt h m) (as_before l m) (Answered tt) no_effects
answered_by h l m = record {
  answered = λ a at. (refl, tt);
  did = λ a at. refl;
  no_memory = λ at. absurd (subst IsAnswer at tt);
  failed = λ name at. absurd (subst IsAnswer at tt);
  damaged = λ name place at. absurd (subst IsAnswer at tt);
}
  where
    IsAnswer : Outcome (Unit {0}) → Type 0
    IsAnswer (Answered a) = Unit {0}
    IsAnswer NoMemory = ⊥
    IsAnswer (Failed name) = ⊥
    IsAnswer (Damaged name place) = ⊥

-- It leaves this.
pub always_by : {H L : Type 0} (bytes : H → Option (List ℕ)) (y : Parts H L) (h : History) (l m : Layout) → IsWhole bytes y h m
    → Decides (IsWhole bytes y) h l (leaving {A = Unit {0}} tt h m) (as_before l m) (Answered tt) no_effects
always_by bytes y h l m whole = record {
  answered = λ a at. (refl, whole);
  did = λ a at. refl;
  no_memory = λ at. absurd (subst IsAnswer at tt);
  failed = λ name at. absurd (subst IsAnswer at tt);
  damaged = λ name place at. absurd (subst IsAnswer at tt);
}
  where
    IsAnswer : Outcome (Unit {0}) → Type 0
    IsAnswer (Answered a) = Unit {0}
    IsAnswer NoMemory = ⊥
    IsAnswer (Failed name) = ⊥
    IsAnswer (Damaged name place) = ⊥

-- ---- the open merge stays

either : {A : Type 0} (P : Ruling A → Type 0) (b : Bool) (r s : Ruling A) → P r → P s → P (if b then r else s)
either P true r s of_r of_s = of_r
either P false r s of_r of_s = of_s

abbrev KeepsJob : {A : Type 0} → Layout → Ruling A → Type 0
KeepsJob l r = r.layout.job ≡ l.job

module _ (l : Layout) (h : History) where
  pub begin_job : KeepsJob l (begin_ruling l h)
  begin_job = either (KeepsJob l) (nat_le max_live (length l.live)) _ _ refl refl

  rotate_frames : (fs : List LogFrame) → KeepsJob l (rotate_of fs l h)
  rotate_frames [] = refl
  rotate_frames (f ∷ fs) =
      either (KeepsJob l) (has_no_number l.next_log 1) _ _ refl (either (KeepsJob l) (has_no_epoch l) _ _ refl refl)

  rotate_halted : (halted : Option FileName) → KeepsJob l (rotate_unless halted l h)
  rotate_halted (Some name) = refl
  rotate_halted None = rotate_frames l.active.frames

  pub rotate_job : KeepsJob l (rotate_ruling l h)
  rotate_job = rotate_halted l.halted

  flush_waits : (s : Option Segment) → KeepsJob l (flush_of l h s)
  flush_waits None = refl
  flush_waits (Some s) =
      either (KeepsJob l) (has_no_number l.next_table 1) _ _ refl (either (KeepsJob l) (has_no_epoch l) _ _ refl refl)

  flush_halted : (halted : Option FileName) → KeepsJob l (flush_unless halted l h)
  flush_halted (Some name) = refl
  flush_halted None = flush_waits (oldest l.frozen)

  pub flush_job : KeepsJob l (flush_ruling l h)
  flush_job = flush_halted l.halted

  -- so it stays what is kept of it
  pub still_open : {H L A : Type 0} (bytes : H → Option (List ℕ)) (y : Parts H L) (merging : Option OpenMerge) (r : Ruling A)
      (lost : Layout) (outcome : Outcome A) (effects : Effects) → KeepsJob l r → lost.job ≡ l.job → y.merging ≡ merging
      → Opens merging l.job
      → LeavesOpen bytes y h l r (as_before l lost) outcome effects
  still_open bytes y merging r lost outcome effects keeps lost_keeps same opens =
      let now : Opens y.merging l.job = subst (λ (m : Option OpenMerge). Opens m l.job) (sym same) opens in
      record {
        answered = subst (Opens y.merging) (sym keeps) now;
        short = now;
        failed = subst (Opens y.merging) (sym lost_keeps) now;
        damaged = now;
      }
