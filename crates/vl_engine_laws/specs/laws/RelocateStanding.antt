-- What an engine stands for in memory behind a relocation.
use Rattle.std.specs.Prelude.{◌≡◌, ℕ, ◌+◌, ◌==◌, ◌||◌, nat_le, nat_lt, if◌then◌else◌, Bool, true, false}
use Rattle.std.specs.Prelude.{List, [], ◌∷◌, ◌++◌, Option, None, Some, refl}
use Rattle.std.specs.List.{AllByRecursion}
use Rattle.std.specs.Option.{option_map}
use Rattle.std.proofs.Common.{sym, ap, subst, ◌∙◌, arith}
use Rattle.vl_back.specs.declared.back.Back.{Back}
use Rattle.vl_engine_laws.specs.MoveFacts.{HasMoved, move_entries, move_length}
use Rattle.vl_engine_laws.specs.Pointed.{layout_logs}
use Rattle.vl_engine_laws.specs.Represents.{Fronts, IsFront, StandsFor, file_of}
use Rattle.vl_engine_laws.specs.Spared.{Spares, SparesRuled}
use Rattle.vl_engine_laws.specs.declared.kept.Core.{Core}
use Rattle.vl_engine_laws.specs.laws.RelocateRulings.{IsMoving, tidy_moving}
use Rattle.vl_engine_laws.specs.laws.SparedLaws.{spared_later, whole_later}
use Rattle.vl_engine_laws.specs.laws.SparedSteps.{has_logged}
use Rattle.vl_engine_laws.specs.laws.Standing.{fronts_halted, stands_halted}
use Rattle.vl_engine_laws.specs.laws.VersionLaws.{laid_relocated}
use Rattle.vl_disk.specs.declared.name.Name.{Name}
use Rattle.vl_disk.specs.declared.watched.Watched.{Ghosts}
use Rattle.vl_front.specs.declared.front.Front.{Front}
use Rattle.vl_engine_model.specs.Logs.{frame_entries}
use Rattle.vl_engine_model.specs.Garbage.{best}
use Rattle.vl_engine_model.specs.Relocation.{Candidate, Pass, moved_of}
use Rattle.vl_engine_model.specs.Ruling.{Ruling, halted_at, has_no_epoch}
use Rattle.vl_engine_model.specs.Rulings.EndPass.{end_pass_ruling}
use Rattle.vl_engine_model.specs.Rulings.Pick.{pick_best, pick_ruling, pick_unless}
use Rattle.vl_engine_model.specs.Rulings.Relocate.{relocate_of, relocate_ruling, relocate_unless, relocated}
use Rattle.vl_engine_model.specs.Shown.{IsThere}
use Rattle.vl_engine_model.specs.Sources.{floor, sources}
use Rattle.vl_engine_model.specs.declared.file_name.FileName.{FileName}
use Rattle.vl_engine_model.specs.declared.job.OpenPass.{OpenPass}
use Rattle.vl_engine_model.specs.declared.layout.Layout.{Layout}
use Rattle.vl_engine_model.specs.declared.segment.SegmentStat.{SegmentStat}
use Rattle.vl_model.specs.Entries.{in_order}
use Rattle.vl_model.specs.Formats.{log_format}
use Rattle.vl_model.specs.Frames.{frame_length}
use Rattle.vl_model.specs.History.{History, last_number}
use Rattle.vl_model.specs.declared.entry.Entry.{Entry}
use Rattle.vl_model.specs.declared.log_frame.LogFrame.TheVariants.{Relocated}
use Rattle.vl_model.specs.declared.log_frame.Moved.{Moved}

-- ---- versions that are spared

-- A relocation takes no version away,
pub relocated_spares : (l : Layout) (h : History) (moved : List Moved) → Spares l h → Spares (relocated l moved) h
relocated_spares l h moved spares = record {
  past = spared_later h h (sources l) (sources (relocated l moved)) (last_number h) (last_number h) (floor l h)
      (floor (relocated l moved) h) l.keep l.since (omega arith) (has_logged l (Relocated moved))
      (λ key n le there missing. (le, there)) spares.past;
  whole = whole_later h h (sources l) (sources (relocated l moved)) (last_number h) (last_number h) (floor l h)
      (floor (relocated l moved) h) l.gone l.gone (omega arith) (omega arith) (has_logged l (Relocated moved))
      (λ key n le there missing. (le, there)) spares.whole;
}

-- so neither does the ruling on one,
module _ (l : Layout) (h : History) (spares : Spares l h) where
  either : {A : Type 0} (b : Bool) (x y : Ruling A) → SparesRuled x → SparesRuled y → SparesRuled (if b then x else y)
  either true x y one other = one
  either false x y one other = other

  of_spares : (moved : List Moved) → SparesRuled (relocate_of l h moved)
  of_spares [] = spares
  of_spares (m ∷ ms) =
      either (has_no_epoch l) _ _ spares
      (either (nat_le (l.active.length + frame_length l.active.format (Relocated (m ∷ ms))) l.room) _ _
      (relocated_spares l h (m ∷ ms) spares) spares)

  unless_spares : (halted : Option FileName) (pass : Pass) (batch : List Candidate)
      → SparesRuled (relocate_unless halted l h pass batch)
  unless_spares (Some name) pass batch = spares
  unless_spares None pass batch = of_spares (moved_of (sources l) pass.segment (last_number h) batch)

  pub relocate_spares : (pass : Pass) (batch : List Candidate) → SparesRuled (relocate_ruling l h pass batch)
  relocate_spares = unless_spares l.halted

  -- and neither does a pass that begins or ends.
  best_spares : (o : Option SegmentStat) → SparesRuled (pick_best l h o)
  best_spares None = spares
  best_spares (Some x) = spares

  open_spares : (o : Option OpenPass) (percent : ℕ) → SparesRuled (pick_unless o l h percent)
  open_spares (Some pass) percent = spares
  open_spares None percent = best_spares (best l percent)

  pub pick_spares : (percent : ℕ) → SparesRuled (pick_ruling l h percent)
  pick_spares percent = either ((percent == 0) || nat_lt 99 percent) _ _ spares (open_spares l.pass percent)

  pub end_pass_spares : (pass : Pass) → SparesRuled (end_pass_ruling l h pass)
  end_pass_spares pass = spares

-- ---- what decides

module _ {H : Type 0} (core after : Core H) (h : History) (l : Layout) (is : Fronts core h l) (moved : List Moved)
    (front : after.front ≡ record core.front {
      log = record { number = core.front.log.number; length = core.front.log.length + move_length moved };
    })
    (back : after.back ≡ record core.back { epoch = core.back.epoch + 1 }) where
  front_relocated : IsFront core.front.oracle core.front.recent.named h (relocated l moved)
  front_relocated = record {
    last = is.front.last;
    live_are = is.front.live_are;
    lived = record { rising = is.front.lived.rising; known = is.front.lived.known; few = is.front.lived.few };
    readable = is.front.readable;
    remembers = is.front.remembers;
  }

  pub fronts_relocated : Fronts after h (relocated l moved)
  fronts_relocated = record {
    front = subst (λ (f : Front). IsFront f.oracle f.recent.named h (relocated l moved)) (sym front) front_relocated;
    number = ap (λ (f : Front). f.log.number) front ∙ is.number;
    length_is = ap (λ (f : Front). f.log.length) front ∙ ap (λ (n : ℕ). n + move_length moved) is.length_is
        ∙ ap (λ (n : ℕ). l.active.length + frame_length n (Relocated moved)) (sym is.format);
    format = is.format;
    room = ap (λ (f : Front). f.room) front ∙ is.room;
    roomy = is.roomy;
    halted = ap (λ (f : Front). option_map file_of f.halted) front ∙ is.halted;
    version = ap (λ (b : Back). b.epoch) back ∙ ap (λ (n : ℕ). n + 1) is.version;
    keep = ap (λ (b : Back). b.state.keep) back ∙ is.keep;
    since = ap (λ (b : Back). b.state.since) back ∙ is.since;
  }

  -- ---- and all of it

  more_is : (entries : List Entry) → in_order (move_entries core.front moved ++ entries)
      ≡ in_order (frame_entries l.active.format l.active.number l.active.length (Relocated moved) ++ entries)
  more_is entries =
      ap (λ (n : ℕ). in_order (frame_entries log_format n core.front.log.length (Relocated moved) ++ entries)) is.number
      ∙ ap (λ (n : ℕ). in_order (frame_entries log_format l.active.number n (Relocated moved) ++ entries)) is.length_is
      ∙ ap (λ (n : ℕ). in_order (frame_entries n l.active.number l.active.length (Relocated moved) ++ entries)) (sym is.format)

pub stands_relocated : {H : Type 0} (bytes : H → Option (List ℕ)) (core after : Core H) (h : History) (l : Layout)
    → StandsFor bytes core h l → (pass : Pass) (batch : List Candidate) (moved : List Moved) → IsMoving l h pass batch moved
    → AllByRecursion (IsThere (layout_logs l) pass.segment) batch
    → after.front ≡ record core.front {
      log = record { number = core.front.log.number; length = core.front.log.length + move_length moved };
    }
    → after.back ≡ record core.back { epoch = core.back.epoch + 1 }
    → after.version.behind ≡ core.version.behind
    → after.version.active.entries ≡ in_order (move_entries core.front moved ++ core.version.active.entries)
    → StandsFor bytes after h (relocated l moved)
stands_relocated bytes core after h l is pass batch moved moving there front back behind more = record {
  fronts = fronts_relocated core after h l is.fronts moved front back;
  has = laid_relocated bytes core.version l is.has after.version moved is.tidy.true_logs.0 behind
      (more ∙ more_is core after h l is.fronts moved front back core.version.active.entries);
  tidy = tidy_moving l h pass batch is.tidy moved moving there;
  spared = relocated_spares l h moved is.spared;
}

-- so of what the raw facts say
module _ {D H : Type 0} (g : Ghosts D) (bytes : H → Option (List ℕ)) (core after : Core H) (old new : D) (h : History) (l : Layout) where
  pub fronts_moved : Fronts core h l → (moved : List Moved) → HasMoved g old new core after moved → Fronts after h (relocated l moved)
  fronts_moved is moved did = fronts_relocated core after h l is moved did.front did.back

  pub stands_moved : StandsFor bytes core h l → (pass : Pass) (batch : List Candidate) (moved : List Moved)
      → IsMoving l h pass batch moved → AllByRecursion (IsThere (layout_logs l) pass.segment) batch
      → HasMoved g old new core after moved → StandsFor bytes after h (relocated l moved)
  stands_moved is pass batch moved moving there did =
      stands_relocated bytes core after h l is pass batch moved moving there did.front did.back did.behind did.more

-- ---- behind a halt

module _ {H : Type 0} (bytes : H → Option (List ℕ)) (core after : Core H) (h : History) (l : Layout) (name : Name)
    (stopped : after ≡ record core { front = record core.front { halted = Some name } }) where
  abbrev halts : Core H
  halts = record core { front = record core.front { halted = Some name } }

  pub fronts_stopped : Fronts core h l → Fronts after h (halted_at (file_of name) l)
  fronts_stopped is = subst (λ (c : Core H). Fronts c h (halted_at (file_of name) l)) (sym stopped)
      (fronts_halted core halts h l name is refl refl refl refl refl refl)

  pub stands_stopped : StandsFor bytes core h l → StandsFor bytes after h (halted_at (file_of name) l)
  stands_stopped is = subst (λ (c : Core H). StandsFor bytes c h (halted_at (file_of name) l)) (sym stopped)
      (stands_halted bytes core halts h l is refl name (fronts_halted core halts h l name is.fronts refl refl refl refl refl refl))
