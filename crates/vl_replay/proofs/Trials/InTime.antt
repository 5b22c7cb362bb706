-- When a trial's answers are put: what comes behind them changes nothing of that.
use Rattle.std.proofs.Common.{append_assoc, ⊎_elim, ◌≡◌, ◌≤◌, ℕ, List, [], ◌++◌, ap, arith, length, refl, subst, sym, take}
use Rattle.std.proofs.lemmas.List.{take_all}
use Rattle.std.specs.Prelude.{Option}
use Rattle.vl_io.specs.Sink.{Takes}
use Rattle.vl_io.specs.declared.sink.Sink as sink
use Rattle.vl_model.specs.History.{History, contents_at}
use Rattle.vl_script.specs.Text.{reopened_text}
use Rattle.vl_script_model.specs.Endings.{no_memory_line}
use Rattle.vl_script_model.specs.Exchanges.{KeepsUp, answers_text}
use Rattle.vl_script_model.specs.Steps.{Finishes}
use Rattle.vl_script_model.specs.Trial.{PutsInTime, TakesFirst, Trial, answered_lines}
use Rattle.vl_script_model.specs.Trying.{ReopensAs}
use Rattle.vl_script_model.specs.declared.ending.Ending.{Ending}
use Rattle.vl_script_model.specs.declared.ending.Ending.TheVariants.{Complete, NoMemory}
use Rattle.vl_script_model.specs.laws.Ends.{takes_both, takes_nothing}

-- what is put behind a reopening
pub reopened_takes : {K : Type 0} (k : sink.Ghosts K) (h : History) (m : ℕ) (old new : K) (result : Ending) → ReopensAs k h m old new result
    → (printed : List ℕ) × Takes (k.held old) (k.held new) printed
reopened_takes k h m old new result reopens = ⊎_elim
    (λ (f : Finishes k old new (reopened_text m (contents_at h m)) Complete result). (f.printed, f.taken))
    (λ (f : Finishes k old new no_memory_line NoMemory result). (f.printed, f.taken))
    reopens

module _ (t : Trial) (held mid held' : Option (List ℕ)) (printed : List ℕ) (more : Takes mid held' printed) where
  -- some piece more was put
  pub more_in_time : (asked : Option (List ℕ)) → PutsInTime t held mid asked → PutsInTime t held held' asked
  more_in_time asked (count, piece, (few, taken), kept) = (
    count,
    piece ++ printed,
    (
      few,
      subst (Takes held held') (append_assoc (answers_text (take count (answered_lines t))) piece printed)
          (takes_both held mid held' (answers_text (take count (answered_lines t)) ++ piece) printed taken more),
    ),
    kept,
  )

  -- behind all answers
  pub behind_all : Takes held mid (answers_text (answered_lines t)) → TakesFirst t held held' (length (answered_lines t)) printed
  behind_all taken = (
    omega arith,
    subst (Takes held held')
        (ap (λ xs. answers_text xs ++ printed) (sym (take_all (length (answered_lines t)) (answered_lines t) (omega arith))))
        (takes_both held mid held' (answers_text (answered_lines t)) printed taken more),
  )

-- nothing was answered, and nothing more was read
pub none_in_time : (t : Trial) (held held' asked : Option (List ℕ)) (printed : List ℕ) → Takes held held' printed → KeepsUp t.input asked 0
    → PutsInTime t held held' asked
none_in_time t held held' asked printed taken kept = (0, printed, (omega arith, taken), kept)
