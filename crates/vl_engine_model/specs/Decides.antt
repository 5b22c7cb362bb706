-- What a call of an engine came to, and what the engine stands for after it, by the ruling on it.
use Rattle.std.specs.Prelude.{◌≡◌, ℕ, List, [], None}
use Rattle.vl_model.specs.History.{History}
use Rattle.vl_engine_model.specs.Ruling.{Ruling, halted_at}
use Rattle.vl_engine_model.specs.declared.file_name.FileName.{FileName}
use Rattle.vl_engine_model.specs.declared.layout.Layout.{Layout}

-- what a call came to: an answer; want of memory; a call on a file that failed; or bytes of a file
-- that aren't what should stand there, at a place
pub data Outcome (A : Type 0) : Type 0 where
  Answered : A → Outcome A
  NoMemory : Outcome A
  Failed : FileName → Outcome A
  Damaged : FileName → ℕ → Outcome A

-- what a call did to files: how many of its calls change files, and which files it removed
pub record Effects : Type 0 where
  pub calls : ℕ
  pub gone : List FileName

abbrev pub effects_of : {A : Type 0} → Ruling A → Effects
effects_of r = record { calls = r.calls; gone = r.gone }

abbrev pub no_effects : Effects
no_effects = record { calls = 0; gone = [] }

-- What is left where there is no answer: for want of memory, with what was done to files by then, and,
-- but for the halt, where a call on a file failed.
pub record Otherwise : Type 0 where
  pub short : Layout
  pub effects : Effects
  pub lost : Layout

-- of a call that takes all memory before it changes anything
abbrev pub as_before : Layout → Layout → Otherwise
as_before l lost = record { short = l; effects = no_effects; lost = lost }

-- An answer is that of the ruling, and the call left and did what the ruling says; a failed call, which
-- comes only where the engine isn't halted already, halts what is left then; damage leaves all as before.
-- `stands` says of a history and a layout that the engine stands for them after the call.
pub record Decides {A : Type 0} (stands : History → Layout → Type 0) (h : History) (l : Layout)
    (ruling : Ruling A) (otherwise : Otherwise) (outcome : Outcome A) (effects : Effects) : Type 0 where
  pub answered : (a : A) → outcome ≡ Answered a
      → (a ≡ ruling.answer) × stands ruling.history ruling.layout
  pub did : (a : A) → outcome ≡ Answered a → effects ≡ effects_of ruling
  pub no_memory : outcome ≡ NoMemory → stands h otherwise.short × (effects ≡ otherwise.effects)
  pub failed : (name : FileName) → outcome ≡ Failed name
      → (l.halted ≡ None) × stands h (halted_at name otherwise.lost)
  pub damaged : (name : FileName) (place : ℕ) → outcome ≡ Damaged name place
      → stands h l × (effects ≡ no_effects)
