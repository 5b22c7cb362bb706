-- What the engine keeps of which files can go, while a merge is carried out and where it is given up.
use Rattle.std.proofs.Common.{◌≡◌, ◌+◌, ℕ, Bool, true, false, cond, List, [], refl, ap, sym, ◌∙◌, subst, arith}
use Rattle.std.specs.Prelude.{Option, None, Some, Result, Ok, Err}
use Rattle.vl_disk.specs.declared.watched.Watched.{Ghosts}
use Rattle.vl_disk.specs.declared.writer.Writer.{Ghosts as Writers}
use Rattle.vl_compact.specs.declared.files.Lent.{Lent}
use Rattle.vl_compact.specs.declared.job.Job.{Job as TheJob}
use Rattle.vl_compact.specs.declared.job_reader.JobReader.{JobReader}
use Rattle.vl_engine_laws.specs.declared.kept.Core.{Core}
use Rattle.vl_steps.specs.Merging.{fresh_outcome}
use Rattle.vl_steps.specs.declared.fails.StepFail.{StepFail}
use Rattle.vl_steps.specs.declared.fails.StepFail.TheVariants as fails
use Rattle.vl_engine_laws.specs.declared.open.OpenMerge.{OpenMerge}
use Rattle.vl_engine_model.specs.Decides.{Decides, Effects, Otherwise}
use Rattle.vl_engine_model.specs.Ruling.{Ruling, has_no_number, leaving}
use Rattle.vl_engine_model.specs.Rulings.Fresh as fresh
use Rattle.vl_engine_model.specs.Rulings.Fresh.{FreshAnswer, drawn, fresh_ruling, fresh_unless}
use Rattle.vl_engine_model.specs.declared.file_name.FileName.{FileName}
use Rattle.vl_engine_model.specs.declared.job.Job.{Job}
use Rattle.vl_engine_model.specs.declared.layout.Layout.{Layout}
use Rattle.vl_model.specs.History.{History}
use Rattle.vl_model.specs.declared.counter.Counter.{Counter}
use Rattle.vl_model.specs.declared.counter.Counter.TheVariants as counters
use Rattle.vl_table.specs.declared.block_reader.BlockReader.{BlockReader}
use Rattle.vl_version.specs.declared.base.Base.{Base}
use Rattle.vl_replay_laws.specs.Drawn.{IsServing, drawn_all, drawn_state}
use Rattle.vl_replay.specs.Rounds.{RoundLeaves, Rounds, round_by}
use Rattle.vl_replay.specs.declared.tables.Round.{Round}
use Rattle.vl_replay.specs.declared.tables.Round.TheVariants as rounds
use Rattle.vl_script_model.specs.Halts.{HaltsByDisk}
use Rattle.vl_script_model.specs.declared.fails.Halt.{Halt}
use Rattle.vl_script_model.specs.Sequential.{State}
use Rattle.vl_replay_laws.specs.laws.Merges.Lists.{drawn_then, next_drawn}
use Rattle.vl_replay.proofs.CarryingTables.{SoFar}

-- ---- a file that is asked for

module _ (l : Layout) (h : History) where
  -- by what was answered
  abbrev LeftBy : FreshAnswer → Layout → Type 0
  LeftBy (fresh.Drawn number) m = m ≡ drawn l
  LeftBy (fresh.Halted file) m = Unit {0}
  LeftBy (fresh.Exhausted counter) m = m ≡ l

  left_by : LeftBy (fresh_ruling l h).answer (fresh_ruling l h).layout
  left_by = of l.halted
    where
      by_number : (b : Bool) → let r : Ruling FreshAnswer = cond b (leaving (fresh.Exhausted counters.Table) h l)
          (record { answer = fresh.Drawn l.next_table; history = h; layout = drawn l; calls = 1; gone = [] }) in
          LeftBy r.answer r.layout
      by_number true = refl
      by_number false = refl

      of : (halted : Option FileName) → LeftBy (fresh_unless halted l h).answer (fresh_unless halted l h).layout
      of (Some file) = tt
      of None = by_number (has_no_number l.next_table 1)

  module _ (P : Layout → Type 0) (otherwise : Otherwise) (effects : Effects) where
    -- it was lent
    pub lent_leaves : {W : Type 0} {g : _} (file : Lent W g)
        → Decides (λ _ m. P m) h l (fresh_ruling l h) otherwise (fresh_outcome (Ok file)) effects → P (drawn l)
    lent_leaves file decides =
        let (same, there) = decides.answered (fresh.Drawn file.number) refl in
        subst P (subst (λ (a : FreshAnswer). LeftBy a (fresh_ruling l h).layout) (sym same) left_by) there

    -- or it wasn't
    pub unlent_leaves : (W : Type 0) (g : Writers W) (fail : StepFail)
        → Decides (λ _ m. P m) h l (fresh_ruling l h) otherwise (fresh_outcome {W = W} {g = g} (Err fail)) effects
        → RoundLeaves P l (round_by fail)
    unlent_leaves W g (fails.Exhausted counter) decides =
        let (same, there) = decides.answered (fresh.Exhausted counter) refl in
        subst P (subst (λ (a : FreshAnswer). LeftBy a (fresh_ruling l h).layout) (sym same) left_by) there
    unlent_leaves W g fails.NoMemory decides = tt
    unlent_leaves W g (fails.Halted name) decides = tt
    unlent_leaves W g (fails.Disk name) decides = tt

-- ---- the rounds so far

-- so it is of each layout that gave as many numbers as the engine has
abbrev pub LeavesDrawn : {H : Type 0} → (Layout → Type 0) → Core H → Layout → Type 0
LeavesDrawn P core l = (count : ℕ) → core.back.state.next_table ≡ l.next_table + count → P (drawn_all count l)

-- before the first it is that of the layout
pub left_first : {H : Type 0} (P : Layout → Type 0) (core : Core H) (l : Layout) → core.back.state.next_table ≡ l.next_table → P l
    → LeavesDrawn P core l
left_first P core l same there count is =
    subst (λ (n : ℕ). P (drawn_all n l)) (let e : 0 ≡ count = omega (arith, same, is) in e) there

-- the engine's next number is that of a state for which it stands
numbered : {D H : Type 0} (g : Ghosts D) (bytes : H → Option (List ℕ)) (s : State) (disk : D) (core : Core H) (merging : Option OpenMerge)
    (count : ℕ) → IsServing bytes (g.told disk) core merging (drawn_state count s)
    → core.back.state.next_table ≡ s.store.layout.next_table + count
numbered g bytes s disk core merging count serves =
    (serves.fits.running serves.running).numbers.next_table ∙ next_drawn count s.store.layout

module _ {D H R W : Type 0} (g : Ghosts D) (writers : Writers W) (bytes : H → Option (List ℕ)) (s : State) (j : Job) where
  module _ (old mid new : D) (before after : Core H) (was_open is_open : Option OpenMerge) {k : _} (first last : TheJob (Base H R) H W k)
      (was now : JobReader R (BlockReader R)) (so_far : SoFar g writers bytes old mid before was_open first was s j)
      (P Q : Layout → Type 0) (leaves : LeavesDrawn P before s.store.layout) where
    -- before the next round
    pub left_before : P (drawn_all so_far.count s.store.layout)
    left_before = leaves so_far.count (numbered g bytes s mid before was_open so_far.count so_far.way.serves)

    module _ (result : Result Round Halt)
        (round : Rounds g writers bytes mid new after is_open first last now (drawn_state so_far.count s) j result)
        (fine : HaltsByDisk result → ⊥) where
      now_numbered : after.back.state.next_table ≡ s.store.layout.next_table + so_far.count + round.count
      now_numbered =
          let serves = round.serves fine in
          (serves.fits.running serves.running).numbers.next_table
          ∙ next_drawn round.count (drawn_all so_far.count s.store.layout)
          ∙ ap (λ (n : ℕ). n + round.count) (next_drawn so_far.count s.store.layout)

    -- a table more was made
    pub left_made : Rounds g writers bytes mid new after is_open first last now (drawn_state so_far.count s) j (Ok rounds.Made)
        → RoundLeaves Q (drawn_all so_far.count s.store.layout) (Ok rounds.Made) → LeavesDrawn Q after s.store.layout
    left_made round there count is =
        let one = round.ends.0 in
        let next = now_numbered (Ok rounds.Made) round (λ by. by) in
        subst (λ (n : ℕ). Q (drawn_all n s.store.layout)) (let e : so_far.count + 1 ≡ count = omega (arith, is, one, next) in e)
        (subst Q (drawn_then so_far.count 1 s.store.layout) there)

    -- none was
    pub left_ended : Rounds g writers bytes mid new after is_open first last now (drawn_state so_far.count s) j (Ok rounds.Ended)
        → RoundLeaves Q (drawn_all so_far.count s.store.layout) (Ok rounds.Ended) → LeavesDrawn Q after s.store.layout
    left_ended round there count is =
        let none = round.ends.0 in
        let next = now_numbered (Ok rounds.Ended) round (λ by. by) in
        subst (λ (n : ℕ). Q (drawn_all n s.store.layout)) (let e : so_far.count ≡ count = omega (arith, is, none, next) in e) there

    pub left_used_up : (counter : Counter)
        → Rounds g writers bytes mid new after is_open first last now (drawn_state so_far.count s) j (Ok (rounds.Exhausted counter))
        → RoundLeaves Q (drawn_all so_far.count s.store.layout) (Ok (rounds.Exhausted counter)) → LeavesDrawn Q after s.store.layout
    left_used_up counter round there count is =
        let none = round.ends.0 in
        let next = now_numbered (Ok (rounds.Exhausted counter)) round (λ by. by) in
        subst (λ (n : ℕ). Q (drawn_all n s.store.layout)) (let e : so_far.count ≡ count = omega (arith, is, none, next) in e) there
