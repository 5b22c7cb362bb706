-- The merge that waits, behind a move: it is told what was moved, and else stays.
use Rattle.std.proofs.Common.{◌≡◌, true, ℕ, ◌+◌, List, refl, ap, sym, ◌∙◌, subst}
use Rattle.std.specs.Prelude.{Option, None, Some, is_some, Result, Ok, Err, OnOk, All, Vec}
use Rattle.std.specs.Global.{Global}
use Rattle.vl_engine_laws.specs.Carries.{StaysUntold}
use Rattle.vl_disk.specs.declared.watched.Watched.{Ghosts}
use Rattle.vl_disk.specs.declared.writer.Writer.{Ghosts as Writers}
use Rattle.vl_steps.specs.Installing.{numbers_in}
use Rattle.vl_engine_laws.specs.Lent.{Opens}
use Rattle.vl_engine_laws.specs.declared.open.OpenMerge.{OpenMerge}
use Rattle.vl_engine_model.specs.Relocation.{Candidate, Pass}
use Rattle.vl_engine_model.specs.Rulings.Relocate as move
use Rattle.vl_engine_model.specs.Rulings.Relocate.{MoveAnswer, relocate_ruling, with_moves}
use Rattle.vl_engine_model.specs.Store.Commits.{history_in}
use Rattle.vl_engine_model.specs.Store.Dispatch.{move_by, moved_by}
use Rattle.vl_engine_model.specs.Store.Lines.{Answer, Name}
use Rattle.vl_engine_model.specs.Store.Things as things
use Rattle.vl_engine_model.specs.Store.Things.{AJob, APass, ATransaction, AView, Step, Thing, only, thing_of}
use Rattle.vl_engine_model.specs.declared.job.OpenJob.{OpenJob}
use Rattle.vl_model.specs.Numbers.{has}
use Rattle.vl_model.specs.declared.log_frame.Moved.{Moved}
use Rattle.vl_version.specs.declared.base.Base.{Base}
use Rattle.vl_script_model.specs.declared.fails.Halt.{Halt}
use Rattle.vl_replay.specs.Handed.{CanHandIn, KeepsLent}
use Rattle.vl_replay_laws.specs.Replaying.{Merges, Waits}
use Rattle.vl_replay_laws.specs.declared.planned.Planned.{Planned}
use Rattle.vl_replay.proofs.Merges.Handing.{can_still}
use Rattle.vl_replay_laws.specs.laws.Merges.Keeping.{SameJobs, same_jobs}
use Rattle.vl_replay_laws.specs.laws.Passes.Moving.{leaves_so}
use Rattle.vl_replay_laws.specs.laws.Passes.Named.{jobs_beside, pass_no_job}

-- ---- what the layout has of it

-- nothing but what it is told
abbrev IsToldMoves : (old new : Option OpenJob) → Type 0
IsToldMoves None None = Unit {0}
IsToldMoves None (Some k) = ⊥
IsToldMoves (Some j) None = ⊥
IsToldMoves (Some j) (Some k) = k ≡ record j { moved = k.moved }

told_itself : (o : Option OpenJob) → IsToldMoves o o
told_itself None = tt
told_itself (Some j) = refl

told_with : (number : ℕ) (moved : List Moved) (o : Option OpenJob) → IsToldMoves o (with_moves number moved o)
told_with number moved None = tt
told_with number moved (Some j) = refl

told_none : (old new : Option OpenJob) → IsToldMoves old new → old ≡ None → new ≡ None
told_none None None told is = refl
told_none None (Some k) told is = absurd told
told_none (Some j) new told is = cc

told_some : (old new : Option OpenJob) → IsToldMoves old new → (j : OpenJob) → old ≡ Some j
    → (k : OpenJob) × (new ≡ Some k) × (k ≡ record j { moved = k.moved })
told_some None new told j is = cc
told_some (Some i) None told j is = absurd told
told_some (Some i) (Some k) told j is = (k, refl, subst (λ (o : OpenJob). k ≡ record o { moved = k.moved }) (same is) told)
  where
    same : Some i ≡ Some j → i ≡ j
    same e = cc

-- What a step leaves of it: the layout's job is told, and the same names stand for the same merges.
pub record TellsMoves (s : things.State) (x : Step) : Type 0 where
  pub job : IsToldMoves s.layout.job x.state.layout.job
  pub jobs : SameJobs s.things x.state.things

module _ (s : things.State) where
  only_tells : (answer : Answer) → TellsMoves s (only answer s)
  only_tells answer = record { job = told_itself s.layout.job; jobs = same_jobs s.things s.things refl }

  moved_tells : (name : Name) (pass : Pass) (batch : List Candidate) → thing_of s name ≡ Some (APass pass (Some batch))
      → let r = relocate_ruling s.layout (history_in s.commits) pass batch in (a : MoveAnswer) → TellsMoves s (moved_by s name pass r a)
  moved_tells name pass batch is (move.Moves n) = record {
    job = leaves_so s.layout (history_in s.commits) (λ m. IsToldMoves s.layout.job m.job) (told_itself s.layout.job)
        (λ moved. told_with (s.layout.epoch + 1) moved s.layout.job) pass batch;
    jobs = jobs_beside s.things name (λ job made there. pass_no_job pass (Some batch) job made (sym is ∙ there)) pass None;
  }
  moved_tells name pass batch is (move.Halted file) = only_tells _
  moved_tells name pass batch is (move.Exhausted c) = only_tells _
  moved_tells name pass batch is (move.Full long frame) = only_tells _

  -- so it is with a move
  pub move_tells : (name : Name) (o : Option Thing) → thing_of s name ≡ o → TellsMoves s (move_by s name o)
  move_tells name None is = only_tells _
  move_tells name (Some (ATransaction t b)) is = only_tells _
  move_tells name (Some (AView v b)) is = only_tells _
  move_tells name (Some (AJob job made)) is = only_tells _
  move_tells name (Some (APass pass None)) is = only_tells _
  move_tells name (Some (APass pass (Some batch))) is =
      moved_tells name pass batch is (relocate_ruling s.layout (history_in s.commits) pass batch).answer

-- ---- the one that waits

module _ {W H R : Type 0} (w : Writers W) (bytes : H → Option (List ℕ)) {g : _} where
  waits_told : (planned : Option (Planned (Base H R) H W g)) (s : things.State) (x : Step) → TellsMoves s x
      → Waits w bytes planned s.things s.layout → Waits w bytes planned x.state.things x.state.layout
  waits_told None s x tells (none, free) = (
    told_none s.layout.job x.state.layout.job tells.job none,
    λ name j made is. free name j made (tells.jobs.ours name j made is),
  )
  waits_told (Some planned) s x tells waits =
      let (k, is, told) = told_some s.layout.job x.state.layout.job tells.job waits.open_job waits.is_open in
      record {
        open_job = record waits.open_job { moved = k.moved };
        is_open = is ∙ ap Some told;
        has = waits.has;
        merge = waits.merge;
        there = tells.jobs.still _ _ _ waits.there;
        only = λ name j made there. waits.only name j made (tells.jobs.ours name j made there);
        lent = waits.lent;
      }

  -- It waits on.
  pub merges_told : (merging merging' : Option OpenMerge) (planned : Option (Planned (Base H R) H W g)) (s : things.State) (x : Step)
      → TellsMoves s x → Opens merging' x.state.layout.job
      → Merges w bytes merging planned s.things s.layout → Merges w bytes merging' planned x.state.things x.state.layout
  merges_told merging merging' planned s x tells opens merges = record { opens = opens; waits = waits_told planned s x tells merges.waits }

  pub merges_answered : {T : Type 0} (result : Result T Halt) (merging merging' : Option OpenMerge)
      (planned : Option (Planned (Base H R) H W g)) (s : things.State) (x : Step)
      → TellsMoves s x → OnOk result (Opens merging' x.state.layout.job)
      → Merges w bytes merging planned s.things s.layout
      → OnOk result (Merges w bytes merging' planned x.state.things x.state.layout)
  merges_answered (Ok y) merging merging' planned s x tells opens merges = merges_told merging merging' planned s x tells opens merges
  merges_answered (Err e) merging merging' planned s x tells opens merges = tt

-- ---- it can still be handed in

lent_some : (old new : Option OpenMerge) → KeepsLent old new → is_some old ≡ true → is_some new ≡ true
lent_some None new keeps is = absurd cc
lent_some (Some o) None keeps is = absurd cc
lent_some (Some o) (Some n) keeps is = refl

lent_before : (old : Option OpenMerge) (n : OpenMerge) → KeepsLent old (Some n) → (o : OpenMerge) × (old ≡ Some o) × (n.lent ≡ o.lent)
lent_before None n keeps = absurd cc
lent_before (Some o) n keeps = (o, refl, same keeps)
  where
    same : Some n.lent ≡ Some o.lent → n.lent ≡ o.lent
    same e = cc

module _ {D V H W : Type 0} (g : Ghosts D) (w : Writers W) {s : _} (old new : D) (merging merging' : Option OpenMerge)
    (planned : Option (Planned V H W s)) (keeps : KeepsLent merging merging') where
  can_told : StaysUntold (g.told old) (g.told new) → CanHandIn g w old merging planned → CanHandIn g w new merging' planned
  can_told stays can = λ p is.
      let may = can_still g w old new merging merging planned refl stays can p is in
      record {
        ended = may.ended;
        is_open = lent_some merging merging' keeps may.is_open;
        drawn = λ n there.
            let (o, before, same) = lent_before merging n (subst (KeepsLent merging) there keeps) in
            subst (λ (v : Vec ℕ Global). All (λ (x : ℕ). has x v.items ≡ true) (numbers_in p.job)) (sym same) (may.drawn o before);
        distinct = may.distinct;
        tells = may.tells;
        leavings_tell = may.leavings_tell;
      }

  pub can_moved : {T : Type 0} (result : Result T Halt) → OnOk result (StaysUntold (g.told old) (g.told new))
      → CanHandIn g w old merging planned → OnOk result (CanHandIn g w new merging' planned)
  can_moved (Ok x) stays can = can_told stays can
  can_moved (Err e) stays can = tt
