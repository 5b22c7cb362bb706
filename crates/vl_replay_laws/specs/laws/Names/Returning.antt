-- What a line's call makes, in the words of the functions that it calls: the name that was taken out, and put back.
use Rattle.std.proofs.Common.{◌≡◌, ℕ, List, [], ◌∷◌, ◌++◌, sym, subst}
use Rattle.std.specs.Prelude.{Option, None, Some, Ok, Result}
use Rattle.vl_disk.specs.DiskState.{DiskState}
use Rattle.vl_engine_laws.specs.declared.kept.Core.{Core}
use Rattle.vl_reads.specs.declared.view.View.{View as EngineView}
use Rattle.vl_engine_model.specs.AtAnswer.{Beginning}
use Rattle.vl_engine_model.specs.Rulings.View.{View as LayoutView}
use Rattle.vl_engine_model.specs.Store.Lines as store_lines
use Rattle.vl_engine_model.specs.Store.Lines.{Name}
use Rattle.vl_engine_model.specs.Store.Things as store
use Rattle.vl_engine_model.specs.Jobs.{Made}
use Rattle.vl_engine_model.specs.Relocation.{Candidate, Pass}
use Rattle.vl_engine_model.specs.Store.Things.{AJob, APass, AView, Step, only, thing_of}
use Rattle.vl_engine_model.specs.declared.job.Job.{Job}
use Rattle.vl_replay_laws.specs.Replaying.{MakesStep, StandsIn, state_by}
use Rattle.vl_script_model.specs.Sequential.{State, state_after, step_to}
use Rattle.vl_replay_laws.specs.Standing.{AreOnce, IsTaken}
use Rattle.vl_script_model.specs.declared.fails.Halt.{Halt}
use Rattle.vl_replay_laws.specs.declared.open.Open.{Open}
use Rattle.vl_replay_laws.specs.declared.open.Thing.{Thing}
use Rattle.vl_replay_laws.specs.declared.open.Thing.TheVariants.{View}
use Rattle.vl_script.specs.declared.answer.Answer.{Answer}
use Rattle.vl_script.specs.declared.line.Line.{Line}
use Rattle.vl_script.specs.declared.answer.Answer.TheVariants as answers
use Rattle.vl_replay_laws.specs.laws.Names.Making.{read_only_makes, unknown_makes}

module _ {H R : Type 0} (bytes : H → Option (List ℕ)) (seen : Option DiskState) (core : Core H)
    (os left : List (Open H R)) (s : State) (stands : StandsIn bytes seen core os s)
    -- the name as the call had it, and as the line has it
    (q name : Name) (same : q ≡ name) where
  -- it was taken out
  pub taken_as : (thing : Option (Thing H R)) → (AreOnce os → IsTaken os left q thing) → IsTaken os left name thing
  taken_as thing taken = subst (λ (n : Name). IsTaken os left n thing) same (taken stands.names.once)

  -- with this thing, which was found there
  pub taken_out : (found thing : Thing H R) → found ≡ thing → (AreOnce os → IsTaken os left q (Some found))
      → IsTaken os left name (Some thing)
  taken_out found thing is taken = subst (λ (x : Thing H R). IsTaken os left name (Some x)) is (taken_as (Some found) taken)

  pub unknown_returns : (AreOnce os → IsTaken os left q None) → (x : Option store.Thing → Step)
      → x None ≡ only (store_lines.Unknown name) s.store
      → ((job : Job) (made : Made) → x (Some (AJob job made)) ≡ only (store_lines.Unknown name) s.store)
      → ((pass : Pass) (batch : Option (List Candidate)) → x (Some (APass pass batch)) ≡ only (store_lines.Unknown name) s.store)
      → MakesStep bytes seen core left s (x (thing_of s.store name)) (Ok (answers.Unknown name))
  unknown_returns taken x is merge passes =
      unknown_makes bytes seen core os s stands left name (taken_as None taken) x is merge passes

  pub read_only_returns : (view : EngineView H R) (new : List (Open H R)) (found : Thing H R) → found ≡ View view
      → (AreOnce os → IsTaken os left q (Some found))
      → new ≡ left ++ record { name = name; thing = View view } ∷ []
      → (x : Option store.Thing → Step) → ((v : LayoutView) (b : Beginning) → x (Some (AView v b)) ≡ only store_lines.ReadOnly s.store)
      → MakesStep bytes seen core new s (x (thing_of s.store name)) (Ok answers.ReadOnly)
  read_only_returns view new found found_is taken put x is =
      subst (λ (os' : List (Open H R)). MakesStep bytes seen core os' s (x (thing_of s.store name)) (Ok answers.ReadOnly)) (sym put)
      (read_only_makes bytes seen core os s stands left name view (taken_out found (View view) found_is taken) x is)

-- over the names that there are then, for the same step, and as the call answers
pub returns_so : {H R : Type 0} (bytes : H → Option (List ℕ)) (seen : Option DiskState) (core : Core H)
    (put new : List (Open H R)) (s : State) (x y : Step) (told result : Result Answer Halt)
    → new ≡ put → x ≡ y → result ≡ told → MakesStep bytes seen core put s x told → MakesStep bytes seen core new s y result
returns_so {H} {R} bytes seen core put new s x y told result names same is makes =
    subst (λ (r : Result Answer Halt). MakesStep bytes seen core new s y r) (sym is)
    (subst (λ (z : Step). MakesStep bytes seen core new s z told) same
    (subst (λ (os : List (Open H R)). MakesStep bytes seen core os s x told) (sym names) makes))

-- A state counts calls and files of its own, of which nothing is asked here.
pub stands_after : {H R : Type 0} (bytes : H → Option (List ℕ)) (seen : Option DiskState) (core : Core H) (os : List (Open H R)) (s : State)
    (line : Line) → StandsIn bytes seen core os (state_by s (step_to s line)) → StandsIn bytes seen core os (state_after s line)
stands_after bytes seen core os s line is = record {
  engine = is.engine;
  names = is.names;
  sound = is.sound;
  held = is.held;
  running = is.running;
  fits = is.fits;
  within = is.within;
}
