-- A run under way: what was printed so far, before what a run over the rest prints, is a run over the whole.
use Rattle.std.proofs.Common.{append_assoc, ◌≡◌, ◌+◌, ◌≤◌, ℕ, suc, List, [], ◌∷◌, ◌++◌, take, refl, sym, ◌∙◌, ap, subst, arith}
use Rattle.std.specs.Prelude.{Option, Some}
use Rattle.vl_disk.specs.declared.watched.Watched.{Ghosts}
use Rattle.vl_disk.specs.Faults.{Rose}
use Rattle.vl_io.specs.Sink.{Takes}
use Rattle.vl_script.specs.Script.{lines_of}
use Rattle.vl_script_model.specs.Sequential.{State, history_of, answer_text}
use Rattle.vl_script_model.specs.Exchanges.{Exchange, KeepsUp, last_state}
use Rattle.vl_model.specs.History.{Extends}
use Rattle.vl_script_model.specs.Between.{Showing, Stopping}
use Rattle.vl_script_model.specs.Endings.{Evidence}
use Rattle.vl_script_model.specs.Runs.{Script, script_of, exchanges, Outside, EvidenceOf, EndsSo, EndsRun}
use Rattle.vl_script_model.specs.Durable.{Holding, LeavesItsHistory, StaysShown, HoldsState, CrashesShow, GoesAlong, DiskEnds, DiskEndsFrom}
use Rattle.vl_script_model.specs.Steps.{Kept, kept, HasToDo, GoesOn}
use Rattle.vl_script_model.specs.declared.ending.Ending.{Ending}
use Rattle.vl_script_model.specs.laws.Laws.{keeps_up_at_first}
use Rattle.vl_script_model.specs.laws.Betweens.{extends_itself, extends_then}
use Rattle.vl_script_model.specs.laws.Ends.{takes_both, takes_nothing, goes_on, longer, keeps_up_behind, ends_weaker, evidence_weaker}
use Rattle.vl_script_model.specs.laws.DiskSteps.{IsWatched, exchange_extends, exchanges_extend, rests, it_holds, goes_then}
use Rattle.vl_script_model.specs.laws.DiskSteps.{ends_later, rose_earlier}

-- So far the disk holds the state before the rest, a crash since the begin left no more than its commits, and what goes along
-- the lines of the rest goes along those of the whole.
pub record Carried {D : Type 0} (g : Ghosts D) (holds : Holding) (shows : Showing) (first disk : D) (whole rest : Script) : Type 0 where
  pub held : HoldsState g holds rest.start disk
  pub goes : CrashesShow g shows first disk (history_of whole.start) (history_of rest.start)
  pub along : (new : D) (most : State) (m : ℕ) → Extends (history_of rest.start) (history_of most)
      → CrashesShow g shows disk new (history_of rest.start) (history_of most)
      → GoesAlong g holds shows new most disk rest.start (take m (exchanges rest))
      → GoesAlong g holds shows new most first whole.start (take (m + rest.before) (exchanges whole))

-- By what a run over the rest would print, a run over the whole, which is at its script's begin.
pub record UnderWay {D : Type 0} (g : Ghosts D) (holds : Holding) (shows : Showing) (whole : Script)
    (begin now : Outside D) (keeps : Kept) : Type 0 where
  pub rest : Script
  pub to_do : HasToDo rest keeps now
  pub so_far : List ℕ
  pub extends : Extends (history_of whole.start) (history_of rest.start)
  pub taken : Takes begin.held now.held so_far
  pub later : (t td : ℕ) (left : Option (List ℕ)) (m : ℕ) (ending : Ending) (printed : List ℕ)
      → EndsSo (Evidence (Rose begin.source_faults t) (Rose (g.faults begin.disk) td)) rest left m ending printed
      → EndsSo (Evidence (Rose begin.source_faults t) (Rose (g.faults begin.disk) td)) whole left (m + rest.before)
      ending (so_far ++ printed)
  pub later_kept_up : (asked : Option (List ℕ)) (m : ℕ) → KeepsUp rest.bytes asked m → KeepsUp whole.bytes asked (m + rest.before)
  pub later_state : (m : ℕ) → last_state rest.start (take m (exchanges rest)) ≡ last_state whole.start
      (take (m + rest.before) (exchanges whole))
  pub carried : HoldsState g holds whole.start begin.disk → Carried g holds shows begin.disk now.disk whole rest

module _ {D : Type 0} (g : Ghosts D) (watched : IsWatched g) (holds : Holding) (shows : Showing) (stops : Stopping)
    (stays : StaysShown shows) (exactly : LeavesItsHistory holds shows) (start : State) (input : List ℕ) (begin : Outside D) where
  abbrev whole : Script
  whole = script_of start 0 input

  pub begun : (stands_for : State → Type 0) → stands_for start → begin.left ≡ Some input
      → ((rest : List ℕ) → begin.left ≡ Some rest → (given : List ℕ) × (begin.asked ≡ Some (given ++ rest)))
      → UnderWay g holds shows whole begin begin (kept stands_for [] 0)
  begun stands_for stands is since_asked =
      let none : (m : ℕ) → m ≡ m + 0 = λ m. omega arith in
      record {
        rest = whole;
        to_do = record {
          stands = stands;
          count = omega arith;
          rest = input;
          left_is = is;
          bytes_are = refl;
          kept_up = keeps_up_at_first input begin.asked (since_asked input is);
        };
        so_far = [];
        extends = extends_itself (history_of start);
        taken = takes_nothing begin.held;
        later = λ t td left m ending printed run. subst
            (λ (n : ℕ). EndsSo (Evidence (Rose begin.source_faults t) (Rose (g.faults begin.disk) td)) whole left n ending
            printed) (none m) run;
        later_kept_up = λ asked m kept_up. subst (KeepsUp input asked) (none m) kept_up;
        later_state = λ m. ap (λ (n : ℕ). last_state start (take n (exchanges whole))) (none m);
        carried = λ held. record {
          held = held;
          goes = rests g watched holds shows stops stays exactly start begin.disk held;
          along = λ new most m extends goes along. subst
              (λ (k : ℕ). GoesAlong g holds shows new most begin.disk start (take k (exchanges whole))) (none m) along;
        };
      }

  module _ (now next : Outside D) (keeps keeps' : Kept) (u : UnderWay g holds shows whole begin now keeps) where
    abbrev rest : Script
    rest = u.rest

    pub further : GoesOn g holds shows rest now next keeps' → UnderWay g holds shows whole begin next keeps'
    further s =
        let e = s.exchange in
        let others = script_of e.after (rest.before + 1) s.later in
        let on : (m : ℕ) → suc m + rest.before ≡ m + (rest.before + 1) = λ m. omega arith in
        let all : exchanges rest ≡ e ∷ exchanges others = longer rest others s.text e s.bytes_are s.unended s.exchange_is refl refl in
        let step : Extends (history_of rest.start) (history_of e.after) = exchange_extends rest.start s.text e s.exchange_is in
        record {
          rest = others;
          to_do = s.to_do;
          so_far = u.so_far ++ answer_text e.answer;
          extends = extends_then (history_of start) (history_of rest.start) (history_of e.after) u.extends step;
          taken = takes_both begin.held now.held next.held u.so_far (answer_text e.answer) u.taken s.taken;
          later = λ t td left m ending printed run.
              let evidence = Evidence (Rose begin.source_faults t) (Rose (g.faults begin.disk) td) in
              subst (λ (n : ℕ). EndsSo evidence whole left n ending ((u.so_far ++ answer_text e.answer) ++ printed)) (on m)
              (subst (λ (p : List ℕ). EndsSo evidence whole left (suc m + rest.before) ending p)
              (sym (append_assoc u.so_far (answer_text e.answer) printed))
              (u.later t td left (suc m) ending (answer_text e.answer ++ printed)
              (goes_on rest others s.text e s.bytes_are s.unended s.exchange_is refl refl evidence left m ending printed run)));
          later_kept_up = λ asked m kept. subst (KeepsUp input asked) (on m)
              (u.later_kept_up asked (suc m) (keeps_up_behind rest.bytes s.text s.later asked m s.bytes_are s.unended kept));
          later_state = λ m.
              sym (ap (λ (es : List Exchange). last_state rest.start (take (suc m) es)) all)
              ∙ u.later_state (suc m)
              ∙ ap (λ (n : ℕ). last_state start (take n (exchanges whole))) (on m);
          carried = λ held.
              let c = u.carried held in
              let moves = s.moves c.held in
              record {
                held = moves.held;
                goes = goes_then g watched holds shows stops stays exactly begin.disk now.disk next.disk
                    (history_of start) (history_of rest.start) (history_of e.after) u.extends step c.goes moves.through;
                along = λ new most k extends goes along.
                    subst (λ (j : ℕ). GoesAlong g holds shows new most begin.disk start (take j (exchanges whole))) (on k)
                    (c.along new most (suc k) (extends_then (history_of rest.start) (history_of e.after) (history_of most) step extends)
                    (goes_then g watched holds shows stops stays exactly now.disk next.disk new (history_of rest.start)
                    (history_of e.after) (history_of most) step extends moves.through goes)
                    (subst (λ (es : List Exchange). GoesAlong g holds shows new most now.disk rest.start (take (suc k) es)) (sym all) (
                      next.disk,
                      record {
                        before = moves.through;
                        held = it_holds g watched holds shows stops stays
                            exactly e.after next.disk moves.held;
                        steady = moves.steady;
                        behind = goes;
                      },
                      along,
                    )));
              };
        }

    pub over : (ending : Ending) → begin.source_faults ≤ now.source_faults → g.faults now.disk ≡ g.faults begin.disk
        → EndsRun g (DiskEndsFrom g holds shows stops now.disk next.disk rest.start) rest now next ending
        → EndsRun g (DiskEndsFrom g holds shows stops begin.disk next.disk start) whole begin next ending
    over ending earlier steady run =
        let earlier_disk : g.faults begin.disk ≤ g.faults now.disk = omega (arith, steady) in
        let m = run.answered in
        let most = last_state rest.start (take (suc m) (exchanges rest)) in
        let on : suc m + rest.before ≡ suc (m + rest.before) = omega arith in
        let most_is : most ≡ last_state start (take (suc (m + rest.before)) (exchanges whole)) =
        u.later_state (suc m) ∙ ap (λ (n : ℕ). last_state start (take n (exchanges whole))) on in
        record {
          answered = m + rest.before;
          printed = u.so_far ++ run.printed;
          taken = takes_both begin.held now.held next.held u.so_far run.printed u.taken run.taken;
          ends = u.later next.source_faults (g.faults next.disk) next.left m ending run.printed
              (ends_weaker (EvidenceOf g now next) (EvidenceOf g begin next)
              (evidence_weaker (Rose now.source_faults next.source_faults)
              (Rose (g.faults now.disk) (g.faults next.disk)) (Rose begin.source_faults next.source_faults)
              (Rose (g.faults begin.disk) (g.faults next.disk))
              (λ rose. rose_earlier begin.source_faults now.source_faults next.source_faults earlier rose)
              (λ rose. rose_earlier (g.faults begin.disk) (g.faults now.disk) (g.faults next.disk) earlier_disk rose))
              rest next.left m ending run.printed run.ends);
          kept_up = u.later_kept_up next.asked m run.kept_up;
          disk = λ held.
              let c = u.carried held in
              let extends = exchanges_extend (lines_of rest.bytes) rest.start (suc m) in
              subst (λ (s : State). DiskEnds g holds shows stops ⊥ ⊥ begin.disk next.disk
              (record { ending = ending; first = start; answered = take (m + rest.before) (exchanges whole); most = s })) most_is
              (ends_later g watched holds shows stops stays exactly ⊥ ⊥ begin.disk now.disk next.disk ending start
              rest.start most (take m (exchanges rest)) (take (m + rest.before) (exchanges whole))
              u.extends extends steady c.goes (c.along next.disk most m extends) (u.later_state m) (run.disk c.held));
        }
