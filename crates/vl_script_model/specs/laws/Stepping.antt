-- One step of a run over a disk, by what was read and how it was answered.
use Rattle.std.proofs.Common.{◌≡◌, ℕ, ◌+◌, List, [], ◌∷◌, ◌++◌, take, Option, None, Some, refl, sym, ◌∙◌, ap, subst}
use Rattle.std.specs.Prelude.{unwrap_or}
use Rattle.vl_disk.specs.declared.watched.Watched.{Ghosts}
use Rattle.vl_disk.specs.Faults.{Rose}
use Rattle.vl_io.specs.Sink.{Takes}
use Rattle.vl_script.specs.Script.{lines_of}
use Rattle.vl_script_model.specs.Between.{Showing, Stopping}
use Rattle.vl_script_model.specs.Input.{ReadsLine}
use Rattle.vl_script_model.specs.Sequential.{State, answer_text}
use Rattle.vl_script_model.specs.Exchanges.{Exchange, exchange_at, state_behind, exchanges_from, last_state, KeepsUp}
use Rattle.vl_script_model.specs.Endings.{Evidence, line_number}
use Rattle.vl_script_model.specs.Runs.{Script, exchanges, Outside, EvidenceOf, EndsRun}
use Rattle.vl_script_model.specs.Durable.{Holding, LeavesItsHistory, StaysShown, HoldsState, DiskEnds, DiskEndsFrom}
use Rattle.vl_script_model.specs.Steps.{IsNext, EndsBefore, PrintsStep, MovesOn, DiskSteps, kept, Steps}
use Rattle.vl_script.specs.declared.next.Next.{Next}
use Rattle.vl_script.specs.declared.next.Next.TheVariants.{Line as WholeLine, LastLine}
use Rattle.vl_script_model.specs.declared.ending.Ending.{Ending}
use Rattle.vl_script_model.specs.declared.ending.Ending.TheVariants.{Complete}
use Rattle.vl_script_model.specs.laws.ReadLines.{lines_of-ended, lines_of-unended}
use Rattle.vl_script_model.specs.laws.Ends.{LeavesDisk, keeps_up_after, keeps_up_more, last_answered, next_answered}
use Rattle.vl_script_model.specs.laws.Ends.{none_left, takes_nothing, ends_weaker, evidence_weaker}
use Rattle.vl_script_model.specs.laws.DiskSteps.{IsWatched, exchanges_extend, first_behind, ends_untouched, ends_answered}

-- the bytes of a script that is still to do are those that were read, and those that the source has left

pub reads_script : (next : Next) (bytes had line buffer : List ℕ) (left : Option (List ℕ)) → bytes ≡ had
    → ReadsLine next had line buffer left → ReadsLine next bytes line buffer left
reads_script next bytes had line buffer left same reads = subst (λ (b : List ℕ). ReadsLine next b line buffer left) (sym same) reads

pub still_keeps_up : (bytes had : List ℕ) (asked asked' : Option (List ℕ)) → bytes ≡ had
    → (KeepsUp had asked 0 → KeepsUp had asked' 0) → KeepsUp bytes asked 0 → KeepsUp bytes asked' 0
still_keeps_up bytes had asked asked' same keeps = subst (λ (b : List ℕ). KeepsUp b asked 0 → KeepsUp b asked' 0) (sym same) keeps

-- what was read is the next line

pub next_line : (script : Script) (line buffer : List ℕ) (left : Option (List ℕ))
    → ReadsLine WholeLine script.bytes line buffer left → IsNext script line
next_line script line buffer left
    (rest, told, parts, unended) = (lines_of (buffer ++ rest), ap lines_of parts ∙ lines_of-ended line (buffer ++ rest) unended)

pub next_last : (script : Script) (line buffer : List ℕ) (left : Option (List ℕ))
    → ReadsLine LastLine script.bytes line buffer left → IsNext script line
next_last script line buffer left (told, same, unended, some) = ([], ap lines_of same ∙ lines_of-unended line unended some)

module _ {D : Type 0} (g : Ghosts D) (watched : IsWatched g) (holds : Holding) (shows : Showing) (stops : Stopping)
    (stays : StaysShown shows) (exactly : LeavesItsHistory holds shows) (script : Script) (old new : Outside D) where
  -- a run that ended before it answered a line
  ended : (by_source by_disk : Type 0) → (by_source → Rose old.source_faults new.source_faults)
      → (by_disk → Rose (g.faults old.disk) (g.faults new.disk))
      → (ending : Ending) → EndsBefore (Evidence by_source by_disk) script new.left ending old.held new.held
      → KeepsUp script.bytes new.asked 0
      → (HoldsState g holds script.start old.disk
      → DiskEnds g holds shows stops ⊥ ⊥ old.disk new.disk
      (record { ending = ending; first = script.start; answered = []; most = last_state script.start (take 1 (exchanges script)) }))
      → EndsRun g (DiskEndsFrom g holds shows stops old.disk new.disk script.start) script old new ending
  ended by_source by_disk source disk ending before kept_up disk_ends = record {
    answered = 0;
    printed = before.printed;
    taken = before.taken;
    ends = ends_weaker (Evidence by_source by_disk) (EvidenceOf g old new)
        (evidence_weaker by_source by_disk (Rose old.source_faults new.source_faults)
        (Rose (g.faults old.disk) (g.faults new.disk)) source disk)
        script new.left 0 ending before.printed before.ends;
    kept_up = kept_up;
    disk = disk_ends;
  }

  -- where the disk was left alone
  pub step_apart : (by_source : Type 0) → (by_source → Rose old.source_faults new.source_faults) → (ending : Ending)
      → LeavesDisk ending → new.disk ≡ old.disk
      → EndsBefore (Evidence by_source ⊥) script new.left ending old.held new.held → KeepsUp script.bytes new.asked 0
      → EndsRun g (DiskEndsFrom g holds shows stops old.disk new.disk script.start) script old new ending
  step_apart by_source source ending none same before kept_up =
      let most = last_state script.start (take 1 (exchanges script)) in
      ended by_source ⊥ source (λ never. absurd never) ending before kept_up
      (λ held. subst (λ (d : D). DiskEnds g holds shows stops ⊥ ⊥ old.disk d
      (record { ending = ending; first = script.start; answered = []; most = most })) (sym same)
      (ends_untouched g watched holds shows stops stays exactly script.start most
      (exchanges_extend (lines_of script.bytes) script.start 1) old.disk ending none held))

  -- there is no further line
  pub step_end : script.bytes ≡ [] → new.left ≡ Some [] → new.disk ≡ old.disk → new.held ≡ old.held → KeepsUp script.bytes new.asked 0
      → EndsRun g (DiskEndsFrom g holds shows stops old.disk new.disk script.start) script old new Complete
  step_end none told same quiet kept_up =
      step_apart ⊥ (λ never. absurd never) Complete leaves_disk same
      (record {
        printed = [];
        taken = subst (λ (h : Option (List ℕ)). Takes old.held h []) (sym quiet)
            (takes_nothing old.held);
        ends = none_left (Evidence ⊥ ⊥) script new.left none told;
      }) kept_up
    where
      leaves_disk : LeavesDisk Complete
      leaves_disk = (λ cuts. cc, λ fault. cc)

  module _ (line : List ℕ) (stands_for : State → Type 0) where
    abbrev behind : State
    behind = state_behind script.start (exchange_at script.start line)

    -- the line ended the run
    line_ended : (texts : List (List ℕ)) → lines_of script.bytes ≡ line ∷ texts → (ending : Ending)
        → EndsBefore (Evidence ⊥ (Rose (g.faults old.disk) (g.faults new.disk))) script new.left ending old.held new.held
        → KeepsUp script.bytes new.asked 0
        → (HoldsState g holds script.start old.disk → DiskSteps g holds shows stops old.disk new.disk script.start behind (Some ending))
        → EndsRun g (DiskEndsFrom g holds shows stops old.disk new.disk script.start) script old new ending
    line_ended texts lines ending before kept_up moves =
        let most : last_state script.start (take 1 (exchanges script)) ≡ behind =
        ap (λ (ls : List (List ℕ)). last_state script.start (take 1 (exchanges_from script.start ls))) lines
        ∙ first_behind script.start line texts in
        ended ⊥ (Rose (g.faults old.disk) (g.faults new.disk)) (λ never. absurd never) (λ rose. rose) ending before kept_up
        (λ held. subst (λ (s : State). DiskEnds g holds shows stops ⊥ ⊥ old.disk new.disk
        (record { ending = ending; first = script.start; answered = []; most = s })) (sym most) (moves held))

    -- a line that was read with its end was answered, or the run ended there
    pub step_line : (buffer : List ℕ) (answered : ℕ) (result : Option Ending)
        → answered ≡ line_number (script.before + 1) → ReadsLine WholeLine script.bytes line buffer new.left
        → PrintsStep (Rose (g.faults old.disk) (g.faults new.disk)) script line stands_for result old.held new.held
        → (HoldsState g holds script.start old.disk → DiskSteps g holds shows stops old.disk new.disk script.start behind result)
        → KeepsUp script.bytes new.asked 0 → Steps g holds shows stops script old new (kept stands_for buffer answered) result
    step_line buffer answered None count (rest, told, parts, unended) (e, is, stands, taken) moves kept_up = record {
      text = line;
      later = buffer ++ rest;
      bytes_are = parts;
      unended = unended;
      exchange = e;
      exchange_is = is;
      taken = taken;
      to_do = record {
        stands = stands;
        count = count;
        rest = rest;
        left_is = told;
        bytes_are = refl;
        kept_up = keeps_up_after script.bytes line (buffer ++ rest) new.asked parts unended kept_up;
      };
      moves = λ held. subst (λ (o : Option Exchange). MovesOn g holds shows old.disk new.disk script.start
          (state_behind script.start o)) is (moves held);
    }
    step_line buffer answered (Some ending) count (rest, told, parts, unended) ends moves kept_up =
        line_ended (lines_of (buffer ++ rest)) (ap lines_of parts ∙ lines_of-ended line (buffer ++ rest) unended) ending
        (ends new.left) kept_up moves

    -- the last line was answered, and so the run is complete, or it ended there
    pub step_last : (buffer : List ℕ) (ended_by : Option Ending) (result : Ending)
        → result ≡ unwrap_or ended_by Complete → ReadsLine LastLine script.bytes line buffer new.left
        → PrintsStep (Rose (g.faults old.disk) (g.faults new.disk)) script line stands_for ended_by old.held new.held
        → (HoldsState g holds script.start old.disk → DiskSteps g holds shows stops old.disk new.disk script.start behind ended_by)
        → KeepsUp script.bytes new.asked 0 → EndsRun g (DiskEndsFrom g holds shows stops old.disk new.disk script.start)
        script old new result
    step_last buffer None result r (told, same, unended, some) (e, is, stands, taken) moves kept_up =
        let lines : lines_of script.bytes ≡ line ∷ [] = ap lines_of same ∙ lines_of-unended line unended some in
        let all : exchanges script ≡ e ∷ [] = next_answered script line ([], lines) e is in
        subst (λ (x : Ending). EndsRun g (DiskEndsFrom g holds shows stops old.disk new.disk script.start) script old
        new x) (sym r) (record {
          answered = 1;
          printed = answer_text e.answer;
          taken = taken;
          ends = last_answered (EvidenceOf g old new) script line new.left e lines is told;
          kept_up = keeps_up_more script.bytes new.asked 1 kept_up;
          disk = λ held.
              let m = subst (λ (o : Option Exchange). MovesOn g holds shows old.disk new.disk script.start
              (state_behind script.start o)) is (moves held) in
              subst (λ (es : List Exchange). DiskEnds g holds shows stops ⊥ ⊥ old.disk new.disk
              (record {
                ending = Complete;
                first = script.start;
                answered = take 1 es;
                most = last_state script.start
                    (take 2 es);
              })) (sym all)
              (ends_answered g watched holds shows stops stays exactly old.disk new.disk Complete script.start e
              (λ fault. cc) m.through m.held m.steady);
        })
    step_last buffer (Some ending) result r (told, same, unended, some) ends moves kept_up =
        let lines : lines_of script.bytes ≡ line ∷ [] = ap lines_of same ∙ lines_of-unended line unended some in
        subst (λ (x : Ending). EndsRun g (DiskEndsFrom g holds shows stops old.disk new.disk script.start) script old new x) (sym r)
        (line_ended [] lines ending (ends new.left) kept_up moves)
