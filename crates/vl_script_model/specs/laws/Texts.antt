-- What taking a text for a line does to the disk, and how a run ends there.
use Rattle.std.proofs.Common.{◌≡◌, inl, inr, ℕ, List, [], None, Some, Result, Ok, Err, OnOk, refl, sym, ◌∙◌, ap, subst, arith}
use Rattle.std.specs.Prelude.{◌+◌, IsOk, IsErr, IsErrAnd}
use Rattle.std.specs.Option.{option_map}
use Rattle.vl_disk.specs.declared.watched.Watched.{Ghosts}
use Rattle.vl_disk.specs.Faults.{Rose, after_calls}
use Rattle.vl_io.specs.declared.sink.Sink as sink
use Rattle.vl_engine_model.specs.Store.Lines as store
use Rattle.vl_script_model.specs.laws.Laws.{IsSound}
use Rattle.vl_script.specs.declared.answer.Answer.{Answer}
use Rattle.vl_script.specs.declared.answer.Answer.TheVariants.{Done, Moved, Number, Removed}
use Rattle.vl_script.specs.declared.line.Line.{Line}
use Rattle.vl_script.specs.Script.{line_of}
use Rattle.vl_script_model.specs.Sequential.{State, answer_to, state_after, step_to, history_of, IsPrinted}
use Rattle.vl_script_model.specs.Exchanges.{exchange_at, exchanged, state_behind}
use Rattle.vl_disk.specs.declared.name.Name.{Name}
use Rattle.vl_script_model.specs.Halts.{HaltsBeside, HaltsByDamage, HaltsByDisk, HaltsByRead, HaltsByReader}
use Rattle.vl_script_model.specs.Endings.{CutsAnswer, IsBetweenLines, TheDisk, TheReader, culprit_of, ending_at}
use Rattle.vl_script_model.specs.Durable.{HoldsState, HoldsCommits, LeadsTo, DiskEnds, without_live, without_merges}
use Rattle.vl_script_model.specs.Stored.{IsStopped, IsStored}
use Rattle.vl_engine_laws.specs.Shown.{Shown}
use Rattle.vl_script_model.specs.Steps.{Finishes}
use Rattle.vl_script_model.specs.declared.fails.Halt.{Halt}
use Rattle.vl_script_model.specs.declared.fails.Halt.TheVariants as why
use Rattle.vl_script_model.specs.declared.ending.Ending.{Ending}
use Rattle.vl_script_model.specs.declared.ending.Ending.TheVariants.{NoMemory, ReaderFault, AnswerCut}
use Rattle.vl_script_model.specs.declared.ending.OnFault.{OnFault}
use Rattle.vl_script_model.specs.laws.Ends.{at_fault, or_cut}
use Rattle.vl_script_model.specs.laws.DiskSteps.{IsWatched, counted_commits, text_extends, rests_until, it_holds, opens_again, own_commits}
use Rattle.vl_script_model.specs.laws.DiskSteps.{ends_within, ends_unchanged}
use Rattle.vl_script_model.specs.laws.ShownDisk.{shown_stays, stored_exactly}
use Rattle.vl_script_model.specs.laws.Extending.{line_keeps, printed_done, printed_moved, printed_number, printed_removed}
use Rattle.vl_script_model.specs.laws.Staying.{layout_stays}
use Rattle.vl_script_model.specs.laws.Counting.{Counts, line_counts}
use Rattle.vl_script_model.specs.laws.Halting.{out_beside, read_beside}
use Rattle.vl_script_model.specs.laws.HeldDisk.{stored_beside}

-- ---- results

on_ok_at_err : {T : Type 0} (result : Result T Halt) (P : Type 0) → IsErr result → OnOk result P
on_ok_at_err (Ok answer) P err = cc
on_ok_at_err (Err halt) P err = tt

on_ok_if : {T U : Type 0} (result : Result T Halt) (other : Result U Halt) (P : Type 0) → (IsOk result → IsOk other)
    → OnOk other P → OnOk result P
on_ok_if (Ok x) (Ok y) P ok p = p
on_ok_if (Ok x) (Err e) P ok p = let never = ok refl in cc
on_ok_if (Err e) other P ok p = tt

pub of_ok : {T : Type 0} (result : Result T Halt) (P : Type 0) → IsOk result → OnOk result P → P
of_ok (Ok x) P ok p = p
of_ok (Err e) P ok p = cc

pub ok_not_err : {T E : Type 0} (r : Result T E) → IsOk r → IsErr r → ⊥
ok_not_err (Ok x) ok err = cc
ok_not_err (Err e) ok err = cc

pub ok_not_out : {T : Type 0} (x : T) → Ok x ≡ Err why.NoMemory → ⊥
ok_not_out x e = cc

pub same_halt : {T : Type 0} (r : Result T Halt) (h e : Halt) → r ≡ Err e → IsErrAnd r (λ y. y ≡ h) → h ≡ e
same_halt {T = T} r h e is same = sym (subst (λ (x : Result T Halt). IsErrAnd x (λ y. y ≡ h)) is same)

pub halts : {T : Type 0} (r : Result T Halt) (name : Name) → r ≡ Err (why.Disk name) → HaltsByDisk r
halts {T = T} r name is = subst (λ (x : Result T Halt). HaltsByDisk x) (sym is) tt

pub by_damage : {T : Type 0} (r : Result T Halt) (name : Name) (place : ℕ) → r ≡ Err (why.Damaged name place) → HaltsByRead r
by_damage {T = T} r name place is = subst (λ (x : Result T Halt). HaltsByRead x) (sym is) tt

pub by_read : {T : Type 0} (r : Result T Halt) (name : Name) → r ≡ Err (why.Read name) → HaltsByRead r
by_read {T = T} r name is = subst (λ (x : Result T Halt). HaltsByRead x) (sym is) tt

pub is_damage : {T : Type 0} (r : Result T Halt) (name : Name) (place : ℕ) → r ≡ Err (why.Damaged name place) → HaltsByDamage r
is_damage {T = T} r name place is = subst (λ (x : Result T Halt). HaltsByDamage x) (sym is) tt

pub by_halt : {T : Type 0} (r : Result T Halt) (name : Name) → r ≡ Err (why.Halted name) → HaltsByRead r
by_halt {T = T} r name is = subst (λ (x : Result T Halt). HaltsByRead x) (sym is) tt

pub was_halted : {T : Type 0} (r : Result T Halt) (name : Name) → r ≡ Err (why.Halted name) → HaltsByReader r
was_halted {T = T} r name is = subst (λ (x : Result T Halt). HaltsByReader x) (sym is) tt

pub is_unread : {T : Type 0} (r : Result T Halt) (name : Name) → r ≡ Err (why.Read name) → HaltsByReader r
is_unread {T = T} r name is = subst (λ (x : Result T Halt). HaltsByReader x) (sym is) tt

-- where memory ran out nothing was damaged, and no reader failed
pub out_undamaged : {T : Type 0} (r : Result T Halt) → IsErrAnd r (λ halt. halt ≡ why.NoMemory) → HaltsByDamage r → ⊥
out_undamaged (Ok answer) out by = by
out_undamaged (Err why.NoMemory) out by = by
out_undamaged (Err (why.Disk name)) out by = by
out_undamaged (Err (why.Read name)) out by = by
out_undamaged (Err (why.Halted name)) out by = by
out_undamaged (Err (why.Damaged name place)) out by = cc

pub out_not_by_reader : {T : Type 0} (r : Result T Halt) → IsErrAnd r (λ halt. halt ≡ why.NoMemory) → HaltsByReader r → ⊥
out_not_by_reader (Ok answer) out by = by
out_not_by_reader (Err why.NoMemory) out by = by
out_not_by_reader (Err (why.Disk name)) out by = by
out_not_by_reader (Err (why.Read name)) out by = cc
out_not_by_reader (Err (why.Halted name)) out by = cc
out_not_by_reader (Err (why.Damaged name place)) out by = by

-- a halt that is handed on is the same
pub by_damage_still : {T U : Type 0} (carried : Result U Halt) (result : Result T Halt) (halt : Halt) → carried ≡ Err halt
    → IsErrAnd result (λ other. other ≡ halt) → HaltsByDamage result → HaltsByDamage carried
by_damage_still carried (Ok answer) halt was is by = absurd by
by_damage_still carried (Err why.NoMemory) halt was is by = absurd by
by_damage_still carried (Err (why.Disk name)) halt was is by = absurd by
by_damage_still carried (Err (why.Read name)) halt was is by = absurd by
by_damage_still carried (Err (why.Halted name)) halt was is by = absurd by
by_damage_still {U = U} carried (Err (why.Damaged name place)) halt was is by =
    subst (λ (r : Result U Halt). HaltsByDamage r) (ap Err is ∙ sym was) tt

pub by_reader_still : {T U : Type 0} (carried : Result U Halt) (result : Result T Halt) (halt : Halt) → carried ≡ Err halt
    → IsErrAnd result (λ other. other ≡ halt) → HaltsByReader result → HaltsByReader carried
by_reader_still carried (Ok answer) halt was is by = absurd by
by_reader_still carried (Err why.NoMemory) halt was is by = absurd by
by_reader_still carried (Err (why.Disk name)) halt was is by = absurd by
by_reader_still carried (Err (why.Damaged name place)) halt was is by = absurd by
by_reader_still {U = U} carried (Err (why.Read name)) halt was is by =
    subst (λ (r : Result U Halt). HaltsByReader r) (ap Err is ∙ sym was) tt
by_reader_still {U = U} carried (Err (why.Halted name)) halt was is by =
    subst (λ (r : Result U Halt). HaltsByReader r) (ap Err is ∙ sym was) tt

-- ---- the state behind a text

exchange_of : (s : State) (text : List ℕ) (line : Line) → line_of text ≡ Some line → exchange_at s text ≡ Some (exchanged s line)
exchange_of s text line spelled = ap (option_map (exchanged s)) spelled

line_behind : (s : State) (text : List ℕ) (line : Line) → line_of text ≡ Some line
    → state_behind s (exchange_at s text) ≡ state_after s line
line_behind s text line spelled = ap (state_behind s) (exchange_of s text line spelled)

pub bad_behind : (s : State) (text : List ℕ) → exchange_at s text ≡ None → state_behind s (exchange_at s text) ≡ s
bad_behind s text bad = ap (state_behind s) bad

module _ {D : Type 0} (g : Ghosts D) (watched : IsWatched g) (s : State) (text : List ℕ) where
  abbrev behind : State
  behind = state_behind s (exchange_at s text)

  -- memory ran out before the text was looked at
  pub carries_nothing : {T : Type 0} (disk : D) (result : Result T Halt) → IsErr result → (HaltsByDisk result → ⊥)
      → HoldsState g IsStored s disk → LeadsTo g IsStored Shown IsStopped disk disk s behind result
  carries_nothing disk result err sound held = record {
    answered = on_ok_at_err result _ err;
    short = λ _. own_commits g IsStored s behind disk held;
    tells = opens_again g watched IsStored Shown IsStopped shown_stays stored_exactly s disk held;
    through = rests_until g watched IsStored Shown IsStopped shown_stays stored_exactly s (history_of behind)
        (text_extends s text) disk held;
    stopped = λ by. absurd (sound by);
  }

  -- it is a bad line
  pub carries_bad : {T : Type 0} (disk : D) (x : T) → exchange_at s text ≡ None → HoldsState g IsStored s disk
      → LeadsTo g IsStored Shown IsStopped disk disk s behind (Ok x)
  carries_bad disk x bad held = record {
    answered = subst (λ (t : State). HoldsState g IsStored t disk) (sym (bad_behind s text bad)) held;
    short = λ by. absurd by;
    tells = opens_again g watched IsStored Shown IsStopped shown_stays stored_exactly s disk held;
    through = rests_until g watched IsStored Shown IsStopped shown_stays stored_exactly s (history_of behind)
        (text_extends s text) disk held;
    stopped = λ by. absurd by;
  }

  module _ (old new : D) where
    -- the line was carried out, or failed
    pub carries_line : {T U : Type 0} (line : Line) (carried : Result U Halt) (result : Result T Halt)
        → line_of text ≡ Some line → LeadsTo g IsStored Shown IsStopped old new s (state_after s line) carried
        → (IsOk result → IsOk carried) → (HaltsByDisk result → HaltsByDisk carried)
        → (HaltsBeside result → HoldsCommits g IsStored s (state_after s line) new)
        → LeadsTo g IsStored Shown IsStopped old new s behind result
    carries_line line carried result spelled carries ok by_disk short =
        subst (λ (t : State). LeadsTo g IsStored Shown IsStopped old new s t result) (sym (line_behind s text line spelled)) (record {
          answered = on_ok_if result carried _ ok carries.answered;
          short = short;
          tells = carries.tells;
          through = carries.through;
          stopped = λ by. carries.stopped (by_disk by);
        })

    -- the answer to a line that makes no call, or whose merge was given up, found no memory
    pub kept_without_number : (line : Line) (answer : Answer) → IsSound s → IsPrinted answer (answer_to s line)
        → ((n : ℕ) → answer ≡ Number n → ⊥) → (answer ≡ Done → ⊥) → ((n : ℕ) → answer ≡ Moved n → ⊥)
        → ((n : ℕ) → answer ≡ Removed n → ⊥)
        → HoldsState g IsStored s old → HoldsState g IsStored (state_after s line) new
        → HoldsCommits g IsStored s (state_after s line) new
    kept_without_number line answer sound is none undone unmoved unremoved before held = record {
      now = state_after s line;
      held = held;
      history = line_keeps s line unnumbered;
      layout = stays;
      given = (step_to s line).calls;
      few = (let files = counts.files in omega (arith, files));
      numbers = counts.numbers;
      files = counts.files;
      calls = refl;
      unchanged = λ alone.
          let files = counts.files in
          let numbers = counts.numbers in
          it_holds g watched IsStored Shown IsStopped shown_stays stored_exactly s new (record {
            calls = held.calls ∙ ap (λ (n : ℕ). after_calls n s.calls) alone;
            there = (
              held.there.0,
              held.there.1,
              stored_beside s (state_after s line) held.there.0 (line_keeps s line unnumbered) stays
                  (omega (arith, numbers, alone)) (omega (arith, files, alone)) before.there.2.openable before.there.2.tidy
                  held.there.2,
            );
          });
    }
      where
        unnumbered : (n : ℕ) → answer_to s line ≡ store.Number n → ⊥
        unnumbered n numbered = none n (printed_number answer (answer_to s line) n is numbered)

        stays : without_merges (state_after s line).store.layout ≡ without_merges s.store.layout
        stays = layout_stays s line sound unnumbered
            (λ done. undone (printed_done answer (answer_to s line) is done))
            (λ n moved. unmoved n (printed_moved answer (answer_to s line) n is moved))
            (λ n removed. unremoved n (printed_removed answer (answer_to s line) n is removed))

        counts : Counts s line
        counts = line_counts s line sound unnumbered
            (λ done. undone (printed_done answer (answer_to s line) is done))
            (λ n moved. unmoved n (printed_moved answer (answer_to s line) n is moved))
            (λ n removed. unremoved n (printed_removed answer (answer_to s line) n is removed))

    -- ---- how a run ends there

    -- the sink failed within the answer
    pub ends_cut : {T : Type 0} (result : Result T Halt) → IsOk result
        → LeadsTo g IsStored Shown IsStopped old new s behind result
        → DiskEnds g IsStored Shown IsStopped ⊥ ⊥ old new (record { ending = AnswerCut; first = s; answered = []; most = behind })
    ends_cut result ok carries =
        let held = it_holds g watched IsStored Shown IsStopped shown_stays stored_exactly behind new (of_ok result _ ok carries.answered) in
        ends_within g watched IsStored Shown IsStopped shown_stays stored_exactly old new AnswerCut s behind
        carries.through carries.tells
        (λ sound. inr (counted_commits g IsStored behind behind new held))
        (λ out. cc) (λ whole. absurd whole) (λ cuts. held) (λ by. cc) (λ fault. cc)

    -- it is a bad line, whatever could be put
    pub ends_bad : {T : Type 0} (result : Result T Halt) (ending : Ending) → IsOk result
        → (culprit_of ending ≡ TheDisk → ⊥) → exchange_at s text ≡ None → LeadsTo g IsStored Shown IsStopped old new s behind result
        → DiskEnds g IsStored Shown IsStopped ⊥ ⊥ old new (record { ending = ending; first = s; answered = []; most = behind })
    ends_bad result ending ok sound bad carries =
        let held = of_ok result _ ok carries.answered in
        ends_unchanged g watched IsStored Shown IsStopped shown_stays stored_exactly old new ending s behind carries.through carries.tells (
          behind,
          ap (λ (t : State). (history_of t)) (bad_behind s text bad),
          ap
              (λ (t : State). without_live t.store.layout) (bad_behind s text bad),
          ap (λ (t : State). t.calls)
              (bad_behind s text bad),
          ap (λ (t : State). t.files) (bad_behind s text bad),
          held,
        )
        (λ cuts. it_holds g watched IsStored Shown IsStopped shown_stays stored_exactly behind new held) sound

    -- memory ran out
    pub ends_out : {T K : Type 0} (k : sink.Ghosts K) (sink_old sink_new : K) (line : List ℕ) (result : Result T Halt)
        (ending : Ending) → result ≡ Err why.NoMemory → Finishes k sink_old sink_new line NoMemory ending
        → LeadsTo g IsStored Shown IsStopped old new s behind result
        → DiskEnds g IsStored Shown IsStopped ⊥ ⊥ old new (record { ending = ending; first = s; answered = []; most = behind })
    ends_out k sink_old sink_new line result ending out finishes carries =
        let held = carries.short (out_beside result out) in
        ends_within g watched IsStored Shown IsStopped shown_stays stored_exactly old new ending s behind
        carries.through carries.tells (λ sound. inl held) (λ _. held)
        (λ whole. absurd (or_cut k sink_old sink_new line NoMemory ending
        (λ (e : Ending). IsBetweenLines (culprit_of e) → ⊥) finishes (λ never. never) (λ never. never) whole))
        (λ cuts. absurd (or_cut k sink_old sink_new line NoMemory ending (λ (e : Ending). CutsAnswer e → ⊥) finishes
        (λ e. cc) (λ e. cc) cuts))
        (λ by. held)
        (λ fault. absurd (or_cut k sink_old sink_new line NoMemory ending (λ (e : Ending). culprit_of e ≡ TheDisk → ⊥)
        finishes (λ e. cc) (λ e. cc) fault))

    -- the disk failed
    pub ends_fault : {T K : Type 0} (k : sink.Ghosts K) (sink_old sink_new : K) (line : List ℕ) (result : Result T Halt)
        (f : OnFault) (ending : Ending) → Rose (g.faults old) (g.faults new) → HaltsByDisk result
        → Finishes k sink_old sink_new line (ending_at f) ending
        → LeadsTo g IsStored Shown IsStopped old new s behind result
        → DiskEnds g IsStored Shown IsStopped ⊥ ⊥ old new (record { ending = ending; first = s; answered = []; most = behind })
    ends_fault k sink_old sink_new line result f ending rose by finishes carries =
        ends_within g watched IsStored Shown IsStopped shown_stays stored_exactly old new ending s behind
        carries.through carries.tells (λ sound. absurd (sound rose))
        (λ out. absurd (or_cut k sink_old sink_new line (ending_at f) ending (λ (e : Ending). e ≡ NoMemory → ⊥) finishes
        (at_fault (λ (e : Ending). e ≡ NoMemory → ⊥) (λ e. cc) (λ e. cc) f) (λ e. cc) out))
        (λ whole. absurd (or_cut k sink_old sink_new line (ending_at f) ending
        (λ (e : Ending). IsBetweenLines (culprit_of e) → ⊥) finishes
        (at_fault (λ (e : Ending). IsBetweenLines (culprit_of e) → ⊥) (λ never. never) (λ never. never) f) (λ never. never) whole))
        (λ cuts. absurd (or_cut k sink_old sink_new line (ending_at f) ending (λ (e : Ending). CutsAnswer e → ⊥)
        finishes (at_fault (λ (e : Ending). CutsAnswer e → ⊥) (λ e. cc) (λ e. cc) f) (λ e. cc) cuts))
        (λ it. absurd (or_cut k sink_old sink_new line (ending_at f) ending
        (λ (e : Ending). culprit_of e ≡ TheReader → ⊥) finishes
        (at_fault (λ (e : Ending). culprit_of e ≡ TheReader → ⊥) (λ e. cc) (λ e. cc) f) (λ e. cc) it))
        (λ fault. carries.stopped by)

    -- a read failed, or a write beside the disk
    pub ends_unread : {T K : Type 0} (k : sink.Ghosts K) (sink_old sink_new : K) (line : List ℕ)
        (result : Result T Halt) (ending : Ending) → HaltsByRead result → Finishes k sink_old sink_new line ReaderFault ending
        → LeadsTo g IsStored Shown IsStopped old new s behind result
        → DiskEnds g IsStored Shown IsStopped ⊥ ⊥ old new (record { ending = ending; first = s; answered = []; most = behind })
    ends_unread k sink_old sink_new line result ending by finishes carries =
        let held = carries.short (read_beside result by) in
        ends_within g watched IsStored Shown IsStopped shown_stays stored_exactly old new ending s behind
        carries.through carries.tells (λ sound. inl held) (λ out. held)
        (λ whole. absurd (or_cut k sink_old sink_new line ReaderFault ending
        (λ (e : Ending). IsBetweenLines (culprit_of e) → ⊥) finishes (λ never. never) (λ never. never) whole))
        (λ cuts. absurd (or_cut k sink_old sink_new line ReaderFault ending (λ (e : Ending). CutsAnswer e → ⊥) finishes
        (λ e. cc) (λ e. cc) cuts))
        (λ it. held)
        (λ fault. absurd (or_cut k sink_old sink_new line ReaderFault ending
        (λ (e : Ending). culprit_of e ≡ TheDisk → ⊥) finishes (λ e. cc) (λ e. cc) fault))
