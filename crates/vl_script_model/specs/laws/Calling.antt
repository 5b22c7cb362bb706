-- A run over every disk: at its begin, behind a line, and where it ends.
use Rattle.std.proofs.Common.{append_assoc, append-nil, ⊎_elim, ◌≡◌, ◌≢◌, ◌⊎◌, ℕ, List, [], ◌∷◌, ◌++◌, refl, sym, ◌∙◌, ap, subst, inl, inr}
use Rattle.std.proofs.lemmas.Grind.{flat_map-append}
use Rattle.std.specs.List.{flat_map}
use Rattle.std.specs.Prelude.{Option, Some, None, Ok, Err, unwrap_or}
use Rattle.vl_disk.specs.Faults.{Rose}
use Rattle.vl_disk.specs.declared.name.Name.{Name}
use Rattle.vl_io.specs.Sink.{Takes}
use Rattle.vl_io.specs.declared.sink.Sink as sink
use Rattle.vl_script.specs.Script.{line_of, lines_of, text_of}
use Rattle.vl_script.specs.declared.answer.Answer.{Answer}
use Rattle.vl_script.specs.declared.line.Line.{Line}
use Rattle.vl_script.specs.declared.next.Next.TheVariants.{Line as WholeLine, LastLine}
use Rattle.vl_script_model.specs.Called.{Answering, AreAnswered, CallsOn, EndsBehind, EndsBy, EndsText, HaltsAsLine, HasCalled, IsApart, RunsAsCalled}
use Rattle.vl_script_model.specs.Endings.{CountsFaultsOf, TheSink, ending_at, line_at}
use Rattle.vl_script_model.specs.Input.{ReadsLine}
use Rattle.vl_script_model.specs.declared.ending.Ending.{Ending}
use Rattle.vl_script_model.specs.Runs.{IsFront}
use Rattle.vl_script_model.specs.Steps.{Finishes}
use Rattle.vl_script_model.specs.declared.ending.Ending.TheVariants.{AnswerCut, Complete, Damaged, DiskFault, NoMemory, ReaderFault}
use Rattle.vl_script_model.specs.declared.ending.Ending.TheVariants.{Stopped, WriteFault}
use Rattle.vl_script_model.specs.declared.ending.OnFault.TheVariants.{Report, Stop}
use Rattle.vl_script_model.specs.declared.ending.OnFault.{OnFault}
use Rattle.vl_script_model.specs.declared.fails.Halt.TheVariants as halts
use Rattle.vl_script_model.specs.declared.fails.Halt.{Halt}
use Rattle.vl_script_model.specs.laws.Ends.{or_cut, takes_both, takes_nothing}
use Rattle.vl_script_model.specs.laws.ReadLines.{lines_of-ended, lines_of-unended}

answers_and_one : (answers : List Answer) (answer : Answer)
    → flat_map text_of answers ++ text_of answer ≡ flat_map text_of (answers ++ (answer ∷ []))
answers_and_one answers answer =
    ap (λ (l : List ℕ). flat_map text_of answers ++ l) (sym (append-nil (text_of answer)))
    ∙ sym (flat_map-append text_of answers (answer ∷ []))

-- where a step didn't end the run, the sink counted no fault
pub no_fault_on : (result : Option Ending) (before now : ℕ) → CountsFaultsOf TheSink result before now → result ≡ None → now ≡ before
no_fault_on None before now counts on = counts.steady (λ by. cc) (λ by. cc)
no_fault_on (Some ending) before now counts on = absurd cc

module _ {X : Type 0} (called : (old new : X) → Answering) where
  -- one line more was answered
  one_more : (first last next : X) (texts : List (List ℕ)) (answers : List Answer) (text : List ℕ) (line : Line) (answer : Answer)
      → AreAnswered called first last texts answers → line_of text ≡ Some line → called last next line (Ok answer)
      → AreAnswered called first next (texts ++ (text ∷ [])) (answers ++ (answer ∷ []))
  one_more first last next [] [] text line answer same is so =
      (line, next, is, subst (λ (x : X). called x next line (Ok answer)) same so, refl)
  one_more first last next [] (a ∷ answers) text line answer never is so = absurd never
  one_more first last next (t ∷ texts) [] text line answer never is so = absurd never
  one_more first last next (t ∷ texts) (a ∷ answers) text line answer (before, mid, there, was, later) is so =
      (before, mid, there, was, one_more mid last next texts answers text line answer later is so)

  module _ {K : Type 0} (k : sink.Ghosts K) (on_fault : OnFault) (first : X) (left : Option (List ℕ)) (begin : K) where
    -- nothing was read yet
    pub calls_none : HasCalled called k first first left left [] begin begin
    calls_none = record {
      texts = [];
      answers = [];
      answered = refl;
      taken = takes_nothing (k.held begin);
      steady = refl;
      of_input = λ input told. (input, told, refl);
    }

    -- no line was carried out, and none was before
    pub ends_unbegun : (new : K) (ending : Ending) → IsApart ending → RunsAsCalled called k on_fault first left begin new ending
    ends_unbegun new ending apart = record {
      texts = [];
      answers = [];
      last = first;
      answered = refl;
      mid = begin;
      taken = takes_nothing (k.held begin);
      steady = refl;
      at = None;
      ends = apart;
      of_input = λ input told. (lines_of input, refl);
    }

    module _ (last : X) (now : Option (List ℕ)) (buffer : List ℕ) (mid : K) (h : HasCalled called k first last left now buffer begin mid) where
      -- it ended before a line was carried out
      pub ends_apart : (new : K) (ending : Ending) → IsApart ending → RunsAsCalled called k on_fault first left begin new ending
      ends_apart new ending apart = record {
        texts = h.texts;
        answers = h.answers;
        last = last;
        answered = h.answered;
        mid = mid;
        taken = h.taken;
        steady = h.steady;
        at = None;
        ends = apart;
        of_input = λ input told. let (rest, is, lines) = h.of_input input told in (lines_of (buffer ++ rest), lines);
      }

      module _ (text : List ℕ) (next : X) (new : K) where
        -- it ended at this text, which is the next line,
        ends_at : (ending : Ending) → ((rest : List ℕ) → now ≡ Some rest → (later : List (List ℕ)) × (lines_of (buffer ++ rest) ≡ text ∷ later))
            → EndsText k on_fault (called last next) text mid new (Some ending) → RunsAsCalled called k on_fault first left begin new ending
        ends_at ending reads (inl apart) = ends_apart new ending apart
        ends_at ending reads (inr ends) = record {
          texts = h.texts;
          answers = h.answers;
          last = last;
          answered = h.answered;
          mid = mid;
          taken = h.taken;
          steady = h.steady;
          at = Some text;
          ends = (next, ends);
          of_input = λ input told.
              let (rest, is, lines) = h.of_input input told in
              let (later, front) = reads rest is in
              (later, lines ∙ ap (λ (l : List (List ℕ)). h.texts ++ l) front);
        }

        -- or this text was answered
        answered_too : (now' : Option (List ℕ)) (buffer' : List ℕ) → k.faults new ≡ k.faults mid
            → ((rest : List ℕ) → now ≡ Some rest
            → (rest' : List ℕ) × (now' ≡ Some rest') × (lines_of (buffer ++ rest) ≡ text ∷ lines_of (buffer' ++ rest')))
            → EndsText k on_fault (called last next) text mid new None → HasCalled called k first next left now' buffer' begin new
        answered_too now' buffer' steady reads (line, answer, is, so, took) = record {
          texts = h.texts ++ (text ∷ []);
          answers = h.answers ++ (answer ∷ []);
          answered = one_more first last next h.texts h.answers text line answer h.answered is so;
          taken = subst (λ (p : List ℕ). Takes (k.held begin) (k.held new) p) (answers_and_one h.answers answer)
              (takes_both (k.held begin) (k.held mid) (k.held new) (flat_map text_of h.answers) (text_of answer) h.taken took);
          steady = steady ∙ h.steady;
          of_input = λ input told.
              let (rest, there, lines) = h.of_input input told in
              let (rest', left_is, front) = reads rest there in (
                rest',
                left_is,
                lines ∙ ap (λ (l : List (List ℕ)). h.texts ++ l) front
                    ∙ sym (append_assoc h.texts (text ∷ []) (lines_of (buffer' ++ rest'))),
              );
        }

      -- A line that was read with its end was answered, or the run ended there.
      pub calls_line : (text : List ℕ) (next : X) (new : K) (now' : Option (List ℕ)) (buffer' : List ℕ) (result : Option Ending)
          → (result ≡ None → k.faults new ≡ k.faults mid)
          → ((rest : List ℕ) → now ≡ Some rest → ReadsLine WholeLine (buffer ++ rest) text buffer' now')
          → EndsText k on_fault (called last next) text mid new result
          → CallsOn called k on_fault first next left now' buffer' begin new result
      calls_line text next new now' buffer' None steady reads ends = answered_too text next new now' buffer' (steady refl)
          (λ rest is. let (rest', left_is, parts, unended) = reads rest is in
          (rest', left_is, ap lines_of parts ∙ lines_of-ended text (buffer' ++ rest') unended)) ends
      calls_line text next new now' buffer' (Some ending) steady reads ends = ends_at text next new ending
          (λ rest is. let (rest', left_is, parts, unended) = reads rest is in
          (lines_of (buffer' ++ rest'), ap lines_of parts ∙ lines_of-ended text (buffer' ++ rest') unended)) ends

      -- So it is with the last one, behind which the run is complete.
      pub calls_last : (text : List ℕ) (next : X) (new : K) (now' : Option (List ℕ)) (buffer' : List ℕ) (result : Option Ending)
          → (result ≡ None → k.faults new ≡ k.faults mid)
          → ((rest : List ℕ) → now ≡ Some rest → ReadsLine LastLine (buffer ++ rest) text buffer' now')
          → EndsText k on_fault (called last next) text mid new result
          → RunsAsCalled called k on_fault first left begin new (unwrap_or result Complete)
      calls_last text next new now' buffer' None steady reads (line, answer, is, so, took) = record {
        texts = h.texts ++ (text ∷ []);
        answers = h.answers ++ (answer ∷ []);
        last = next;
        answered = one_more first last next h.texts h.answers text line answer h.answered is so;
        mid = new;
        taken = subst (λ (p : List ℕ). Takes (k.held begin) (k.held new) p) (answers_and_one h.answers answer)
            (takes_both (k.held begin) (k.held mid) (k.held new) (flat_map text_of h.answers) (text_of answer) h.taken took);
        steady = steady refl ∙ h.steady;
        at = None;
        ends = tt;
        of_input = λ input told.
            let (rest, there, lines) = h.of_input input told in
            let (left_is, parts, unended, some) = reads rest there in (
              [],
              lines ∙ ap (λ (l : List (List ℕ)). h.texts ++ l) (ap lines_of parts ∙ lines_of-unended text unended some)
                  ∙ sym (append-nil (h.texts ++ (text ∷ []))),
            );
      }
      calls_last text next new now' buffer' (Some ending) steady reads ends = ends_at text next new ending
          (λ rest is. let (left_is, parts, unended, some) = reads rest is in ([], ap lines_of parts ∙ lines_of-unended text unended some)) ends

-- ---- what an ending says of the last call

module _ {X K : Type 0} (called : (old new : X) → Answering) (k : sink.Ghosts K) (first : X) (left : Option (List ℕ)) (old new : K) where
  -- the line of this text was halted so, behind what answered the lines before
  abbrev pub HaltedAt : Halt → Type 0
  HaltedAt halt = (text : List ℕ) × (line : Line) × (last : X) × (next : X) × (line_of text ≡ Some line) × called last next line (Err halt)

  not_by : (line : List ℕ) (mid : K) (ending result : Ending) {P : Type 0} → (ending ≢ result) → (WriteFault ≢ result)
      → Finishes k mid new line ending result → P
  not_by line mid ending result {P} other cut finishes = absurd
      (or_cut k mid new line ending result (λ (e : Ending). e ≢ result) finishes other cut refl)

  -- A run that ended by damage ended by that which its last call gave.
  pub ended_by_damage : (on_fault : OnFault) (name : Name) (place : ℕ)
      → RunsAsCalled called k on_fault first left old new (Damaged name place) → HaltedAt (halts.Damaged name place)
  ended_by_damage on_fault name place run = behind run.at run.ends
    where
      its : (text : List ℕ) (next : X) (halt : Halt) → HaltsAsLine (called run.last next) text halt → halt ≡ halts.Damaged name place
          → HaltedAt (halts.Damaged name place)
      its text next halt (inl out) is = absurd cc
      its text next halt (inr (line, at, so)) is =
          (text, line, run.last, next, at, subst (λ (h : Halt). called run.last next line (Err h)) is so)

      same : (n : Name) (p : ℕ) → ◌≡◌ {A = Ending} (Damaged name place) (Damaged n p) → halts.Damaged n p ≡ halts.Damaged name place
      same n p e = cc

      by : (text : List ℕ) (next : X) (halt : Halt) → HaltsAsLine (called run.last next) text halt
          → EndsBy k on_fault run.mid new halt (Damaged name place) → HaltedAt (halts.Damaged name place)
      by text next halts.NoMemory so (line, own, finishes) = not_by line run.mid NoMemory (Damaged name place) (λ e. cc) (λ e. cc) finishes
      by text next (halts.Disk n) so finishes = at_fault on_fault finishes
        where
          at_fault : (f : OnFault) → Finishes k run.mid new (line_at f) (ending_at f) (Damaged name place)
              → HaltedAt (halts.Damaged name place)
          at_fault Report finishes = not_by _ run.mid DiskFault (Damaged name place) (λ e. cc) (λ e. cc) finishes
          at_fault Stop finishes = not_by _ run.mid Stopped (Damaged name place) (λ e. cc) (λ e. cc) finishes
      by text next (halts.Read n) so (line, own, finishes) =
          not_by line run.mid ReaderFault (Damaged name place) (λ e. cc) (λ e. cc) finishes
      by text next (halts.Halted n) so (line, own, finishes) =
          not_by line run.mid ReaderFault (Damaged name place) (λ e. cc) (λ e. cc) finishes
      by text next (halts.Damaged n p) so (inl (line, own, finishes)) = ⊎_elim
          (λ (whole : (◌≡◌ {A = Ending} (Damaged name place) (Damaged n p)) × (finishes.printed ≡ line) × (k.faults new ≡ k.faults run.mid)).
          its text next (halts.Damaged n p) so (same n p whole.0))
          (λ (cut : (Damaged name place ≡ WriteFault) × IsFront finishes.printed line × Rose (k.faults run.mid) (k.faults new)).
          absurd (not_cut cut.0))
          finishes.how
        where
          not_cut : ◌≡◌ {A = Ending} (Damaged name place) WriteFault → ⊥
          not_cut e = cc
      by text next (halts.Damaged n p) so (inr (line, own, finishes)) =
          not_by line run.mid NoMemory (Damaged name place) (λ e. cc) (λ e. cc) finishes

      behind : (at : Option (List ℕ)) → EndsBehind called k on_fault run.last at run.mid new (Damaged name place)
          → HaltedAt (halts.Damaged name place)
      behind None apart = absurd apart
      behind (Some text) (next, inl cut) = absurd (not_cut cut.0)
        where
          not_cut : ◌≡◌ {A = Ending} (Damaged name place) AnswerCut → ⊥
          not_cut e = cc
      behind (Some text) (next, inr (halt, so, ends)) = by text next halt so ends

  -- One that ended by the disk's fault, or by a fault beside it, ended by one that its last call gave, and never by damage.
  pub ended_by_disk : RunsAsCalled called k Report first left old new DiskFault → (name : Name) × HaltedAt (halts.Disk name)
  ended_by_disk run = behind run.at run.ends
    where
      its : (text : List ℕ) (next : X) (name : Name) → HaltsAsLine (called run.last next) text (halts.Disk name)
          → (name : Name) × HaltedAt (halts.Disk name)
      its text next name (inl out) = absurd cc
      its text next name (inr (line, at, so)) = (name, (text, line, run.last, next, at, so))

      by : (text : List ℕ) (next : X) (halt : Halt) → HaltsAsLine (called run.last next) text halt
          → EndsBy k Report run.mid new halt DiskFault → (name : Name) × HaltedAt (halts.Disk name)
      by text next halts.NoMemory so (line, own, finishes) = not_by line run.mid NoMemory DiskFault (λ e. cc) (λ e. cc) finishes
      by text next (halts.Disk n) so finishes = its text next n so
      by text next (halts.Read n) so (line, own, finishes) = not_by line run.mid ReaderFault DiskFault (λ e. cc) (λ e. cc) finishes
      by text next (halts.Halted n) so (line, own, finishes) = not_by line run.mid ReaderFault DiskFault (λ e. cc) (λ e. cc) finishes
      by text next (halts.Damaged n p) so (inl (line, own, finishes)) =
          not_by line run.mid (Damaged n p) DiskFault (λ e. cc) (λ e. cc) finishes
      by text next (halts.Damaged n p) so (inr (line, own, finishes)) =
          not_by line run.mid NoMemory DiskFault (λ e. cc) (λ e. cc) finishes

      behind : (at : Option (List ℕ)) → EndsBehind called k Report run.last at run.mid new DiskFault
          → (name : Name) × HaltedAt (halts.Disk name)
      behind None apart = absurd apart
      behind (Some text) (next, inl cut) = absurd (not_cut cut.0)
        where
          not_cut : ◌≡◌ {A = Ending} DiskFault AnswerCut → ⊥
          not_cut e = cc
      behind (Some text) (next, inr (halt, so, ends)) = by text next halt so ends

  pub ended_by_reader : RunsAsCalled called k Report first left old new ReaderFault
      → (name : Name) × (HaltedAt (halts.Read name) ⊎ HaltedAt (halts.Halted name))
  ended_by_reader run = behind run.at run.ends
    where
      its : (text : List ℕ) (next : X) (name : Name) → HaltsAsLine (called run.last next) text (halts.Read name)
          → (name : Name) × (HaltedAt (halts.Read name) ⊎ HaltedAt (halts.Halted name))
      its text next name (inl out) = absurd cc
      its text next name (inr (line, at, so)) = (name, inl (text, line, run.last, next, at, so))

      before : (text : List ℕ) (next : X) (name : Name) → HaltsAsLine (called run.last next) text (halts.Halted name)
          → (name : Name) × (HaltedAt (halts.Read name) ⊎ HaltedAt (halts.Halted name))
      before text next name (inl out) = absurd cc
      before text next name (inr (line, at, so)) = (name, inr (text, line, run.last, next, at, so))

      by : (text : List ℕ) (next : X) (halt : Halt) → HaltsAsLine (called run.last next) text halt
          → EndsBy k Report run.mid new halt ReaderFault → (name : Name) × (HaltedAt (halts.Read name) ⊎ HaltedAt (halts.Halted name))
      by text next halts.NoMemory so (line, own, finishes) = not_by line run.mid NoMemory ReaderFault (λ e. cc) (λ e. cc) finishes
      by text next (halts.Disk n) so finishes = not_by _ run.mid DiskFault ReaderFault (λ e. cc) (λ e. cc) finishes
      by text next (halts.Read n) so ends = its text next n so
      by text next (halts.Halted n) so ends = before text next n so
      by text next (halts.Damaged n p) so (inl (line, own, finishes)) =
          not_by line run.mid (Damaged n p) ReaderFault (λ e. cc) (λ e. cc) finishes
      by text next (halts.Damaged n p) so (inr (line, own, finishes)) =
          not_by line run.mid NoMemory ReaderFault (λ e. cc) (λ e. cc) finishes

      behind : (at : Option (List ℕ)) → EndsBehind called k Report run.last at run.mid new ReaderFault
          → (name : Name) × (HaltedAt (halts.Read name) ⊎ HaltedAt (halts.Halted name))
      behind None apart = absurd apart
      behind (Some text) (next, inl cut) = absurd (not_cut cut.0)
        where
          not_cut : ◌≡◌ {A = Ending} ReaderFault AnswerCut → ⊥
          not_cut e = cc
      behind (Some text) (next, inr (halt, so, ends)) = by text next halt so ends
