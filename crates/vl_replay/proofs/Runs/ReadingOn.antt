-- What a run tells of its input whatever its disk is: at its begin, behind a line, and where it ends.
use Rattle.std.proofs.Common.{append_assoc, append-nil, length-append, ⊎_elim, ◌≡◌, ◌≢◌, ◌+◌, ◌<◌, ℕ, suc, Bool, true}
use Rattle.std.proofs.Common.{false, cond, List, [], ◌∷◌, ◌++◌, length, refl, sym, ◌∙◌, ap, subst, arith}
use Rattle.std.proofs.lemmas.Grind.{flat_map-append}
use Rattle.std.proofs.lemmas.Bool.Decides.{nat_tests}
use Rattle.vl_disk.specs.Faults.{Rose}
use Rattle.vl_script_model.specs.Runs.{IsFront}
use Rattle.std.specs.List.{flat_map, AllByRecursion}
use Rattle.std.specs.Prelude.{Option, Some, None, unwrap_or, nat_le}
use Rattle.vl_io.specs.declared.sink.Sink as sink
use Rattle.vl_io.specs.Sink.{Takes}
use Rattle.vl_recover.specs.declared.fails.OpenError.{OpenError}
use Rattle.vl_script.specs.Script.{lines_of, text_of, longest_line}
use Rattle.vl_script.specs.declared.answer.Answer.{Answer}
use Rattle.vl_script_model.specs.Exchanges.{KeepsUp, ended_lines}
use Rattle.vl_disk.specs.declared.name.Name.{Name}
use Rattle.vl_script_model.specs.Endings.{bad_line, damage_line, disk_fault_line, line_number}
use Rattle.vl_script_model.specs.Input.{ReadsLine}
use Rattle.vl_script_model.specs.Opening.{ending_unopened}
use Rattle.vl_script_model.specs.Reading.{IsLine, IsNoLine, Streams, TakesAnswers, TakesSome, BeginsBadly, BeginsWell}
use Rattle.vl_script_model.specs.Reading.{ReadsInput, HasRead, ReadsOn, EndsBadly, AnswersText}
use Rattle.vl_script_model.specs.Steps.{EndsAtDamage, Finishes, FinishesBy}
use Rattle.vl_script_model.specs.declared.ending.Ending.{Ending}
use Rattle.vl_script_model.specs.declared.ending.Ending.TheVariants.{Complete, BadLine, Damaged, NoMemory, ReaderFault, WriteFault}
use Rattle.vl_script.specs.declared.next.Next.TheVariants.{Line as WholeLine, LastLine, TooLong}
use Rattle.vl_script_model.specs.laws.Ends.{ended_lines-line, keeps_up_after, takes_both, takes_nothing, or_cut}
use Rattle.vl_script_model.specs.laws.ReadLines.{lines_of-ended, lines_of-unended}
use Rattle.vl_replay.proofs.Runs.OpenedRuns.{of_unopened}

-- ---- endings

-- neither complete, nor at a bad line, nor at damage or a failed read
abbrev pub IsOtherwise : Ending → Type 0
IsOtherwise ending = (ending ≢ Complete) × (ending ≢ BadLine)
    × ((name : Name) (place : ℕ) → ending ≢ Damaged name place) × (ending ≢ ReaderFault)

pub ends_otherwise : (by met : Type 0) (count : ℕ) (ending : Ending) (held held' : Option (List ℕ))
    → TakesSome held held' → IsOtherwise ending → EndsBadly by met count ending held held'
ends_otherwise by met count ending held held' taken other = record {
  some = taken;
  incomplete = other.0;
  bad = λ bad. absurd (other.1 bad);
  damaged = λ name place is. absurd (other.2 name place is);
  unread = λ is. absurd (other.3 is);
}

-- a last line that couldn't be put is none of them
pub cut_otherwise : IsOtherwise WriteFault
cut_otherwise = (λ e. cc, λ e. cc, λ name place e. cc, λ e. cc)

pub finished_otherwise : {K : Type 0} (g : sink.Ghosts K) (old new : K) (line : List ℕ) (ending result : Ending)
    → IsOtherwise ending → Finishes g old new line ending result → IsOtherwise result
finished_otherwise g old new line ending result other finishes = or_cut g old new line ending result IsOtherwise
    finishes other cut_otherwise

-- by a last line that is of something else
pub finishes_otherwise : {K : Type 0} (g : sink.Ghosts K) (old new : K) (line : List ℕ) (ending result : Ending)
    (by met : Type 0) (count : ℕ) → IsOtherwise ending
    → Finishes g old new line ending result → EndsBadly by met count result (g.held old) (g.held new)
finishes_otherwise g old new line ending result by met count other finishes =
    ends_otherwise by met count result (g.held old) (g.held new) (finishes.printed, finishes.taken)
    (finished_otherwise g old new line ending result other finishes)

bad_is_not_complete : BadLine ≢ Complete
bad_is_not_complete e = cc

cut_is_not_bad : WriteFault ≢ BadLine
cut_is_not_bad e = cc

complete_is_not_damage : (name : Name) (place : ℕ) → Complete ≢ Damaged name place
complete_is_not_damage name place e = cc

complete_is_read : Complete ≢ ReaderFault
complete_is_read e = cc

-- by the bad line
pub finishes_badly : {K : Type 0} (g : sink.Ghosts K) (old new : K) (line : List ℕ) (result : Ending) (count : ℕ)
    → ((before : ℕ) → count ≡ line_number before → line ≡ bad_line (before + 1))
    → Finishes g old new line BadLine result → EndsBadly (Unit {0}) ⊥ count result (g.held old) (g.held new)
finishes_badly g old new line result count text finishes = record {
  some = (finishes.printed, finishes.taken);
  incomplete = or_cut g old new line BadLine result (λ (e : Ending). e ≢ Complete) finishes bad_is_not_complete (λ e. cc);
  bad = λ bad. (
    tt,
    λ before counted. ⊎_elim
        (λ (whole : (result ≡ BadLine) × (finishes.printed ≡ line) × (g.faults new ≡ g.faults old)).
        subst (λ (p : List ℕ). Takes (g.held old) (g.held new) p) (whole.1 ∙ text before counted) finishes.taken)
        (λ (cut : (result ≡ WriteFault) × IsFront finishes.printed line × Rose (g.faults old) (g.faults new)). absurd
        (cut_is_not_bad (sym cut.0 ∙ bad)))
        finishes.how,
  );
  damaged = λ name place is. absurd
      (or_cut g old new line BadLine result (λ (e : Ending). e ≢ Damaged name place) finishes (λ e. cc) (λ e. cc) is);
  unread = λ is. absurd (or_cut g old new line BadLine result (λ (e : Ending). e ≢ ReaderFault) finishes (λ e. cc) (λ e. cc) is);
}

-- by damage
same_name : (m n : Name) (x y : ℕ) → Damaged m x ≡ Damaged n y → (m ≡ n) × (x ≡ y)
same_name m n x y e = (cc, cc)

some_line : (a b : List ℕ) → Some a ≡ Some b → a ≡ b
some_line a b e = cc

pub finishes_damaged : {K : Type 0} (g : sink.Ghosts K) (old new : K) (name : Name) (place : ℕ) (result : Ending)
    (by met : Type 0) (count : ℕ) → met
    → EndsAtDamage g old new name place result → EndsBadly by met count result (g.held old) (g.held new)
finishes_damaged g old new name place result by met count reason ends = ⊎_elim at_damage
    (λ (out : FinishesBy g old new NoMemory result). finishes_otherwise g old new out.0 NoMemory result by met count
    (λ e. cc, λ e. cc, λ n x e. cc, λ e. cc) out.2)
    ends
  where
    cut_is_not_damage : (n : Name) (x : ℕ) → WriteFault ≢ Damaged n x
    cut_is_not_damage n x e = cc

    at_damage : FinishesBy g old new (Damaged name place) result → EndsBadly by met count result (g.held old) (g.held new)
    at_damage (line, own, finishes) = record {
      some = (finishes.printed, finishes.taken);
      incomplete = or_cut g old new line (Damaged name place) result (λ (e : Ending). e ≢ Complete) finishes (λ e. cc) (λ e. cc);
      bad = λ bad. absurd (or_cut g old new line (Damaged name place) result (λ (e : Ending). e ≢ BadLine) finishes
          (λ e. cc) (λ e. cc) bad);
      damaged = λ n x is. (
        reason,
        ⊎_elim
            (λ (whole : (result ≡ Damaged name place) × (finishes.printed ≡ line) × (g.faults new ≡ g.faults old)).
            let same = same_name name n place x (sym whole.0 ∙ is) in
            subst (λ (p : List ℕ). Takes (g.held old) (g.held new) p)
            (whole.1 ∙ sym (some_line (damage_line name place) line own) ∙ ap (λ (m : Name). damage_line m place) same.0
            ∙ ap (damage_line n) same.1) finishes.taken)
            (λ (cut : (result ≡ WriteFault) × IsFront finishes.printed line × Rose (g.faults old) (g.faults new)).
            absurd (cut_is_not_damage n x (sym cut.0 ∙ is)))
            finishes.how,
      );
      unread = λ is. absurd (or_cut g old new line (Damaged name place) result (λ (e : Ending). e ≢ ReaderFault)
          finishes (λ e. cc) (λ e. cc) is);
    }

-- by a read that failed
pub finishes_unread : {K : Type 0} (g : sink.Ghosts K) (old new : K) (result : Ending) (by met : Type 0) (count : ℕ) → met
    → Finishes g old new disk_fault_line ReaderFault result → EndsBadly by met count result (g.held old) (g.held new)
finishes_unread g old new result by met count reason finishes = record {
  some = (finishes.printed, finishes.taken);
  incomplete = or_cut g old new disk_fault_line ReaderFault result (λ (e : Ending). e ≢ Complete) finishes (λ e. cc) (λ e. cc);
  bad = λ bad. absurd (or_cut g old new disk_fault_line ReaderFault result (λ (e : Ending). e ≢ BadLine) finishes (λ e. cc) (λ e. cc) bad);
  damaged = λ name place is. absurd
      (or_cut g old new disk_fault_line ReaderFault result (λ (e : Ending). e ≢ Damaged name place) finishes (λ e. cc) (λ e. cc) is);
  unread = λ is. (
    reason,
    ⊎_elim
        (λ (whole : (result ≡ ReaderFault) × (finishes.printed ≡ disk_fault_line) × (g.faults new ≡ g.faults old)).
        subst (λ (p : List ℕ). Takes (g.held old) (g.held new) p) whole.1 finishes.taken)
        (λ (cut : (result ≡ WriteFault) × IsFront finishes.printed disk_fault_line × Rose (g.faults old) (g.faults new)).
        absurd (cut_is_not_unread (sym cut.0 ∙ is)))
        finishes.how,
  );
}
  where
    cut_is_not_unread : WriteFault ≢ ReaderFault
    cut_is_not_unread e = cc

-- a text that is none of the language has another reason as well
pub ends_for : (by by' met met' : Type 0) (count : ℕ) (ending : Ending) (held held' : Option (List ℕ)) → (by → by')
    → (met → met') → EndsBadly by met count ending held held' → EndsBadly by' met' count ending held held'
ends_for by by' met met' count ending held held' reason meets ends = record {
  some = ends.some;
  incomplete = ends.incomplete;
  bad = λ is. let it = ends.bad is in (reason it.0, it.1);
  damaged = λ name place is. let it = ends.damaged name place is in (meets it.0, it.1);
  unread = λ is. let it = ends.unread is in (meets it.0, it.1);
}

chosen_false : {A : Type 0} (b : Bool) (x y : A) → b ≡ false → cond b x y ≡ y
chosen_false true x y e = absurd (cc)
chosen_false false x y e = refl

-- a line that is too long is none of the language
pub too_long_is_none : (text : List ℕ) → longest_line < length text → IsNoLine text
too_long_is_none text long = chosen_false (nat_le (length text) longest_line) _ None (grind (arith, nat_tests))

-- what was read of a line is too long
pub ends_at_long : (had line buffer : List ℕ) (left : Option (List ℕ)) (count : ℕ) (ending : Ending)
    (held held' : Option (List ℕ)) → ReadsLine TooLong had line buffer left → EndsBadly (Unit {0}) ⊥ count ending held held'
    → EndsBadly (BeginsBadly (lines_of had)) (BeginsWell (lines_of had)) count ending held held'
ends_at_long had line buffer left count ending held held' (text, texts, lines, long) ends =
    ends_for (Unit {0}) (BeginsBadly (lines_of had)) ⊥ (BeginsWell (lines_of had)) count ending held held'
    (λ _. (text, texts, lines, too_long_is_none text long)) (λ never. absurd never) ends

-- ---- runs under way

-- nothing was read yet
pub read_nothing : (input : List ℕ) (begin : Streams) → begin.left ≡ Some input → KeepsUp input begin.asked 0
    → HasRead input begin begin [] 0
read_nothing input begin told kept_up = record {
  answered = [];
  of_language = tt;
  count_is = omega arith;
  rest = input;
  left_is = told;
  lines_are = refl;
  ends_are = omega arith;
  answers = [];
  as_many = refl;
  taken = takes_nothing begin.held;
  kept_up = kept_up;
}

-- a run that was never under way
pub reads_nothing : (input : List ℕ) (old new : Streams) (ending : Ending) → TakesSome old.held new.held
    → IsOtherwise ending → KeepsUp input new.asked 0 → ReadsInput input old new ending
reads_nothing input old new ending (piece, taken) other kept_up = record {
  answered = [];
  others = lines_of input;
  lines_are = refl;
  of_language = tt;
  taken = (piece, ([], refl, taken));
  complete = λ is. absurd (other.0 is);
  bad = λ is. absurd (other.1 is);
  damaged = λ name place is. absurd (other.2 name place is);
  unread = λ is. absurd (other.3 is);
  kept_up = kept_up;
}

pub unopened_reads_nothing : {K : Type 0} (g : sink.Ghosts K) (old new : K) (how : OpenError) (result : Ending)
    → FinishesBy g old new (ending_unopened how) result → (input : List ℕ) (begin end : Streams)
    → (TakesSome (g.held old) (g.held new) → TakesSome begin.held end.held)
    → KeepsUp input end.asked 0 → ReadsInput input begin end result
unopened_reads_nothing g old new how result (line, own, finishes) input begin end seen kept_up =
    reads_nothing input begin end result (seen (finishes.printed, finishes.taken))
    (finished_otherwise g old new line (ending_unopened how) result (of_unopened IsOtherwise
    (λ refusal. (λ e. cc, λ e. cc, λ name place e. cc, λ e. cc)) (λ e. cc, λ e. cc, λ name place e. cc, λ e. cc)
    (λ e. cc, λ e. cc, λ name place e. cc, λ e. cc) how) finishes)
    kept_up

all_and_one : (texts : List (List ℕ)) (text : List ℕ) → AllByRecursion IsLine texts → IsLine text
    → AllByRecursion IsLine (texts ++ (text ∷ []))
all_and_one [] text all is = (is, tt)
all_and_one (first ∷ texts) text all is = (all.0, all_and_one texts text all.1 is)

answers_and_one : (answers : List Answer) (answer : Answer)
    → flat_map text_of answers ++ text_of answer ≡ flat_map text_of (answers ++ (answer ∷ []))
answers_and_one answers answer =
    ap (λ (l : List ℕ). flat_map text_of answers ++ l) (sym (append-nil (text_of answer)))
    ∙ sym (flat_map-append text_of answers (answer ∷ []))

module _ (input : List ℕ) (begin old new : Streams) (buffer : List ℕ) (count : ℕ) (h : HasRead input begin old buffer count) where
  abbrev had : List ℕ
  had = buffer ++ h.rest

  abbrev so_many : ℕ
  so_many = length h.answered

  still : KeepsUp had new.asked 0 → KeepsUp input new.asked so_many
  still (earlier, was, le) = let ends = h.ends_are in (earlier, was, omega arith)

  -- the run ended before it answered a line
  pub reads_end : (ending : Ending) → KeepsUp had new.asked 0
      → EndsBadly (BeginsBadly (lines_of had)) (BeginsWell (lines_of had)) count ending old.held new.held
      → ReadsInput input begin new ending
  reads_end ending kept_up ends = let taken = ends.some in record {
    answered = h.answered;
    others = lines_of had;
    lines_are = h.lines_are;
    of_language = h.of_language;
    taken = (taken.0, (h.answers, h.as_many, takes_both begin.held old.held new.held (flat_map text_of h.answers) taken.0 h.taken taken.1));
    complete = λ is. absurd (ends.incomplete is);
    bad = λ is. let bad = ends.bad is in (
      bad.0,
      (
        h.answers,
        h.as_many,
        takes_both begin.held old.held new.held (flat_map text_of h.answers)
            (bad_line (so_many + 1)) h.taken (bad.1 so_many h.count_is),
      ),
    );
    damaged = λ name place is. let met = ends.damaged name place is in (
      met.0,
      (h.answers, h.as_many, takes_both begin.held old.held new.held (flat_map text_of h.answers) (damage_line name place) h.taken met.1),
    );
    unread = λ is. let met = ends.unread is in (
      met.0,
      (h.answers, h.as_many, takes_both begin.held old.held new.held (flat_map text_of h.answers) disk_fault_line h.taken met.1),
    );
    kept_up = still kept_up;
  }

  -- there is no further line
  pub reads_all : had ≡ [] → new.left ≡ Some [] → new.held ≡ old.held → KeepsUp had new.asked 0 → ReadsInput input begin new Complete
  reads_all none told quiet kept_up = record {
    answered = h.answered;
    others = [];
    lines_are = h.lines_are ∙ ap (λ (bytes : List ℕ). h.answered ++ lines_of bytes) none;
    of_language = h.of_language;
    taken = ([], all);
    complete = λ is. (refl, told, all);
    bad = λ is. absurd (bad_is_not_complete (sym is));
    damaged = λ name place is. absurd (complete_is_not_damage name place is);
    unread = λ is. absurd (complete_is_read is);
    kept_up = still kept_up;
  }
    where
      all : TakesAnswers begin.held new.held so_many []
      all = (
        h.answers,
        h.as_many,
        subst (λ (p : List ℕ). Takes begin.held new.held p) (sym (append-nil (flat_map text_of h.answers)))
            (subst (λ (held : Option (List ℕ)). Takes begin.held held (flat_map text_of h.answers)) (sym quiet) h.taken),
      )

  module _ (line : List ℕ) where
    abbrev behind : List (List ℕ)
    behind = h.answered ++ (line ∷ [])

    one_more : length behind ≡ so_many + 1
    one_more = length-append h.answered (line ∷ [])

    abbrev more : Answer → List Answer
    more answer = h.answers ++ (answer ∷ [])

    as_many_more : (answer : Answer) → length (more answer) ≡ length behind
    as_many_more answer = length-append h.answers (answer ∷ []) ∙ ap (λ (n : ℕ). n + 1) h.as_many ∙ sym one_more

    takes_more : (answer : Answer) → Takes old.held new.held (text_of answer) → Takes begin.held new.held (flat_map text_of (more answer))
    takes_more answer taken =
        subst (λ (p : List ℕ). Takes begin.held new.held p) (answers_and_one h.answers answer)
        (takes_both begin.held old.held new.held (flat_map text_of h.answers) (text_of answer) h.taken taken)

    begins_so : (later : List (List ℕ)) (ending : Ending) → lines_of had ≡ line ∷ later
        → EndsBadly (IsNoLine line) (IsLine line) count ending old.held new.held
        → EndsBadly (BeginsBadly (lines_of had)) (BeginsWell (lines_of had)) count ending old.held new.held
    begins_so later ending lines ends = ends_for (IsNoLine line) (BeginsBadly (lines_of had)) (IsLine line)
        (BeginsWell (lines_of had)) count ending old.held new.held
        (λ none. (line, later, lines, none)) (λ is. (line, later, lines, is)) ends

    -- a line that was read with its end was answered, or the run ended there
    pub reads_line : (buffer' : List ℕ) (count' : ℕ) (result : Option Ending)
        → ((before : ℕ) → count ≡ line_number before → count' ≡ line_number (before + 1))
        → ReadsLine WholeLine had line buffer' new.left → AnswersText line count result old.held new.held
        → KeepsUp had new.asked 0 → ReadsOn input begin new buffer' count' result
    reads_line buffer' count' None counted (rest, told, parts, unended) (is, (answer, taken)) kept_up =
        let later = buffer' ++ rest in
        record {
          answered = behind;
          of_language = all_and_one h.answered line h.of_language is;
          count_is = counted so_many h.count_is ∙ ap line_number (sym one_more);
          rest = rest;
          left_is = told;
          lines_are = h.lines_are ∙ ap (λ (ls : List (List ℕ)). h.answered ++ ls)
              (ap lines_of parts ∙ lines_of-ended line later unended) ∙ sym (append_assoc h.answered (line ∷ []) (lines_of later));
          ends_are = let ends = h.ends_are in let ends_had : ended_lines had ≡ suc (ended_lines later) = ap ended_lines
              parts ∙ ended_lines-line line later unended in let n = one_more in omega arith;
          answers = more answer;
          as_many = as_many_more answer;
          taken = takes_more answer taken;
          kept_up = keeps_up_after had line later new.asked parts unended kept_up;
        }
    reads_line buffer' count' (Some ending) counted (rest, told, parts, unended) ends kept_up =
        reads_end ending kept_up
        (begins_so (lines_of (buffer' ++ rest)) ending (ap lines_of parts ∙ lines_of-ended line (buffer' ++ rest) unended) ends)

    -- the last line was answered, and so the run is complete, or it ended there
    pub reads_last : (buffer' : List ℕ) (ended_by : Option Ending) (result : Ending)
        → result ≡ unwrap_or ended_by Complete → ReadsLine LastLine had line buffer' new.left
        → AnswersText line count ended_by old.held new.held → KeepsUp had new.asked 0 → ReadsInput input begin new result
    reads_last buffer' None result r (told, same, unended, some) (is, (answer, taken)) kept_up =
        subst (λ (e : Ending). ReadsInput input begin new e) (sym r) (record {
          answered = behind;
          others = [];
          lines_are = h.lines_are ∙ ap (λ (ls : List (List ℕ)). h.answered ++ ls)
              (ap lines_of same ∙ lines_of-unended line unended some) ∙ sym (append-nil behind);
          of_language = all_and_one h.answered line h.of_language is;
          taken = ([], all);
          complete = λ is_complete. (refl, told, all);
          bad = λ is_bad. absurd (bad_is_not_complete (sym is_bad));
          damaged = λ name place is_damage. absurd (complete_is_not_damage name place is_damage);
          unread = λ is_unread. absurd (complete_is_read is_unread);
          kept_up = still_more (still kept_up);
        })
      where
        all : TakesAnswers begin.held new.held (length behind) []
        all = (
          more answer,
          as_many_more answer,
          subst (λ (p : List ℕ). Takes begin.held new.held p)
              (sym (append-nil (flat_map text_of (more answer)))) (takes_more answer taken),
        )

        still_more : KeepsUp input new.asked so_many → KeepsUp input new.asked (length behind)
        still_more (earlier, was, le) = let n = one_more in (earlier, was, omega arith)
    reads_last buffer' (Some ending) result r (told, same, unended, some) ends kept_up =
        subst (λ (e : Ending). ReadsInput input begin new e) (sym r)
        (reads_end ending kept_up (begins_so [] ending (ap lines_of same ∙ lines_of-unended line unended some) ends))
