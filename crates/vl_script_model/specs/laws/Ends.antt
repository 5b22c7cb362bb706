-- Whole runs: how a run ends at its next line, and how one goes on behind an answered line.
use Rattle.std.proofs.Common.{append_assoc, append-nil, ◌≡◌, ◌≢◌, ◌⊎◌, inl, inr, ⊎_elim, ◌+◌, ◌-◌, ◌^◌, ◌<◌, ℕ, suc}
use Rattle.std.proofs.Common.{min, List, [], ◌∷◌, ◌++◌, length, take, drop, refl, ap, sym, ◌∙◌, Bool, true, false}
use Rattle.std.proofs.Common.{arith, subst, zero-le, one-add, cond}
use Rattle.std.proofs.lemmas.List.{take-append-drop}
use Rattle.std.proofs.lemmas.Bool.{ne_eqb}
use Rattle.std.specs.Prelude.{Option, Some, None, codes, unwrap_or, ◌==◌, nat_le}
use Rattle.std.specs.List.{slice_get}
use Rattle.std.specs.Option.{option_map}
use Rattle.std.specs.Fmt.{decimal}
use Rattle.std.proofs.lemmas.Bool.Decides.{nat_tests}
use Rattle.vl_disk.specs.Faults.{HasCause, Rose}
use Rattle.vl_disk.specs.declared.name.Name.{Name}
use Rattle.vl_io.specs.declared.sink.Sink as sink
use Rattle.vl_io.specs.Sink.{Takes, TakesPrefix}
use Rattle.vl_script.specs.declared.line.Line.{Line as ScriptLine}
use Rattle.vl_script.specs.Script.{longest_line}
use Rattle.vl_script.specs.Script.{lines_of, line_of}
use Rattle.vl_script_model.specs.Sequential.{State, answer_text}
use Rattle.vl_script_model.specs.Input.{HasNoLineEnd}
use Rattle.vl_script_model.specs.Exchanges.{Exchange, exchange_at, exchanged, exchanges_from, and_later, answers_text, ended_lines, KeepsUp}
use Rattle.vl_script_model.specs.Endings.{Culprit, NoOne, TheLine, TheWords, TheDisk, TheReader, TheFiles, TheBytes, Memory}
use Rattle.vl_script_model.specs.Endings.{TheSource, TheSink, LastPiece, NoPiece, BadLinePiece, Line, LineFront}
use Rattle.vl_script_model.specs.Endings.{AnswerFront, CountsFaultsOf, EndsAs, Evidence, CutsAnswer, culprit_of, end_of}
use Rattle.vl_script_model.specs.Endings.{ending_at, last_line, line_at, line_of_piece, line_number, bad_line}
use Rattle.vl_script_model.specs.Failing.{IsTableRead}
use Rattle.vl_script_model.specs.Runs.{Script, exchanges, next_number, IsFront, Stops, Puts, EndsSo}
use Rattle.vl_script_model.specs.Steps.{EndsAtDamage, Finishes, FinishesBy, IsNext, EndsBefore}
use Rattle.vl_script_model.specs.declared.ending.Ending.{Ending}
use Rattle.vl_script_model.specs.declared.ending.Ending.TheVariants.{Complete, Damaged, DiskFault, NoMemory, ReaderFault}
use Rattle.vl_script_model.specs.declared.ending.Ending.TheVariants.{WriteFault, AnswerCut, Stopped}
use Rattle.vl_script_model.specs.declared.ending.OnFault.{OnFault}
use Rattle.vl_script_model.specs.declared.ending.OnFault.TheVariants.{Report, Stop}
use Rattle.vl_script_model.specs.laws.Laws.{ended_lines-cons}
use Rattle.vl_script_model.specs.laws.ReadLines.{lines_of-ended}

-- ---- exchanges

-- the exchanges from a bad line on, and from an answered one
stopped : (o : Option Exchange) (f : Exchange → List Exchange) → o ≡ None → and_later f o ≡ []
stopped None f e = refl
stopped (Some x) f e = absurd (cc)

gone_on : (o : Option Exchange) (f : Exchange → List Exchange) (x : Exchange) → o ≡ Some x → and_later f o ≡ x ∷ f x
gone_on None f x e = absurd (cc)
gone_on (Some y) f x e = ap (λ z. z ∷ f z) (cc)

pub exchanges_from-bad : (s : State) (text : List ℕ) (texts : List (List ℕ)) → exchange_at s text ≡ None
    → exchanges_from s (text ∷ texts) ≡ []
exchanges_from-bad s text texts e = stopped (exchange_at s text) (λ x. exchanges_from x.after texts) e

pub exchanges_from-answered : (s : State) (text : List ℕ) (texts : List (List ℕ)) (x : Exchange)
    → exchange_at s text ≡ Some x → exchanges_from s (text ∷ texts) ≡ x ∷ exchanges_from x.after texts
exchanges_from-answered s text texts x e = gone_on (exchange_at s text) (λ y. exchanges_from y.after texts) x e

pub next_bad : (script : Script) (text : List ℕ) → (next : IsNext script text) → exchange_at script.start text ≡ None
    → exchanges script ≡ []
next_bad script text (texts, lines) bad = ap (exchanges_from script.start) lines ∙ exchanges_from-bad script.start text texts bad

pub next_answered : (script : Script) (text : List ℕ) → (next : IsNext script text) → (e : Exchange)
    → exchange_at script.start text ≡ Some e → exchanges script ≡ e ∷ exchanges_from e.after next.0
next_answered script text (texts, lines) e is = ap (exchanges_from script.start) lines
    ∙ exchanges_from-answered script.start text texts e is

-- the exchange that an answered line is
pub exchange_at-answered : (s : State) (text : List ℕ) (line : ScriptLine) → line_of text ≡ Some line
    → exchange_at s text ≡ Some (exchanged s line)
exchange_at-answered s text line spelled = ap (option_map (exchanged s)) spelled

chosen_false : {A : Type 0} (b : Bool) (x y : A) → b ≡ false → cond b x y ≡ y
chosen_false true x y e = absurd (cc)
chosen_false false x y e = refl

-- a line that is too long is a bad one
pub too_long_is_bad : (s : State) (text : List ℕ) → longest_line < length text → exchange_at s text ≡ None
too_long_is_bad s text long = ap (option_map (exchanged s))
    (chosen_false (nat_le (length text) longest_line) _ None (grind (arith, nat_tests)))

-- ---- what a sink takes

-- nothing more was taken
pub takes_nothing : (held : Option (List ℕ)) → Takes held held []
takes_nothing None = refl
takes_nothing (Some bytes) = sym (append-nil bytes)

-- two pieces were taken, one behind the other
pub takes_both : (held mid held' : Option (List ℕ)) (xs ys : List ℕ) → Takes held mid xs → Takes mid held' ys → Takes held held' (xs ++ ys)
takes_both None None None xs ys t u = u
takes_both None None (Some c) xs ys t u = absurd (cc)
takes_both None (Some b) held' xs ys t u = absurd (cc)
takes_both (Some a) None held' xs ys t u = absurd t
takes_both (Some a) (Some b) None xs ys t u = absurd u
takes_both (Some a) (Some b) (Some c) xs ys t u = u ∙ ap (λ (l : List ℕ). l ++ ys) t ∙ append_assoc a xs ys

-- ---- the run ends at its next line

none_some : {X : Type 0} (x : X) → None ≡ Some x → ⊥
none_some x e = cc

some_same : {X : Type 0} (x y : X) → Some x ≡ Some y → x ≡ y
some_same x y e = cc

-- a line of its own is put where its ending stops the run
own_line : (cause : Culprit → Type 0) (script : Script) (left : Option (List ℕ)) (m : ℕ) (culprit : Culprit)
    (last : LastPiece) (line : List ℕ) → line_of_piece (next_number script m) last ≡ Some line
    → Stops cause script left m culprit → Puts cause script left m culprit last line
own_line cause script left m culprit NoPiece line is stops = absurd (none_some line is)
own_line cause script left m culprit BadLinePiece line is stops = (stops, sym (some_same (bad_line (next_number script m)) line is))
own_line cause script left m culprit (Line other) line is stops = (stops, sym (some_same other line is))
own_line cause script left m culprit LineFront line is stops = absurd (none_some line is)
own_line cause script left m culprit AnswerFront line is stops = absurd (none_some line is)

-- the run ends by its last line, or at it
pub finished : {K : Type 0} (g : sink.Ghosts K) (old new : K) (cause : Culprit → Type 0) (script : Script)
    (left : Option (List ℕ)) (ending result : Ending) (line : List ℕ) → last_line (next_number script 0) ending ≡ Some line
    → Stops cause script left 0 (culprit_of ending) → Finishes g old new line ending result
    → EndsBefore cause script left result (g.held old) (g.held new)
finished g old new cause script left ending result line is stops f = record {
  printed = f.printed;
  taken = f.taken;
  ends = ⊎_elim
      (λ (whole : (result ≡ ending) × (f.printed ≡ line) × (g.faults new ≡ g.faults old)).
      subst (λ (e : Ending). EndsSo cause script left 0 e f.printed) (sym whole.0)
      (subst (λ (p : List ℕ). EndsSo cause script left 0 ending p) (sym whole.1)
      (record {
        within = zero-le;
        piece = line;
        puts = own_line cause script left 0 (culprit_of ending)
            (end_of ending).last line is stops;
        printed_is = refl;
      })))
      (λ (cut : (result ≡ WriteFault) × IsFront f.printed line × Rose (g.faults old) (g.faults new)).
      subst (λ (e : Ending). EndsSo cause script left 0 e f.printed) (sym cut.0)
      (record { within = zero-le; piece = f.printed; puts = (ending, line, is, stops, cut.1); printed_is = refl }))
      f.how;
}

-- it is a bad line
pub bad_line_stops : (cause : Culprit → Type 0) (script : Script) (text : List ℕ) (left : Option (List ℕ))
    → IsNext script text → exchange_at script.start text ≡ None → Stops cause script left 0 TheLine
bad_line_stops cause script text left next bad =
    (sym (ap length (next_bad script text next bad)), let count = ap length next.1 in omega arith)

-- it is a line whose read of a table failed
pub unread_stops : (cause : Culprit → Type 0) (script : Script) (text : List ℕ) (left : Option (List ℕ)) → IsNext script text
    → IsTableRead (exchange_at script.start text) → Stops cause script left 0 TheReader
unread_stops cause script text left next (e, is, reads) =
    (e, ap (λ (es : List Exchange). slice_get es 0) (next_answered script text next e is), reads)

-- what is printed as the bad line, with so many lines answered before it
pub bad_line_text : (answered before number : ℕ) (line : List ℕ) → answered ≡ line_number before
    → number ≡ min (answered + 1) (2 ^ 64 - 1) → line ≡ codes "bad line " ++ decimal number ++ (10 ∷ []) → line ≡ bad_line (before + 0 + 1)
bad_line_text answered before number line e n text =
    let same : number ≡ line_number (before + 0 + 1) = omega arith in
    text ∙ ap (λ (k : ℕ). codes "bad line " ++ decimal k ++ (10 ∷ [])) same

-- the sink failed within an answer
pub answer_cut : (cause : Culprit → Type 0) (script : Script) (text : List ℕ) (left : Option (List ℕ)) (e : Exchange)
    (held held' : Option (List ℕ)) →
    IsNext script text → exchange_at script.start text ≡ Some e → TakesPrefix held held' (answer_text e.answer)
    → EndsBefore cause script left AnswerCut held held'
answer_cut cause script text left e held held' next is part =
    let piece = answer_text e.answer in
    record {
      printed = take part.0 piece;
      taken = part.2;
      ends = record {
        within = zero-le;
        piece = take part.0 piece;
        puts = (
          e,
          ap (λ (es : List Exchange). slice_get es 0) (next_answered script text next e is),
          (drop part.0 piece, sym (take-append-drop part.0 piece)),
        );
        printed_is = refl;
      };
    }

-- ---- how many lines have ended

tested_no : (b : ℕ) → b ≢ 10 → (b == 10) ≡ false
tested_no b other = ne_eqb b 10 other

counted : (t : Bool) (n : ℕ) → t ≡ false → cond t 1 0 + n ≡ n
counted true n e = absurd (cc)
counted false n e = omega arith

-- bytes without a line's end have no whole line
pub ended_lines-none : (bytes : List ℕ) → HasNoLineEnd bytes → ended_lines bytes ≡ 0
ended_lines-none [] h = refl
ended_lines-none (b ∷ bytes) h = ended_lines-cons b bytes ∙ counted (b == 10) (ended_lines bytes) (tested_no b h.0)
    ∙ ended_lines-none bytes h.1

-- a line with its end is one more
pub ended_lines-line : (line rest : List ℕ) → HasNoLineEnd line → ended_lines (line ++ 10 ∷ rest) ≡ suc (ended_lines rest)
ended_lines-line [] rest h = ended_lines-cons 10 rest ∙ one-add (ended_lines rest)
ended_lines-line (b ∷ line) rest h = ended_lines-cons b (line ++ 10 ∷ rest)
    ∙ counted (b == 10) (ended_lines (line ++ 10 ∷ rest)) (tested_no b h.0) ∙ ended_lines-line line rest h.1

ended_lines-unended : (line rest : List ℕ) → HasNoLineEnd line → ended_lines (line ++ rest) ≡ ended_lines rest
ended_lines-unended [] rest h = refl
ended_lines-unended (b ∷ line) rest h = ended_lines-cons b (line ++ rest)
    ∙ counted (b == 10) (ended_lines (line ++ rest)) (tested_no b h.0) ∙ ended_lines-unended line rest h.1

-- a line with its answer comes in front
pub keeps_up_behind : (bytes line rest : List ℕ) (asked : Option (List ℕ)) (m : ℕ) → bytes ≡ line ++ 10 ∷ rest
    → HasNoLineEnd line → KeepsUp rest asked m → KeepsUp bytes asked (suc m)
keeps_up_behind bytes line rest asked m parts unended (earlier, was, le) =
    let n : ended_lines bytes ≡ suc (ended_lines rest) = ap ended_lines parts ∙ ended_lines-line line rest unended in
    (earlier, was, omega arith)

-- no answer is owed behind a line where none was before it
pub keeps_up_after : (bytes line rest : List ℕ) (asked : Option (List ℕ)) → bytes ≡ line ++ 10 ∷ rest
    → HasNoLineEnd line → KeepsUp bytes asked 0 → KeepsUp rest asked 0
keeps_up_after bytes line rest asked parts unended (earlier, was, le) =
    let n : ended_lines bytes ≡ suc (ended_lines rest) = ap ended_lines parts ∙ ended_lines-line line rest unended in
    (earlier, was, omega arith)

-- none is owed where the source is asked within a line
pub keeps_up_within : (bytes line rest : List ℕ) (asked : Option (List ℕ)) → bytes ≡ line ++ rest → HasNoLineEnd line
    → asked ≡ Some rest → KeepsUp bytes asked 0
keeps_up_within bytes line rest asked parts unended was =
    let n : ended_lines bytes ≡ ended_lines rest = ap ended_lines parts ∙ ended_lines-unended line rest unended in
    (rest, was, omega arith)

-- no answer is owed by an answer more
pub keeps_up_more : (bytes : List ℕ) (asked : Option (List ℕ)) (m : ℕ) → KeepsUp bytes asked 0 → KeepsUp bytes asked m
keeps_up_more bytes asked m (earlier, was, le) = (earlier, was, omega arith)

-- ---- a cause that follows from another

module _ (cause cause' : Culprit → Type 0) (weaker : (culprit : Culprit) → cause culprit → cause' culprit)
    (script : Script) (left : Option (List ℕ)) (m : ℕ) where
  stops_weaker : (culprit : Culprit) → Stops cause script left m culprit → Stops cause' script left m culprit
  stops_weaker NoOne h = h
  stops_weaker TheLine h = h
  stops_weaker TheWords h = h
  stops_weaker TheDisk h = weaker TheDisk h
  stops_weaker TheReader h = h
  stops_weaker TheFiles h = h
  stops_weaker (TheBytes name place) h = h
  stops_weaker Memory h = h
  stops_weaker TheSource h = (weaker TheSource h.0, h.1)
  stops_weaker TheSink h = h

  puts_weaker : (culprit : Culprit) (last : LastPiece) (piece : List ℕ) → Puts cause script left m culprit last piece
      → Puts cause' script left m culprit last piece
  puts_weaker culprit NoPiece piece h = (stops_weaker culprit h.0, h.1)
  puts_weaker culprit BadLinePiece piece h = (stops_weaker culprit h.0, h.1)
  puts_weaker culprit (Line line) piece h = (stops_weaker culprit h.0, h.1)
  puts_weaker culprit LineFront piece (other, line, is, stops, front) = (other, line, is, stops_weaker (culprit_of other) stops, front)
  puts_weaker culprit AnswerFront piece h = h

  pub ends_weaker : (ending : Ending) (printed : List ℕ) → EndsSo cause script left m ending printed
      → EndsSo cause' script left m ending printed
  ends_weaker ending printed ends = record {
    within = ends.within;
    piece = ends.piece;
    puts = puts_weaker (culprit_of ending) (end_of ending).last ends.piece ends.puts;
    printed_is = ends.printed_is;
  }

pub evidence_weaker : (A B A' B' : Type 0) → (A → A') → (B → B') → (culprit : Culprit) → Evidence A B culprit → Evidence A' B' culprit
evidence_weaker A B A' B' f g NoOne c = c
evidence_weaker A B A' B' f g TheLine c = c
evidence_weaker A B A' B' f g TheWords c = c
evidence_weaker A B A' B' f g TheDisk c = g c
evidence_weaker A B A' B' f g TheReader c = c
evidence_weaker A B A' B' f g TheFiles c = c
evidence_weaker A B A' B' f g (TheBytes name place) c = c
evidence_weaker A B A' B' f g Memory c = c
evidence_weaker A B A' B' f g TheSource c = f c
evidence_weaker A B A' B' f g TheSink c = c

-- a run that ended without a cause being asked for
pub before_weaker : (by_disk : Type 0) (script : Script) (left : Option (List ℕ)) (ending : Ending)
    (held held' : Option (List ℕ)) → EndsBefore (Evidence ⊥ ⊥) script left ending held held'
    → EndsBefore (Evidence ⊥ by_disk) script left ending held held'
before_weaker by_disk script left ending held held' before = record {
  printed = before.printed;
  taken = before.taken;
  ends = ends_weaker (Evidence ⊥ ⊥) (Evidence ⊥ by_disk)
      (evidence_weaker ⊥ ⊥ ⊥ by_disk (λ never. never) (λ never. absurd never)) script left 0 ending before.printed before.ends;
}

-- ---- one more answer in front

module _ (whole rest : Script) (line : List ℕ) (e : Exchange) (parts : whole.bytes ≡ line ++ 10 ∷ rest.bytes)
    (unended : HasNoLineEnd line) (is : exchange_at whole.start line ≡ Some e)
    (start_is : rest.start ≡ e.after) (before_is : rest.before ≡ whole.before + 1) where
  lines : lines_of whole.bytes ≡ line ∷ lines_of rest.bytes
  lines = ap lines_of parts ∙ lines_of-ended line rest.bytes unended

  pub longer : exchanges whole ≡ e ∷ exchanges rest
  longer =
      ap (exchanges_from whole.start) lines ∙ exchanges_from-answered whole.start line (lines_of rest.bytes) e is
      ∙ ap (λ (s : State). e ∷ exchanges_from s (lines_of rest.bytes)) (sym start_is)

  module _ (cause : Culprit → Type 0) (left : Option (List ℕ)) (m : ℕ) where
    next_is : next_number rest m ≡ next_number whole (suc m)
    next_is = omega (arith, before_is)

    stops_later : (culprit : Culprit) → Stops cause rest left m culprit → Stops cause whole left (suc m) culprit
    stops_later NoOne (at, count, told) = (ap suc at ∙ sym (ap length longer), ap suc count ∙ sym (ap length lines), told)
    stops_later TheLine (at, less) = (ap suc at ∙ sym (ap length longer), let count = ap length lines in omega arith)
    stops_later TheWords h = h
    stops_later TheDisk h = h
    stops_later TheReader (x, there, reads) = (x, ap (λ (es : List Exchange). slice_get es (suc m)) longer ∙ there, reads)
    stops_later TheFiles h = h
    stops_later (TheBytes name place) h = h
    stops_later Memory h = h
    stops_later TheSource (fault, (given, others, split, told, at)) = (
      fault,
      (
        line ++ 10 ∷ given,
        others,
        parts ∙ ap (λ (r : List ℕ). line ++ 10 ∷ r) split ∙ sym (append_assoc line (10 ∷ given) others),
        told,
        ap suc at ∙ sym (ended_lines-line line given unended),
      ),
    )
    stops_later TheSink h = h

    puts_later : (culprit : Culprit) (last : LastPiece) (piece : List ℕ) → Puts cause rest left m culprit last piece
        → Puts cause whole left (suc m) culprit last piece
    puts_later culprit NoPiece piece h = (stops_later culprit h.0, h.1)
    puts_later culprit BadLinePiece piece h = (stops_later culprit h.0, h.1 ∙ ap bad_line next_is)
    puts_later culprit (Line text) piece h = (stops_later culprit h.0, h.1)
    puts_later culprit LineFront piece (other, text, own, stops, front) =
        (other, text, ap (λ (n : ℕ). last_line n other) (sym next_is) ∙ own, stops_later (culprit_of other) stops, front)
    puts_later culprit AnswerFront piece (x, there, front) = (x, ap (λ (es : List Exchange). slice_get es (suc m)) longer ∙ there, front)

    -- a run goes on behind an answered line
    pub goes_on : (ending : Ending) (printed : List ℕ) → EndsSo cause rest left m ending printed
        → EndsSo cause whole left (suc m) ending (answer_text e.answer ++ printed)
    goes_on ending printed ends = record {
      within = let count = ap length longer in let le = ends.within in omega arith;
      piece = ends.piece;
      puts = puts_later (culprit_of ending) (end_of ending).last ends.piece ends.puts;
      printed_is = ap (λ (p : List ℕ). answer_text e.answer ++ p) ends.printed_is
          ∙ sym (append_assoc (answer_text e.answer) (answers_text (take m (exchanges rest))) ends.piece)
          ∙ ap (λ (es : List Exchange). answers_text (take (suc m) es) ++ ends.piece) (sym longer);
    }

-- the input's last line was answered
pub last_answered : (cause : Culprit → Type 0) (script : Script) (text : List ℕ) (left : Option (List ℕ)) (e : Exchange) →
    lines_of script.bytes ≡ text ∷ [] → exchange_at script.start text ≡ Some e → left ≡ Some []
    → EndsSo cause script left 1 Complete (answer_text e.answer)
last_answered cause script text left e lines is told =
    let all : exchanges script ≡ e ∷ [] = next_answered script text ([], lines) e is in
    record {
      within = let count = ap length all in omega arith;
      piece = [];
      puts = ((sym (ap length all), sym (ap length lines), told), refl);
      printed_is = sym (append-nil (answer_text e.answer)) ∙ sym (append-nil (answer_text e.answer ++ []))
          ∙ ap (λ (es : List Exchange). answers_text (take 1 es) ++ []) (sym all);
    }

-- there is no further line
pub none_left : (cause : Culprit → Type 0) (script : Script) (left : Option (List ℕ)) → script.bytes ≡ []
    → left ≡ Some [] → EndsSo cause script left 0 Complete []
none_left cause script left none told = record {
  within = zero-le;
  piece = [];
  puts = (
    (
      sym (ap (λ (bs : List ℕ). length (exchanges_from script.start (lines_of bs))) none),
      sym
          (ap (λ (bs : List ℕ). length (lines_of bs)) none),
      told,
    ),
    refl,
  );
  printed_is = refl;
}

-- ---- what is counted

-- what holds of an ending, and of a line that couldn't be put, holds of the result
pub or_cut : {K : Type 0} (g : sink.Ghosts K) (old new : K) (line : List ℕ) (ending result : Ending)
    (P : Ending → Type 0) → Finishes g old new line ending result → P ending → P WriteFault → P result
or_cut g old new line ending result P f whole cut = ⊎_elim
    (λ (same : (result ≡ ending) × (f.printed ≡ line) × (g.faults new ≡ g.faults old)). subst P (sym same.0) whole)
    (λ (failed : (result ≡ WriteFault) × IsFront f.printed line × Rose (g.faults old) (g.faults new)). subst P (sym failed.0) cut)
    f.how

some_culprit : (c who : Culprit) → Some c ≡ Some who → c ≡ who
some_culprit c who e = cc

-- what holds of both endings where the disk fails
pub at_fault : (P : Ending → Type 0) → P DiskFault → P Stopped → (f : OnFault) → P (ending_at f)
at_fault P report stop Report = report
at_fault P report stop Stop = stop

pub fault_line : (n : ℕ) (f : OnFault) → last_line n (ending_at f) ≡ Some (line_at f)
fault_line n Report = refl
fault_line n Stop = refl

pub fault_stops : (cause : Culprit → Type 0) (script : Script) (left : Option (List ℕ)) (m : ℕ) → cause TheDisk → (f : OnFault)
    → Stops cause script left m (culprit_of (ending_at f))
fault_stops cause script left m by Report = by
fault_stops cause script left m by Stop = by

-- where a run ended at a read that failed, its last line wasn't answered
pub last_unread : (ended : Option Ending) (result : Ending) → result ≡ unwrap_or ended Complete
    → Some result ≡ Some ReaderFault → ended ≡ Some ReaderFault
last_unread None result is by = absurd cc
last_unread (Some ending) result is by = ap Some (sym is) ∙ by

-- a run that ended by its disk did so as it was to
pub ends_as : (f : OnFault) (ending : Ending) → (culprit_of ending ≢ TheDisk) ⊎ (ending ≡ ending_at f) → EndsAs f (Some ending)
ends_as f ending either by = ⊎_elim
    (λ (other : culprit_of ending ≢ TheDisk). absurd (other (some_culprit (culprit_of ending) TheDisk by)))
    (λ (same : ending ≡ ending_at f). ap Some same)
    either

pub otherwise_as : {K : Type 0} (g : sink.Ghosts K) (old new : K) (line : List ℕ) (ending result : Ending) (f : OnFault)
    → culprit_of ending ≢ TheDisk
    → Finishes g old new line ending result → EndsAs f (Some result)
otherwise_as g old new line ending result f other finishes = ends_as f result
    (inl (or_cut g old new line ending result (λ (e : Ending). culprit_of e ≢ TheDisk) finishes other (λ e. cc)))

pub fault_as : {K : Type 0} (g : sink.Ghosts K) (old new : K) (line : List ℕ) (result : Ending) (f : OnFault)
    → Finishes g old new line (ending_at f) result → EndsAs f (Some result)
fault_as g old new line result f finishes = ⊎_elim
    (λ (same : (result ≡ ending_at f) × (finishes.printed ≡ line) × (g.faults new ≡ g.faults old)). ends_as f result (inr same.0))
    (λ (cut : (result ≡ WriteFault) × IsFront finishes.printed line × Rose (g.faults old) (g.faults new)). ends_as f
    result (inl (λ by. cut_is_the_sinks (sym (ap culprit_of cut.0) ∙ by))))
    finishes.how
  where
    cut_is_the_sinks : TheSink ≡ TheDisk → ⊥
    cut_is_the_sinks e = cc

-- the disk counted a fault where it ended the run, or the last line failed
pub fault_counts : {K : Type 0} (g : sink.Ghosts K) (old new : K) (line : List ℕ) (result : Ending) (f : OnFault)
    (before now : ℕ) (failed : Type 0) → failed → HasCause before now failed
    → Finishes g old new line (ending_at f) result → CountsFaultsOf TheDisk (Some result) before now
fault_counts g old new line result f before now failed by cause finishes = record {
  later = cause.later;
  rose = λ _. cause.rose by;
  steady = λ other whole. absurd (⊎_elim
      (λ (same : (result ≡ ending_at f) × (finishes.printed ≡ line) × (g.faults new ≡ g.faults old)).
      other (ap (λ (e : Ending). Some (culprit_of e)) same.0 ∙ at_fault (λ (e : Ending). Some (culprit_of e) ≡ Some TheDisk) refl refl f))
      (λ (cut : (result ≡ WriteFault) × IsFront finishes.printed line × Rose (g.faults old) (g.faults new)). whole (ap Some cut.0))
      finishes.how);
}

-- what holds of the endings where a read met damage holds of the result
pub at_damage : {K : Type 0} (g : sink.Ghosts K) (old new : K) (name : Name) (place : ℕ) (result : Ending)
    (P : Ending → Type 0) → EndsAtDamage g old new name place result
    → P (Damaged name place) → P NoMemory → P WriteFault → P result
at_damage g old new name place result P ends damage out cut = ⊎_elim
    (λ (met : FinishesBy g old new (Damaged name place) result). or_cut g old new met.0 (Damaged name place) result P met.2 damage cut)
    (λ (short : FinishesBy g old new NoMemory result). or_cut g old new short.0 NoMemory result P short.2 out cut)
    ends

-- no answer was cut, and the disk didn't fail
abbrev pub LeavesDisk : Ending → Type 0
LeavesDisk ending = (CutsAnswer ending → ⊥) × (culprit_of ending ≡ TheDisk → ⊥)

-- an ending with a line of its own leaves the disk alone, and so does that line where it can't be put
pub line_leaves_disk : {K : Type 0} (g : sink.Ghosts K) (old new : K) (line : List ℕ) (ending result : Ending)
    → LeavesDisk ending → Finishes g old new line ending result → LeavesDisk result
line_leaves_disk g old new line ending result whole f = or_cut g old new line ending result LeavesDisk f whole (λ e. cc, λ e. cc)

-- an ending by another object counts nothing of this one
pub counts_none : (who : Culprit) (ending : Ending) (n : ℕ) → culprit_of ending ≢ who → CountsFaultsOf who (Some ending) n n
counts_none who ending n other = record
    { later = omega arith; rose = λ by. absurd (other (some_culprit (culprit_of ending) who by)); steady = λ _ _. refl }

cut_is : (result : Ending) → result ≡ WriteFault → culprit_of result ≡ TheSink
cut_is result same = ap culprit_of same

-- the sink counts its own faults
pub finish_counts : {K : Type 0} (g : sink.Ghosts K) (old new : K) (line : List ℕ) (ending result : Ending)
    → culprit_of ending ≢ TheSink → Finishes g old new line ending result
    → CountsFaultsOf TheSink (Some result) (g.faults old) (g.faults new)
finish_counts g old new line ending result other f = ⊎_elim
    (λ (same : (result ≡ ending) × (f.printed ≡ line) × (g.faults new ≡ g.faults old)).
    subst (λ (n : ℕ). CountsFaultsOf TheSink (Some result) (g.faults old) n) (sym same.2)
    (counts_none TheSink result (g.faults old) (λ by. other (sym (ap culprit_of same.0) ∙ by))))
    (λ (failed : (result ≡ WriteFault) × IsFront f.printed line × Rose (g.faults old) (g.faults new)).
    record {
      later = f.later;
      rose = λ _. failed.2;
      steady = λ other _. absurd
          (other (ap (λ (e : Ending). Some (culprit_of e)) failed.0));
    })
    f.how

-- where a read met damage, the sink counts its own faults, and the disk none
pub damage_counts_sink : {K : Type 0} (g : sink.Ghosts K) (old new : K) (name : Name) (place : ℕ) (result : Ending)
    → EndsAtDamage g old new name place result
    → CountsFaultsOf TheSink (Some result) (g.faults old) (g.faults new)
damage_counts_sink g old new name place result ends = ⊎_elim
    (λ (met : FinishesBy g old new (Damaged name place) result). finish_counts g old new met.0 (Damaged name place) result (λ e. cc) met.2)
    (λ (short : FinishesBy g old new NoMemory result). finish_counts g old new short.0 NoMemory result (λ e. cc) short.2)
    ends

-- where a run ends by no fault of the disk, it counts none
pub otherwise_counts : {K : Type 0} (g : sink.Ghosts K) (old new : K) (line : List ℕ) (ending result : Ending) → culprit_of ending ≢ TheDisk
    → Finishes g old new line ending result → (before now : ℕ) → now ≡ before → CountsFaultsOf TheDisk (Some result) before now
otherwise_counts g old new line ending result apart finishes before now same =
    subst (λ (n : ℕ). CountsFaultsOf TheDisk (Some result) before n) (sym same)
    (counts_none TheDisk result before
    (or_cut g old new line ending result (λ (e : Ending). culprit_of e ≢ TheDisk) finishes apart (λ e. cc)))

pub damage_counts : {K : Type 0} (g : sink.Ghosts K) (old new : K) (name : Name) (place : ℕ) (result : Ending)
    → EndsAtDamage g old new name place result
    → (before now : ℕ) → now ≡ before → CountsFaultsOf TheDisk (Some result) before now
damage_counts g old new name place result ends before now same =
    subst (λ (n : ℕ). CountsFaultsOf TheDisk (Some result) before n) (sym same)
    (counts_none TheDisk result before
    (at_damage g old new name place result (λ (e : Ending). culprit_of e ≢ TheDisk) ends (λ e. cc) (λ e. cc) (λ e. cc)))
