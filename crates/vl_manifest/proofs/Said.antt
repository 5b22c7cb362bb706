-- What a manifest says, read frame by frame.
use Rattle.std.proofs.Common.{◌≡◌, ℕ, ◌+◌, ◌-◌, ◌≤◌, ◌<◌, List, [], ◌∷◌, length, drop, refl, sym, ap, subst, ◌∙◌, arith}
use Rattle.std.specs.Prelude.{IfNone, IsErr, IsErrAnd, None, Option, Some, Result, Ok, Err, false, true}
use Rattle.vl_frame.specs.Begins.{placed}
use Rattle.vl_frame.specs.laws.RunLaws.{shorter}
use Rattle.vl_frame.specs.Runs.{StandsAt, StandsNone, item_frame}
use Rattle.vl_manifest.specs.declared.edit.Edit.{Edit}
use Rattle.vl_manifest.specs.declared.fails.StateFail.{StateFail}
use Rattle.vl_manifest.specs.declared.fails.StateFail.TheVariants.{Damaged, NoMemory}
use Rattle.vl_manifest.specs.declared.state.ManifestState.{ManifestState}
use Rattle.vl_manifest.specs.Grammar.{edits_grammar}
use Rattle.vl_manifest.specs.Manifest.{HasHeader, IsDamaged, SaysState, not_applied}
use Rattle.vl_manifest.specs.Reading.{AnswersSo, GoesOn, GoesOnSo}
use Rattle.vl_manifest.specs.States.{as_read, first_state, next_state, read_in, state_behind, state_then}

pub false_true : false ≡ true → ⊥
false_true e = cc

-- a frame that can be applied, and what is said behind it
goes_on : (format number at : ℕ) (rest : List ℕ) (state : ManifestState) (edits : List Edit) (after : List ℕ)
    (next : ManifestState) (said : Result ManifestState ℕ)
    → StandsAt (edits_grammar format) number at rest edits after → next_state edits state ≡ Some next
    → GoesOn format number (at + length (item_frame (edits_grammar format) number at edits)) after next said
    → GoesOn format number at rest state said
goes_on format number at rest state edits after next (Ok last) stands is (frames, reads, made) =
    let behind = placed (edits_grammar format) number (at + length (item_frame (edits_grammar format) number at edits)) frames in
    (edits ∷ frames, (after, stands, reads), ap (state_then at (λ (t : ManifestState). state_behind t behind)) is ∙ made)
goes_on format number at rest state edits after next (Err place) stands is (frames, begins, made) =
    let behind = placed (edits_grammar format) number (at + length (item_frame (edits_grammar format) number at edits)) frames in
    (edits ∷ frames, (after, stands, begins), ap (state_then at (λ (t : ManifestState). state_behind t behind)) is ∙ made)

-- Frames up to a place were read: what is said from there on is said from the first of them on.
pub record UnderWay (format number from : ℕ) (whole : List ℕ) (first : ManifestState) (at : ℕ) (rest : List ℕ)
    (state : ManifestState) : Type 0 where
  pub completes : (said : Result ManifestState ℕ) → GoesOn format number at rest state said → GoesOn format number from whole first said

pub begins : (format number from : ℕ) (whole : List ℕ) (first : ManifestState)
    → UnderWay format number from whole first from whole first
begins format number from whole first = record { completes = λ said goes. goes }

pub one_more : (format number from : ℕ) (whole : List ℕ) (first : ManifestState) (at : ℕ) (rest : List ℕ) (state : ManifestState)
    (edits : List Edit) (after : List ℕ) (next : ManifestState) (place : ℕ)
    → UnderWay format number from whole first at rest state → StandsAt (edits_grammar format) number at rest edits after
    → next_state edits state ≡ Some next
    → place ≡ at + length (item_frame (edits_grammar format) number at edits)
    → UnderWay format number from whole first place after next
one_more format number from whole first at rest state edits after next place so_far stands is e = record {
  completes = λ said goes. so_far.completes said
      (goes_on format number at rest state edits after next said stands is
      (subst (λ (n : ℕ). GoesOn format number n after next said) e goes));
}

-- no frame stands behind them
pub ends : (format number from : ℕ) (whole : List ℕ) (first : ManifestState) (at : ℕ) (rest : List ℕ) (state : ManifestState)
    → UnderWay format number from whole first at rest state → StandsNone (edits_grammar format) number at rest
    → GoesOn format number from whole first (Ok state)
ends format number from whole first at rest state so_far none = so_far.completes (Ok state) ([], none, refl)

-- the next frame can't be applied
pub breaks : (format number from : ℕ) (whole : List ℕ) (first : ManifestState) (at : ℕ) (rest : List ℕ) (state : ManifestState)
    (edits : List Edit) (after : List ℕ) → UnderWay format number from whole first at rest state
    → StandsAt (edits_grammar format) number at rest edits after → next_state edits state ≡ None
    → GoesOn format number from whole first (Err at)
breaks format number from whole first at rest state edits after so_far stands is =
    so_far.completes (Err at) (edits ∷ [], (after, stands, tt), ap (state_then at (λ (t : ManifestState). state_behind t [])) is)

-- the place of bytes that are left of the frames behind the header
abbrev pub place_of : List ℕ → List ℕ → ℕ
place_of frames left = 16 + (length frames - length left)

-- behind a frame less is left, and it stands that much further on
pub record Further (format number : ℕ) (frames left : List ℕ) (edits : List Edit) (after : List ℕ) : Type 0 where
  pub within : length after ≤ length frames
  pub less : length after < length left
  pub place : place_of frames after ≡ place_of frames left + length (item_frame (edits_grammar format) number (place_of frames left) edits)

pub further : (format number : ℕ) (frames left : List ℕ) (edits : List Edit) (after : List ℕ)
    → length left ≤ length frames
    → StandsAt (edits_grammar format) number (place_of frames left) left edits after
    → Further format number frames left edits after
further format number frames left edits after within stands =
    let less = shorter (edits_grammar format) number (place_of frames left) left edits after stands in
    record { within = omega (arith, less.1); less = less.1; place = omega (arith, less.0) }

-- behind the first frame
pub second_place : (format number : ℕ) (frames : List ℕ) (edits : List Edit) (rest : List ℕ)
    → StandsAt (edits_grammar format) number 16 frames edits rest
    → place_of frames rest ≡ 16 + length (item_frame (edits_grammar format) number 16 edits)
second_place format number frames edits rest stands = omega (arith, (shorter (edits_grammar format) number 16 frames edits rest stands).0)

-- what is said behind the first frame, as it is read in the format, is what the manifest says
pub says_state : (format number : ℕ) (bytes : List ℕ) (edits : List Edit) (rest : List ℕ) (first last : ManifestState)
    → HasHeader format number bytes → StandsAt (edits_grammar format) number 16 (drop 16 bytes) edits rest
    → first_state edits ≡ Some first
    → GoesOn format number (place_of (drop 16 bytes) rest) rest first (Ok last) → SaysState number bytes (as_read format last)
says_state format number bytes edits rest first last header stands is goes =
    let g = subst (λ (n : ℕ). GoesOn format number n rest first (Ok last))
    (second_place format number (drop 16 bytes) edits rest stands) goes in
    let behind = placed (edits_grammar format) number (16 + length (item_frame (edits_grammar format) number 16 edits)) g.0 in
    record {
      format = format;
      first = edits;
      others = g.0;
      reads = record { header = header; reads = (rest, stands, g.1) };
      made = ap (read_in format) (ap (state_then 16 (λ (t : ManifestState). state_behind t behind)) is ∙ g.2);
    }

-- a failure that was met behind it is the answer
pub says_damage : (format number : ℕ) (bytes : List ℕ) (edits : List Edit) (rest : List ℕ) (first : ManifestState)
    (fail : StateFail) (answer : Result ManifestState StateFail) → IsErr answer → IsErrAnd answer (λ e. e ≡ fail)
    → HasHeader format number bytes → StandsAt (edits_grammar format) number 16 (drop 16 bytes) edits rest
    → first_state edits ≡ Some first
    → GoesOnSo format number (place_of (drop 16 bytes) rest) rest first (Err fail) → AnswersSo number bytes answer
says_damage format number bytes edits rest first fail (Ok s) failed same header stands is goes = absurd (false_true failed)
says_damage format number bytes edits rest first fail (Err e) failed same header stands is goes =
    by e (subst (λ (f : StateFail). GoesOnSo format number (place_of (drop 16 bytes) rest) rest first (Err f)) (sym same) goes)
  where
    by : (f : StateFail) → GoesOnSo format number (place_of (drop 16 bytes) rest) rest first (Err f) → AnswersSo number bytes (Err f)
    by NoMemory goes = tt
    by (Damaged place) goes =
        let g = subst (λ (n : ℕ). GoesOn format number n rest first (Err place))
        (second_place format number (drop 16 bytes) edits rest stands) goes in
        let behind = placed (edits_grammar format) number (16 + length (item_frame (edits_grammar format) number 16 edits)) g.0 in
        not_applied format header edits g.0 (rest, stands, g.1)
        (ap (read_in format) (ap (state_then 16 (λ (t : ManifestState). state_behind t behind)) is ∙ g.2))

-- the first frame can't be applied
pub first_breaks : (format number : ℕ) (bytes : List ℕ) (edits : List Edit) (rest : List ℕ)
    → HasHeader format number bytes
    → StandsAt (edits_grammar format) number 16 (drop 16 bytes) edits rest → first_state edits ≡ None
    → IsDamaged number bytes 16
first_breaks format number bytes edits rest header stands is =
    not_applied format header edits [] (rest, stands, tt)
    (ap (λ (o : Option ManifestState). read_in format (state_then 16 (λ (t : ManifestState). state_behind t []) o)) is)

pub none_weaker : {A P Q : Type 0} (o : Option A) → (P → Q) → IfNone o P → IfNone o Q
none_weaker None weaker p = weaker p
none_weaker (Some a) weaker p = tt
