-- Edits are taken from the left, one after the other.
use Rattle.std.proofs.Common.{◌≡◌, ℕ, ◌+◌, ◌<◌, ◌≤◌, List, [], ◌∷◌, ◌++◌, length, refl, sym, ap, ◌∙◌, append_assoc, length-append, arith}
use Rattle.std.specs.List.{AllByRecursion}
use Rattle.std.proofs.lemmas.List.{append-nil}
use Rattle.vl_manifest.specs.declared.edit.Edit.{Edit}
use Rattle.vl_manifest.specs.laws.EditLaws.{one_edit}
use Rattle.vl_manifest.specs.Edits.{IsEdit, edit_bytes, edits_bytes}
use Rattle.vl_manifest.specs.Reading.{IsRun}

edits_bytes-append : (es fs : List Edit) → edits_bytes (es ++ fs) ≡ edits_bytes es ++ edits_bytes fs
edits_bytes-append [] fs = refl
edits_bytes-append (e ∷ es) fs =
    ap (λ (l : List ℕ). edit_bytes e ++ l) (edits_bytes-append es fs) ∙ sym (append_assoc (edit_bytes e) (edits_bytes es) (edits_bytes fs))

all-push : (format : ℕ) (es : List Edit) (e : Edit) → AllByRecursion (IsEdit format) es → IsEdit format e
    → AllByRecursion (IsEdit format) (es ++ e ∷ [])
all-push format [] e all one = (one, tt)
all-push format (d ∷ es) e all one = (all.0, all-push format es e all.1 one)

-- so many edits were taken from the bytes, and the rest stands behind them
pub record SoFar (format : ℕ) (bytes : List ℕ) (count : ℕ) (taken : List Edit) (rest : List ℕ) : Type 0 where
  pub counted : length taken ≡ count
  pub lawful : AllByRecursion (IsEdit format) taken
  pub spelled : bytes ≡ edits_bytes taken ++ rest

pub take_one : (format : ℕ) (bytes : List ℕ) (count : ℕ) (taken : List Edit) (rest : List ℕ) (edit : Edit) (after : List ℕ)
    → SoFar format bytes count taken rest → IsEdit format edit → rest ≡ edit_bytes edit ++ after
    → SoFar format bytes (count + 1) (taken ++ edit ∷ []) after
take_one format bytes count taken rest edit after so_far fits e = record {
  counted = length-append taken (edit ∷ []) ∙ ap (λ (n : ℕ). n + 1) so_far.counted;
  lawful = all-push format taken edit so_far.lawful fits;
  spelled = so_far.spelled ∙ ap (λ (r : List ℕ). edits_bytes taken ++ r) e
      ∙ sym (append_assoc (edits_bytes taken) (edit_bytes edit) after)
      ∙ ap (λ (r : List ℕ). (edits_bytes taken ++ r) ++ after) (sym (append-nil (edit_bytes edit)))
      ∙ ap (λ (r : List ℕ). r ++ after) (sym (edits_bytes-append taken (edit ∷ [])));
}

-- what a run has behind the edits that were taken
record Behind (format : ℕ) (taken all : List Edit) (rest : List ℕ) : Type 0 where
  later : List Edit
  split : all ≡ taken ++ later
  lawful : AllByRecursion (IsEdit format) later
  spelled : rest ≡ edits_bytes later

behind : (format : ℕ) (taken all : List Edit) (rest : List ℕ) → AllByRecursion (IsEdit format) taken
    → AllByRecursion (IsEdit format) all
    → length taken ≤ length all → edits_bytes taken ++ rest ≡ edits_bytes all → Behind format taken all rest
behind format [] all rest p q le e = record { later = all; split = refl; lawful = q; spelled = e }
behind format (d ∷ taken) [] rest p q le e = absurd (omega arith)
behind format (d ∷ taken) (f ∷ all) rest p q le e =
    let same = one_edit format d f (edits_bytes taken ++ rest) (edits_bytes all) p.0 q.0
    (sym (append_assoc (edit_bytes d) (edits_bytes taken) rest) ∙ e) in
    let b = behind format taken all rest p.1 q.1 (omega arith) same.1 in
    record {
      later = b.later;
      split = ap (λ (x : Edit). x ∷ all) (sym same.0) ∙ ap (λ (l : List Edit). d ∷ l) b.split;
      lawful = b.lawful;
      spelled = b.spelled;
    }

behind_so_far : (format : ℕ) (bytes : List ℕ) (count total : ℕ) (taken all : List Edit) (rest : List ℕ)
    → SoFar format bytes count taken rest → count ≤ total → IsRun format bytes total all → Behind format taken all rest
behind_so_far format bytes count total taken all rest so_far le run =
    behind format taken all rest so_far.lawful run.lawful (omega (arith, so_far.counted, run.counted)) (sym so_far.spelled ∙ run.spelled)

none_later : (format : ℕ) (later : List Edit) (rest : List ℕ) → AllByRecursion (IsEdit format) later → 0 < length later
    → rest ≡ edits_bytes later
    → ((edit : Edit) (after : List ℕ) → IsEdit format edit → rest ≡ edit_bytes edit ++ after → ⊥) → ⊥
none_later format [] rest all some e none = omega arith
none_later format (d ∷ later) rest all some e none = none d (edits_bytes later) all.0 e

-- an edit is missing
pub no_run_cut : (format : ℕ) (bytes : List ℕ) (count total : ℕ) (taken : List Edit) (rest : List ℕ)
    → SoFar format bytes count taken rest → count < total
    → ((edit : Edit) (after : List ℕ) → IsEdit format edit → rest ≡ edit_bytes edit ++ after → ⊥)
    → (all : List Edit) → IsRun format bytes total all → ⊥
no_run_cut format bytes count total taken rest so_far lt none all run =
    let b = behind_so_far format bytes count total taken all rest so_far (omega arith) run in
    none_later format b.later rest b.lawful
    (omega (arith, so_far.counted, run.counted, ap length b.split, length-append taken b.later)) b.spelled none

none_left : (later : List Edit) (rest : List ℕ) → length later ≡ 0 → rest ≡ edits_bytes later
    → length rest ≡ 0
none_left [] rest none e = ap length e
none_left (d ∷ later) rest none e = absurd (omega arith)

-- bytes are left over
pub no_run_over : (format : ℕ) (bytes : List ℕ) (count total : ℕ) (taken : List Edit) (rest : List ℕ)
    → SoFar format bytes count taken rest → count ≡ total → 0 < length rest → (all : List Edit)
    → IsRun format bytes total all → ⊥
no_run_over format bytes count total taken rest so_far eq some all run =
    let b = behind_so_far format bytes count total taken all rest so_far (omega arith) run in
    omega (
      arith,
      none_left b.later rest
          (omega (arith, so_far.counted, run.counted, ap length b.split, length-append taken b.later)) b.spelled,
    )

pub run_done : (format : ℕ) (bytes : List ℕ) (count total : ℕ) (taken : List Edit) (rest : List ℕ)
    → SoFar format bytes count taken rest → count ≡ total → rest ≡ [] → IsRun format bytes total taken
run_done format bytes count total taken rest so_far eq empty = record {
  counted = so_far.counted ∙ eq;
  lawful = so_far.lawful;
  spelled = so_far.spelled ∙ ap (λ (r : List ℕ). edits_bytes taken ++ r) empty ∙ append-nil (edits_bytes taken);
}
