-- What is read of a manifest that was being made of a whole state.
use Rattle.std.specs.Prelude.{◌≡◌, ◌⊎◌, ◌+◌, ◌==◌, ◌&&◌, ◌<◌, ◌≤◌, ◌^◌, ℕ, Bool, true, false, bytes_eq, if◌then◌else◌}
use Rattle.std.specs.Prelude.{nat_le, zero, suc, List, [], ◌∷◌, ◌++◌, drop, length, take, Option, refl}
use Rattle.std.specs.List.{AllByRecursion}
use Rattle.std.proofs.Common.{sym, ap, subst, ◌∙◌, inl, inr, ⊎_elim, arith}
use Rattle.std.proofs.lemmas.Bool.{cases_Bool, cases_lt}
use Rattle.std.proofs.lemmas.Bool.Decides.{nat_tests, not_from_Decides}
use Rattle.std.proofs.lemmas.Slice.Eq.{bytes_eq-Decides}
use Rattle.std.proofs.lemmas.List.{take_at, take-append-drop}
use Rattle.vl_frame.specs.Header.{header_bytes}
use Rattle.vl_frame.specs.laws.HeaderLaws.{length-header_bytes}
use Rattle.vl_frame.specs.laws.RunLaws.{one_item, there_or_not}
use Rattle.vl_frame.specs.Runs.{HasFrame, ReadsAs, StandsAt, StandsNone, item_frame}
use Rattle.vl_frame.specs.declared.kinds.FileKind.TheVariants as files
use Rattle.vl_model.specs.Formats.{manifest_format}
use Rattle.vl_manifest.specs.declared.edit.Edit.{Edit}
use Rattle.vl_manifest.specs.declared.edit.Edit.TheVariants.{Add, Drop, Gone, Head, Keep, Next}
use Rattle.vl_manifest.specs.declared.state.ManifestState.{ManifestState}
use Rattle.vl_manifest.specs.Edits.{IsEdit}
use Rattle.vl_manifest.specs.Formats.{gone_format, keep_format}
use Rattle.vl_manifest.specs.Grammar.{edits_grammar}
use Rattle.vl_manifest.specs.Levels.{no_tables}
use Rattle.vl_manifest.specs.Manifest.{HasHeader, IsReadable, ReadsManifest, SaysState}
use Rattle.vl_manifest.specs.States.{adds_from, as_read, gone_edits, keep_edits, last_edits, read_in, state_behind, state_then, whole_edits}
use Rattle.vl_manifest.specs.laws.EditLaws.{edits_later}
use Rattle.vl_manifest.specs.laws.StateLaws.{IsInRange}
use Rattle.vl_manifest.specs.laws.WholeLaws.{whole_says}

-- ---- a state without tables

module _ (s : ManifestState) (bare : s.levels ≡ no_tables) where
  bare_edits : whole_edits s ≡ last_edits s
  bare_edits = ap (λ (l : List (List ℕ)). adds_from 0 l ++ last_edits s) bare

  -- It has a frame.
  pub bare_has_frame : IsInRange s → HasFrame (edits_grammar manifest_format) (whole_edits s)
  bare_has_frame r = subst (λ (es : List Edit). HasFrame (edits_grammar manifest_format) es) (sym bare_edits)
      (by (s.keep == 1 && s.since == 0) (s.gone == 0))
    where
      head : IsEdit manifest_format (Head s.head s.covered)
      head = (omega (arith, r.head_last), omega (arith, r.covered))

      next : IsEdit manifest_format (Next s.next_log s.next_table)
      next = (omega (arith, r.log_last), omega (arith, r.table_last))

      keep : IsEdit manifest_format (Keep s.keep s.since)
      keep = (omega arith, omega (arith, r.keep_last), omega (arith, r.since))

      gone : IsEdit manifest_format (Gone s.gone)
      gone = (omega arith, omega (arith, r.gone))

      by : (b c : Bool) → HasFrame (edits_grammar manifest_format) (Head s.head s.covered ∷ Next s.next_log s.next_table
          ∷ ((if b then [] else Keep s.keep s.since ∷ []) ++ (if c then [] else Gone s.gone ∷ [])))
      by true true = record { lawful = record { few = omega arith; each = (head, (next, tt)) }; short = omega arith }
      by true false = record { lawful = record { few = omega arith; each = (head, (next, (gone, tt))) }; short = omega arith }
      by false true = record { lawful = record { few = omega arith; each = (head, (next, (keep, tt))) }; short = omega arith }
      by false false =
          record { lawful = record { few = omega arith; each = (head, (next, (keep, (gone, tt)))) }; short = omega arith }

-- ---- a manifest that was being made

-- An edit of the last format is one of an earlier one, or not.
edit_or_not : (format : ℕ) (e : Edit) → IsEdit manifest_format e → IsEdit format e ⊎ (IsEdit format e → ⊥)
edit_or_not format (Add level position table) i = inl i
edit_or_not format (Drop table) i = inl i
edit_or_not format (Head segment number) i = inl i
edit_or_not format (Next log table) i = inl i
edit_or_not format (Keep versions since) i = ⊎_elim
    (λ (less : format < keep_format). inr (λ j. omega (arith, less, j.0)))
    (λ (le : keep_format ≤ format). inl (le, i.1, i.2))
    (cases_lt format keep_format)
edit_or_not format (Gone number) i = ⊎_elim
    (λ (less : format < gone_format). inr (λ j. omega (arith, less, j.0)))
    (λ (le : gone_format ≤ format). inl (le, i.1))
    (cases_lt format gone_format)

all_or_not : (format : ℕ) (es : List Edit) → AllByRecursion (IsEdit manifest_format) es
    → AllByRecursion (IsEdit format) es ⊎ (AllByRecursion (IsEdit format) es → ⊥)
all_or_not format [] all = inl tt
all_or_not format (e ∷ es) all = ⊎_elim
    (λ (one : IsEdit format e). ⊎_elim
    (λ (rest : AllByRecursion (IsEdit format) es). inl (one, rest))
    (λ (not : AllByRecursion (IsEdit format) es → ⊥). inr (λ both. not both.1))
    (all_or_not format es all.1))
    (λ (not : IsEdit format e → ⊥). inr (λ both. not both.0))
    (edit_or_not format e all.0)

-- what stands as a frame of an earlier format stands as one of the last
pub stands_later : (format number at : ℕ) (bytes : List ℕ) (es : List Edit) (rest : List ℕ) → format ≤ manifest_format
    → StandsAt (edits_grammar format) number at bytes es rest → StandsAt (edits_grammar manifest_format) number at bytes es rest
stands_later format number at bytes es rest le stands =
    record { lawful = edits_later format manifest_format es le stands.lawful; short = stands.short; spelled = stands.spelled }

-- a manifest in this format can be read
record ReadableIn (format number : ℕ) (bytes : List ℕ) : Type 0 where
  header : HasHeader format number bytes
  first : List Edit
  rest : List ℕ
  stands : StandsAt (edits_grammar format) number 16 (drop 16 bytes) first rest

-- Its header may have been torn into that of an earlier format: then it says the state as it is read there.
pub record SaysAsRead (number : ℕ) (bytes : List ℕ) (s : ManifestState) : Type 0 where
  pub format : ℕ
  pub says : SaysState number bytes (as_read format s)
  -- An earlier format has no edit for `gone`: a state that stands in it says none, and the covered number is read for it.
  pub gone : s.gone ≤ (as_read format s).gone

all_right : (format : ℕ) (xs ys : List Edit) → AllByRecursion (IsEdit format) (xs ++ ys) → AllByRecursion (IsEdit format) ys
all_right format [] ys all = all
all_right format (x ∷ xs) ys all = all_right format xs ys all.1

raised_as_read : (format : ℕ) (s : ManifestState) → AllByRecursion (IsEdit format) (whole_edits s) → s.gone ≤ (as_read format s).gone
raised_as_read format s all = by (nat_le gone_format format) refl
  where
    edits : AllByRecursion (IsEdit format) (gone_edits s.gone)
    edits = all_right format (keep_edits s.keep s.since) (gone_edits s.gone)
        (all_right format (adds_from 0 s.levels) (last_edits s) all).1.1

    none : (b : Bool) → (s.gone == 0) ≡ b → (format < gone_format) → AllByRecursion (IsEdit format) (if b then [] else Gone s.gone ∷ [])
        → s.gone ≤ s.covered
    none true is less es = let zero_is : s.gone ≡ 0 = grind (arith, nat_tests, is) in omega (arith, zero_is)
    none false is less es = let le = es.0.0 in absurd (omega (arith, le, less))

    by : (b : Bool) → nat_le gone_format format ≡ b → s.gone ≤ (if b then s else record s { gone = s.covered }).gone
    by true is = omega arith
    by false is = let less : format < gone_format = grind (arith, nat_tests, is) in none (s.gone == 0) refl less edits

-- what reads as a state's frame, in any format, says it as it is read there
said_in : (number : ℕ) (s : ManifestState) (format : ℕ) (bytes : List ℕ) → IsInRange s
    → ReadsManifest format number bytes (whole_edits s ∷ []) → SaysState number bytes (as_read format s)
said_in number s format bytes r reads = record {
  format = format;
  first = whole_edits s;
  others = [];
  reads = reads;
  made = ap (λ (o : Option ManifestState). read_in format (state_then 16 (λ (t : ManifestState). state_behind t []) o)) (whole_says s r);
}

-- Bytes of a manifest that was being made of a state: each frame at 16 is a front of that state's, and behind it stands
-- none. Then it can't be read, or says the state.
module _ (number : ℕ) (s : ManifestState) (has : HasFrame (edits_grammar manifest_format) (whole_edits s)) (bytes : List ℕ)
    (fits : number < 2 ^ 32) (r : IsInRange s)
    (torn : (edits : List Edit) (rest : List ℕ) → StandsAt (edits_grammar manifest_format) number 16 (drop 16 bytes) edits rest
    → (take (length (item_frame (edits_grammar manifest_format) number 16 edits))
    (item_frame (edits_grammar manifest_format) number 16 (whole_edits s))
    ≡ item_frame (edits_grammar manifest_format) number 16 edits)
    × StandsNone (edits_grammar manifest_format) number
    (16 + length (item_frame (edits_grammar manifest_format) number 16 edits)) rest) where
  -- the frame is there
  with_frame : (format : ℕ) → format ≤ manifest_format → HasHeader format number bytes
      → ReadsAs (edits_grammar manifest_format) number 16 (drop 16 bytes) (whole_edits s ∷ [])
      → (ReadableIn format number bytes → ⊥) ⊎ SaysAsRead number bytes s
  with_frame format le header (rest, stands, none) = ⊎_elim
      (λ (all : AllByRecursion (IsEdit format) (whole_edits s)). inr (record {
        format = format;
        says = said_in number s format bytes r (record {
          header = header;
          reads = (
            rest,
            record { lawful = record { few = stands.lawful.few; each = all }; short = stands.short; spelled = stands.spelled },
            λ edits more next. none edits more (stands_later format number _ rest edits more le next),
          );
        });
        gone = raised_as_read format s all;
      }))
      (λ (not : AllByRecursion (IsEdit format) (whole_edits s) → ⊥). inl (λ readable.
      let same = one_item (edits_grammar manifest_format) number 16 (drop 16 bytes) readable.first (whole_edits s) readable.rest rest
      (stands_later format number 16 (drop 16 bytes) readable.first readable.rest le readable.stands) stands in
      not (subst (AllByRecursion (IsEdit format)) same.0 readable.stands.lawful.each)))
      (all_or_not format (whole_edits s) has.lawful.each)

  with_header : (format : ℕ) → format ≤ manifest_format → HasHeader format number bytes
      → (ReadableIn format number bytes → ⊥) ⊎ SaysAsRead number bytes s
  with_header format le header = ⊎_elim
      (λ (none : ReadsAs (edits_grammar manifest_format) number 16 (drop 16 bytes) []).
      inl (λ readable. none readable.first readable.rest
      (stands_later format number 16 (drop 16 bytes) readable.first readable.rest le readable.stands)))
      (λ (one : ReadsAs (edits_grammar manifest_format) number 16 (drop 16 bytes) (whole_edits s ∷ [])). with_frame format le header one)
      (there_or_not (edits_grammar manifest_format) number 16 (whole_edits s) has (drop 16 bytes) torn)

  in_format : (format : ℕ) → 1 ≤ format → format ≤ manifest_format → (ReadableIn format number bytes → ⊥) ⊎ SaysAsRead number bytes s
  in_format format first le =
      let header = header_bytes files.Manifest format number in
      let test = bytes_eq (take 16 bytes) header in
      let decides = bytes_eq-Decides (take 16 bytes) header in
      ⊎_elim
      (λ (here : test ≡ true). with_header format le (record {
        first = first;
        readable = le;
        header = record {
          format_fits = omega (arith, le);
          number_fits = fits;
          rest = drop 16 bytes;
          spelled = sym (take-append-drop 16 bytes) ∙ ap (λ (b : List ℕ). b ++ drop 16 bytes) (decides.0 here);
        };
      }))
      (λ (other : test ≡ false). inl (λ readable. not_from_Decides test decides other
      (ap (take 16) readable.header.header.spelled
      ∙ take_at header readable.header.header.rest 16 (length-header_bytes files.Manifest format number))))
      (cases_Bool test)

  up_to : (last : ℕ) → last ≤ manifest_format
      → ((format : ℕ) → 1 ≤ format → format ≤ last → ReadableIn format number bytes → ⊥) ⊎ SaysAsRead number bytes s
  up_to zero le = inl (λ format first last. absurd (omega (arith, first, last)))
  up_to (suc n) le = ⊎_elim
      (λ (below : (format : ℕ) → 1 ≤ format → format ≤ n → ReadableIn format number bytes → ⊥). ⊎_elim
      (λ (not : ReadableIn (suc n) number bytes → ⊥). inl (λ format first last readable. ⊎_elim
      (λ (less : format < suc n). below format first (omega (arith, less)) readable)
      (λ (more : suc n ≤ format). let is : format ≡ suc n = omega (arith, more, last) in
      not (subst (λ (f : ℕ). ReadableIn f number bytes) is readable))
      (cases_lt format (suc n))))
      inr (in_format (suc n) (omega arith) le))
      inr (up_to n (omega (arith, le)))

  pub made_or_not : (IsReadable number bytes → ⊥) ⊎ SaysAsRead number bytes s
  made_or_not = ⊎_elim
      (λ (none : (format : ℕ) → 1 ≤ format → format ≤ manifest_format → ReadableIn format number bytes → ⊥).
      inl (λ readable. none readable.format readable.header.first readable.header.readable
      (record { header = readable.header; first = readable.first; rest = readable.rest; stands = readable.stands })))
      inr (up_to manifest_format (omega arith))
