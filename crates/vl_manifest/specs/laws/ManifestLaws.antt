-- What the definition of a manifest says: its bytes say one thing, and a manifest that is made says its state.
use Rattle.std.specs.Prelude.{◌≡◌, ◌+◌, ◌<◌, ◌^◌, ℕ, List, [], ◌∷◌, ◌++◌, drop, length, take, Option, None, Some, Result, Ok, Err, refl}
use Rattle.std.specs.List.{AllByRecursion}
use Rattle.std.proofs.Common.{sym, ap, subst, ◌∙◌, ⊎_elim, arith}
use Rattle.std.proofs.lemmas.List.{drop_at, take-append-drop}
use Rattle.vl_frame.specs.laws.HeaderLaws.{length-header_bytes, one_format, one_header}
use Rattle.vl_frame.specs.Begins.{BeginsAs, placed}
use Rattle.vl_frame.specs.laws.BeginLaws.{one_begins, reads_past}
use Rattle.vl_frame.specs.laws.RunLaws.{one_reading, reads_whole}
use Rattle.vl_frame.specs.Runs.{HasFrame, ReadsAs, StandsNone, item_frame, run_bytes}
use Rattle.vl_frame.specs.declared.kinds.FileKind.TheVariants as files
use Rattle.vl_manifest.specs.declared.edit.Edit.{Edit}
use Rattle.vl_manifest.specs.declared.state.ManifestState.{ManifestState}
use Rattle.vl_model.specs.Formats.{manifest_format}
use Rattle.vl_manifest.specs.Grammar.{edits_grammar}
use Rattle.vl_manifest.specs.Manifest.{HasHeader, IsDamaged, IsNewer, IsReadable, ManifestSays, ReadsManifest}
use Rattle.vl_manifest.specs.Manifest.{SaysState, manifest_bytes, manifest_header, no_frame, no_header, not_applied}
use Rattle.vl_manifest.specs.Manifest.{state_of}
use Rattle.vl_manifest.specs.laws.StateLaws.{IsInRange, read_in_range, read_made, state_in_range}
use Rattle.vl_manifest.specs.laws.WholeLaws.{whole_says}
use Rattle.vl_manifest.specs.States.{first_state, manifest_state, next_state, read_in, state_behind, state_then, whole_edits}

-- ---- one reading

-- A manifest has one format at most.
pub one_manifest_format : (number : ℕ) (bytes : List ℕ) (format other : ℕ) → HasHeader format number bytes
    → HasHeader other number bytes → format ≡ other
one_manifest_format number bytes format other p q =
    (one_header bytes files.Manifest files.Manifest format other number number p.header q.header).1

-- the same frames make the same
state_cong : (format number : ℕ) (first other : List Edit) (others more : List (List Edit))
    → first ∷ others ≡ other ∷ more → state_of format number first others ≡ state_of format number other more
state_cong format number first other others more e =
    let a : first ≡ other = cc in
    let b : others ≡ more = cc in
    ap (λ (x : List Edit). state_of format number x others) a ∙ ap (state_of format number other) b

ok_err : (s : ManifestState) (place : ℕ) → ◌≡◌ {A = Result ManifestState ℕ} (Ok s) (Err place) → ⊥
ok_err s place same = cc

err_same : (p q : ℕ) → ◌≡◌ {A = Result ManifestState ℕ} (Err p) (Err q) → p ≡ q
err_same p q same = cc

-- what can't be applied is no more by another reading
read_err : (format : ℕ) (made : Result ManifestState ℕ) (place : ℕ) → read_in format made ≡ Err place → made ≡ Err place
read_err format (Ok s) place e = absurd (ok_err _ place e)
read_err format (Err p) place e = e

module _ (format number : ℕ) where
  -- what can't be applied can't be, whatever stands behind it
  behind_err : (at : ℕ) (s : ManifestState) (cs more : List (List Edit)) (place : ℕ)
      → state_behind s (placed (edits_grammar format) number at cs) ≡ Err place
      → state_behind s (placed (edits_grammar format) number at (cs ++ more)) ≡ Err place
  behind_err at s [] more place e = absurd (ok_err s place e)
  behind_err at s (c ∷ cs) more place e = by (λ t is. behind_err next t cs more place is) (next_state c s) e
    where
      next : ℕ
      next = at + length (item_frame (edits_grammar format) number at c)

      by : ((t : ManifestState) → state_behind t (placed (edits_grammar format) number next cs) ≡ Err place
          → state_behind t (placed (edits_grammar format) number next (cs ++ more)) ≡ Err place)
          → (o : Option ManifestState) → state_then at (λ t. state_behind t (placed (edits_grammar format) number next cs)) o ≡ Err place
          → state_then at (λ t. state_behind t (placed (edits_grammar format) number next (cs ++ more))) o ≡ Err place
      by rest None is = is
      by rest (Some t) is = rest t is

  state_more : (first : List Edit) (others more : List (List Edit)) (place : ℕ)
      → state_of format number first others ≡ Err place → state_of format number first (others ++ more) ≡ Err place
  state_more first others more place e = ap (read_in format) (by (first_state first) (read_err format _ place e))
    where
      next : ℕ
      next = 16 + length (item_frame (edits_grammar format) number 16 first)

      by : (o : Option ManifestState) → state_then 16 (λ t. state_behind t (placed (edits_grammar format) number next others)) o ≡ Err place
          → state_then 16 (λ t. state_behind t (placed (edits_grammar format) number next (others ++ more))) o ≡ Err place
      by None is = is
      by (Some t) is = behind_err next t others more place is

  -- where frames begin with some that can't be applied, they can't be
  begun_by : (first other : List Edit) (others all more : List (List Edit)) (place : ℕ)
      → other ∷ all ≡ (first ∷ others) ++ more → state_of format number first others ≡ Err place
      → state_of format number other all ≡ Err place
  begun_by first other others all more place split e =
      state_cong format number other first all (others ++ more) split ∙ state_more first others more place e

-- bytes that say a state aren't damaged
says_or_damaged : (number : ℕ) (bytes : List ℕ) (s : ManifestState) (place : ℕ)
    → SaysState number bytes s → IsDamaged number bytes place → ⊥
says_or_damaged number bytes s place says (no_header none at) = none says.format says.reads.header
says_or_damaged number bytes s place says (no_frame format header none at) =
    subst (λ (f : ℕ). StandsNone (edits_grammar f) number 16 (drop 16 bytes))
    (one_manifest_format number bytes format says.format header says.reads.header) none
    says.first says.reads.reads.0 says.reads.reads.1
says_or_damaged number bytes s place says (not_applied format header first others begins e) =
    let same = one_manifest_format number bytes says.format format says.reads.header header in
    let reads = subst (λ (f : ℕ). ReadsAs (edits_grammar f) number 16 (drop 16 bytes) (says.first ∷ says.others)) same says.reads.reads in
    let made = subst (λ (f : ℕ). state_of f number says.first says.others ≡ Ok s) same says.made in
    let past = reads_past (edits_grammar format) number 16 (drop 16 bytes) (first ∷ others) (says.first ∷ says.others) begins reads in
    ok_err s place (sym made ∙ begun_by format number first says.first others says.others past.0 place past.1 e)

-- bytes are damaged at one place first
one_damage : (number : ℕ) (bytes : List ℕ) (p q : ℕ) → IsDamaged number bytes p
    → IsDamaged number bytes q → p ≡ q
one_damage number bytes p q (no_header none at) (no_header none' at') = at ∙ sym at'
one_damage number bytes p q (no_header none at) (no_frame format header none' at') = absurd (none format header)
one_damage number bytes p q (no_header none at) (not_applied format header first others begins e) = absurd (none format header)
one_damage number bytes p q (no_frame format header none at) (no_header none' at') = absurd (none' format header)
one_damage number bytes p q (no_frame format header none at) (no_frame format' header' none' at') = at ∙ sym at'
one_damage number bytes p q (no_frame format header none at) (not_applied format' header' first others begins e) =
    absurd (subst (λ (f : ℕ). StandsNone (edits_grammar f) number 16 (drop 16 bytes))
    (one_manifest_format number bytes format format' header header') none
    first begins.0 begins.1)
one_damage number bytes p q (not_applied format header first others begins e) (no_header none at) = absurd (none format header)
one_damage number bytes p q (not_applied format header first others begins e) (no_frame format' header' none at) =
    absurd (subst (λ (f : ℕ). StandsNone (edits_grammar f) number 16 (drop 16 bytes))
    (one_manifest_format number bytes format' format header' header) none
    first begins.0 begins.1)
one_damage number bytes p q (not_applied format header first others begins e) (not_applied format' header' first' others' begins' e') =
    let same = one_manifest_format number bytes format' format header' header in
    let begun = subst (λ (f : ℕ). BeginsAs (edits_grammar f) number 16 (drop 16 bytes) (first' ∷ others')) same begins' in
    let made = subst (λ (f : ℕ). state_of f number first' others' ≡ Err q) same e' in
    ⊎_elim
    (λ (longer : (more : List (List Edit)) × (first' ∷ others' ≡ (first ∷ others) ++ more)).
    err_same p q (sym (begun_by format number first first' others others' longer.0 p longer.1 e) ∙ made))
    (λ (shorter : (more : List (List Edit)) × (first ∷ others ≡ (first' ∷ others') ++ more)).
    err_same p q (sym e ∙ begun_by format number first' first others' others shorter.0 q shorter.1 made))
    (one_begins (edits_grammar format) number 16 (drop 16 bytes) (first ∷ others) (first' ∷ others') begins begun)

-- The bytes of a manifest say one thing.
pub one_saying : (number : ℕ) (bytes : List ℕ) (a b : Result ManifestState ℕ)
    → ManifestSays number bytes a → ManifestSays number bytes b → a ≡ b
one_saying number bytes (Ok s) (Ok t) p q =
    let format = one_manifest_format number bytes q.format p.format q.reads.header p.reads.header in
    let reads = subst (λ (f : ℕ). ReadsAs (edits_grammar f) number 16 (drop 16 bytes) (q.first ∷ q.others)) format q.reads.reads in
    let made = subst (λ (f : ℕ). state_of f number q.first q.others ≡ Ok t) format q.made in
    let same = one_reading (edits_grammar p.format) number 16 (drop 16 bytes) (p.first ∷ p.others) (q.first ∷ q.others)
    p.reads.reads reads in
    sym p.made ∙ state_cong p.format number p.first q.first p.others q.others same ∙ made
one_saying number bytes (Ok s) (Err place) p q = absurd (says_or_damaged number bytes s place p q)
one_saying number bytes (Err place) (Ok s) p q = absurd (says_or_damaged number bytes s place q p)
one_saying number bytes (Err place) (Err other) p q =
    let same = one_damage number bytes place other p q in ap (λ (n : ℕ). Err n) same

-- What a manifest says is in range, and names each table once.
pub says_in_range : (number : ℕ) (bytes : List ℕ) (s : ManifestState) → SaysState number bytes s
    → IsInRange s
says_in_range number bytes s says =
    let places = placed (edits_grammar says.format) number
    (16 + length (item_frame (edits_grammar says.format) number 16 says.first)) says.others in
    let made = read_made says.format (manifest_state (record { place = 16; item = says.first }) places) s says.made in
    subst IsInRange made.2 (read_in_range says.format made.0
    (state_in_range (record { place = 16; item = says.first }) places made.0 made.1))

-- ---- readable and newer ones

-- A manifest that says a state can be read.
pub says_readable : (number : ℕ) (bytes : List ℕ) (s : ManifestState) → SaysState number bytes s
    → IsReadable number bytes
says_readable number bytes s says = record {
  format = says.format;
  header = says.reads.header;
  first = says.first;
  rest = says.reads.reads.0;
  stands = says.reads.reads.1;
}

-- Bytes have one newer format at most.
pub one_newer : (number : ℕ) (bytes : List ℕ) (format other : ℕ) → IsNewer number bytes format
    → IsNewer number bytes other → format ≡ other
one_newer number bytes format other p q = (one_format bytes files.Manifest files.Manifest format other p.says q.says).1

-- ---- manifests that are made

-- A manifest's header, and behind it bytes that hold these frames.
pub header_reads : (number : ℕ) (bytes tail : List ℕ) (frames : List (List Edit)) → number < 2 ^ 32
    → bytes ≡ manifest_header number ++ tail → ReadsAs (edits_grammar manifest_format) number 16 tail frames
    → ReadsManifest manifest_format number bytes frames
header_reads number bytes tail frames fits is reads =
    let behind : drop 16 bytes ≡ tail =
    ap (drop 16) is ∙ drop_at (manifest_header number) tail 16 (length-header_bytes files.Manifest manifest_format number) in
    record {
      header = record {
        first = omega arith;
        readable = omega arith;
        header = record { format_fits = omega arith; number_fits = fits; rest = tail; spelled = is };
      };
      reads = subst (λ (b : List ℕ). ReadsAs (edits_grammar manifest_format) number 16 b frames) (sym behind) reads;
    }

-- A manifest that is made of frames reads as these.
pub manifest_reads : (number : ℕ) (frames : List (List Edit)) → number < 2 ^ 32
    → AllByRecursion (HasFrame (edits_grammar manifest_format)) frames
    → ReadsManifest manifest_format number (manifest_bytes number frames) frames
manifest_reads number frames fits have =
    header_reads number (manifest_bytes number frames) (run_bytes (edits_grammar manifest_format) number 16 frames) frames fits refl
    (reads_whole (edits_grammar manifest_format) number 16 frames have)

-- A manifest that reads as the frame of a whole state, in the format that is written, says it.
pub whole_said : (number : ℕ) (s : ManifestState) (bytes : List ℕ) → IsInRange s
    → ReadsManifest manifest_format number bytes (whole_edits s ∷ []) → SaysState number bytes s
whole_said number s bytes r reads = record {
  format = manifest_format;
  first = whole_edits s;
  others = [];
  reads = reads;
  made = ap (λ (o : Option ManifestState). read_in manifest_format
      (state_then 16 (λ (t : ManifestState). state_behind t []) o)) (whole_says s r);
}

-- A manifest that is made of a whole state says it.
pub whole_manifest : (number : ℕ) (s : ManifestState) → number < 2 ^ 32 → IsInRange s
    → HasFrame (edits_grammar manifest_format) (whole_edits s)
    → SaysState number (manifest_bytes number (whole_edits s ∷ [])) s
whole_manifest number s fits r has =
    whole_said number s (manifest_bytes number (whole_edits s ∷ [])) r
    (manifest_reads number (whole_edits s ∷ []) fits (has, tt))

-- ---- a header as it is written

pub front_header : (number : ℕ) (bytes : List ℕ) → number < 2 ^ 32
    → take 16 bytes ≡ manifest_header number → HasHeader manifest_format number bytes
front_header number bytes fits front = record {
  first = omega arith;
  readable = omega arith;
  header = record {
    format_fits = omega arith;
    number_fits = fits;
    rest = drop 16 bytes;
    spelled = sym (take-append-drop 16 bytes) ∙ ap (λ (b : List ℕ). b ++ drop 16 bytes) front;
  };
}
