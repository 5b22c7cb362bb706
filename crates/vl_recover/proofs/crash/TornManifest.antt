-- A file that was being made has no frame by chance as it is read.
use Rattle.std.specs.Prelude.{◌≡◌, ℕ, ◌+◌, ◌-◌, ◌≤◌, ◌<◌, List, [], ◌++◌, length, take, drop, Some, refl}
use Rattle.std.proofs.Common.{append_assoc, ap, arith, length-append, subst, sym, ◌∙◌, ⊎_elim}
use Rattle.std.proofs.lemmas.Bool.{cases_lt}
use Rattle.std.proofs.lemmas.List.{drop-append-le, drop_all, take-append-drop, take_at}
use Rattle.vl_disk.specs.Chance.{NoChanceOne, WasHandedOver}
use Rattle.vl_disk.specs.DiskState.{File, lengthened, new_file}
use Rattle.vl_disk.specs.declared.name.Name.{Name}
use Rattle.vl_disk.specs.declared.name.Name.TheVariants.{Log, Manifest, Table}
use Rattle.vl_frame.specs.laws.RunLaws.{frame_is_some}
use Rattle.vl_frame.specs.Runs.{item_frame}
use Rattle.vl_manifest.specs.Grammar.{edits_grammar}
use Rattle.vl_model.specs.Formats.{manifest_format}
use Rattle.vl_recover.specs.crash.Alike.{Spells}
use Rattle.vl_recover.specs.laws.crash.OneName.{IsPart, part_empty, part_some}
use Rattle.vl_recover.specs.laws.crash.Torn.{ended_no_chance}
use Rattle.vl_seglog.specs.Frames.{frames_grammar}

-- ---- first bytes of a piece that was handed over

-- what stands in first bytes of a piece stands in the piece
front_in : (taken at : ℕ) (piece frame rest : List ℕ) → drop at (take taken piece) ≡ frame ++ rest
    → 1 ≤ length frame → take (length frame) (drop at piece) ≡ frame
front_in taken at piece frame rest is some =
    ap (take (length frame)) (ap (drop at) (sym (take-append-drop taken piece))
    ∙ drop-append-le at (take taken piece) (drop taken piece) within
    ∙ ap (λ (b : List ℕ). b ++ drop taken piece) is ∙ append_assoc frame rest (drop taken piece))
    ∙ take_at frame (rest ++ drop taken piece) (length frame) refl
  where
    within : at ≤ length (take taken piece)
    within = ⊎_elim
        (λ (less : length (take taken piece) < at).
        let none : [] ≡ frame ++ rest = sym (drop_all at (take taken piece) (omega (arith, less))) ∙ is in
        absurd (omega (arith, ap length none, length-append frame rest, some)))
        (λ (le : at ≤ length (take taken piece)). le)
        (cases_lt (length (take taken piece)) at)

spelled_in : (name : Name) (taken at : ℕ) (piece frame : List ℕ) → Spells name (take taken piece) at frame
    → take (length frame) (drop at piece) ≡ frame
spelled_in (Log number) taken at piece frame (format, is_read, header, (item, rest, stands, is)) =
    subst (λ (f : List ℕ). take (length f) (drop at piece) ≡ f) (sym is)
    (front_in taken at piece (item_frame (frames_grammar format) number at item) rest stands.spelled
    (frame_is_some (frames_grammar format) number at item))
spelled_in (Table number) taken at piece frame spelled = absurd spelled
spelled_in (Manifest number) taken at piece frame (item, rest, stands, is) =
    subst (λ (f : List ℕ). take (length f) (drop at piece) ≡ f) (sym is)
    (front_in taken at piece (item_frame (edits_grammar manifest_format) number at item) rest stands.spelled
    (frame_is_some (edits_grammar manifest_format) number at item))

-- A file that is being made has no frame by chance as it is read.
pub part_no_chance : (name : Name) (piece : List ℕ) (file : File) → IsPart piece file
    → NoChanceOne Spells name (Some file) (Some file.bytes)
part_no_chance name piece file part_empty = ended_no_chance name new_file [] (omega arith)
part_no_chance name piece file (part_some taken) = λ grows loose. record {
  first = λ frame here. handed 16 frame here;
  next = λ frame next here behind. handed (16 + length frame) next behind;
}
  where
    handed : (at : ℕ) (frame : List ℕ) → Spells name (take taken piece) at frame
        → WasHandedOver (lengthened piece taken new_file) at frame
    handed at frame here =
        let same : at ≡ at - 0 = omega arith in (
          0,
          record { place = 0; bytes = piece },
          omega arith,
          refl,
          record {
            from = omega arith;
            bytes_are = subst (λ (n : ℕ). take (length frame) (drop n piece) ≡ frame) same
                (spelled_in name taken at piece frame here);
          },
        )
