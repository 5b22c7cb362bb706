-- What a crash leaves of a manifest that is switched, and what a switch makes of it.
use Rattle.std.specs.Prelude.{◌≡◌, ◌⊎◌, ◌+◌, ◌<◌, ◌≤◌, ◌^◌, ℕ, true, false, List, [], ◌∷◌, ◌++◌, length, Option, None, Some, refl}
use Rattle.std.specs.List.{AllByRecursion}
use Rattle.std.specs.Option.{option_map}
use Rattle.std.specs.FinMap.{get}
use Rattle.std.proofs.Common.{sym, ap, subst, ◌∙◌, inl, inr, ⊎_elim, arith, append_assoc, length-append}
use Rattle.std.proofs.lemmas.List.{take_all}
use Rattle.vl_disk.specs.Chance.{HasOnlyHandedOver, NoChanceOne}
use Rattle.vl_disk.specs.Changes.{changed_there}
use Rattle.vl_disk.specs.Crash.{Agrees, MayLeaveOne, WhileAppending, WhileSyncing, last_file}
use Rattle.vl_disk.specs.DiskState.{DiskState, File, appended, lengthened, settled, synced_file}
use Rattle.vl_disk.specs.MadeFile.{made}
use Rattle.vl_disk.specs.laws.NameMap.{get_inserted}
use Rattle.vl_disk.specs.declared.name.Name.{Name}
use Rattle.vl_disk.specs.declared.name.Name.TheVariants.{Manifest}
use Rattle.vl_frame.specs.Begins.{SpellsAt}
use Rattle.vl_frame.specs.laws.HeaderLaws.{length-header_bytes}
use Rattle.vl_frame.specs.laws.RunLaws.{run_bytes-more}
use Rattle.vl_frame.specs.Runs.{HasFrame, item_frame, run_bytes}
use Rattle.vl_frame.specs.declared.kinds.FileKind.TheVariants as files
use Rattle.vl_model.specs.Formats.{manifest_format}
use Rattle.vl_manifest.specs.declared.edit.Edit.{Edit}
use Rattle.vl_manifest.specs.Grammar.{edits_grammar}
use Rattle.vl_manifest.specs.Manifest.{ReadsManifest, manifest_bytes, manifest_header}
use Rattle.vl_manifest.specs.declared.manifest_log.ManifestLog.{ManifestLog}
use Rattle.vl_manifest.specs.Making.{new_manifest}
use Rattle.vl_manifest.specs.Switching.{HasFrames, LeavesFrames, WhileSwitching, switched}
use Rattle.vl_manifest.specs.laws.ManifestLaws.{front_header, manifest_reads}
use Rattle.vl_manifest.specs.laws.TornRuns.{SaysItems, torn_says}

pub length-manifest_header : (number : ℕ) → length (manifest_header number) ≡ 16
length-manifest_header number = length-header_bytes files.Manifest manifest_format number

-- what reads as the frames of a run
items_read : (number : ℕ) (bytes : List ℕ) (frames : List (List Edit)) → number < 2 ^ 32
    → SaysItems (edits_grammar manifest_format) number (manifest_header number) bytes frames
    → ReadsManifest manifest_format number bytes frames
items_read number bytes frames fits items =
    record { header = front_header number bytes fits items.front; reads = items.reads }

-- ---- by the file that stands

abbrev Reads : ℕ → List (List Edit) → List Edit → List ℕ → Type 0
Reads number frames edits bytes =
    ReadsManifest manifest_format number bytes frames ⊎ ReadsManifest manifest_format number bytes (frames ++ edits ∷ [])

module _ (number : ℕ) (frames : List (List Edit)) (edits : List Edit) (now : DiskState) (file : File)
    (stands : get now.standing (Manifest number) ≡ Some file) (lasts : file.lasting ≡ true) where
  file_leaves : ((bytes : List ℕ) → Agrees file bytes
      → (file.wholly_synced ≡ false → HasOnlyHandedOver file (SpellsAt (edits_grammar manifest_format) number bytes))
      → Reads number frames edits bytes)
      → LeavesFrames number frames edits now
  file_leaves reads image may chance =
      by (get image (Manifest number)) refl
      (subst (λ (o : Option File). MayLeaveOne o (get now.removed (Manifest number)) (get image (Manifest number)))
      stands (may (Manifest number)))
      (subst (λ (o : Option File). NoChanceOne spells (Manifest number)
      (last_file o (get now.removed (Manifest number))) (get image (Manifest number))) stands chance)
    where
      spells : Name → List ℕ → ℕ → List ℕ → Type 0
      spells name = SpellsAt (edits_grammar manifest_format) number

      by : (o : Option (List ℕ)) → get image (Manifest number) ≡ o → MayLeaveOne (Some file) (get now.removed (Manifest number)) o
          → NoChanceOne spells (Manifest number) (Some file) o
          → (bytes : List ℕ) × (get image (Manifest number) ≡ Some bytes) × Reads number frames edits bytes
      by None is never none = absurd (lost lasts never)
        where
          lost : file.lasting ≡ true → file.lasting ≡ false → ⊥
          lost it never = absurd (let both : true ≡ false = sym it ∙ never in cc)
      by (Some bytes) is agrees none = (bytes, is, reads bytes agrees (none tt))

-- ---- at each moment

module _ (number : ℕ) (fits : number < 2 ^ 32) (frames : List (List Edit)) (edits : List Edit)
    (have : AllByRecursion (HasFrame (edits_grammar manifest_format)) frames) (has : HasFrame (edits_grammar manifest_format) edits)
    (disk : DiskState) (durable : get disk.standing (Manifest number) ≡ Some (settled (manifest_bytes number frames))) where
  -- the frame behind the others, and the manifest with it
  abbrev piece : List ℕ
  piece = item_frame (edits_grammar manifest_format) number (length (manifest_bytes number frames)) edits

  abbrev before : List ℕ
  before = manifest_bytes number frames

  abbrev after : List ℕ
  after = manifest_bytes number (frames ++ edits ∷ [])

  ends_at : length before ≡ 16 + length (run_bytes (edits_grammar manifest_format) number 16 frames)
  ends_at = length-append (manifest_header number) (run_bytes (edits_grammar manifest_format) number 16 frames)
      ∙ ap (λ (n : ℕ). n + length (run_bytes (edits_grammar manifest_format) number 16 frames)) (length-manifest_header number)

  both_have : AllByRecursion (HasFrame (edits_grammar manifest_format)) (frames ++ edits ∷ [])
  both_have = all_more frames have
    where
      all_more : (fs : List (List Edit)) → AllByRecursion (HasFrame (edits_grammar manifest_format)) fs
          → AllByRecursion (HasFrame (edits_grammar manifest_format)) (fs ++ edits ∷ [])
      all_more [] all = (has, tt)
      all_more (f ∷ fs) all = (all.0, all_more fs all.1)

  -- Behind the frames stands the new one.
  pub one_frame_more : before ++ piece ≡ after
  one_frame_more =
      ap (λ (n : ℕ). before ++ item_frame (edits_grammar manifest_format) number n edits) ends_at
      ∙ append_assoc (manifest_header number) (run_bytes (edits_grammar manifest_format) number 16 frames) _
      ∙ ap (λ (l : List ℕ). manifest_header number ++ l) (sym (run_bytes-more (edits_grammar manifest_format) number 16 frames edits))

  -- nothing was done yet
  untouched : LeavesFrames number frames edits disk
  untouched = file_leaves number frames edits disk (settled before) durable refl (λ bytes agrees chance.
      inl (subst (λ (b : List ℕ). ReadsManifest manifest_format number b frames) (sym (agrees.whole refl))
      (manifest_reads number frames fits have)))

  -- some first bytes were taken
  taken_stands : (taken : ℕ) → get (appended (Manifest number) piece taken disk).standing (Manifest number)
      ≡ Some (lengthened piece taken (settled before))
  taken_stands taken = changed_there (Manifest number) disk (lengthened piece taken) ∙ ap (option_map (lengthened piece taken)) durable

  torn : (taken : ℕ) → LeavesFrames number frames edits (appended (Manifest number) piece taken disk)
  torn taken = file_leaves number frames edits (appended (Manifest number) piece taken disk) (lengthened piece taken (settled before))
      (taken_stands taken) refl (λ bytes agrees chance. by bytes
      (subst (λ (n : ℕ). Agrees (file_at_end n) bytes) ends_at agrees)
      (subst (λ (n : ℕ). HasOnlyHandedOver (file_at_end n) (SpellsAt (edits_grammar manifest_format) number bytes)) ends_at (chance refl)))
    where
      file_at_end : ℕ → File
      file_at_end n = lengthened (item_frame (edits_grammar manifest_format) number n edits) taken (settled before)

      by : (bytes : List ℕ) → Agrees (file_at_end (16 + length (run_bytes (edits_grammar manifest_format) number 16 frames))) bytes
          → HasOnlyHandedOver (file_at_end (16 + length (run_bytes (edits_grammar manifest_format) number 16 frames)))
          (SpellsAt (edits_grammar manifest_format) number bytes)
          → Reads number frames edits bytes
      by bytes agrees only = ⊎_elim
          (λ (old : SaysItems (edits_grammar manifest_format) number (manifest_header number) bytes frames). inl
          (items_read number bytes frames fits old))
          (λ (more : SaysItems (edits_grammar manifest_format) number (manifest_header number) bytes
          (frames ++ edits ∷ [])). inr (items_read number bytes (frames ++ edits ∷ []) fits more))
          (torn_says (edits_grammar manifest_format) number (manifest_header number) (length-manifest_header number)
          frames edits has taken have bytes agrees only)

  -- Behind the switch the manifest has the new frame too, and is durable.
  pub switched_stands : get (switched number piece disk).standing (Manifest number) ≡ Some (settled after)
  switched_stands =
      changed_there (Manifest number) (appended (Manifest number) piece (length piece) disk) synced_file
      ∙ ap (option_map synced_file) (taken_stands (length piece))
      ∙ ap (λ (b : List ℕ). Some (settled (before ++ b))) (take_all (length piece) piece (omega arith))
      ∙ ap (λ (b : List ℕ). Some (settled b)) one_frame_more

  done : LeavesFrames number frames edits (switched number piece disk)
  done = file_leaves number frames edits (switched number piece disk) (settled after) switched_stands refl (λ bytes agrees chance.
      inr (subst (λ (b : List ℕ). ReadsManifest manifest_format number b (frames ++ edits ∷ [])) (sym (agrees.whole refl))
      (manifest_reads number (frames ++ edits ∷ []) fits both_have)))

  -- Whatever a crash leaves while the frame is appended and synced reads as the frames before, or as these and the new one.
  pub switching_leaves : (now : DiskState) → WhileSwitching number piece disk now → LeavesFrames number frames edits now
  switching_leaves now = ⊎_elim
      (λ (appending : WhileAppending (Manifest number) piece disk now). ⊎_elim
      (λ (same : now ≡ disk). back same untouched)
      (λ (part : (taken : ℕ) × (taken ≤ length piece) × (now ≡ appended (Manifest number) piece taken disk)). back part.2 (torn part.0))
      appending)
      (λ (syncing : WhileSyncing (Manifest number) (appended (Manifest number) piece (length piece) disk) now). ⊎_elim
      (λ (same : now ≡ appended (Manifest number) piece (length piece) disk). back same (torn (length piece)))
      (λ (same : now ≡ switched number piece disk). back same done)
      syncing)
    where
      back : {other : DiskState} → now ≡ other → LeavesFrames number frames edits other → LeavesFrames number frames edits now
      back same leaves = subst (LeavesFrames number frames edits) (sym same) leaves

-- ---- a manifest that was just made

-- It has the frame that it was made of.
pub made_has_frames : (number : ℕ) (edits : List Edit) (log : ManifestLog) (old : DiskState)
    → log ≡ record { number = number; length = length (new_manifest number edits) }
    → ReadsManifest manifest_format number (new_manifest number edits) (edits ∷ [])
    → HasFrames log (edits ∷ []) (made (Manifest number) (new_manifest number edits) old)
made_has_frames number edits log old is reads =
    let stands = reads.reads.1 in
    subst (λ (l : ManifestLog). HasFrames l (edits ∷ []) (made (Manifest number) (new_manifest number edits) old)) (sym is) (record {
      length_is = refl;
      each = (record { lawful = stands.lawful; short = stands.short }, tt);
      durable = get_inserted old.standing (Manifest number) (settled (new_manifest number edits));
    })
