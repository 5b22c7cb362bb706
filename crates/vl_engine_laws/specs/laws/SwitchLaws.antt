-- A switch of the manifest, for whatever two layouts, both of whose files stand: what a crash leaves meanwhile, and what is held
-- then. Before the switch the disk holds the one, behind it the other.
use Rattle.std.specs.Prelude.{◌≡◌, ◌≢◌, ◌⊎◌, ◌≤◌, ◌<◌, ◌^◌, ℕ, ◌+◌, List, [], ◌∷◌, ◌++◌, length, Some}
use Rattle.std.specs.FinMap.{get}
use Rattle.std.proofs.Common.{sym, ap, ◌∙◌, arith, inl, inr, length-append, ⊎_elim}
use Rattle.std.proofs.lemmas.Bool.{cases_lt}
use Rattle.vl_disk.specs.Changes.{SameElsewhere}
use Rattle.vl_disk.specs.Crash.{Image, WhileAppending, WhileSyncing}
use Rattle.vl_disk.specs.DiskState.{DiskState, appended}
use Rattle.vl_disk.specs.declared.name.Name.{Name}
use Rattle.vl_disk.specs.declared.name.Name.TheVariants.{Manifest}
use Rattle.vl_engine_laws.specs.Held.{Base, HoldsBase, HoldsFiles, IsBase, frames_of}
use Rattle.vl_engine_laws.specs.Pointed.{layout_logs}
use Rattle.vl_engine_laws.specs.Shown.{Shown}
use Rattle.vl_engine_laws.specs.laws.FileLaws.{all_more}
use Rattle.vl_engine_laws.specs.laws.HeldLaws.{shows_under}
use Rattle.vl_engine_laws.specs.laws.KeptLaws.{appending_elsewhere, files_kept, from_beside_manifest, logs_beside_manifest}
use Rattle.vl_engine_laws.specs.laws.KeptLaws.{manifest_same, syncing_elsewhere, tables_beside_manifest, written_elsewhere}
use Rattle.vl_frame.specs.Runs.{HasFrame, item_frame}
use Rattle.vl_engine_model.specs.Sources.{tables}
use Rattle.vl_engine_model.specs.Tidy.{IsTidy}
use Rattle.vl_engine_model.specs.declared.layout.Layout.{Layout}
use Rattle.vl_engine_model.specs.declared.segment.Segment.{Segment}
use Rattle.vl_manifest.specs.Current.{IsCurrent, StandsReadable}
use Rattle.vl_manifest.specs.Grammar.{edits_grammar}
use Rattle.vl_manifest.specs.Manifest.{ReadsManifest, SaysState, manifest_bytes}
use Rattle.vl_manifest.specs.Switching.{WhileSwitching, switched}
use Rattle.vl_manifest.specs.declared.edit.Edit.{Edit}
use Rattle.vl_manifest.specs.declared.state.ManifestState.{ManifestState}
use Rattle.vl_manifest.specs.laws.ManifestLaws.{says_readable}
use Rattle.vl_manifest.specs.laws.SwitchLaws.{one_frame_more, switched_stands, switching_leaves}
use Rattle.vl_model.specs.Formats.{manifest_format}
use Rattle.vl_model.specs.History.{History, last_number}
use Rattle.vl_recover.specs.crash.Alike.{IsLeft}
use Rattle.vl_recover.specs.laws.opening.HeldLaws.{left_nowhere}
use Rattle.vl_recover.specs.laws.opening.LeadsLaws.{nowhere_kept}
use Rattle.vl_recover.specs.laws.opening.OpeningLaws.{some_none}

-- the bytes of one frame more at the manifest's end
abbrev pub switch_frame : Base → List Edit → List ℕ
switch_frame b edits = item_frame (edits_grammar manifest_format) b.manifest.number
    (length (manifest_bytes b.manifest.number (frames_of b))) edits

-- the base behind it
abbrev pub switched_base : Base → List Edit → ManifestState → List Segment → Base
switched_base b edits state before = record {
  manifest = record { number = b.manifest.number; length = b.manifest.length + length (switch_frame b edits) };
  first = b.first;
  others = b.others ++ edits ∷ [];
  state = state;
  before = before;
}

module _ (b : Base) (edits : List Edit) (state : ManifestState) (before : List Segment) (fits : b.manifest.number < 2 ^ 32)
    (has : HasFrame (edits_grammar manifest_format) edits) (mid : DiskState) (holds : HoldsBase b mid) where
  abbrev pub later : Base
  later = switched_base b edits state before

  abbrev pub name : Name
  name = Manifest b.manifest.number

  abbrev pub piece : List ℕ
  piece = switch_frame b edits

  -- the disk on which the frame is durable
  abbrev pub durable : DiskState
  durable = switched b.manifest.number piece mid

  pub switching_elsewhere : (now : DiskState) → WhileSwitching b.manifest.number piece mid now → SameElsewhere name mid now
  switching_elsewhere now during = ⊎_elim
      (λ (appending : WhileAppending name piece mid now). appending_elsewhere name piece mid now appending)
      (λ (syncing : WhileSyncing name (appended name piece (length piece) mid) now). syncing_elsewhere name piece mid now syncing)
      during

  pub above_kept : (now : DiskState) → SameElsewhere name mid now → (m : ℕ) → b.manifest.number < m → Manifest m ≢ name
  above_kept now same m less e = omega (arith, less, manifest_same m b.manifest.number e)

  -- After both calls the disk holds the manifest with the frame,
  pub switch_holds : HoldsBase later durable
  switch_holds = record {
    has = record {
      length_is =
          let sum : length (manifest_bytes b.manifest.number (frames_of b ++ edits ∷ []))
          ≡ length (manifest_bytes b.manifest.number (frames_of b)) + length piece =
          sym (ap length (one_frame_more b.manifest.number fits (frames_of b) edits holds.has.each has mid holds.has.durable))
          ∙ length-append (manifest_bytes b.manifest.number (frames_of b)) piece in
          ap (λ (n : ℕ). n + length piece) holds.has.length_is ∙ sym sum;
      each = all_more (HasFrame (edits_grammar manifest_format)) (frames_of b) (edits ∷ []) holds.has.each (has, tt);
      durable = switched_stands b.manifest.number fits (frames_of b) edits holds.has.each has mid holds.has.durable;
    };
    above = λ m less. nowhere_kept name mid durable (written_elsewhere name piece mid) (Manifest m)
        (above_kept durable (written_elsewhere name piece mid) m less) (holds.above m less);
  }

  -- and what files it held.
  pub switch_keeps : (c : Base) (l : Layout) → HoldsFiles c l mid → HoldsFiles c l durable
  switch_keeps c l files = files_kept name mid durable (written_elsewhere name piece mid) c l
      (tables_beside_manifest b.manifest.number (tables l)) (logs_beside_manifest b.manifest.number l.flushed)
      (from_beside_manifest c.state.head b.manifest.number) files

  -- ---- meanwhile

  -- of two layouts, one before the switch and one behind it
  module _ (h : History) (l next : Layout) (base : IsBase b l h) (tidy : IsTidy (layout_logs l) l h) (files : HoldsFiles b l mid)
      (base_next : IsBase later next h) (tidy_next : IsTidy (layout_logs next) next h) (files_next : HoldsFiles later next mid) where
    -- what is left of the manifest is current, and says the one state or the other
    abbrev pub SaysEither : Image → Type 0
    SaysEither image = (bytes : List ℕ) × IsCurrent image b.manifest.number bytes
        × (SaysState b.manifest.number bytes b.state ⊎ SaysState b.manifest.number bytes state)

    pub switching_says : (now : DiskState) → WhileSwitching b.manifest.number piece mid now → (image : Image) → IsLeft now image
        → SaysEither image
    switching_says now during image left =
        by (switching_leaves b.manifest.number fits (frames_of b) edits holds.has.each has mid holds.has.durable now during
        image left.left (left.no_chance name))
      where
        same : SameElsewhere name mid now
        same = switching_elsewhere now during

        current : (bytes : List ℕ) (s : ManifestState) → get image name ≡ Some bytes → SaysState b.manifest.number bytes s
            → IsCurrent image b.manifest.number bytes
        current bytes s stands says = record {
          here = record { stands = stands; readable = says_readable b.manifest.number bytes s says };
          greatest = λ other others r. not_above other others r (cases_lt b.manifest.number other);
        }
          where
            not_above : (other : ℕ) (others : List ℕ) → StandsReadable image other others
                → (b.manifest.number < other) ⊎ (other ≤ b.manifest.number) → other ≤ b.manifest.number
            not_above other others r either = ⊎_elim
                (λ (less : b.manifest.number < other). absurd (some_none others
                (sym r.stands ∙ left_nowhere now image (Manifest other)
                (nowhere_kept name mid now same (Manifest other) (above_kept now same other less) (holds.above other less)) left.left)))
                (λ (below : other ≤ b.manifest.number). below)
                either

        old_says : (bytes : List ℕ) → ReadsManifest manifest_format b.manifest.number bytes (frames_of b)
            → SaysState b.manifest.number bytes b.state
        old_says bytes reads = record { format = manifest_format; first = b.first; others = b.others; reads = reads; made = base.made }

        new_says : (bytes : List ℕ) → ReadsManifest manifest_format b.manifest.number bytes (frames_of b ++ edits ∷ [])
            → SaysState b.manifest.number bytes state
        new_says bytes reads = record {
          format = manifest_format;
          first = b.first;
          others = b.others ++ edits ∷ [];
          reads = reads;
          made = base_next.made;
        }

        by : ((bytes : List ℕ) × (get image name ≡ Some bytes)
            × (ReadsManifest manifest_format b.manifest.number bytes (frames_of b)
            ⊎ ReadsManifest manifest_format b.manifest.number bytes (frames_of b ++ edits ∷ [])))
            → SaysEither image
        by (bytes, is, either) = ⊎_elim
            (λ (reads : ReadsManifest manifest_format b.manifest.number bytes (frames_of b)).
            (bytes, current bytes b.state is (old_says bytes reads), inl (old_says bytes reads)))
            (λ (reads : ReadsManifest manifest_format b.manifest.number bytes (frames_of b ++ edits ∷ [])).
            (bytes, current bytes state is (new_says bytes reads), inr (new_says bytes reads)))
            either

    -- Whatever a crash leaves while the frame is appended and synced shows the history.
    pub switching_shows : (now : DiskState) → WhileSwitching b.manifest.number piece mid now → (image : Image) → IsLeft now image
        → Shown image h (last_number h)
    switching_shows now during image left = by (switching_says now during image left)
      where
        stay : (c : Base) (k : Layout) → HoldsFiles c k mid → HoldsFiles c k now
        stay c k stand = files_kept name mid now (switching_elsewhere now during) c k
            (tables_beside_manifest b.manifest.number (tables k)) (logs_beside_manifest b.manifest.number k.flushed)
            (from_beside_manifest c.state.head b.manifest.number) stand

        by : SaysEither image → Shown image h (last_number h)
        by (bytes, current, either) = ⊎_elim
            (λ (says : SaysState b.manifest.number bytes b.state).
            shows_under b l h base tidy now (stay b l files) image left.left bytes current says)
            (λ (says : SaysState b.manifest.number bytes state).
            shows_under later next h base_next tidy_next now (stay later next files_next) image left.left bytes current says)
            either
