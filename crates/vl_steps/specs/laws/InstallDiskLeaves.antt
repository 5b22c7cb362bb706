-- What numbers a crash leaves of a disk on which an install failed: none above the next ones.
use Rattle.std.specs.Prelude.{◌≡◌, ◌⊎◌, ◌≤◌, ◌<◌, ◌^◌, ℕ, List, [], ◌∷◌, ◌++◌, map, Option, None, Some, Ok, refl}
use Rattle.std.specs.FinMap.{get}
use Rattle.std.specs.Option.{option_map}
use Rattle.std.proofs.Common.{sym, ap, subst, ◌∙◌, arith, inl, inr, ⊎_elim}
use Rattle.std.proofs.lemmas.Bool.{cases_lt}
use Rattle.vl_back.specs.InstallEdits.{Replacing, install_switch}
use Rattle.vl_back.specs.InstallStaging.{replacing_of}
use Rattle.vl_compact.specs.declared.files.Synced.{Synced}
use Rattle.vl_compact.specs.declared.job.Job.{Job}
use Rattle.vl_compact.specs.declared.ready.ReadyLevels.{ReadyLevels}
use Rattle.vl_disk.specs.Calls.{ChangesNothing}
use Rattle.vl_disk.specs.Changes.{SameElsewhere}
use Rattle.vl_disk.specs.Crash.{Image}
use Rattle.vl_disk.specs.DiskState.{DiskState, File}
use Rattle.vl_disk.specs.Lending.{adopted}
use Rattle.vl_disk.specs.Moments.{While}
use Rattle.vl_disk.specs.declared.name.Name.TheVariants as names
use Rattle.vl_disk.specs.declared.name.Name.{Name}
use Rattle.vl_disk.specs.declared.watched.Watched.{Ghosts}
use Rattle.vl_disk.specs.declared.writer.Writer.{Ghosts as Writers}
use Rattle.vl_disk.specs.laws.NameMap.{get_inserted_other, get_removed_other}
use Rattle.vl_engine_laws.specs.laws.Carrying.{IsWatched}
use Rattle.vl_engine_laws.specs.laws.InstallDiskEdits.{install_any_next, install_gives, install_head}
use Rattle.vl_steps.specs.laws.Leaving.{base_numbers, either_state, manifest_held}
use Rattle.vl_engine_laws.specs.Held.{Base, HoldsBase, frames_of}
use Rattle.vl_steps.specs.Installing.{IsReadyFor, StopsInstalling, StopsSwitching}
use Rattle.vl_engine_laws.specs.Represents.{IsHeld, Represents, file_of}
use Rattle.vl_engine_laws.specs.MayStep.{LeavesNumbers}
use Rattle.vl_steps.specs.Taking.{StopsTaking, file_of_table, with_files}
use Rattle.vl_steps.specs.declared.install.ReadyInstall.{ReadyInstall}
use Rattle.vl_engine_laws.specs.declared.kept.Core.{Core}
use Rattle.vl_engine_laws.specs.laws.FlushBase.{state_more}
use Rattle.vl_engine_laws.specs.laws.KeptLaws.{base_kept, manifests_beside_table}
use Rattle.vl_engine_laws.specs.laws.SwitchLaws.{above_kept, switch_frame, switching_elsewhere}
use Rattle.vl_frame.specs.Runs.{HasFrame, item_frame}
use Rattle.vl_engine_model.specs.declared.layout.Layout.{Layout}
use Rattle.vl_manifest.specs.Current.{IsCurrent, StandsReadable}
use Rattle.vl_manifest.specs.Grammar.{edits_grammar}
use Rattle.vl_manifest.specs.Manifest.{ReadsManifest, SaysState, state_of}
use Rattle.vl_manifest.specs.States.{next_state}
use Rattle.vl_manifest.specs.Switching.{WhileSwitching}
use Rattle.vl_manifest.specs.declared.edit.Edit.{Edit}
use Rattle.vl_manifest.specs.declared.manifest_log.ManifestLog.{ManifestLog}
use Rattle.vl_manifest.specs.declared.state.ManifestState.{ManifestState}
use Rattle.vl_manifest.specs.laws.ManifestLaws.{says_readable}
use Rattle.vl_manifest.specs.laws.SwitchLaws.{switching_leaves}
use Rattle.vl_model.specs.Formats.{manifest_format}
use Rattle.vl_model.specs.History.{History}
use Rattle.vl_recover.specs.crash.Alike.{IsLeft}
use Rattle.vl_recover.specs.laws.opening.HeldLaws.{held_state, left_nowhere}
use Rattle.vl_recover.specs.laws.opening.LeadsLaws.{nowhere_kept}
use Rattle.vl_recover.specs.laws.opening.OpeningLaws.{some_none}
use Rattle.vl_recover.specs.opening.Opening.{Opening, Opens}
use Rattle.vl_table.specs.Tables.{number_of}
use Rattle.vl_version.specs.declared.base.Base as version_base

-- ---- files that are taken back

-- what is done with a file that is taken back leaves the others
adopted_elsewhere : (name : Name) (file : File) (disk : DiskState) → SameElsewhere name disk (adopted name file disk)
adopted_elsewhere name file disk = record {
  standing = get_inserted_other disk.standing name file;
  removed = get_removed_other disk.removed name;
}

-- The manifest stays, whatever tables' files are taken back.
base_beside : {W : Type 0} (w : Writers W) {s : _} (b : Base) (ts : List (Synced W s)) (disk : DiskState) → HoldsBase b disk
    → HoldsBase b (with_files w ts disk)
base_beside w b [] disk holds = holds
base_beside w b (t ∷ ts) disk holds =
    let now = adopted (names.Table t.number) (file_of_table w t) disk in
    base_beside w b ts now
    (base_kept (names.Table t.number) disk now (adopted_elsewhere (names.Table t.number) (file_of_table w t) disk) b
    (manifests_beside_table b.manifest.number t.number) holds)

-- ---- a frame that is appended and synced

module _ (b : Base) (edits : List Edit) (state : ManifestState) (fits : b.manifest.number < 2 ^ 32)
    (has : HasFrame (edits_grammar manifest_format) edits) (mid : DiskState) (holds : HoldsBase b mid)
    (made : state_of manifest_format b.manifest.number b.first b.others ≡ Ok b.state)
    (made_then : state_of manifest_format b.manifest.number b.first (b.others ++ edits ∷ []) ≡ Ok state) where
  -- What is left of the manifest is current, and says the one state or the other.
  abbrev Either : Image → Type 0
  Either image = (bytes : List ℕ) × IsCurrent image b.manifest.number bytes
      × (SaysState b.manifest.number bytes b.state ⊎ SaysState b.manifest.number bytes state)

  says_either : (now : DiskState) → WhileSwitching b.manifest.number (switch_frame b edits) mid now → (image : Image)
      → IsLeft now image → Either image
  says_either now during image left =
      by (switching_leaves b.manifest.number fits (frames_of b) edits holds.has.each has mid holds.has.durable now during
      image left.left (left.no_chance (names.Manifest b.manifest.number)))
    where
      same : SameElsewhere (names.Manifest b.manifest.number) mid now
      same = switching_elsewhere b edits state b.before fits has mid holds now during

      current : (bytes : List ℕ) (s : ManifestState) → get image (names.Manifest b.manifest.number) ≡ Some bytes
          → SaysState b.manifest.number bytes s → IsCurrent image b.manifest.number bytes
      current bytes s stands says = record {
        here = record { stands = stands; readable = says_readable b.manifest.number bytes s says };
        greatest = λ other others r. not_above other others r (cases_lt b.manifest.number other);
      }
        where
          not_above : (other : ℕ) (others : List ℕ) → StandsReadable image other others
              → (b.manifest.number < other) ⊎ (other ≤ b.manifest.number) → other ≤ b.manifest.number
          not_above other others r either = ⊎_elim
              (λ (less : b.manifest.number < other). absurd (some_none others
              (sym r.stands ∙ left_nowhere now image (names.Manifest other)
              (nowhere_kept (names.Manifest b.manifest.number) mid now same (names.Manifest other)
              (above_kept b edits state b.before fits has mid holds now same other less) (holds.above other less)) left.left)))
              (λ (below : other ≤ b.manifest.number). below)
              either

      old_says : (bytes : List ℕ) → ReadsManifest manifest_format b.manifest.number bytes (frames_of b)
          → SaysState b.manifest.number bytes b.state
      old_says bytes reads = record { format = manifest_format; first = b.first; others = b.others; reads = reads; made = made }

      new_says : (bytes : List ℕ) → ReadsManifest manifest_format b.manifest.number bytes (frames_of b ++ edits ∷ [])
          → SaysState b.manifest.number bytes state
      new_says bytes reads = record {
        format = manifest_format;
        first = b.first;
        others = b.others ++ edits ∷ [];
        reads = reads;
        made = made_then;
      }

      by : ((bytes : List ℕ) × (get image (names.Manifest b.manifest.number) ≡ Some bytes)
          × (ReadsManifest manifest_format b.manifest.number bytes (frames_of b)
          ⊎ ReadsManifest manifest_format b.manifest.number bytes (frames_of b ++ edits ∷ [])))
          → Either image
      by (bytes, is, either) = ⊎_elim
          (λ (reads : ReadsManifest manifest_format b.manifest.number bytes (frames_of b)).
          (bytes, current bytes b.state is (old_says bytes reads), inl (old_says bytes reads)))
          (λ (reads : ReadsManifest manifest_format b.manifest.number bytes (frames_of b ++ edits ∷ [])).
          (bytes, current bytes state is (new_says bytes reads), inr (new_says bytes reads)))
          either

-- ---- where it failed

module _ {D H R W : Type 0} (g : Ghosts D) (watched : IsWatched g) (bytes : H → Option (List ℕ)) (w : Writers W) {s : _}
    (job : Job (version_base.Base H R) H W s) (before : Core H) (old new : D) (none : before.front.halted ≡ None) (h : History)
    (l : Layout) (is : Represents bytes before (g.told old) h l) (within : before.back.state.next_log ≤ before.back.next_log)
    (ready : ReadyInstall H) (is_ready : IsReadyFor bytes w before job ready) (begun : D) (quiet : ChangesNothing g old begun ⊥)
    (levels : ReadyLevels H) (name : Name)
    (stops : StopsInstalling g bytes w job.made.items before.back.manifest.number ready.staged.edits.frame.items begun new
    ready.levels levels name) where
  held : IsHeld before.back (g.told old) h l
  held = is.held (sym is.stands.fronts.halted ∙ ap (option_map file_of) none)

  abbrev b : Base
  b = held.base

  -- what was staged
  abbrev r : Replacing
  r = replacing_of before.back (map number_of job.inputs.tables.items) (map (λ (t : Synced W s). t.number) job.made.items)
      ready.levels.level ready.levels.position is_ready.gone

  abbrev edits : List Edit
  edits = install_switch r b.state

  edits_are : install_switch r before.back.state ≡ edits
  edits_are = ap (install_switch r) held.back_is.state

  has : HasFrame (edits_grammar manifest_format) edits
  has = subst (HasFrame (edits_grammar manifest_format)) edits_are is_ready.staged.frame.has

  manifest_is : before.back.manifest.number ≡ b.manifest.number
  manifest_is = ap (λ (x : ManifestLog). x.number) held.back_is.manifest

  frame_is : ready.staged.edits.frame.items ≡ switch_frame b edits
  frame_is = is_ready.staged.frame.frame
      ∙ ap (item_frame (edits_grammar manifest_format) before.back.manifest.number before.back.manifest.length) edits_are
      ∙ ap (λ (m : ManifestLog). item_frame (edits_grammar manifest_format) m.number m.length edits) held.back_is.manifest
      ∙ ap (λ (n : ℕ). item_frame (edits_grammar manifest_format) b.manifest.number n edits) held.holds.base.has.length_is

  makes : next_state edits b.state ≡ Some ready.staged.state
  makes = sym (install_any_next r b.state l.next_table)
      ∙ ap (next_state edits) (sym held.back_is.state)
      ∙ ap (λ (es : List Edit). next_state es before.back.state) (sym edits_are) ∙ is_ready.staged.says

  abbrev Fine : Opening → Type 0
  Fine o = (o.state.next_log ≤ l.next_log) × (o.state.next_table ≤ l.next_table) × (o.state.head ≤ l.next_log)

  -- the manifest said it before
  as_before : (o : Opening) → o.state ≡ b.state → Fine o
  as_before o same =
      let (log, table, head) =
      base_numbers before.back b l h held.is_base is.stands.tidy held.state held.holds held.back_is within o same in
      let told = ap (λ (x : ManifestState). x.next_table) same in
      let given = held.back_is.next_table in
      (log, omega (arith, told, given), head)

  -- or says it since
  as_staged : (o : Opening) → o.state ≡ ready.staged.state → Fine o
  as_staged o same =
      let (log, table, head) = as_before (record o { state = b.state }) refl in
      let gives = install_gives r before.back.state ready.staged.state is_ready.staged.says in
      let next_log = ap (λ (x : ManifestState). x.next_log) same ∙ gives.0 ∙ held.back_is.next_log in
      let next_table = ap (λ (x : ManifestState). x.next_table) same ∙ gives.1
      ∙ ap (λ (x : ManifestState). x.next_table) held.back_is.state in
      let kept = ap (λ (x : ManifestState). x.head) same
      ∙ install_head r before.back.state ready.staged.state is_ready.staged.says
      ∙ ap (λ (x : ManifestState). x.head) held.back_is.state in
      (omega (arith, next_log), omega (arith, next_table), omega (arith, kept, head))

  -- with files that were taken back
  module _ (ts : List (Synced W s)) where
    abbrev taken : DiskState
    taken = with_files w ts held.state

    base_taken : HoldsBase b taken
    base_taken = base_beside w b ts held.state held.holds.base

    taken_fine : (image : Image) (o : Opening) → IsLeft taken image → Opens image (Ok o) → Fine o
    taken_fine image o left opens = as_before o
        (held_state b.state taken (manifest_held b l h held.is_base taken base_taken) image o left.left opens)

    switching_fine : (now : DiskState)
        → WhileSwitching before.back.manifest.number ready.staged.edits.frame.items taken now → (image : Image) (o : Opening)
        → IsLeft now image → Opens image (Ok o) → Fine o
    switching_fine now during image o left opens =
        let so = subst (λ (frame : List ℕ). WhileSwitching b.manifest.number frame taken now) frame_is
        (subst (λ (n : ℕ). WhileSwitching n ready.staged.edits.frame.items taken now) manifest_is during) in
        let (said, current, either) =
        says_either b edits ready.staged.state held.is_base.numbered has taken base_taken held.is_base.made
        (state_more b.manifest.number b.first b.others edits b.state ready.staged.state held.is_base.made makes) now so image left in
        ⊎_elim (λ (first : o.state ≡ b.state). as_before o first) (λ (then : o.state ≡ ready.staged.state). as_staged o then)
        (either_state b.manifest.number said b.state ready.staged.state image o opens current either)

  told_begun : g.told begun ≡ Some held.state
  told_begun = quiet.told ∙ held.told_is

  -- Whatever a crash leaves gives no number above the next ones.
  pub uninstalled_leaves : (now : DiskState) → g.told new ≡ Some now → LeavesNumbers l.next_log l.next_table now
  uninstalled_leaves now told image o left opens = ⊎_elim
      (λ (at : StopsTaking g w job.made.items begun new name).
      let ts = at.before ++ at.at ∷ [] in
      let there : now ≡ taken ts = some_state now (taken ts)
      (sym told ∙ at.takes.changed ∙ ap (option_map (with_files w ts)) told_begun) in
      taken_fine ts image o (subst (λ (x : DiskState). IsLeft x image) there left) opens)
      (λ (at : StopsSwitching g bytes w job.made.items before.back.manifest.number ready.staged.edits.frame.items begun new
      ready.levels levels name).
      let ts = at.took.front in
      let told_mid = at.took.takes.changed ∙ ap (option_map (with_files w ts)) told_begun in
      ⊎_elim
      (λ (early : g.states_since at.mid (g.moment at.mid) now).
      taken_fine ts image o
      (subst (λ (x : DiskState). IsLeft x image) (watched.only_now at.mid (taken ts) now told_mid early) left) opens)
      (λ (during : While (g.told at.mid) (WhileSwitching before.back.manifest.number ready.staged.edits.frame.items) now).
      switching_fine ts now (during (taken ts) told_mid) image o left opens)
      (at.switches.performs.time.nothing_else (g.moment at.mid) now (omega arith)
      (watched.counts_now new now (g.moment at.mid) told at.switches.performs.time.later)))
      stops
    where
      some_state : (a c : DiskState) → Some a ≡ Some c → a ≡ c
      some_state a c e = cc
