-- A change of how many versions are kept: one switch of the manifest. Whatever a crash leaves meanwhile shows the history, and
-- then the disk holds the layout that the ruling leaves.
use Rattle.std.specs.Prelude.{◌≡◌, ◌≢◌, ◌≤◌, ◌==◌, ℕ, ◌||◌, Bool, true, false, length, nat_lt, if◌then◌else◌, List}
use Rattle.std.specs.Prelude.{[], ◌∷◌, Some, None, refl}
use Rattle.std.specs.FinMap.{get}
use Rattle.std.proofs.Common.{sym, ap, ◌∙◌, arith, ⊎_elim}
use Rattle.std.proofs.lemmas.Bool.Decides.{nat_tests}
use Rattle.vl_disk.specs.Crash.{Image}
use Rattle.vl_disk.specs.DiskState.{DiskState, File, appended, settled}
use Rattle.vl_disk.specs.declared.name.Name.TheVariants as names
use Rattle.vl_disk.specs.laws.Lawful.{appended_lawful, synced_lawful}
use Rattle.vl_disk.specs.laws.NameMap.{same_or_other}
use Rattle.vl_engine_laws.specs.Held.{Base, Holds, HoldsFiles, IsBase, frames_of}
use Rattle.vl_engine_laws.specs.Pointed.{layout_logs}
use Rattle.vl_engine_laws.specs.Shown.{Shown}
use Rattle.vl_engine_laws.specs.Spared.{at_rest}
use Rattle.vl_engine_laws.specs.laws.FlushBase.{state_more}
use Rattle.vl_engine_laws.specs.laws.KeptLaws.{written_elsewhere}
use Rattle.vl_engine_laws.specs.laws.OpensAgain.{switching_opens_again}
use Rattle.vl_engine_laws.specs.laws.SparedSteps.{spares_keeping}
use Rattle.vl_engine_laws.specs.laws.SwitchLaws.{switch_frame, switch_holds, switch_keeps, switched_base, switching_shows}
use Rattle.vl_frame.specs.Runs.{HasFrame}
use Rattle.vl_engine_model.specs.Ruling.{Ruling, leaving}
use Rattle.vl_engine_model.specs.Rulings.Keep.{Halted, InvalidRequest, KeepAnswer, Kept, keep_ruling, keep_unless, keeping}
use Rattle.vl_engine_model.specs.Tidy.{IsTidy}
use Rattle.vl_engine_model.specs.declared.file_name.FileName.{FileName}
use Rattle.vl_engine_model.specs.declared.layout.Layout.{Layout}
use Rattle.vl_engine_model.specs.laws.LowShows.{since-up}
use Rattle.vl_engine_model_laws.specs.laws.TidySteps.{tidy_keeping}
use Rattle.vl_manifest.specs.Grammar.{edits_grammar}
use Rattle.vl_manifest.specs.Manifest.{manifest_bytes}
use Rattle.vl_manifest.specs.States.{all_applied, as_draft, finish, given_if, max_keep, next_state, then_applied}
use Rattle.vl_manifest.specs.Switching.{WhileSwitching, switched}
use Rattle.vl_manifest.specs.declared.edit.Edit.TheVariants.{Keep}
use Rattle.vl_manifest.specs.declared.edit.Edit.{Edit}
use Rattle.vl_manifest.specs.declared.state.ManifestState.{ManifestState}
use Rattle.vl_manifest.specs.laws.StateLaws.{keep_passes}
use Rattle.vl_model.specs.Formats.{manifest_format}
use Rattle.vl_model.specs.History.{History, last_number}
use Rattle.vl_model.specs.Limits.{max_commit_number}
use Rattle.vl_recover.specs.crash.Alike.{IsLeft}
use Rattle.vl_recover.specs.crash.Starts.{MayOpen}
use Rattle.vl_recover.specs.laws.opening.OpeningLaws.{some_same}
use Rattle.vl_recover.specs.crash.Held.{AllSettled}

-- ---- the ruling

-- what it is where another number is kept from now on
abbrev pub keep_made : Layout → History → ℕ → Ruling KeepAnswer
keep_made l h v = record { answer = Kept; history = h; layout = keeping v h l; calls = 2; gone = [] }

pub keep_halted : (l : Layout) (h : History) (v : ℕ) (name : FileName) → l.halted ≡ Some name
    → leaving (Halted name) h l ≡ keep_ruling l h v
keep_halted l h v name halted = sym (ap (λ o. keep_unless o l h v) halted)

module _ (l : Layout) (h : History) (v : ℕ) (running : l.halted ≡ None) where
  -- by whether it may be kept, and whether it is already
  abbrev keep_by : Bool → Bool → Ruling KeepAnswer
  keep_by wrong same = if wrong then leaving InvalidRequest h l else (if same then leaving Kept h l else keep_made l h v)

  runs : keep_by ((v == 0) || nat_lt 16 v) (v == l.keep) ≡ keep_ruling l h v
  runs = sym (ap (λ o. keep_unless o l h v) running)

  pub keep_invalid : ((v == 0) || nat_lt 16 v) ≡ true → leaving InvalidRequest h l ≡ keep_ruling l h v
  keep_invalid wrong = sym (ap (λ b. keep_by b (v == l.keep)) wrong) ∙ runs

  module _ (some : 1 ≤ v) (few : v ≤ max_keep) where
    right : ((v == 0) || nat_lt 16 v) ≡ false
    right = by (v == 0) refl (nat_lt 16 v) refl
      where
        by : (a : Bool) → (v == 0) ≡ a → (b : Bool) → nat_lt 16 v ≡ b → (a || b) ≡ false
        by true is b at = absurd (let none : v ≡ 0 = grind (arith, nat_tests, is) in omega (arith, none, some))
        by false is true at = absurd (grind (arith, nat_tests, at, few))
        by false is false at = refl

    pub keep_same : v ≡ l.keep → leaving Kept h l ≡ keep_ruling l h v
    keep_same same =
        let is : (v == l.keep) ≡ true = grind (arith, nat_tests, same) in
        sym (ap (λ b. keep_by b (v == l.keep)) right ∙ ap (keep_by false) is) ∙ runs

    pub keep_other : v ≢ l.keep → keep_made l h v ≡ keep_ruling l h v
    keep_other apart =
        sym (ap (λ b. keep_by b (v == l.keep)) right ∙ ap (keep_by false) (by (v == l.keep) refl)) ∙ runs
      where
        by : (b : Bool) → (v == l.keep) ≡ b → (v == l.keep) ≡ false
        by true is = absurd (apart (grind (arith, nat_tests, is)))
        by false is = is

-- ---- what the switch makes of a state

abbrev pub kept_state : ManifestState → (versions since : ℕ) → ManifestState
kept_state s versions since = record s { keep = versions; since = since }

pub keep_makes : (s : ManifestState) (versions since : ℕ) → 1 ≤ versions → versions ≤ max_keep → since ≤ max_commit_number
    → next_state (Keep versions since ∷ []) s ≡ Some (kept_state s versions since)
keep_makes s versions since some few known =
    ap (λ (b : Bool). finish (then_applied (all_applied []) (given_if b (record (as_draft s) { keep = versions; since = since }))))
    (keep_passes versions since some few known)

-- ---- a change

-- the edits of its switch
abbrev pub edits_of : Layout → History → ℕ → List Edit
edits_of l h v = Keep v (keeping v h l).since ∷ []

-- What is asked of it: it is a number that may be kept, and the frame can be spelled.
pub record CanKeep (l : Layout) (h : History) (v : ℕ) : Type 0 where
  pub some : 1 ≤ v
  pub few : v ≤ max_keep
  pub frame : HasFrame (edits_grammar manifest_format) (edits_of l h v)

module _ (b : Base) (l : Layout) (h : History) (v : ℕ) (disk : DiskState) (base : IsBase b l h)
    (tidy : IsTidy (layout_logs l) l h) (holds : Holds b l disk) (can : CanKeep l h v) where
  abbrev pub next : Layout
  next = keeping v h l

  abbrev pub state : ManifestState
  state = kept_state b.state v next.since

  abbrev pub later : Base
  later = switched_base b (edits_of l h v) state b.before

  since_known : next.since ≤ max_commit_number
  since_known =
      let up = since-up l.keep l.since v (last_number h) tidy.since in
      let last = tidy.last in
      omega (arith, up, last)

  -- The layout behind it is tidy,
  pub tidy_then : IsTidy (layout_logs next) next h
  tidy_then = tidy_keeping (layout_logs l) l h tidy v can.some

  -- its base is the one behind the switch,
  pub base_then : IsBase later next h
  base_then = record {
    numbered = base.numbered;
    made = state_more b.manifest.number b.first b.others (edits_of l h v) b.state state base.made
        (keep_makes b.state v next.since can.some can.few since_known);
    goes = base.goes;
    levels = base.levels;
    frozen = base.frozen;
    led = base.led;
    keep = refl;
    since = refl;
    gone = base.gone;
    covered = base.covered;
    format = base.format;
    spared = spares_keeping (at_rest l) h v base.spared;
  }

  -- and its files are those that stand.
  pub files_then : HoldsFiles later next disk
  files_then = record { logs = holds.files.logs; tables = holds.files.tables; flushed = holds.files.flushed }

  -- ---- meanwhile

  abbrev pub frame : List ℕ
  frame = switch_frame b (edits_of l h v)

  -- Whatever a crash leaves meanwhile shows the history.
  pub keep_leaves : (now : DiskState) → WhileSwitching b.manifest.number frame disk now → (image : Image) → IsLeft now image
      → Shown image h (last_number h)
  keep_leaves now during image left =
      switching_shows b (edits_of l h v) state b.before base.numbered can.frame disk holds.base h l next
      base tidy holds.files base_then tidy_then files_then now during image left

  -- ---- and then

  abbrev pub final : DiskState
  final = switched b.manifest.number frame disk

  final_settled : AllSettled final
  final_settled q file stands = ⊎_elim
      (λ (same : q ≡ names.Manifest b.manifest.number).
      let there = (switch_holds b (edits_of l h v) state b.before base.numbered can.frame disk holds.base).has.durable in
      let whole = manifest_bytes b.manifest.number (frames_of later) in
      let is : settled whole ≡ file = some_same (settled whole) file (sym there ∙ ap (get final.standing) (sym same) ∙ stands) in
      sym is ∙ ap (λ (x : File). settled x.bytes) is)
      (λ (apart : q ≢ names.Manifest b.manifest.number). holds.durable q file
      (sym ((written_elsewhere (names.Manifest b.manifest.number) frame disk).standing q apart) ∙ stands))
      (same_or_other q (names.Manifest b.manifest.number))

  -- The disk holds the layout that the ruling leaves, all of it durable.
  pub keep_holds : Holds later next final
  keep_holds = record {
    base = switch_holds b (edits_of l h v) state b.before base.numbered can.frame disk holds.base;
    files = switch_keeps b (edits_of l h v) state b.before base.numbered can.frame disk holds.base later next files_then;
    durable = final_settled;
    lawful = synced_lawful (appended (names.Manifest b.manifest.number) frame (length frame) disk)
        (appended_lawful disk holds.lawful (names.Manifest b.manifest.number) frame (length frame))
        (names.Manifest b.manifest.number);
  }

  -- At each moment a store may be opened on the disk, if it stops there.
  pub keep_opens_again : (now : DiskState) → WhileSwitching b.manifest.number frame disk now → MayOpen now
  keep_opens_again now during =
      switching_opens_again b (edits_of l h v) state b.before h l next can.frame disk holds base tidy base_then tidy_then
      files_then keep_holds now during
