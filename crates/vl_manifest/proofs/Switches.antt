-- The two calls of a switch.
use Rattle.std.proofs.Common.{◌≡◌, ◌<◌, ◌+◌, ◌-◌, ◌^◌, ◌++◌, ◌∷◌, [], min, ℕ, List, length, length-append, inl, inr}
use Rattle.std.proofs.Common.{refl, ap, subst, sym, ◌∙◌, arith}
use Rattle.std.specs.Prelude.{false, true, Option, Some, Result, Ok, Err, IsErr}
use Rattle.std.specs.List.{AllByRecursion}
use Rattle.std.specs.Option.{ForSome}
use Rattle.std.specs.FinMap.{get}
use Rattle.std.proofs.lemmas.Result.{on_err_weaker}
use Rattle.vl_disk.specs.Calls.{Appends, Syncs}
use Rattle.vl_disk.specs.Crash.{WhileAppending, WhileSyncing}
use Rattle.vl_disk.specs.Disk.{IsChangedBy}
use Rattle.vl_disk.specs.DiskState.{DiskState, appended, settled, synced}
use Rattle.vl_disk.specs.Moments.{HoldsThroughout, goes_by, waits}
use Rattle.vl_disk.specs.Spare.{Spare}
use Rattle.vl_disk.specs.declared.name.Name.TheVariants.{Manifest}
use Rattle.vl_disk.specs.declared.watched.Watched.{Ghosts}
use Rattle.vl_disk.specs.laws.Performing.{append_performs, performs_stop, performs_then, sync_performs}
use Rattle.vl_disk.specs.laws.Standing.{holds_after}
use Rattle.vl_frame.specs.Runs.{HasFrame, item_frame}
use Rattle.vl_model.specs.Formats.{manifest_format}
use Rattle.vl_manifest.specs.declared.edit.Edit.{Edit}
use Rattle.vl_manifest.specs.declared.manifest_log.ManifestLog.{ManifestLog}
use Rattle.vl_manifest.specs.declared.staged.StagedEdits.{StagedEdits}
use Rattle.vl_manifest.specs.Grammar.{edits_grammar}
use Rattle.vl_manifest.specs.Manifest.{manifest_bytes}
use Rattle.vl_manifest.specs.Switching.{HasFrames, IsStaged, LeavesFrames, Switches, WhileSwitching, switched}
use Rattle.vl_manifest.specs.laws.SwitchLaws.{one_frame_more, switched_stands, switching_leaves}

false_true : false ≡ true → ⊥
false_true e = cc

-- the disk behind the append
abbrev behind : ℕ → List ℕ → DiskState → DiskState
behind number piece disk = appended (Manifest number) piece (length piece) disk

module _ {D X E : Type 0} (g : Ghosts D) (number : ℕ) (piece : List ℕ) (old one : D) where
  -- the append failed
  pub ends_at_append : (e : E) (result : Result X E) → IsErr result → Appends {T = X} g (Manifest number) piece old one (Err e)
      → Switches g number piece old one result
  ends_at_append e (Ok x) fails call = absurd (false_true fails)
  ends_at_append e (Err f) fails call = record {
    performs = performs_stop g old one (behind number piece) (WhileAppending (Manifest number) piece)
        (WhileSwitching number piece) 1 2 (λ disk now is. inl is)
        (switched number piece) e (Err f) refl (omega arith) (append_performs {T = X} g old one (Manifest number) piece (Err e) call);
    failed = call.failed;
    clean = λ cleanly. inl (call.clean cleanly);
    stands = call.stands;
    spare = call.spare;
  }

  -- the append passed
  pub ends_at_sync : (x : X) → Appends {E = E} g (Manifest number) piece old one (Ok x)
      → (new : D) (result : Result X E) → Syncs g (Manifest number) one new result
      → Switches g number piece old new result
  ends_at_sync x appends new result call = record {
    performs = performs_then g (behind number piece) (synced (Manifest number)) (WhileAppending (Manifest number) piece)
        (WhileSyncing (Manifest number)) 1 1 old one new x result
        (append_performs {E = E} g old one (Manifest number) piece (Ok x) appends) (sync_performs g one new (Manifest number) result call);
    failed = on_err_weaker result (λ (same : g.told new ≡ g.told one). (length piece, omega arith, same ∙ appends.appended)) call.failed;
    clean = λ cleanly. on_err_weaker result (λ (same : g.told new ≡ g.told one). inr (same ∙ appends.appended)) call.failed;
    stands = call.stands;
    spare = record {
      change = ap (λ (s : Spare). s.change) (call.spare (Manifest number)) ∙ appends.spare.change;
      hold = ap (λ (s : Spare). s.hold) (call.spare (Manifest number)) ∙ appends.spare.hold;
      lend = ap (λ (s : Spare). s.lend) (call.spare (Manifest number)) ∙ appends.spare.lend;
      elsewhere = λ other apart. call.spare other ∙ appends.spare.elsewhere other apart;
    };
  }

-- ---- what a crash leaves

-- of a manifest that has some frames, while one of these edits is put behind them
module _ (log : ManifestLog) (fits : log.number < 2 ^ 32) (frames : List (List Edit)) (edits : List Edit) (staged : StagedEdits)
    (is_staged : IsStaged log.number log.length edits staged) (state : DiskState) (has : HasFrames log frames state) where
  abbrev piece_at : ℕ → List ℕ
  piece_at n = item_frame (edits_grammar manifest_format) log.number n edits

  -- the piece is the frame behind the others
  piece_is : staged.frame.items ≡ piece_at (length (manifest_bytes log.number frames))
  piece_is = is_staged.frame ∙ ap piece_at has.length_is

  leaves : (now : DiskState) → WhileSwitching log.number staged.frame.items state now → LeavesFrames log.number frames edits now
  leaves now meanwhile = switching_leaves log.number fits frames edits has.each is_staged.has state has.durable now
      (subst (λ (p : List ℕ). WhileSwitching log.number p state now) piece_is meanwhile)

  more : manifest_bytes log.number frames ++ staged.frame.items ≡ manifest_bytes log.number (frames ++ edits ∷ [])
  more = ap (λ (p : List ℕ). manifest_bytes log.number frames ++ p) piece_is
      ∙ one_frame_more log.number fits frames edits has.each is_staged.has state has.durable

  all_more : (fs : List (List Edit)) → AllByRecursion (HasFrame (edits_grammar manifest_format)) fs
      → AllByRecursion (HasFrame (edits_grammar manifest_format)) (fs ++ edits ∷ [])
  all_more [] all = (is_staged.has, tt)
  all_more (f ∷ fs) all = (all.0, all_more fs all.1)

  then_has : (length_now : ℕ) → length_now ≡ min (log.length + length staged.frame.items) (2 ^ 64 - 1)
      → HasFrames (record log { length = length_now }) (frames ++ edits ∷ []) (switched log.number staged.frame.items state)
  then_has length_now longer = record {
    length_is = (let e : length_now ≡ log.length + length staged.frame.items = omega (arith, longer, is_staged.fits) in e)
        ∙ ap (λ (n : ℕ). n + length staged.frame.items) has.length_is
        ∙ sym (length-append (manifest_bytes log.number frames) staged.frame.items) ∙ ap length more;
    each = all_more frames has.each;
    durable = subst (λ (p : List ℕ). get (switched log.number p state).standing (Manifest log.number)
        ≡ Some (settled (manifest_bytes log.number (frames ++ edits ∷ [])))) (sym piece_is)
        (switched_stands log.number fits frames edits has.each is_staged.has state has.durable);
  }

  pub crash_leaves : {D T E : Type 0} (g : Ghosts D)
      → ((disk : D) (now other : DiskState) → g.told disk ≡ Some now → g.states_since disk (g.moment disk) other → other ≡ now)
      → (old new : D) (result : Result T E) → g.told old ≡ Some state
      → Switches g log.number staged.frame.items old new result
      → HoldsThroughout g old new (LeavesFrames log.number frames edits)
  crash_leaves g only_now old new result told switches =
      goes_by g (LeavesFrames log.number frames edits) old old new state (WhileSwitching log.number staged.frame.items) told
      (waits g (LeavesFrames log.number frames edits) only_now old state told (leaves state (inl (inl refl))))
      switches.performs.time leaves

-- behind a switch that passed
pub has_more : (log : ManifestLog) → log.number < 2 ^ 32 → (frames : List (List Edit)) (edits : List Edit) (staged : StagedEdits)
    → IsStaged log.number log.length edits staged → (length_now : ℕ)
    → length_now ≡ min (log.length + length staged.frame.items) (2 ^ 64 - 1)
    → (old new : Option DiskState) → IsChangedBy (switched log.number staged.frame.items) old new
    → ForSome old (HasFrames log frames) → ForSome new (HasFrames (record log { length = length_now }) (frames ++ edits ∷ []))
has_more log fits frames edits staged is_staged length_now longer old new changed =
    holds_after (switched log.number staged.frame.items) old new (HasFrames log frames)
    (HasFrames (record log { length = length_now }) (frames ++ edits ∷ [])) changed
    (λ state has. then_has log fits frames edits staged is_staged state has length_now longer)
