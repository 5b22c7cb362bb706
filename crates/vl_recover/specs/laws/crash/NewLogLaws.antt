-- A held store to which a log of a header alone is being added, as a rotation does: a store may be opened on the disk again,
-- tables and all.
use Rattle.std.specs.Prelude.{◌≡◌, ◌≢◌, ℕ, ◌+◌, ◌≤◌, List, [], length, take, None, Some}
use Rattle.std.specs.FinMap.{get}
use Rattle.std.proofs.Common.{ap, arith, subst, sym, ◌∙◌, ⊎_elim}
use Rattle.std.proofs.lemmas.Bool.{cases_eq}
use Rattle.std.proofs.lemmas.List.{length-take}
use Rattle.std.proofs.lemmas.List.Elements.{All-cons, All-nil}
use Rattle.vl_disk.specs.Changes.{SameElsewhere}
use Rattle.vl_disk.specs.DiskState.{DiskState, File, IsLawful, Piece, lengthened, new_file, settled}
use Rattle.vl_disk.specs.MadeFile.{WhileMaking}
use Rattle.vl_disk.specs.laws.NameMap.{same_or_other}
use Rattle.vl_disk.specs.declared.name.Name.{Name}
use Rattle.vl_disk.specs.declared.name.Name.TheVariants.{Log}
use Rattle.vl_engine_model.specs.declared.segment.Segment.{Segment}
use Rattle.vl_manifest.specs.declared.state.ManifestState.{ManifestState}
use Rattle.vl_model.specs.Formats.{log_format}
use Rattle.vl_recover.specs.crash.Held.{HoldsStore, IsNowhere, View}
use Rattle.vl_recover.specs.crash.Starts.{AllMayStand, AllStay, IsDurable, MayOpen, MayStand, OnlyIdleGone}
use Rattle.vl_recover.specs.laws.crash.AlikeLaws.{log_same}
use Rattle.vl_recover.specs.laws.crash.AppendLaws.{manifest_kept, needs_beside}
use Rattle.vl_recover.specs.laws.crash.OneName.{IsPart, Making, done, making, part_empty, part_some, torn, waits}
use Rattle.vl_recover.specs.laws.crash.Torn.{ended_no_chance}
use Rattle.vl_recover.specs.laws.opening.HeldLaws.{AreSealed, held_may_open, may_open_by, only_idle_gone}
use Rattle.vl_recover.specs.laws.opening.HeldLaws.{settled_may_all_stand, settled_may_stand}
use Rattle.vl_recover.specs.laws.opening.IdleLaws.{gone_kept}
use Rattle.vl_recover.specs.laws.opening.OpeningLaws.{some_none, some_same}
use Rattle.vl_recover.specs.opening.Opening.{IsAmong, led_into}
use Rattle.vl_seglog.specs.Frames.{log_header}
use Rattle.vl_seglog.specs.laws.FrameLaws.{length-log_header}

-- a log that is being made may stand so
pub header_part : (k : ℕ) (file : File) → IsPart (log_header log_format k) file → MayStand (Log k) file
header_part k file part_empty = record {
  no_chance = λ right. ended_no_chance (Log k) new_file [] (omega arith);
  headless = λ wrong. All-nil (λ (piece : Piece). piece.place + length piece.bytes ≤ 16);
}
header_part k file (part_some taken) = record {
  no_chance = λ right. ended_no_chance (Log k) (lengthened (log_header log_format k) taken new_file)
      (take taken (log_header log_format k)) (omega (arith, length-take taken (log_header log_format k), length-log_header log_format k));
  headless = λ wrong. All-cons (λ (piece : Piece). piece.place + length piece.bytes ≤ 16)
      (record { place = 0; bytes = log_header log_format k }) [] (omega arith)
      (All-nil (λ (piece : Piece). piece.place + length piece.bytes ≤ 16));
}

-- where one name changes, the files under the others may stand as before
pub files_kept : (name : Name) (old now : DiskState) → SameElsewhere name old now → AllMayStand old
    → ((file : File) → get now.standing name ≡ Some file → MayStand name file) → AllMayStand now
files_kept name old now same files there other file stands = ⊎_elim
    (λ (e : other ≡ name). subst (λ (n : Name). MayStand n file) (sym e)
    (there file (ap (get now.standing) (sym e) ∙ stands)))
    (λ (apart : other ≢ name). files other file (sym (same.standing other apart) ∙ stands))
    (same_or_other other name)

-- of a disk that holds a store, and a number from which on no log stands or was removed
module _ (state : ManifestState) (view : View) (logs : List Segment) (k : ℕ) (disk : DiskState) (lawful : IsLawful disk)
    (holds : HoldsStore state view logs disk) (stay : AllStay view.image (led_into view.levels)) (from : state.head ≤ k)
    (nowhere : (m : ℕ) → k ≤ m → IsNowhere disk (Log m)) where
  -- no table leads into it, since it doesn't stand
  unled : IsAmong (led_into view.levels) k → ⊥
  unled among =
      let (bytes, read, stands) = holds.needs.logs k among in
      some_none (settled bytes) (sym stands ∙ (nowhere k (omega arith)).free)

  module _ (now : DiskState) (lawful_now : IsLawful now) (file : File) (stands : get now.standing (Log k) ≡ Some file)
      (may : MayStand (Log k) file) (same : SameElsewhere (Log k) disk now) where
    durable_below : (m : ℕ) (f : File) → m ≢ k → get now.standing (Log m) ≡ Some f → IsDurable f
    durable_below m f other there =
        let is = holds.durable (Log m) f (sym (same.standing (Log m) (λ e. other (log_same m k e))) ∙ there) in
        (ap (λ (x : File). x.wholly_synced) is, ap (λ (x : File). x.lasting) is)

    sealed : AreSealed state.head now
    sealed m j f up less there stands_m = ⊎_elim
        (λ (at : m ≡ k). absurd (there (same.standing (Log j) (λ e. omega (arith, less, at, log_same j k e))
        ∙ (nowhere j (omega (arith, less, at))).free)))
        (λ (other : m ≢ k). durable_below m f other stands_m)
        (cases_eq m k)

    gone : OnlyIdleGone state.head now
    gone = gone_kept state.head (Log k) disk now same
        (λ m up e. (λ none. some_none file (sym stands ∙ none), lawful_now.apart (Log k) file stands))
        (only_idle_gone state.head logs disk lawful holds.logs_are)

    with_log_may_open : MayOpen now
    with_log_may_open =
        may_open_by state view now lawful_now (manifest_kept k state disk now same holds.manifest)
        (needs_beside state view k disk now unled same holds.needs) stay gone
        (files_kept (Log k) disk now same (settled_may_all_stand disk holds.durable)
        (λ other is. subst (MayStand (Log k)) (some_same file other (sym stands ∙ is)) may))
        sealed

  -- Where making the log failed, a store may be opened on the same disk again.
  pub making_may_open : (now : DiskState) → IsLawful now → WhileMaking (Log k) (log_header log_format k) disk now → MayOpen now
  making_may_open now lawful_now during = by (making (Log k) (log_header log_format k) disk now during)
    where
      by : Making (Log k) (log_header log_format k) disk now → MayOpen now
      by (waits is) = subst MayOpen (sym is) (held_may_open state view logs disk lawful holds stay)
      by (torn file part stands same) = with_log_may_open now lawful_now file stands (header_part k file part) same
      by (done stands same) = with_log_may_open now lawful_now (settled (log_header log_format k)) stands
          (settled_may_stand (Log k) (log_header log_format k)) same
