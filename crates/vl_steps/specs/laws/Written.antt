-- What writing a commit leaves, from what its calls do.
use Rattle.std.specs.Prelude.{◌≡◌, ℕ, ◌+◌, ◌-◌, ◌^◌, ◌++◌, min, List, length, Some, true}
use Rattle.std.specs.FinMap.{entries}
use Rattle.std.proofs.Common.{ap, arith, subst, sym, ◌∙◌}
use Rattle.vl_conflict.specs.Recent.{Remembers}
use Rattle.vl_disk.specs.Calls.{ChangesNothing}
use Rattle.vl_disk.specs.Disk.{IsChangedBy}
use Rattle.vl_disk.specs.DiskState.{DiskState}
use Rattle.vl_disk.specs.Moments.{Elapses}
use Rattle.vl_disk.specs.declared.name.Name.TheVariants.{Log}
use Rattle.vl_disk.specs.declared.watched.Watched.{Ghosts}
use Rattle.vl_engine_laws.specs.Known.{are_known}
use Rattle.vl_steps.specs.Staging.{next_frame}
use Rattle.vl_steps.specs.Steps.{Hands, frame_of, log_of}
use Rattle.vl_engine_laws.specs.Writing.{StopsWriting, WhileWriting, written}
use Rattle.vl_engine_laws.specs.laws.KnownLaws.{known_up_to, up_to_known}
use Rattle.vl_engine_laws.specs.laws.MemtableLaws.{commit_known}
use Rattle.vl_front.specs.Front.{Knows}
use Rattle.vl_front.specs.declared.front.Front.{Front}
use Rattle.vl_engine_model.specs.Logs.{frame_entries}
use Rattle.vl_model.specs.Conflicts.{Named}
use Rattle.vl_model.specs.Entries.{in_order}
use Rattle.vl_model.specs.Formats.{log_format}
use Rattle.vl_model.specs.Frames.{frame_length}
use Rattle.vl_model.specs.History.{History}
use Rattle.vl_model.specs.Keys.{Writes}
use Rattle.vl_model.specs.declared.entry.Entry.{Entry}
use Rattle.vl_oracle.specs.LiveTickets.{LiveTickets, floor_of}
use Rattle.vl_seglog.specs.Staging.{IsStaged}
use Rattle.vl_seglog.specs.declared.staged.Staged.{Staged}
use Rattle.vl_seglog.specs.laws.FrameLaws.{length-item_frame}

-- a front with the same oracle and notes knows the same
pub knows_alike : (a b : Front) (h : History) → b.oracle ≡ a.oracle → b.recent.named ≡ a.recent.named → Knows a h → Knows b h
knows_alike a b h live named knows = record {
  last = ap (λ (o : LiveTickets). o.last) live ∙ knows.last;
  remembers = subst (λ (o : LiveTickets). Remembers (floor_of o) h b.recent.named) (sym live)
      (subst (λ (ns : List Named). Remembers (floor_of a.oracle) h ns) (sym named) knows.remembers);
}

-- a commit's frame was handed over, under whichever names its log and its bytes have
module _ {D : Type 0} (g : Ghosts D) (front : Front) (writes : Writes) (number : ℕ) (staged : Staged)
    (same : number ≡ front.log.number) (is : IsStaged front.log.number front.log.length (next_frame front writes) staged) where
  abbrev pub hands_by : (old mid new : D) → ChangesNothing g old mid ⊥
      → Elapses g mid new (WhileWriting (Log number) staged.frame.items)
      → ((state : DiskState) → g.told mid ≡ Some state → (now : DiskState) × (g.told new ≡ Some now))
      → Hands g front writes old new
  hands_by old mid new before time tells = record {
    mid = mid;
    before = before;
    has = is.has;
    time = subst (λ (n : ℕ). Elapses g mid new (WhileWriting (Log n) (frame_of front writes))) same
        (subst (λ (bs : List ℕ). Elapses g mid new (WhileWriting (Log number) bs)) is.frame time);
    tells = tells;
  }

  pub changed_by : (mid new : D) → IsChangedBy (written (Log number) staged.frame.items) (g.told mid) (g.told new)
      → IsChangedBy (written (log_of front) (frame_of front writes)) (g.told mid) (g.told new)
  changed_by mid new changed =
      subst (λ (n : ℕ). IsChangedBy (written (Log n) (frame_of front writes)) (g.told mid) (g.told new)) same
      (subst (λ (bs : List ℕ). IsChangedBy (written (Log number) bs) (g.told mid) (g.told new)) is.frame changed)

  pub stopped_by : (mid new : D) → StopsWriting g (Log number) staged.frame.items mid new
      → StopsWriting g (log_of front) (frame_of front writes) mid new
  stopped_by mid new stops =
      subst (λ (n : ℕ). StopsWriting g (Log n) (frame_of front writes) mid new) same
      (subst (λ (bs : List ℕ). StopsWriting g (Log number) bs mid new) is.frame stops)

  -- the log is longer by the frame
  pub longer : (length_then : ℕ) → length_then ≡ min (front.log.length + length staged.frame.items) (2 ^ 64 - 1)
      → length_then ≡ front.log.length + frame_length log_format (next_frame front writes)
  longer length_then grows =
      let long : length staged.frame.items ≡ frame_length log_format (next_frame front writes) =
      ap length is.frame ∙ length-item_frame log_format front.log.number front.log.length (next_frame front writes) in
      let fits = is.fits in
      omega (arith, grows, long, fits)

-- no version is above the commit's
pub known_then : (front : Front) (writes : Writes) (es later : List Entry) (last : ℕ) → last ≡ front.oracle.last + 1
    → later ≡ in_order (frame_entries log_format front.log.number front.log.length (next_frame front writes) ++ es)
    → are_known front.oracle.last es ≡ true → are_known last later ≡ true
known_then front writes es later last number more known =
    subst (λ (n : ℕ). are_known n later ≡ true) (sym number)
    (subst (λ (fs : List Entry). are_known (front.oracle.last + 1) fs ≡ true) (sym more)
    (up_to_known (front.oracle.last + 1) _
    (commit_known log_format front.log.number (front.oracle.last + 1) front.oracle.last (front.log.length + 17) es
    (entries writes) (omega arith) (known_up_to front.oracle.last es known))))
