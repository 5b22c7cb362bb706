-- The stages of a repairing behind the new manifest, which leads: what a crash leaves while they are under way
-- opens as before, and what then stands.
use Rattle.std.specs.Prelude.{◌≡◌, ◌≢◌, ℕ, ◌+◌, ◌≤◌, ◌<◌, max, List, [], ◌∷◌, ◌++◌, suc, zero, Option, None, Some, Contains, refl}
use Rattle.std.specs.FinMap.{get}
use Rattle.std.proofs.Common.{ap, arith, subst, sym, ◌∙◌, ⊎_elim}
use Rattle.std.proofs.lemmas.Bool.{cases_lt}
use Rattle.std.proofs.lemmas.List.{append-nil}
use Rattle.vl_disk.specs.Changes.{SameElsewhere}
use Rattle.vl_disk.specs.Crash.{Image, MayLeave}
use Rattle.vl_disk.specs.DiskState.{DiskState, File, settled, without}
use Rattle.vl_disk.specs.MadeFile.{durable, made}
use Rattle.vl_disk.specs.laws.NameMap.{get_removed, get_removed_other, same_or_other}
use Rattle.vl_disk.specs.declared.name.Name.{Name}
use Rattle.vl_disk.specs.declared.name.Name.TheVariants.{Log}
use Rattle.vl_engine_model.specs.declared.segment.Segment.{Segment}
use Rattle.vl_manifest.specs.declared.state.ManifestState.{ManifestState}
use Rattle.vl_model.specs.declared.log_frame.LogFrame.{LogFrame}
use Rattle.vl_recover.specs.crash.Alike.{OpensAsOf}
use Rattle.vl_recover.specs.laws.crash.AlikeLaws.{LastIsWhole}
use Rattle.vl_recover.specs.opening.Answers.{and_made}
use Rattle.vl_recover.specs.crash.Held.{HoldsLogs, IsNowhere, View}
use Rattle.vl_recover.specs.crash.Starts.{StaysAsItIs}
use Rattle.vl_recover.specs.opening.Opening.{IsAmong, led_into}
use Rattle.vl_recover.specs.laws.repairing.LastLaws.{IsLastWritten, LastStands, RepairsLast, last_law}
use Rattle.vl_recover.specs.laws.opening.LeadsLaws.{Leads, leads_kept, log_added, unled_unneeded}
use Rattle.vl_recover.specs.laws.opening.LogsLaws.{IsTheLast, StandUpTo, all_written, last_is, last_stands, made_is}
use Rattle.vl_recover.specs.laws.opening.LogsLaws.{repairing_elsewhere, the_last}
use Rattle.vl_recover.specs.repairing.Repairing.{LastLog, WhileLast, WhileLog, behind_last, behind_log, behind_strays}
use Rattle.vl_recover.specs.repairing.Repairing.{last_of, repairing_of}
use Rattle.vl_recover.specs.laws.repairing.RepairingSteps.{log_step, manifest_log}
use Rattle.vl_recover.specs.laws.crash.OneName.{as_before, made_elsewhere}
use Rattle.vl_recover.specs.laws.opening.OpeningLaws.{some_none, some_same}
use Rattle.vl_recover.specs.opening.Plans.{log_behind, log_made}
use Rattle.vl_recover.specs.laws.repairing.StraysLaws.{IsSpare}
use Rattle.vl_recover.specs.opening.Walk.{StandingLog}
use Rattle.vl_model.specs.Formats.{log_format}
use Rattle.vl_seglog.specs.Frames.{log_bytes, log_header}

-- ---- what stays below head

-- no log from a number on has this name
abbrev pub IsBelow : ℕ → Name → Type 0
IsBelow head name = (m : ℕ) → head ≤ m → Log m ≢ name

-- the disks have the same but for the logs from a number on
pub record SameBelow (head : ℕ) (old now : DiskState) : Type 0 where
  pub standing : (name : Name) → IsBelow head name → get now.standing name ≡ get old.standing name
  pub removed : (name : Name) → IsBelow head name → get now.removed name ≡ get old.removed name

pub below_same : (head : ℕ) (disk : DiskState) → SameBelow head disk disk
below_same head disk = record { standing = λ name below. refl; removed = λ name below. refl }

pub below_then : (head : ℕ) (a b c : DiskState) → SameBelow head a b → SameBelow head b c → SameBelow head a c
below_then head a b c p q = record {
  standing = λ name below. q.standing name below ∙ p.standing name below;
  removed = λ name below. q.removed name below ∙ p.removed name below;
}

-- so it is where one of these logs changes
pub below_log : (head k : ℕ) (old now : DiskState) → head ≤ k → SameElsewhere (Log k) old now
    → SameBelow head old now
below_log head k old now from same = record {
  standing = λ name below. same.standing name (λ e. below k from (sym e));
  removed = λ name below. same.removed name (λ e. below k from (sym e));
}

pub spare_below : (number : ℕ) (s : ManifestState) (v : View) (old now : DiskState) → SameBelow s.head old now → (name : Name)
    → IsSpare number s v old name → IsSpare number s v now name
spare_below number s v old now same name spare = record {
  file = spare.file;
  stands = same.standing name spare.below ∙ spare.stands;
  leaves = spare.leaves;
  lower = spare.lower;
  below = spare.below;
  unneeded = spare.unneeded;
}

-- ---- the last log

pub record LastStage (number : ℕ) (s : ManifestState) (v : View) (logs : List StandingLog)
    (disk : DiskState) : Type 0 where
  pub meanwhile : (now : DiskState) → WhileLast (last_of logs) disk now → OpensAsOf disk now
  pub after : OpensAsOf disk (behind_last (last_of logs) disk)
  pub leads : Leads number s v (behind_last (last_of logs) disk)
  pub same : SameBelow s.head disk (behind_last (last_of logs) disk)
  pub written : StandUpTo IsLastWritten s.head logs (behind_last (last_of logs) disk)

pub last_stage : (number : ℕ) (s : ManifestState) (v : View) (logs : List StandingLog) (disk : DiskState)
    → Leads number s v disk
    → StandUpTo LastStands s.head logs disk
    → ((q : StandingLog) → IsTheLast LastStands s.head q disk → IsAmong (led_into v.levels) q.number → StaysAsItIs q.reading)
    → LastStage number s v logs disk
last_stage number s v [] disk leads none led = record {
  meanwhile = λ now during. absurd during;
  after = as_before disk;
  leads = leads;
  same = below_same s.head disk;
  written = none;
}
last_stage number s v (q ∷ qs) disk leads stand led = record {
  meanwhile = subst (λ (l : LastLog). (now : DiskState) → WhileLast l disk now → OpensAsOf disk now)
      (sym (last_is q qs)) repairs.meanwhile;
  after = subst (λ (l : LastLog). OpensAsOf disk (behind_last l disk)) (sym (last_is q qs)) repairs.after;
  leads = subst (λ (l : LastLog). Leads number s v (behind_last l disk)) (sym (last_is q qs)) repairs.leads;
  same = below_log s.head last disk (behind_last (last_of (q ∷ qs)) disk) is.from elsewhere;
  written = all_written s.head (q ∷ qs) disk (λ x at. (each x at).written) stand;
}
  where
    last : ℕ
    last = (the_last q qs).number

    is : IsTheLast LastStands s.head (the_last q qs) disk
    is = last_stands LastStands s.head q qs disk stand

    each : (x : StandingLog) → IsTheLast LastStands s.head x disk → RepairsLast number s v x disk (repairing_of x)
    each x at = last_law number s v x disk leads at.from at.above (led x at) at.holds

    repairs : RepairsLast number s v (the_last q qs) disk (repairing_of (the_last q qs))
    repairs = each (the_last q qs) is

    elsewhere : SameElsewhere (Log (the_last q qs).number) disk (behind_last (last_of (q ∷ qs)) disk)
    elsewhere = subst (λ (l : LastLog). SameElsewhere (Log (the_last q qs).number) disk (behind_last l disk))
        (sym (last_is q qs)) (repairing_elsewhere (the_last q qs) disk)

-- ---- the new log

-- from a log's number on nothing stands or was removed
pub record IsFreeFrom (head k : ℕ) (disk : DiskState) : Type 0 where
  pub from : head ≤ k
  pub nowhere : (m : ℕ) → k ≤ m → IsNowhere disk (Log m)

behind_some : (s : ManifestState) (frames : List LogFrame) (k : ℕ) → log_behind s frames ≡ Some k
    → s.next_log ≡ k
behind_some s [] k e = absurd (some_none k (sym e))
behind_some s (f ∷ fs) k e = some_same s.next_log k e

-- So it is of the log that is made, where the logs that stand have lower numbers than the next.
pub made_free : (s : ManifestState) (logs : List StandingLog) (disk : DiskState)
    → StandUpTo IsLastWritten s.head logs disk
    → ((q : StandingLog) (qs : List StandingLog) → logs ≡ q ∷ qs → (the_last q qs).number < s.next_log)
    → (k : ℕ) → log_made s logs ≡ Some k → IsFreeFrom s.head k disk
made_free s [] disk none below k made =
    let same : max s.head s.next_log ≡ k = some_same (max s.head s.next_log) k made in
    let from : s.head ≤ k = omega (arith, same) in
    record { from = from; nowhere = λ m above. none m (omega (arith, from, above)) }
made_free s (q ∷ qs) disk stand below k made =
    let same : s.next_log ≡ k = behind_some s (the_last q qs).reading.frames k (sym (made_is s q qs)
    ∙ made) in
    let last = last_stands IsLastWritten s.head q qs disk stand in
    let less = below q qs refl in
    record {
      from = (let from = last.from in omega (arith, from, less, same));
      nowhere = λ m above. last.above m (omega (arith, less, same, above));
    }

pub record LogStage (number : ℕ) (s : ManifestState) (v : View) (new : Option ℕ) (logs : List Segment)
    (disk : DiskState) : Type 0 where
  pub meanwhile : (now : DiskState) → WhileLog new disk now → OpensAsOf disk now
  pub after : OpensAsOf disk (behind_log new disk)
  pub leads : Leads number s v (behind_log new disk)
  pub same : SameBelow s.head disk (behind_log new disk)
  pub held : HoldsLogs s.head (logs ++ and_made new) (behind_log new disk)

pub free_unled : (number : ℕ) (s : ManifestState) (v : View) (k : ℕ) (disk : DiskState) → Leads number s v disk
    → IsNowhere disk (Log k) → IsAmong (led_into v.levels) k → ⊥
free_unled number s v k disk leads nowhere among =
    let (bytes, read, stands) = leads.needs.logs k among in some_none (settled bytes) (sym stands ∙ nowhere.free)

pub log_stage : (number : ℕ) (s : ManifestState) (v : View) (new : Option ℕ) (logs : List Segment) (disk : DiskState)
    → Leads number s v disk
    → ((image : Image) → MayLeave disk image → LastIsWhole s.head image)
    → ((k : ℕ) → new ≡ Some k → IsFreeFrom s.head k disk)
    → HoldsLogs s.head logs disk → LogStage number s v new logs disk
log_stage number s v None logs disk leads whole free held = record {
  meanwhile = λ now during. absurd during;
  after = as_before disk;
  leads = leads;
  same = below_same s.head disk;
  held = subst (λ (l : List Segment). HoldsLogs s.head l disk) (sym (append-nil logs)) held;
}
log_stage number s v (Some k) logs disk leads whole free held =
    let at = free k refl in
    let now = made (Log k) (log_header log_format k) disk in
    let same = made_elsewhere (Log k) (log_header log_format k) disk in
    record {
      meanwhile = λ now during. log_step number s v k disk now leads at.from at.nowhere whole during;
      after = log_step number s v k disk now leads at.from at.nowhere whole (durable refl);
      leads = leads_kept number s v (Log k) disk now same (λ m from. manifest_log m k) (unled_unneeded s v k
          (free_unled number s v k disk leads (at.nowhere k (omega arith)))) leads;
      same = below_log s.head k disk now at.from same;
      held = log_added disk k s.head logs at.from at.nowhere held;
    }

-- ---- what stands behind the strays

-- What stands when files were removed was none of them, and stood before.
pub still_stands : (names : List Name) (disk : DiskState) (name : Name) (file : File)
    → get (behind_strays names disk).standing name ≡ Some file
    → (Contains names name → ⊥) × (get disk.standing name ≡ Some file)
still_stands [] disk name file stands = (λ inside. omega (arith, inside.1), stands)
still_stands (q ∷ qs) disk name file stands =
    let (outside, stood) = still_stands qs (without q disk) name file stands in
    ⊎_elim
    (λ (same : name ≡ q). absurd (some_none file (sym stood ∙ ap (get (without q disk).standing) same
    ∙ get_removed disk.standing q)))
    (λ (other : name ≢ q). (
      not_inside outside other,
      sym (get_removed_other disk.standing q name other)
          ∙ stood,
    ))
    (same_or_other name q)
  where
    not_inside : (Contains qs name → ⊥) → name ≢ q → Contains (q ∷ qs) name → ⊥
    not_inside outside other (zero, less, is) = other (sym is)
    not_inside outside other (suc k, less, is) = outside (k, omega (arith, less), is)

-- A file that is durable is as a sync leaves it.
pub settled_is : (bytes : List ℕ) (file : File) → Some (settled bytes) ≡ Some file → file ≡ settled file.bytes
settled_is bytes file is =
    let same : settled bytes ≡ file = some_same (settled bytes) file is in
    sym same ∙ ap (λ (f : File). settled f.bytes) same

-- Logs that are held are durable.
pub held_settled : (least : ℕ) (logs : List Segment) (disk : DiskState) → HoldsLogs least logs disk → (m : ℕ)
    → least ≤ m
    → (file : File) → get disk.standing (Log m) ≡ Some file → file ≡ settled file.bytes
held_settled least [] disk none m from file stands = absurd (some_none file (sym stands ∙ (none m from).free))
held_settled least (s ∷ ss) disk (first, between, is_read, have, here, rest) m from file stands = ⊎_elim
    (λ (less : m < s.number). absurd (some_none file (sym stands ∙ (between m from less).free)))
    (λ (above : s.number ≤ m). ⊎_elim
    (λ (more : s.number < m). held_settled (s.number + 1) ss disk rest m (omega (arith, more)) file stands)
    (λ (at : m ≤ s.number).
    let same : m ≡ s.number = omega (arith, above, at) in
    settled_is (log_bytes s.format s.number s.frames) file (sym here
    ∙ ap (λ (n : ℕ). get disk.standing (Log n)) (sym same) ∙ stands))
    (cases_lt s.number m))
    (cases_lt m s.number)
