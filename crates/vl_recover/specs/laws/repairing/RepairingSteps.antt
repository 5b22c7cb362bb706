-- Each call of a repairing behind the new manifest: what a crash leaves while it is under way opens as something that it could
-- have left before it.
use Rattle.std.specs.Prelude.{◌≡◌, ◌≢◌, ◌⊎◌, ℕ, ◌+◌, ◌≤◌, ◌<◌, List, [], length, All, Option, None, Some, true, refl}
use Rattle.std.specs.FinMap.{get}
use Rattle.std.specs.Option.{option_map}
use Rattle.std.proofs.Common.{ap, arith, subst, sym, ◌∙◌, ⊎_elim}
use Rattle.std.proofs.lemmas.Bool.{true≢false}
use Rattle.std.proofs.lemmas.List.Elements.{All-cons, All-nil}
use Rattle.vl_disk.specs.Chance.{NoChanceOne}
use Rattle.vl_disk.specs.Changes.{changed_elsewhere, changed_there, without_elsewhere, without_removed}
use Rattle.vl_disk.specs.Crash.{Agrees, Image, MayLeave, MayLeaveOne, last_file}
use Rattle.vl_disk.specs.DiskState.{DiskState, File, Piece, settled, synced, synced_file, with_file, without}
use Rattle.vl_disk.specs.MadeFile.{WhileMaking}
use Rattle.vl_disk.specs.laws.NameMap.{get_removed}
use Rattle.vl_disk.specs.declared.name.Name.{Name}
use Rattle.vl_disk.specs.declared.name.Name.TheVariants.{Log, Manifest, Table}
use Rattle.vl_manifest.specs.declared.state.ManifestState.{ManifestState}
use Rattle.vl_recover.specs.crash.Alike.{IsLeft, OpensAsOf, OpensLike, Spells}
use Rattle.vl_recover.specs.laws.crash.AlikeLaws.{LastIsWhole, SameBut, alike_some, last_alike, log_same, one_more}
use Rattle.vl_recover.specs.laws.opening.ContentLaws.{SameContent, none_each, same_each}
use Rattle.vl_recover.specs.crash.Held.{IsNowhere, View}
use Rattle.vl_recover.specs.laws.opening.HeldLaws.{left_nowhere, needs_image}
use Rattle.vl_recover.specs.laws.opening.LeadsLaws.{IsUnneeded, Leads, current_kept, leads_image, led_like, led_same}
use Rattle.vl_recover.specs.laws.crash.OneName.{IsLeftOne, IsPart, Making, WasLeft, as_before, done, left_still}
use Rattle.vl_recover.specs.laws.crash.OneName.{making, may_miss, one_name, part_empty, part_some, torn, waits}
use Rattle.vl_recover.specs.opening.Opening.{IsAmong, led_into}
use Rattle.vl_recover.specs.laws.opening.OpeningLaws.{some_none}
use Rattle.vl_recover.specs.laws.crash.Torn.{Leaves, ReadsFrames, header_reads, leaves_read, no_reading, part_loose}
use Rattle.vl_recover.specs.laws.crash.Torn.{part_synced, torn_header}
use Rattle.vl_model.specs.Formats.{log_format}
use Rattle.vl_seglog.specs.Frames.{log_header}
use Rattle.vl_seglog.specs.LogReading.{LogReading, ReadsLog}

pub table_manifest : (m n : ℕ) → Table m ≡ Manifest n → ⊥
table_manifest m n e = cc

table_log : (m n : ℕ) → Table m ≡ Log n → ⊥
table_log m n e = cc

pub manifest_log : (m n : ℕ) → Manifest m ≡ Log n → ⊥
manifest_log m n e = cc

settled_left : (piece : List ℕ) (removed : Option File) (left : Option (List ℕ))
    → MayLeaveOne (Some (settled piece)) removed left → left ≡ Some piece
settled_left piece removed None may = absurd (true≢false may)
settled_left piece removed (Some bytes) may = ap Some (may.whole refl)

-- what is left where this stands
standing_left : (name : Name) (disk : DiskState) (file : Option File) (left : Option (List ℕ))
    → get disk.standing name ≡ file
    → IsLeftOne name (get disk.standing name) (get disk.removed name) left
    → IsLeftOne name file (get disk.removed name) left
standing_left name disk file left stands one = subst
    (λ (o : Option File). IsLeftOne name o (get disk.removed name) left) stands one

left_standing : (name : Name) (disk : DiskState) (file : Option File) (left : Option (List ℕ))
    → get disk.standing name ≡ file
    → IsLeftOne name file (get disk.removed name) left
    → IsLeftOne name (get disk.standing name) (get disk.removed name) left
left_standing name disk file left stands one = subst
    (λ (o : Option File). IsLeftOne name o (get disk.removed name) left) (sym stands) one

-- ---- the last log is changed

-- The log of this number is the last one from head on, and the new manifest leads.
pub record IsLast (number : ℕ) (s : ManifestState) (v : View) (k : ℕ) (disk : DiskState) : Type 0 where
  pub leads : Leads number s v disk
  -- no table leads into it
  pub unled : IsAmong (led_into v.levels) k → ⊥
  pub from : s.head ≤ k
  pub above : (m : ℕ) → k < m → IsNowhere disk (Log m)

-- where it has the same frames as before
last_like : (number : ℕ) (s : ManifestState) (v : View) (k : ℕ) (disk : DiskState) → IsLast number s v k disk
    → (was now : List ℕ) (reading : LogReading) → ReadsLog k was reading → ReadsFrames k now reading
    → (image before : Image) → IsLeft disk before → SameBut (Log k) image before
    → get image (Log k) ≡ Some now → get before (Log k) ≡ Some was
    → OpensLike image before
last_like number s v k disk last was now reading read reads image before low same stands stood =
    let led = leads_image number s v disk before last.leads low.left in
    led_like number last.leads.bytes s v before last.leads.says led
    (needs_image s v disk before last.leads.needs low.left) image
    (current_kept number (Log k) image before last.leads.bytes same (λ m from. manifest_log m k) led)
    (λ n named. same (Table n) (λ e. table_log n k e))
    (λ n among. same (Log n) (λ e. last.unled (subst (IsAmong (led_into v.levels)) (log_same n k e) among)))
    (λ logs standing. alike_some image s.head logs (last_alike image before k same
    (λ m less. left_nowhere disk before (Log m) (last.above m less) low.left)
    (record {
      now = now;
      was = was;
      reads = reads.reading;
      read = reading;
      stands = stands;
      stood =
          stood;
      reads_now = reads.reads;
      read_was = read;
      same = reads.same;
    })
    s.head logs last.from standing))

module _ (k : ℕ) (old : DiskState) (file : File) (stands : get old.standing (Log k) ≡ Some file) where
  leaves_one : (leaves : Leaves (Log k) file) → IsLeftOne (Log k) (get old.standing (Log k))
      (get old.removed (Log k)) (Some leaves.bytes)
  leaves_one leaves = left_standing (Log k) old (Some file) (Some leaves.bytes) stands
      (record { may = leaves.may; no_chance = leaves.no_chance })

  -- It may be synced.
  pub sync_step : NoChanceOne Spells (Log k) (Some file) (Some file.bytes)
      → OpensAsOf old (synced (Log k) old)
  sync_step as_read = one_name (Log k) old (synced (Log k) old) (changed_elsewhere (Log k) old synced_file)
      (λ left one. there left (settled_left file.bytes (get old.removed (Log k)) left
      (subst (λ (o : Option File). IsLeftOne (Log k) o
      (get old.removed (Log k)) left) now_there one).may))
    where
      now_there : get (synced (Log k) old).standing (Log k) ≡ Some (settled file.bytes)
      now_there = changed_there (Log k) old synced_file ∙ ap (option_map synced_file) stands

      there : (left : Option (List ℕ)) → left ≡ Some file.bytes → WasLeft old (Log k) left
      there left is = left_still old (Log k) left (subst
          (IsLeftOne (Log k) (get old.standing (Log k)) (get old.removed (Log k))) (sym is)
          (leaves_one (leaves_read (Log k) file as_read)))

module _ (number : ℕ) (s : ManifestState) (v : View) (k : ℕ) (old : DiskState) (file : File)
    (last : IsLast number s v k old) (stands : get old.standing (Log k) ≡ Some file) where
  -- It may be changed where what is left of it has the same frames as something that could have been left
  -- before, or could itself have been left.
  pub change_step : (leaves : Leaves (Log k) file) (reading : LogReading) → ReadsLog k leaves.bytes reading
      → (change : File → File) → (change file).lasting ≡ file.lasting
      → ((bytes : List ℕ) → Agrees (change file) bytes
      → NoChanceOne Spells (Log k) (Some (change file)) (Some bytes)
      → ReadsFrames k bytes reading ⊎ IsLeftOne (Log k) (Some file) (get old.removed (Log k))
      (Some bytes))
      → OpensAsOf old (with_file (Log k) change old)
  change_step leaves reading read change lasting left_as =
      one_name (Log k) old (with_file (Log k) change old) (changed_elsewhere (Log k) old change)
      (λ left one. there left (subst (λ (o : Option File). IsLeftOne (Log k) o
      (get old.removed (Log k)) left) now_there one))
    where
      now_there : get (with_file (Log k) change old).standing (Log k) ≡ Some (change file)
      now_there = changed_there (Log k) old change ∙ ap (option_map change) stands

      there : (left : Option (List ℕ)) → IsLeftOne (Log k) (Some (change file)) (get old.removed (Log k)) left
          → WasLeft old (Log k) left
      there None one = left_still old (Log k) None (left_standing (Log k) old (Some file) None stands
          (record { may = sym lasting ∙ one.may; no_chance = tt }))
      there (Some bytes) one = ⊎_elim
          (λ (same : ReadsFrames k bytes reading). record {
            was = Some leaves.bytes;
            is_left = leaves_one k old file stands leaves;
            like = λ image before low but is was.
                last_like number s v k old last leaves.bytes bytes reading read same image before low but is was;
          })
          (λ (still : IsLeftOne (Log k) (Some file) (get old.removed (Log k)) (Some bytes)). left_still old
          (Log k) (Some bytes) (left_standing (Log k) old (Some file) (Some bytes) stands still))
          (left_as bytes one.may one.no_chance)

-- ---- the new log is made

-- what reads like nothing has no frames
unfilled : (reading : LogReading) → SameContent reading no_reading → reading.frames ≡ []
unfilled reading (none_each none here) = none
unfilled reading (same_each header frames) = frames

module _ (number : ℕ) (s : ManifestState) (v : View) (k : ℕ) (old now : DiskState) (leads : Leads number s v old)
    (from : s.head ≤ k)
    (nowhere : (m : ℕ) → k ≤ m → IsNowhere old (Log m)) (whole : (image : Image) → MayLeave old image
    → LastIsWhole s.head image) where
  -- no table leads into it, since it doesn't stand
  unled : IsAmong (led_into v.levels) k → ⊥
  unled among =
      let (bytes, read, stands) = leads.needs.logs k among in
      some_none (settled bytes) (sym stands ∙ (nowhere k (omega arith)).free)

  pub log_step : WhileMaking (Log k) (log_header log_format k) old now → OpensAsOf old now
  log_step during = by (making (Log k) (log_header log_format k) old now during)
    where
      missing : IsLeftOne (Log k) (get old.standing (Log k)) (get old.removed (Log k)) None
      missing = left_standing (Log k) old None None (nowhere k (omega arith)).free
          (may_miss (Log k) (get old.removed (Log k)))

      new : (bytes : List ℕ) → ReadsFrames k bytes no_reading → (image before : Image) → IsLeft old before
          → SameBut (Log k) image before
          → get image (Log k) ≡ Some bytes → get before (Log k) ≡ None → OpensLike image before
      new bytes reads image before low same is gone =
          let led = leads_image number s v old before leads low.left in
          led_like number leads.bytes s v before leads.says led
          (needs_image s v old before leads.needs low.left) image
          (current_kept number (Log k) image before leads.bytes same (λ m from. manifest_log m k) led)
          (λ n named. same (Table n) (λ e. table_log n k e))
          (λ n among. same (Log n) (λ e. unled (subst (IsAmong (led_into v.levels)) (log_same n k e) among)))
          (λ logs standing. alike_some image s.head logs (one_more image before k same
          (λ m less. left_nowhere old before (Log m) (nowhere m (omega (arith, less))) low.left)
          (record {
            bytes = bytes;
            reading = reads.reading;
            stands = is;
            none = gone;
            reads =
                reads.reads;
            empty = unfilled reads.reading reads.same;
          })
          s.head logs from standing (whole before low.left)))

      by : Making (Log k) (log_header log_format k) old now → OpensAsOf old now
      by (waits is) = subst (OpensAsOf old) (sym is) (as_before old)
      by (torn file part stands elsewhere) = one_name (Log k) old now elsewhere
          (λ left one. there left (standing_left (Log k) now (Some file) left stands one))
        where
          within : (file : File) → IsPart (log_header log_format k) file
              → All (λ piece. piece.place + length piece.bytes ≤ 16) file.unsynced
          within file part_empty = All-nil (λ (piece : Piece). piece.place + length piece.bytes ≤ 16)
          within file (part_some taken) = All-cons (λ (piece : Piece). piece.place + length piece.bytes ≤ 16)
              (record { place = 0; bytes = log_header log_format k }) [] (omega arith)
              (All-nil (λ (piece : Piece). piece.place + length piece.bytes ≤ 16))

          there : (left : Option (List ℕ)) → IsLeftOne (Log k) (Some file) (get now.removed (Log k)) left
              → WasLeft old (Log k) left
          there None one = left_still old (Log k) None missing
          there (Some bytes) one = record {
            was = None;
            is_left = missing;
            like = λ image before low same is gone. new bytes
                (torn_header k file bytes (part_loose (log_header log_format k) file part)
                (omega (arith, part_synced (log_header log_format k) file part)) (within file part) one.no_chance
                no_reading refl)
                image before low same is gone;
          }
      by (done stands elsewhere) = one_name (Log k) old now elsewhere (λ left one. record {
        was = None;
        is_left = missing;
        like = λ image before low same is gone. new (log_header log_format k)
            (record {
              reading = record { header = Some log_format; frames = []; whole = true };
              reads =
                  header_reads k;
              same = none_each refl refl;
            })
            image before low same
            (is ∙ settled_left (log_header log_format k) (get now.removed (Log k)) left
            (standing_left (Log k) now (Some (settled (log_header log_format k))) left stands one).may) gone;
      })

-- ---- a stray is removed

module _ (number : ℕ) (s : ManifestState) (v : View) (name : Name) (old : DiskState) (file : File)
    (leads : Leads number s v old) (stands : get old.standing name ≡ Some file)
    (leaves : Leaves name file) (lower : (m : ℕ) → number ≤ m → Manifest m ≢ name) (below : (m : ℕ)
    → s.head ≤ m → Log m ≢ name) (unneeded : IsUnneeded s v name) where
  without_like : (image before : Image) → IsLeft old before → SameBut name image before
      → OpensLike image before
  without_like image before low same =
      let led = leads_image number s v old before leads low.left in
      led_same number s v name old image before leads low.left
      (current_kept number name image before leads.bytes same lower led) same unneeded below

  pub remove_step : OpensAsOf old (without name old)
  remove_step = one_name name old (without name old) (without_elsewhere name old)
      (λ left one. there left (gone left one))
    where
      gone : (left : Option (List ℕ)) → IsLeftOne name (get (without name old).standing name)
          (get (without name old).removed name) left → IsLeftOne name None (Some file) left
      gone left one = subst (λ (o : Option File). IsLeftOne name o (Some file) left)
          (get_removed old.standing name)
          (subst (λ (o : Option File). IsLeftOne name (get (without name old).standing name) o left)
          (without_removed name old ∙ ap (λ (o : Option File). last_file o
          (get old.removed name)) stands) one)

      there : (left : Option (List ℕ)) → IsLeftOne name None (Some file) left → WasLeft old name left
      there None one = record {
        was = Some leaves.bytes;
        is_left = left_standing name old (Some file) (Some leaves.bytes) stands
            (record { may = leaves.may; no_chance = leaves.no_chance });
        like = λ image before low same is was. without_like image before low same;
      }
      there (Some bytes) one = left_still old name (Some bytes)
          (left_standing name old (Some file) (Some bytes) stands
          (record { may = one.may; no_chance = one.no_chance }))
