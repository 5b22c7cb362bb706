-- While a log is begun or a table is made and named, on a disk that was durable, what isn't durable of a log or a manifest was
-- handed over in one piece: so no image that a crash of a disk in memory leaves has a frame by chance.
use Rattle.std.proofs.Common.{◌≡◌, ◌⊎◌, ⊎_elim, ℕ, ◌≤◌, true, false, List, length, Option, Some, None, refl, sym, ◌∙◌, ap, subst, arith}
use Rattle.std.specs.Prelude.{◌≢◌}
use Rattle.std.specs.FinMap.{get}
use Rattle.std.specs.Option.{option_map}
use Rattle.vl_disk.specs.Changes.{SameElsewhere, changed_elsewhere, changed_there, created_elsewhere, created_there}
use Rattle.vl_disk.specs.Crash.{WhileAppending, WhileSyncing}
use Rattle.vl_disk.specs.DiskState.{DiskState, File, appended, created, lengthened, new_file, settled, synced, synced_file}
use Rattle.vl_disk.specs.MadeFile as making
use Rattle.vl_disk.specs.MadeFile.{WhileMaking, made}
use Rattle.vl_disk.specs.declared.name.Name.{Name}
use Rattle.vl_disk.specs.declared.name.Name.TheVariants.{Manifest, Table}
use Rattle.vl_disk.specs.laws.NameMap.{get_inserted, get_inserted_other, same_or_other}
use Rattle.vl_back.specs.Writing.{WhileWriting}
use Rattle.vl_recover.specs.crash.Held.{AllSettled}
use Rattle.vl_mem.specs.laws.CrashChance.{IsTornByPieces, IsTornInOnePiece, lengthened_torn, untorn_file}

true_false : true ≡ false → ⊥
true_false e = cc

some_same : (a b : File) → Some a ≡ Some b → a ≡ b
some_same a b e = cc

-- ---- a file

settled_whole : (file : File) → file ≡ settled file.bytes → file.wholly_synced ≡ true
settled_whole file is = ap (λ (f : File). f.wholly_synced) is

-- a piece that was handed to a durable file
settled_lengthened : (piece : List ℕ) (taken : ℕ) (file : File) → file ≡ settled file.bytes
    → IsTornInOnePiece (lengthened piece taken file)
settled_lengthened piece taken file is =
    let long : file.synced ≡ length file.bytes = ap (λ (f : File). f.synced) is in
    lengthened_torn piece taken file (omega (arith, long))

-- ---- a disk

-- all is durable
pub settled_torn : (disk : DiskState) → AllSettled disk → IsTornByPieces disk
settled_torn disk settled_all = record {
  each = λ name file stands grows loose.
      absurd (true_false (sym (settled_whole file (settled_all name file stands)) ∙ loose));
}

-- all but one file is
torn_at : (old now : DiskState) (name : Name) (file : File) → AllSettled old → SameElsewhere name old now
    → get now.standing name ≡ Some file → IsTornInOnePiece file → IsTornByPieces now
torn_at old now name file settled_old same stands torn = record {
  each = λ q other there grows loose. ⊎_elim
      (λ (e : q ≡ name).
      let is : file ≡ other = some_same file other (sym stands ∙ ap (get now.standing) (sym e) ∙ there) in
      subst IsTornInOnePiece is torn)
      (λ (apart : q ≢ name). (settled_torn old settled_old).each q other (sym (same.standing q apart) ∙ there) grows loose)
      (same_or_other q name);
}

-- a durable file more
pub made_settled : (disk : DiskState) (name : Name) (bytes : List ℕ) → AllSettled disk → AllSettled (made name bytes disk)
made_settled disk name bytes settled_old q file there = ⊎_elim
    (λ (e : q ≡ name).
    let is : settled bytes ≡ file = some_same (settled bytes) file
    (sym (get_inserted disk.standing name (settled bytes)) ∙ ap (get (made name bytes disk).standing) (sym e) ∙ there) in
    subst (λ (f : File). f ≡ settled f.bytes) is refl)
    (λ (apart : q ≢ name). settled_old q file (sym (get_inserted_other disk.standing name (settled bytes) q apart) ∙ there))
    (same_or_other q name)

-- ---- while a file is made

then_same : (name : Name) (a b c : DiskState) → SameElsewhere name a b → SameElsewhere name b c → SameElsewhere name a c
then_same name a b c p q = record {
  standing = λ other apart. q.standing other apart ∙ p.standing other apart;
  removed = λ other apart. q.removed other apart ∙ p.removed other apart;
}

pub making_torn : (old now : DiskState) (name : Name) (bytes : List ℕ) → AllSettled old → WhileMaking name bytes old now
    → IsTornByPieces now
making_torn old now name bytes settled_old (making.not_there is) = subst IsTornByPieces (sym is) (settled_torn old settled_old)
making_torn old now name bytes settled_old (making.empty is) =
    subst IsTornByPieces (sym is)
    (torn_at old (created name old) name new_file settled_old (created_elsewhere name old) (created_there name old)
    (untorn_file new_file (omega arith)))
making_torn old now name bytes settled_old (making.in_part taken le is) =
    let start : DiskState = created name old in
    let there : get (appended name bytes taken start).standing name ≡ Some (lengthened bytes taken new_file) =
    changed_there name start (lengthened bytes taken) ∙ ap (option_map (lengthened bytes taken)) (created_there name old) in
    let same : SameElsewhere name old (appended name bytes taken start) =
    then_same name old start (appended name bytes taken start) (created_elsewhere name old)
    (changed_elsewhere name start (lengthened bytes taken)) in
    subst IsTornByPieces (sym is)
    (torn_at old (appended name bytes taken start) name (lengthened bytes taken new_file) settled_old same there
    (lengthened_torn bytes taken new_file (omega arith)))
making_torn old now name bytes settled_old (making.durable is) =
    subst IsTornByPieces (sym is) (settled_torn (made name bytes old) (made_settled old name bytes settled_old))

-- ---- while a piece is handed to a file, and synced

module _ (old : DiskState) (settled_old : AllSettled old) (name : Name) (piece : List ℕ) where
  appended_torn : (taken : ℕ) → IsTornByPieces (appended name piece taken old)
  appended_torn taken = of (get old.standing name) refl
    where
      of : (o : Option File) → get old.standing name ≡ o → IsTornByPieces (appended name piece taken old)
      of (Some file) stands =
          torn_at old (appended name piece taken old) name (lengthened piece taken file) settled_old
          (changed_elsewhere name old (lengthened piece taken))
          (changed_there name old (lengthened piece taken) ∙ ap (option_map (lengthened piece taken)) stands)
          (settled_lengthened piece taken file (settled_old name file stands))
      of None stands = record {
        each = λ q file there grows loose. ⊎_elim
            (λ (e : q ≡ name). absurd (none_some file (sym
            (changed_there name old (lengthened piece taken) ∙ ap (option_map (lengthened piece taken)) stands)
            ∙ ap (get (appended name piece taken old).standing) (sym e) ∙ there)))
            (λ (apart : q ≢ name). (settled_torn old settled_old).each q file
            (sym ((changed_elsewhere name old (lengthened piece taken)).standing q apart) ∙ there) grows loose)
            (same_or_other q name);
      }
        where
          none_some : (file : File) → None ≡ Some file → ⊥
          none_some file e = cc

  synced_torn : IsTornByPieces (synced name (appended name piece (length piece) old))
  synced_torn = record {
    each = λ q file there grows loose. ⊎_elim
        (λ (e : q ≡ name). absurd (synced_one file (ap (get now.standing) (sym e) ∙ there) loose))
        (λ (apart : q ≢ name). (appended_torn (length piece)).each q file
        (sym ((changed_elsewhere name longer synced_file).standing q apart) ∙ there) grows loose)
        (same_or_other q name);
  }
    where
      longer : DiskState
      longer = appended name piece (length piece) old

      now : DiskState
      now = synced name longer

      synced_one : (file : File) → get now.standing name ≡ Some file → file.wholly_synced ≡ false → ⊥
      synced_one file there loose = of (get longer.standing name) (sym (changed_there name longer synced_file) ∙ there)
        where
          of : (o : Option File) → option_map synced_file o ≡ Some file → ⊥
          of None e = cc
          of (Some f) e = true_false (ap (λ (x : File). x.wholly_synced) (some_same (synced_file f) file e) ∙ loose)

  pub switching_torn : (now : DiskState) → WhileAppending name piece old now
      ⊎ WhileSyncing name (appended name piece (length piece) old) now → IsTornByPieces now
  switching_torn now during = ⊎_elim
      (λ (is : WhileAppending name piece old now). ⊎_elim
      (λ (same : now ≡ old). subst IsTornByPieces (sym same) (settled_torn old settled_old))
      (λ (some : (taken : ℕ) × (taken ≤ length piece) × (now ≡ appended name piece taken old)).
      subst IsTornByPieces (sym some.2) (appended_torn some.0))
      is)
      (λ (is : WhileSyncing name (appended name piece (length piece) old) now). ⊎_elim
      (λ (same : now ≡ appended name piece (length piece) old). subst IsTornByPieces (sym same) (appended_torn (length piece)))
      (λ (done : now ≡ synced name (appended name piece (length piece) old)). subst IsTornByPieces (sym done) synced_torn)
      is)
      during

-- ---- while a table is made and named

pub flushing_torn : (old now : DiskState) (table : ℕ) (bytes : List ℕ) (manifest : ℕ) (frame : List ℕ) → AllSettled old
    → WhileWriting table bytes manifest frame old now → IsTornByPieces now
flushing_torn old now table bytes manifest frame settled_old during = ⊎_elim
    (making_torn old now (Table table) bytes settled_old)
    (switching_torn (made (Table table) bytes old) (made_settled old (Table table) bytes settled_old) (Manifest manifest) frame now)
    during
