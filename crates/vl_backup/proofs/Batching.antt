-- A batch's transaction begins, and its records are written.
use Rattle.std.specs.Prelude.{◌≡◌, ◌<◌, ◌+◌, ℕ, Bool, true, false, List, []}
use Rattle.std.specs.Prelude.{◌∷◌, length, drop, Option, None, Some, Result, Err, ⊤, refl}
use Rattle.std.specs.FinMap.{empty, entries, entries-from_sorted, find, from_sorted}
use Rattle.std.specs.FinMap.{get, get-empty, get-from_sorted, get-insert, insert}
use Rattle.std.specs.FinMap.{is_sorted, nat_cmp-IsAntisymmetric, same_map, slice_cmp-IsAntisymmetric}
use Rattle.std.specs.FinMap.Entries.{below_all}
use Rattle.std.specs.Cmp.Lexicographic.{nat_list_cmp_total}
use Rattle.std.specs.Ordering.{eq_by_cmp}
use Rattle.std.proofs.Common.{sym, ap, subst, ◌∙◌, cond, get_or, inl}
use Rattle.std.proofs.lemmas.List.{at_drop_more}
use Rattle.vl_backup.proofs.Calls.{Begins, lets_alone, may_open, too_many_so}
use Rattle.vl_backup.proofs.Committing.{commits_behind}
use Rattle.vl_stream.specs.Batches.{Write}
use Rattle.vl_backup.specs.Fails.{begin_fail}
use Rattle.vl_backup.specs.Loading.{CommitsBatch, IsReady, Parts, Works, sealed_for}
use Rattle.vl_backup.specs.Written.{written_all}
use Rattle.vl_stream.specs.Pieces.{AreChanges}
use Rattle.vl_backup.specs.declared.fails.LoadFail.{LoadFail}
use Rattle.vl_backup.specs.declared.fails.LoadFail.TheVariants as loads
use Rattle.vl_stream.specs.laws.LoadLaws.{AreRising, not_found, of_test}
use Rattle.vl_disk.specs.declared.watched.Watched.{Ghosts}
use Rattle.vl_engine_laws.specs.Carries.{CrashesShow, Tells}
use Rattle.vl_engine_laws.specs.laws.Carrying.{IsWatched}
use Rattle.vl_engine_model.specs.Decides.{Decides, as_before, no_effects}
use Rattle.vl_engine_model.specs.Ruling.{ended}
use Rattle.vl_engine_model.specs.Rulings.Begin.{begin_ruling, begun}
use Rattle.vl_engine_model.specs.declared.layout.Layout.{Layout}
use Rattle.vl_engine_model_laws.specs.laws.KnownVersions.{first_part, second_part}
use Rattle.vl_model.specs.History.{History, newer}
use Rattle.vl_model.specs.Keys.{Writes, key_cmp}
use Rattle.vl_model.specs.Notes.{AreNotesOf}
use Rattle.vl_model.specs.declared.change.Change.{Change}
use Rattle.vl_model.specs.laws.WinnerLaws.{same_key}
use Rattle.vl_oracle.specs.declared.begin_fail.BeginFail.{BeginFail}
use Rattle.vl_oracle.specs.declared.begin_fail.BeginFail.TheVariants as begins
use Rattle.vl_reads.specs.Reading.{OnlyWrites}
use Rattle.vl_reads.specs.Sees.{IsNew}
use Rattle.vl_reads.specs.declared.txn.Txn.{Txn}
use Rattle.vl_recover.specs.crash.Starts.{MayOpen}
use Rattle.vl_steps.specs.Answers.{begin_outcome}
use Rattle.vl_txn.specs.Reads.{Notes}

-- ---- what was written

apart : (b : Bool) (change : Change) (old later : Option Change) → (b ≡ true → later ≡ None)
    → newer (cond b (Some change) old) later ≡ newer old (cond b (Some change) later)
apart true change old later none = ap (newer (Some change)) (none refl)
apart false change old later none = refl

get-written_all : (writes : Writes) (ws : List Write) (q : List ℕ) → AreRising ws
    → get (written_all writes ws) q ≡ newer (get writes q) (find key_cmp q ws)
get-written_all writes [] q rising = refl
get-written_all writes (w ∷ ws) q rising =
    get-written_all (insert writes w.0 w.1) ws q (second_part (below_all key_cmp w.0 ws) (is_sorted key_cmp ws) rising)
    ∙ ap (λ (o : Option Change). newer o (find key_cmp q ws)) (get-insert nat_list_cmp_total writes w.0 w.1 q)
    ∙ apart (eq_by_cmp key_cmp q w.0) w.1 (get writes q) (find key_cmp q ws)
    (λ same. ap (λ (k : List ℕ). find key_cmp k ws) (same_key q w.0 same)
    ∙ not_found w.0 ws (first_part (below_all key_cmp w.0 ws) (is_sorted key_cmp ws) rising))

nothing_before : (o : Option Change) → newer None o ≡ o
nothing_before None = refl
nothing_before (Some change) = refl

-- Of records in key order just these are written then.
pub entries-written_all : (ws : List Write) → AreRising ws → entries (written_all empty ws) ≡ ws
entries-written_all ws rising =
    ap entries (same_map nat_list_cmp_total (slice_cmp-IsAntisymmetric nat_cmp-IsAntisymmetric) (written_all empty ws)
    (from_sorted ws)
    (λ q. get-written_all empty ws q rising
    ∙ ap (λ (o : Option Change). newer o (find key_cmp q ws)) (get-empty key_cmp q)
    ∙ nothing_before (find key_cmp q ws)
    ∙ sym (get-from_sorted key_cmp ws q rising)))
    ∙ entries-from_sorted key_cmp ws rising

-- what wrote once and again
pub only_writes : {H R : Type 0} (a b c : Txn H R) → OnlyWrites a b → OnlyWrites b c → OnlyWrites a c
only_writes {H} {R} a b c one two = two ∙ ap (λ (t : Txn H R). record t { writes = c.writes }) one

-- one record more
pub written_next : (before now : Writes) (xs : List Write) (i : ℕ) (w : Write) (total : Writes) → i < length xs
    → w ≡ get_or xs i w
    → now ≡ insert before w.0 w.1 → written_all before (drop i xs) ≡ total → written_all now (drop (i + 1) xs) ≡ total
written_next before now xs i w total within item is all =
    ap (λ (x : Writes). written_all x (drop (i + 1) xs)) is
    ∙ ap (λ (v : Write). written_all (insert before v.0 v.1) (drop (i + 1) xs)) item
    ∙ sym (at_drop_more (written_all before) xs i w within) ∙ all

-- ---- the transaction

module _ {D H : Type 0} (g : Ghosts D) (watched : IsWatched g) (bytes : H → Option (List ℕ)) (old : Parts D H)
    (h : History) (l : Layout) (works : Works g bytes old h l) where
  alone : (new : D) → new ≡ old.disk → l.halted ≡ None → CrashesShow g old.disk new h h
  alone new same running =
      subst (λ (d : D). CrashesShow g old.disk d h h) (sym same) (lets_alone g watched bytes old h l works running)

  opens : (new : D) → new ≡ old.disk → l.halted ≡ None → Tells g new MayOpen
  opens new same running = subst (λ (d : D). Tells g d MayOpen) (sym same) (may_open g watched bytes old h l works running)

module _ {D H R : Type 0} (g : Ghosts D) (watched : IsWatched g) (bytes : H → Option (List ℕ)) (old : Parts D H)
    (h : History) (l sealed : Layout) (batch : List Write) (works : Works g bytes old h l) where
  -- It was not begun.
  not_begun : (new : Parts D H) (answer : Result (Txn H R) BeginFail) (why : BeginFail) → answer ≡ Err why
      → Decides (Works g bytes new) h l (begin_ruling l h) (as_before l l) (begin_outcome answer) no_effects
      → new.disk ≡ old.disk → CommitsBatch g bytes old new h l sealed batch (Err (begin_fail why))
  not_begun new answer begins.TooMany refused decides same =
      let (there, many) = too_many_so g bytes new h l (subst (λ (r : Result (Txn H R) BeginFail).
      Decides (Works g bytes new) h l (begin_ruling l h) (as_before l l) (begin_outcome r) no_effects) refused decides) in
      record {
        layout = l;
        works = there;
        live = refl;
        through = alone g watched bytes old h l works new.disk same;
        again = opens g watched bytes old h l works new.disk same;
        is = (many, inl refl);
      }
  not_begun new answer begins.NoMemory refused decides same =
      let short = subst (λ (r : Result (Txn H R) BeginFail).
      Decides (Works g bytes new) h l (begin_ruling l h) (as_before l l) (begin_outcome r) no_effects) refused decides in
      record {
        layout = l;
        works = (short.no_memory refl).0;
        live = refl;
        through = alone g watched bytes old h l works new.disk same;
        again = opens g watched bytes old h l works new.disk same;
        is = (tt, inl refl);
      }

  pub not_begun_so : (new : Parts D H) (answer : Result (Txn H R) BeginFail) (why : BeginFail) → answer ≡ Err why
      → (said : LoadFail) → said ≡ begin_fail why
      → Decides (Works g bytes new) h l (begin_ruling l h) (as_before l l) (begin_outcome answer) no_effects
      → new.disk ≡ old.disk → CommitsBatch g bytes old new h l sealed batch (Err said)
  not_begun_so new answer why refused said is decides same =
      subst (λ (w : LoadFail). CommitsBatch g bytes old new h l sealed batch (Err w)) (sym is)
      (not_begun new answer why refused decides same)

  module _ (mid : Parts D H) (txn written : Txn H R) (begun_so : Begins g bytes mid h l txn.ticket txn.number)
      (same : mid.disk ≡ old.disk) (keeps : OnlyWrites txn written) where
    abbrev m : Layout
    m = begun l txn.ticket txn.number

    -- when it ends, the layout is left as it was
    left : ended written.ticket m ≡ l
    left = ap (λ (u : Txn H R). ended u.ticket m) keeps ∙ begun_so.left

    pub is_ready : IsNew txn → written.writes ≡ written_all txn.writes batch → AreChanges batch → IsReady written m batch
    is_ready fresh writes lawful =
        subst (λ (u : Txn H R). IsReady u m batch) (sym keeps) (record {
          lives = begun_so.lives;
          unread = subst (λ (n : Notes). AreNotesOf [] n.keys n.spans) (sym fresh.reads) (λ key. refl);
          writes = ap entries (writes ∙ ap (λ (w : Writes). written_all w batch) fresh.writes)
              ∙ entries-written_all batch (of_test (is_sorted key_cmp batch) lawful.rising);
          some = lawful.batch.some;
        })

    -- Memory ran out while the records were written, and it was given up.
    pub not_written : (new : Parts D H) → Works g bytes new h (ended written.ticket m) → new.disk ≡ mid.disk
        → CommitsBatch g bytes old new h l sealed batch (Err loads.NoMemory)
    not_written new is still = record {
      layout = l;
      works = subst (Works g bytes new h) left is;
      live = refl;
      through = alone g watched bytes old h l works new.disk (still ∙ same);
      again = opens g watched bytes old h l works new.disk (still ∙ same);
      is = (tt, inl refl);
    }

    -- They were written, and it went on.
    pub went_on : (new : Parts D H) (result : Result ⊤ LoadFail)
        → CommitsBatch g bytes mid new h (ended written.ticket m) (sealed_for h batch (ended written.ticket m)) batch result
        → CommitsBatch g bytes old new h l (sealed_for h batch l) batch result
    went_on new result x =
        commits_behind g bytes old mid new h l (sealed_for h batch l) batch result
        (alone g watched bytes old h l works mid.disk same)
        (subst (λ (y : Layout). CommitsBatch g bytes mid new h y (sealed_for h batch y) batch result) left x)
