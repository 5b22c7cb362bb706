-- Each line of a script leaves a store proper.
use Rattle.std.proofs.Common.{◌≡◌, ℕ, ◌+◌, Bool, true, false, cond, not, ◌&&◌, List, [], ◌∷◌, ◌++◌, length, refl, subst}
use Rattle.std.specs.Prelude.{Option, Some, None, T, if◌then◌else◌}
use Rattle.std.proofs.lemmas.Cmp.{nat_list_cmp_total}
use Rattle.std.specs.FinMap.{find, is_sorted, put}
use Rattle.std.specs.FinMap.Entries.{is_sorted-put}
use Rattle.std.specs.List.{AllByRecursion, filter}
use Rattle.std.specs.Ordering.{eq_by_cmp}
use Rattle.vl_model.specs.Formats.{log_format}
use Rattle.vl_model.specs.Keys.{Stored, key_cmp, is_key_length, is_value_length, tagged, untagged, value_bytes}
use Rattle.vl_model.specs.declared.change.Change.{Change}
use Rattle.vl_model.specs.declared.change.Change.TheVariants as change
use Rattle.vl_model.specs.declared.entry.Entry.{Entry}
use Rattle.vl_model.specs.declared.way.Way.{Way}
use Rattle.vl_engine_model.specs.AtAnswer.{Beginning, beginning_of}
use Rattle.vl_engine_model.specs.Jobs.{Made}
use Rattle.vl_engine_model.specs.Merging.{outputs}
use Rattle.vl_engine_model.specs.Relocation.{Candidate, Pass, next_batch}
use Rattle.vl_engine_model.specs.Ruling.{Ruling}
use Rattle.vl_engine_model.specs.Rulings.Begin as begin
use Rattle.vl_engine_model.specs.Rulings.Begin.{BeginAnswer, begin_ruling}
use Rattle.vl_engine_model.specs.Rulings.Commit as commit
use Rattle.vl_engine_model.specs.Rulings.Commit.{CommitAnswer, Transaction}
use Rattle.vl_engine_model.specs.Rulings.Drain.{drain_ruling}
use Rattle.vl_engine_model.specs.Rulings.Fresh as fresh
use Rattle.vl_engine_model.specs.Rulings.Fresh.{FreshAnswer, fresh_ruling}
use Rattle.vl_engine_model.specs.Rulings.Pick as pick
use Rattle.vl_engine_model.specs.Rulings.Pick.{PickAnswer, pick_ruling}
use Rattle.vl_engine_model.specs.Rulings.Plan.{plan_ruling}
use Rattle.vl_engine_model.specs.Rulings.Relocate as relocate
use Rattle.vl_engine_model.specs.Rulings.Relocate.{MoveAnswer, relocate_ruling}
use Rattle.vl_engine_model.specs.Store.Commits.{Changes, history_in}
use Rattle.vl_engine_model.specs.Store.Dispatch.{batch_by, drop_by, fill, filled, found_by, install_by, made_of, move_by}
use Rattle.vl_engine_model.specs.Store.Dispatch.{moved_by, pick_as, picked_by, plan_as, planned_by, step_of}
use Rattle.vl_engine_model.specs.Store.Lines.{Answer, Name, Line, Begin, View, Get, GetTagged, GetAt, Set, SetTagged}
use Rattle.vl_engine_model.specs.Store.Lines.{Delete, Scan, Commit, Drop, Rotate, Flush, Plan, Drain, Install, Pick, Batch}
use Rattle.vl_engine_model.specs.Store.Lines.{Move, Sweep, Stats, Keep}
use Rattle.vl_engine_model.specs.Store.Proper.{AreNamedOnce, HasRisingWrites, IsProper}
use Rattle.vl_engine_model.specs.Store.Reading.{a_transaction, a_view, answer_of, answer_with_tag, begin_as, begun_by}
use Rattle.vl_engine_model.specs.Store.Reading.{commit_by, committed_by, get_at_by, get_by, get_own, ruled, is_small_enough}
use Rattle.vl_engine_model.specs.Store.Reading.{scan_by, write_by}
use Rattle.vl_engine_model.specs.Store.Things.{Thing, ATransaction, AView, AJob, APass, State, Step, thing_in, with_thing}
use Rattle.vl_engine_model.specs.Store.Things.{without_name, without_thing}
use Rattle.vl_engine_model.specs.declared.job.Job.{Job}
use Rattle.vl_engine_model.specs.declared.layout.Layout.{Layout}

-- ---- names

off_filtered : (name : Name) (q : (Name × Thing) → Bool) (ts : List (Name × Thing))
    → AllByRecursion (λ (u : Name × Thing). eq_by_cmp key_cmp name u.0 ≡ false) ts
    → AllByRecursion (λ (u : Name × Thing). eq_by_cmp key_cmp name u.0 ≡ false) (filter q ts)
off_filtered name q [] off = tt
off_filtered name q (t ∷ ts) off = elim (q t) as
    (λ b. AllByRecursion (λ (u : Name × Thing). eq_by_cmp key_cmp name u.0 ≡ false) (cond b (t ∷ filter q ts) (filter q ts))) [
      | true ↦ (off.0, off_filtered name q ts off.1)
      | false ↦ off_filtered name q ts off.1
    ]

once_filtered : (q : (Name × Thing) → Bool) (ts : List (Name × Thing)) → AreNamedOnce ts → AreNamedOnce (filter q ts)
once_filtered q [] once = tt
once_filtered q (t ∷ ts) once = elim (q t) as (λ b. AreNamedOnce (cond b (t ∷ filter q ts) (filter q ts))) [
  | true ↦ (off_filtered t.0 q ts once.0, once_filtered q ts once.1)
  | false ↦ once_filtered q ts once.1
]

-- without a name none has it
none_left : (name : Name) (ts : List (Name × Thing))
    → AllByRecursion (λ (u : Name × Thing). eq_by_cmp key_cmp name u.0 ≡ false) (without_name name ts)
none_left name [] = tt
none_left name (t ∷ ts) = by (eq_by_cmp key_cmp name t.0) refl (none_left name ts)
  where
    by : (b : Bool) → eq_by_cmp key_cmp name t.0 ≡ b
        → AllByRecursion (λ (u : Name × Thing). eq_by_cmp key_cmp name u.0 ≡ false) (without_name name ts)
        → AllByRecursion (λ (u : Name × Thing). eq_by_cmp key_cmp name u.0 ≡ false)
        (cond (not b) (t ∷ without_name name ts) (without_name name ts))
    by true is later = later
    by false is later = (is, later)

all_filtered : (P : (Name × Thing) → Type 0) (q : (Name × Thing) → Bool) (ts : List (Name × Thing))
    → AllByRecursion P ts → AllByRecursion P (filter q ts)
all_filtered P q [] all = tt
all_filtered P q (t ∷ ts) all = elim (q t) as (λ b. AllByRecursion P (cond b (t ∷ filter q ts) (filter q ts))) [
  | true ↦ (all.0, all_filtered P q ts all.1)
  | false ↦ all_filtered P q ts all.1
]

-- what a name stands for
found_rising : (ts : List (Name × Thing)) (name : Name) (x : Thing)
    → AllByRecursion (λ (t : Name × Thing). HasRisingWrites t.1) ts → thing_in ts name ≡ Some x → HasRisingWrites x
found_rising [] name x all is = absurd cc
found_rising (t ∷ ts) name x all is = by (eq_by_cmp key_cmp name t.0) is (found_rising ts name x all.1)
  where
    by : (b : Bool) → cond b (Some t.1) (thing_in ts name) ≡ Some x → (thing_in ts name ≡ Some x → HasRisingWrites x) → HasRisingWrites x
    by true is later = let same : t.1 ≡ x = cc in subst HasRisingWrites same all.0
    by false is later = later is

more_commits : (cs : List Changes) (c : Changes) → AllByRecursion (λ (d : Changes). T (is_sorted key_cmp d)) cs
    → T (is_sorted key_cmp c) → AllByRecursion (λ (d : Changes). T (is_sorted key_cmp d)) (cs ++ c ∷ [])
more_commits [] c all rising = (rising, tt)
more_commits (d ∷ ds) c all rising = (all.0, more_commits ds c all.1 rising)

module _ (s : State) (p : IsProper s) where
  laid : (l : Layout) → IsProper (record s { layout = l })
  laid l = record { commits = p.commits; writes = p.writes; names = p.names }

  with : (l : Layout) (name : Name) (x : Thing) → HasRisingWrites x → IsProper (with_thing s l name x)
  with l name x rising = record {
    commits = p.commits;
    writes = (
      rising,
      all_filtered (λ (t : Name × Thing). HasRisingWrites t.1)
          (λ (t : Name × Thing). not (eq_by_cmp key_cmp name t.0)) s.things p.writes,
    );
    names = (none_left name s.things, once_filtered (λ (t : Name × Thing). not (eq_by_cmp key_cmp name t.0)) s.things p.names);
  }

  freed : (l : Layout) (name : Name) → IsProper (without_thing s l name)
  freed l name = record {
    commits = p.commits;
    writes = all_filtered (λ (t : Name × Thing). HasRisingWrites t.1)
        (λ (t : Name × Thing). not (eq_by_cmp key_cmp name t.0)) s.things p.writes;
    names = once_filtered (λ (t : Name × Thing). not (eq_by_cmp key_cmp name t.0)) s.things p.names;
  }

  either : (b : Bool) (x y : Step) → IsProper x.state → IsProper y.state → IsProper (if b then x else y).state
  either true x y one other = one
  either false x y one other = other

  rising_of : (name : Name) (x : Thing) → thing_in s.things name ≡ Some x → HasRisingWrites x
  rising_of name x is = found_rising s.things name x p.writes is

  -- ---- begin, reads, writes

  begun_proper : (name : Name) (thing : ℕ → ℕ → Thing) (r : Ruling BeginAnswer) (a : BeginAnswer)
      → ((ticket number : ℕ) → HasRisingWrites (thing ticket number)) → IsProper (begun_by s name thing r a).state
  begun_proper name thing r begin.TooMany rising = p
  begun_proper name thing r (begin.Begun ticket number) rising = with r.layout name (thing ticket number) (rising ticket number)

  begin_proper : (name : Name) (thing : Beginning → ℕ → ℕ → Thing) (o : Option Thing)
      → ((b : Beginning) (ticket number : ℕ) → HasRisingWrites (thing b ticket number)) → IsProper (begin_as s name thing o).state
  begin_proper name thing (Some other) rising = p
  begin_proper name thing None rising = let r = begin_ruling s.layout (history_in s.commits) in
      begun_proper name (thing (beginning_of r.layout (history_in s.commits))) r r.answer
      (λ ticket number. rising (beginning_of r.layout (history_in s.commits)) ticket number)

  own_proper : (name : Name) (tell : Option Stored → Answer) (t : Transaction) (b : Beginning) (key : List ℕ)
      (o : Option Change) → T (is_sorted key_cmp t.writes) → IsProper (get_own s name tell t b key o).state
  own_proper name tell t b key (Some change) rising = p
  own_proper name tell t b key None rising = with s.layout name _ rising

  get_proper : (name : Name) (tell : Option Stored → Answer) (key : List ℕ) (o : Option Thing)
      → thing_in s.things name ≡ o → IsProper (get_by s name tell key o).state
  get_proper name tell key None is = p
  get_proper name tell key (Some (AJob job made)) is = p
  get_proper name tell key (Some (APass pass batch)) is = p
  get_proper name tell key (Some (AView v b)) is = either (is_key_length (length key)) _ _ p p
  get_proper name tell key (Some (ATransaction t b)) is =
      either (is_key_length (length key)) _ _
      (own_proper name tell t b key (find key_cmp key t.writes) (rising_of name (ATransaction t b) is)) p

  get_at_proper : (name : Name) (key : List ℕ) (n : ℕ) (o : Option Thing) → IsProper (get_at_by s name key n o).state
  get_at_proper name key n None = p
  get_at_proper name key n (Some (AJob job made)) = p
  get_at_proper name key n (Some (APass pass batch)) = p
  get_at_proper name key n (Some (AView v b)) = p
  get_at_proper name key n (Some (ATransaction t b)) = p

  scan_proper : (way : Way) (name : Name) (low high : List ℕ) (limit : ℕ) (o : Option Thing)
      → thing_in s.things name ≡ o → IsProper (scan_by s way name low high limit o).state
  scan_proper way name low high limit None is = p
  scan_proper way name low high limit (Some (AJob job made)) is = p
  scan_proper way name low high limit (Some (APass pass batch)) is = p
  scan_proper way name low high limit (Some (AView v b)) is = either _ _ _ p p
  scan_proper way name low high limit (Some (ATransaction t b)) is = either _ _ _
      (with s.layout name _ (rising_of name (ATransaction t b) is)) p

  write_proper : (name : Name) (key : List ℕ) (to : Change) (o : Option Thing) → thing_in s.things name ≡ o
      → IsProper (write_by s name key to o).state
  write_proper name key to None is = p
  write_proper name key to (Some (AJob job made)) is = p
  write_proper name key to (Some (APass pass batch)) is = p
  write_proper name key to (Some (AView v b)) is = p
  write_proper name key to (Some (ATransaction t b)) is =
      either (not (is_key_length (length key) && is_value_length log_format (length (value_bytes to)))) _ _ p
      (either (is_small_enough (put key_cmp key to t.writes)) _ _
      (with s.layout name _ (is_sorted-put key_cmp nat_list_cmp_total key to t.writes (rising_of name (ATransaction t b) is))) p)

  -- ---- a commit

  committed_proper : (name : Name) (t : Transaction) (r : Ruling CommitAnswer) (a : CommitAnswer)
      → T (is_sorted key_cmp t.writes) → IsProper (committed_by s name t r a).state
  committed_proper name t r (commit.At n) rising =
      let left = freed r.layout name in
      record {
        commits = record {
          numbers = p.commits.numbers;
          base = p.commits.base;
          commits = more_commits s.commits.commits t.writes
              p.commits.commits rising;
        };
        writes = left.writes;
        names = left.names;
      }
  committed_proper name t r commit.Nothing rising = freed r.layout name
  committed_proper name t r (commit.Halted file) rising = freed r.layout name
  committed_proper name t r (commit.Exhausted c) rising = p
  committed_proper name t r (commit.Conflict key n) rising = freed r.layout name
  committed_proper name t r (commit.Full length frame) rising = p

  commit_proper : (name : Name) (o : Option Thing) → thing_in s.things name ≡ o → IsProper (commit_by s name o).state
  commit_proper name None is = p
  commit_proper name (Some (AJob job made)) is = p
  commit_proper name (Some (APass pass batch)) is = p
  commit_proper name (Some (AView v b)) is = p
  commit_proper name (Some (ATransaction t b)) is = committed_proper name t (ruled s t) (ruled s t).answer
      (rising_of name (ATransaction t b) is)

  drop_proper : (name : Name) (o : Option Thing) → IsProper (drop_by s name o).state
  drop_proper name None = p
  drop_proper name (Some (ATransaction t b)) = freed _ name
  drop_proper name (Some (AView v b)) = freed _ name
  drop_proper name (Some (AJob job made)) = freed _ name
  drop_proper name (Some (APass pass batch)) = freed _ name

  -- ---- jobs and passes

  filled_proper : (l : Layout) (made : Made) (calls : ℕ) (more : Step) (a : FreshAnswer) → IsProper more.state
      → IsProper (filled s l made calls more a).state
  filled_proper l made calls more (fresh.Drawn n) rest = rest
  filled_proper l made calls more (fresh.Halted file) rest = laid _
  filled_proper l made calls more (fresh.Exhausted c) rest = laid _

  fill_proper : (name : Name) (job : Job) (l : Layout) (output : List (List Entry)) (numbers : List ℕ) (calls : ℕ)
      → IsProper (fill s name job l output numbers calls).state
  fill_proper name job l [] numbers calls = with l name _ tt
  fill_proper name job l (es ∷ output) numbers calls =
      filled_proper l (made_of job numbers) calls _ (fresh_ruling l (history_in s.commits)).answer
      (fill_proper name job (fresh_ruling l (history_in s.commits)).layout output (numbers ++ l.next_table ∷ []) (calls + 1))

  planned_proper : (name : Name) (r : Ruling (Option Job)) (o : Option Job) → IsProper (planned_by s name r o).state
  planned_proper name r None = p
  planned_proper name r (Some job) = fill_proper name job r.layout (outputs job) [] 0

  plan_proper : (name : Name) (r : Ruling (Option Job)) (o : Option Thing) → IsProper (plan_as s name r o).state
  plan_proper name r (Some other) = p
  plan_proper name r None = planned_proper name r r.answer

  install_proper : (name : Name) (o : Option Thing) → IsProper (install_by s name o).state
  install_proper name None = p
  install_proper name (Some (ATransaction t b)) = p
  install_proper name (Some (AView v b)) = p
  install_proper name (Some (APass pass batch)) = p
  install_proper name (Some (AJob job made)) = freed _ name

  picked_proper : (name : Name) (r : Ruling PickAnswer) (a : PickAnswer) → IsProper (picked_by s name r a).state
  picked_proper name r (pick.Picked pass) = with r.layout name _ tt
  picked_proper name r pick.InvalidRequest = p
  picked_proper name r (pick.Rejected segment) = p
  picked_proper name r pick.NoRewrite = p

  pick_proper : (name : Name) (percent : ℕ) (o : Option Thing) → IsProper (pick_as s name percent o).state
  pick_proper name percent (Some other) = p
  pick_proper name percent None = let r = pick_ruling s.layout (history_in s.commits) percent in picked_proper name r r.answer

  found_proper : (name : Name) (next : Option (List Candidate) × Pass) (o : Option (List Candidate))
      → IsProper (found_by s name next o).state
  found_proper name next None = with s.layout name _ tt
  found_proper name next (Some batch) = with s.layout name _ tt

  batch_proper : (name : Name) (o : Option Thing) → IsProper (batch_by s name o).state
  batch_proper name None = p
  batch_proper name (Some (ATransaction t b)) = p
  batch_proper name (Some (AView v b)) = p
  batch_proper name (Some (AJob job made)) = p
  batch_proper name (Some (APass pass (Some batch))) = p
  batch_proper name (Some (APass pass None)) = found_proper name (next_batch pass) (next_batch pass).0

  moved_proper : (name : Name) (pass : Pass) (r : Ruling MoveAnswer) (a : MoveAnswer) → IsProper (moved_by s name pass r a).state
  moved_proper name pass r (relocate.Moves n) = with r.layout name _ tt
  moved_proper name pass r (relocate.Halted file) = p
  moved_proper name pass r (relocate.Exhausted c) = p
  moved_proper name pass r (relocate.Full length frame) = p

  move_proper : (name : Name) (o : Option Thing) → IsProper (move_by s name o).state
  move_proper name None = p
  move_proper name (Some (ATransaction t b)) = p
  move_proper name (Some (AView v b)) = p
  move_proper name (Some (AJob job made)) = p
  move_proper name (Some (APass pass None)) = p
  move_proper name (Some (APass pass (Some batch))) = let r = relocate_ruling s.layout (history_in s.commits) pass batch
      in moved_proper name pass r r.answer

  -- ---- all lines

  pub step_proper : (line : Line) → IsProper (step_of s line).state
  step_proper (Begin name) = begin_proper name a_transaction (thing_in s.things name) (λ b ticket number. tt)
  step_proper (View name) = begin_proper name a_view (thing_in s.things name) (λ b ticket number. tt)
  step_proper (Get name key) = get_proper name answer_of key (thing_in s.things name) refl
  step_proper (GetTagged name key) = get_proper name answer_with_tag key (thing_in s.things name) refl
  step_proper (GetAt name key n) = get_at_proper name key n (thing_in s.things name)
  step_proper (Set name key value) = write_proper name key (change.Set (untagged value)) (thing_in s.things name) refl
  step_proper (SetTagged name key value tag) = write_proper name key (change.Set (tagged value tag)) (thing_in s.things name) refl
  step_proper (Delete name key) = write_proper name key change.Delete (thing_in s.things name) refl
  step_proper (Scan way name low high limit) = scan_proper way name low high limit (thing_in s.things name) refl
  step_proper (Commit name) = commit_proper name (thing_in s.things name) refl
  step_proper (Drop name) = drop_proper name (thing_in s.things name)
  step_proper Rotate = laid _
  step_proper Flush = laid _
  step_proper (Plan name) = plan_proper name (plan_ruling s.layout (history_in s.commits)) (thing_in s.things name)
  step_proper (Drain name segment) = plan_proper name (drain_ruling s.layout (history_in s.commits) segment) (thing_in s.things name)
  step_proper (Install name) = install_proper name (thing_in s.things name)
  step_proper (Pick name percent) = pick_proper name percent (thing_in s.things name)
  step_proper (Batch name) = batch_proper name (thing_in s.things name)
  step_proper (Move name) = move_proper name (thing_in s.things name)
  step_proper Sweep = laid _
  step_proper Stats = p
  step_proper (Keep v) = laid _
