-- What a script reads is explained by the history at the reader's own number.
use Rattle.std.proofs.Common.{◌≡◌, ◌⊎◌, ⊎_elim, inl, inr, ℕ, ◌+◌, ◌≤◌, ◌==◌, Bool, true, false, cond, ◌&&◌, not}
use Rattle.std.proofs.Common.{List, [], ◌∷◌, ◌++◌, length, refl, ap, sym, ◌∙◌, subst, arith, length-append}
use Rattle.std.specs.Prelude.{Option, Some, None, T, nat_le, nat_lt, if◌then◌else◌}
use Rattle.std.specs.FinMap.{entries, entries-from_sorted, find, from_sorted, is_sorted, put}
use Rattle.std.specs.List.{AllByRecursion, filter}
use Rattle.std.specs.Ordering.{eq_by_cmp}
use Rattle.vl_model.specs.Conflicts.{first_conflict}
use Rattle.vl_model.specs.Formats.{log_format}
use Rattle.vl_model.specs.History.{Extends, History, contents_at, last_number, value_at, with_commit}
use Rattle.vl_model.specs.Keys.{Row, Stored, key_cmp, is_key_length, is_value_length, value_bytes}
use Rattle.vl_model.specs.Limits.{max_key_bytes, max_live}
use Rattle.vl_model.specs.Reads.{KeyRead, RangeRead, Read, IsExplained, IsExplainedRead, rows_of, scanned}
use Rattle.vl_model.specs.declared.change.Change.{Change}
use Rattle.vl_model.specs.declared.way.Way.{Way}
use Rattle.vl_model.specs.laws.ExplainedLaws.{explained-extends}
use Rattle.vl_engine_model.specs.AtAnswer as at
use Rattle.vl_engine_model.specs.AtAnswer.{AtAnswer, Beginning, beginning_of}
use Rattle.vl_engine_model.specs.Jobs.{Made}
use Rattle.vl_engine_model.specs.Merging.{outputs}
use Rattle.vl_engine_model.specs.Relocation.{Candidate, Pass, next_batch}
use Rattle.vl_engine_model.specs.Ruling.{Ruling, leaving}
use Rattle.vl_engine_model.specs.Rulings.Begin as begin
use Rattle.vl_engine_model.specs.Rulings.Begin.{BeginAnswer, begin_ruling, begun}
use Rattle.vl_engine_model.specs.Rulings.Commit as commit
use Rattle.vl_engine_model.specs.Rulings.Commit.{CommitAnswer, Transaction}
use Rattle.vl_engine_model.specs.Rulings.Fresh as fresh
use Rattle.vl_engine_model.specs.Rulings.Fresh.{FreshAnswer, fresh_ruling}
use Rattle.vl_engine_model.specs.Rulings.Pick as pick
use Rattle.vl_engine_model.specs.Rulings.Pick.{PickAnswer, pick_ruling}
use Rattle.vl_engine_model.specs.Rulings.Relocate as relocate
use Rattle.vl_engine_model.specs.Rulings.Relocate.{MoveAnswer, relocate_ruling}
use Rattle.vl_engine_model.specs.Store.Commits.{AreProper, Changes, at_answer_in, history_in, low_in, value_in, with_changes}
use Rattle.vl_engine_model.specs.Store.Dispatch.{batch_by, drop_by, fill, filled, found_by, install_by, made_of, move_by}
use Rattle.vl_engine_model.specs.Store.Dispatch.{moved_by, pick_as, picked_by, plan_as, planned_by}
use Rattle.vl_engine_model.specs.Store.Lines.{Answer, Dropped, Invalid, Name, Rows}
use Rattle.vl_engine_model.specs.Store.Proper.{HasRisingWrites, IsProper}
use Rattle.vl_engine_model.specs.Store.Reading.{a_transaction, a_view, answer_of, begin_as, begun_by, commit_by}
use Rattle.vl_engine_model.specs.Store.Reading.{committed_by, get_at_by, get_by, get_own, is_small_enough, noted_scan}
use Rattle.vl_engine_model.specs.Store.Reading.{rows_told, ruled, scan_by, scan_of, scanned_rows, told_at, write_by}
use Rattle.vl_engine_model.specs.Store.Things.{Thing, ATransaction, AView, AJob, APass, State, Step, named, only, thing_in}
use Rattle.vl_engine_model.specs.Store.Things.{thing_of, without_name}
use Rattle.vl_engine_model.specs.Tickets.{free_ticket, tickets_of}
use Rattle.vl_engine_model.specs.declared.job.Job.{Job}
use Rattle.vl_engine_model.specs.declared.layout.Layout.{Layout}
use Rattle.vl_model.specs.declared.entry.Entry.{Entry}
use Rattle.vl_engine_model.specs.laws.CommitsLaws.{conflict_in-is, rows_in-are, value_in-is}
use Rattle.vl_script_model.specs.Exchanges.{ReadsAt, ScansAt, TellsValue}
use Rattle.vl_script_model.specs.Readers.{IsReader}
use Rattle.vl_script_model.specs.laws.Growing.{Adds, history_more}

-- ---- what is read, by the history

module _ (s : State) (proper : AreProper s.commits) where
  abbrev h : History
  h = history_in s.commits

  pub value_is : (tell : Option Stored → Answer) (number : ℕ) (key : List ℕ)
      → tell (value_in s.commits number key) ≡ tell (value_at (history_in s.commits) number key)
  value_is tell number key = ap tell (value_in-is s.commits proper number key)

  -- the rows of a scan under some writes
  pub rows_are : (way : Way) (low high : List ℕ) (limit : ℕ) (own : Changes) (number : ℕ) → T (is_sorted key_cmp own)
      → scanned_rows s way low high limit own number ≡ rows_of (contents_at (history_in s.commits) number) (scan_of way low high limit own)
  rows_are way low high limit own number rising =
      ap (scanned (scan_of way low high limit own) own) (rows_in-are s.commits proper number)
      ∙ ap (λ (ws : Changes). scanned (scan_of way low high limit own) ws (entries (contents_at h number)))
      (sym (entries-from_sorted key_cmp own rising))

-- ---- what is noted stays explained

-- a transaction's reads are explained at its number, at which the history can be read
abbrev pub IsSoundThing : History → Thing → Type 0
IsSoundThing h (ATransaction t b) = IsExplained h t.number t.reads × (h.first ≤ t.number) × (t.number ≤ last_number h)
IsSoundThing h (AView v b) = Unit {0}
IsSoundThing h (AJob job made) = Unit {0}
IsSoundThing h (APass pass batch) = Unit {0}

pub record IsSound (s : State) : Type 0 where
  pub proper : IsProper s
  pub things : AllByRecursion (λ (x : Name × Thing). IsSoundThing (history_in s.commits) x.1) s.things

pub none_sound : (s : State) → IsProper s → s.things ≡ [] → IsSound s
none_sound s proper none = record {
  proper = proper;
  things = subst (AllByRecursion (λ (x : Name × Thing). IsSoundThing (history_in s.commits) x.1)) (sym none) tt;
}

explained-more : (h : History) (n : ℕ) (reads : List Read) (x : Read) → IsExplained h n reads → IsExplainedRead h n x
    → IsExplained h n (reads ++ x ∷ [])
explained-more h n [] x all is = (is, tt)
explained-more h n (r ∷ reads) x all is = (all.0, explained-more h n reads x all.1 is)

-- a later history
later_sound : (least most : History) → Extends least most → (x : Thing) → IsSoundThing least x → IsSoundThing most x
later_sound least most e (ATransaction t b) (explained, from, known) =
    let count = ap length e.commits in let both = length-append least.commits e.later in let first = e.first in (
      explained-extends least most e t.number known t.reads explained,
      omega (arith, from, first),
      omega (arith, known, first, count, both),
    )
later_sound least most e (AView v b) sound = tt
later_sound least most e (AJob job made) sound = tt
later_sound least most e (APass pass batch) sound = tt

module _ (P : Name × Thing → Type 0) where
  all_filtered : (q : Name × Thing → Bool) (ts : List (Name × Thing)) → AllByRecursion P ts → AllByRecursion P (filter q ts)
  all_filtered q [] all = tt
  all_filtered q (t ∷ ts) all = elim (q t) as (λ b. AllByRecursion P (cond b (t ∷ filter q ts) (filter q ts))) [
    | true ↦ (all.0, all_filtered q ts all.1)
    | false ↦ all_filtered q ts all.1
  ]

all_weaker : (P Q : Name × Thing → Type 0) → ((x : Name × Thing) → P x → Q x) → (ts : List (Name × Thing))
    → AllByRecursion P ts → AllByRecursion Q ts
all_weaker P Q weaker [] all = tt
all_weaker P Q weaker (t ∷ ts) all = (weaker t all.0, all_weaker P Q weaker ts all.1)

-- what a name stands for
pub found_sound : (h : History) (ts : List (Name × Thing)) (name : Name) (x : Thing)
    → AllByRecursion (λ (t : Name × Thing). IsSoundThing h t.1) ts → thing_in ts name ≡ Some x → IsSoundThing h x
found_sound h [] name x all is = absurd cc
found_sound h (t ∷ ts) name x all is = by (eq_by_cmp key_cmp name t.0) is (found_sound h ts name x all.1)
  where
    by : (b : Bool) → cond b (Some t.1) (thing_in ts name) ≡ Some x → (thing_in ts name ≡ Some x → IsSoundThing h x) → IsSoundThing h x
    by true is later = let same : t.1 ≡ x = cc in subst (IsSoundThing h) same all.0
    by false is later = later is

pub found_rising : (ts : List (Name × Thing)) (name : Name) (x : Thing)
    → AllByRecursion (λ (t : Name × Thing). HasRisingWrites t.1) ts → thing_in ts name ≡ Some x → HasRisingWrites x
found_rising [] name x all is = absurd cc
found_rising (t ∷ ts) name x all is = by (eq_by_cmp key_cmp name t.0) is (found_rising ts name x all.1)
  where
    by : (b : Bool) → cond b (Some t.1) (thing_in ts name) ≡ Some x → (thing_in ts name ≡ Some x → HasRisingWrites x) → HasRisingWrites x
    by true is later = let same : t.1 ≡ x = cc in subst HasRisingWrites same all.0
    by false is later = later is

-- what a name stands for that stands for no merge and no pass reads
reads_or : (x : Thing) → ((job : Job) (made : Made) → x ≡ AJob job made → ⊥)
    → ((pass : Pass) (batch : Option (List Candidate)) → x ≡ APass pass batch → ⊥) → IsReader x
reads_or (ATransaction t b) none no_pass = tt
reads_or (AView v b) none no_pass = tt
reads_or (AJob job made) none no_pass = none job made refl
reads_or (APass pass batch) none no_pass = no_pass pass batch refl

pub only_reader : (s : State) (name : Name)
    → ((job : Job) (made : Made) → thing_of s name ≡ Some (AJob job made) → ⊥)
    → ((pass : Pass) (batch : Option (List Candidate)) → thing_of s name ≡ Some (APass pass batch) → ⊥)
    → (x : Thing) → thing_of s name ≡ Some x → IsReader x
only_reader s name none no_pass x is =
    reads_or x (λ job made same. none job made (is ∙ ap Some same)) (λ pass batch same. no_pass pass batch (is ∙ ap Some same))

module _ (s : State) (sound : IsSound s) where
  abbrev h' : History
  h' = history_in s.commits

  -- what is sound over the same commits
  pub record Stays (x : Step) : Type 0 where
    pub commits : x.state.commits ≡ s.commits
    pub things : AllByRecursion (λ (t : Name × Thing). IsSoundThing (history_in s.commits) t.1) x.state.things

  stays : (x : Step) → x.state.commits ≡ s.commits
      → AllByRecursion (λ (t : Name × Thing). IsSoundThing (history_in s.commits) t.1) x.state.things → Stays x
  stays x commits things = record { commits = commits; things = things }

  same_things : (x : Step) → x.state.commits ≡ s.commits → x.state.things ≡ s.things → Stays x
  same_things x commits things = stays x commits
      (subst (AllByRecursion (λ (t : Name × Thing). IsSoundThing (history_in s.commits) t.1)) (sym things) sound.things)

  with_named : (name : Name) (x : Thing) → IsSoundThing (history_in s.commits) x
      → AllByRecursion (λ (t : Name × Thing). IsSoundThing (history_in s.commits) t.1) (named name x s.things)
  with_named name x is = (
    is,
    all_filtered (λ (t : Name × Thing). IsSoundThing (history_in s.commits) t.1)
        (λ (t : Name × Thing). not (eq_by_cmp key_cmp name t.0)) s.things sound.things,
  )

  freed : (name : Name) → AllByRecursion (λ (t : Name × Thing). IsSoundThing (history_in s.commits) t.1) (without_name name s.things)
  freed name = all_filtered (λ (t : Name × Thing). IsSoundThing (history_in s.commits) t.1)
      (λ (t : Name × Thing). not (eq_by_cmp key_cmp name t.0)) s.things sound.things

  either : (b : Bool) (x y : Step) → Stays x → Stays y → Stays (if b then x else y)
  either true x y p q = p
  either false x y p q = q

  -- ---- by each line

  begun_stays : (name : Name) (thing : ℕ → ℕ → Thing) (b : Bool) (ticket : ℕ) → IsSoundThing h' (thing ticket (last_number h'))
      → let r : Ruling BeginAnswer = if b then leaving begin.TooMany h' s.layout else leaving
      (begin.Begun ticket (last_number h')) h' (begun s.layout ticket (last_number h')) in Stays (begun_by s name thing r r.answer)
  begun_stays name thing true ticket is = same_things _ refl refl
  begun_stays name thing false ticket is = stays _ refl (with_named name (thing ticket (last_number h')) is)

  begin_stays : (name : Name) (thing : Beginning → ℕ → ℕ → Thing) (o : Option Thing)
      → ((b : Beginning) (ticket : ℕ) → IsSoundThing h' (thing b ticket (last_number h'))) → Stays (begin_as s name thing o)
  begin_stays name thing (Some other) is = same_things _ refl refl
  begin_stays name thing None is =
      let b = beginning_of (begin_ruling s.layout h').layout h' in
      let ticket = free_ticket (tickets_of s.layout.live) in
      begun_stays name (thing b) (nat_le max_live (length s.layout.live)) ticket (is b ticket)

  pub transaction_stays : (name : Name) → Stays (begin_as s name a_transaction (thing_of s name))
  transaction_stays name = begin_stays name a_transaction (thing_of s name) (λ b ticket. (tt, omega arith, omega arith))

  pub view_stays : (name : Name) → Stays (begin_as s name a_view (thing_of s name))
  view_stays name = begin_stays name a_view (thing_of s name) (λ b ticket. tt)

  own_stays : (name : Name) (tell : Option Stored → Answer) (t : Transaction) (b : Beginning) (key : List ℕ)
      (o : Option Change) → IsSoundThing h' (ATransaction t b) → Stays (get_own s name tell t b key o)
  own_stays name tell t b key (Some change) is = same_things _ refl refl
  own_stays name tell t b key None (explained, from, known) =
      let x : Thing = ATransaction (record t { reads = t.reads ++ KeyRead key (value_in s.commits t.number key) ∷ [] }) b in
      let is_sound : IsSoundThing h'
      x = (
        explained-more h' t.number t.reads (KeyRead key (value_in s.commits t.number key)) explained
            (value_in-is s.commits sound.proper.commits t.number key),
        from,
        known,
      ) in
      stays _ refl (with_named name x is_sound)

  pub get_stays : (name : Name) (tell : Option Stored → Answer) (key : List ℕ) (o : Option Thing)
      → thing_in s.things name ≡ o → Stays (get_by s name tell key o)
  get_stays name tell key None is = same_things _ refl refl
  get_stays name tell key (Some (AJob job made)) is = same_things _ refl refl
  get_stays name tell key (Some (APass pass batch)) is = same_things _ refl refl
  get_stays name tell key (Some (AView v b)) is = either (is_key_length (length key)) _ _ (same_things _ refl refl)
      (same_things _ refl refl)
  get_stays name tell key (Some (ATransaction t b)) is =
      either (is_key_length (length key)) _ _
      (own_stays name tell t b key (find key_cmp key t.writes)
      (found_sound h' s.things name (ATransaction t b) sound.things is)) (same_things _ refl refl)

  pub get_at_stays : (name : Name) (key : List ℕ) (number : ℕ) (o : Option Thing) → Stays (get_at_by s name key number o)
  get_at_stays name key number None = same_things _ refl refl
  get_at_stays name key number (Some (AJob job made)) = same_things _ refl refl
  get_at_stays name key number (Some (APass pass batch)) = same_things _ refl refl
  get_at_stays name key number (Some (AView v b)) = same_things _ refl refl
  get_at_stays name key number (Some (ATransaction t b)) = same_things _ refl refl

  pub scan_stays : (way : Way) (name : Name) (low high : List ℕ) (limit : ℕ) (o : Option Thing)
      → thing_in s.things name ≡ o → Stays (scan_by s way name low high limit o)
  scan_stays way name low high limit None is = same_things _ refl refl
  scan_stays way name low high limit (Some (AJob job made)) is = same_things _ refl refl
  scan_stays way name low high limit (Some (APass pass batch)) is = same_things _ refl refl
  scan_stays way name low high limit (Some (AView v b)) is =
      either (nat_le (length low) max_key_bytes && nat_le (length high) max_key_bytes) _ _ (same_things _ refl refl)
      (same_things _ refl refl)
  scan_stays way name low high limit (Some (ATransaction t b)) is =
      let (explained, from, known) = found_sound h' s.things name (ATransaction t b) sound.things is in
      let rising = found_rising s.things name (ATransaction t b) sound.proper.writes is in
      let rows = scanned_rows s way low high limit t.writes t.number in
      let read : Read = RangeRead (record (scan_of way low high limit t.writes) { rows = rows }) in
      let x : Thing = ATransaction (record t { reads = t.reads ++ read ∷ [] }) b in
      let is_sound : IsSoundThing h' x = (
        explained-more h' t.number t.reads read explained
            (rows_are s sound.proper.commits way low high limit t.writes t.number rising),
        from,
        known,
      ) in
      either (nat_le (length low) max_key_bytes && nat_le (length high) max_key_bytes) _ _
      (stays _ refl (with_named name x is_sound))
      (same_things _ refl refl)

  pub write_stays : (name : Name) (key : List ℕ) (change : Change) (o : Option Thing) → thing_in s.things name ≡ o
      → Stays (write_by s name key change o)
  write_stays name key change None is = same_things _ refl refl
  write_stays name key change (Some (AJob job made)) is = same_things _ refl refl
  write_stays name key change (Some (APass pass batch)) is = same_things _ refl refl
  write_stays name key change (Some (AView v b)) is = same_things _ refl refl
  write_stays name key change (Some (ATransaction t b)) is =
      either (not (is_key_length (length key) && is_value_length log_format (length (value_bytes change)))) _ _ (same_things _ refl refl)
      (either (is_small_enough (put key_cmp key change t.writes)) _ _
      (stays _ refl (with_named name (ATransaction (record t { writes = put key_cmp key change t.writes }) b)
      (found_sound h' s.things name (ATransaction t b) sound.things is))) (same_things _ refl refl))

  pub drop_stays : (name : Name) (o : Option Thing) → thing_in s.things name ≡ o → Stays (drop_by s name o)
  drop_stays name None is = same_things _ refl refl
  drop_stays name (Some (ATransaction t b)) is = stays _ refl (freed name)
  drop_stays name (Some (AView v b)) is = stays _ refl (freed name)
  drop_stays name (Some (AJob job made)) is = stays _ refl (freed name)
  drop_stays name (Some (APass pass batch)) is = stays _ refl (freed name)

  -- ---- passes

  picked_stays : (name : Name) (r : Ruling PickAnswer) (a : PickAnswer) → Stays (picked_by s name r a)
  picked_stays name r (pick.Picked pass) = stays _ refl (with_named name (APass pass None) tt)
  picked_stays name r pick.InvalidRequest = same_things _ refl refl
  picked_stays name r (pick.Rejected segment) = same_things _ refl refl
  picked_stays name r pick.NoRewrite = same_things _ refl refl

  pub pick_stays : (name : Name) (percent : ℕ) (o : Option Thing) → Stays (pick_as s name percent o)
  pick_stays name percent (Some other) = same_things _ refl refl
  pick_stays name percent None =
      picked_stays name (pick_ruling s.layout h' percent) (pick_ruling s.layout h' percent).answer

  found_stays : (name : Name) (next : Option (List Candidate) × Pass) (o : Option (List Candidate)) → Stays (found_by s name next o)
  found_stays name next None = stays _ refl (with_named name (APass next.1 None) tt)
  found_stays name next (Some batch) = stays _ refl (with_named name (APass next.1 (Some batch)) tt)

  pub batch_stays : (name : Name) (o : Option Thing) → Stays (batch_by s name o)
  batch_stays name None = same_things _ refl refl
  batch_stays name (Some (ATransaction t b)) = same_things _ refl refl
  batch_stays name (Some (AView v b)) = same_things _ refl refl
  batch_stays name (Some (AJob job made)) = same_things _ refl refl
  batch_stays name (Some (APass pass (Some batch))) = same_things _ refl refl
  batch_stays name (Some (APass pass None)) = found_stays name (next_batch pass) (next_batch pass).0

  moved_stays : (name : Name) (pass : Pass) (r : Ruling MoveAnswer) (a : MoveAnswer) → Stays (moved_by s name pass r a)
  moved_stays name pass r (relocate.Moves n) = stays _ refl (with_named name (APass pass None) tt)
  moved_stays name pass r (relocate.Halted file) = same_things _ refl refl
  moved_stays name pass r (relocate.Exhausted c) = same_things _ refl refl
  moved_stays name pass r (relocate.Full long frame) = same_things _ refl refl

  pub move_stays : (name : Name) (o : Option Thing) → Stays (move_by s name o)
  move_stays name None = same_things _ refl refl
  move_stays name (Some (ATransaction t b)) = same_things _ refl refl
  move_stays name (Some (AView v b)) = same_things _ refl refl
  move_stays name (Some (AJob job made)) = same_things _ refl refl
  move_stays name (Some (APass pass None)) = same_things _ refl refl
  move_stays name (Some (APass pass (Some batch))) =
      moved_stays name pass (relocate_ruling s.layout h' pass batch) (relocate_ruling s.layout h' pass batch).answer

  -- ---- merges

  filled_stays : (l' : Layout) (made : Made) (calls : ℕ) (more : Step) (a : FreshAnswer) → Stays more
      → Stays (filled s l' made calls more a)
  filled_stays l' made calls more (fresh.Drawn n) stay = stay
  filled_stays l' made calls more (fresh.Halted file) stay = same_things _ refl refl
  filled_stays l' made calls more (fresh.Exhausted c) stay = same_things _ refl refl

  fill_stays : (output : List (List Entry)) (name : Name) (job : Job) (l' : Layout) (numbers : List ℕ) (calls : ℕ)
      → Stays (fill s name job l' output numbers calls)
  fill_stays [] name job l' numbers calls = stays _ refl (with_named name (AJob job (made_of job numbers)) tt)
  fill_stays (es ∷ output) name job l' numbers calls =
      filled_stays l' (made_of job numbers) calls _ (fresh_ruling l' h').answer
      (fill_stays output name job (fresh_ruling l' h').layout (numbers ++ l'.next_table ∷ []) (calls + 1))

  planned_stays : (name : Name) (r : Ruling (Option Job)) (o : Option Job) → Stays (planned_by s name r o)
  planned_stays name r None = same_things _ refl refl
  planned_stays name r (Some job) = fill_stays (outputs job) name job r.layout [] 0

  pub plan_stays : (name : Name) (r : Ruling (Option Job)) (o : Option Thing) → Stays (plan_as s name r o)
  plan_stays name r None = planned_stays name r r.answer
  plan_stays name r (Some thing) = same_things _ refl refl

  pub install_stays : (name : Name) (o : Option Thing) → Stays (install_by s name o)
  install_stays name None = same_things _ refl refl
  install_stays name (Some (ATransaction t b)) = same_things _ refl refl
  install_stays name (Some (AView v b)) = same_things _ refl refl
  install_stays name (Some (AJob job made)) = stays _ refl (freed name)
  install_stays name (Some (APass pass batch)) = same_things _ refl refl

  -- ---- commits

  committed_things : (name : Name) (t : Transaction) (r : Ruling CommitAnswer) (a : CommitAnswer)
      → let x = committed_by s name t r a in (x.state.things ≡ s.things) ⊎ (x.state.things ≡ without_name name s.things)
  committed_things name t r (commit.At n) = inr refl
  committed_things name t r commit.Nothing = inr refl
  committed_things name t r (commit.Halted file) = inr refl
  committed_things name t r (commit.Exhausted c) = inl refl
  committed_things name t r (commit.Conflict key n) = inr refl
  committed_things name t r (commit.Full length frame) = inl refl

  commit_things : (name : Name) (o : Option Thing) → let x = commit_by s name o in (x.state.things ≡ s.things)
      ⊎ (x.state.things ≡ without_name name s.things)
  commit_things name None = inl refl
  commit_things name (Some (AJob job made)) = inl refl
  commit_things name (Some (APass pass batch)) = inl refl
  commit_things name (Some (AView v b)) = inl refl
  commit_things name (Some (ATransaction t b)) = committed_things name t (ruled s t) (ruled s t).answer

  -- what stays is sound, and is so over later commits
  pub commit_stays : (name : Name) (o : Option Thing) → let x = commit_by s name o in
      AllByRecursion (λ (t : Name × Thing). IsSoundThing (history_in s.commits) t.1) x.state.things
  commit_stays name o = ⊎_elim
      (λ (same : (commit_by s name o).state.things ≡ s.things). subst
      (AllByRecursion (λ (t : Name × Thing). IsSoundThing h' t.1)) (sym same) sound.things)
      (λ (less : (commit_by s name o).state.things ≡ without_name name s.things). subst
      (AllByRecursion (λ (t : Name × Thing). IsSoundThing h' t.1)) (sym less) (freed name))
      (commit_things name o)

  more_extends : (t : Transaction) → Extends h' (with_commit h' (from_sorted t.writes))
  more_extends t = record { first = refl; base = refl; later = from_sorted t.writes ∷ []; commits = refl }

  pub later_things : (t : Transaction) (ts : List (Name × Thing)) → AllByRecursion (λ (x : Name × Thing). IsSoundThing h' x.1) ts
      → AllByRecursion (λ (x : Name × Thing). IsSoundThing (history_in (with_changes s.commits t.writes)) x.1) ts
  later_things t ts all = subst (λ (k : History). AllByRecursion (λ (x : Name × Thing). IsSoundThing k x.1) ts)
      (sym (history_more s.commits t.writes))
      (all_weaker (λ (x : Name × Thing). IsSoundThing h' x.1)
      (λ (x : Name × Thing). IsSoundThing (with_commit h' (from_sorted t.writes)) x.1)
      (λ x is. later_sound h' (with_commit h' (from_sorted t.writes)) (more_extends t) x.1 is) ts all)

  -- ---- what is answered

  -- a read of a key
  get_answer : (tell : Option Stored → Answer) (name : Name) (key : List ℕ) (t : Transaction) (b : Beginning)
      (o : Option Change) → o ≡ None → (test : Bool)
      → (if test then get_own s name tell t b key o else only Invalid s).answer ≡
      (if test then tell (value_at h' t.number key) else Invalid)
  get_answer tell name key t b (Some change) none test = absurd (cc)
  get_answer tell name key t b None none true = value_is s sound.proper.commits tell t.number key
  get_answer tell name key t b None none false = refl

  view_answer : (tell : Option Stored → Answer) (number : ℕ) (key : List ℕ) (test : Bool)
      → (if test then only (tell (value_in s.commits number key)) s else only Invalid s).answer ≡
      (if test then tell (value_at h' number key) else Invalid)
  view_answer tell number key true = value_is s sound.proper.commits tell number key
  view_answer tell number key false = refl

  pub get_explained : (name : Name) (tell : Option Stored → Answer) (key : List ℕ) (number : ℕ) (o : Option Thing) → ReadsAt o key number
      → (get_by s name tell key o).answer ≡
      (if is_key_length (length key) then tell (value_at (history_in s.commits) number key) else Invalid)
  get_explained name tell key number None by = absurd by
  get_explained name tell key number (Some (AJob job made)) by = absurd by
  get_explained name tell key number (Some (APass pass batch)) by = absurd by
  get_explained name tell key number (Some (AView v b)) by =
      view_answer tell v.number key (is_key_length (length key))
      ∙ ap (λ (n : ℕ). if is_key_length (length key) then tell (value_at h' n key) else Invalid) (sym by)
  get_explained name tell key number (Some (ATransaction t b)) (by, none) =
      get_answer tell name key t b (find key_cmp key t.writes) none (is_key_length (length key))
      ∙ ap (λ (n : ℕ). if is_key_length (length key) then tell (value_at h' n key) else Invalid) (sym by)

  -- a read at an older number: a value is told only where it is that of the history there
  no_value : (answer : Answer) (value : Option Stored) → answer ≡ Invalid ⊎ ((least : ℕ) × (answer ≡ Dropped least))
      → answer ≡ answer_of value → ⊥
  no_value answer None (inl is) told = absurd (let both = sym is ∙ told in cc)
  no_value answer (Some v) (inl is) told = absurd (let both = sym is ∙ told in cc)
  no_value answer None (inr (least, is)) told = absurd (let both = sym is ∙ told in cc)
  no_value answer (Some v) (inr (least, is)) told = absurd (let both = sym is ∙ told in cc)

  told_value_at : (answer : AtAnswer) (found : Option Stored) → (answer ≡ at.Found found)
      ⊎ ((told_at answer ≡ Invalid) ⊎ ((least : ℕ) × (told_at answer ≡ Dropped least)))
      → TellsValue (told_at answer) → told_at answer ≡ answer_of found
  told_value_at answer found (inl is) told = ap told_at is
  told_value_at answer found (inr other) (value, told) = absurd (no_value (told_at answer) value other told)

  past_cases : (number least : ℕ) (found : Option Stored) (empty long ahead gone : Bool)
      → let a : AtAnswer = if empty then at.EmptyKey else
      (if long then at.KeyTooLong else (if ahead then at.Ahead number else (if gone then at.Dropped least else at.Found found))) in
      (a ≡ at.Found found) ⊎ ((told_at a ≡ Invalid) ⊎ ((m : ℕ) × (told_at a ≡ Dropped m)))
  past_cases number least found true long ahead gone = inr (inl refl)
  past_cases number least found false true ahead gone = inr (inl refl)
  past_cases number least found false false true gone = inr (inl refl)
  past_cases number least found false false false true = inr (inr (least, refl))
  past_cases number least found false false false false = inl refl

  old_explained : (number : ℕ) (key : List ℕ) (n : ℕ) (b : Beginning) → TellsValue (told_at (at_answer_in s.commits b number key n))
      → told_at (at_answer_in s.commits b number key n) ≡ answer_of (value_at (history_in s.commits) n key)
  old_explained number key n b told =
      told_value_at (at_answer_in s.commits b number key n) (value_in s.commits n key)
      (past_cases number (low_in s.commits b.floor b.keep b.since key) (value_in s.commits n key) (length key == 0)
      (nat_lt max_key_bytes (length key)) (nat_lt number n)
      (nat_lt n (low_in s.commits b.floor b.keep b.since key))) told
      ∙ ap answer_of (value_in-is s.commits sound.proper.commits n key)

  pub get_at_explained : (name : Name) (key : List ℕ) (n : ℕ) (o : Option Thing) → TellsValue (get_at_by s name key n o).answer
      → (get_at_by s name key n o).answer ≡ answer_of (value_at (history_in s.commits) n key)
  get_at_explained name key n None (None, told) = absurd cc
  get_at_explained name key n None (Some v, told) = absurd cc
  get_at_explained name key n (Some (AJob job made)) (None, told) = absurd cc
  get_at_explained name key n (Some (AJob job made)) (Some v, told) = absurd cc
  get_at_explained name key n (Some (APass pass batch)) (None, told) = absurd cc
  get_at_explained name key n (Some (APass pass batch)) (Some v, told) = absurd cc
  get_at_explained name key n (Some (AView v b)) told = old_explained v.number key n b told
  get_at_explained name key n (Some (ATransaction t b)) told = old_explained t.number key n b told

  -- a scan
  abbrev rows_at : Way → List ℕ → List ℕ → ℕ → ℕ → Changes → Answer
  rows_at way low high limit number own = Rows (rows_told (rows_of (contents_at h' number) (scan_of way low high limit own)))

  scan_answer : (b : Bool) (x y : Step) (way : Way) (low high : List ℕ) (limit number : ℕ) (own : Changes)
      → x.answer ≡ rows_at way low high limit number own → y.answer ≡ Invalid
      → (if b then x else y).answer ≡ (if b then rows_at way low high limit number own else Invalid)
  scan_answer true x y way low high limit number own p q = p
  scan_answer false x y way low high limit number own p q = q

  pub scan_explained : (way : Way) (name : Name) (low high : List ℕ) (limit number : ℕ) (own : Changes)
      (o : Option Thing) → thing_in s.things name ≡ o → ScansAt o own number
      → (scan_by s way name low high limit o).answer
      ≡ (if nat_le (length low) max_key_bytes && nat_le (length high) max_key_bytes then Rows
      (rows_told (rows_of (contents_at (history_in s.commits) number) (scan_of way low high limit own))) else Invalid)
  scan_explained way name low high limit number own None is by = absurd by
  scan_explained way name low high limit number own (Some (AJob job made)) is by = absurd by
  scan_explained way name low high limit number own (Some (APass pass batch)) is by = absurd by
  scan_explained way name low high limit number own (Some (AView v b)) is (by, none) =
      let within = nat_le (length low) max_key_bytes && nat_le (length high) max_key_bytes in
      scan_answer within (only (Rows (rows_told (scanned_rows s way low high limit [] v.number))) s) (only Invalid s)
      way low high limit v.number []
      (ap (λ (rows : List Row). Rows (rows_told rows)) (rows_are s sound.proper.commits way low high limit [] v.number tt)) refl
      ∙ ap (λ (n : ℕ). if within then rows_at way low high limit n [] else Invalid) (sym by)
      ∙ ap (λ (ws : Changes). if within then rows_at way low high limit number ws else Invalid) (sym none)
  scan_explained way name low high limit number own (Some (ATransaction t b)) is (by, writes) =
      let within = nat_le (length low) max_key_bytes && nat_le (length high) max_key_bytes in
      let rising = found_rising s.things name (ATransaction t b) sound.proper.writes is in
      scan_answer within (noted_scan s name t b (scan_of way low high limit t.writes)
      (scanned_rows s way low high limit t.writes t.number)) (only Invalid s) way low high limit t.number t.writes
      (ap (λ (rows : List Row). Rows (rows_told rows)) (rows_are s sound.proper.commits way low high limit t.writes t.number rising)) refl
      ∙ ap (λ (n : ℕ). if within then rows_at way low high limit n t.writes else Invalid) (sym by)
      ∙ ap (λ (ws : Changes). if within then rows_at way low high limit number ws else Invalid) (sym writes)

  -- an accepted commit: its reads are explained at its transaction's number, and at the last one before it
  pub commit_explained : ((h : History) (n : ℕ) (reads : List Read) → h.first ≤ n → first_conflict h n reads ≡ None
      → IsExplained h n reads → IsExplained h (last_number h) reads)
      → (name : Name) (t : Transaction) (b : Beginning) (o : Option Thing)
      → thing_in s.things name ≡ Some (ATransaction t b) → Adds s (commit_by s name o) t
      → let k = history_in (commit_by s name o).state.commits in
      IsExplained k t.number t.reads × IsExplained k (last_number (history_in s.commits)) t.reads
  commit_explained stay name t b o is adds =
      let (explained, from, known) = found_sound h' s.things name (ATransaction t b) sound.things is in
      let longer : history_in (commit_by s name o).state.commits ≡ with_commit h' (from_sorted t.writes) =
      ap history_in adds.commits ∙ history_more s.commits t.writes in
      let none : first_conflict h' t.number t.reads ≡ None = sym
      (conflict_in-is s.commits sound.proper.commits t.number t.reads) ∙ adds.none in
      subst (λ (k : History). IsExplained k t.number t.reads × IsExplained k (last_number h') t.reads) (sym longer) (
        explained-extends h' (with_commit h' (from_sorted t.writes)) (more_extends t) t.number known t.reads explained,
        explained-extends h' (with_commit h' (from_sorted t.writes)) (more_extends t) (last_number h')
            (omega arith) t.reads (stay h' t.number t.reads from none explained),
      )
