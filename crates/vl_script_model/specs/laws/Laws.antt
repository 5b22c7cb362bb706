-- Laws of runs: what a line leaves, and that what is read is explained by the history; and no answer is owed before anything is
-- read.
use Rattle.std.proofs.Common.{◌≡◌, ◌+◌, ◌≤◌, ◌⊎◌, inl, inr, ℕ, List, [], ◌∷◌, ◌++◌, refl, ap, sym, ◌∙◌, cond, arith, subst}
use Rattle.std.proofs.lemmas.List.Sums.{sum_by-cons}
use Rattle.std.specs.Prelude.{Option, Some, None, ◌==◌}
use Rattle.std.specs.List.{AllByRecursion}
use Rattle.std.specs.Option.{option_map}
use Rattle.vl_engine_model.specs.Rulings.Commit.{Transaction}
use Rattle.vl_engine_model.specs.Rulings.Drain.{drain_ruling}
use Rattle.vl_engine_model.specs.Rulings.Plan.{plan_ruling}
use Rattle.vl_engine_model.specs.AtAnswer.{Beginning}
use Rattle.vl_engine_model.specs.Store.Commits.{Commits, history_in}
use Rattle.vl_engine_model.specs.Store.Lines.{Done, Name, Segments}
use Rattle.vl_engine_model.specs.Rulings.Stats.{stats_ruling}
use Rattle.vl_engine_model.specs.Store.Reading.{a_transaction, a_view, answer_of, answer_with_tag}
use Rattle.vl_engine_model.specs.Store.Things.{Thing, ATransaction, thing_of}
use Rattle.vl_engine_model.specs.laws.CommitsLaws.{conflict_in-is}
use Rattle.vl_engine_model.specs.laws.StoreLaws.{step_proper}
use Rattle.vl_model.specs.Conflicts.{first_conflict}
use Rattle.vl_model.specs.History.{History, last_number}
use Rattle.vl_model.specs.Keys.{tagged, untagged}
use Rattle.vl_model.specs.Reads.{IsExplained, Read}
use Rattle.vl_model.specs.declared.change.Change.TheVariants.{Set as Put, Delete as Deleted}
use Rattle.vl_script_model.specs.Exchanges.{exchanged, exchanges_from, and_later, AddsCommit, IsExplainedExchange, AreExplained}
use Rattle.vl_script_model.specs.Exchanges.{KeepsHistory, KeepsUp, ended_lines}
use Rattle.vl_script_model.specs.Sequential.{State, answer_to, asked, history_of, state_after, step_to}
use Rattle.vl_script_model.specs.laws.Explained.{IsSound as IsSoundStore, IsSoundThing, Stays, commit_explained}
use Rattle.vl_script_model.specs.laws.Explained.{batch_stays, commit_stays, drop_stays, get_at_explained, get_at_stays, get_explained}
use Rattle.vl_script_model.specs.laws.Explained.{get_stays, install_stays, later_things, move_stays, pick_stays, plan_stays, scan_explained}
use Rattle.vl_script_model.specs.laws.Explained.{scan_stays, transaction_stays, view_stays, write_stays}
use Rattle.vl_script_model.specs.laws.Growing.{Adds, Keeps, batch_keeps, begin_keeps, commit_or, drop_or, get_at_keeps, get_keeps}
use Rattle.vl_script_model.specs.laws.Growing.{history_more, install_commits, move_commits, pick_commits, plan_commits, scan_keeps}
use Rattle.vl_script_model.specs.laws.Growing.{stats_keeps, write_keeps}
use Rattle.vl_script.specs.Script.{line_of}
use Rattle.vl_script.specs.declared.line.Line.{Line}
use Rattle.vl_script.specs.declared.line.Line.TheVariants.{Begin, View, Get, Set, SetTagged, GetTagged, Scan, Delete}
use Rattle.vl_script.specs.declared.line.Line.TheVariants.{Commit, Drop, Rotate, Flush, Keep, GetAt, Plan, Drain, Install}
use Rattle.vl_script.specs.declared.line.Line.TheVariants.{Sweep, Stats, Pick, Batch, Move}

-- ---- what a line leaves

-- no name stands for two things, and what was read is explained at the reader's number
abbrev pub IsSound : State → Type 0
IsSound s = IsSoundStore s.store

-- the line made a transaction the next commit
abbrev pub Committing : State → Line → Type 0
Committing s line = (t : Transaction) × (b : Beginning) × (name : Name) × (line ≡ Commit name)
    × (thing_of s.store name ≡ Some (ATransaction t b)) × Adds s.store (step_to s line) t

-- the line is a step on files, or ends something, or goes on with a pass
abbrev pub IsStepLine : Line → Type 0
IsStepLine (Begin name) = ⊥
IsStepLine (View name) = ⊥
IsStepLine (Get name key) = ⊥
IsStepLine (GetTagged name key) = ⊥
IsStepLine (GetAt name key number) = ⊥
IsStepLine (Scan name low high limit way) = ⊥
IsStepLine (Set name key value) = ⊥
IsStepLine (SetTagged name key value tag) = ⊥
IsStepLine (Delete name key) = ⊥
IsStepLine (Commit name) = ⊥
IsStepLine (Drop name) = Unit {0}
IsStepLine Rotate = Unit {0}
IsStepLine Flush = Unit {0}
IsStepLine (Keep versions) = Unit {0}
IsStepLine (Plan name) = Unit {0}
IsStepLine (Drain name segment) = Unit {0}
IsStepLine (Install name) = Unit {0}
IsStepLine Sweep = Unit {0}
IsStepLine Stats = ⊥
IsStepLine (Pick name percent) = Unit {0}
IsStepLine (Batch name) = ⊥
IsStepLine (Move name) = Unit {0}

-- such a line keeps the commits, and is told by `ok` where it ends something
pub record Stepping (s : State) (line : Line) : Type 0 where
  pub is : IsStepLine line
  pub commits : (step_to s line).state.commits ≡ s.store.commits
  pub ended : (name : Name) → line ≡ Drop name → answer_to s line ≡ Done

-- a line keeps the commits, and the layout but for what lives; or it makes a transaction the next commit, or is a step on files
pub keeps_or : (s : State) (line : Line) → IsSound s → Keeps s.store (step_to s line) ⊎ (Committing s line ⊎ Stepping s line)
keeps_or s (Begin name) sound = inl (begin_keeps s.store name a_transaction (thing_of s.store name))
keeps_or s (View name) sound = inl (begin_keeps s.store name a_view (thing_of s.store name))
keeps_or s (Get name key) sound = inl (get_keeps s.store name answer_of key (thing_of s.store name))
keeps_or s (GetTagged name key) sound = inl (get_keeps s.store name answer_with_tag key (thing_of s.store name))
keeps_or s (Scan name low high limit way) sound = inl (scan_keeps s.store way name low high limit (thing_of s.store name))
keeps_or s (Set name key value) sound = inl (write_keeps s.store name key (Put (untagged value)) (thing_of s.store name))
keeps_or s (SetTagged name key value tag) sound = inl (write_keeps s.store name key (Put (tagged value tag)) (thing_of s.store name))
keeps_or s (Delete name key) sound = inl (write_keeps s.store name key Deleted (thing_of s.store name))
keeps_or s (Drop name) sound = elim (drop_or s.store name (thing_of s.store name)) [
  | inl keeps ↦ inl keeps
  | inr (commits, done) ↦ inr (inr (record { is = tt; commits = commits; ended = λ other same. done }))
]
keeps_or s (Commit name) sound = elim (commit_or s.store name (thing_of s.store name)) [
  | inl keeps ↦ inl keeps.0
  | inr (t, b, is, adds) ↦ inr (inl (t, b, name, refl, is, adds))
]
keeps_or s Rotate sound = inr (inr (record { is = tt; commits = refl; ended = λ name same. absurd cc }))
keeps_or s Flush sound = inr (inr (record { is = tt; commits = refl; ended = λ name same. absurd cc }))
keeps_or s (Keep versions) sound = inr (inr (record { is = tt; commits = refl; ended = λ name same. absurd cc }))
keeps_or s (Plan name) sound = inr (inr (record {
  is = tt;
  commits = plan_commits s.store name (plan_ruling s.store.layout (history_of s)) (thing_of s.store name);
  ended = λ other same. absurd cc;
}))
keeps_or s (Drain name segment) sound = inr (inr (record {
  is = tt;
  commits = plan_commits s.store name (drain_ruling s.store.layout (history_of s) segment) (thing_of s.store name);
  ended = λ other same. absurd cc;
}))
keeps_or s (Install name) sound = inr (inr (record {
  is = tt;
  commits = install_commits s.store name (thing_of s.store name);
  ended = λ other same. absurd cc;
}))
keeps_or s (GetAt name key number) sound = inl (get_at_keeps s.store name key number (thing_of s.store name))
keeps_or s Sweep sound = inr (inr (record { is = tt; commits = refl; ended = λ name same. absurd cc }))
keeps_or s Stats sound = inl (stats_keeps s.store (Segments (stats_ruling s.store.layout (history_of s)).answer))
keeps_or s (Pick name percent) sound = inr (inr (record {
  is = tt;
  commits = pick_commits s.store name percent (thing_of s.store name);
  ended = λ other same. absurd cc;
}))
keeps_or s (Batch name) sound = inl (batch_keeps s.store name (thing_of s.store name))
keeps_or s (Move name) sound = inr (inr (record {
  is = tt;
  commits = move_commits s.store name (thing_of s.store name);
  ended = λ other same. absurd cc;
}))

-- ---- what is read is explained

-- what a transaction read without a conflict is explained at the last number too, as vl_model's law has it
abbrev pub StaysExplained : Type 0
StaysExplained =
    (h : History) (n : ℕ) (reads : List Read) → h.first ≤ n → first_conflict h n reads ≡ None → IsExplained h n reads
    → IsExplained h (last_number h) reads

abbrev AllSound : History → List (Name × Thing) → Type 0
AllSound h ts = AllByRecursion (λ (t : Name × Thing). IsSoundThing h t.1) ts

kept_sound : (s : State) (line : Line) → IsSound s → (step_to s line).state.commits ≡ s.store.commits
    → AllSound (history_of s) (step_to s line).state.things → IsSound (state_after s line)
kept_sound s line sound commits things = record {
  proper = step_proper s.store sound.proper (asked line);
  things = subst (λ (p : Commits). AllSound (history_in p) (step_to s line).state.things) (sym commits) things;
}

stays_sound : (s : State) (line : Line) (sound : IsSound s) → Stays s.store sound (step_to s line) → IsSound (state_after s line)
stays_sound s line sound stays = kept_sound s line sound stays.commits stays.things

commit_sound : (s : State) (name : Name) → IsSound s
    → Keeps s.store (step_to s (Commit name)) ⊎ (Committing s (Commit name) ⊎ Stepping s (Commit name))
    → IsSound (state_after s (Commit name))
commit_sound s name sound (inl keeps) = kept_sound s (Commit name) sound keeps.commits
    (commit_stays s.store sound name (thing_of s.store name))
commit_sound s name sound (inr (inr steps)) = absurd steps.is
commit_sound s name sound (inr (inl (t, b, other, same, is, adds))) = record {
  proper = step_proper s.store sound.proper (asked (Commit name));
  things = subst (λ (p : Commits). AllSound (history_in p) (step_to s (Commit name)).state.things) (sym adds.commits)
      (later_things s.store sound t (step_to s (Commit name)).state.things (commit_stays s.store sound name (thing_of s.store name)));
}

pub state_after-sound : (s : State) (line : Line) → IsSound s → IsSound (state_after s line)
state_after-sound s (Begin name) sound = stays_sound s (Begin name) sound (transaction_stays s.store sound name)
state_after-sound s (View name) sound = stays_sound s (View name) sound (view_stays s.store sound name)
state_after-sound s (Get name key) sound = stays_sound s (Get name key) sound
    (get_stays s.store sound name answer_of key (thing_of s.store name) refl)
state_after-sound s (GetTagged name key) sound =
    stays_sound s (GetTagged name key) sound (get_stays s.store sound name answer_with_tag key (thing_of s.store name) refl)
state_after-sound s (Scan name low high limit way) sound =
    stays_sound s (Scan name low high limit way) sound (scan_stays s.store sound way name low high limit (thing_of s.store name) refl)
state_after-sound s (Set name key value) sound =
    stays_sound s (Set name key value) sound (write_stays s.store sound name key (Put (untagged value)) (thing_of s.store name) refl)
state_after-sound s (SetTagged name key value tag) sound =
    stays_sound s (SetTagged name key value tag) sound
    (write_stays s.store sound name key (Put (tagged value tag)) (thing_of s.store name) refl)
state_after-sound s (Delete name key) sound =
    stays_sound s (Delete name key) sound (write_stays s.store sound name key Deleted (thing_of s.store name) refl)
state_after-sound s (Drop name) sound = stays_sound s (Drop name) sound (drop_stays s.store sound name (thing_of s.store name) refl)
state_after-sound s (Commit name) sound = commit_sound s name sound (keeps_or s (Commit name) sound)
state_after-sound s Rotate sound = kept_sound s Rotate sound refl sound.things
state_after-sound s Flush sound = kept_sound s Flush sound refl sound.things
state_after-sound s (Keep versions) sound = kept_sound s (Keep versions) sound refl sound.things
state_after-sound s (Plan name) sound =
    stays_sound s (Plan name) sound
    (let stay = plan_stays s.store sound name (plan_ruling s.store.layout (history_of s)) (thing_of s.store name) in
    record { commits = stay.commits; things = stay.things })
state_after-sound s (Drain name segment) sound =
    stays_sound s (Drain name segment) sound
    (let stay = plan_stays s.store sound name (drain_ruling s.store.layout (history_of s) segment) (thing_of s.store name) in
    record { commits = stay.commits; things = stay.things })
state_after-sound s (Install name) sound = stays_sound s (Install name) sound (install_stays s.store sound name (thing_of s.store name))
state_after-sound s (GetAt name key number) sound =
    stays_sound s (GetAt name key number) sound (get_at_stays s.store sound name key number (thing_of s.store name))
state_after-sound s Sweep sound = kept_sound s Sweep sound refl sound.things
state_after-sound s Stats sound = kept_sound s Stats sound refl sound.things
state_after-sound s (Pick name percent) sound =
    stays_sound s (Pick name percent) sound (pick_stays s.store sound name percent (thing_of s.store name))
state_after-sound s (Batch name) sound = stays_sound s (Batch name) sound (batch_stays s.store sound name (thing_of s.store name))
state_after-sound s (Move name) sound = stays_sound s (Move name) sound (move_stays s.store sound name (thing_of s.store name))

-- a line that is no commit leaves the history
other_keeps : (s : State) (line : Line) → IsSound s → ((name : Name) → line ≡ Commit name → ⊥) → KeepsHistory (exchanged s line)
other_keeps s line sound other = elim (keeps_or s line sound) [
  | inl keeps ↦ ap history_in keeps.commits
  | inr (inl (t, b, name, is, there, adds)) ↦ absurd (other name is)
  | inr (inr steps) ↦ ap history_in steps.commits
]

-- and a commit leaves it, or is accepted
commit_accepted : StaysExplained → (s : State) (name : Name) (t : Transaction) (b : Beginning) → IsSound s
    → thing_of s.store name ≡ Some (ATransaction t b) → Adds s.store (step_to s (Commit name)) t → AddsCommit t (exchanged s (Commit name))
commit_accepted stay s name t b sound is adds =
    let explained = commit_explained s.store sound stay name t b (thing_of s.store name) is adds in record {
      writes = adds.some;
      added = ap history_in adds.commits ∙ history_more s.store.commits t.writes;
      told = adds.answer;
      current = sym (conflict_in-is s.store.commits sound.proper.commits t.number t.reads) ∙ adds.none;
      began = explained.0;
      last = explained.1;
    }

exchange_explained : StaysExplained → (s : State) (line : Line) → IsSound s → IsExplainedExchange line (exchanged s line)
exchange_explained stay s (Begin name) sound = other_keeps s (Begin name) sound (λ other is. cc)
exchange_explained stay s (View name) sound = other_keeps s (View name) sound (λ other is. cc)
exchange_explained stay s (Get name key) sound = (
  other_keeps s (Get name key) sound (λ other is. cc),
  λ number by. get_explained s.store sound name answer_of key number (thing_of s.store name) by,
)
exchange_explained stay s (GetTagged name key) sound = (
  other_keeps s (GetTagged name key) sound (λ other is. cc),
  λ number by. get_explained s.store sound name answer_with_tag key number (thing_of s.store name) by,
)
exchange_explained stay s (Scan name low high limit way) sound = (
  other_keeps s (Scan name low high limit way) sound (λ other is. cc),
  λ number own by. scan_explained s.store sound way name low high limit number own (thing_of s.store name) refl by,
)
exchange_explained stay s (SetTagged name key value tag) sound = other_keeps s (SetTagged name key value tag) sound (λ other is. cc)
exchange_explained stay s (Set name key value) sound = other_keeps s (Set name key value) sound (λ other is. cc)
exchange_explained stay s (Delete name key) sound = other_keeps s (Delete name key) sound (λ other is. cc)
exchange_explained stay s (Drop name) sound = other_keeps s (Drop name) sound (λ other is. cc)
exchange_explained stay s Rotate sound = other_keeps s Rotate sound (λ other is. cc)
exchange_explained stay s Flush sound = other_keeps s Flush sound (λ other is. cc)
exchange_explained stay s (Keep versions) sound = other_keeps s (Keep versions) sound (λ other is. cc)
exchange_explained stay s (Plan name) sound = other_keeps s (Plan name) sound (λ other is. cc)
exchange_explained stay s (Drain name segment) sound = other_keeps s (Drain name segment) sound (λ other is. cc)
exchange_explained stay s (Install name) sound = other_keeps s (Install name) sound (λ other is. cc)
exchange_explained stay s Sweep sound = other_keeps s Sweep sound (λ other is. cc)
exchange_explained stay s Stats sound = other_keeps s Stats sound (λ other is. cc)
exchange_explained stay s (Pick name percent) sound = other_keeps s (Pick name percent) sound (λ other is. cc)
exchange_explained stay s (Batch name) sound = other_keeps s (Batch name) sound (λ other is. cc)
exchange_explained stay s (Move name) sound = other_keeps s (Move name) sound (λ other is. cc)
exchange_explained stay s (GetAt name key number) sound = (
  other_keeps s (GetAt name key number) sound (λ other is. cc),
  λ told. get_at_explained s.store sound name key number (thing_of s.store name) told,
)
exchange_explained stay s (Commit name) sound = elim (commit_or s.store name (thing_of s.store name)) [
  | inl (keeps, none) ↦ inl (ap history_in keeps.commits, none)
  | inr (t, b, is, adds) ↦ inr (t, b, is, commit_accepted stay s name t b sound is adds)
]

exchanges_behind : StaysExplained → (s : State) (texts : List (List ℕ)) (o : Option Line) → IsSound s
    → ((s' : State) → IsSound s' → AreExplained (exchanges_from s' texts))
    → AreExplained (and_later (λ e. exchanges_from e.after texts) (option_map (exchanged s) o))
exchanges_behind stay s texts None sound ih = tt
exchanges_behind stay s texts (Some line) sound
    ih = (exchange_explained stay s line sound, ih (state_after s line) (state_after-sound s line sound))

pub exchanges_from-explained : StaysExplained → (texts : List (List ℕ)) (s : State) → IsSound s → AreExplained (exchanges_from s texts)
exchanges_from-explained stay [] s sound = tt
exchanges_from-explained stay (text ∷ texts) s sound = exchanges_behind stay s texts (line_of text) sound
    (exchanges_from-explained stay texts)

-- ---- no answer is owed at first

-- what ends a line
abbrev pub line_end : ℕ → ℕ
line_end b = cond (b == 10) 1 0

pub ended_lines-cons : (b : ℕ) (bytes : List ℕ) → ended_lines (b ∷ bytes) ≡ line_end b + ended_lines bytes
ended_lines-cons b bytes = sum_by-cons line_end b bytes

ended_lines-more : (given rest : List ℕ) → ended_lines rest ≤ ended_lines (given ++ rest)
ended_lines-more [] rest = omega arith
ended_lines-more (b ∷ given) rest = omega (arith, ended_lines-cons b (given ++ rest), ended_lines-more given rest)

-- none is owed in what is left when nothing is read yet
pub keeps_up_at_first : (rest : List ℕ) (asked : Option (List ℕ)) → (given : List ℕ) × (asked ≡ Some (given ++ rest)) → KeepsUp rest asked 0
keeps_up_at_first rest asked (given, was) = (given ++ rest, was, omega (arith, ended_lines-more given rest))
