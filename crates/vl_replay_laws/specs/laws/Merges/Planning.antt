-- What a line makes that plans a merge, by what carrying out the merge came to.
use Rattle.std.proofs.Common.{◌≡◌, ◌⊎◌, ⊎_elim, ℕ, min, ◌+◌, ◌-◌, ◌^◌, ◌<◌, ◌≤◌, List, []}
use Rattle.std.proofs.Common.{length, refl, ap, sym, ◌∙◌, subst, arith}
use Rattle.std.specs.Prelude.{Option, None, Some, Ok}
use Rattle.vl_compact.specs.declared.job.Job.{Job as TheJob}
use Rattle.vl_disk.specs.DiskState.{DiskState}
use Rattle.vl_disk.specs.declared.writer.Writer.{Ghosts as Writers}
use Rattle.vl_engine_laws.specs.Represents.{IsLive}
use Rattle.vl_engine_laws.specs.declared.kept.Core.{Core}
use Rattle.vl_engine_laws.specs.declared.open.OpenMerge.{OpenMerge}
use Rattle.vl_engine_model.specs.Jobs.{AreLent, Made, job_ended}
use Rattle.vl_engine_model.specs.Merging.{kept, merged_entries, outputs}
use Rattle.vl_engine_model.specs.Ruling.{Ruling, pin_of}
use Rattle.vl_engine_model.specs.Rulings.Plan.{with_job}
use Rattle.vl_engine_model.specs.Store.Dispatch.{fill, made_of, plan_as, planned_by}
use Rattle.vl_engine_model.specs.Store.Lines as store_lines
use Rattle.vl_engine_model.specs.Store.Lines.{Name}
use Rattle.vl_engine_model.specs.Store.Things.{AJob, Step, Thing, named, thing_in, thing_of, with_thing}
use Rattle.vl_engine_model.specs.declared.job.Job.{Job}
use Rattle.vl_engine_model.specs.declared.layout.Layout.{Layout}
use Rattle.vl_engine_model.specs.declared.live.Live.{Live}
use Rattle.vl_model.specs.History.{History}
use Rattle.vl_model.specs.Limits.{max_file_number}
use Rattle.vl_model.specs.declared.counter.Counter.{Counter}
use Rattle.vl_model.specs.declared.counter.Counter.TheVariants as counters
use Rattle.vl_version.specs.declared.base.Base.{Base}
use Rattle.vl_replay_laws.specs.Drawn.{HasTablesFrom, IsServing, drawn_all, drawn_state, numbers_from}
use Rattle.vl_engine_model.specs.Sources.{tables}
use Rattle.vl_engine_model.specs.declared.table.Table.{Table}
use Rattle.vl_script_model.specs.Readers.{IsReader}
use Rattle.vl_replay_laws.specs.Replaying.{MakesStep, Merges, StandsIn, state_by}
use Rattle.vl_script_model.specs.Sequential.{State, history_of, step_to}
use Rattle.vl_replay_laws.specs.Standing.{Corresponds, ReadsNoTable, Stand, is_held_table, open_in, pins_at}
use Rattle.vl_replay_laws.specs.declared.open.Open.{Open}
use Rattle.vl_script_model.specs.laws.Laws.{IsSound, state_after-sound}
use Rattle.vl_script.specs.declared.answer.Answer.TheVariants as answers
use Rattle.vl_script_model.specs.laws.Betweens.{extends_itself}
use Rattle.vl_replay_laws.specs.Choosing.{chosen, line_for}
use Rattle.vl_replay_laws.specs.declared.choice.Choice.{Choice}
use Rattle.vl_replay_laws.specs.laws.Merges.Choosing.{counted_step, step_for}
use Rattle.vl_replay_laws.specs.laws.Merges.Counting.{kept_many, made_lent}
use Rattle.vl_replay_laws.specs.laws.Merges.Filling.{drawn_lent, drawn_levels, drawn_live}
use Rattle.vl_replay_laws.specs.laws.Merges.Filling.{drawn_retired, fill_all, fill_some}
use Rattle.vl_replay_laws.specs.laws.Merges.Planned.{Plans}
use Rattle.vl_replay_laws.specs.laws.Names.Ending.{still_stands}
use Rattle.vl_replay_laws.specs.laws.Names.Lookups.{thing_beside, thing_put}
use Rattle.vl_replay_laws.specs.laws.Names.Standings.{same_or_not}
use Rattle.vl_replay_laws.specs.laws.Names.StepMaking.{none_before}
use Rattle.vl_replay_laws.specs.laws.Names.Untabled.{reads_same}

-- the state in which a merge is planned
abbrev pub planned_state : Job → State → State
planned_state j s = record s { store = record s.store { layout = with_job j s.store.layout } }

same_thing : (a b : Thing) → Some a ≡ Some b → a ≡ b
same_thing a b e = cc

-- ---- layouts in which the names stand on

-- a layout that differs in the open merge, in files of merges that were given up, and in the next table's number
pub record IsBeside (l m : Layout) : Type 0 where
  pub live : m.live ≡ l.live
  pub bare : (ticket : ℕ) → ReadsNoTable ticket m → ReadsNoTable ticket l

module _ {H R : Type 0} (bytes : H → Option (List ℕ)) (h : History) (l m : Layout) (beside : IsBeside l m)
    (os : List (Open H R)) (ts : List (Name × Thing))
    (stand : Stand bytes os ts h l) where
  -- what a name stood for stands on
  pub stays_so : (x : Option _) (y : Option Thing) → Corresponds {H = H} {R = R} bytes h l x y → Corresponds bytes h m x y
  stays_so x y is = still_stands bytes h h l m (extends_itself h) (λ (t : ℕ). Unit {0})
      (λ ticket number on lives. subst (λ (xs : List Live). IsLive (record m { live = xs }) ticket number) (sym beside.live) lives)
      (λ ticket number on lives. beside.bare ticket) x y (λ z found reads. tt) is

  pub names_stay : Stand bytes os ts h m
  names_stay = record {
    each = λ q. stays_so (open_in os q) (thing_in ts q) (stand.each q);
    once = stand.once;
    apart = stand.apart;
  }

  -- a free name stands for a merge then
  pub names_with : (name : Name) → open_in os name ≡ None → (job : Job) (made : Made) → Stand bytes os (named name (AJob job made) ts) h m
  names_with name free job made = record {
    each = λ q. ⊎_elim
        (λ (same : q ≡ name). subst
        (λ (p : Name). Corresponds bytes h m (open_in os p) (thing_in (named name (AJob job made) ts) p)) (sym same)
        (subst (λ (x : Option _). Corresponds {H = H} {R = R} bytes h m x (thing_in (named name (AJob job made) ts) name)) (sym free)
        (subst (Corresponds {H = H} {R = R} bytes h m None) (sym (thing_put name (AJob job made) ts)) tt)))
        (λ (apart : q ≡ name → ⊥). subst (Corresponds bytes h m (open_in os q)) (sym (thing_beside name q apart (AJob job made) ts))
        (stays_so (open_in os q) (thing_in ts q) (stand.each q)))
        (same_or_not q name);
    once = stand.once;
    apart = λ a b x y at_a at_b reads_x reads_y same. stand.apart a b x y (before a x at_a reads_x)
        (before b y at_b reads_y) reads_x reads_y same;
  }
    where
      no_reader_there : (x : Thing) → Some (AJob job made) ≡ Some x → IsReader x → ⊥
      no_reader_there x e reads = subst IsReader (sym (same_thing (AJob job made) x e)) reads

      before : (a : Name) (x : Thing) → thing_in (named name (AJob job made) ts) a ≡ Some x → IsReader x → thing_in ts a ≡ Some x
      before a x is reads = ⊎_elim
          (λ (same : a ≡ name). absurd (no_reader_there x (sym (thing_put name (AJob job made) ts)
          ∙ subst (λ (p : Name). thing_in (named name (AJob job made) ts) p ≡ Some x) same is) reads))
          (λ (apart : a ≡ name → ⊥). sym (thing_beside name a apart (AJob job made) ts) ∙ is)
          (same_or_not a name)

-- ---- where numbers were drawn

pub drawn_is_beside : (n : ℕ) (j : Job) (l : Layout) → IsBeside l (drawn_all n (with_job j l))
drawn_is_beside n j l = record {
  live = drawn_live n (with_job j l);
  bare = reads_same l (drawn_all n (with_job j l)) (drawn_live n (with_job j l))
      (ap (λ (ls : List (List Table)). tables (record l { levels = ls })) (drawn_levels n (with_job j l)))
      (drawn_retired n (with_job j l));
}

-- and where the merge was given up
pub ended_is_beside : (made : Made) (l m : Layout) → IsBeside l m → IsBeside l (job_ended made m)
ended_is_beside made l m beside = record {
  live = beside.live;
  bare = λ ticket none. beside.bare ticket (none.0, none_before (is_held_table (pins_at ticket m.live)) m.retired _ none.1);
}

-- ---- the line, as the store has it

abbrev pub total_of : Job → ℕ
total_of j = length (outputs j)

module _ (s : State) (name : Name) (j : Job) where
  abbrev h : History
  h = history_of s

  abbrev l : Layout
  l = s.store.layout

  abbrev opened : Layout
  opened = with_job j l

  abbrev pub made : ℕ → Made
  made count = made_of j (numbers_from l.next_table count)

  -- it has all of its tables
  abbrev pub whole : Step
  whole = record {
    answer = store_lines.Number (min (length (kept j)) (2 ^ 64 - 1));
    state = with_thing s.store (drawn_all (total_of j) opened) name (AJob j (made (total_of j)));
    calls = total_of j;
  }

  -- no number was left behind so many
  abbrev pub given_up : ℕ → Step
  given_up count = record {
    answer = store_lines.Exhausted counters.Table;
    state = record s.store { layout = job_ended (made count) (drawn_all count opened) };
    calls = count;
  }

  module _ (choice : Choice) (plans : Plans choice s.store.layout (history_of s) j) (running : s.store.layout.halted ≡ None)
      (bare : thing_of s.store name ≡ None) where
    pub fills : plan_as s.store name (chosen choice l h) (thing_of s.store name) ≡ fill s.store name j opened (outputs j) [] 0
    fills = ap (plan_as s.store name (chosen choice l h)) bare
        ∙ ap (λ (r : Ruling (Option Job)). planned_by s.store name r r.answer) plans.ruled

    pub whole_is : (total_of j ≡ 0) ⊎ (l.next_table + total_of j ≤ max_file_number + 1) → step_to s (line_for choice name) ≡ whole
    whole_is all = step_for choice s name ∙ ap counted_step
        (fills ∙ fill_all s.store name j (outputs j) opened [] 0 running all)
        ∙ ap (λ (n : ℕ). record {
          answer = store_lines.Number (min (length (kept j)) (2 ^ 64 - 1));
          state = with_thing
              s.store (drawn_all (total_of j) opened) name (AJob j (made (total_of j)));
          calls = n;
        })
        (let sum : 0 + total_of j ≡ total_of j = omega arith in sum)

    pub given_up_is : (count : ℕ) → count < total_of j → (count ≡ 0) ⊎ (l.next_table + count ≤ max_file_number + 1)
        → max_file_number < l.next_table + count
        → step_to s (line_for choice name) ≡ given_up count
    given_up_is count few fits none =
        step_for choice s name ∙ ap counted_step
        (fills ∙ fill_some s.store name j (outputs j) opened [] 0 count running few fits none)
        ∙ ap (λ (n : ℕ). record {
          answer = store_lines.Exhausted counters.Table;
          state = record s.store
              { layout = job_ended (made count) (drawn_all count opened) };
          calls = n;
        })
        (let sum : 0 + count ≡ count = omega arith in sum)

  -- what is lent to it then
  pub lent_there : (count : ℕ)
      → (drawn_all count opened).job ≡ Some (record { job = j; pin = pin_of l; moved = []; lent = numbers_from l.next_table count })
  lent_there count = drawn_lent count opened (record { job = j; pin = pin_of l; moved = []; lent = [] }) refl

  pub some_lent : (count : ℕ) → count ≤ total_of j → AreLent (numbers_from l.next_table count) (made count)
  some_lent count few = made_lent j l.next_table count few

-- ---- and as the replayer stands for it

module _ {H S : Type 0} (bytes : H → Option (List ℕ)) (told : Option DiskState) (core : Core H) (os : List (Open H S))
    (s : State) (name : Name) (j : Job)
    (choice : Choice) (plans : Plans choice s.store.layout (history_of s) j)
    (names : Stand bytes os s.store.things (history_of s) s.store.layout) (sound : IsSound s)
    (running : s.store.layout.halted ≡ None) (bare : thing_of s.store name ≡ None) (free : open_in os name ≡ None) where
  module _ (merging : Option OpenMerge) (all : (total_of j ≡ 0) ⊎ (s.store.layout.next_table + total_of j ≤ max_file_number + 1))
      (serves : IsServing bytes told core merging (drawn_state (total_of j) (planned_state j s))) where
    whole_stands : StandsIn bytes told core os (state_by s (whole s name j))
    whole_stands = record {
      engine = serves.stands;
      names = names_with bytes (history_of s) s.store.layout (drawn_all (total_of j) (with_job j s.store.layout))
          (drawn_is_beside (total_of j) j s.store.layout) os s.store.things names
          name free j (made s name j (total_of j));
      sound = subst (λ (x : Step). IsSound (state_by s x)) (whole_is s name j choice plans running bare all)
          (state_after-sound s (line_for choice name) sound);
      held = serves.held;
      running = serves.running;
      fits = serves.fits;
      within = serves.within;
    }

    -- it is told how many entries were kept
    pub whole_makes : (number : ℕ) → number ≡ min (length (merged_entries j)) (2 ^ 64 - 1)
        → MakesStep bytes told core os s (step_to s (line_for choice name)) (Ok (answers.Number number))
    whole_makes number is = subst (λ (x : Step). MakesStep bytes told core os s x (Ok (answers.Number number)))
        (sym (whole_is s name j choice plans running bare all)) (
          ap store_lines.Number (is ∙ ap (λ (n : ℕ). min n (2 ^ 64 - 1)) (kept_many j)),
          whole_stands,
        )

    -- and waits
    pub whole_waits : {R W : Type 0} (w k : Writers W) (job : TheJob (Base H R) H W k)
        → HasTablesFrom w bytes job j s.store.layout.next_table
        → ((other : Name) (job' : Job) (made' : Made) → thing_in s.store.things other ≡ Some (AJob job' made') → ⊥)
        → let x = step_to s (line_for choice name) in
        Merges w bytes merging (Some (record { name = name; job = job })) x.state.things x.state.layout
    whole_waits w k job has none = subst
        (λ (x : Step). Merges w bytes merging (Some (record { name = name; job = job })) x.state.things x.state.layout)
        (sym (whole_is s name j choice plans running bare all)) (record {
          opens = serves.opens;
          waits = record {
            open_job = record {
              job = j;
              pin = pin_of s.store.layout;
              moved = [];
              lent = numbers_from s.store.layout.next_table (total_of j);
            };
            is_open = lent_there s name j (total_of j);
            has = has.has;
            merge = has.merge;
            there = thing_put name (AJob j (made s name j (total_of j))) s.store.things ∙ ap (λ (m : Made). Some (AJob j m)) (sym has.made);
            only = λ other job' made' there. ⊎_elim
                (λ (same : other ≡ name). same)
                (λ (apart : other ≡ name → ⊥). absurd
                (none other job' made' (sym (thing_beside name other apart (AJob j (made s name j (total_of j))) s.store.things) ∙ there)))
                (same_or_not other name);
            lent = subst (AreLent (numbers_from s.store.layout.next_table (total_of j))) (sym has.made)
                (some_lent s name j (total_of j) (omega arith));
          };
        })

  module _ (merging : Option OpenMerge) (count : ℕ) (few : count < total_of j)
      (fits : (count ≡ 0) ⊎ (s.store.layout.next_table + count ≤ max_file_number + 1))
      (none : max_file_number < s.store.layout.next_table + count)
      (serves : IsServing bytes told core merging
      (record s {
        store = record s.store
            { layout = job_ended (made s name j count) (drawn_all count (with_job j s.store.layout)) };
      })) where
    pub given_up_makes : (counter : Counter) → counter ≡ counters.Table
        → MakesStep bytes told core os s (step_to s (line_for choice name)) (Ok (answers.Exhausted counter))
    given_up_makes counter is = subst (λ (x : Step). MakesStep bytes told core os s x (Ok (answers.Exhausted counter)))
        (sym (given_up_is s name j choice plans running bare count few fits none)) (
          ap store_lines.Exhausted is,
          (record {
            engine = serves.stands;
            names = names_stay bytes (history_of s) s.store.layout
                (job_ended (made s name j count) (drawn_all count (with_job j s.store.layout)))
                (ended_is_beside (made s name j count) s.store.layout (drawn_all count (with_job j s.store.layout))
                (drawn_is_beside count j s.store.layout)) os s.store.things names;
            sound = subst (λ (x : Step). IsSound (state_by s x))
                (given_up_is s name j choice plans running bare count few fits none) (state_after-sound s (line_for choice name) sound);
            held = serves.held;
            running = serves.running;
            fits = serves.fits;
            within = serves.within;
          }),
        )

    pub given_up_waits : {R W : Type 0} (w k : Writers W)
        → ((other : Name) (job' : Job) (made' : Made) → thing_in s.store.things other ≡ Some (AJob job' made') → ⊥)
        → let x = step_to s (line_for choice name) in Merges {H = H} {R = R} w bytes {g = k} merging None x.state.things x.state.layout
    given_up_waits {R} w k free' = subst
        (λ (x : Step). Merges {H = H} {R = R} w bytes {g = k} merging None x.state.things x.state.layout)
        (sym (given_up_is s name j choice plans running bare count few fits none)) (record {
          opens = serves.opens;
          waits = (refl, free');
        })
