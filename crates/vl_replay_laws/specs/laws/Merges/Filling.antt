-- What a plan line comes to in the sequential store, by how many numbers were drawn.
use Rattle.std.proofs.Common.{◌≡◌, ◌⊎◌, inl, inr, ℕ, zero, suc, ◌+◌, ◌<◌, ◌≤◌, Bool, true, false, cond, List}
use Rattle.std.proofs.Common.{[], ◌∷◌, ◌++◌, length, refl, ap, sym, ◌∙◌, arith}
use Rattle.std.proofs.lemmas.Bool.Decides.{nat_tests}
use Rattle.std.proofs.lemmas.List.{append_assoc, append-nil}
use Rattle.std.specs.Prelude.{Option, None, Some}
use Rattle.vl_engine_model.specs.Jobs.{Made, job_ended}
use Rattle.vl_engine_model.specs.Merging.{kept}
use Rattle.vl_engine_model.specs.Ruling.{Ruling, has_no_number, leaving}
use Rattle.vl_engine_model.specs.Rulings.Fresh as fresh
use Rattle.vl_engine_model.specs.Rulings.Fresh.{FreshAnswer, drawn, fresh_ruling, fresh_unless}
use Rattle.vl_engine_model.specs.Store.Commits.{history_in}
use Rattle.vl_engine_model.specs.Store.Dispatch.{fill, filled, made_of}
use Rattle.vl_engine_model.specs.Store.Lines.{Exhausted, Name, Number}
use Rattle.vl_engine_model.specs.Store.Things as things
use Rattle.vl_engine_model.specs.Store.Things.{AJob, Step, with_thing}
use Rattle.vl_engine_model.specs.declared.file_name.FileName.{FileName}
use Rattle.vl_engine_model.specs.declared.job.Job.{Job}
use Rattle.vl_engine_model.specs.declared.job.OpenJob.{OpenJob}
use Rattle.vl_engine_model.specs.declared.layout.Layout.{Layout}
use Rattle.vl_model.specs.History.{History}
use Rattle.vl_model.specs.Limits.{max_file_number}
use Rattle.vl_model.specs.declared.counter.Counter.TheVariants as counter
use Rattle.vl_model.specs.declared.entry.Entry.{Entry}
use Rattle.vl_replay_laws.specs.Drawn.{drawn_all, numbers_from}

-- ---- a ruling on a draw

pub chosen_true : {A : Type 0} (b : Bool) (x y : A) → b ≡ true → cond b x y ≡ x
chosen_true true x y e = refl
chosen_true false x y e = absurd cc

pub chosen_false : {A : Type 0} (b : Bool) (x y : A) → b ≡ false → cond b x y ≡ y
chosen_false true x y e = absurd cc
chosen_false false x y e = refl

fits_number : (next : ℕ) → next ≤ max_file_number → has_no_number next 1 ≡ false
fits_number next le = grind (arith, nat_tests)

no_number : (next : ℕ) → max_file_number < next → has_no_number next 1 ≡ true
no_number next lt = grind (arith, nat_tests)

abbrev draws : Layout → History → Ruling FreshAnswer
draws l h = record { answer = fresh.Drawn l.next_table; history = h; layout = drawn l; calls = 1; gone = [] }

pub draw_made : (l : Layout) (h : History) → l.halted ≡ None → l.next_table ≤ max_file_number → fresh_ruling l h ≡ draws l h
draw_made l h running le =
    ap (λ (o : Option FileName). fresh_unless o l h) running
    ∙ chosen_false (has_no_number l.next_table 1) (leaving (fresh.Exhausted counter.Table) h l) (draws l h) (fits_number l.next_table le)

pub draw_refused : (l : Layout) (h : History) → l.halted ≡ None → max_file_number < l.next_table
    → fresh_ruling l h ≡ leaving (fresh.Exhausted counter.Table) h l
draw_refused l h running lt =
    ap (λ (o : Option FileName). fresh_unless o l h) running
    ∙ chosen_true (has_no_number l.next_table 1) (leaving (fresh.Exhausted counter.Table) h l) (draws l h) (no_number l.next_table lt)

-- ---- layouts

pub drawn_next : (n : ℕ) (l : Layout) → (drawn_all n l).next_table ≡ l.next_table + n
drawn_next zero l = omega arith
drawn_next (suc n) l = let later = drawn_next n (drawn l) in omega (arith, later)

pub drawn_halted : (n : ℕ) (l : Layout) → (drawn_all n l).halted ≡ l.halted
drawn_halted zero l = refl
drawn_halted (suc n) l = drawn_halted n (drawn l)

pub drawn_live : (n : ℕ) (l : Layout) → (drawn_all n l).live ≡ l.live
drawn_live zero l = refl
drawn_live (suc n) l = drawn_live n (drawn l)

pub drawn_levels : (n : ℕ) (l : Layout) → (drawn_all n l).levels ≡ l.levels
drawn_levels zero l = refl
drawn_levels (suc n) l = drawn_levels n (drawn l)

pub drawn_retired : (n : ℕ) (l : Layout) → (drawn_all n l).retired ≡ l.retired
drawn_retired zero l = refl
drawn_retired (suc n) l = drawn_retired n (drawn l)

-- one more
pub drawn_more : (n : ℕ) (l : Layout) → drawn_all (suc n) l ≡ drawn (drawn_all n l)
drawn_more zero l = refl
drawn_more (suc n) l = drawn_more n (drawn l)

-- the numbers are lent to the job
pub drawn_lent : (n : ℕ) (l : Layout) (o : OpenJob) → l.job ≡ Some o
    → (drawn_all n l).job ≡ Some (record o { lent = o.lent ++ numbers_from l.next_table n })
drawn_lent zero l o is = is ∙ ap (λ (ns : List ℕ). Some (record o { lent = ns })) (sym (append-nil o.lent))
drawn_lent (suc n) l o is =
    drawn_lent n (drawn l) (record o { lent = o.lent ++ l.next_table ∷ [] }) (ap (λ (j : Option OpenJob). fresh.lent_to l.next_table j) is)
    ∙ ap (λ (ns : List ℕ). Some (record o { lent = ns })) (append_assoc o.lent (l.next_table ∷ []) (numbers_from (l.next_table + 1) n))

-- ---- the line

module _ (s : things.State) (name : Name) (job : Job) where
  abbrev h : History
  h = history_in s.commits

  abbrev Filled : Layout → List ℕ → ℕ → ℕ → Step
  Filled l numbers calls n = record {
    answer = Number (length (kept job));
    state = with_thing s (drawn_all n l) name (AJob job (made_of job (numbers ++ numbers_from l.next_table n)));
    calls = calls + n;
  }

  abbrev Ended : Layout → List ℕ → ℕ → ℕ → Step
  Ended l numbers calls n = record {
    answer = Exhausted counter.Table;
    state = record s { layout = job_ended (made_of job (numbers ++ numbers_from l.next_table n)) (drawn_all n l) };
    calls = calls + n;
  }

  -- a number was drawn
  fill_drawn : (es : List Entry) (output : List (List Entry)) (l : Layout) (numbers : List ℕ) (calls : ℕ)
      → l.halted ≡ None → l.next_table ≤ max_file_number
      → fill s name job l (es ∷ output) numbers calls ≡ fill s name job (drawn l) output (numbers ++ l.next_table ∷ []) (calls + 1)
  fill_drawn es output l numbers calls running le =
      ap (λ (r : Ruling FreshAnswer). filled s l (made_of job numbers) calls
      (fill s name job r.layout output (numbers ++ l.next_table ∷ []) (calls + 1)) r.answer)
      (draw_made l h running le)

  fill_refused : (es : List Entry) (output : List (List Entry)) (l : Layout) (numbers : List ℕ) (calls : ℕ)
      → l.halted ≡ None → max_file_number < l.next_table
      → fill s name job l (es ∷ output) numbers calls
      ≡ record { answer = Exhausted counter.Table; state = record s { layout = job_ended (made_of job numbers) l }; calls = calls }
  fill_refused es output l numbers calls running lt =
      ap (λ (r : Ruling FreshAnswer). filled s l (made_of job numbers) calls
      (fill s name job r.layout output (numbers ++ l.next_table ∷ []) (calls + 1)) r.answer)
      (draw_refused l h running lt)

  more_numbers : (numbers : List ℕ) (next n : ℕ) → (numbers ++ next ∷ []) ++ numbers_from (next + 1) n ≡ numbers
      ++ numbers_from next (suc n)
  more_numbers numbers next n = append_assoc numbers (next ∷ []) (numbers_from (next + 1) n)

  filled_more : (l : Layout) (numbers : List ℕ) (calls n : ℕ)
      → Filled (drawn l) (numbers ++ l.next_table ∷ []) (calls + 1) n ≡ Filled l numbers calls (suc n)
  filled_more l numbers calls n =
      ap (λ (ns : List ℕ). record {
        answer = Number (length (kept job));
        state = with_thing s (drawn_all (suc n) l) name
            (AJob job (made_of job ns));
        calls = (calls + 1) + n;
      })
      (more_numbers numbers l.next_table n)
      ∙ ap (λ (k : ℕ). record {
        answer = Number (length (kept job));
        state = with_thing s (drawn_all (suc n) l) name
            (AJob job (made_of job (numbers ++ numbers_from l.next_table (suc n))));
        calls = k;
      })
      (let sum : (calls + 1) + n ≡ calls + suc n = omega arith in sum)

  ended_more : (l : Layout) (numbers : List ℕ) (calls n : ℕ)
      → Ended (drawn l) (numbers ++ l.next_table ∷ []) (calls + 1) n ≡ Ended l numbers calls (suc n)
  ended_more l numbers calls n =
      ap (λ (ns : List ℕ). record {
        answer = Exhausted counter.Table;
        state = record s
            { layout = job_ended (made_of job ns) (drawn_all (suc n) l) };
        calls = (calls + 1) + n;
      })
      (more_numbers numbers l.next_table n)
      ∙ ap (λ (k : ℕ). record {
        answer = Exhausted counter.Table;
        state = record s
            { layout = job_ended (made_of job (numbers ++ numbers_from l.next_table (suc n))) (drawn_all (suc n) l) };
        calls = k;
      })
      (let sum : (calls + 1) + n ≡ calls + suc n = omega arith in sum)

  -- all of them were
  pub fill_all : (output : List (List Entry)) (l : Layout) (numbers : List ℕ) (calls : ℕ) → l.halted ≡ None
      → (length output ≡ 0) ⊎ (l.next_table + length output ≤ max_file_number + 1)
      → fill s name job l output numbers calls ≡ Filled l numbers calls (length output)
  fill_all [] l numbers calls running fits =
      ap (λ (ns : List ℕ). record
      { answer = Number (length (kept job)); state = with_thing s l name (AJob job (made_of job ns)); calls = calls })
      (sym (append-nil numbers))
      ∙ ap (λ (k : ℕ). record {
        answer = Number (length (kept job));
        state = with_thing s l name
            (AJob job (made_of job (numbers ++ [])));
        calls = k;
      })
      (let sum : calls ≡ calls + 0 = omega arith in sum)
  fill_all (es ∷ output) l numbers calls running fits =
      let le : l.next_table + suc (length output) ≤ max_file_number + 1 = some fits in
      fill_drawn es output l numbers calls running (omega (arith, le))
      ∙ fill_all output (drawn l) (numbers ++ l.next_table ∷ []) (calls + 1) running (inr (omega (arith, le)))
      ∙ filled_more l numbers calls (length output)
    where
      some : (suc (length output) ≡ 0) ⊎ (l.next_table + suc (length output) ≤ max_file_number + 1)
          → l.next_table + suc (length output) ≤ max_file_number + 1
      some (inl none) = omega (arith, none)
      some (inr le) = le

  -- so many were, and none is left for the next table
  pub fill_some : (output : List (List Entry)) (l : Layout) (numbers : List ℕ) (calls n : ℕ) → l.halted ≡ None → n < length output
      → (n ≡ 0) ⊎ (l.next_table + n ≤ max_file_number + 1) → max_file_number < l.next_table + n
      → fill s name job l output numbers calls ≡ Ended l numbers calls n
  fill_some [] l numbers calls n running few fits none = absurd (omega (arith, few))
  fill_some (es ∷ output) l numbers calls zero running few fits none =
      fill_refused es output l numbers calls running (omega (arith, none))
      ∙ ap (λ (ns : List ℕ). record
      { answer = Exhausted counter.Table; state = record s { layout = job_ended (made_of job ns) l }; calls = calls })
      (sym (append-nil numbers))
      ∙ ap (λ (k : ℕ). record {
        answer = Exhausted counter.Table;
        state = record s
            { layout = job_ended (made_of job (numbers ++ [])) l };
        calls = k;
      })
      (let sum : calls ≡ calls + 0 = omega arith in sum)
  fill_some (es ∷ output) l numbers calls (suc n) running few fits none =
      let le : l.next_table + suc n ≤ max_file_number + 1 = some fits in
      fill_drawn es output l numbers calls running (omega (arith, le))
      ∙ fill_some output (drawn l) (numbers ++ l.next_table ∷ []) (calls + 1) n running (omega (arith, few))
      (inr (omega (arith, le))) (omega (arith, none))
      ∙ ended_more l numbers calls n
    where
      some : (suc n ≡ 0) ⊎ (l.next_table + suc n ≤ max_file_number + 1) → l.next_table + suc n ≤ max_file_number + 1
      some (inl none) = omega (arith, none)
      some (inr le) = le

  -- ---- how many calls it makes at least, whatever it comes to

  filled_calls : (l : Layout) (made : Made) (calls : ℕ) (more : Step) (a : FreshAnswer) → calls ≤ more.calls
      → calls ≤ (filled s l made calls more a).calls
  filled_calls l made calls more (fresh.Drawn n) le = le
  filled_calls l made calls more (fresh.Halted file) le = omega arith
  filled_calls l made calls more (fresh.Exhausted c) le = omega arith

  calls_grow : (output : List (List Entry)) (l : Layout) (numbers : List ℕ) (calls : ℕ)
      → calls ≤ (fill s name job l output numbers calls).calls
  calls_grow [] l numbers calls = omega arith
  calls_grow (es ∷ output) l numbers calls =
      filled_calls l (made_of job numbers) calls _ (fresh_ruling l h).answer
      (let more = calls_grow output (fresh_ruling l h).layout (numbers ++ l.next_table ∷ []) (calls + 1) in omega (arith, more))

  -- where so many were drawn and one more might be, it makes more calls than these
  pub fill_more : (output : List (List Entry)) (l : Layout) (numbers : List ℕ) (calls n : ℕ) → l.halted ≡ None → n < length output
      → l.next_table + n ≤ max_file_number → calls + n < (fill s name job l output numbers calls).calls
  fill_more [] l numbers calls n running few fits = absurd (omega (arith, few))
  fill_more (es ∷ output) l numbers calls zero running few fits =
      let step = ap (λ (x : Step). x.calls) (fill_drawn es output l numbers calls running (omega (arith, fits))) in
      let more = calls_grow output (drawn l) (numbers ++ l.next_table ∷ []) (calls + 1) in
      omega (arith, step, more)
  fill_more (es ∷ output) l numbers calls (suc n) running few fits =
      let step = ap (λ (x : Step). x.calls) (fill_drawn es output l numbers calls running (omega (arith, fits))) in
      let more = fill_more output (drawn l) (numbers ++ l.next_table ∷ []) (calls + 1) n running (omega (arith, few))
      (omega (arith, fits)) in
      omega (arith, step, more)
