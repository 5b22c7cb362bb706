-- Right behind a relocation no record of its batch wins exactly from inside the pass's log, whichever versions the batch names.
use Rattle.std.specs.Prelude.{◌≡◌, ◌≤◌, ℕ, ◌+◌, ◌==◌, ◌&&◌, nat_le, if◌then◌else◌, Bool, true, false, List, [], ◌∷◌}
use Rattle.std.specs.Prelude.{map, Option, None, Some, refl}
use Rattle.std.specs.List.{AllByRecursion, filter}
use Rattle.std.specs.Ordering.{eq_by_cmp}
use Rattle.std.proofs.Common.{sym, ap, subst, ◌∙◌, cond, arith}
use Rattle.std.proofs.lemmas.Bool.Decides.{nat_tests}
use Rattle.vl_engine_laws.specs.Pointed.{layout_logs}
use Rattle.vl_engine_laws.specs.laws.HeldLaws.{of_up_to}
use Rattle.vl_engine_model.specs.Relocation.{Candidate, is_moved, moved_of}
use Rattle.vl_engine_model.specs.Rulings.Relocate.{relocated}
use Rattle.vl_engine_model.specs.Shows.{AreUpTo}
use Rattle.vl_engine_model.specs.Sources.{sources}
use Rattle.vl_engine_model.specs.Tidy.{IsTidy}
use Rattle.vl_engine_model.specs.declared.layout.Layout.{Layout}
use Rattle.vl_engine_model_laws.specs.Passes.{IsSettled}
use Rattle.vl_engine_model_laws.specs.laws.Files.{all_weaker}
use Rattle.vl_engine_model_laws.specs.laws.Moves.{batch_settled, exact_logged}
use Rattle.vl_model.specs.Entries.{is_at}
use Rattle.vl_model.specs.History.{History, last_number}
use Rattle.vl_model.specs.Keys.{key_cmp}
use Rattle.vl_model.specs.Winners.{exact, leads_to, wins_exactly}
use Rattle.vl_model.specs.declared.entry.Entry.{Entry}
use Rattle.vl_model.specs.declared.log_frame.LogFrame.TheVariants.{Relocated}
use Rattle.vl_model.specs.declared.log_frame.Moved.{Moved}

-- ---- what wins exactly is of a version that is there

second : (a b : Bool) → (a && b) ≡ true → b ≡ true
second true b is = is
second false b is = absurd (let no : false ≡ true = is in cc)

exact_up_to : (key : List ℕ) (version last : ℕ) (es : List Entry) → AreUpTo last es → (e : Entry) → exact es key version ≡ Some e
    → version ≤ last
exact_up_to key version last [] up e is = absurd cc
exact_up_to key version last (x ∷ xs) up e is = by (is_at key version x) refl (exact_up_to key version last xs up.1 e) is
  where
    by : (b : Bool) → is_at key version x ≡ b → (exact xs key version ≡ Some e → version ≤ last)
        → (if b then Some x else exact xs key version) ≡ Some e → version ≤ last
    by true at later found =
        let same = second (eq_by_cmp key_cmp key x.key) (x.version == version) at in
        let low = up.0 in
        grind (arith, nat_tests, same, low)
    by false at later found = later found

wins_up_to : (segment last : ℕ) (es : List Entry) → AreUpTo last es → (key : List ℕ) (version place : ℕ)
    → wins_exactly es segment key version place ≡ true → version ≤ last
wins_up_to segment last es up key version place = by (exact es key version) refl
  where
    by : (o : Option Entry) → exact es key version ≡ o → leads_to segment place o ≡ true → version ≤ last
    by None is wins = absurd (let no : false ≡ true = wins in cc)
    by (Some e) is wins = exact_up_to key version last es up e is

-- ---- so a greater last number moves the same

module _ (segment last more : ℕ) (es : List Entry) (up : AreUpTo last es) (le : last ≤ more) where
  one_same : (c : Candidate) → is_moved es segment last c ≡ is_moved es segment more c
  one_same c = by (wins_exactly es segment c.moved.key c.moved.version c.place)
      (wins_up_to segment last es up c.moved.key c.moved.version c.place)
    where
      by : (b : Bool) → (b ≡ true → c.moved.version ≤ last)
          → (b && nat_le c.moved.version last) ≡ (b && nat_le c.moved.version more)
      by false low = refl
      by true low =
          let least = low refl in
          let one : nat_le c.moved.version last ≡ true = grind (arith, nat_tests, least) in
          let two : nat_le c.moved.version more ≡ true = grind (arith, nat_tests, least, le) in
          one ∙ sym two

  moved_same : (batch : List Candidate) → moved_of es segment last batch ≡ moved_of es segment more batch
  moved_same [] = refl
  moved_same (c ∷ cs) =
      ap (λ (b : Bool). map (λ (x : Candidate). x.moved)
      (cond b (c ∷ filter (is_moved es segment last) cs) (filter (is_moved es segment last) cs))) (one_same c)
      ∙ by (is_moved es segment more c) (moved_same cs)
    where
      by : (b : Bool) → moved_of es segment last cs ≡ moved_of es segment more cs
          → map (λ (x : Candidate). x.moved)
          (cond b (c ∷ filter (is_moved es segment last) cs) (filter (is_moved es segment last) cs))
          ≡ map (λ (x : Candidate). x.moved)
          (cond b (c ∷ filter (is_moved es segment more) cs) (filter (is_moved es segment more) cs))
      by true later = ap (λ (ms : List Moved). c.moved ∷ ms) later
      by false later = later

-- a number that no version of a batch is above
greatest : List Candidate → ℕ
greatest [] = 0
greatest (c ∷ cs) = c.moved.version + greatest cs

all_greatest : (batch : List Candidate) → AllByRecursion (λ (c : Candidate). c.moved.version ≤ greatest batch) batch
unfolding greatest
all_greatest [] = tt
all_greatest (c ∷ cs) = (
  omega arith,
  all_weaker (λ (x : Candidate). x.moved.version ≤ greatest cs) (λ (x : Candidate). x.moved.version ≤ c.moved.version + greatest cs)
      (λ x le. omega (arith, le)) cs (all_greatest cs),
)

module _ (l : Layout) (h : History) (tidy : IsTidy (layout_logs l) l h) (segment : ℕ) (batch : List Candidate) where
  settled_behind : AllByRecursion (IsSettled segment (sources (relocated l (moved_of (sources l) segment (last_number h) batch)))) batch
  settled_behind =
      let more = last_number h + greatest batch in
      subst (λ (ms : List Moved). AllByRecursion (IsSettled segment (sources (relocated l ms))) batch)
      (sym (moved_same segment (last_number h) more (sources l) (of_up_to h (sources l) tidy.versions) (omega arith) batch))
      (batch_settled segment more l batch (all_weaker (λ (c : Candidate). c.moved.version ≤ greatest batch)
      (λ (c : Candidate). c.moved.version ≤ last_number h + greatest batch) (λ c le. omega (arith, le)) batch (all_greatest batch)))

  -- Behind records that were moved none wins,
  pub settled_moved : (moved : List Moved) → moved_of (sources l) segment (last_number h) batch ≡ moved
      → AllByRecursion (IsSettled segment (sources (relocated l moved))) batch
  settled_moved moved are =
      subst (λ (ms : List Moved). AllByRecursion (IsSettled segment (sources (relocated l ms))) batch) are settled_behind

  -- and none does where nothing is left to move.
  pub settled_none : moved_of (sources l) segment (last_number h) batch ≡ [] → AllByRecursion (IsSettled segment (sources l)) batch
  settled_none none =
      all_weaker (IsSettled segment (sources (relocated l []))) (IsSettled segment (sources l))
      (λ c is. sym (ap (leads_to segment c.place) (exact_logged c.moved.key c.moved.version l (Relocated []))) ∙ is) batch
      (settled_moved [] none)
