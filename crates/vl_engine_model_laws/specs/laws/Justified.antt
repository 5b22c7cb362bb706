-- Where nothing raced, what a kept job drops of the sources of a moment is dropped by a rule of that moment.
use Rattle.std.proofs.Common.{◌≡◌, ◌⊎◌, inl, inr, ⊎_elim, ℕ, ◌≤◌, ◌<◌, Bool, true, false, cond, not, ◌&&◌, ◌||◌, List}
use Rattle.std.proofs.Common.{[], ◌∷◌, ◌++◌, refl, ap, sym, ◌∙◌, subst, arith}
use Rattle.std.proofs.lemmas.Bool.{and_parts, and_from}
use Rattle.std.proofs.lemmas.Bool.Decides.{nat_tests}
use Rattle.std.specs.Prelude.{Option, Some, None, nat_le, nat_lt, ◌==◌, is_some}
use Rattle.std.specs.List.{AllZip, AllByRecursion, list_any}
use Rattle.std.specs.FinMap.{find, put}
use Rattle.std.specs.FinMap.Entries.{by_order}
use Rattle.std.specs.Ordering.{eq_by_cmp}
use Rattle.std.specs.declared.cmp.Ordering.TheVariants.{Less, Equal, Greater}
use Rattle.vl_model.specs.Conflicts.{Named, first_of}
use Rattle.vl_model.specs.History.{History}
use Rattle.vl_model.specs.Keys.{key_cmp}
use Rattle.vl_model.specs.Entries.{is_at, is_gone}
use Rattle.vl_model.specs.Winners.{Logs}
use Rattle.vl_model.specs.laws.WinnerLaws.{same_key}
use Rattle.vl_model.specs.declared.entry.Entry.{Entry}
use Rattle.vl_engine_model.specs.laws.MergeShows.{shows_installed}
use Rattle.vl_engine_model.specs.Merging.{Sourced, if_so, inputs_of, outside_of, is_shadowed, is_outdated, is_below}
use Rattle.vl_engine_model.specs.Merging.{is_needless, is_needless_one, is_dropped, drops_by_need, needless_from, needless}
use Rattle.vl_engine_model.specs.Rulings.Install.{with_move, moved_among, race}
use Rattle.vl_engine_model.specs.Shows.{Shows}
use Rattle.vl_engine_model.specs.declared.job.Job.{Job}
use Rattle.vl_engine_model_laws.specs.laws.Lists.{true_false, or_cases, or_left, or_right, picked, at_parts}
use Rattle.vl_engine_model_laws.specs.laws.OpenJobs.{drops_at, head_mark, rest_preceded, marked_by, marks_now}
use Rattle.vl_engine_model.specs.Marks.{all_of, kept_of, marked_inputs, marked_outside, IsJustified, AreJustified, IsPast, plain}
use Rattle.vl_engine_model.specs.OpenJobs.{Preceded, preceded_if, preceded, IsStillBehind, IsAccounted, IsKeptFor}

-- ---- no race

first_put : (key : List ℕ) (number : ℕ) (others : List Named)
    → first_of (put key_cmp key number others) ≡ None → ⊥
first_put key number [] none = cc
first_put key number (x ∷ xs) none = by_test (key_cmp key x.0) none
  where
    by_test : (r : Rattle.std.specs.declared.cmp.Ordering.Ordering)
        → first_of (by_order r ((key, number) ∷ x ∷ xs) ((x.0, number) ∷ xs) (x ∷ put key_cmp key number xs)) ≡ None → ⊥
    by_test Less none = cc
    by_test Equal none = cc
    by_test Greater none = cc

-- its key wasn't moved
abbrev pub IsUnmoved : List Named → Entry → Type 0
IsUnmoved moved e = is_some (find key_cmp e.key moved) ≡ false

pub none_moved : (moved : List Named) (es : List Entry) → first_of (moved_among moved es) ≡ None
    → AllByRecursion (IsUnmoved moved) es
none_moved moved [] none = tt
none_moved moved (e ∷ es) none = by_found (find key_cmp e.key moved) refl (λ later. none_moved moved es later)
  where
    by_found : (o : Option ℕ) → find key_cmp e.key moved ≡ o
        → (first_of (moved_among moved es) ≡ None → AllByRecursion (IsUnmoved moved) es)
        → IsUnmoved moved e × AllByRecursion (IsUnmoved moved) es
    by_found None is later =
        (ap is_some is, later (sym (ap (λ o. first_of (with_move e.key o (moved_among moved es))) is) ∙ none))
    by_found (Some n) is later =
        absurd (first_put e.key n (moved_among moved es) (sym (ap (λ o. first_of (with_move e.key o (moved_among moved es))) is) ∙ none))

module _ (keep : ℕ) (inputs outside : List Entry) (floor : ℕ) (moved : List Named) where
  -- a place whose deletion the third rule alone drops is of a key that wasn't moved
  abbrev pub IsFree : Preceded → Type 0
  IsFree p = drops_by_need keep inputs outside floor p.newer p.entry ≡ true → IsUnmoved moved p.entry

  free_if : (b : Bool) (e : Entry) (newer : List Entry) (ps : List Preceded) (es : List Entry)
      → AllByRecursion (IsUnmoved moved) (if_so (b && drops_by_need keep inputs outside floor newer e) e es)
      → (AllByRecursion (IsUnmoved moved) es → AllByRecursion IsFree ps)
      → AllByRecursion IsFree (preceded_if b e newer ps)
  free_if false e newer ps es all later = later all
  free_if true e newer ps es all later = by_test (drops_by_need keep inputs outside floor newer e) refl all
    where
      by_test : (d : Bool) → drops_by_need keep inputs outside floor newer e ≡ d
          → AllByRecursion (IsUnmoved moved) (if_so d e es)
          → (drops_by_need keep inputs outside floor newer e ≡ true → IsUnmoved moved e) × AllByRecursion IsFree ps
      by_test true is all = ((λ drops. all.0), later all.1)
      by_test false is all = ((λ drops. absurd (true_false (sym drops ∙ is))), later all)

  frees : (newer : List Entry) (ss : List Sourced)
      → AllByRecursion (IsUnmoved moved) (needless_from keep inputs outside floor newer ss)
      → AllByRecursion IsFree (preceded newer ss)
  frees newer [] all = tt
  frees newer (s ∷ ss) all =
      free_if s.0 s.1 newer (preceded (s.1 ∷ newer) ss) (needless_from keep inputs outside floor (s.1 ∷ newer) ss) all
      (frees (s.1 ∷ newer) ss)

pub race_frees : (job : Job) (moved : List Named) → race job moved ≡ None
    → AllByRecursion (IsFree job.keep (inputs_of job.base) (outside_of job.base) job.floor moved) (preceded [] job.base)
race_frees job moved none =
    frees job.keep (inputs_of job.base) (outside_of job.base) job.floor moved [] job.base (none_moved moved (needless job) none)

-- ---- the marks over the sources of a moment

module _ (keep : ℕ) (inputs outside : List Entry) (floor : ℕ) where
  mark_entry : (b : Bool) (ps : List Preceded) (e : Entry)
      → (head_mark keep inputs outside floor b ps e).entry ≡ e
  mark_entry true (p ∷ ps) e = refl
  mark_entry true [] e = refl
  mark_entry false ps e = refl

  mark_input : (b : Bool) (ps : List Preceded) (e : Entry)
      → (head_mark keep inputs outside floor b ps e).input ≡ b
  mark_input true (p ∷ ps) e = refl
  mark_input true [] e = refl
  mark_input false ps e = refl

  pub all_of-marked : (ps : List Preceded) (ss : List Sourced)
      → all_of (marked_by keep inputs outside floor ps ss) ≡ plain ss
  all_of-marked ps [] = refl
  all_of-marked ps (s ∷ ss) =
      ap (λ (e : Entry). e ∷ all_of (marked_by keep inputs outside floor (rest_preceded s.0 ps) ss)) (mark_entry s.0 ps s.1)
      ∙ ap (λ (es : List Entry). s.1 ∷ es) (all_of-marked (rest_preceded s.0 ps) ss)

  pub inputs_of-marked : (ps : List Preceded) (ss : List Sourced)
      → marked_inputs (marked_by keep inputs outside floor ps ss) ≡ inputs_of ss
  inputs_of-marked ps [] = refl
  inputs_of-marked ps (s ∷ ss) =
      ap (λ (b : Bool). if_so b (head_mark keep inputs outside floor s.0 ps s.1).entry
      (marked_inputs (marked_by keep inputs outside floor (rest_preceded s.0 ps) ss))) (mark_input s.0 ps s.1)
      ∙ ap (λ (e : Entry). if_so s.0 e (marked_inputs (marked_by keep inputs outside floor (rest_preceded s.0 ps) ss)))
      (mark_entry s.0 ps s.1)
      ∙ ap (if_so s.0 s.1) (inputs_of-marked (rest_preceded s.0 ps) ss)

  pub outside_of-marked : (ps : List Preceded) (ss : List Sourced)
      → marked_outside (marked_by keep inputs outside floor ps ss) ≡ outside_of ss
  outside_of-marked ps [] = refl
  outside_of-marked ps (s ∷ ss) =
      ap (λ (b : Bool). if_so (not b) (head_mark keep inputs outside floor s.0 ps s.1).entry
      (marked_outside (marked_by keep inputs outside floor (rest_preceded s.0 ps) ss))) (mark_input s.0 ps s.1)
      ∙ ap (λ (e : Entry). if_so (not s.0) e
      (marked_outside (marked_by keep inputs outside floor (rest_preceded s.0 ps) ss))) (mark_entry s.0 ps s.1)
      ∙ ap (if_so (not s.0) s.1) (outside_of-marked (rest_preceded s.0 ps) ss)

-- the inputs' entries are the same ones
inputs_by_places : (newer : List Entry) (ss : List Sourced)
    → Rattle.std.proofs.Common.map (λ (p : Preceded). p.entry) (preceded newer ss) ≡ inputs_of ss
inputs_by_places newer [] = refl
inputs_by_places newer (s ∷ ss) = by_test s.0 (inputs_by_places (s.1 ∷ newer) ss)
  where
    by_test : (b : Bool)
        → Rattle.std.proofs.Common.map (λ (p : Preceded). p.entry) (preceded (s.1 ∷ newer) ss) ≡ inputs_of ss
        → Rattle.std.proofs.Common.map (λ (p : Preceded). p.entry) (preceded_if b s.1 newer (preceded (s.1 ∷ newer) ss))
        ≡ if_so b s.1 (inputs_of ss)
    by_test true later = ap (λ (es : List Entry). s.1 ∷ es) later
    by_test false later = later

same_entries : (ps qs : List Preceded) → AllZip IsStillBehind ps qs
    → Rattle.std.proofs.Common.map (λ (p : Preceded). p.entry) qs
    ≡ Rattle.std.proofs.Common.map (λ (p : Preceded). p.entry) ps
same_entries [] [] zip = refl
same_entries [] (q ∷ qs) zip = absurd zip
same_entries (p ∷ ps) [] zip = absurd zip
same_entries (p ∷ ps) (q ∷ qs) zip =
    ap (λ (e : Entry). e ∷ Rattle.std.proofs.Common.map (λ (x : Preceded). x.entry) qs) zip.0.same
    ∙ ap (λ (es : List Entry). p.entry ∷ es) (same_entries ps qs zip.1)

pub same_inputs : (job : Job) (moved : List Named) (now : List Sourced) → IsKeptFor job moved now
    → inputs_of now ≡ inputs_of job.base
same_inputs job moved now k =
    sym (inputs_by_places [] now) ∙ same_entries (preceded [] job.base) (preceded [] now) k.inputs
    ∙ inputs_by_places [] job.base

-- ---- the rules of the moment

below_same : (e f g : Entry) → is_at f.key f.version g ≡ true → is_below e g ≡ is_below e f
below_same e f g at =
    let parts = at_parts f.key f.version g at in
    ap (λ k. eq_by_cmp key_cmp e.key k && nat_lt g.version e.version) parts.0
    ∙ ap (λ v. eq_by_cmp key_cmp e.key f.key && nat_lt v e.version) parts.1

any_below : (e f : Entry) (es : List Entry) → is_below e f ≡ true
    → list_any (is_at f.key f.version) es ≡ true → list_any (is_below e) es ≡ true
any_below e f [] below there = absurd (true_false (sym there))
any_below e f (g ∷ es) below there = ⊎_elim
    (λ (at : is_at f.key f.version g ≡ true). or_left (is_below e g) (list_any (is_below e) es) (below_same e f g at ∙ below))
    (λ (later : list_any (is_at f.key f.version) es ≡ true). or_right (is_below e g) (list_any (is_below e) es)
    (any_below e f es below later))
    (or_cases (is_at f.key f.version g) (list_any (is_at f.key f.version) es) there)

-- the three rules, one after the other
by_rules : (s o n : Bool) → (s || (o || n)) ≡ true
    → (s ≡ true) ⊎ ((o ≡ true) ⊎ ((not s && (not o && n)) ≡ true))
by_rules true o n h = inl refl
by_rules false true n h = inr (inl refl)
by_rules false false n h = inr (inr h)

module _ (outside now : List Entry) (floor : ℕ) (moved : List Named)
    (accounted : AllByRecursion (IsAccounted outside floor moved) now) where
  -- a needless deletion of a key that wasn't moved is needless still
  still_one : (e : Entry) → is_needless_one outside floor e ≡ true → IsUnmoved moved e
      → is_needless_one now floor e ≡ true
  still_one e needless unmoved =
      let gone = and_parts (is_gone e.body) (nat_le e.version floor && not (list_any (is_below e) outside)) needless in
      let low = and_parts (nat_le e.version floor) (not (list_any (is_below e) outside)) gone.1 in
      and_from (is_gone e.body) (nat_le e.version floor && not (list_any (is_below e) now)) gone.0
      (and_from (nat_le e.version floor) (not (list_any (is_below e) now)) low.0 (none (list_any (is_below e) now) refl))
    where
      not_true : (b : Bool) → not b ≡ true → b ≡ false
      not_true true h = absurd (true_false (sym h))
      not_true false h = refl

      none : (b : Bool) → list_any (is_below e) now ≡ b → not b ≡ true
      none false is = refl
      none true is =
          let f = picked (IsAccounted outside floor moved) (is_below e) now accounted is in
          let gone = and_parts (is_gone e.body) (nat_le e.version floor && not (list_any (is_below e) outside)) needless in
          let low = and_parts (nat_le e.version floor) (not (list_any (is_below e) outside)) gone.1 in
          let below = and_parts (eq_by_cmp key_cmp e.key f.0.key) (nat_lt f.0.version e.version) f.1 in
          absurd (⊎_elim
          (λ (there : list_any (is_at f.0.key f.0.version) outside ≡ true).
          true_false (sym (any_below e f.0 outside f.1 there) ∙ not_true (list_any (is_below e) outside) low.1))
          (λ (other : (floor < f.0.version) ⊎ (is_some (find key_cmp f.0.key moved) ≡ true)). ⊎_elim
          (λ (above : floor < f.0.version).
          let less : f.0.version < e.version = grind (arith, nat_tests, below.1) in
          let least : e.version ≤ floor = grind (arith, nat_tests, low.0) in
          omega (arith, above, less, least))
          (λ (was : is_some (find key_cmp f.0.key moved) ≡ true).
          true_false (sym was ∙ ap (λ k. is_some (find key_cmp k moved)) (sym (same_key e.key f.0.key below.0)) ∙ unmoved))
          other)
          f.2)

module _ (keep : ℕ) (inputs outside now : List Entry) (floor : ℕ) (moved : List Named)
    (accounted : AllByRecursion (IsAccounted outside floor moved) now) where
  still_needless : (e : Entry) → is_needless keep outside floor e ≡ true → IsUnmoved moved e
      → is_needless keep now floor e ≡ true
  still_needless e needless unmoved =
      let both = and_parts (keep == 1) (is_needless_one outside floor e) needless in
      and_from (keep == 1) (is_needless_one now floor e) both.0 (still_one outside now floor moved accounted e both.1 unmoved)

  dropped_still : (p q : Preceded) → IsStillBehind p q → IsFree keep inputs outside floor moved p
      → drops_at keep inputs outside floor p ≡ true → is_dropped keep inputs now floor q.newer q.entry ≡ true
  dropped_still p q still free drops =
      subst (λ (e : Entry). is_dropped keep inputs now floor q.newer e ≡ true) (sym still.same)
      (⊎_elim
      (λ (shadowed : is_shadowed p.newer p.entry ≡ true).
      or_left (is_shadowed q.newer p.entry)
      (is_outdated keep inputs floor p.entry || is_needless keep now floor p.entry) (still.covers p.entry.key p.entry.version shadowed))
      (λ (other : (is_outdated keep inputs floor p.entry ≡ true) ⊎ (drops_by_need keep inputs outside floor p.newer p.entry ≡ true)).
      or_right (is_shadowed q.newer p.entry) (is_outdated keep inputs floor p.entry || is_needless keep now floor p.entry)
      (⊎_elim
      (λ (outdated : is_outdated keep inputs floor p.entry ≡ true). or_left (is_outdated keep inputs floor p.entry)
      (is_needless keep now floor p.entry) outdated)
      (λ (needed : drops_by_need keep inputs outside floor p.newer p.entry ≡ true).
      let one = and_parts (not (is_shadowed p.newer p.entry))
      (not (is_outdated keep inputs floor p.entry) && is_needless keep outside floor p.entry) needed in
      let two = and_parts (not (is_outdated keep inputs floor p.entry)) (is_needless keep outside floor p.entry) one.1 in
      or_right (is_outdated keep inputs floor p.entry) (is_needless keep now floor p.entry)
      (still_needless p.entry two.1 (free needed)))
      other))
      (by_rules (is_shadowed p.newer p.entry) (is_outdated keep inputs floor p.entry) (is_needless keep outside floor p.entry) drops))

  not_false : (b : Bool) → not b ≡ false → b ≡ true
  not_false true h = refl
  not_false false h = absurd (true_false h)

  not_true : (b : Bool) → not b ≡ true → b ≡ false
  not_true true h = absurd (true_false (sym h))
  not_true false h = refl

  none_outdated : (s o n : Bool) → (s || (o || n)) ≡ false → o ≡ false
  none_outdated true o n h = absurd (true_false h)
  none_outdated false true n h = absurd (true_false h)
  none_outdated false false n h = refl

  justified_one : (b : Bool) (ps : List Preceded) (e : Entry) (newer : List Entry) (qs : List Preceded)
      → AllZip IsStillBehind ps (preceded_if b e newer qs)
      → AllByRecursion (IsFree keep inputs outside floor moved) ps
      → IsJustified keep inputs now floor newer (head_mark keep inputs outside floor b ps e)
      × (AllZip IsStillBehind (rest_preceded b ps) qs × AllByRecursion (IsFree keep inputs outside floor moved) (rest_preceded b ps))
  justified_one false ps e newer qs zip free = (
    record { drops = λ dropped. absurd (true_false dropped); keeps = λ kept_now input. absurd (true_false (sym input)) },
    (zip, free),
  )
  justified_one true [] e newer qs zip free = absurd zip
  justified_one true (p ∷ ps) e newer qs zip free = (
    record {
      drops =
          λ dropped. (
            refl,
            dropped_still p (record { entry = e; newer = newer }) zip.0 free.0
                (not_false (drops_at keep inputs outside floor p) dropped),
          );
      keeps =
          λ kept_now input. ap (is_outdated keep inputs floor) zip.0.same
          ∙ none_outdated (is_shadowed p.newer p.entry) (is_outdated keep inputs floor p.entry)
          (is_needless keep outside floor p.entry) (not_true (drops_at keep inputs outside floor p) kept_now);
    },
    (zip.1, free.1),
  )

  justified_from : (newer : List Entry) (ps : List Preceded) (ss : List Sourced)
      → AllZip IsStillBehind ps (preceded newer ss)
      → AllByRecursion (IsFree keep inputs outside floor moved) ps
      → AreJustified keep inputs now floor newer (marked_by keep inputs outside floor ps ss)
  justified_from newer ps [] zip free = tt
  justified_from newer ps (s ∷ ss) zip free =
      let one = justified_one s.0 ps s.1 newer (preceded (s.1 ∷ newer) ss) zip free in (
        one.0,
        subst (λ (e : Entry). AreJustified keep inputs now floor (e ∷ newer)
            (marked_by keep inputs outside floor (rest_preceded s.0 ps) ss)) (sym (mark_entry keep inputs outside floor s.0 ps s.1))
            (justified_from (s.1 ∷ newer) (rest_preceded s.0 ps) ss one.1.0 one.1.1),
      )

-- Where nothing raced, what a kept job leaves of the sources shows what they show.
pub marks_shown : (logs : Logs) (job : Job) (moved : List Named) (now : List Sourced) (h : History) (from : List ℕ → ℕ) (to : ℕ)
    → ((key : List ℕ) (number : ℕ) → from key ≤ number → IsPast job.keep (inputs_of job.base) job.floor key number)
    → IsKeptFor job moved now → race job moved
    ≡ None
    → Shows logs (plain now) h from to → Shows logs (kept_of (marks_now job now)) h from to
marks_shown logs job moved now h from to past k none shows =
    let I = inputs_of job.base in
    let O = outside_of job.base in
    let ps = preceded [] job.base in
    let ms = marks_now job now in
    let justified : AreJustified job.keep I (outside_of now) job.floor [] ms =
    justified_from job.keep I O (outside_of now) job.floor moved k.outside [] ps now k.inputs (race_frees job moved none) in
    let same : I ≡ marked_inputs ms =
    sym (same_inputs job moved now k) ∙ sym (inputs_of-marked job.keep I O job.floor ps now) in
    shows_installed job.keep logs ms job.floor h from to
    (λ key number low. subst (λ (es : List Entry). IsPast job.keep es job.floor key number) same (past key number low))
    (subst (λ (es : List Entry). AreJustified job.keep es (marked_outside ms) job.floor [] ms) same
    (subst (λ (es : List Entry). AreJustified job.keep I es job.floor [] ms)
    (sym (outside_of-marked job.keep I O job.floor ps now)) justified))
    (subst (λ (es : List Entry). Shows logs es h from to) (sym (all_of-marked job.keep I O job.floor ps now)) shows)
