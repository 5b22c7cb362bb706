-- What was found, put together.
use Rattle.std.proofs.Common.{◌≡◌, ◌⊎◌, ℕ, ◌<◌, Bool, true, false, List, [], ◌∷◌, inl, inr, refl, sym, ap, ◌∙◌, subst, arith, ⊎_elim}
use Rattle.std.specs.Prelude.{◌≢◌, ◌==◌, ◌||◌, not, nat_lt, AllPairs, Contains, IfSome, IsErr, IsErrAnd, IsSome}
use Rattle.std.specs.Prelude.{filter, if◌then◌else◌, Option, None, Some, Result, Ok, Err}
use Rattle.std.proofs.lemmas.Bool.{and_from, and_parts}
use Rattle.std.specs.FinMap.{get}
use Rattle.std.proofs.lemmas.Bool.Decides.{nat_tests}
use Rattle.std.proofs.lemmas.List.Elements.{All-contains, All-contains_itself, All-filter, filter_passes}
use Rattle.std.proofs.lemmas.List.Kept.{AllPairs-filter}
use Rattle.vl_disk.specs.Crash.{Image}
use Rattle.vl_disk.specs.Disk.{Lists}
use Rattle.vl_disk.specs.DiskState.{DiskState}
use Rattle.vl_disk.specs.Started.{IsRead}
use Rattle.vl_disk.specs.declared.name.Name.{Name}
use Rattle.vl_disk.specs.declared.name.Name.TheVariants.{Log, Table, Manifest}
use Rattle.vl_manifest.specs.declared.state.ManifestState.{ManifestState}
use Rattle.vl_recover.specs.opening.Answers.{AnswersBy, AreStrayNames, IsStrayName}
use Rattle.vl_recover.specs.opening.Finding.{FindsSo, IsFound, IsUpTo, Leads, greatest_of}
use Rattle.vl_recover.specs.opening.LogsSoFar.{AreLogsFound, walk_of}
use Rattle.vl_recover.specs.opening.Named.{AreGreatestIn, IsGreatestIn, is_named, is_stray}
use Rattle.vl_recover.specs.opening.Opening.{Current, Damaged, FoundTable, IsAmong, IsNamed, LogsFrom, NamedLevels}
use Rattle.vl_recover.specs.opening.Opening.{NamedLogs, NewerFormat, NotAStore, Opening, Opens, Refusal, led_into}
use Rattle.vl_recover.specs.opening.Opening.{opening_of}
use Rattle.vl_recover.specs.opening.Leading.{AnswersStage}
use Rattle.vl_recover.specs.opening.Results.{recovery_by}
use Rattle.vl_recover.specs.declared.fails.OpenError.{OpenError}
use Rattle.vl_recover.specs.declared.fails.OpenError.TheVariants as why
use Rattle.vl_manifest.specs.Levels.{is_in}
use Rattle.vl_recover.specs.opening.Plans.{AreGreatest, Greatest, IsGreatest}
use Rattle.vl_recover.specs.opening.Walk.{LogDamage, filled}
use Rattle.vl_recover.specs.declared.found.Findings.{Findings}
use Rattle.vl_recover.specs.declared.found.GreatestNumbers.{GreatestNumbers}
use Rattle.vl_recover.specs.declared.found.HeldFiles.{HeldFiles}
use Rattle.vl_recover.specs.declared.found.LastLog.{LastLog}
use Rattle.vl_recover.specs.declared.found.LogsFound.{LogsFound}
use Rattle.vl_recover.proofs.opening.Handing.{of_stage}
use Rattle.vl_recover.proofs.opening.Looking.{given}
use Rattle.vl_recover.proofs.opening.Naming.{Contains-cases, Contains-first, Contains-later, nothing_in}
use Rattle.vl_recover.proofs.opening.ReadingLogs.{listed, not_named}

-- ---- strays

differ : false ≡ true → ⊥
differ e = cc

module _ (p : Name → Bool) where
  kept : (names : List Name) (name : Name) → Contains names name → p name ≡ true → Contains (filter p names) name
  kept [] name c is = absurd (nothing_in name c)
  kept (first ∷ names) name c is = by (λ in_rest. kept names name in_rest is) (p first) refl
    where
      by : (Contains names name → Contains (filter p names) name) → (b : Bool) → p first ≡ b
          → Contains (if b then first ∷ filter p names else filter p names) name
      by rest true it = ⊎_elim
          (λ (e : first ≡ name). subst (λ (n : Name). Contains (n ∷ filter p names) name) (sym e) (Contains-first name (filter p names)))
          (λ (in_rest : Contains names name). Contains-later first name (filter p names) (rest in_rest))
          (Contains-cases first name names c)
      by rest false not = ⊎_elim
          (λ (e : first ≡ name). absurd (differ (sym not ∙ ap p e ∙ is)))
          (λ (in_rest : Contains names name). rest in_rest)
          (Contains-cases first name names c)

  kept_of : (names : List Name) (name : Name) → Contains (filter p names) name → Contains names name
  kept_of names name c = All-contains (Contains names) (filter p names) name
      (All-filter p (Contains names) names (All-contains_itself names)) c

  passes : (names : List Name) (name : Name) → Contains (filter p names) name → p name ≡ true
  passes names name c = All-contains (λ n. p n ≡ true) (filter p names) name (filter_passes p names) c

number_same : (m n : ℕ) → (m == n) ≡ true → m ≡ n
number_same m n e = grind (arith, nat_tests)

same_number : (m n : ℕ) → m ≡ n → (m == n) ≡ true
same_number m n e = grind (arith, nat_tests)

or_parts : (a b : Bool) → (a || b) ≡ true → (a ≡ true) ⊎ (b ≡ true)
or_parts true b is = inl refl
or_parts false b is = inr is

or_first : (a b : Bool) → a ≡ true → (a || b) ≡ true
or_first true b is = refl
or_first false b is = absurd (differ is)

or_second : (a b : Bool) → b ≡ true → (a || b) ≡ true
or_second true b is = refl
or_second false b is = is

below_of : (m n : ℕ) → nat_lt m n ≡ true → m < n
below_of m n e = grind (arith, nat_tests)

of_below : (m n : ℕ) → m < n → nat_lt m n ≡ true
of_below m n e = grind (arith, nat_tests)

-- it is one of these numbers
in_among : (n : ℕ) (ns : List ℕ) → is_in n ns ≡ true → IsAmong ns n
in_among n [] is = absurd (differ is)
in_among n (m ∷ ms) is = ⊎_elim
    (λ (here : (m == n) ≡ true). inl (number_same m n here))
    (λ (rest : is_in n ms ≡ true). inr (in_among n ms rest))
    (or_parts (m == n) (is_in n ms) is)

among_in : (n : ℕ) (ns : List ℕ) → IsAmong ns n → is_in n ns ≡ true
among_in n [] among = absurd among
among_in n (m ∷ ms) among = ⊎_elim
    (λ (here : m ≡ n). or_first (m == n) (is_in n ms) (same_number m n here))
    (λ (rest : IsAmong ms n). or_second (m == n) (is_in n ms) (among_in n ms rest))
    among

-- a level names it
named_one : (n : ℕ) (levels : List (List ℕ)) → is_named n levels ≡ true → IsNamed levels n
named_one n [] is = absurd (differ is)
named_one n (ns ∷ levels) is = ⊎_elim
    (λ (here : is_in n ns ≡ true). inl (in_among n ns here))
    (λ (rest : is_named n levels ≡ true). inr (named_one n levels rest))
    (or_parts (is_in n ns) (is_named n levels) is)

one_named : (n : ℕ) (levels : List (List ℕ)) → IsNamed levels n → is_named n levels ≡ true
one_named n [] named = absurd named
one_named n (ns ∷ levels) named = ⊎_elim
    (λ (here : IsAmong ns n). or_first (is_in n ns) (is_named n levels) (among_in n ns here))
    (λ (rest : IsNamed levels n). or_second (is_in n ns) (is_named n levels) (one_named n levels rest))
    named

not_true : (b : Bool) → not b ≡ true → b ≡ true → ⊥
not_true true is it = differ is
not_true false is it = differ it

true_not : (b : Bool) → (b ≡ true → ⊥) → not b ≡ true
true_not true never = absurd (never refl)
true_not false never = refl

-- by what was found
module _ (o : Opening) (led : List ℕ) (same : led ≡ led_into o.levels) where
  stray_is : (name : Name) → is_stray o.state led name ≡ true → IsStrayName o name
  stray_is (Log n) is =
      let parts = and_parts (nat_lt n o.state.head) (not (is_in n led)) is in (
        below_of n o.state.head parts.0,
        λ among. not_true (is_in n led) parts.1 (among_in n led (subst (λ (l : List ℕ). IsAmong l n) (sym same) among)),
      )
  stray_is (Table n) is = λ named. not_true (is_named n o.state.levels) is (one_named n o.state.levels named)
  stray_is (Manifest n) is = tt

  is_stray_by : (name : Name) → IsStrayName o name → is_stray o.state led name ≡ true
  is_stray_by (Log n) (below, unled) = and_from (nat_lt n o.state.head) (not (is_in n led)) (of_below n o.state.head below)
      (true_not (is_in n led) (λ yes. unled (subst (λ (l : List ℕ). IsAmong l n) same (in_among n led yes))))
  is_stray_by (Table n) unnamed = true_not (is_named n o.state.levels) (λ yes. unnamed (named_one n o.state.levels yes))
  is_stray_by (Manifest n) u = refl

module _ (image : Image) (names : List Name) (named : (name : Name) → IsSome (get image name) → Contains names name)
    (given_all : (name : Name) → Contains names name → IsSome (get image name)) where
  are_strays : AllPairs (λ a b. a ≢ b) names → (o : Opening) (led : List ℕ) → led ≡ led_into o.levels
      → AreStrayNames image o (filter (is_stray o.state led) names)
  are_strays once o led same = record {
    all = λ name. (
      λ c. (
        given_all name (kept_of (is_stray o.state led) names name c),
        stray_is o led same name
            (passes (is_stray o.state led) names name c),
      ),
      λ both. kept (is_stray o.state led) names name (named name both.0) (is_stray_by o led same name both.1),
    );
    once = AllPairs-filter (λ a b. a ≢ b) (is_stray o.state led) names once;
  }

  is_greatest : (kind : ℕ → Name) (g : ℕ) → IsGreatestIn names kind g → IsGreatest image kind g
  is_greatest kind g is = record {
    none_above = λ m past. not_named image names named (kind m) (λ c. let most = is.above m c in omega (arith, most, past));
    stands = λ some none. some_not_none (subst IsSome none (given_all (kind g) (is.is_there some)));
  }
    where
      some_not_none : IsSome {T = List ℕ} None → ⊥
      some_not_none e = cc

  are_greatest : (g : Greatest) → AreGreatestIn names g → AreGreatest image g
  are_greatest g are = record {
    log = is_greatest Log g.log are.log;
    table = is_greatest Table g.table are.table;
    manifest = is_greatest Manifest
        g.manifest are.manifest;
  }

-- ---- a stage that refuses

-- where a stage refuses, so does the opening
refused_by : (image : Image) (stage : Result Opening Refusal → Type 0) → ((why : Refusal) → stage (Err why) → Opens image (Err why))
    → (e : OpenError) → AnswersStage stage (Err e) → AnswersBy image (recovery_by e)
refused_by image stage onto why.NotAStore is = onto NotAStore is
refused_by image stage onto (why.NewerFormat format) is = onto (NewerFormat format) is
refused_by image stage onto (why.Damaged name place) is = onto (Damaged name place) is
refused_by image stage onto (why.Exhausted counter) is = absurd is
refused_by image stage onto why.NoMemory is = tt
refused_by image stage onto (why.Disk name) is = tt

pub manifest_refuses : (image : Image) (e : OpenError) → AnswersStage (Current image) (Err e) → AnswersBy image (recovery_by e)
manifest_refuses image e is = refused_by image (Opens image) (λ why o. o) e
    (of_stage (Current image) (Opens image) (λ why refused. inl refused) e is)

pub tables_refuse : (image : Image) (state : ManifestState) → Current image (Ok state) → (e : OpenError)
    → AnswersStage (NamedLevels false image state.levels) (Err e) → AnswersBy image (recovery_by e)
tables_refuse image state current e is = refused_by image (Opens image) (λ why o. o) e
    (of_stage (NamedLevels false image state.levels) (Opens image) (λ why refused. inr (state, current, inl refused)) e is)

pub led_refuse : (image : Image) (state : ManifestState) (levels : List (List FoundTable)) → Current image (Ok state)
    → NamedLevels false image state.levels (Ok levels) → (e : OpenError)
    → AnswersStage (NamedLogs image (led_into levels)) (Err e) → AnswersBy image (recovery_by e)
led_refuse image state levels current named e is = refused_by image (Opens image) (λ why o. o) e
    (of_stage (NamedLogs image (led_into levels)) (Opens image)
    (λ why refused. inr (state, current, inr (levels, named, inl refused))) e is)

-- ---- the stages together

module _ {H : Type 0} (image : Image) (state : ManifestState) (levels : List (List FoundTable)) (led : List ℕ)
    (leads : Leads image state levels led)
    (logs : LogsFound H) (read : AreLogsFound image state.head state.covered logs) where
  opens_so : (r : Result ℕ LogDamage) → walk_of logs.number ≡ r → (o : Result Opening Refusal) → o ≡ opening_of state levels read.logs r
      → LogsFrom image state levels o
  opens_so r is o opening = (read.logs, read.standing, opening ∙ ap (opening_of state levels read.logs) (sym is ∙ read.are_read.number))

  behind_led : NamedLogs image (led_into levels) (Ok tt)
  behind_led = subst (λ (l : List ℕ). NamedLogs image l (Ok tt)) leads.led_is leads.logs

  -- they are damaged
  pub logs_refuse : (damage : LogDamage) → walk_of logs.number ≡ Err damage → Opens image (Err (Damaged (Log damage.log) damage.place))
  logs_refuse damage is =
      inr (
        state,
        leads.current,
        inr
            (levels, leads.tables, inr (tt, behind_led, opens_so (Err damage) is (Err (Damaged (Log damage.log) damage.place)) refl)),
      )

  pub is_found : (disk : DiskState) (names : List Name) (found : Findings) → IsRead image disk → Lists names disk
      → AreGreatestIn names (greatest_of found.greatest) → logs.number ≡ Ok found.number
      → found.state ≡ state → found.frozen ≡ logs.frozen → found.last ≡ logs.last
      → found.strays.items ≡ filter (is_stray state led) names
      → (is : IsFound image found) × (levels ≡ is.finds.opening.levels)
  is_found disk names found is lists are number same_state same_frozen same_last same_strays =
      let named = listed image disk names is lists in
      let given_all = given image disk names is lists in
      let o : Opening = record { state = state; levels = levels; logs = filled read.logs; number = found.number } in (
        record {
          finds = record {
            opening = o;
            opens = (
              state,
              leads.current,
              (levels, leads.tables, (tt, behind_led, opens_so (Ok found.number) (ap walk_of number) (Ok o) refl)),
            );
            greatest = greatest_of found.greatest;
            are_greatest = are_greatest image names named given_all (greatest_of found.greatest) are;
            logs = read.logs;
            standing = read.standing;
          };
          state = same_state;
          number = refl;
          frozen = rw same_frozen read.are_read.frozen;
          greatest = refl;
          last = same_last ∙ read.are_read.last;
          strays = subst (AreStrayNames image o) (sym same_strays) (are_strays image names named given_all lists.once o led leads.led_is);
        },
        refl,
      )

pub numbered_last : (names : List Name) (greatest : GreatestNumbers) → AreGreatestIn names (greatest_of greatest) → (last : Option LastLog)
    → IfSome last (λ q. Contains names (Log q.number)) → IsUpTo greatest.log last
numbered_last names greatest are None named = tt
numbered_last names greatest are (Some q) named = are.log.above q.number named

-- a refusal of a stage is the answer
pub found_handed : {H : Type 0} (image : Image) (result : Result (Findings × HeldFiles H) OpenError) (e : OpenError)
    → IsErr result → IsErrAnd result (λ f. f ≡ e)
    → AnswersBy image (recovery_by e) → FindsSo image result
found_handed image (Ok found) e failed same is = absurd (differ failed)
found_handed image (Err f) e failed same is = subst (λ (x : OpenError). AnswersBy image (recovery_by x)) (sym same) is
