-- An image whose files have small numbers opens with numbers left, if it opens: what is found there, and how a run over it begins.
use Rattle.std.proofs.Common.{◌≡◌, ◌⊎◌, ⊎_elim, inl, inr, ℕ, ◌+◌, ◌*◌, ◌<◌, ◌≤◌, List, [], ◌∷◌, ◌++◌, length, get_or}
use Rattle.std.proofs.Common.{Option, Some, None, Ok, true, false, refl, sym, ◌∙◌, ap, subst, arith}
use Rattle.std.specs.Prelude.{◌≢◌, ◌==◌, zero, suc, Bool, if◌then◌else◌, AllPairs, Contains, IsSome, IsTrue}
use Rattle.std.specs.FinMap.{get}
use Rattle.std.specs.Option.{option_map}
use Rattle.std.proofs.lemmas.Bool.{cases_lt}
use Rattle.std.proofs.lemmas.Bool.Decides.{nat_tests}
use Rattle.std.proofs.lemmas.List.Elements.{All-contains_itself, Contains-append_left, Contains-push, Contains-push_cases}
use Rattle.std.proofs.lemmas.List.Quantifiers.{all_pairs_push}
use Rattle.vl_disk.specs.Changes.{changed_elsewhere, changed_there}
use Rattle.vl_disk.specs.Crash.{Image, MayLeave, MayLeaveOne}
use Rattle.vl_disk.specs.DiskState.{DiskState, File, with_file}
use Rattle.vl_disk.specs.Faults.{after_calls}
use Rattle.vl_disk.specs.Name.{file_number, name_number, same_name}
use Rattle.vl_disk.specs.laws.NameMap.{same_or_other}
use Rattle.vl_disk.specs.Started.{IsRead, Started, read_left, started_left, started_read}
use Rattle.vl_disk.specs.declared.name.Name.{Name}
use Rattle.vl_disk.specs.declared.name.Name.TheVariants.{Log, Manifest, Table}
use Rattle.vl_disk.specs.declared.watched.Watched.{Ghosts}
use Rattle.vl_manifest.specs.declared.state.ManifestState.{ManifestState}
use Rattle.vl_model.specs.History.{History}
use Rattle.vl_model.specs.Limits.{max_file_number}
use Rattle.vl_model.specs.declared.counter.Counter.TheVariants as counters
use Rattle.vl_model.specs.declared.log_frame.LogFrame.{LogFrame}
use Rattle.vl_recover.specs.opening.Answers.{AreStrayNames, Finds, IsStrayName, calls_to_open, used_up}
use Rattle.vl_recover.specs.laws.opening.OneFinding.{opened_not}
use Rattle.vl_recover.specs.opening.Opening.{IsAmong, IsNamed, Opening, Opens, led_into}
use Rattle.vl_recover.specs.laws.opening.OpeningLaws.{opened, some_none}
use Rattle.vl_recover.specs.crash.Starts.{MayOpen}
use Rattle.vl_recover.specs.opening.Plans.{IsGreatest, log_behind, log_made, new_state, passes}
use Rattle.vl_recover.specs.opening.Walk.{StandingLog}
use Rattle.vl_script_model.specs.Opening.{IsRefused}
use Rattle.vl_script_model.specs.Reopens.{NamesUpTo, Reopens}
use Rattle.vl_script_model.specs.Start.{OpensUpTo, StartsIn}
use Rattle.vl_script_model.specs.laws.StartLaws.{past, reopened_store, starts_shown}
use Rattle.vl_script_model.specs.Stopped.{AreNumberedUpTo}
use Rattle.vl_engine_laws.specs.Shown.{Shown}
use Rattle.vl_script_model.specs.declared.fails.Refusal.{Refusal}
use Rattle.vl_script_model.specs.laws.Recovering.{refused_not}

-- ---- numbers

-- of what a crash leaves the names are among those of the disk
pub names_left : (n : ℕ) (disk : DiskState) (image : Image) → MayLeave disk image → AreNumberedUpTo n disk → NamesUpTo n image
names_left n disk image may numbered name there =
    of (get disk.standing name) (get disk.removed name) (get image name) refl refl (may name) there
  where
    of : (standing removed : Option File) (left : Option (List ℕ)) → get disk.standing name ≡ standing → get disk.removed name ≡ removed
        → MayLeaveOne standing removed left → left ≢ None → file_number name ≤ n
    of (Some file) removed left stands gone one some = numbered.standing name (λ none. some_none file (sym stands ∙ none))
    of None (Some file) left stands gone one some = numbered.removed name (λ none. some_none file (sym gone ∙ none))
    of None None None stands gone one some = absurd (some refl)
    of None None (Some bytes) stands gone one some = absurd one

-- they stay where a file is changed
pub numbered_changed : (n : ℕ) (name : Name) (change : File → File) (disk : DiskState) → AreNumberedUpTo n disk
    → AreNumberedUpTo n (with_file name change disk)
numbered_changed n name change disk numbered = record {
  standing = λ q there. numbered.standing q (λ none. there (⊎_elim
      (λ (same : q ≡ name). subst (λ (x : Name). get disk.standing x ≡ None → get (with_file name change disk).standing x ≡ None) (sym same)
      (λ (e : get disk.standing name ≡ None). changed_there name disk change ∙ ap (option_map change) e) none)
      (λ (other : q ≢ name). (changed_elsewhere name disk change).standing q other ∙ none)
      (same_or_other q name)));
  removed = numbered.removed;
}

module _ (n : ℕ) (fits : n + 2 ≤ max_file_number) where
  -- the log that would be made has a number
  passes_none : (state : ManifestState) (logs : List StandingLog) → state.head ≤ n + 1 → state.next_log ≤ n + 1
      → passes (log_made state logs) ≡ false
  passes_none state [] head next = grind (arith, nat_tests, fits, head, next)
  passes_none state (q ∷ []) head next = by q.reading.frames
    where
      by : (frames : List LogFrame) → passes (log_behind state frames) ≡ false
      by [] = refl
      by (f ∷ fs) = grind (arith, nat_tests, fits, next)
  passes_none state (q ∷ p ∷ ps) head next = passes_none state (p ∷ ps) head next

  module _ (image : Image) (names : NamesUpTo n image) where
    -- the greatest number of a kind is no greater
    greatest_within : (kind : ℕ → Name) → ((m : ℕ) → file_number (kind m) ≡ m) → (g : ℕ) → IsGreatest image kind g → g ≤ n
    greatest_within kind same g is = ⊎_elim
        (λ (none : g < 1). omega (arith, none))
        (λ (some : 1 ≤ g). subst (λ (m : ℕ). m ≤ n) (same g) (names (kind g) (is.stands some)))
        (cases_lt g 1)

    -- Where the manifest gives no number far above those of the files, numbers are left.
    pub numbers_left : (found : Finds image) → found.opening.state.head ≤ n + 1 → found.opening.state.next_log ≤ n + 1
        → used_up found ≡ None
    numbers_left found head next =
        let g = found.greatest in
        let state = found.opening.state in
        let log = greatest_within Log (λ m. refl) g.log found.are_greatest.log in
        let manifest = greatest_within Manifest (λ m. refl) g.manifest found.are_greatest.manifest in
        let made : passes (log_made (new_state g state) found.logs) ≡ false =
        passes_none (new_state g state) found.logs head (omega (arith, next, log)) in
        let below : (g.manifest == max_file_number) ≡ false = grind (arith, nat_tests, manifest, fits) in
        ap (λ (b : Bool). if b then Some counters.Log else (if g.manifest == max_file_number then Some counters.Manifest else None)) made
        ∙ ap (λ (b : Bool). if b then Some counters.Manifest else None) below

-- ---- what is found

-- where no number of a kind is above a bound, one of them is the greatest
greatest_to : (image : Image) (kind : ℕ → Name) (n : ℕ) → ((m : ℕ) → n < m → get image (kind m) ≡ None)
    → (g : ℕ) × IsGreatest image kind g
greatest_to image kind zero above = (0, record { none_above = above; stands = λ le. absurd (past le) })
greatest_to image kind (suc n) above = of (get image (kind (suc n))) refl (greatest_to image kind n)
  where
    of : (o : Option (List ℕ)) → get image (kind (suc n)) ≡ o
        → (((m : ℕ) → n < m → get image (kind m) ≡ None) → (g : ℕ) × IsGreatest image kind g) → (g : ℕ) × IsGreatest image kind g
    of (Some bytes) is lower = (suc n, record { none_above = above; stands = λ le none. some_none bytes (sym is ∙ none) })
    of None is lower = lower (λ m less. ⊎_elim
        (λ (more : suc n < m). above m more)
        (λ (le : m ≤ suc n). let same : suc n ≡ m = omega (arith, less, le) in subst (λ (k : ℕ). get image (kind k) ≡ None) same is)
        (cases_lt (suc n) m))

module _ (n : ℕ) (image : Image) (names : NamesUpTo n image) where
  -- so each kind has a greatest number
  greatest_of : (kind : ℕ → Name) → ((m : ℕ) → file_number (kind m) ≡ m) → (g : ℕ) × IsGreatest image kind g
  greatest_of kind same = greatest_to image kind n (λ m above. of m above (get image (kind m)) refl)
    where
      of : (m : ℕ) → n < m → (o : Option (List ℕ)) → get image (kind m) ≡ o → get image (kind m) ≡ None
      of m above None is = is
      of m above (Some bytes) is =
          let within = names (kind m) (λ none. some_none bytes (sym is ∙ none)) in
          absurd (omega (arith, above, within, same m))

  -- What an image that opens gives to be found.
  pub finds_by : (o : Opening) → Opens image (Ok o) → Finds image
  finds_by o opens =
      let is = opened image o opens in
      let log = greatest_of Log (λ m. refl) in
      let table = greatest_of Table (λ m. refl) in
      let manifest = greatest_of Manifest (λ m. refl) in
      record {
        opening = o;
        opens = opens;
        greatest = record { log = log.0; table = table.0; manifest = manifest.0 };
        are_greatest = record { log = log.1; table = table.1; manifest = manifest.1 };
        logs = is.standing;
        standing = is.stands;
      }

-- ---- its strays

-- each number is that of a name
named : (n : ℕ) → (name : Name) × (name_number name ≡ n)
named zero = (Log 0, omega arith)
named (suc n) = next (named n)
  where
    next : (name : Name) × (name_number name ≡ n) → (other : Name) × (name_number other ≡ suc n)
    next (Log m, is) = (Table m, omega (arith, is))
    next (Table m, is) = (Manifest m, omega (arith, is))
    next (Manifest m, is) = (Log (m + 1), omega (arith, is))

-- these are the names of a kind that are numbered below a bound, each once
record ArePicked (P : Name → Type 0) (n : ℕ) (names : List Name) : Type 0 where
  only : (name : Name) → Contains names name → (name_number name < n) × P name
  all : (name : Name) → name_number name < n → P name → Contains names name
  once : AllPairs (λ a b. a ≢ b) names

module _ (P : Name → Type 0) (decide : (name : Name) → P name ⊎ (P name → ⊥)) where
  -- they can be picked where the kind can be decided
  pick : (n : ℕ) → (names : List Name) × ArePicked P n names
  pick zero = (
    [],
    record {
      only = λ name among. absurd (let within = among.1 in omega (arith, within));
      all = λ name less. absurd (omega (arith, less));
      once = λ i j d below within. absurd (omega (arith, within));
    },
  )
  pick (suc n) = with_next (pick n) (named n)
    where
      with_next : (names : List Name) × ArePicked P n names → (name : Name) × (name_number name ≡ n)
          → (more : List Name) × ArePicked P (suc n) more
      with_next (names, picked) (x, is) = ⊎_elim taken left (decide x)
        where
          -- a name below the next number is below this one, or this one's
          low_or_here : (name : Name) → name_number name < suc n → (name_number name < n) ⊎ (x ≡ name)
          low_or_here name less = ⊎_elim
              (λ (low : name_number name < n). inl low)
              (λ (up : n ≤ name_number name). inr (same_name x name (omega (arith, less, up, is))))
              (cases_lt (name_number name) n)

          taken : P x → (more : List Name) × ArePicked P (suc n) more
          taken p = (
            names ++ x ∷ [],
            record {
              only = λ name among. ⊎_elim
                  (λ (old : Contains names name). let (less, q) = picked.only name old in (omega (arith, less), q))
                  (λ (e : x ≡ name). (let same = ap name_number e in omega (arith, same, is), subst P e p))
                  (Contains-push_cases names x name among);
              all = λ name less q. ⊎_elim
                  (λ (low : name_number name < n). Contains-append_left names (x ∷ []) name (picked.all name low q))
                  (λ (e : x ≡ name). subst (Contains (names ++ x ∷ [])) e (Contains-push names x))
                  (low_or_here name less);
              once = all_pairs_push (λ a b. a ≢ b) names x picked.once (λ k d less e.
                  let low = (picked.only (get_or names k d) (All-contains_itself names k d less)).0 in
                  let same = ap name_number e in
                  omega (arith, low, same, is));
            },
          )

          left : (P x → ⊥) → (more : List Name) × ArePicked P (suc n) more
          left not = (
            names,
            record {
              only = λ name among. (let (less, q) = picked.only name among in (omega (arith, less), q));
              all = λ name less q. ⊎_elim
                  (λ (low : name_number name < n). picked.all name low q)
                  (λ (e : x ≡ name). absurd (not (subst P (sym e) q)))
                  (low_or_here name less);
              once = picked.once;
            },
          )

-- whether it is one of these numbers, and whether a level names it
among_or_not : (ns : List ℕ) (n : ℕ) → IsAmong ns n ⊎ (IsAmong ns n → ⊥)
among_or_not [] n = inr (λ is. is)
among_or_not (m ∷ ms) n = ⊎_elim
    (λ (is : IsAmong ms n). inl (inr is))
    (λ (not : IsAmong ms n → ⊥). here not (m == n) refl)
    (among_or_not ms n)
  where
    here : (IsAmong ms n → ⊥) → (b : Bool) → (m == n) ≡ b → IsAmong (m ∷ ms) n ⊎ (IsAmong (m ∷ ms) n → ⊥)
    here other true is = let same : m ≡ n = grind (arith, nat_tests, is) in inl (inl same)
    here other false is = inr (λ among. ⊎_elim
        (λ (same : m ≡ n). absurd (let apart : (m ≡ n → ⊥) = grind (arith, nat_tests, is) in apart same))
        (λ (later : IsAmong ms n). other later)
        among)

named_or_not : (levels : List (List ℕ)) (n : ℕ) → IsNamed levels n ⊎ (IsNamed levels n → ⊥)
named_or_not [] n = inr (λ is. is)
named_or_not (ns ∷ levels) n = ⊎_elim
    (λ (is : IsAmong ns n). inl (inl is))
    (λ (not : IsAmong ns n → ⊥). ⊎_elim
    (λ (is : IsNamed levels n). inl (inr is))
    (λ (none : IsNamed levels n → ⊥). inr (λ named. ⊎_elim
    (λ (is : IsAmong ns n). not is)
    (λ (is : IsNamed levels n). none is)
    named))
    (named_or_not levels n))
    (among_or_not ns n)

module _ (n : ℕ) (image : Image) (names : NamesUpTo n image) (o : Opening) where
  -- the name of a file that the new manifest doesn't need
  abbrev IsStray : Name → Type 0
  IsStray name = IsSome (get image name) × IsStrayName o name

  not_none : (o : Option (List ℕ)) → IsSome o → o ≢ None
  not_none None some = λ e. cc
  not_none (Some bytes) some = some_none bytes

  stray_or_not : (name : Name) → IsStrayName o name ⊎ (IsStrayName o name → ⊥)
  stray_or_not (Log number) = ⊎_elim
      (λ (less : number < o.state.head). ⊎_elim
      (λ (is : IsAmong (led_into o.levels) number). inr (λ stray. stray.1 is))
      (λ (not : IsAmong (led_into o.levels) number → ⊥). inl (less, not))
      (among_or_not (led_into o.levels) number))
      (λ (le : o.state.head ≤ number). inr (λ stray. let less = stray.0 in omega (arith, less, le)))
      (cases_lt number o.state.head)
  stray_or_not (Table number) = ⊎_elim
      (λ (is : IsNamed o.state.levels number). inr (λ stray. stray is))
      (λ (not : IsNamed o.state.levels number → ⊥). inl not)
      (named_or_not o.state.levels number)
  stray_or_not (Manifest number) = inl tt

  decide_stray : (name : Name) → IsStray name ⊎ (IsStray name → ⊥)
  decide_stray name = of (get image name) refl
    where
      of : (o : Option (List ℕ)) → get image name ≡ o → IsStray name ⊎ (IsStray name → ⊥)
      of None is = inr (λ stray. not_none (get image name) stray.0 is)
      of (Some bytes) is = ⊎_elim
          (λ (yes : IsStrayName o name). inl (subst IsSome (sym is) refl, yes))
          (λ (no : IsStrayName o name → ⊥). inr (λ stray. no stray.1))
          (stray_or_not name)

  numbered_within : (name : Name) → file_number name ≤ n → name_number name < 3 * n + 3
  numbered_within (Log m) le = omega (arith, le)
  numbered_within (Table m) le = omega (arith, le)
  numbered_within (Manifest m) le = omega (arith, le)

  -- Its strays are these.
  pub strays_by : (strays : List Name) × AreStrayNames image o strays
  strays_by =
      let (strays, picked) = pick IsStray decide_stray (3 * n + 3) in (
        strays,
        record {
          all = λ name. (
            λ among. (picked.only name among).1,
            λ stray. picked.all name (numbered_within name (names name (not_none (get image name) stray.0))) stray,
          );
          once = picked.once;
        },
      )

-- ---- it opens again

-- An image that shows a history and leaves numbers to each finding opens with what is found.
pub reopens_by : (n : ℕ) (image : Image) → NamesUpTo n image → (h : History) (m : ℕ) → Shown image h m
    → ((found : Finds image) → used_up found ≡ None) → Reopens image h m
reopens_by n image names h m shown left =
    let found = finds_by n image names shown.opening shown.opens in
    let strays = strays_by n image names found.opening in
    record {
      shown = shown;
      found = found;
      unused = left found;
      strays = strays.0;
      are_strays = strays.1;
    }

module _ {D : Type 0} (g : Ghosts D) (disk : D) (image : Image) (state : DiskState) (h : History) (m : ℕ)
    (told : g.told disk ≡ Some state) (started : Started image state) (again : Reopens image h m) where
  -- A run over the disk that is started from it begins with what the history has at its number,
  pub reopens_starts : (files : ℕ) → OpensUpTo files state again.found → (openable : Bool) → (IsTrue openable → MayOpen state)
      → StartsIn g disk (reopened_store again.found h m again.shown
      (after_calls (calls_to_open again.found (length again.strays)) (g.calls disk)) files openable)
  reopens_starts files up_to openable may_open = starts_shown g disk state image again.found again.strays h m files told
      (started_read image state started)
      again.unused again.are_strays again.shown up_to openable may_open

  -- and isn't refused.
  pub reopens_not_refused : (read : Image) → IsRead read state → (refusal : Refusal) → IsRefused read refusal → ⊥
  reopens_not_refused read is_read refusal refused =
      let same : read ≡ image = started_left image state started read (read_left read state is_read) in
      opened_not image again.found again.unused
      (refused_not image refusal (subst (λ (i : Image). IsRefused i refusal) same refused))
