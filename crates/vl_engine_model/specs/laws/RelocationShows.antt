-- Moved records in front of the sources show what they showed where they stood.
use Rattle.std.proofs.Common.{◌≡◌, ℕ, ◌+◌, ◌≤◌, Bool, true, false, cond, ◌&&◌, ◌||◌, List, [], ◌∷◌, refl, ap, sym, ◌∙◌, subst, arith}
use Rattle.std.proofs.lemmas.Bool.{and_parts}
use Rattle.std.proofs.lemmas.Bool.Decides.{nat_tests}
use Rattle.std.specs.Prelude.{Option, Some, None, nat_le}
use Rattle.std.specs.List.{AllByRecursion, list_any}
use Rattle.std.specs.Ordering.{eq_by_cmp}
use Rattle.vl_model.specs.Keys.{Stored, key_cmp}
use Rattle.vl_model.specs.History.{History}
use Rattle.vl_model.specs.Entries.{is_at}
use Rattle.vl_model.specs.Winners.{Logs, counts, only_if, newest_of, winner, resolved, resolved_at}
use Rattle.vl_model.specs.laws.WinnerLaws.{same_key}
use Rattle.vl_model.specs.declared.entry.Entry.{Entry}
use Rattle.vl_engine_model.specs.Shows.{Shows, Means, times}

module _ (key : List ℕ) (number : ℕ) where
  -- a winner, of a version of at least this one, and of which something holds that holds of all
  -- entries
  abbrev pub Reaches : (Entry → Type 0) → ℕ → Option Entry → Type 0
  Reaches P version None = ⊥
  Reaches P version (Some g) = (version ≤ g.version) × (counts key number g ≡ true) × P g

  -- a winner of which something holds, where there is one
  abbrev pub Has : (Entry → Type 0) → Option Entry → Type 0
  Has P None = Unit {0}
  Has P (Some g) = (counts key number g ≡ true) × P g

  either_has : (P : Entry → Type 0) (f : Entry) (c : Bool) (w : Option Entry)
      → counts key number f ≡ c → P f → Has P w → Has P (newest_of (only_if c f) w)
  either_has P f false w is p has = has
  either_has P f true None is p has = (is, p)
  either_has P f true (Some g) is p has = elim (nat_le g.version f.version) as (λ b. Has P (cond b (Some f) (Some g)))
      [ true ↦ (is, p) | false ↦ has ]

  pub winner_has : (P : Entry → Type 0) (es : List Entry) → AllByRecursion P es
      → Has P (winner es key number)
  winner_has P [] all = tt
  winner_has P (f ∷ fs) all = either_has P f (counts key number f) (winner fs key number) refl all.0 (winner_has P fs all.1)

  first_reaches : (P : Entry → Type 0) (version : ℕ) (f : Entry) (w : Option Entry)
      → version ≤ f.version → counts key number f ≡ true → P f → Has P w
      → Reaches P version (newest_of (Some f) w)
  first_reaches P version f None le is p has = (le, is, p)
  first_reaches P version f (Some g) le is p has =
      elim (nat_le g.version f.version) as (λ b. nat_le g.version f.version ≡ b → Reaches P version (cond b (Some f) (Some g))) [
        | true ↦ λ t. (le, is, p)
        | false ↦ λ t. let less : version ≤ g.version = grind (arith, nat_tests) in (less, has.0, has.1)
      ] refl

  later_reaches : (P : Entry → Type 0) (version : ℕ) (f : Entry) (c : Bool) (w : Option Entry)
      → counts key number f ≡ c → P f → Reaches P version w
      → Reaches P version (newest_of (only_if c f) w)
  later_reaches P version f false w is p reached = reached
  later_reaches P version f true None is p reached = absurd reached
  later_reaches P version f true (Some g) is p reached =
      elim (nat_le g.version f.version) as (λ b. nat_le g.version f.version ≡ b → Reaches P version (cond b (Some f) (Some g))) [
        | true ↦ λ t. let at_least = reached.0 in let less : version ≤ f.version = grind (arith, nat_tests) in (less, is, p)
        | false ↦ λ t. reached
      ] refl

  -- where an entry counts there is a winner of at least its version
  pub winner_reaches : (P : Entry → Type 0) (at : List ℕ) (version : ℕ) (es : List Entry)
      → (eq_by_cmp key_cmp key at && nat_le version number) ≡ true
      → list_any (is_at at version) es ≡ true → AllByRecursion P es
      → Reaches P version (winner es key number)
  winner_reaches P at version [] counted there all = absurd cc
  winner_reaches P at version (f ∷ fs) counted there all =
      by_test (is_at at version f) refl (λ later. winner_reaches P at version fs counted later all.1)
    where
      by_test : (b : Bool) → is_at at version f ≡ b
          → (list_any (is_at at version) fs ≡ true → Reaches P version (winner fs key number))
          → Reaches P version (newest_of (only_if (counts key number f) f) (winner fs key number))
      by_test false is later =
          later_reaches P version f (counts key number f) (winner fs key number) refl all.0
          (later (sym (ap (λ b. b || list_any (is_at at version) fs) is) ∙ there))
      by_test true is later =
          let both = and_parts _ _ is in
          let keys : at ≡ f.key = same_key at f.key both.0 in
          let versions : f.version ≡ version = grind (arith, nat_tests, both.1) in
          let counts_f : counts key number f ≡ true = ap (λ k. eq_by_cmp key_cmp key k && nat_le f.version number)
          (sym keys) ∙ ap (λ v. eq_by_cmp key_cmp key at && nat_le v number) versions ∙ counted in
          subst (λ b. Reaches P version (newest_of (only_if b f) (winner fs key number))) (sym counts_f)
          (first_reaches P version f (winner fs key number) (omega (arith, versions)) counts_f all.0 (winner_has P fs all.1))

not_none : (value : Stored) → Some value ≡ None → ⊥
not_none value is = cc

module _ (logs : Logs) (h : History) (from : List ℕ → ℕ) (to : ℕ) where
  -- Where the sources have an entry of its key and version, one more that leads to the same value
  -- shows the same in front, and each version means what it meant.
  pub shows_moved : (e : Entry) (es : List Entry) (value : Stored) (shows : Shows logs es h from to)
      → list_any (is_at e.key e.version) es ≡ true → resolved logs e.key e.body ≡ Some (Some value)
      → shows.meaning e.key e.version ≡ Some value
      → (shown : Shows logs (e ∷ es) h from to) × (shown.meaning ≡ shows.meaning)
  shows_moved e es value shows there leads means = (
    record {
      values = λ key number low high. front key number (counts key number e) refl ∙ shows.values key number low high;
      meaning = shows.meaning;
      resolves = (leads ∙ ap Some (sym means), shows.resolves);
      gone_once = λ key version none. once key version none (is_at key version e) refl;
    },
    refl,
  )
    where
      by_version : (key : List ℕ) (number : ℕ) → counts key number e ≡ true → (w : Option Entry)
          → Reaches key number (Means logs shows.meaning) e.version w
          → resolved_at logs (newest_of (Some e) w) ≡ resolved_at logs w
      by_version key number counted None reached = absurd reached
      by_version key number counted (Some g) reached =
          elim (nat_le g.version e.version) as
          (λ b. nat_le g.version e.version ≡ b → resolved_at logs (cond b (Some e) (Some g)) ≡ resolved_at logs (Some g)) [
            | true ↦ λ le.
                let at_least = reached.0 in
                let versions : g.version ≡ e.version = grind (arith, nat_tests) in
                let keys : g.key ≡ e.key = sym (same_key key g.key (and_parts _ _ reached.1).0)
                ∙ same_key key e.key (and_parts _ _ counted).0 in
                leads ∙ ap Some (sym means)
                ∙ sym (reached.2 ∙ ap Some (ap (λ k. shows.meaning k g.version) keys ∙ ap (shows.meaning e.key) versions))
            | false ↦ λ less. refl
          ] refl

      front : (key : List ℕ) (number : ℕ) (c : Bool) → counts key number e ≡ c
          → resolved_at logs (newest_of (only_if (counts key number e) e) (winner es key number)) ≡ resolved_at logs (winner es key number)
      front key number false is = ap (λ b. resolved_at logs (newest_of (only_if b e) (winner es key number))) is
      front key number true is =
          let keys : key ≡ e.key = same_key key e.key (and_parts _ _ is).0 in
          ap (λ b. resolved_at logs (newest_of (only_if b e) (winner es key number))) is
          ∙ by_version key number is (winner es key number)
          (winner_reaches key number (Means logs shows.meaning) e.key e.version es is there shows.resolves)

      once : (key : List ℕ) (version : ℕ) → shows.meaning key version ≡ None → (b : Bool)
          → is_at key version e ≡ b → times key version (e ∷ es) ≤ 1
      once key version none false is = subst (λ b. cond b 1 0 + times key version es ≤ 1) (sym is)
          (let few = shows.gone_once key version none in omega (arith, few))
      once key version none true is =
          let both = and_parts _ _ is in
          let keys : key ≡ e.key = same_key key e.key both.0 in
          let versions : e.version ≡ version = grind (arith, nat_tests, both.1) in
          absurd (not_none value (sym means ∙ ap (λ k. shows.meaning k e.version) (sym keys) ∙ ap (shows.meaning key) versions ∙ none))
