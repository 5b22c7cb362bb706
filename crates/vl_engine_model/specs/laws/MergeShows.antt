-- What a merge that keeps so many versions leaves of the sources shows what they showed, also from below its
-- floor, and also where it is put in their place later than it was planned.
use Rattle.std.proofs.Common.{◌≡◌, ◌⊎◌, inl, inr, ⊎_elim, ℕ, ◌≤◌, ◌<◌, Bool, true, false, not, ◌&&◌, ◌||◌, List, []}
use Rattle.std.proofs.Common.{◌∷◌, refl, ap, sym, ◌∙◌, subst, arith}
use Rattle.std.proofs.lemmas.Bool.{and_parts, and_from, cases_Bool, cases_lt}
use Rattle.std.proofs.lemmas.Bool.Decides.{nat_tests}
use Rattle.std.specs.Prelude.{Option, Some, None, nat_le, nat_lt, ◌==◌}
use Rattle.std.specs.List.{AllByRecursion, list_any}
use Rattle.std.specs.Ordering.{eq_by_cmp, is_eq}
use Rattle.vl_model.specs.Keys.{key_cmp}
use Rattle.vl_model.specs.History.{History}
use Rattle.vl_model.specs.Entries.{is_at, is_gone}
use Rattle.vl_model.specs.Winners.{Logs, counts, winner, resolved, resolved_at}
use Rattle.vl_model.specs.laws.WinnerLaws.{same_key, key_tied}
use Rattle.vl_model.specs.declared.entry.Entry.{Entry}
use Rattle.vl_model.specs.declared.entry.Body.{Body}
use Rattle.vl_model.specs.declared.entry.Body.TheVariants.{Inline, Gone, Far, Logged}
use Rattle.vl_engine_model.specs.Merging.{Sourced, if_so, inputs_of, outside_of, is_shadowed, is_below, is_outdated}
use Rattle.vl_engine_model.specs.Merging.{is_needless_one, is_needless, is_dropped}
use Rattle.vl_engine_model.specs.laws.RelocationShows.{Has, Reaches, winner_has, winner_reaches}
use Rattle.vl_engine_model.specs.Shows.{Shows, Meaning, Means, times}
use Rattle.vl_engine_model.specs.laws.ShowsLaws.{shows_as, is_at-itself}
use Rattle.vl_engine_model.specs.Marks.{Marked, all_of, kept_of, marked_inputs, marked_outside, plain, marks_from, marks}
use Rattle.vl_engine_model.specs.Marks.{IsJustified, AreJustified, IsPast}

-- ---- one of them

pub true_false : true ≡ false → ⊥
true_false is = cc

-- a test that it passes is passed by one of these
abbrev pub IsIn : List Entry → Entry → Type 0
IsIn es e = (p : Entry → Bool) → p e ≡ true → list_any p es ≡ true

any_later : (p : Entry → Bool) (e : Entry) (es : List Entry) → list_any p es ≡ true
    → list_any p (e ∷ es) ≡ true
any_later p e es later = elim (p e) as (λ b. (b || list_any p es) ≡ true) [ true ↦ refl | false ↦ later ]

all_later : (e : Entry) (es fs : List Entry) → AllByRecursion (IsIn es) fs
    → AllByRecursion (IsIn (e ∷ es)) fs
all_later e es [] all = tt
all_later e es (f ∷ fs) all = ((λ p passes. any_later p e es (all.0 p passes)), all_later e es fs all.1)

pub members : (es : List Entry) → AllByRecursion (IsIn es) es
members [] = tt
members (e ∷ es) = ((λ p passes. ap (λ b. b || list_any p es) passes), all_later e es es (members es))

pub or_cases : (a b : Bool) → (a || b) ≡ true → (a ≡ true) ⊎ (b ≡ true)
or_cases true b h = inl refl
or_cases false b h = inr h

or_false : (a b : Bool) → (a || b) ≡ false → (a ≡ false) × (b ≡ false)
or_false true b h = absurd (true_false h)
or_false false b h = (refl, h)

not_true : (b : Bool) → not b ≡ true → b ≡ false
not_true true h = absurd (true_false (sym h))
not_true false h = refl

-- where a test is passed, one of them passes it, of which all is so that is so of all
pub picked : (P : Entry → Type 0) (p : Entry → Bool) (es : List Entry) → AllByRecursion P es
    → list_any p es ≡ true → (f : Entry) × (p f ≡ true) × P f
picked P p [] all h = absurd (true_false (sym h))
picked P p (e ∷ es) all h = ⊎_elim (λ (here : p e ≡ true). (e, here, all.0))
    (λ (later : list_any p es ≡ true). picked P p es all.1 later) (or_cases (p e) (list_any p es) h)

-- ---- parts of the marked entries

all_if_so : (P : Entry → Type 0) (b : Bool) (e : Entry) (es : List Entry) → P e
    → AllByRecursion P es → AllByRecursion P (if_so b e es)
all_if_so P true e es here all = (here, all)
all_if_so P false e es here all = all

pub of_kept : (P : Entry → Type 0) (ms : List Marked) → AllByRecursion P (all_of ms)
    → AllByRecursion P (kept_of ms)
of_kept P [] all = tt
of_kept P (m ∷ ms) all = all_if_so P m.kept m.entry (kept_of ms) all.0 (of_kept P ms all.1)

pub of_inputs : (P : Entry → Type 0) (ms : List Marked) → AllByRecursion P (all_of ms)
    → AllByRecursion P (marked_inputs ms)
of_inputs P [] all = tt
of_inputs P (m ∷ ms) all = all_if_so P m.input m.entry (marked_inputs ms) all.0 (of_inputs P ms all.1)

times_if_so : (key : List ℕ) (version : ℕ) (b : Bool) (e : Entry) (es fs : List Entry)
    → times key version es ≤ times key version fs
    → times key version (if_so b e es) ≤ times key version (e ∷ fs)
times_if_so key version true e es fs less = omega (arith, less)
times_if_so key version false e es fs less = omega (arith, less)

times-kept : (key : List ℕ) (version : ℕ) (ms : List Marked)
    → times key version (kept_of ms) ≤ times key version (all_of ms)
times-kept key version [] = omega arith
times-kept key version (m ∷ ms) = times_if_so key version m.kept m.entry (kept_of ms) (all_of ms) (times-kept key version ms)

pub head_input : (inputs : List Entry) (m : Marked) (ms : List Marked)
    → AllByRecursion (IsIn inputs) (marked_inputs (m ∷ ms))
    → (m.input ≡ true → IsIn inputs m.entry) × AllByRecursion (IsIn inputs) (marked_inputs ms)
head_input inputs m ms = by_test m.input
  where
    by_test : (b : Bool) → AllByRecursion (IsIn inputs) (if_so b m.entry (marked_inputs ms))
        → (b ≡ true → IsIn inputs m.entry) × AllByRecursion (IsIn inputs) (marked_inputs ms)
    by_test true all = ((λ is. all.0), all.1)
    by_test false all = ((λ is. absurd (true_false (sym is))), all)

head_outside : (outside : List Entry) (m : Marked) (ms : List Marked)
    → AllByRecursion (IsIn outside) (marked_outside (m ∷ ms))
    → (m.input ≡ false → IsIn outside m.entry) × AllByRecursion (IsIn outside) (marked_outside ms)
head_outside outside m ms = by_test m.input
  where
    by_test : (b : Bool) → AllByRecursion (IsIn outside) (if_so (not b) m.entry (marked_outside ms))
        → (b ≡ false → IsIn outside m.entry) × AllByRecursion (IsIn outside) (marked_outside ms)
    by_test true all = ((λ is. absurd (true_false is)), all)
    by_test false all = ((λ is. all.0), all.1)

module _ (keep : ℕ) (inputs outside : List Entry) (floor : ℕ) where
  -- ---- why an entry went

  abbrev pub Reason : Entry → Type 0
  Reason e = IsIn inputs e × ((is_outdated keep inputs floor e ≡ true) ⊎ (is_needless keep outside floor e ≡ true))

  -- where no entry of a key and version is kept, the first of them was dropped by the second or the
  -- third rule
  pub first_dropped : (key : List ℕ) (version : ℕ) (newer : List Entry) (ms : List Marked)
      → AreJustified keep inputs outside floor newer ms → AllByRecursion (IsIn inputs) (marked_inputs ms)
      → list_any (is_at key version) newer ≡ false → list_any (is_at key version) (all_of ms) ≡ true
      → list_any (is_at key version) (kept_of ms) ≡ false
      → (e : Entry) × (is_at key version e ≡ true) × Reason e
  first_dropped key version newer [] j within none there gone = absurd (true_false (sym there))
  first_dropped key version newer (m ∷ ms) j within none there gone =
      by_tests (is_at key version m.entry) m.kept refl refl
      (λ apart later left. first_dropped key version (m.entry ∷ newer) ms j.1 (head_input inputs m ms within).1
      (ap (λ b. b || list_any (is_at key version) newer) apart ∙ none) later left)
    where
      Found : Type 0
      Found = (e : Entry) × (is_at key version e ≡ true) × Reason e

      here : is_at key version m.entry ≡ true → m.kept ≡ false
          → (e : Entry) × (is_at key version e ≡ true) × Reason e
      here at dropped =
          let both = j.0.drops dropped in
          let parts = and_parts _ _ at in
          let keys : m.entry.key ≡ key = sym (same_key key m.entry.key parts.0) in
          let versions : m.entry.version ≡ version = grind (arith, nat_tests, parts.1) in
          let unshadowed : is_shadowed newer m.entry ≡ false = ap (λ k. list_any (is_at k m.entry.version) newer) keys
          ∙ ap (λ v. list_any (is_at key v) newer) versions ∙ none in
          let others = ⊎_elim
          (λ (shadowed : is_shadowed newer m.entry ≡ true). absurd (true_false (sym shadowed ∙ unshadowed)))
          (λ (rules : (is_outdated keep inputs floor m.entry || is_needless keep outside floor m.entry) ≡ true).
          or_cases (is_outdated keep inputs floor m.entry) (is_needless keep outside floor m.entry) rules)
          (or_cases (is_shadowed newer m.entry) (is_outdated keep inputs floor m.entry || is_needless keep outside floor m.entry) both.1) in
          (m.entry, at, ((head_input inputs m ms within).0 both.0, others))

      by_tests : (a k : Bool) → is_at key version m.entry ≡ a → m.kept ≡ k
          → (is_at key version m.entry ≡ false → list_any (is_at key version) (all_of ms) ≡ true
          → list_any (is_at key version) (kept_of ms) ≡ false → (e : Entry) × (is_at key version e ≡ true) × Reason e)
          → (e : Entry) × (is_at key version e ≡ true) × Reason e
      by_tests true false at keep rest = here at keep
      by_tests true true at keep rest =
          absurd (true_false (sym (ap (λ b. b || list_any (is_at key version) (kept_of ms)) at)
          ∙ ap (λ k. list_any (is_at key version) (if_so k m.entry (kept_of ms))) (sym keep) ∙ gone))
      by_tests false true at keep rest =
          rest at (sym (ap (λ b. b || list_any (is_at key version) (all_of ms)) at) ∙ there)
          (sym (ap (λ b. b || list_any (is_at key version) (kept_of ms)) at)
          ∙ ap (λ k. list_any (is_at key version) (if_so k m.entry (kept_of ms))) (sym keep) ∙ gone)
      by_tests false false at keep rest =
          rest at (sym (ap (λ b. b || list_any (is_at key version) (all_of ms)) at) ∙ there)
          (ap (λ k. list_any (is_at key version) (if_so k m.entry (kept_of ms))) (sym keep) ∙ gone)

  -- ---- what is kept

  abbrev pub IsKept : Entry → Type 0
  IsKept e = (is_outdated keep inputs floor e ≡ false) ⊎ IsIn outside e

  kept_one : (newer : List Entry) (m : Marked) → IsJustified keep inputs outside floor newer m
      → (m.input ≡ false → IsIn outside m.entry) → m.kept ≡ true → IsKept m.entry
  kept_one newer m j out keep = ⊎_elim (λ (input : m.input ≡ true). inl (j.keeps keep input))
      (λ (other : m.input ≡ false). inr (out other)) (cases_Bool m.input)

  all_kept : (newer : List Entry) (ms : List Marked) → AreJustified keep inputs outside floor newer ms
      → AllByRecursion (IsIn outside) (marked_outside ms) → AllByRecursion IsKept (kept_of ms)
  all_kept newer [] j within = tt
  all_kept newer (m ∷ ms) j within =
      let all = head_outside outside m ms within in
      let later = all_kept (m.entry ∷ newer) ms j.1 all.1 in
      elim (m.kept) as (λ b. m.kept ≡ b → AllByRecursion IsKept (if_so b m.entry (kept_of ms))) [
        | true ↦ λ keep. (kept_one newer m j.0 all.0 keep, later)
        | false ↦ λ keep. later
      ] refl

-- ---- the same is shown

gone_leads : (logs : Logs) (key : List ℕ) (body : Body) → is_gone body ≡ true
    → resolved logs key body ≡ Some None
gone_leads logs key (Inline value) h = absurd (true_false (sym h))
gone_leads logs key Gone h = refl
gone_leads logs key (Far pointer) h = absurd (true_false (sym h))
gone_leads logs key (Logged value pointer) h = absurd (true_false (sym h))

all_pairs : (P Q : Entry → Type 0) (es : List Entry) → AllByRecursion P es → AllByRecursion Q es
    → AllByRecursion (λ e. P e × Q e) es
all_pairs P Q [] p q = tt
all_pairs P Q (e ∷ es) p q = ((p.0, q.0), all_pairs P Q es p.1 q.1)

tied_itself : (key : List ℕ) → eq_by_cmp key_cmp key key ≡ true
tied_itself key = ap is_eq (key_tied key)

-- a winner is of the key, and of a version of at most the number
pub counts_parts : (key : List ℕ) (number : ℕ) (e : Entry) → counts key number e ≡ true
    → (key ≡ e.key) × (e.version ≤ number)
counts_parts key number e counted =
    let both = and_parts _ _ counted in
    let le : e.version ≤ number = grind (arith, nat_tests, both.1) in
    (same_key key e.key both.0, le)

module _ (keep : ℕ) (logs : Logs) (meaning : Meaning) (ms : List Marked) (floor : ℕ)
    (resolves : AllByRecursion (Means logs meaning) (all_of ms))
    (justified : AreJustified keep (marked_inputs ms) (marked_outside ms) floor [] ms) (key : List ℕ) (number : ℕ)
    (past : IsPast keep (marked_inputs ms) floor key number) where
  -- some entry of this key and version counts, so the winner is of at least that version
  reaches : (f : Entry) → counts key number f ≡ true → IsIn (all_of ms) f
      → Reaches key number (Means logs meaning) f.version (winner (all_of ms) key number)
  reaches f counted within =
      let parts = counts_parts key number f counted in
      winner_reaches key number (Means logs meaning) f.key f.version (all_of ms)
      (ap (λ (k : List ℕ). eq_by_cmp key_cmp key k && nat_le f.version number) refl ∙ counted)
      (within (is_at f.key f.version) (is_at-itself f)) resolves

  -- the version of the winner of all
  IsWon : Entry → Type 0
  IsWon e = winner (all_of ms) key number ≡ Some e

  won_at_most : (e f : Entry) → winner (all_of ms) key number ≡ Some e → counts key number f ≡ true
      → IsIn (all_of ms) f → f.version ≤ e.version
  won_at_most e f won counted within = (subst (Reaches key number (Means logs meaning) f.version) won (reaches f counted within)).0

  won_has : (e : Entry) → winner (all_of ms) key number ≡ Some e
      → (counts key number e ≡ true) × Means logs meaning e
  won_has e won = subst (Has key number (Means logs meaning)) won (winner_has key number (Means logs meaning) (all_of ms) resolves)

  -- a test that the winner passes is passed by one of all
  in_winner : (p : Entry → Bool) → (e : Entry) → p e ≡ true → winner (all_of ms) key number ≡ Some e
      → list_any p (all_of ms) ≡ true
  in_winner p e passes won =
      (subst (Has key number (IsIn (all_of ms))) won (winner_has key number (IsIn (all_of ms)) (all_of ms) (members (all_of ms)))).1 p passes

  -- what is so of the winner of those kept
  Left : Entry → Type 0
  Left g = IsKept keep (marked_inputs ms) (marked_outside ms) floor g × (Means logs meaning g × (IsIn (all_of ms) g × IsIn (kept_of ms) g))

  left_all : AllByRecursion Left (kept_of ms)
  unfolding Left
  left_all =
      all_pairs (IsKept keep (marked_inputs ms) (marked_outside ms) floor)
      (λ g. Means logs meaning g × (IsIn (all_of ms) g × IsIn (kept_of ms) g)) (kept_of ms)
      (all_kept keep (marked_inputs ms) (marked_outside ms) floor [] ms justified (members (marked_outside ms)))
      (all_pairs (Means logs meaning) (λ g. IsIn (all_of ms) g × IsIn (kept_of ms) g) (kept_of ms)
      (of_kept (Means logs meaning) ms resolves)
      (all_pairs (IsIn (all_of ms)) (IsIn (kept_of ms)) (kept_of ms)
      (of_kept (IsIn (all_of ms)) ms (members (all_of ms))) (members (kept_of ms))))

  -- the winner isn't outdated: what makes it so would be newer
  not_outdated : (won e : Entry) → winner (all_of ms) key number ≡ Some won → e.key ≡ key
      → e.version ≡ won.version → is_outdated keep (marked_inputs ms) floor e ≡ true → ⊥
  not_outdated won e is keys versions outdated =
      let f = picked (IsIn (all_of ms)) (λ (g : Entry). counts key number g && nat_lt e.version g.version)
      (marked_inputs ms) (of_inputs (IsIn (all_of ms)) ms (members (all_of ms))) (past.outdates e keys outdated) in
      let both = and_parts (counts key number f.0) (nat_lt e.version f.0.version) f.1 in
      let most : f.0.version ≤ won.version = won_at_most won f.0 is both.0 f.2 in
      let more : e.version < f.0.version = grind (arith, nat_tests, both.1) in
      omega (arith, most, more, versions)

  -- a kept entry below a needless deletion would make it needed, or be outdated by it
  none_below : (e g : Entry) → e.key ≡ key → counts key number g ≡ true → g.version < e.version
      → IsIn (marked_inputs ms) e → is_needless keep (marked_outside ms) floor e ≡ true
      → IsKept keep (marked_inputs ms) (marked_outside ms) floor g → ⊥
  none_below e g keys counted less within needless kept =
      let first = and_parts (keep == 1) (is_needless_one (marked_outside ms) floor e) needless in
      let one : keep ≡ 1 = grind (arith, nat_tests, first.0) in
      let gone = and_parts (is_gone e.body) (nat_le e.version floor && not (list_any (is_below e) (marked_outside ms))) first.1 in
      let more = and_parts (nat_le e.version floor) (not (list_any (is_below e) (marked_outside ms))) gone.1 in
      let of_g : key ≡ g.key = (counts_parts key number g counted).0 in
      let lt : nat_lt g.version e.version ≡ true = grind (arith, nat_tests) in
      ⊎_elim
      (λ (fresh : is_outdated keep (marked_inputs ms) floor g ≡ false).
      let tied : eq_by_cmp key_cmp g.key e.key ≡ true = ap (λ k. eq_by_cmp key_cmp k e.key) (sym of_g ∙ sym keys)
      ∙ (and_parts _ _ (is_at-itself e)).0 in
      let passes : (counts g.key floor e && nat_lt g.version e.version) ≡ true = and_from (counts g.key floor e)
      (nat_lt g.version e.version) (and_from (eq_by_cmp key_cmp g.key e.key) (nat_le e.version floor) tied more.0) lt in
      true_false (sym (within (λ (f : Entry). counts g.key floor f && nat_lt g.version f.version) passes)
      ∙ subst (λ (k : ℕ). is_outdated k (marked_inputs ms) floor g ≡ false) one fresh))
      (λ (out : IsIn (marked_outside ms) g).
      let tied : eq_by_cmp key_cmp e.key g.key ≡ true = ap (λ k. eq_by_cmp key_cmp k g.key) keys ∙ (and_parts _ _ counted).0 in
      true_false (sym (out (is_below e) (and_from (eq_by_cmp key_cmp e.key g.key) (nat_lt g.version e.version) tied lt))
      ∙ not_true (list_any (is_below e) (marked_outside ms)) more.1))
      kept

  -- an entry of the winner's key and version is kept: it leads to the same
  same_version : (won : Entry) → winner (all_of ms) key number ≡ Some won → (w : Option Entry)
      → Has key number Left w → Reaches key number (Means logs meaning) won.version w
      → resolved_at logs w ≡ resolved_at logs (Some won)
  unfolding Left
  same_version won is None has reached = absurd reached
  same_version won is (Some g) has reached =
      let least = reached.0 in
      let most : g.version ≤ won.version = won_at_most won g is has.0 has.1.1.1.0 in
      let of_won = won_has won is in
      let versions : g.version ≡ won.version = omega (arith, least, most) in
      let keys : g.key ≡ won.key = sym (counts_parts key number g has.0).0 ∙ (counts_parts key number won of_won.0).0 in
      reached.2 ∙ ap Some (ap (λ k. meaning k g.version) keys ∙ ap (meaning won.key) versions) ∙ sym of_won.1

  -- none is kept, so that it was a needless deletion, below which nothing is kept
  none_kept : (won : Entry) → winner (all_of ms) key number ≡ Some won → (e : Entry)
      → is_at key won.version e ≡ true → Reason keep (marked_inputs ms) (marked_outside ms) floor e
      → list_any (is_at key won.version) (kept_of ms) ≡ false
      → (w : Option Entry) → Has key number Left w
      → resolved_at logs w ≡ resolved_at logs (Some won)
  unfolding Left
  none_kept won is e at reason gone w has = ⊎_elim
      (λ (outdated : is_outdated keep (marked_inputs ms) floor e ≡ true). absurd (not_outdated won e is keys versions outdated))
      (λ (needless : is_needless keep (marked_outside ms) floor e ≡ true). by_winner needless w has)
      reason.1
    where
      keys : e.key ≡ key
      keys = sym (same_key key e.key (and_parts _ _ at).0)

      versions : e.version ≡ won.version
      versions = let both = and_parts (eq_by_cmp key_cmp key e.key) (e.version == won.version) at in grind (arith, nat_tests, both.1)

      of_won : (counts key number won ≡ true) × Means logs meaning won
      of_won = won_has won is

      -- that version is a deletion's
      meant_none : is_needless keep (marked_outside ms) floor e ≡ true
          → Some (meaning key won.version) ≡ Some None
      meant_none needless =
          let gone_body : is_gone e.body ≡ true =
          (and_parts (is_gone e.body) (nat_le e.version floor && not (list_any (is_below e) (marked_outside ms)))
          (and_parts (keep == 1) (is_needless_one (marked_outside ms) floor e) needless).1).0 in
          let passes : (is_at key won.version e && is_gone e.body) ≡ true = and_from (is_at key won.version e)
          (is_gone e.body) at gone_body in
          let f = picked (Means logs meaning) (λ (g : Entry). is_at key won.version g && is_gone g.body)
          (marked_inputs ms) (of_inputs (Means logs meaning) ms resolves)
          (reason.0 (λ (g : Entry). is_at key won.version g && is_gone g.body) passes) in
          let both = and_parts (is_at key won.version f.0) (is_gone f.0.body) f.1 in
          let parts = and_parts (eq_by_cmp key_cmp key f.0.key) (f.0.version == won.version) both.0 in
          let f_key : f.0.key ≡ key = sym (same_key key f.0.key parts.0) in
          let f_version : f.0.version ≡ won.version = grind (arith, nat_tests, parts.1) in
          ap Some (ap (λ k. meaning k won.version) (sym f_key) ∙ ap (meaning f.0.key) (sym f_version)) ∙ sym f.2
          ∙ gone_leads logs f.0.key f.0.body both.1

      none : is_needless keep (marked_outside ms) floor e ≡ true → resolved_at logs (Some won) ≡ Some None
      none needless = of_won.1
          ∙ ap Some (ap (λ k. meaning k won.version) (sym (counts_parts key number won of_won.0).0)) ∙ meant_none needless

      by_winner : is_needless keep (marked_outside ms) floor e ≡ true → (w : Option Entry)
          → Has key number Left w → resolved_at logs w ≡ resolved_at logs (Some won)
      by_winner needless None has = sym (none needless)
      by_winner needless (Some g) has = ⊎_elim
          (λ (less : g.version < won.version). absurd (none_below e g keys has.0 (omega (arith, less, versions)) reason.0 needless has.1.0))
          (λ (least : won.version ≤ g.version).
          let most : g.version ≤ won.version = won_at_most won g is has.0 has.1.1.1.0 in
          let same : (g.version == won.version) ≡ true = grind (arith, nat_tests) in
          let there : is_at key won.version g ≡ true = and_from (eq_by_cmp key_cmp key g.key) (g.version == won.version)
          (and_parts _ _ has.0).0 same in
          absurd (true_false (sym (has.1.1.1.1 (is_at key won.version) there) ∙ gone)))
          (cases_lt g.version won.version)

  no_winner : winner (all_of ms) key number ≡ None → (w : Option Entry) → Has key number Left w
      → resolved_at logs w ≡ Some None
  unfolding Left
  no_winner is None has = refl
  no_winner is (Some g) has = absurd (subst (Reaches key number (Means logs meaning) g.version) is (reaches g has.0 has.1.1.1.0))

  by_winner_of_all : (won : Option Entry) → winner (all_of ms) key number ≡ won
      → resolved_at logs (winner (kept_of ms) key number) ≡ resolved_at logs won
  by_winner_of_all None is = no_winner is (winner (kept_of ms) key number) (winner_has key number Left (kept_of ms) left_all)
  by_winner_of_all (Some won) is = by_kept (list_any (is_at key won.version) (kept_of ms)) refl
    where
      has : Has key number Left (winner (kept_of ms) key number)
      has = winner_has key number Left (kept_of ms) left_all

      of_won : (counts key number won ≡ true) × Means logs meaning won
      of_won = won_has won is

      there : list_any (is_at key won.version) (all_of ms) ≡ true
      there =
          let at : is_at key won.version won ≡ true = ap (λ k. is_at k won.version won)
          (counts_parts key number won of_won.0).0 ∙ is_at-itself won in
          in_winner (is_at key won.version) won at is

      by_kept : (b : Bool) → list_any (is_at key won.version) (kept_of ms) ≡ b
          → resolved_at logs (winner (kept_of ms) key number) ≡ resolved_at logs (Some won)
      by_kept true kept =
          same_version won is (winner (kept_of ms) key number) has
          (winner_reaches key number (Means logs meaning) key won.version (kept_of ms)
          (and_from (eq_by_cmp key_cmp key key) (nat_le won.version number) (tied_itself key)
          (and_parts (eq_by_cmp key_cmp key won.key) (nat_le won.version number) of_won.0).1) kept
          (of_kept (Means logs meaning) ms resolves))
      by_kept false gone =
          let first = first_dropped keep (marked_inputs ms) (marked_outside ms) floor key won.version [] ms justified
          (members (marked_inputs ms)) refl there gone in
          none_kept won is first.0 first.1 first.2 gone (winner (kept_of ms) key number) has

  -- from the floor on, what is left leads each key to what all led it to
  pub installed_leads : resolved_at logs (winner (kept_of ms) key number) ≡ resolved_at logs (winner (all_of ms) key number)
  installed_leads = by_winner_of_all (winner (all_of ms) key number) refl

-- What is left of the sources by the marks of an earlier plan shows what they show, at each number at which the
-- merge may be seen.
pub shows_installed : (keep : ℕ) (logs : Logs) (ms : List Marked) (floor : ℕ) (h : History) (from : List ℕ → ℕ) (to : ℕ)
    → ((key : List ℕ) (number : ℕ) → from key ≤ number → IsPast keep (marked_inputs ms) floor key number)
    → AreJustified keep (marked_inputs ms) (marked_outside ms) floor [] ms
    → Shows logs (all_of ms) h from to → Shows logs (kept_of ms) h from to
shows_installed keep logs ms floor h from to past justified shows =
    shows_as logs logs (all_of ms) (kept_of ms) h from to shows
    (λ key number low high. installed_leads keep logs shows.meaning ms floor shows.resolves justified key number (past key number low))
    (λ meaning all. of_kept (Means logs meaning) ms all)
    (λ key version. times-kept key version ms)

-- ---- the marks of a plan over the sources that it was made of

module _ (keep : ℕ) (inputs outside : List Entry) (floor : ℕ) where
  all_of-marks : (newer : List Entry) (ss : List Sourced)
      → all_of (marks_from keep inputs outside floor newer ss) ≡ plain ss
  all_of-marks newer [] = refl
  all_of-marks newer (s ∷ ss) = ap (λ es. s.1 ∷ es) (all_of-marks (s.1 ∷ newer) ss)

  marked_inputs-marks : (newer : List Entry) (ss : List Sourced)
      → marked_inputs (marks_from keep inputs outside floor newer ss) ≡ inputs_of ss
  marked_inputs-marks newer [] = refl
  marked_inputs-marks newer (s ∷ ss) = ap (if_so s.0 s.1) (marked_inputs-marks (s.1 ∷ newer) ss)

  marked_outside-marks : (newer : List Entry) (ss : List Sourced)
      → marked_outside (marks_from keep inputs outside floor newer ss) ≡ outside_of ss
  marked_outside-marks newer [] = refl
  marked_outside-marks newer (s ∷ ss) = ap (if_so (not s.0) s.1) (marked_outside-marks (s.1 ∷ newer) ss)

  drops_both : (i d : Bool) → not (i && d) ≡ false → (i ≡ true) × (d ≡ true)
  drops_both true true is = (refl, refl)
  drops_both true false is = absurd (true_false is)
  drops_both false d is = absurd (true_false is)

  keeps_input : (i s o n : Bool) → not (i && (s || (o || n))) ≡ true → i ≡ true → o ≡ false
  keeps_input true true o n is input = absurd (true_false (sym is))
  keeps_input true false true n is input = absurd (true_false (sym is))
  keeps_input true false false n is input = refl
  keeps_input false s o n is input = absurd (true_false (sym input))

  marks_justified : (newer : List Entry) (ss : List Sourced)
      → AreJustified keep inputs outside floor newer (marks_from keep inputs outside floor newer ss)
  marks_justified newer [] = tt
  marks_justified newer (s ∷ ss) = (
    record {
      drops = drops_both s.0 (is_dropped keep inputs outside floor newer s.1);
      keeps = keeps_input s.0 (is_shadowed newer s.1) (is_outdated keep inputs floor s.1) (is_needless keep outside floor s.1);
    },
    marks_justified (s.1 ∷ newer) ss,
  )

-- A merge that is put in place of its inputs at once leaves what shows the same.
pub shows_merged : (keep : ℕ) (logs : Logs) (ss : List Sourced) (floor : ℕ) (h : History) (from : List ℕ → ℕ) (to : ℕ)
    → ((key : List ℕ) (number : ℕ) → from key ≤ number → IsPast keep (inputs_of ss) floor key number)
    → Shows logs (plain ss) h from to → Shows logs (kept_of (marks keep ss floor)) h from to
shows_merged keep logs ss floor h from to past shows =
    let ms = marks keep ss floor in
    let inputs = inputs_of ss in
    let outside = outside_of ss in
    let justified : AreJustified keep (marked_inputs ms) (marked_outside ms) floor [] ms =
    subst (λ (es : List Entry). AreJustified keep es (marked_outside ms) floor [] ms)
    (sym (marked_inputs-marks keep inputs outside floor [] ss))
    (subst (λ (es : List Entry). AreJustified keep inputs es floor [] ms)
    (sym (marked_outside-marks keep inputs outside floor [] ss)) (marks_justified keep inputs outside floor [] ss)) in
    shows_installed keep logs ms floor h from to
    (λ key number low. subst (λ (es : List Entry). IsPast keep es floor key number)
    (sym (marked_inputs-marks keep inputs outside floor [] ss)) (past key number low))
    justified (subst (λ (es : List Entry). Shows logs es h from to) (sym (all_of-marks keep inputs outside floor [] ss)) shows)
