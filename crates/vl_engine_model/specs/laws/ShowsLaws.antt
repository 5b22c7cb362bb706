-- What keeps sources showing a history: entries in place of others, and entries put in order.
use Rattle.std.proofs.Common.{◌≡◌, ℕ, ◌+◌, ◌≤◌, Bool, true, false, cond, ◌&&◌, List, [], ◌∷◌, ◌++◌, refl, ap, sym, ◌∙◌, subst, arith}
use Rattle.std.proofs.lemmas.Bool.Decides.{nat_tests}
use Rattle.std.specs.Prelude.{Option, Some, None, nat_le, ◌==◌}
use Rattle.std.specs.Ordering.{eq_by_cmp}
use Rattle.std.specs.List.{AllZip, AllByRecursion}
use Rattle.std.specs.declared.cmp.Ordering.TheVariants.{Less, Equal, Greater}
use Rattle.vl_model.specs.Keys.{Stored, key_cmp}
use Rattle.vl_model.specs.History.{History}
use Rattle.vl_model.specs.Entries.{is_at}
use Rattle.vl_model.specs.Winners.{Logs, counts, only_if, newest_of, winner, resolved, resolved_at}
use Rattle.vl_model.specs.laws.WinnerLaws.{key_tied}
use Rattle.vl_model.specs.declared.entry.Entry.{Entry}
use Rattle.vl_engine_model.specs.Shows.{Shows, Meaning, Means, StandsFor, times}

-- ---- lists end to end

pub all_parts : (P : Entry → Type 0) (es fs : List Entry) → AllByRecursion P (es ++ fs)
    → AllByRecursion P es × AllByRecursion P fs
all_parts P [] fs all = (tt, all)
all_parts P (e ∷ es) fs all = let both = all_parts P es fs all.1 in ((all.0, both.0), both.1)

pub all_both : (P : Entry → Type 0) (es fs : List Entry) → AllByRecursion P es → AllByRecursion P fs
    → AllByRecursion P (es ++ fs)
all_both P [] fs some others = others
all_both P (e ∷ es) fs some others = (some.0, all_both P es fs some.1 others)

pub times-append : (key : List ℕ) (version : ℕ) (es fs : List Entry)
    → times key version (es ++ fs) ≡ times key version es + times key version fs
times-append key version [] fs = omega arith
times-append key version (e ∷ es) fs = let later = times-append key version es fs in omega arith

-- ---- another form of what is shown

-- Where the winners lead to the same, each body to what its version is, and no key and version
-- stands more often, the same is shown.
pub shows_as : (logs logs' : Logs) (es fs : List Entry) (h : History) (from : List ℕ → ℕ) (to : ℕ)
    → Shows logs es h from to
    → ((key : List ℕ) (number : ℕ) → from key ≤ number → number ≤ to
    → resolved_at logs' (winner fs key number) ≡ resolved_at logs (winner es key number))
    → ((meaning : Meaning) → AllByRecursion (Means logs meaning) es → AllByRecursion (Means logs' meaning) fs)
    → ((key : List ℕ) (version : ℕ) → times key version fs ≤ times key version es)
    → Shows logs' fs h from to
shows_as logs logs' es fs h from to shows winners bodies counted = record {
  values = λ key number low high. winners key number low high ∙ shows.values key number low high;
  meaning = shows.meaning;
  resolves = bodies shows.meaning shows.resolves;
  gone_once = λ key version none. let few = shows.gone_once key version none in let fewer = counted key version in omega arith;
}

-- ---- entry by entry

-- two winners, of which one stands for the other
abbrev AreAlike : Logs → Logs → Option Entry → Option Entry → Type 0
AreAlike logs logs' None None = Unit {0}
AreAlike logs logs' None (Some f) = ⊥
AreAlike logs logs' (Some e) None = ⊥
AreAlike logs logs' (Some e) (Some f) = StandsFor logs logs' e f

module _ (logs logs' : Logs) where
  alike_only_if : (b c : Bool) (e f : Entry) → c ≡ b → StandsFor logs logs' e f
      → AreAlike logs logs' (only_if b e) (only_if c f)
  alike_only_if true true e f is s = s
  alike_only_if true false e f is s = absurd cc
  alike_only_if false true e f is s = absurd cc
  alike_only_if false false e f is s = tt

  alike_either : (b c : Bool) (e f e' f' : Entry) → c ≡ b → StandsFor logs logs' e e'
      → StandsFor logs logs' f f'
      → AreAlike logs logs' (cond b (Some e) (Some f)) (cond c (Some e') (Some f'))
  alike_either true true e f e' f' is s t = s
  alike_either true false e f e' f' is s t = absurd cc
  alike_either false true e f e' f' is s t = absurd cc
  alike_either false false e f e' f' is s t = t

  alike_newest : (a b a' b' : Option Entry) → AreAlike logs logs' a a' → AreAlike logs logs' b b'
      → AreAlike logs logs' (newest_of a b) (newest_of a' b')
  alike_newest None b None b' s t = t
  alike_newest None b (Some e') b' s t = absurd s
  alike_newest (Some e) b None b' s t = absurd s
  alike_newest (Some e) None (Some e') None s t = s
  alike_newest (Some e) None (Some e') (Some f') s t = absurd t
  alike_newest (Some e) (Some f) (Some e') None s t = absurd t
  alike_newest (Some e) (Some f) (Some e') (Some f') s t =
      alike_either (nat_le f.version e.version) (nat_le f'.version e'.version) e f e' f'
      (ap (λ n. nat_le n e'.version) t.version ∙ ap (nat_le f.version) s.version) s t

  alike_winner : (key : List ℕ) (number : ℕ) (es fs : List Entry)
      → AllZip (StandsFor logs logs') es fs
      → AreAlike logs logs' (winner es key number) (winner fs key number)
  alike_winner key number [] [] s = tt
  alike_winner key number [] (f ∷ fs) s = absurd s
  alike_winner key number (e ∷ es) [] s = absurd s
  alike_winner key number (e ∷ es) (f ∷ fs) s =
      alike_newest (only_if (counts key number e) e) (winner es key number) (only_if (counts key number f) f) (winner fs key number)
      (alike_only_if (counts key number e) (counts key number f) e f
      (ap (λ k. eq_by_cmp key_cmp key k && nat_le f.version number) s.0.key
      ∙ ap (λ v. eq_by_cmp key_cmp key e.key && nat_le v number) s.0.version) s.0)
      (alike_winner key number es fs s.1)

  alike_leads : (a b : Option Entry) → AreAlike logs logs' a b
      → resolved_at logs' b ≡ resolved_at logs a
  alike_leads None None s = refl
  alike_leads None (Some f) s = absurd s
  alike_leads (Some e) None s = absurd s
  alike_leads (Some e) (Some f) s = s.leads

  alike_means : (es fs : List Entry) → AllZip (StandsFor logs logs') es fs → (meaning : Meaning)
      → AllByRecursion (Means logs meaning) es → AllByRecursion (Means logs' meaning) fs
  alike_means [] [] s meaning all = tt
  alike_means [] (f ∷ fs) s meaning all = absurd s
  alike_means (e ∷ es) [] s meaning all = absurd s
  alike_means (e ∷ es) (f ∷ fs) s meaning all = (
    s.0.leads ∙ all.0 ∙ ap Some (ap (λ k. meaning k e.version) (sym s.0.key) ∙ ap (meaning f.key) (sym s.0.version)),
    alike_means es fs s.1 meaning all.1,
  )

  alike_times : (key : List ℕ) (version : ℕ) (es fs : List Entry)
      → AllZip (StandsFor logs logs') es fs → times key version fs ≡ times key version es
  alike_times key version [] [] s = refl
  alike_times key version [] (f ∷ fs) s = absurd s
  alike_times key version (e ∷ es) [] s = absurd s
  alike_times key version (e ∷ es) (f ∷ fs) s =
      ap (λ (n : ℕ). cond (is_at key version f) 1 0 + n) (alike_times key version es fs s.1)
      ∙ ap (λ (b : Bool). cond b 1 0 + times key version es)
      (ap (λ k. eq_by_cmp key_cmp key k && (f.version == version)) s.0.key
      ∙ ap (λ v. eq_by_cmp key_cmp key e.key && (v == version)) s.0.version)

  -- Where each entry stands for the one in whose place it is, as after a flush, or where a log goes
  -- that no entry leads into, the same is shown.
  pub shows_replaced : (es fs : List Entry) (h : History) (from : List ℕ → ℕ) (to : ℕ)
      → AllZip (StandsFor logs logs') es fs → Shows logs es h from to → Shows logs' fs h from to
  shows_replaced es fs h from to s shows =
      shows_as logs logs' es fs h from to shows
      (λ key number low high. alike_leads (winner es key number) (winner fs key number) (alike_winner key number es fs s))
      (alike_means es fs s)
      (λ key version. let same = alike_times key version es fs s in omega arith)

  -- so it is too where the same entries lead to the same in other logs
  pub itself : (es : List Entry)
      → AllByRecursion (λ (e : Entry). resolved logs' e.key e.body ≡ resolved logs e.key e.body) es
      → AllZip (StandsFor logs logs') es es
  itself [] same = tt
  itself (e ∷ es) same = (record { key = refl; version = refl; leads = same.0 }, itself es same.1)

-- ---- two entries of one key and version

pub is_at-itself : (e : Entry) → is_at e.key e.version e ≡ true
is_at-itself e =
    let same : (e.version == e.version) ≡ true = grind (arith, nat_tests) in
    ap (λ r. elim r as (λ o. Bool) [ Less ↦ false | Equal ↦ true | Greater ↦ false ] && (e.version == e.version)) (key_tied e.key) ∙ same

-- they lead to one value, and neither is a deletion
pub alike_at_one_version : (logs : Logs) (xs ys zs : List Entry) (e f : Entry) (h : History) (from : List ℕ → ℕ) (to : ℕ)
    → Shows logs (xs ++ e ∷ ys ++ f ∷ zs) h from to → f.key ≡ e.key → f.version ≡ e.version
    → (value : Stored) × (resolved logs e.key e.body ≡ Some (Some value)) × (resolved logs f.key f.body ≡ Some (Some value))
alike_at_one_version logs xs ys zs e f h from to shows keys versions = by_meaning (shows.meaning e.key e.version) refl
  where
    back : AllByRecursion (Means logs shows.meaning) (f ∷ zs)
    back = (all_parts (Means logs shows.meaning) (xs ++ e ∷ ys) (f ∷ zs) shows.resolves).1

    front : AllByRecursion (Means logs shows.meaning) (e ∷ ys)
    front = (all_parts (Means logs shows.meaning) xs (e ∷ ys)
        (all_parts (Means logs shows.meaning) (xs ++ e ∷ ys) (f ∷ zs) shows.resolves).0).1

    twice : 2 ≤ times e.key e.version (xs ++ e ∷ ys ++ f ∷ zs)
    twice =
        let a = times-append e.key e.version (xs ++ e ∷ ys) (f ∷ zs) in
        let b = times-append e.key e.version xs (e ∷ ys) in
        let one : times e.key e.version (e ∷ ys) ≡ 1 + times e.key e.version ys = ap
        (λ (t : Bool). cond t 1 0 + times e.key e.version ys) (is_at-itself e) in
        let there : is_at e.key e.version f ≡ true = subst (λ (k : List ℕ). is_at k e.version f ≡ true) keys
        (subst (λ (v : ℕ). is_at f.key v f ≡ true) versions (is_at-itself f)) in
        let other : times e.key e.version (f ∷ zs) ≡ 1 + times e.key e.version zs = ap
        (λ (t : Bool). cond t 1 0 + times e.key e.version zs) there in
        omega arith

    by_meaning : (m : Option Stored) → shows.meaning e.key e.version ≡ m
        → (value : Stored) × (resolved logs e.key e.body ≡ Some (Some value)) × (resolved logs f.key f.body ≡ Some (Some value))
    by_meaning None is = absurd (let few = shows.gone_once e.key e.version is in omega (arith, few, twice))
    by_meaning (Some value) is =
        (value, front.0 ∙ ap Some is, back.0 ∙ ap Some (ap (λ k. shows.meaning k f.version) keys ∙ ap (shows.meaning e.key) versions ∙ is))
