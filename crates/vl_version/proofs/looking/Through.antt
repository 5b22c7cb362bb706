-- What a look-up looks at in tables that need not be true, one more table at a time.
use Rattle.std.specs.Prelude.{◌≡◌, ◌<◌, ◌≤◌, ◌+◌, ◌&&◌, ℕ, suc, not, Bool, true, false, List, [], ◌∷◌, ◌++◌, length}
use Rattle.std.specs.Prelude.{get_or, take, drop, Option, None, Result, Ok, Err}
use Rattle.std.specs.List.{AllByRecursion, prefix_len}
use Rattle.std.specs.Cmp.Lexicographic.{nat_list_cmp_total}
use Rattle.std.specs.Option.{option_map}
use Rattle.std.specs.Ordering.{is_gt, is_lt}
use Rattle.std.specs.declared.cmp.Ordering.{Ordering}
use Rattle.std.specs.declared.cmp.Ordering.TheVariants.{Less, Equal, Greater}
use Rattle.std.proofs.Common.{refl, ap, sym, subst, ◌∙◌, append_assoc, arith, cond}
use Rattle.vl_model.specs.Keys.{key_cmp}
use Rattle.vl_model.specs.declared.entry.Entry.{Entry}
use Rattle.vl_model.specs.Lookups.{IsParted}
use Rattle.vl_table.specs.body.Founds.{found_of}
use Rattle.vl_table.specs.declared.body.found.Found.{Found}
use Rattle.vl_disk.specs.declared.name.Name.{Name}
use Rattle.vl_table.specs.Answers.{Answers}
use Rattle.vl_table.specs.MayHold.{may_hold}
use Rattle.vl_table.specs.Meets.{LooksIn}
use Rattle.vl_table.specs.Seeks.{IsBadBlock}
use Rattle.vl_table.specs.Tables.{number_of, shape_of}
use Rattle.vl_disk.specs.declared.read_fault.ReadFault.{ReadFault}
use Rattle.vl_disk.specs.declared.read_fault.ReadFault.TheVariants.{NoMemory, Disk, Damaged}
use Rattle.vl_table.specs.declared.table.Table.{Table}
use Rattle.vl_table.specs.laws.KeyRanges.{above_turned, all_map, below_turned, below_up_to, up_to_below}
use Rattle.vl_version.specs.levels.LevelTables.{AreApart, AreRanged, ends_before, footer_of}
use Rattle.vl_version.specs.levels.LookedUp.{IsDamagedAt, LooksAt, LooksInAll, LooksThrough, StopsAt}
use Rattle.vl_version.specs.levels.Looks.{better, is_asked, is_wanted, makes, place_version}
use Rattle.vl_version.specs.declared.levels.look.Look.{Look}
use Rattle.vl_version.proofs.looking.LookLaws.{none-better}
use Rattle.vl_version.proofs.looking.Parts.{split_at}

greater : (r : Ordering) → is_gt r ≡ true → r ≡ Greater
greater Less is = absurd cc
greater Equal is = absurd cc
greater Greater is = refl

module _ {H : Type 0} (bytes_of : H → Option (List ℕ)) (look : Look) (key : List ℕ) where
  -- ---- one table

  pub looks_past : (best : Option Entry) (t : Table H) → is_asked look key best (shape_of t) ≡ false → LooksAt bytes_of look key best t best
  looks_past best t refused = record { skips = λ is. refl; asks = λ is. absurd (apart (is_asked look key best (shape_of t)) refused is) }
    where
      apart : (b : Bool) → b ≡ false → b ≡ true → ⊥
      apart true is also = cc
      apart false is also = cc

  both_tests : (a b : Bool) → a ≡ true → (a && b) ≡ false → b ≡ false
  both_tests true b is refused = refused
  both_tests false b is refused = absurd cc

  asked_of : (a b : Bool) → a ≡ true → (b ≡ false → ⊥) → (a && b) ≡ true
  asked_of true true is held = refl
  asked_of true false is held = absurd (held refl)
  asked_of false b is held = absurd cc

  second_test : (a b : Bool) → (a && b) ≡ true → b ≡ true
  second_test true b is = is
  second_test false b is = absurd cc

  -- one that is wanted and isn't asked may not have the key
  pub unheld : (best : Option Entry) (t : Table H) → is_wanted look best (footer_of t).greatest ≡ true
      → is_asked look key best (shape_of t) ≡ false
      → may_hold key (shape_of t) ≡ false
  unheld best t wanted refused = both_tests (is_wanted look best (footer_of t).greatest) (may_hold key (shape_of t)) wanted refused

  -- it fails at one that is wanted, and was read
  pub stops_here : (best : Option Entry) (t : Table H) (before now : ℕ) (good : List ℕ → Option Found → Type 0) (e : ReadFault)
      → is_wanted look best (footer_of t).greatest ≡ true → (may_hold key (shape_of t) ≡ false → ⊥)
      → Answers {T = Option Found} before now (number_of t) (bytes_of t.held) good (IsBadBlock (shape_of t)) (Err e)
      → LooksInAll bytes_of look key best (t ∷ []) (Err e)
  stops_here best t before now good NoMemory wanted held a = tt
  stops_here best t before now good (Disk name) wanted held a = record {
    front = [];
    table = t;
    back = [];
    among = refl;
    next = best;
    through = refl;
    asked = asked_of (is_wanted look best (footer_of t).greatest) (may_hold key (shape_of t)) wanted held;
    named = a.named;
    why = tt;
  }
  stops_here best t before now good (Damaged name place) wanted held a = record {
    front = [];
    table = t;
    back = [];
    among = refl;
    next = best;
    through = refl;
    asked = asked_of (is_wanted look best (footer_of t).greatest) (may_hold key (shape_of t)) wanted held;
    named = a.named;
    why = a.answer;
  }

  -- a table that is wanted was asked
  pub looks_in : (best : Option Entry) (t : Table H) (older x : Option Found) → is_wanted look best (footer_of t).greatest ≡ true
      → option_map (found_of key) x ≡ better look best (option_map (found_of key) older)
      → (may_hold key (shape_of t) ≡ false → older ≡ None)
      → (may_hold key (shape_of t) ≡ true → LooksIn bytes_of (makes look key) t key (place_version look) (Ok older))
      → LooksAt bytes_of look key best t (option_map (found_of key) x)
  looks_in best t older x wanted is unread looks = record {
    skips = λ refused.
        is ∙ ap (λ (o : Option Found). better look best (option_map (found_of key) o))
        (unread (both_tests (is_wanted look best (footer_of t).greatest) (may_hold key (shape_of t)) wanted refused))
        ∙ none-better look best;
    asks = λ asked. (
      option_map (found_of key) older,
      looks (second_test (is_wanted look best (footer_of t).greatest) (may_hold key (shape_of t)) asked),
      is,
    );
  }

  -- ---- more tables

  pub through-append : (ts us : List (Table H)) (best mid found : Option Entry) → LooksThrough bytes_of look key best ts mid
      → LooksThrough bytes_of look key mid us found → LooksThrough bytes_of look key best (ts ++ us) found
  through-append [] us best mid found first second = subst (λ (o : Option Entry). LooksThrough bytes_of look key o us found) first second
  through-append (t ∷ ts) us best mid found first second = (first.0, first.1, through-append ts us first.0 mid found first.2 second)

  -- it fails behind tables that were looked in
  stops-back : (ts us : List (Table H)) (best mid : Option Entry) (name : Name) (P : Table H → Type 0)
      → LooksThrough bytes_of look key best ts mid
      → StopsAt bytes_of look key mid us name P → StopsAt bytes_of look key best (ts ++ us) name P
  stops-back ts us best mid name P first s = record {
    front = ts ++ s.front;
    table = s.table;
    back = s.back;
    among = ap (λ (l : List (Table H)). ts ++ l) s.among ∙ sym (append_assoc ts s.front (s.table ∷ s.back));
    next = s.next;
    through = through-append ts s.front best mid s.next first s.through;
    asked = s.asked;
    named = s.named;
    why = s.why;
  }

  -- or before others
  stops-front : (ts us : List (Table H)) (best : Option Entry) (name : Name) (P : Table H → Type 0)
      → StopsAt bytes_of look key best ts name P
      → StopsAt bytes_of look key best (ts ++ us) name P
  stops-front ts us best name P s = record {
    front = s.front;
    table = s.table;
    back = s.back ++ us;
    among = ap (λ (l : List (Table H)). l ++ us) s.among ∙ append_assoc s.front (s.table ∷ s.back) us;
    next = s.next;
    through = s.through;
    asked = s.asked;
    named = s.named;
    why = s.why;
  }

  pub in_all-append : (ts us : List (Table H)) (best mid : Option Entry) (r : Result (Option Found) ReadFault)
      → LooksThrough bytes_of look key best ts mid → LooksInAll bytes_of look key mid us r → LooksInAll bytes_of look key best (ts ++ us) r
  in_all-append ts us best mid (Ok y) first second = through-append ts us best mid (option_map (found_of key) y) first second
  in_all-append ts us best mid (Err NoMemory) first second = tt
  in_all-append ts us best mid (Err (Disk name)) first second = stops-back ts us best mid name (λ t. Unit {0}) first second
  in_all-append ts us best mid (Err (Damaged name place)) first second = stops-back ts us best mid name
      (IsDamagedAt bytes_of place) first second

  pub in_all-front : (ts us : List (Table H)) (best : Option Entry) (e : ReadFault) → LooksInAll bytes_of look key best ts (Err e)
      → LooksInAll bytes_of look key best (ts ++ us) (Err e)
  in_all-front ts us best NoMemory stops = tt
  in_all-front ts us best (Disk name) stops = stops-front ts us best name (λ t. Unit {0}) stops
  in_all-front ts us best (Damaged name place) stops = stops-front ts us best name (IsDamagedAt bytes_of place) stops

  pub through_one : (best : Option Entry) (t : Table H) (found : Option Entry) → LooksAt bytes_of look key best t found
      → LooksThrough bytes_of look key best (t ∷ []) found
  through_one best t found at = (found, at, refl)

  -- ---- a level

  none_of : (a b c d : Bool) → c ≡ false → (a && ((b && c) && d)) ≡ false
  none_of true true c d is = by c d is
    where
      by : (c d : Bool) → c ≡ false → (c && d) ≡ false
      by true d is = absurd cc
      by false d is = refl
  none_of true false c d is = refl
  none_of false b c d is = refl

  none_of_first : (a b c d : Bool) → b ≡ false → (a && ((b && c) && d)) ≡ false
  none_of_first true true c d is = absurd cc
  none_of_first true false c d is = refl
  none_of_first false b c d is = refl

  -- a table that ends before the key, or begins behind it, isn't asked
  past_end : (best : Option Entry) (t : Table H) → ends_before key t ≡ true → is_asked look key best (shape_of t) ≡ false
  past_end best t ends =
      none_of (is_wanted look best (footer_of t).greatest) (not (is_lt (key_cmp key (footer_of t).first)))
      (not (is_gt (key_cmp key (footer_of t).last)))
      _ (ap not ends)

  past_start : (best : Option Entry) (t : Table H) → key_cmp key (footer_of t).first ≡ Less → is_asked look key best (shape_of t) ≡ false
  past_start best t less =
      none_of_first (is_wanted look best (footer_of t).greatest) (not (is_lt (key_cmp key (footer_of t).first)))
      (not (is_gt (key_cmp key (footer_of t).last)))
      _ (ap (λ (r : Ordering). not (is_lt r)) less)

  -- tables behind a key begin behind it, and end there too
  behind : (k : List ℕ) (t : Table H) (ts : List (Table H)) → key_cmp k (footer_of t).first ≡ Less → AreApart (t ∷ ts) → AreRanged (t ∷ ts)
      → AllByRecursion (λ (u : Table H). key_cmp k (footer_of u).first ≡ Less) (t ∷ ts)
      × AllByRecursion (λ (u : Table H). key_cmp k (footer_of u).last ≡ Less) (t ∷ ts)
  behind k t [] less apart ranged = ((less, tt), (below_up_to k (footer_of t).first (footer_of t).last less ranged.0, tt))
  behind k t (u ∷ us) less apart ranged =
      let last = below_up_to k (footer_of t).first (footer_of t).last less ranged.0 in
      let rest = behind k u us (nat_list_cmp_total.trans k (footer_of t).last (footer_of u).first last apart.0) apart.1 ranged.1 in
      ((less, rest.0), (last, rest.1))

  all_behind : (t : Table H) (ts : List (Table H)) → AreApart (t ∷ ts) → AreRanged (t ∷ ts)
      → AllByRecursion (λ (u : Table H). key_cmp (footer_of t).last (footer_of u).first ≡ Less) ts
      × AllByRecursion (λ (u : Table H). key_cmp (footer_of t).last (footer_of u).last ≡ Less) ts
  all_behind t [] apart ranged = (tt, tt)
  all_behind t (u ∷ us) apart ranged = behind (footer_of t).last u us apart.0 apart.1 ranged.1

  apart_rest : (t : Table H) (ts : List (Table H)) → AreApart (t ∷ ts) → AreApart ts
  apart_rest t [] apart = tt
  apart_rest t (u ∷ us) apart = apart.1

  pub laid-parted : (ts : List (Table H)) → AreApart ts → AreRanged ts → IsParted (ends_before key) ts
  laid-parted [] apart ranged = tt
  laid-parted (t ∷ ts) apart ranged = (
    all_map (λ (u : Table H). key_cmp (footer_of t).last (footer_of u).last ≡ Less)
        (λ (u : Table H). ends_before key u ≡ true → ends_before key t ≡ true)
        (λ u less ends. ap is_gt (above_turned (footer_of t).last key
        (nat_list_cmp_total.trans (footer_of t).last (footer_of u).last key less
        (below_turned key (footer_of u).last (greater (key_cmp key (footer_of u).last) ends)))))
        ts (all_behind t ts apart ranged).1,
    laid-parted ts (apart_rest t ts apart) ranged.1,
  )

  -- none of these is asked
  passes_all : (ts : List (Table H)) (found : Option Entry)
      → AllByRecursion (λ (u : Table H). is_asked look key found (shape_of u) ≡ false) ts
      → LooksThrough bytes_of look key found ts found
  passes_all [] found all = refl
  passes_all (t ∷ ts) found all = (found, looks_past found t all.0, passes_all ts found all.1)

  -- behind those that end before the key one is asked at most
  pub record IsReached (ts : List (Table H)) (best : Option Entry) (at : ℕ) : Type 0 where
    pub past : length ts ≤ at → LooksThrough bytes_of look key best ts best
    pub here : (t : Table H) (found : Option Entry) → at < length ts → t ≡ get_or ts at t → LooksAt bytes_of look key best t found
        → LooksThrough bytes_of look key best ts found

  one_more : (n : ℕ) → suc n ≡ 1 + n
  one_more n = omega arith

  pub level_reached : (ts : List (Table H)) (best : Option Entry) → AreApart ts → AreRanged ts
      → IsReached ts best (prefix_len (ends_before key) ts)
  level_reached [] best apart ranged = record { past = λ past. refl; here = λ t found within is at. absurd (omega (arith, within)) }
  level_reached (t ∷ ts) best apart ranged = by (level_reached ts best (apart_rest t ts apart) ranged.1) (ends_before key t) refl
    where
      by : IsReached ts best (prefix_len (ends_before key) ts) → (b : Bool) → ends_before key t ≡ b
          → IsReached (t ∷ ts) best (cond b (1 + prefix_len (ends_before key) ts) 0)
      by later true ends = record {
        past = λ past. (best, looks_past best t (past_end best t ends), later.past (omega (arith, past)));
        here = λ u found within is at. (
          best,
          looks_past best t (past_end best t ends),
          later.here u found (omega (arith, within))
              (is ∙ ap (λ (n : ℕ). get_or (t ∷ ts) n u) (sym (one_more (prefix_len (ends_before key) ts)))) at,
        );
      }
      by later false ends = record {
        past = λ past. absurd (omega (arith, past));
        here = λ u found within is at. (
          found,
          subst (λ (v : Table H). LooksAt bytes_of look key best v found) is at,
          passes_all ts found (all_map (λ (v : Table H). key_cmp (footer_of t).last (footer_of v).first ≡ Less)
              (λ (v : Table H). is_asked look key found (shape_of v) ≡ false)
              (λ v less. past_start found v (up_to_below key (footer_of t).last (footer_of v).first ends less)) ts
              (all_behind t ts apart ranged).0),
        );
      }

  -- of those in front none is asked
  front_passed : (ts : List (Table H)) (best : Option Entry)
      → LooksThrough bytes_of look key best (take (prefix_len (ends_before key) ts) ts) best
  front_passed [] best = refl
  front_passed (t ∷ ts) best = by (front_passed ts best) (ends_before key t) refl
    where
      by : LooksThrough bytes_of look key best (take (prefix_len (ends_before key) ts) ts) best → (b : Bool) → ends_before key t ≡ b
          → LooksThrough bytes_of look key best (take (cond b (1 + prefix_len (ends_before key) ts) 0) (t ∷ ts)) best
      by later true ends =
          subst (λ (n : ℕ). LooksThrough bytes_of look key best (take n (t ∷ ts)) best) (one_more (prefix_len (ends_before key) ts))
          (best, looks_past best t (past_end best t ends), later)
      by later false ends = refl

  -- where the one at a position was looked in, the level was
  pub reaches : (ts : List (Table H)) (t : Table H) (best : Option Entry) (at : ℕ) (r : Result (Option Found) ReadFault)
      → at ≡ prefix_len (ends_before key) ts → at < length ts → t ≡ get_or ts at t → AreApart ts → AreRanged ts
      → LooksInAll bytes_of look key best (t ∷ []) r → LooksInAll bytes_of look key best ts r
  reaches ts t best at (Ok x) first within is apart ranged looks =
      let reached = level_reached ts best apart ranged in
      reached.here t (option_map (found_of key) x) (omega (arith, within, first)) (is ∙ ap (λ (n : ℕ). get_or ts n t) first)
      (subst (λ (o : Option Entry). LooksAt bytes_of look key best t o) (sym looks.2) looks.1)
  reaches ts t best at (Err e) first within is apart ranged looks =
      subst (λ (l : List (Table H)). LooksInAll bytes_of look key best l (Err e)) (sym (split_at ts at t within is))
      (in_all-front (take at ts ++ t ∷ []) (drop (suc at) ts) best e
      (in_all-append (take at ts) (t ∷ []) best best (Err e)
      (subst (λ (n : ℕ). LooksThrough bytes_of look key best (take n ts) best) (sym first) (front_passed ts best)) looks))
