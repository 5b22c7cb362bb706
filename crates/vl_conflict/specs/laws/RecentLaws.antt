-- Laws of what is remembered: it stands for a history from a floor on, and finds just its conflicts.
use Rattle.std.proofs.Common.{◌≡◌, ℕ, ◌+◌, ◌≤◌, Bool, true, false, cond, ◌&&◌, List, [], ◌∷◌, ◌++◌, length, refl, ap}
use Rattle.std.proofs.Common.{sym, ◌∙◌, arith, T, Option, Some, None}
use Rattle.std.proofs.lemmas.Bool.Decides.{nat_tests}
use Rattle.std.specs.Prelude.{nat_lt}
use Rattle.std.specs.Option.{option_map}
use Rattle.std.specs.List.{filter}
use Rattle.std.specs.FinMap.{entries, get, find, put, is_sorted, get-entries, get-from_sorted, from_sorted, same_map}
use Rattle.std.specs.FinMap.{entries-from_sorted, slice_cmp-IsAntisymmetric, nat_cmp-IsAntisymmetric}
use Rattle.std.specs.FinMap.Entries.{find-put, is_sorted-put}
use Rattle.std.specs.Cmp.Lexicographic.{nat_list_cmp_total}
use Rattle.std.specs.Ordering.{eq_by_cmp}
use Rattle.vl_model.specs.Keys.{Writes, key_cmp}
use Rattle.vl_model.specs.History.{History, last_number, with_commit, last_naming, newer}
use Rattle.vl_model.specs.Reads.{Read, is_read}
use Rattle.vl_model.specs.Conflicts.{Named, passing, overwritten, first_of, first_conflict}
use Rattle.vl_model.specs.laws.ConflictLaws.{find-filter, find-overwritten, overwritten-rises}
use Rattle.vl_model.specs.declared.change.Change.{Change}
use Rattle.vl_model.specs.declared.span.Span.{Span}
use Rattle.vl_model.specs.Notes.{is_noted, AreNotesOf}
use Rattle.vl_conflict.specs.Notes.{is_above_floor}
use Rattle.vl_conflict.specs.laws.OrderLaws.{as_T, from_T, filter_rises}
use Rattle.vl_conflict.specs.Recent.{is_late, first_newer_than, since, Remembers, noted_all}

-- lists in order that find the same are the same
pub same_named : (es fs : List Named) → is_sorted key_cmp es ≡ true → is_sorted key_cmp fs ≡ true
    → ((q : List ℕ) → find key_cmp q es ≡ find key_cmp q fs) → es ≡ fs
same_named es fs es_rise fs_rise same =
    let of_es = as_T (is_sorted key_cmp es) es_rise in
    let of_fs = as_T (is_sorted key_cmp fs) fs_rise in
    sym (entries-from_sorted key_cmp es of_es)
    ∙ ap entries (same_map nat_list_cmp_total (slice_cmp-IsAntisymmetric nat_cmp-IsAntisymmetric) (from_sorted es)
    (from_sorted fs) (λ q. get-from_sorted key_cmp es q of_es ∙ same q ∙ sym (get-from_sorted key_cmp fs q of_fs)))
    ∙ entries-from_sorted key_cmp fs of_fs

-- ---- the floor

since-higher : (floor higher : ℕ) (o : Option ℕ) → floor ≤ higher → since higher (since floor o) ≡ since higher o
since-higher floor higher None le = refl
since-higher floor higher (Some n) le = by_test (nat_lt floor n) refl
  where
    not_above : nat_lt floor n ≡ false → nat_lt higher n ≡ false
    not_above is = grind (arith, nat_tests)

    by_test : (b : Bool) → nat_lt floor n ≡ b → since higher (cond b (Some n) None) ≡ cond (nat_lt higher n) (Some n) None
    by_test true is = refl
    by_test false is = sym (ap (λ b. cond b (Some n) None) (not_above is))

pub since_from : (floor higher : ℕ) (a b : Option ℕ) → floor ≤ higher → since floor a ≡ since floor b → since higher a ≡ since higher b
since_from floor higher a b le same = sym (since-higher floor higher a le) ∙ ap (since higher) same ∙ since-higher floor higher b le

-- ---- conflicts

-- what a test that wants a number above another passes doesn't hang on the numbers up to it
passing-since : (number : ℕ) (test : Named → Bool) (q : List ℕ) (o : Option ℕ)
    → passing (λ named. nat_lt number named.1 && test named) q o ≡ passing test q (since number o)
passing-since number test q None = refl
passing-since number test q (Some n) = elim (nat_lt number n) as
    (λ b. cond (b && test (q, n)) (Some n) None ≡ passing test q (cond b (Some n) None)) [ true ↦ refl | false ↦ refl ]

pub first_newer_than-conflict : (h : History) (floor number : ℕ) (reads : List Read) (keys : List (List ℕ))
    (spans : List Span) (named : List Named) → Remembers floor h named → floor ≤ number → AreNotesOf reads keys spans
    → first_newer_than number keys spans named ≡ first_conflict h number reads
first_newer_than-conflict h floor number reads keys spans named remembers le notes =
    ap first_of (same_named (filter (is_late number keys spans) named) (overwritten h number reads) rises
    (overwritten-rises h number reads) same)
  where
    rising : T (is_sorted key_cmp named)
    rising = as_T (is_sorted key_cmp named) remembers.rising

    rises : is_sorted key_cmp (filter (is_late number keys spans) named) ≡ true
    rises = filter_rises (is_late number keys spans) named remembers.rising

    same_test : (q : List ℕ) (o : Option ℕ) → passing (λ (named : Named). is_noted keys spans named.0) q o ≡ passing
        (λ (named : Named). is_read reads named.0) q o
    same_test q None = refl
    same_test q (Some n) = ap (λ b. cond b (Some n) None) (notes q)

    same : (q : List ℕ) → find key_cmp q (filter (is_late number keys spans) named) ≡ find key_cmp q (overwritten h number reads)
    same q =
        find-filter (is_late number keys spans) q named rising
        ∙ passing-since number (λ (named : Named). is_noted keys spans named.0) q (find key_cmp q named)
        ∙ same_test q (since number (find key_cmp q named))
        ∙ ap (passing (λ (named : Named). is_read reads named.0) q)
        (since_from floor number (find key_cmp q named) (last_naming (h.first + 1) h.commits q) le (remembers.last q))
        ∙ sym (passing-since number (λ (named : Named). is_read reads named.0) q (last_naming (h.first + 1) h.commits q))
        ∙ sym (find-overwritten h number reads q)

-- ---- what is forgotten

passing-above : (floor : ℕ) (q : List ℕ) (o : Option ℕ) → passing (is_above_floor floor) q o ≡ since floor o
passing-above floor q None = refl
passing-above floor q (Some n) = refl

pub pruned : (h : History) (least floor : ℕ) (named : List Named) → Remembers least h named → least ≤ floor
    → Remembers floor h (filter (is_above_floor floor) named)
pruned h least floor named remembers le = record {
  rising = filter_rises (is_above_floor floor) named remembers.rising;
  last = λ q.
      ap (since floor) (find-filter (is_above_floor floor) q named (as_T (is_sorted key_cmp named) remembers.rising)
      ∙ passing-above floor q (find key_cmp q named))
      ∙ since-higher floor floor (find key_cmp q named) (omega arith)
      ∙ since_from least floor (find key_cmp q named) (last_naming (h.first + 1) h.commits q) le (remembers.last q);
}

-- ---- the start

none_named : (floor number : ℕ) (commits : List Writes) (q : List ℕ) → number + length commits ≤ floor + 1
    → since floor (last_naming number commits q) ≡ None
none_named floor number [] q le = refl
none_named floor number (writes ∷ later) q le = by_later (last_naming (number + 1) later q)
    (none_named floor (number + 1) later q (omega arith)) (get writes q)
  where
    not_above : nat_lt floor number ≡ false
    not_above = grind (arith, nat_tests)

    by_change : (o : Option Change) → since floor (option_map (λ change. number) o) ≡ None
    by_change None = refl
    by_change (Some change) = ap (λ b. cond b (Some number) None) not_above

    by_later : (last : Option ℕ) → since floor last ≡ None → (o : Option Change)
        → since floor (newer (option_map (λ change. number) o) last) ≡ None
    by_later None none o = by_change o
    by_later (Some n) none o = none

pub nothing_yet : (h : History) (floor : ℕ) → last_number h ≤ floor → Remembers floor h []
nothing_yet h floor le = record { rising = refl; last = λ q. sym (none_named floor (h.first + 1) h.commits q (omega arith)) }

-- ---- one more commit

rising_all : (number : ℕ) (writes : List (List ℕ × Change)) (named : List Named) → T (is_sorted key_cmp named)
    → T (is_sorted key_cmp (noted_all number writes named))
rising_all number [] named rising = rising
rising_all number (write ∷ later) named rising = rising_all number later (put key_cmp write.0 number named)
    (is_sorted-put key_cmp nat_list_cmp_total write.0 number named rising)

find-noted_all : (number : ℕ) (writes : List (List ℕ × Change)) (named : List Named) (q : List ℕ)
    → find key_cmp q (noted_all number writes named) ≡ newer (find key_cmp q named) (option_map (λ change. number) (find key_cmp q writes))
find-noted_all number [] named q = refl
find-noted_all number (write ∷ later) named q =
    find-noted_all number later (put key_cmp write.0 number named) q
    ∙ ap (λ (o : Option ℕ). newer o (option_map (λ change. number) (find key_cmp q later)))
    (find-put key_cmp nat_list_cmp_total q write.0 number named)
    ∙ by_test (eq_by_cmp key_cmp q write.0) (find key_cmp q later)
  where
    by_test : (b : Bool) (o : Option Change)
        → newer (cond b (Some number) (find key_cmp q named)) (option_map (λ change. number) o) ≡ newer
        (find key_cmp q named) (option_map (λ change. number) (cond b (Some write.1) o))
    by_test true None = refl
    by_test true (Some change) = refl
    by_test false o = refl

newer-assoc : (a b c : Option ℕ) → newer (newer a b) c ≡ newer a (newer b c)
newer-assoc a b None = refl
newer-assoc a b (Some c) = refl

newer-none : (o : Option ℕ) → newer None o ≡ o
newer-none None = refl
newer-none (Some n) = refl

last_naming-append : (number : ℕ) (commits : List Writes) (writes : Writes) (q : List ℕ)
    → last_naming number (commits ++ (writes ∷ [])) q ≡ newer (last_naming number commits q)
    (option_map (λ change. number + length commits) (get writes q))
last_naming-append number [] writes q = ap (λ (n : ℕ). option_map (λ change. n) (get writes q)) none_more
    ∙ sym (newer-none (option_map (λ change. number + 0) (get writes q)))
  where
    none_more : number ≡ number + 0
    none_more = omega arith
last_naming-append number (first ∷ commits) writes q =
    ap (newer (option_map (λ change. number) (get first q))) (last_naming-append (number + 1) commits writes q)
    ∙ sym (newer-assoc (option_map (λ change. number) (get first q)) (last_naming (number + 1) commits q)
    (option_map (λ change. number + 1 + length commits) (get writes q)))
    ∙ ap (λ (n : ℕ). newer (last_naming number (first ∷ commits) q) (option_map (λ change. n) (get writes q))) one_more
  where
    one_more : number + 1 + length commits ≡ number + length (first ∷ commits)
    one_more = omega arith

since-newer : (floor : ℕ) (a b later : Option ℕ) → since floor a ≡ since floor b → since floor (newer a later) ≡ since floor (newer b later)
since-newer floor a b None same = same
since-newer floor a b (Some n) same = refl

pub with_noted : (floor : ℕ) (h : History) (named : List Named) (writes : Writes) → Remembers floor h named
    → Remembers floor (with_commit h writes) (noted_all (last_number h + 1) (entries writes) named)
with_noted floor h named writes remembers = record { rising = rises; last = last }
  where
    rises : is_sorted key_cmp (noted_all (last_number h + 1) (entries writes) named) ≡ true
    rises = from_T (is_sorted key_cmp (noted_all (last_number h + 1) (entries writes) named))
        (rising_all (last_number h + 1) (entries writes) named (as_T (is_sorted key_cmp named) remembers.rising))

    number_is : last_number h + 1 ≡ h.first + 1 + length h.commits
    number_is = omega arith

    last : (q : List ℕ) → since floor (find key_cmp q (noted_all (last_number h + 1) (entries writes) named)) ≡ since
        floor (last_naming (h.first + 1) (h.commits ++ (writes ∷ [])) q)
    last q =
        ap (since floor) (find-noted_all (last_number h + 1) (entries writes) named q
        ∙ ap (λ (o : Option Change). newer (find key_cmp q named) (option_map (λ change. last_number h + 1) o))
        (sym (get-entries writes q)))
        ∙ since-newer floor (find key_cmp q named) (last_naming (h.first + 1) h.commits q)
        (option_map (λ change. last_number h + 1) (get writes q)) (remembers.last q)
        ∙ ap (λ (n : ℕ). since floor (newer (last_naming (h.first + 1) h.commits q) (option_map (λ change. n) (get writes q)))) number_is
        ∙ sym (ap (since floor) (last_naming-append (h.first + 1) h.commits writes q))
