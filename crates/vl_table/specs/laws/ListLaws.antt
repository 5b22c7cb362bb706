-- Items are taken from the left, one after the other, and in one way.
use Rattle.std.specs.Prelude.{◌≡◌, ◌<◌, ◌≤◌, ◌+◌, ℕ, List, [], ◌∷◌, ◌++◌, length, get_or, suc, ◌-◌, Some, refl}
use Rattle.std.specs.List.{AllByRecursion}
use Rattle.std.proofs.Common.{sym, ap, subst, ◌∙◌, append_assoc, length-append, append-nil, arith}
use Rattle.vl_frame.specs.laws.NumberLaws.{one_number}
use Rattle.vl_table.specs.body.Lists.{Spelling, items_bytes, counted_bytes, AreOrdered, AreLawful, IsRun, IsNext, last_item}

module _ {Item : Type 0} where
  pub last-push : (items : List Item) (a : Item) → last_item (items ++ a ∷ []) ≡ Some a
  last-push [] a = refl
  last-push (b ∷ []) a = refl
  last-push (b ∷ c ∷ items) a = last-push (c ∷ items) a

  pub last-of : (items : List Item) (d : Item) → 0 < length items → last_item items ≡ Some (get_or items (length items - 1) d)
  last-of [] d some = absurd (omega arith)
  last-of (a ∷ []) d some = refl
  last-of (a ∷ b ∷ items) d some = last-of (b ∷ items) d (omega arith)
      ∙ ap (λ (n : ℕ). Some (get_or (a ∷ b ∷ items) n d)) (one_less (length items))
    where
      one_less : (n : ℕ) → suc (suc n - 1) ≡ suc (suc n) - 1
      one_less n = omega arith

  pub push-assoc : (items : List Item) (a : Item) (others : List Item) → (items ++ a ∷ []) ++ others ≡ items ++ a ∷ others
  push-assoc items a others = append_assoc items (a ∷ []) others

module _ {Item : Type 0} (S : Spelling Item) where
  pub items_bytes-append : (items others : List Item)
      → items_bytes S (items ++ others) ≡ items_bytes S items ++ items_bytes S others
  items_bytes-append [] others = refl
  items_bytes-append (a ∷ items) others =
      ap (λ (l : List ℕ). S.bytes a ++ l) (items_bytes-append items others)
      ∙ sym (append_assoc (S.bytes a) (items_bytes S items) (items_bytes S others))

  -- one item more
  pub items_bytes-push : (items : List Item) (a : Item) → items_bytes S (items ++ a ∷ []) ≡ items_bytes S items ++ S.bytes a
  items_bytes-push items a =
      items_bytes-append items (a ∷ []) ∙ ap (λ (l : List ℕ). items_bytes S items ++ l) (append-nil (S.bytes a))

  pub all-push : (items : List Item) (a : Item) → AllByRecursion S.lawful items → S.lawful a
      → AllByRecursion S.lawful (items ++ a ∷ [])
  all-push [] a all one = (one, tt)
  all-push (b ∷ items) a all one = (all.0, all-push items a all.1 one)

  pub ordered-push : (items : List Item) (a : Item) → AreOrdered S items → IsNext S (last_item items) a
      → AreOrdered S (items ++ a ∷ [])
  ordered-push [] a ordered next = (tt, tt)
  ordered-push (b ∷ []) a ordered next = (next, (tt, tt))
  ordered-push (b ∷ c ∷ items) a ordered next = (ordered.0, ordered-push (c ∷ items) a ordered.1 next)

  pub ordered-split : (items : List Item) (a : Item) (others : List Item) → AreOrdered S (items ++ a ∷ others)
      → IsNext S (last_item items) a
  ordered-split [] a others ordered = tt
  ordered-split (b ∷ []) a others ordered = ordered.0
  ordered-split (b ∷ c ∷ items) a others ordered = ordered-split (c ∷ items) a others ordered.1

  -- ---- what is left behind the items that were taken

  pub record Behind (all taken : List Item) (rest : List ℕ) : Type 0 where
    pub later : List Item
    pub split : all ≡ taken ++ later
    pub each : AllByRecursion S.lawful later
    pub spelled : rest ≡ items_bytes S later

  -- the first of the items that are left
  pub record Next (all taken : List Item) (a : Item) (after : List ℕ) : Type 0 where
    pub later : List Item
    pub split : all ≡ taken ++ a ∷ later
    pub each : AllByRecursion S.lawful later
    pub spelled : after ≡ items_bytes S later

  none_left : (later : List Item) (rest : List ℕ) (a : Item) (after : List ℕ) → length rest ≡ 0
      → rest ≡ S.bytes a ++ after → 1 ≤ length (S.bytes a) → ⊥
  none_left later rest a after none e some = omega (arith, ap length e, length-append (S.bytes a) after)

  next_of : (all taken later : List Item) (rest : List ℕ) (a : Item) (after : List ℕ) → all ≡ taken ++ later → AllByRecursion S.lawful later
      → rest ≡ items_bytes S later → 1 ≤ length (S.bytes a) → S.lawful a → rest ≡ S.bytes a ++ after → Next all taken a after
  next_of all taken [] rest a after split each spelled some lawful e = absurd (none_left [] rest a after (ap length spelled) e some)
  next_of all taken (b ∷ later) rest a after split each spelled some lawful e =
      let one = S.one b a (items_bytes S later) after each.0 lawful (sym spelled ∙ e) in
      record {
        later = later;
        split = split ∙ ap (λ (x : Item). taken ++ x ∷ later) one.0;
        each = each.1;
        spelled = sym one.1;
      }

  pub next : (all taken : List Item) (rest : List ℕ) (a : Item) (after : List ℕ) → Behind all taken rest → 1 ≤ length (S.bytes a)
      → S.lawful a → rest ≡ S.bytes a ++ after → Next all taken a after
  next all taken rest a after behind some lawful e = next_of all taken behind.later rest a after behind.split
      behind.each behind.spelled some lawful e

  pub one_more : (all taken : List Item) (a : Item) (after : List ℕ) → Next all taken a after → Behind all (taken ++ a ∷ []) after
  one_more all taken a after n = record {
    later = n.later;
    split = n.split ∙ sym (push-assoc taken a n.later);
    each = n.each;
    spelled = n.spelled;
  }

  none_later : (all taken later : List Item) (rest : List ℕ) → all ≡ taken ++ later → AllByRecursion S.lawful later
      → rest ≡ items_bytes S later
      → ((a : Item) (after : List ℕ) → S.lawful a → rest ≡ S.bytes a ++ after → ⊥) → all ≡ taken
  none_later all taken [] rest split each spelled none = split ∙ append-nil taken
  none_later all taken (b ∷ later) rest split each spelled none = absurd (none b (items_bytes S later) each.0 spelled)

  -- where no item stands all were taken
  pub all_taken : (all taken : List Item) (rest : List ℕ) → Behind all taken rest
      → ((a : Item) (after : List ℕ) → S.lawful a → rest ≡ S.bytes a ++ after → ⊥) → all ≡ taken
  all_taken all taken rest behind none = none_later all taken behind.later rest behind.split behind.each behind.spelled none

  -- ---- reading a list

  -- So many items were taken from the bytes, and the rest stands behind them. Of each list of so many in all that the bytes
  -- are they are the first.
  pub record SoFar (bytes : List ℕ) (total count : ℕ) (taken : List Item) (rest : List ℕ) : Type 0 where
    pub counted : length taken ≡ count
    pub each : AllByRecursion S.lawful taken
    pub ordered : AreOrdered S taken
    pub spelled : bytes ≡ items_bytes S taken ++ rest
    pub behind : (all : List Item) → IsRun S bytes total all → Behind all taken rest

  pub goes_on : (bytes : List ℕ) (total count : ℕ) (taken : List Item) (rest : List ℕ) (a : Item) (after : List ℕ)
      → SoFar bytes total count taken rest → 1 ≤ length (S.bytes a) → S.lawful a → rest ≡ S.bytes a ++ after → IsNext S (last_item taken) a
      → SoFar bytes total (count + 1) (taken ++ a ∷ []) after
  goes_on bytes total count taken rest a after so_far some lawful e follows = record {
    counted = length-append taken (a ∷ []) ∙ ap (λ (n : ℕ). n + 1) so_far.counted;
    each = all-push taken a so_far.each lawful;
    ordered = ordered-push taken a so_far.ordered follows;
    spelled = so_far.spelled ∙ ap (λ (r : List ℕ). items_bytes S taken ++ r) e
        ∙ sym (append_assoc (items_bytes S taken) (S.bytes a) after)
        ∙ ap (λ (r : List ℕ). r ++ after) (sym (items_bytes-push taken a));
    behind = λ all run. one_more all taken a after (next all taken rest a after (so_far.behind all run) some lawful e);
  }

  -- an item is missing
  pub cut : (bytes : List ℕ) (total count : ℕ) (taken : List Item) (rest : List ℕ) → SoFar bytes total count taken rest → count < total
      → ((a : Item) (after : List ℕ) → S.lawful a → rest ≡ S.bytes a ++ after → ⊥) → (all : List Item) → IsRun S bytes total all → ⊥
  cut bytes total count taken rest so_far less none all run =
      let same = all_taken all taken rest (so_far.behind all run) none in
      omega (arith, ap length same, run.counted, so_far.counted)

  -- an item isn't in order
  pub not_next : (bytes : List ℕ) (total count : ℕ) (taken : List Item) (rest : List ℕ) (a : Item) (after : List ℕ)
      → SoFar bytes total count taken rest → 1 ≤ length (S.bytes a) → S.lawful a → rest ≡ S.bytes a ++ after
      → (IsNext S (last_item taken) a → ⊥) → (all : List Item) → IsRun S bytes total all → ⊥
  not_next bytes total count taken rest a after so_far some lawful e apart all run =
      let n = next all taken rest a after (so_far.behind all run) some lawful e in
      apart (ordered-split taken a n.later (subst (AreOrdered S) n.split run.ordered))

  pub done : (bytes : List ℕ) (total count : ℕ) (taken : List Item) (rest : List ℕ) → SoFar bytes total count taken rest → count ≡ total
      → length rest ≡ 0 → IsRun S bytes total taken
  done bytes total count taken rest so_far eq empty = record {
    counted = so_far.counted ∙ eq;
    each = so_far.each;
    ordered = so_far.ordered;
    spelled = so_far.spelled ∙ without rest (items_bytes S taken) empty;
  }
    where
      without : (rest front : List ℕ) → length rest ≡ 0 → front ++ rest ≡ front
      without [] front empty = append-nil front
      without (b ∷ rest) front empty = absurd (omega arith)

  -- ---- a counted list

  pub same_items : (items others : List Item) → AllByRecursion S.lawful items → AllByRecursion S.lawful others → length items ≡ length others
      → items_bytes S items ≡ items_bytes S others → items ≡ others
  same_items [] [] i j n e = refl
  same_items [] (b ∷ others) i j n e = absurd (omega arith)
  same_items (a ∷ items) [] i j n e = absurd (omega arith)
  same_items (a ∷ items) (b ∷ others) i j n e =
      let one = S.one a b (items_bytes S items) (items_bytes S others) i.0 j.0 e in
      let rest = same_items items others i.1 j.1 (omega arith) one.1 in
      λ k. one.0 k ∷ rest k

  -- A body spells one list at most.
  pub one_list : (body : List ℕ) (items others : List Item) → AreLawful S items → AreLawful S others
      → body ≡ counted_bytes S items → body ≡ counted_bytes S others → items ≡ others
  one_list body items others i j e f =
      let count = one_number 4 (length items) (length others) (items_bytes S items) (items_bytes S others) i.few j.few (sym e ∙ f) in
      same_items items others i.each j.each count.0 count.1
