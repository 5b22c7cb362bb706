-- What cursors have left, cut to an interval, has the winners of their sources.
use Rattle.std.proofs.Common.{◌≡◌, ℕ, Bool, true, false, cond, List, [], ◌∷◌, ◌++◌, map}
use Rattle.std.proofs.Common.{reverse, refl, ap, sym, ◌∙◌, subst, append-nil}
use Rattle.std.specs.Prelude.{Option, None, IsTrue}
use Rattle.std.specs.FinMap.{is_sorted}
use Rattle.std.specs.Ordering.{is_gt}
use Rattle.std.proofs.lemmas.List.{reverse-append}
use Rattle.std.specs.List.{AllByRecursion, filter, flat_map}
use Rattle.std.proofs.lemmas.Grind.{flat_map-append}
use Rattle.vl_memtable.specs.Contents.{Contents, GiveWithin, all_of}
use Rattle.vl_model.specs.Merging.{IsAlong, IsFirst}
use Rattle.vl_model.specs.Entries.{entry_cmp}
use Rattle.vl_model.specs.Keys.{key_cmp}
use Rattle.vl_model.specs.Order.{way_cmp}
use Rattle.vl_model.specs.Reads.{is_in_span, is_within}
use Rattle.vl_model.specs.Winners.{newest_of, winner}
use Rattle.vl_model.specs.laws.WinnerLaws.{winner-append, winner-in_order}
use Rattle.vl_model.specs.declared.entry.Entry.{Entry}
use Rattle.vl_model.specs.declared.span.Span.{Span}
use Rattle.vl_model.specs.declared.way.Way.{Way}
use Rattle.vl_model.specs.declared.way.Way.TheVariants.{Up, Down}
use Rattle.vl_model.specs.EntryOrder.{IsInOrder, along, within}
use Rattle.vl_model.specs.laws.OrderLaws.{IsBefore, IsRising, rising}
use Rattle.vl_version.specs.Gathered.{GiveWinners, span_of}
use Rattle.vl_version.specs.Own.{own_entries, own_entry}
use Rattle.vl_version.proofs.CutLaws.{Write, true_T}
use Rattle.vl_version.proofs.OwnLaws.{rising-own}
use Rattle.vl_version.proofs.ScanLaws.{in_span_of}
use Rattle.vl_version.proofs.Winning.{rising-within, winner-cut, winner-within}

all_both : (P : List Entry → Type 0) (xs ys : List (List Entry)) → AllByRecursion P xs → AllByRecursion P ys → AllByRecursion P (xs ++ ys)
all_both P [] ys here there = there
all_both P (x ∷ xs) ys here there = (here.0, all_both P xs ys here.1 there)

none_inside : (b : Bool) (key : List ℕ) (number : ℕ) → winner [] key number ≡ cond b (winner [] key number) None
none_inside true key number = refl
none_inside false key number = refl

both_inside : (b : Bool) (v w : Option Entry) → newest_of (cond b v None) (cond b w None) ≡ cond b (newest_of v w) None
both_inside true v w = refl
both_inside false v w = refl

module _ (span : Span) (way : Way) where
  pub give_none : GiveWinners span way [] []
  give_none = record { along = tt; winners = λ key number. none_inside (is_in_span span key) key number }

  pub give_both : (es fs : List Entry) (left more : List (List Entry)) → GiveWinners span way es left → GiveWinners span way fs more
      → GiveWinners span way (es ++ fs) (left ++ more)
  give_both es fs left more newer older = record {
    along = all_both (IsAlong way) left more newer.along older.along;
    winners = λ key number.
        ap (λ l. winner l key number) (flat_map-append (λ (gs : List Entry). gs) left more)
        ∙ winner-append key number (flat_map (λ (gs : List Entry). gs) left) (flat_map (λ (gs : List Entry). gs) more)
        ∙ ap (λ w. newest_of w (winner (flat_map (λ (gs : List Entry). gs) more) key number)) (newer.winners key number)
        ∙ ap (newest_of (cond (is_in_span span key) (winner es key number) None)) (older.winners key number)
        ∙ both_inside (is_in_span span key) (winner es key number) (winner fs key number)
        ∙ ap (λ w. cond (is_in_span span key) w None) (sym (winner-append key number es fs));
  }

  cut_runs : (runs : List (List Entry)) → AllByRecursion IsInOrder runs → (key : List ℕ) (number : ℕ)
      → winner (flat_map (λ (gs : List Entry). gs) (map (λ run. along way (within span run)) runs)) key number
      ≡ cond (is_in_span span key) (winner (all_of runs) key number) None
  cut_runs [] in_order key number = none_inside (is_in_span span key) key number
  cut_runs (run ∷ runs) in_order key number =
      winner-append key number (along way (within span run))
      (flat_map (λ (gs : List Entry). gs) (map (λ r. along way (within span r)) runs))
      ∙ ap (λ w. newest_of w (winner (flat_map (λ (gs : List Entry). gs) (map (λ r. along way (within span r)) runs))
      key number)) (winner-cut key number span way run (rising run in_order.0))
      ∙ ap (newest_of (cond (is_in_span span key) (winner run key number) None)) (cut_runs runs in_order.1 key number)
      ∙ both_inside (is_in_span span key) (winner run key number) (winner (all_of runs) key number)
      ∙ ap (λ w. cond (is_in_span span key) w None) (sym (winner-append key number run (all_of runs)))

  -- the cursors of a memtable
  pub give_memtable : (held : Contents) (left : List (List Entry)) → GiveWithin span way held left → GiveWinners span way held.entries left
  give_memtable held left give = record {
    along = give.along;
    winners = λ key number.
        ap (λ l. winner (flat_map (λ (gs : List Entry). gs) l) key number) give.each
        ∙ cut_runs give.runs give.rising key number
        ∙ ap (λ w. cond (is_in_span span key) w None)
        (sym (ap (λ l. winner l key number) give.entries ∙ winner-in_order key number (all_of give.runs)));
  }

-- ---- own writes

first-before : (e : Entry) (es : List Entry) → IsBefore e es → IsFirst Up e es
first-before e [] before = tt
first-before e (f ∷ fs) before = (ap is_gt before.0, first-before e fs before.1)

along-last : (es : List Entry) (e : Entry) → IsAlong Down es
    → AllByRecursion (λ f. is_gt (way_cmp Down f e) ≡ false) es → IsAlong Down (es ++ e ∷ [])
along-last [] e along behind = (tt, tt)
along-last (f ∷ fs) e along behind = (first-more fs along.0, along-last fs e along.1 behind.1)
  where
    first-more : (gs : List Entry) → IsFirst Down f gs → IsFirst Down f (gs ++ e ∷ [])
    first-more [] first = (behind.0, tt)
    first-more (g ∷ gs) first = (first.0, first-more gs first.1)

all-reverse : (P : Entry → Type 0) (es : List Entry) → AllByRecursion P es → AllByRecursion P (reverse es)
all-reverse P [] all = tt
all-reverse P (e ∷ es) all = subst (AllByRecursion P) (sym (reverse-append (e ∷ []) es)) (all-last (reverse es) (all-reverse P es all.1))
  where
    all-last : (fs : List Entry) → AllByRecursion P fs → AllByRecursion P (fs ++ e ∷ [])
    all-last [] later = (all.0, tt)
    all-last (f ∷ fs) later = (later.0, all-last fs later.1)

along-rising : (way : Way) (es : List Entry) → IsRising es → IsAlong way (along way es)
along-rising Up [] rising = tt
along-rising Up (e ∷ es) rising = (first-before e es rising.0, along-rising Up es rising.1)
along-rising Down [] rising = tt
along-rising Down (e ∷ es) rising =
    subst (IsAlong Down) (sym (reverse-append (e ∷ []) es))
    (along-last (reverse es) e (along-rising Down es rising.1)
    (all-reverse (λ f. is_gt (entry_cmp e f) ≡ false) es (first-before e es rising.0)))

own-within : (low high : List ℕ) (number : ℕ) (ws : List Write)
    → own_entries number (filter (λ (write : Write). is_within low high write.0) ws) ≡ within (span_of low high) (own_entries number ws)
own-within low high number [] = refl
own-within low high number (w ∷ ws) =
    by (is_within low high w.0) (own-within low high number ws)
    ∙ ap (λ b. cond b (own_entry number w ∷ within (span_of low high) (own_entries number ws))
    (within (span_of low high) (own_entries number ws))) (sym (in_span_of low high w.0))
  where
    by : (b : Bool) → own_entries number (filter (λ (write : Write). is_within low high write.0) ws) ≡ within
        (span_of low high) (own_entries number ws)
        → own_entries number (cond b (w ∷ filter (λ (write : Write). is_within low high write.0) ws)
        (filter (λ (write : Write). is_within low high write.0) ws))
        ≡ cond b (own_entry number w ∷ within (span_of low high) (own_entries number ws))
        (within (span_of low high) (own_entries number ws))
    by true later = ap (λ l. own_entry number w ∷ l) later
    by false later = later

-- a cursor over entries in order, cut to the interval
pub give_cut : (span : Span) (way : Way) (es : List Entry) → IsRising es → GiveWinners span way es (along way (within span es) ∷ [])
give_cut span way es rises = record {
  along = (along-rising way (within span es) (rising-within [] 0 span es rises), tt);
  winners = λ key n. ap (λ l. winner l key n) (append-nil (along way (within span es))) ∙ winner-cut key n span way es rises;
}

-- none where none of the entries is in it
pub give_nothing : (span : Span) (way : Way) (es : List Entry) → within span es ≡ [] → GiveWinners span way es []
give_nothing span way es none = record {
  along = tt;
  winners = λ key n. ap (λ l. winner l key n) (sym none) ∙ winner-within key n span es;
}

-- the cursor of own writes
pub give_own : (low high : List ℕ) (way : Way) (number : ℕ) (ws : List Write) → IsTrue (is_sorted key_cmp ws)
    → GiveWinners (span_of low high) way (own_entries number ws)
    (along way (own_entries number (filter (λ (write : Write). is_within low high write.0) ws)) ∷ [])
give_own low high way number ws sorted =
    subst (λ (l : List Entry). GiveWinners (span_of low high) way (own_entries number ws) (along way l ∷ []))
    (sym (own-within low high number ws))
    (give_cut (span_of low high) way (own_entries number ws) (rising-own number ws (true_T (is_sorted key_cmp ws) sorted)))
