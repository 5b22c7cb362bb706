-- The entries of a memtable's runs, merged, are those of the memtable.
use Rattle.std.specs.Prelude.{◌≡◌, ℕ, ◌+◌, ◌≤◌, if◌then◌else◌, List, [], ◌∷◌, ◌++◌, length, map, sum, Some, refl}
use Rattle.std.specs.List.{AllByRecursion, flat_map}
use Rattle.std.specs.Ordering.{is_gt}
use Rattle.std.specs.declared.cmp.Ordering.TheVariants.{Equal, Greater, Less}
use Rattle.std.specs.declared.cmp.Ordering.{Ordering}
use Rattle.std.proofs.Common.{sym, ap, ◌∙◌, arith, length-append}
use Rattle.std.proofs.lemmas.List.Sums.{sum_by-cons}
use Rattle.vl_memtable.specs.Contents.{Contents, GiveAll, all_of}
use Rattle.vl_memtable.specs.Facts.{HasFewRuns}
use Rattle.vl_merge.specs.MergeOf.{merge_of}
use Rattle.vl_model.specs.Merging.{IsAlong, merged, place}
use Rattle.vl_model.specs.Entries.{by_order, entry_cmp, in_order, put}
use Rattle.vl_model.specs.declared.entry.Entry.{Entry}
use Rattle.vl_model.specs.declared.way.Way.TheVariants.{Up}
use Rattle.vl_model.specs.declared.way.Way.{Way}
use Rattle.vl_model.specs.EntryOrder.{along}
use Rattle.vl_model.specs.laws.OrderLaws.{length-in_order}

-- ---- where no key and version stands twice

put_more : (e : Entry) (es : List Entry) → length (put e es) ≤ length es + 1
put_more e [] = omega arith
put_more e (f ∷ fs) = by (put_more e fs) (entry_cmp e f)
  where
    by : length (put e fs) ≤ length fs + 1 → (r : Ordering)
        → length (by_order r (e ∷ f ∷ fs) (e ∷ fs) (f ∷ put e fs)) ≤ length (f ∷ fs) + 1
    by later Less = omega arith
    by later Equal = omega arith
    by later Greater = omega (arith, later)

place_put : (e : Entry) (es : List Entry) → length (put e es) ≡ length es + 1 → place Up e es ≡ put e es
place_put e [] one = refl
place_put e (f ∷ fs) one = by (place_put e fs) (entry_cmp e f) one
  where
    by : (length (put e fs) ≡ length fs + 1 → place Up e fs ≡ put e fs) → (r : Ordering)
        → length (by_order r (e ∷ f ∷ fs) (e ∷ fs) (f ∷ put e fs)) ≡ length (f ∷ fs) + 1
        → (if is_gt r then f ∷ place Up e fs else e ∷ f ∷ fs) ≡ by_order r (e ∷ f ∷ fs) (e ∷ fs) (f ∷ put e fs)
    by later Less longer = refl
    by later Equal longer = absurd (omega (arith, longer))
    by later Greater longer = ap (λ (l : List Entry). f ∷ l) (later (omega (arith, longer)))

merged_in_order : (es : List Entry) → length (in_order es) ≡ length es → merged Up es ≡ in_order es
merged_in_order [] whole = refl
merged_in_order (e ∷ es) whole =
    let rest : length (in_order es) ≡ length es = omega (arith, whole, put_more e (in_order es), length-in_order es) in
    ap (place Up e) (merged_in_order es rest) ∙ place_put e (in_order es) (omega (arith, whole, rest))

-- ---- of runs

flat_all : (runs : List (List Entry)) → flat_map (λ es. es) runs ≡ all_of runs
flat_all [] = refl
flat_all (run ∷ runs) = ap (λ (l : List Entry). run ++ l) (flat_all runs)

along_up : (runs : List (List Entry)) → map (along Up) runs ≡ runs
along_up [] = refl
along_up (run ∷ runs) = ap (λ (l : List (List Entry)). run ∷ l) (along_up runs)

sum_lengths : (runs : List (List Entry)) → sum (map length runs) ≡ length (all_of runs)
sum_lengths [] = refl
sum_lengths (run ∷ runs) = sum_by-cons (λ k. k) (length run) (map length runs)
    ∙ ap (λ (n : ℕ). length run + n) (sum_lengths runs) ∙ sym (length-append run (all_of runs))

-- Cursors over all runs give together, merged, what the memtable has.
pub merged_runs : (held : Contents) (left : List (List Entry)) → GiveAll Up held left → HasFewRuns held
    → ((way : Way) (sources : List (List Entry)) → AllByRecursion (IsAlong way) sources
    → merge_of way (map Some sources) ≡ Some (merged way (flat_map (λ es. es) sources)))
    → merge_of Up (map Some left) ≡ Some held.entries
merged_runs held left give few told =
    told Up left give.along
    ∙ ap (λ (ls : List (List Entry)). Some (merged Up (flat_map (λ es. es) ls))) (give.each ∙ along_up give.runs)
    ∙ ap (λ (es : List Entry). Some (merged Up es)) (flat_all give.runs)
    ∙ ap Some (merged_in_order (all_of give.runs) whole ∙ sym give.entries)
  where
    whole : length (in_order (all_of give.runs)) ≡ length (all_of give.runs)
    whole = sym (ap length give.entries) ∙ sym few.whole ∙ ap sum give.lengths ∙ sum_lengths give.runs
