-- A run over others, one behind the other.
use Rattle.std.proofs.Common.{◌≡◌, ℕ, ◌+◌, ◌<◌, ◌≤◌, List, [], ◌∷◌, ◌++◌, length, drop, get_or, sym, ap, ◌∙◌, map, subst, arith, append-nil, append_assoc}
use Rattle.std.proofs.lemmas.List.{drop_all}
use Rattle.std.specs.declared.cmp.Ordering.TheVariants.{Less, Equal, Greater}
use Rattle.vl_model.specs.Entries.{by_order, entry_cmp, in_order, put}
use Rattle.vl_model.specs.declared.entry.Entry.{Entry}
use Rattle.vl_model.specs.laws.OrderLaws.{in_order-back, in_order-front}
use Rattle.vl_model.specs.EntryOrder.{IsInOrder}
use Rattle.vl_memtable.specs.Contents.{all_of}
use Rattle.vl_memtable.specs.Lengths.{one_run}
use Rattle.vl_memtable.proofs.RunLists.{drop_next}

some-put : (e : Entry) (es : List Entry) → 0 < length (put e es)
some-put e [] = omega arith
some-put e (f ∷ fs) = elim (entry_cmp e f) as (λ r. 0 < length (by_order r (e ∷ f ∷ fs) (e ∷ fs) (f ∷ put e fs))) [
  | Less ↦ omega arith
  | Equal ↦ omega arith
  | Greater ↦ omega arith
]

some_joined : (front next : List Entry) → 0 < length front → 0 < length (in_order (front ++ next))
some_joined [] next some = absurd (omega (arith, some))
some_joined (e ∷ es) next some = some-put e (in_order (es ++ next))

-- a front that stands for the run over what came before the rest
pub record IsOver (run front : List Entry) (runs rest : List (List Entry)) : Type 0 where
  pub entries : in_order (front ++ all_of rest) ≡ in_order (run ++ all_of runs)
  pub some : 0 < length front

pub over_next : (run front now : List Entry) (runs : List (List Entry)) (i : ℕ) (next : List Entry) → i < length runs
    → next ≡ get_or runs i next
    → IsOver run front runs (drop i runs) → now ≡ in_order (front ++ next) → IsOver run now runs (drop (i + 1) runs)
over_next run front now runs i next within is so joined = subst (λ l. IsOver run l runs (drop (i + 1) runs)) (sym joined) (record {
  entries = in_order-front (front ++ next) (all_of (drop (i + 1) runs))
      ∙ ap in_order (append_assoc front next (all_of (drop (i + 1) runs)))
      ∙ ap (λ l. in_order (front ++ all_of l)) (sym (drop_next runs i next within is)) ∙ so.entries;
  some = some_joined front next so.some;
})

pub over_all : (run front : List Entry) (runs : List (List Entry)) (i : ℕ) → length runs ≤ i → IsOver run front runs (drop i runs)
    → in_order (all_of (front ∷ [])) ≡ in_order (run ++ in_order (all_of runs))
over_all run front runs i past so =
    ap (λ l. in_order (front ++ all_of l)) (sym (drop_all i runs past)) ∙ so.entries ∙ sym (in_order-back run (all_of runs))

-- a list of one run has this length alone
pub as_one : (front : List Entry) (runs : List (List Entry)) → 0 < length front → IsInOrder front → runs ≡ front ∷ []
    → map length runs ≡ one_run (in_order (all_of runs))
as_one [] runs some rising are = absurd (omega (arith, some))
as_one (e ∷ es) runs some rising are = subst (λ (rs : List (List Entry)). map length rs ≡ one_run (in_order (all_of rs))) (sym are)
    (sym (ap (λ (l : List Entry). one_run l) (ap in_order (append-nil (e ∷ es)) ∙ rising)))
