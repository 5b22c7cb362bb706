-- An entry behind others keeps them in order.
use Rattle.std.specs.Prelude.{◌≡◌, ◌≤◌, ℕ, true, List, [], ◌∷◌, ◌++◌, length}
use Rattle.std.specs.Ordering.{is_lt, nat_cmp, ordering_then}
use Rattle.std.specs.declared.cmp.Ordering.{Ordering}
use Rattle.std.specs.declared.cmp.Ordering.TheVariants.{Less, Equal, Greater}
use Rattle.std.proofs.Common.{refl, sym, ◌∙◌, arith}
use Rattle.vl_model.specs.Entries.{entry_cmp, in_order}
use Rattle.vl_model.specs.Formats.{table_format}
use Rattle.vl_model.specs.Keys.{key_cmp}
use Rattle.vl_model.specs.declared.entry.Entry.{Entry}
use Rattle.vl_model.specs.laws.OrderLaws.{IsRising, before-all, in_order-rising, rising}
use Rattle.vl_table.specs.body.Blocks.{entries}
use Rattle.vl_model.specs.Cutting.{last_key}
use Rattle.vl_table.specs.body.Lists.{IsNext, last_item}
use Rattle.vl_table.specs.writer.Writing.{last_version}

pub last_version-push : (es : List Entry) (e : Entry) → last_version (es ++ e ∷ []) ≡ e.version
last_version-push [] e = refl
last_version-push (d ∷ []) e = refl
last_version-push (d ∷ f ∷ es) e = last_version-push (f ∷ es) e

pub less_from : (r : Ordering) → is_lt r ≡ true → r ≡ Less
less_from Less is = refl
less_from Equal is = absurd cc
less_from Greater is = absurd cc

-- how the place of the last entry, which has this key and version, stands to another
abbrev pub last_cmp : List ℕ → ℕ → Entry → Ordering
last_cmp key version e = ordering_then (key_cmp key e.key) (nat_cmp e.version version)

pub next_from : (es : List Entry) (e : Entry) (key : List ℕ) (version : ℕ) → 1 ≤ length es → key ≡ last_key es → version ≡ last_version es
    → last_cmp key version e ≡ Less → IsNext (entries table_format) (last_item es) e
next_from [] e key version some k v less = absurd (omega arith)
next_from (d ∷ []) e key version some k v less = sym (λ i. last_cmp (k i) (v i) e) ∙ less
next_from (d ∷ f ∷ fs) e key version some k v less = next_from (f ∷ fs) e key version (omega arith) k v less

pub next_less : (es : List Entry) (e : Entry) (key : List ℕ) (version : ℕ) → 1 ≤ length es → key ≡ last_key es → version ≡ last_version es
    → IsNext (entries table_format) (last_item es) e → last_cmp key version e ≡ Less
next_less [] e key version some k v next = absurd (omega arith)
next_less (d ∷ []) e key version some k v next = (λ i. last_cmp (k i) (v i) e) ∙ next
next_less (d ∷ f ∷ fs) e key version some k v next = next_less (f ∷ fs) e key version (omega arith) k v next

rising-push : (es : List Entry) (e : Entry) → IsRising es → IsNext (entries table_format) (last_item es) e → IsRising (es ++ e ∷ [])
rising-push [] e rises next = (tt, tt)
rising-push (d ∷ []) e rises next = ((next, tt), (tt, tt))
rising-push (d ∷ f ∷ fs) e rises next =
    let rest = rising-push (f ∷ fs) e rises.1 next in
    let low : entry_cmp d f ≡ Less = rises.0.0 in
    ((low, before-all d f (fs ++ e ∷ []) low rest.0), rest)

pub in_order-push : (es : List Entry) (e : Entry) → in_order es ≡ es → IsNext (entries table_format) (last_item es) e
    → in_order (es ++ e ∷ []) ≡ es ++ e ∷ []
in_order-push es e ordered next = in_order-rising (es ++ e ∷ []) (rising-push es e (rising es ordered) next)
