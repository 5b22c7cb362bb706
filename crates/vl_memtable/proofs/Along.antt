-- What stands at a place both ways through a list.
use Rattle.std.proofs.Common.{◌≡◌, ℕ, ◌+◌, ◌-◌, ◌<◌, List, ◌∷◌, length, drop, get_or, refl, ap, sym, ◌∙◌, arith, Some}
use Rattle.std.proofs.lemmas.List.{get_or-reverse, length-reverse}
use Rattle.vl_model.specs.declared.entry.Entry.{Entry}
use Rattle.vl_model.specs.declared.way.Way.{Way}
use Rattle.vl_model.specs.declared.way.Way.TheVariants.{Up, Down}
use Rattle.vl_model.specs.EntryOrder.{along}
use Rattle.vl_memtable.proofs.MergeSteps.{drop_at}

pub length-along : (way : Way) (es : List Entry) → length (along way es) ≡ length es
length-along Up es = refl
length-along Down es = length-reverse es

pub along-up : (way : Way) (es : List Entry) (i at : ℕ) (e : Entry) → way ≡ Up → at ≡ i → e ≡ get_or es at e
    → e ≡ get_or (along way es) i e
along-up Up es i at e is here found = found ∙ ap (λ n. get_or es n e) here
along-up Down es i at e is here found = absurd cc

pub along-down : (way : Way) (es : List Entry) (i at : ℕ) (e : Entry) → way ≡ Down → at ≡ length es - 1 - i → i < length es
    → e ≡ get_or es at e → e ≡ get_or (along way es) i e
along-down Up es i at e is here within found = absurd cc
along-down Down es i at e is here within found =
    found ∙ ap (λ n. get_or es n e) here ∙ sym (get_or-reverse es i e within)

pub gives_next : (es : List Entry) (i : ℕ) (e : Entry) → i < length es → e ≡ get_or es i e → (left : List Entry)
    → Some (drop i es) ≡ Some left → (rest : List Entry) × (left ≡ e ∷ rest) × (Some (drop (i + 1) es) ≡ Some rest)
gives_next es i e within is left here =
    let at = drop_at es i e within is in (drop (i + 1) es, (cc), refl)

-- what a cursor gives that reads at its place and moves on
pub given_next : (way : Way) (run entries : List Entry) (i : ℕ) (a e : Entry) → entries ≡ run → e ≡ a → i < length entries
    → a ≡ get_or (along way entries) i a → (left : List Entry) → Some (drop i (along way run)) ≡ Some left
    → (rest : List Entry) × (left ≡ e ∷ rest) × (Some (drop (i + 1) (along way run)) ≡ Some rest)
given_next way run entries i a e same is within found =
    let at : e ≡ get_or (along way run) i e = is ∙ found ∙ ap (λ x. get_or (along way entries) i x) (sym is)
    ∙ ap (λ l. get_or (along way l) i e) same in
    gives_next (along way run) i e (omega (arith, within, length-along way run, ap length same)) at
