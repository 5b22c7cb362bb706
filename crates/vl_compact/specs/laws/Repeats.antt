-- Entries of sources in one order, of which those that come again are left out, are these entries in order.
use Rattle.std.proofs.Common.{◌≡◌, Bool, true, false, cond, ◌&&◌, List, [], ◌∷◌, refl, ap, sym, ◌∙◌, arith, Option, Some, None}
use Rattle.std.proofs.lemmas.Bool.{and_parts}
use Rattle.std.proofs.lemmas.Bool.Decides.{nat_tests}
use Rattle.std.specs.Prelude.{◌==◌}
use Rattle.std.specs.Cmp.{alike_right}
use Rattle.std.specs.Ordering.{is_gt, ordering_then, nat_cmp, eq_by_cmp}
use Rattle.std.specs.declared.cmp.Ordering.{Ordering}
use Rattle.std.specs.declared.cmp.Ordering.TheVariants.{Less, Equal, Greater}
use Rattle.vl_model.specs.Merging.{place, merged}
use Rattle.vl_model.specs.Entries.{is_at, entry_cmp, put, in_order}
use Rattle.vl_model.specs.Keys.{key_cmp}
use Rattle.vl_model.specs.declared.entry.Entry.{Entry}
use Rattle.vl_model.specs.declared.way.Way.TheVariants.{Up}
use Rattle.vl_model.specs.laws.WinnerLaws.{same_key, key_tied, entries_tied}
use Rattle.vl_model.specs.laws.OrderLaws.{entry_total, turned, put-less, put-equal, put-greater}

pub true_false : true ≡ false → ⊥
true_false is = cc

-- ---- entries of one key and version

-- entries at one key and version tie
pub at_tied : (e f : Entry) → is_at e.key e.version f ≡ true → entry_cmp e f ≡ Equal
at_tied e f at =
    let both = and_parts (eq_by_cmp key_cmp e.key f.key) (f.version == e.version) at in
    ap (λ k. ordering_then (key_cmp e.key k) (nat_cmp f.version e.version)) (sym (same_key e.key f.key both.0))
    ∙ ap (λ r. ordering_then r (nat_cmp f.version e.version)) (key_tied e.key) ∙ tied both.1
  where
    tied : (f.version == e.version) ≡ true → nat_cmp f.version e.version ≡ Equal
    tied is = grind (arith, nat_tests, is)

pub tied_at : (e f : Entry) → entry_cmp e f ≡ Equal → is_at e.key e.version f ≡ true
tied_at e f tied =
    let both = entries_tied e f tied in
    ap (λ k. eq_by_cmp key_cmp e.key k && (f.version == e.version)) (sym both.0)
    ∙ ap (λ r. Rattle.std.specs.Ordering.is_eq r && (f.version == e.version)) (key_tied e.key) ∙ versions both.1
  where
    versions : f.version ≡ e.version → (f.version == e.version) ≡ true
    versions is = grind (arith, nat_tests, is)

pub not_at : (e f : Entry) → (entry_cmp e f ≡ Equal → ⊥) → is_at e.key e.version f ≡ false
not_at e f apart = by (is_at e.key e.version f) refl
  where
    by : (b : Bool) → is_at e.key e.version f ≡ b → b ≡ false
    by true is = absurd (apart (at_tied e f is))
    by false is = refl

pub less_not_at : (e f : Entry) → entry_cmp e f ≡ Less → is_at e.key e.version f ≡ false
less_not_at e f less = not_at e f (λ tied. differ (sym less ∙ tied))
  where
    differ : Less ≡ Equal → ⊥
    differ is = cc

-- ---- those that come again

-- the entry has the key and version of the one before
abbrev pub is_again : Option Entry → Entry → Bool
is_again None e = false
is_again (Some f) e = is_at f.key f.version e

-- of entries of one key and version that stand together the first
abbrev pub once : Option Entry → List Entry → List Entry
once last [] = []
once last (e ∷ es) = cond (is_again last e) (once last es) (e ∷ once (Some e) es)

abbrev pub IsLower : Option Entry → Entry → Type 0
IsLower None e = Unit {0}
IsLower (Some f) e = entry_cmp f e ≡ Less

lower_not_again : (last : Option Entry) (e : Entry) → IsLower last e → is_again last e ≡ false
lower_not_again None e lower = refl
lower_not_again (Some f) e lower = less_not_at f e lower

lower_less : (last : Option Entry) (e f : Entry) → IsLower last e → entry_cmp e f ≡ Less → IsLower last f
lower_less None e f lower less = tt
lower_less (Some d) e f lower less = entry_total.trans d e f lower less

lower_tied : (last : Option Entry) (e f : Entry) → IsLower last e → entry_cmp e f ≡ Equal → IsLower last f
lower_tied None e f lower tied = tt
lower_tied (Some d) e f lower tied = sym (alike_right entry_total e f d tied) ∙ lower

once-again : (last : Option Entry) (e : Entry) (es : List Entry) → is_again last e ≡ true → once last (e ∷ es) ≡ once last es
once-again last e es is = ap (λ b. cond b (once last es) (e ∷ once (Some e) es)) is

once-new : (last : Option Entry) (e : Entry) (es : List Entry) → is_again last e ≡ false
    → once last (e ∷ es) ≡ e ∷ once (Some e) es
once-new last e es is = ap (λ b. cond b (once last es) (e ∷ once (Some e) es)) is

-- the one before counts by its key and version alone
once-tied : (e f : Entry) (es : List Entry) → e.key ≡ f.key → e.version ≡ f.version
    → once (Some e) es ≡ once (Some f) es
once-tied e f [] keys versions = refl
once-tied e f (g ∷ gs) keys versions =
    ap (λ k. cond (is_at k e.version g) (once (Some e) gs) (g ∷ once (Some g) gs)) keys
    ∙ ap (λ v. cond (is_at f.key v g) (once (Some e) gs) (g ∷ once (Some g) gs)) versions
    ∙ ap (λ l. cond (is_at f.key f.version g) l (g ∷ once (Some g) gs)) (once-tied e f gs keys versions)

place-later : (e f : Entry) (fs : List Entry) → entry_cmp e f ≡ Greater → place Up e (f ∷ fs) ≡ f ∷ place Up e fs
place-later e f fs is = ap (λ r. cond (is_gt r) (f ∷ place Up e fs) (e ∷ f ∷ fs)) is

place-less : (e f : Entry) (fs : List Entry) → entry_cmp e f ≡ Less → place Up e (f ∷ fs) ≡ e ∷ f ∷ fs
place-less e f fs is = ap (λ r. cond (is_gt r) (f ∷ place Up e fs) (e ∷ f ∷ fs)) is

place-tied : (e f : Entry) (fs : List Entry) → entry_cmp e f ≡ Equal → place Up e (f ∷ fs) ≡ e ∷ f ∷ fs
place-tied e f fs is = ap (λ r. cond (is_gt r) (f ∷ place Up e fs) (e ∷ f ∷ fs)) is

-- an entry that is placed in front of those of its key and version is the one that stays of them
once-place : (last : Option Entry) (e : Entry) (es : List Entry) → IsLower last e
    → once last (place Up e es) ≡ put e (once last es)
once-place last e [] lower = once-new last e [] (lower_not_again last e lower)
once-place last e (f ∷ fs) lower = by (λ (l : Option Entry) is. once-place l e fs is) (entry_cmp e f) refl
  where
    greater : ((l : Option Entry) → IsLower l e → once l (place Up e fs) ≡ put e (once l fs)) → entry_cmp e f ≡ Greater
        → (b : Bool) → is_again last f ≡ b → once last (f ∷ place Up e fs) ≡ put e (once last (f ∷ fs))
    greater later is true again =
        once-again last f (place Up e fs) again ∙ later last lower ∙ ap (put e) (sym (once-again last f fs again))
    greater later is false new =
        once-new last f (place Up e fs) new ∙ ap (λ l. f ∷ l) (later (Some f) (turned e f Greater is))
        ∙ sym (put-greater e f (once (Some f) fs) is) ∙ ap (put e) (sym (once-new last f fs new))

    by : ((l : Option Entry) → IsLower l e → once l (place Up e fs) ≡ put e (once l fs))
        → (r : Ordering) → entry_cmp e f ≡ r → once last (place Up e (f ∷ fs)) ≡ put e (once last (f ∷ fs))
    by later Less is =
        ap (once last) (place-less e f fs is) ∙ once-new last e (f ∷ fs) (lower_not_again last e lower)
        ∙ ap (λ l. e ∷ l) (once-new (Some e) f fs (less_not_at e f is))
        ∙ sym (put-less e f (once (Some f) fs) is)
        ∙ ap (put e) (sym (once-new last f fs (lower_not_again last f (lower_less last e f lower is))))
    by later Equal is =
        let both = entries_tied e f is in
        ap (once last) (place-tied e f fs is) ∙ once-new last e (f ∷ fs) (lower_not_again last e lower)
        ∙ ap (λ l. e ∷ l) (once-again (Some e) f fs (tied_at e f is) ∙ once-tied e f fs both.0 (sym both.1))
        ∙ sym (put-equal e f (once (Some f) fs) is)
        ∙ ap (put e) (sym (once-new last f fs (lower_not_again last f (lower_tied last e f lower is))))
    by later Greater is = ap (once last) (place-later e f fs is) ∙ greater later is (is_again last f) refl

-- merged entries, those that come again left out, are these entries in order
pub once-merged : (es : List Entry) → once None (merged Up es) ≡ in_order es
once-merged [] = refl
once-merged (e ∷ es) = once-place None e (merged Up es) tt ∙ ap (put e) (once-merged es)
