-- Laws of a merge's steps: the head that comes first is the first of the merged entries.
use Rattle.std.proofs.Common.{◌≡◌, Bool, true, false, cond, not, ◌&&◌, List, [], ◌∷◌, ◌++◌, map, refl, ap, sym, ◌∙◌}
use Rattle.std.proofs.Common.{subst, append-nil, Option, Some, None, ◌⊎◌, inl, inr}
use Rattle.std.specs.List.{AllByRecursion, flat_map}
use Rattle.std.specs.Option.{option_map}
use Rattle.std.specs.Ordering.{is_gt}
use Rattle.std.specs.Cmp.{upto}
use Rattle.vl_model.specs.Cursors.{Gives, Keeps}
use Rattle.vl_model.specs.declared.entry.Entry.{Entry}
use Rattle.vl_model.specs.declared.way.Way.{Way}
use Rattle.vl_model.specs.Merging.{merged, IsFirst, IsAlong}
use Rattle.vl_model.specs.Order.{way_cmp}
use Rattle.vl_merge.proofs.MergeLaws.{way_total, first-all, merged-first}
use Rattle.vl_merge.specs.MergeOf.{is_first, is_along, end_to_end, merge_of, pair_of}
use Rattle.vl_merge.specs.ReadAhead.{left_of, IsKnown, entry_of, taken, takes_older}
use Rattle.vl_merge.specs.Trees.{MayFailIn}
use Rattle.vl_merge.specs.declared.lookahead.Lookahead.{Lookahead}
use Rattle.vl_merge.specs.declared.lookahead.Lookahead.TheVariants.{Unread, Next, End}
use Rattle.vl_merge.specs.declared.tree.Tree.{Tree}

-- ---- tests of order

both : (a b : Bool) → (a && b) ≡ true → (a ≡ true) × (b ≡ true)
both true b is = (refl, is)
both false b is = absurd cc

not-true : (a : Bool) → not a ≡ true → a ≡ false
not-true true is = absurd cc
not-true false is = refl

first-true : (way : Way) (e : Entry) (es : List Entry) → is_first way e es ≡ true → IsFirst way e es
first-true way e [] is = tt
first-true way e (f ∷ fs) is =
    let parts = both (not (is_gt (way_cmp way e f))) (is_first way e fs) is in
    (not-true (is_gt (way_cmp way e f)) parts.0, first-true way e fs parts.1)

first-is : (way : Way) (e : Entry) (es : List Entry) → IsFirst way e es → is_first way e es ≡ true
first-is way e [] first = refl
first-is way e (f ∷ fs) first = ap (λ b. not b && is_first way e fs) first.0 ∙ first-is way e fs first.1

pub along-is : (way : Way) (es : List Entry) → IsAlong way es → is_along way es ≡ true
along-is way [] along = refl
along-is way (e ∷ es) along = ap (λ b. b && is_along way es) (first-is way e es along.0) ∙ along-is way es along.1

-- the first of entries that go along, and the others
along-parts : (way : Way) (e : Entry) (es : List Entry) → is_along way (e ∷ es) ≡ true → IsFirst way e es × (is_along way es ≡ true)
along-parts way e es is = let parts = both (is_first way e es) (is_along way es) is in (first-true way e es parts.0, parts.1)

-- what doesn't come before an entry that is behind another is behind that one too
pub behind_more : (way : Way) (e f g : Entry) → is_gt (way_cmp way f e) ≡ true → is_gt (way_cmp way f g) ≡ false
    → is_gt (way_cmp way g e) ≡ true
behind_more way e f g behind after = by (is_gt (way_cmp way g e)) refl
  where
    by : (b : Bool) → is_gt (way_cmp way g e) ≡ b → is_gt (way_cmp way g e) ≡ true
    by true is = is
    by false is = let no : is_gt (way_cmp way f e) ≡ false = upto (way_total way) f g e after is in absurd (cc)

behind_all : (way : Way) (e f : Entry) (fs : List Entry) → is_gt (way_cmp way f e) ≡ true → IsFirst way f fs
    → AllByRecursion (λ g. is_gt (way_cmp way g e) ≡ true) fs
behind_all way e f [] behind first = tt
behind_all way e f (g ∷ fs) behind first = (behind_more way e f g behind first.0, behind_all way e f fs behind first.1)

all-append : (P : Entry → Type 0) (es fs : List Entry) → AllByRecursion P es → AllByRecursion P fs → AllByRecursion P (es ++ fs)
all-append P [] fs here there = there
all-append P (e ∷ es) fs here there = (here.0, all-append P es fs here.1 there)

-- ---- sources end to end

none_some : (es : List Entry) → None ≡ Some es → ⊥
none_some es is = cc

end_to_end-join : (way : Way) (es fs : List Entry) (rest : List (Option (List Entry))) → is_along way es ≡ true
    → end_to_end way rest ≡ Some fs
    → end_to_end way (Some es ∷ rest) ≡ Some (es ++ fs)
end_to_end-join way es fs rest along later =
    ap (λ b. cond b (option_map (λ fs. es ++ fs) (end_to_end way rest)) None) along ∙ ap (λ t. option_map (λ fs. es ++ fs) t) later

-- what is told of a source and those behind it
end_to_end-parts : (way : Way) (es : List Entry) (rest : List (Option (List Entry))) (all : List Entry)
    → end_to_end way (Some es ∷ rest) ≡ Some all
    → (fs : List Entry) × (is_along way es ≡ true) × (end_to_end way rest ≡ Some fs) × (all ≡ es ++ fs)
end_to_end-parts way es rest all is = by (is_along way es) (end_to_end way rest) refl refl is
  where
    by : (b : Bool) (t : Option (List Entry)) → is_along way es ≡ b → end_to_end way rest ≡ t
        → cond b (option_map (λ fs. es ++ fs) t) None ≡ Some all
        → (fs : List Entry) × (is_along way es ≡ true) × (end_to_end way rest ≡ Some fs) × (all ≡ es ++ fs)
    by true None along later is = absurd (none_some all is)
    by true (Some fs) along later is = (fs, along, later, (cc))
    by false t along later is = absurd (none_some all is)

-- the entries that were merged
merged-of : (way : Way) (t : Option (List Entry)) (out : List Entry) → option_map (merged way) t ≡ Some out
    → (all : List Entry) × (t ≡ Some all) × (out ≡ merged way all)
merged-of way None out gave = absurd (none_some out gave)
merged-of way (Some all) out gave = (all, refl, (cc))

pub one-join : (way : Way) (es : List Entry) → is_along way es ≡ true → merge_of way (Some es ∷ []) ≡ Some (merged way es)
one-join way es along = ap (option_map (merged way)) (end_to_end-join way es [] [] along refl)
    ∙ ap (λ l. Some (merged way l)) (append-nil es)

pub one-parts : (way : Way) (es out : List Entry) → merge_of way (Some es ∷ []) ≡ Some out → (is_along way es ≡ true)
    × (out ≡ merged way es)
one-parts way es out gave =
    let whole = merged-of way (end_to_end way (Some es ∷ [])) out gave in
    let parts = end_to_end-parts way es [] whole.0 whole.1 in
    let nil : parts.0 ≡ [] = cc in
    (parts.1, whole.2 ∙ ap (merged way) (parts.3 ∙ ap (λ l. es ++ l) nil ∙ append-nil es))

pub pair-join : (way : Way) (es fs : List Entry) → is_along way es ≡ true → is_along way fs ≡ true
    → pair_of way (Some es) (Some fs) ≡ Some (merged way (es ++ fs))
pair-join way es fs along behind =
    ap (option_map (merged way))
    (end_to_end-join way es fs (Some fs ∷ []) along (end_to_end-join way fs [] [] behind refl ∙ ap Some (append-nil fs)))

pub pair-parts : (way : Way) (es fs out : List Entry) → pair_of way (Some es) (Some fs) ≡ Some out
    → (is_along way es ≡ true) × (is_along way fs ≡ true) × (out ≡ merged way (es ++ fs))
pair-parts way es fs out gave =
    let whole = merged-of way (end_to_end way (Some es ∷ Some fs ∷ [])) out gave in
    let parts = end_to_end-parts way es (Some fs ∷ []) whole.0 whole.1 in
    let last = end_to_end-parts way fs [] parts.0 parts.2 in
    let nil : last.0 ≡ [] = cc in
    (parts.1, last.1, whole.2 ∙ ap (merged way) (parts.3 ∙ ap (λ l. es ++ l) (last.3 ∙ ap (λ l. fs ++ l) nil ∙ append-nil fs)))

pair-untold : (way : Way) (a : Option (List Entry)) (out : List Entry) → pair_of way a None ≡ Some out → ⊥
pair-untold way None out gave = none_some out gave
pair-untold way (Some es) out gave =
    let whole = merged-of way (end_to_end way (Some es ∷ None ∷ [])) out gave in
    let parts = end_to_end-parts way es (None ∷ []) whole.0 whole.1 in
    none_some parts.0 parts.2

-- ---- a step

pub source_given : (way : Way) (left now : Option (List Entry)) (next : Option Entry) → Gives left now next
    → Gives (merge_of way (left ∷ [])) (merge_of way (now ∷ [])) next
source_given way None now None gives = λ out gave. absurd (none_some out gave)
source_given way None now (Some e) gives = λ out gave. absurd (none_some out gave)
source_given way (Some es) now None gives = λ out gave.
    let parts = one-parts way es out gave in
    let given = gives es refl in
    (parts.1 ∙ ap (merged way) given.0, ap (λ l. merge_of way (l ∷ [])) given.1 ∙ one-join way [] refl)
source_given way (Some es) now (Some e) gives = λ out gave.
    let parts = one-parts way es out gave in
    let given = gives es refl in
    let along = along-parts way e given.0 (ap (is_along way) (sym given.1) ∙ parts.0) in (
      merged way given.0,
      parts.1 ∙ ap (merged way) given.1 ∙ merged-first way [] e given.0 tt along.0,
      ap (λ l. merge_of way (l ∷ [])) given.2 ∙ one-join way given.0 along.1,
    )

older_of_two : (way : Way) (e f : Entry) (es fs : List Entry) → is_gt (way_cmp way e f) ≡ true
    → Gives (pair_of way (Some (e ∷ es)) (Some (f ∷ fs))) (pair_of way (Some (e ∷ es)) (Some fs)) (Some f)
older_of_two way e f es fs is out gave =
    let parts = pair-parts way (e ∷ es) (f ∷ fs) out gave in
    let newer = along-parts way e es parts.0 in
    let older = along-parts way f fs parts.1 in (
      merged way (e ∷ es ++ fs),
      parts.2 ∙ merged-first way (e ∷ es) f fs (is, behind_all way f e es is newer.0) older.0,
      pair-join way (e ∷ es) fs parts.0 older.1,
    )

newer_of_two : (way : Way) (e f : Entry) (es fs : List Entry) → is_gt (way_cmp way e f) ≡ false
    → Gives (pair_of way (Some (e ∷ es)) (Some (f ∷ fs))) (pair_of way (Some es) (Some (f ∷ fs))) (Some e)
newer_of_two way e f es fs is out gave =
    let parts = pair-parts way (e ∷ es) (f ∷ fs) out gave in
    let newer = along-parts way e es parts.0 in
    let older = along-parts way f fs parts.1 in (
      merged way (es ++ f ∷ fs),
      parts.2
          ∙ merged-first way [] e (es ++ f ∷ fs) tt
          (all-append (λ g. is_gt (way_cmp way e g) ≡ false) es (f ∷ fs) newer.0 (is, first-all way e f fs is older.0)),
      pair-join way es (f ∷ fs) newer.1 parts.1,
    )

older_alone : (way : Way) (f : Entry) (fs : List Entry)
    → Gives (pair_of way (Some []) (Some (f ∷ fs))) (pair_of way (Some []) (Some fs)) (Some f)
older_alone way f fs out gave =
    let parts = pair-parts way [] (f ∷ fs) out gave in
    let older = along-parts way f fs parts.1 in
    (merged way fs, parts.2 ∙ merged-first way [] f fs tt older.0, pair-join way [] fs refl older.1)

newer_alone : (way : Way) (e : Entry) (es : List Entry)
    → Gives (pair_of way (Some (e ∷ es)) (Some [])) (pair_of way (Some es) (Some [])) (Some e)
newer_alone way e es out gave =
    let parts = pair-parts way (e ∷ es) [] out gave in
    let newer = along-parts way e es parts.0 in (
      merged way (es ++ []),
      parts.2 ∙ merged-first way [] e (es ++ []) tt (all-append (λ g. is_gt (way_cmp way e g) ≡ false) es [] newer.0 tt),
      pair-join way es [] newer.1 refl,
    )

none_alone : (way : Way) → Gives (pair_of way (Some []) (Some [])) (pair_of way (Some []) (Some [])) None
none_alone way out gave = let parts = pair-parts way [] [] out gave in (parts.2, pair-join way [] [] refl refl)

left-none : (head : Lookahead) → IsKnown head → left_of head None ≡ None
left-none Unread read = absurd read
left-none (Next e) read = refl
left-none End read = refl

module _ (way : Way) where
  no_newer : (newer now : Option (List Entry)) (older : Option (List Entry)) (next : Option Entry) → newer ≡ None
      → Gives (pair_of way newer older) now next
  no_newer newer now older None is = λ out gave. absurd (none_some out (ap (λ l. pair_of way l older) (sym is) ∙ gave))
  no_newer newer now older (Some e) is = λ out gave. absurd (none_some out (ap (λ l. pair_of way l older) (sym is) ∙ gave))

  no_older : (newer now : Option (List Entry)) (older : Option (List Entry)) (next : Option Entry) → older ≡ None
      → Gives (pair_of way newer older) now next
  no_older newer now older None is = λ out gave. absurd (pair-untold way newer out (ap (pair_of way newer) (sym is) ∙ gave))
  no_older newer now older (Some e) is = λ out gave. absurd (pair-untold way newer out (ap (pair_of way newer) (sym is) ∙ gave))

  -- the older half's entry comes first
  pub older_given : (newer older : Option (List Entry)) (first second : Lookahead) → IsKnown first → IsKnown second
      → takes_older way first second ≡ true
      → Gives (pair_of way (left_of first newer) (left_of second older))
      (pair_of way (left_of first newer) (left_of (taken second) older)) (entry_of second)
  older_given None older first second read known is = no_newer (left_of first None) _ (left_of second older)
      (entry_of second) (left-none first read)
  older_given (Some es) None first second read known is = no_older (left_of first (Some es)) _ (left_of second None)
      (entry_of second) (left-none second known)
  older_given (Some es) (Some fs) Unread second read known is = absurd read
  older_given (Some es) (Some fs) (Next e) Unread read known is = absurd known
  older_given (Some es) (Some fs) (Next e) (Next f) read known is = older_of_two way e f es fs is
  older_given (Some es) (Some fs) (Next e) End read known is = absurd cc
  older_given (Some es) (Some fs) End Unread read known is = absurd known
  older_given (Some es) (Some fs) End (Next f) read known is = older_alone way f fs
  older_given (Some es) (Some fs) End End read known is = none_alone way

  -- the newer half's does
  pub newer_given : (newer older : Option (List Entry)) (first second : Lookahead) → IsKnown first → IsKnown second
      → takes_older way first second ≡ false
      → Gives (pair_of way (left_of first newer) (left_of second older))
      (pair_of way (left_of (taken first) newer) (left_of second older)) (entry_of first)
  newer_given None older first second read known is = no_newer (left_of first None) _ (left_of second older)
      (entry_of first) (left-none first read)
  newer_given (Some es) None first second read known is = no_older (left_of first (Some es)) _ (left_of second None)
      (entry_of first) (left-none second known)
  newer_given (Some es) (Some fs) Unread second read known is = absurd read
  newer_given (Some es) (Some fs) (Next e) Unread read known is = absurd known
  newer_given (Some es) (Some fs) (Next e) (Next f) read known is = newer_of_two way e f es fs is
  newer_given (Some es) (Some fs) (Next e) End read known is = newer_alone way e es
  newer_given (Some es) (Some fs) End second read known is = absurd cc

-- ---- as the code has them

pub gives_same : (before same now : Option (List Entry)) (next : Option Entry) → before ≡ same → Gives before now next → Gives same now next
gives_same before same now next is gives = subst (λ l. Gives l now next) is gives

gives_kept : (before kept now : Option (List Entry)) (next : Option Entry) → Keeps before kept → Gives kept now next → Gives before now next
gives_kept before kept now None keeps gives = λ out told. gives out (keeps out told)
gives_kept before kept now (Some e) keeps gives = λ out told. gives out (keeps out told)

keeps_pair : (way : Way) (a b c d : Option (List Entry)) → Keeps a c → Keeps b d → Keeps (pair_of way a b) (pair_of way c d)
keeps_pair way None b c d first second out gave = absurd (none_some out gave)
keeps_pair way (Some es) None c d first second out gave = absurd (pair-untold way (Some es) out gave)
keeps_pair way (Some es) (Some fs) c d first second out gave =
    ap (pair_of way c) (second fs refl) ∙ ap (λ l. pair_of way l (Some fs)) (first es refl) ∙ gave

-- both heads are read, and one of them is given
module _ (way : Way) (newer_old older_old newer older : Option (List Entry)) (first second : Lookahead)
    (newer_kept : Keeps newer_old (left_of first newer)) (older_kept : Keeps older_old (left_of second older))
    (read : IsKnown first) (known : IsKnown second) (out : Option Entry) where
  pub gives_older : (now : Lookahead) → takes_older way first second ≡ true → now ≡ taken second → out ≡ entry_of second
      → Gives (pair_of way newer_old older_old) (pair_of way (left_of first newer) (left_of now older)) out
  gives_older now is gone gave =
      gives_kept (pair_of way newer_old older_old) (pair_of way (left_of first newer) (left_of second older)) _ out
      (keeps_pair way newer_old older_old (left_of first newer) (left_of second older) newer_kept older_kept)
      (subst (λ h. Gives (pair_of way (left_of first newer) (left_of second older))
      (pair_of way (left_of first newer) (left_of h older)) out) (sym gone)
      (subst (Gives (pair_of way (left_of first newer) (left_of second older))
      (pair_of way (left_of first newer) (left_of (taken second) older))) (sym gave)
      (older_given way newer older first second read known is)))

  pub gives_newer : (now : Lookahead) → takes_older way first second ≡ false → now ≡ taken first → out ≡ entry_of first
      → Gives (pair_of way newer_old older_old) (pair_of way (left_of now newer) (left_of second older)) out
  gives_newer now is gone gave =
      gives_kept (pair_of way newer_old older_old) (pair_of way (left_of first newer) (left_of second older)) _ out
      (keeps_pair way newer_old older_old (left_of first newer) (left_of second older) newer_kept older_kept)
      (subst (λ h. Gives (pair_of way (left_of first newer) (left_of second older))
      (pair_of way (left_of h newer) (left_of second older)) out) (sym gone)
      (subst (Gives (pair_of way (left_of first newer) (left_of second older))
      (pair_of way (left_of (taken first) newer) (left_of second older))) (sym gave)
      (newer_given way newer older first second read known is)))

-- what a whole has, from its two parts
pub halves : {A B : Type 0} (of_two : A → A → B) (a b c d : A) (whole : B) → a ≡ c → b ≡ d → whole ≡ of_two c d → of_two a b ≡ whole
halves of_two a b c d whole first second is = ap (λ x. of_two x b) first ∙ ap (of_two c) second ∙ sym is

-- what may fail in a whole, from its two parts
module _ {C F : Type 0} (may_fail : C → F → Type 0) (newer older a b : Tree C) (first : newer ≡ a) (second : older ≡ b) (fault : F) where
  pub fails-halves : MayFailIn may_fail newer fault ⊎ MayFailIn may_fail older fault → MayFailIn may_fail a fault
      ⊎ MayFailIn may_fail b fault
  fails-halves (inl fails) = inl (subst (λ t. MayFailIn may_fail t fault) first fails)
  fails-halves (inr fails) = inr (subst (λ t. MayFailIn may_fail t fault) second fails)

  pub keeps-halves : (now_newer now_older : Tree C) → (MayFailIn may_fail now_newer fault → MayFailIn may_fail newer fault)
      → (MayFailIn may_fail now_older fault → MayFailIn may_fail older fault)
      → MayFailIn may_fail now_newer fault ⊎ MayFailIn may_fail now_older fault → MayFailIn may_fail a fault ⊎ MayFailIn may_fail b fault
  keeps-halves now_newer now_older keeps_newer keeps_older (inl fails) = fails-halves (inl (keeps_newer fails))
  keeps-halves now_newer now_older keeps_newer keeps_older (inr fails) = fails-halves (inr (keeps_older fails))

-- ---- sources that are all told, each as the way goes

end_to_end-all : (way : Way) (sources : List (List Entry)) → AllByRecursion (IsAlong way) sources
    → end_to_end way (map Some sources) ≡ Some (flat_map (λ es. es) sources)
end_to_end-all way [] along = refl
end_to_end-all way (es ∷ sources) along =
    end_to_end-join way es (flat_map (λ es. es) sources) (map Some sources) (along-is way es along.0) (end_to_end-all way sources along.1)

pub merge_of_all : (way : Way) (sources : List (List Entry)) → AllByRecursion (IsAlong way) sources
    → merge_of way (map Some sources) ≡ Some (merged way (flat_map (λ es. es) sources))
merge_of_all way sources along = ap (option_map (merged way)) (end_to_end-all way sources along)
