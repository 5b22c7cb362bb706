-- The names that a disk in memory lists.
use Rattle.std.proofs.Common.{◌≡◌, ◌≢◌, ◌⊎◌, inl, inr, ⊎_elim, zero, suc, Bool, true, false, cond, List, [], ◌∷◌}
use Rattle.std.proofs.Common.{get_or, Option, None, Some, refl, sym, ◌∙◌, ap, subst, arith, IsSome, if◌then◌else◌}
use Rattle.std.proofs.Common.{Contains, AllPairs, All}
use Rattle.std.proofs.lemmas.List.Elements.{All-contains_itself}
use Rattle.std.specs.Option.{option_map}
use Rattle.std.specs.BTreeMap as tree
use Rattle.std.specs.FinMap.{get}
use Rattle.std.specs.List.{AllByRecursion}
use Rattle.std.specs.List.Sorted.{IsStrictlySortedBy}
use Rattle.std.specs.Map.{keys_of, lookup}
use Rattle.std.specs.declared.cmp.Ordering.{Ordering}
use Rattle.std.specs.declared.cmp.Ordering.TheVariants.{Less}
use Rattle.std.specs.Ordering.{is_eq}
use Rattle.vl_disk.specs.declared.name.Name.{Name}
use Rattle.vl_disk.specs.Name.{IsNumbered, name_cmp}
use Rattle.vl_disk.specs.laws.NameMap.{same_or_other, tied_same, tied_other}
use Rattle.vl_disk.specs.DiskState.{File, DiskState, IsLawful}
use Rattle.vl_disk.specs.Disk.{Lists}
use Rattle.vl_mem.specs.declared.entry.Entry.{Entry}
use Rattle.vl_mem.specs.declared.entry.Presence.{Presence}
use Rattle.vl_mem.specs.declared.entry.Presence.TheVariants.{Absent, Standing, Removed, Lent}
use Rattle.vl_mem.specs.Entry.{Entries, HasFiles, if_standing, is_standing, file_of, plain, standing_in}
use Rattle.vl_mem.specs.Kept.{standing_names}

false_true : false ≡ true → ⊥
false_true e = cc

-- the entry of a name
abbrev pub at : Name → List (Name × Entry) → Option Entry
at name es = lookup (tree.is_at (name_cmp name)) es

pub at_head : (name : Name) (e : Name × Entry) (es : List (Name × Entry)) → name ≡ e.0 → at name (e ∷ es) ≡ Some e.1
at_head name e es same = ap (λ b. cond b (Some e.1) (at name es)) (ap (λ n. is_eq (name_cmp name n)) (sym same) ∙ tied_same name)

pub at_rest : (name : Name) (e : Name × Entry) (es : List (Name × Entry)) → name ≢ e.0 → at name (e ∷ es) ≡ at name es
at_rest name e es other = ap (λ b. cond b (Some e.1) (at name es)) (tied_other name e.0 other)

some_standing : (presence : Presence) (file : File) → IsSome (if_standing presence file) → is_standing presence ≡ true
some_standing Absent file is = absurd (false_true is)
some_standing Standing file is = refl
some_standing Removed file is = absurd (false_true is)
some_standing Lent file is = absurd (false_true is)

standing_some : (presence : Presence) (file : File) → is_standing presence ≡ true → IsSome (if_standing presence file)
standing_some Absent file is = absurd (false_true is)
standing_some Standing file is = refl
standing_some Removed file is = absurd (false_true is)
standing_some Lent file is = absurd (false_true is)

later : (name other : Name) (names : List Name) → Contains names name → Contains (other ∷ names) name
later name other names has = (suc has.0, omega (arith, has.1), has.2)

listed_head : (name other : Name) (names : List Name) → Contains (other ∷ names) name → (other ≡ name) ⊎ Contains names name
listed_head name other names (zero, within, is) = inl is
listed_head name other names (suc k, within, is) = inr (k, omega (arith, within), is)

-- a file that stands is listed
listed : (es : List (Name × Entry)) (name : Name) → IsSome (standing_in (at name es)) → Contains (standing_names es) name
listed [] name is = absurd (false_true is)
listed (e ∷ es) name is = ⊎_elim
    (λ (same : name ≡ e.0).
    let stands = some_standing e.1.presence (file_of e.1) (subst (λ o. IsSome (standing_in o)) (at_head name e es same) is) in
    subst (λ (names : List Name). Contains names name)
    (sym (ap (λ b. if b then e.0 ∷ standing_names es else standing_names es) stands)) (0, omega arith, sym same))
    (λ (other : name ≢ e.0). more (is_standing e.1.presence)
    (listed es name (subst (λ o. IsSome (standing_in o)) (at_rest name e es other) is)))
    (same_or_other name e.0)
  where
    more : (b : Bool) → Contains (standing_names es) name → Contains (if b then e.0 ∷ standing_names es else standing_names es) name
    more true has = later name e.0 (standing_names es) has
    more false has = has

-- what is so of each name that has an entry is so of those that are listed
of_listed : (P : Name → Type 0) (es : List (Name × Entry)) (name : Name) → AllByRecursion P (keys_of es)
    → Contains (standing_names es) name → P name
of_listed P [] name all has = absurd (omega (arith, has.1))
of_listed P (e ∷ es) name all has = by (of_listed P es name all.1) (is_standing e.1.presence) has
  where
    by : (Contains (standing_names es) name → P name) → (b : Bool)
        → Contains (if b then e.0 ∷ standing_names es else standing_names es) name → P name
    by rest false has = rest has
    by rest true has = ⊎_elim (λ (same : e.0 ≡ name). subst P same all.0) rest (listed_head name e.0 (standing_names es) has)

pub less_apart : (a b : Name) → name_cmp a b ≡ Less → a ≢ b
less_apart a b less same = tie (name_cmp a b) less (ap (λ n. is_eq (name_cmp a n)) (sym same) ∙ tied_same a)
  where
    tie : (o : Ordering) → o ≡ Less → is_eq o ≡ true → ⊥
    tie o is ties = false_true (sym (ap is_eq is) ∙ ties)

-- and what is listed stands
stands_listed : (es : List (Name × Entry)) (name : Name) → IsStrictlySortedBy name_cmp (keys_of es)
    → Contains (standing_names es) name → IsSome (standing_in (at name es))
unfolding IsStrictlySortedBy
stands_listed [] name sorted has = absurd (omega (arith, has.1))
stands_listed (e ∷ es) name sorted has = by (λ more.
    let apart : e.0 ≢ name = less_apart e.0 name (of_listed (λ q. name_cmp e.0 q ≡ Less) es name sorted.0 more) in
    subst (λ o. IsSome (standing_in o)) (sym (at_rest name e es (λ same. apart (sym same)))) (stands_listed es name sorted.1 more))
    (is_standing e.1.presence) refl has
  where
    by : (Contains (standing_names es) name → IsSome (standing_in (at name (e ∷ es)))) → (b : Bool) → is_standing e.1.presence ≡ b
        → Contains (if b then e.0 ∷ standing_names es else standing_names es) name → IsSome (standing_in (at name (e ∷ es)))
    by rest false is has = rest has
    by rest true is has = ⊎_elim
        (λ (same : e.0 ≡ name). subst (λ o. IsSome (standing_in o)) (sym (at_head name e es (sym same)))
        (standing_some e.1.presence (file_of e.1) is))
        rest (listed_head name e.0 (standing_names es) has)

once : (es : List (Name × Entry)) → IsStrictlySortedBy name_cmp (keys_of es) → AllPairs (λ a b. a ≢ b) (standing_names es)
unfolding IsStrictlySortedBy
once [] sorted = λ i j d before within. absurd (omega (arith, within))
once (e ∷ es) sorted = by (once es sorted.1) (is_standing e.1.presence)
  where
    by : AllPairs (λ a b. a ≢ b) (standing_names es) → (b : Bool)
        → AllPairs (λ a b. a ≢ b) (if b then e.0 ∷ standing_names es else standing_names es)
    by rest false i j d before within = rest i j d before within
    by rest true i zero d before within = absurd (omega arith)
    by rest true (suc i) (suc j) d before within = rest i j d (omega arith) (omega (arith, within))
    by rest true zero (suc j) d before within =
        less_apart e.0 (get_or (standing_names es) j d)
        (of_listed (λ q. name_cmp e.0 q ≡ Less) es (get_or (standing_names es) j d) sorted.0
        (All-contains_itself (standing_names es) j d (omega (arith, within))))

module _ (entries : Entries) (disk : DiskState) (has : HasFiles entries disk) (sorted : tree.IsOrdered name_cmp entries) where
  pub lists : Lists (standing_names entries.entries) disk
  lists = record {
    all = λ name. (
      λ is. stands (get disk.standing name) (subst IsSome (has name).standing (stands_listed entries.entries name sorted is)),
      λ is. listed entries.entries name (subst IsSome (sym (has name).standing) (some (get disk.standing name) is)),
    );
    once = once entries.entries sorted;
  }
    where
      stands : (file : Option File) → IsSome (option_map plain file) → IsSome file
      stands None is = is
      stands (Some file) is = refl

      some : (file : Option File) → IsSome file → IsSome (option_map plain file)
      some None is = is
      some (Some file) is = refl

  pub all_numbered : IsLawful disk → All IsNumbered (standing_names entries.entries)
  all_numbered lawful k d within =
      let name = get_or (standing_names entries.entries) k d in
      of name (get disk.standing name) refl ((lists.all name).0 (All-contains_itself (standing_names entries.entries) k d within))
    where
      of : (name : Name) (file : Option File) → get disk.standing name ≡ file → IsSome (get disk.standing name) → IsNumbered name
      of name None is stands = absurd (false_true (subst IsSome is stands))
      of name (Some file) is stands = lawful.numbered name file is
