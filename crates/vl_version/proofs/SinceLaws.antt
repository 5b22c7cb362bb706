-- Tables that have nothing newer than a version needn't be read for what was changed since then.
use Rattle.std.proofs.Common.{◌≡◌, ℕ, zero, suc, ◌≤◌, ◌<◌, Bool, true, false, cond, List, [], ◌∷◌, ◌++◌, length}
use Rattle.std.proofs.Common.{refl, ap, sym, ◌∙◌, subst, arith, append-nil, Option, Some, None, inl, inr}
use Rattle.std.proofs.lemmas.Bool.Decides.{nat_tests}
use Rattle.std.proofs.lemmas.List.Elements.{filter-append}
use Rattle.std.specs.Prelude.{◌⊎◌, ◌==◌, ◌||◌, nat_le, nat_lt}
use Rattle.std.specs.List.{AllByRecursion, AllZip, filter}
use Rattle.std.specs.declared.cmp.Ordering.TheVariants.{Less}
use Rattle.vl_disk.specs.declared.name.Name.{Name}
use Rattle.vl_disk.specs.declared.name.Name.TheVariants.{Table as table_name}
use Rattle.vl_disk.specs.declared.read_fault.ReadFault.{ReadFault}
use Rattle.vl_disk.specs.declared.read_fault.ReadFault.TheVariants.{NoMemory, Disk, Damaged}
use Rattle.vl_merge.specs.Visible.{shown}
use Rattle.vl_model.specs.Cutting.{first_key, joined}
use Rattle.vl_model.specs.Keys.{key_cmp}
use Rattle.vl_model.specs.Winners.{counts, newest_of, only_if, winner}
use Rattle.vl_model.specs.declared.entry.Entry.{Entry}
use Rattle.vl_model.specs.declared.span.Span.{Span}
use Rattle.vl_table.specs.MayHold.{meets}
use Rattle.vl_table.specs.OfTables.{AreOf}
use Rattle.vl_table.specs.Seeks.{IsBadBlock}
use Rattle.vl_table.specs.Tables.{IsOf, number_of, shape_of}
use Rattle.vl_table.specs.body.Bytes.{greatest_version, table_bytes}
use Rattle.vl_table.specs.body.Footer.{Foot}
use Rattle.vl_table.specs.body.Shapes.{IsShapeOf}
use Rattle.vl_table.specs.declared.body.shape.TableShape.{TableShape}
use Rattle.vl_table.specs.declared.table.Table.{Table}
use Rattle.vl_table.specs.laws.RangeLaws.{first_is}
use Rattle.vl_version.specs.Changes.{AreLevelsSince, AreTablesSince, hiding, is_since, tables_since}
use Rattle.vl_version.specs.Naming.{IsMet, IsMetFault, OneTable}
use Rattle.vl_version.specs.Shared.{AreSameTables, IsSameTable}
use Rattle.vl_version.specs.declared.levels.Levels.{Levels}
use Rattle.vl_version.specs.levels.LevelTables.{AreAllApart, AreApart, all_tables, footer_of}
use Rattle.vl_version.specs.levels.LevelsLooked.{AreInOrder, tables_of}
use Rattle.vl_version.specs.levels.LookedUp.{IsDamagedAt}
use Rattle.vl_version.proofs.looking.LevelLaws.{apart_rest, later_above}
use Rattle.vl_version.proofs.looking.LookSteps.{both_of}
use Rattle.vl_version.proofs.looking.Parts.{all-back, all-front}
use Rattle.vl_version.proofs.SharedLaws.{same_pushed}

-- ---- what has nothing newer tells nothing

abbrev pub is_newer : ℕ → Entry → Bool
is_newer since e = nat_lt since e.version

abbrev newer : ℕ → List Entry → List Entry
newer since es = filter (is_newer since) es

abbrev IsOld : ℕ → Option Entry → Type 0
IsOld since None = Unit {0}
IsOld since (Some e) = e.version ≤ since

-- the same, or neither is newer
abbrev AreLike : ℕ → Option Entry → Option Entry → Type 0
AreLike since a b = (a ≡ b) ⊎ (IsOld since a × IsOld since b)

old_first : (since : ℕ) (e : Entry) (w : Option Entry) → e.version ≤ since → AreLike since (newest_of (Some e) w) w
old_first since e None old = inr (old, tt)
old_first since e (Some f) old = by (nat_le f.version e.version) refl
  where
    by : (b : Bool) → nat_le f.version e.version ≡ b → AreLike since (cond b (Some e) (Some f)) (Some f)
    by false is = inl refl
    by true is = let le : f.version ≤ e.version = grind (arith, nat_tests, is) in inr (old, omega (arith, le, old))

-- behind one that is newer those that aren't don't count
new_first : (since : ℕ) (e : Entry) (w : Option Entry) → since < e.version → IsOld since w → newest_of (Some e) w ≡ Some e
new_first since e None new old = refl
new_first since e (Some f) new old =
    let first : nat_le f.version e.version ≡ true = grind (arith, nat_tests, new, old) in ap (λ b. cond b (Some e) (Some f))
    first

like_then : (since : ℕ) (a b c : Option Entry) → AreLike since a b → AreLike since b c → AreLike since a c
like_then since a b c (inl same) q = subst (λ (x : Option Entry). AreLike since x c) (sym same) q
like_then since a b c (inr old) (inl same) = inr (old.0, subst (IsOld since) same old.1)
like_then since a b c (inr old) (inr later) = inr (old.0, later.1)

like_turned : (since : ℕ) (a b : Option Entry) → AreLike since a b → AreLike since b a
like_turned since a b (inl same) = inl (sym same)
like_turned since a b (inr old) = inr (old.1, old.0)

like_newest : (since : ℕ) (e : Entry) (b : Bool) (w v : Option Entry) → since < e.version → AreLike since w v
    → AreLike since (newest_of (only_if b e) w) (newest_of (only_if b e) v)
like_newest since e false w v new like = like
like_newest since e true w v new (inl same) = inl (ap (newest_of (Some e)) same)
like_newest since e true w v new (inr old) = inl (new_first since e w new old.0 ∙ sym (new_first since e v new old.1))

-- a winner is like that among what is newer
like_newer : (since : ℕ) (key : List ℕ) (number : ℕ) (es : List Entry)
    → AreLike since (winner es key number) (winner (newer since es) key number)
like_newer since key number [] = inl refl
like_newer since key number (e ∷ es) = by (nat_lt since e.version) refl (like_newer since key number es)
  where
    by : (b : Bool) → nat_lt since e.version ≡ b → AreLike since (winner es key number) (winner (newer since es) key number)
        → AreLike since (newest_of (only_if (counts key number e) e) (winner es key number))
        (winner (cond b (e ∷ newer since es) (newer since es)) key number)
    by true is later =
        let new : since < e.version = grind (arith, nat_tests, is) in
        like_newest since e (counts key number e) (winner es key number) (winner (newer since es) key number) new later
    by false is later =
        let old : e.version ≤ since = grind (arith, nat_tests, is) in
        like_then since (newest_of (only_if (counts key number e) e) (winner es key number)) (winner es key number)
        (winner (newer since es) key number) (one (counts key number e) old) later
      where
        one : (c : Bool) → e.version ≤ since
            → AreLike since (newest_of (only_if c e) (winner es key number)) (winner es key number)
        one false old = inl refl
        one true old = old_first since e (winner es key number) old

none_old : (since : ℕ) (w : Option Entry) → IsOld (suc since) w → shown (hiding (suc since)) w ≡ []
none_old since None old = refl
none_old since (Some e) old =
    let is : nat_le e.version (suc since) ≡ true = grind (arith, nat_tests, old) in ap (λ b. cond b [] (e ∷ [])) is

shown_like : (since : ℕ) (a b : Option Entry) → AreLike (suc since) a b
    → shown (hiding (suc since)) a ≡ shown (hiding (suc since)) b
shown_like since a b (inl same) = ap (shown (hiding (suc since))) same
shown_like since a b (inr old) = none_old since a old.0 ∙ sym (none_old since b old.1)

-- Lists that have the same newer entries show the same.
shown_newer : (since : ℕ) (key : List ℕ) (number : ℕ) (es fs : List Entry) → newer (suc since) es ≡ newer (suc since) fs
    → shown (hiding (suc since)) (winner es key number) ≡ shown (hiding (suc since)) (winner fs key number)
shown_newer since key number es fs same =
    shown_like since (winner es key number) (winner fs key number)
    (like_then (suc since) (winner es key number) (winner (newer (suc since) es) key number) (winner fs key number)
    (like_newer (suc since) key number es)
    (like_turned (suc since) (winner fs key number) (winner (newer (suc since) es) key number)
    (subst (λ (l : List Entry). AreLike (suc since) (winner fs key number) (winner l key number)) (sym same)
    (like_newer (suc since) key number fs))))

none_newer : (since : ℕ) (es : List Entry) → greatest_version es ≤ since → newer since es ≡ []
none_newer since [] low = refl
none_newer since (e ∷ es) low =
    let old : nat_lt since e.version ≡ false = grind (arith, nat_tests, low) in
    ap (λ b. cond b (e ∷ newer since es) (newer since es)) old ∙ none_newer since es (omega (arith, low))

-- ---- tables

module _ {H : Type 0} where
  -- the lists of those tables that count
  abbrev pub lists_since : ℕ → List (Table H) → List (List Entry) → List (List Entry)
  lists_since since [] ess = []
  lists_since since (t ∷ ts) [] = []
  lists_since since (t ∷ ts) (es ∷ ess) = cond (is_since since t) (es ∷ lists_since since ts ess) (lists_since since ts ess)

  pub since-append : (since : ℕ) (ts us : List (Table H))
      → tables_since since (ts ++ us) ≡ tables_since since ts ++ tables_since since us
  since-append since ts us = filter-append (is_since since) ts us

  -- since 0 all count
  pub lists_all : (bytes_of : H → Option (List ℕ)) (ts : List (Table H)) (ess : List (List Entry)) → AreOf bytes_of ts ess
      → lists_since 0 ts ess ≡ ess
  lists_all bytes_of [] [] are = refl
  lists_all bytes_of [] (es ∷ ess) are = absurd are
  lists_all bytes_of (t ∷ ts) [] are = absurd are
  lists_all bytes_of (t ∷ ts) (es ∷ ess) are = ap (λ l. es ∷ l) (lists_all bytes_of ts ess are.1)

module _ {H : Type 0} (bytes_of : H → Option (List ℕ)) where
  greatest_is : (t : Table H) (es : List Entry) → IsOf bytes_of t es → (footer_of t).greatest ≡ greatest_version es
  greatest_is t es is = ap (λ (f : Foot). f.head.greatest) is.shape.foot

  -- what is newer stands in the tables that count
  newer_since : (since : ℕ) (ts : List (Table H)) (ess : List (List Entry)) → AreOf bytes_of ts ess
      → newer (suc since) (joined ess) ≡ newer (suc since) (joined (lists_since (suc since) ts ess))
  newer_since since [] [] are = refl
  newer_since since [] (es ∷ ess) are = absurd are
  newer_since since (t ∷ ts) [] are = absurd are
  newer_since since (t ∷ ts) (es ∷ ess) are = by (is_since (suc since) t) refl (newer_since since ts ess are.1)
    where
      by : (b : Bool) → is_since (suc since) t ≡ b
          → newer (suc since) (joined ess) ≡ newer (suc since) (joined (lists_since (suc since) ts ess))
          → newer (suc since) (es ++ joined ess)
          ≡ newer (suc since) (joined (cond b (es ∷ lists_since (suc since) ts ess) (lists_since (suc since) ts ess)))
      by true is later =
          filter-append (is_newer (suc since)) es (joined ess)
          ∙ ap (λ l. newer (suc since) es ++ l) later
          ∙ sym (filter-append (is_newer (suc since)) es (joined (lists_since (suc since) ts ess)))
      by false is later =
          let old : nat_lt (suc since) (footer_of t).greatest ≡ false = not_since since t is in
          let low : greatest_version es ≤ suc since =
          subst (λ (n : ℕ). n ≤ suc since) (greatest_is t es are.0) (grind (arith, nat_tests, old)) in
          filter-append (is_newer (suc since)) es (joined ess)
          ∙ ap (λ l. l ++ newer (suc since) (joined ess)) (none_newer (suc since) es low) ∙ later
        where
          not_since : (m : ℕ) (u : Table H) → is_since (suc m) u ≡ false → nat_lt (suc m) (footer_of u).greatest ≡ false
          not_since m u falls = by_zero (suc m == 0) (λ z. grind (arith, nat_tests, z)) falls
            where
              by_zero : (z : Bool) → (z ≡ true → ⊥) → (z || nat_lt (suc m) (footer_of u).greatest) ≡ false
                  → nat_lt (suc m) (footer_of u).greatest ≡ false
              by_zero true never none = absurd (never refl)
              by_zero false never none = none

  -- So what is shown of all sources is shown of these.
  pub shown_since : (since number : ℕ) (held : List Entry) (ts : List (Table H)) (ess : List (List Entry))
      → AreOf bytes_of ts ess
      → (key : List ℕ) → shown (hiding since) (winner (held ++ joined (lists_since since ts ess)) key number)
      ≡ shown (hiding since) (winner (held ++ joined ess) key number)
  shown_since zero number held ts ess are key =
      ap (λ (l : List (List Entry)). shown (hiding 0) (winner (held ++ joined l) key number)) (lists_all bytes_of ts ess are)
  shown_since (suc since) number held ts ess are key =
      shown_newer since key number (held ++ joined (lists_since (suc since) ts ess)) (held ++ joined ess)
      (filter-append (is_newer (suc since)) held (joined (lists_since (suc since) ts ess))
      ∙ ap (λ l. newer (suc since) held ++ l) (sym (newer_since since ts ess are))
      ∙ sym (filter-append (is_newer (suc since)) held (joined ess)))

  -- ---- copies

  of_copy : (t u : Table H) (es : List Entry) → IsSameTable bytes_of t u → IsOf bytes_of t es → IsOf bytes_of u es
  of_copy t u es same is = record {
    shape = subst (λ (s : TableShape). IsShapeOf s.number es s) (sym same.shape) is.shape;
    told = same.bytes ∙ is.told ∙ ap (λ (s : TableShape). Some (table_bytes s.format s.number es)) (sym same.shape);
  }

  pub of_copies : (since : ℕ) (ts copies : List (Table H)) (ess : List (List Entry)) → AreOf bytes_of ts ess
      → AreTablesSince bytes_of since ts copies → AreOf bytes_of copies (lists_since since ts ess)
  of_copies since [] [] ess are same = tt
  of_copies since [] (c ∷ cs) ess are same = absurd same
  of_copies since (t ∷ ts) copies [] are same = absurd are
  of_copies since (t ∷ ts) copies (es ∷ ess) are same = by (is_since since t) copies (λ cs. of_copies since ts cs ess are.1)
      same
    where
      by : (b : Bool) (cs : List (Table H))
          → ((ds : List (Table H)) → AreTablesSince bytes_of since ts ds → AreOf bytes_of ds (lists_since since ts ess))
          → AreSameTables bytes_of (cond b (t ∷ tables_since since ts) (tables_since since ts)) cs
          → AreOf bytes_of cs (cond b (es ∷ lists_since since ts ess) (lists_since since ts ess))
      by true [] later same = absurd same
      by true (c ∷ cs) later same = (of_copy t c es same.0 are.0, later cs same.1)
      by false cs later same = later cs same

  zip_both : {X Y : Type 0} (P : X → Y → Type 0) (xs us : List X) (ys vs : List Y) → AllZip P xs ys → AllZip P us vs
      → AllZip P (xs ++ us) (ys ++ vs)
  zip_both P [] us [] vs first second = second
  zip_both P [] us (y ∷ ys) vs first second = absurd first
  zip_both P (x ∷ xs) us [] vs first second = absurd first
  zip_both P (x ∷ xs) us (y ∷ ys) vs first second = (first.0, zip_both P xs us ys vs first.1 second)

  deeper_since : (since : ℕ) (levels copies : List (List (Table H))) → AllZip (AreTablesSince bytes_of since) levels copies
      → AreTablesSince bytes_of since (all_tables levels) (all_tables copies)
  deeper_since since [] [] same = tt
  deeper_since since [] (c ∷ cs) same = absurd same
  deeper_since since (l ∷ ls) [] same = absurd same
  deeper_since since (l ∷ ls) (c ∷ cs) same =
      subst (λ (ts : List (Table H)). AreSameTables bytes_of ts (c ++ all_tables cs))
      (sym (since-append since l (all_tables ls)))
      (zip_both (IsSameTable bytes_of) (tables_since since l) (tables_since since (all_tables ls)) c (all_tables cs) same.0
      (deeper_since since ls cs same.1))

  pub all_since : (since : ℕ) (levels copies : Levels H) → AreLevelsSince bytes_of since levels copies
      → AreTablesSince bytes_of since (tables_of levels) (tables_of copies)
  all_since since levels copies same =
      subst (λ (ts : List (Table H)). AreSameTables bytes_of ts (tables_of copies))
      (sym (since-append since levels.newest.items (all_tables levels.deeper.items)))
      (zip_both (IsSameTable bytes_of) (tables_since since levels.newest.items)
      (tables_since since (all_tables levels.deeper.items))
      copies.newest.items (all_tables copies.deeper.items) same.newest
      (deeper_since since levels.deeper.items copies.deeper.items same.deeper))

  -- ---- copies lie in order

  -- what is above a key is all that tables begin with, whose entries are
  begin_above : (key : List ℕ) (ts : List (Table H)) (ess : List (List Entry)) → AreOf bytes_of ts ess
      → AllByRecursion (λ e. key_cmp key e.key ≡ Less) (joined ess)
      → AllByRecursion (λ (u : Table H). key_cmp key (footer_of u).first ≡ Less) ts
  begin_above key [] ess are all = tt
  begin_above key (u ∷ us) [] are all = absurd are
  begin_above key (u ∷ us) (es ∷ ess) are all = (
    ap (key_cmp key) (first_is (number_of u) (shape_of u) es are.0.shape)
        ∙ first_above es are.0.shape.table.tabled.some (all-front (λ e. key_cmp key e.key ≡ Less) es (joined ess) all),
    begin_above key us ess are.1 (all-back (λ e. key_cmp key e.key ≡ Less) es (joined ess) all),
  )
    where
      first_above : (fs : List Entry) → 1 ≤ length fs → AllByRecursion (λ e. key_cmp key e.key ≡ Less) fs
          → key_cmp key (first_key fs) ≡ Less
      first_above [] some above = absurd (omega (arith, some))
      first_above (f ∷ fs) some above = above.0

  -- a table is before the first of copies of those behind it
  first_behind : (since : ℕ) (t c : Table H) (ts cs : List (Table H)) → IsSameTable bytes_of t c
      → AllByRecursion (λ (u : Table H). key_cmp (footer_of t).last (footer_of u).first ≡ Less) ts
      → AreTablesSince bytes_of since ts cs → AreApart cs → AreApart (c ∷ cs)
  first_behind since t c [] [] same all copies apart = tt
  first_behind since t c [] (d ∷ ds) same all copies apart = absurd copies
  first_behind since t c (u ∷ us) cs same all copies apart = by (is_since since u) cs
      (λ ds are. first_behind since t c us ds same all.1 are) copies apart
    where
      by : (b : Bool) (ds : List (Table H))
          → ((es : List (Table H)) → AreTablesSince bytes_of since us es → AreApart es → AreApart (c ∷ es))
          → AreSameTables bytes_of (cond b (u ∷ tables_since since us) (tables_since since us)) ds → AreApart ds
          → AreApart (c ∷ ds)
      by true [] later are apart = tt
      by true (d ∷ ds) later are apart = (
        ap (λ (s : TableShape). key_cmp s.footer.last (footer_of d).first) same.shape
            ∙ ap (λ (s : TableShape). key_cmp (footer_of t).last s.footer.first) are.0.shape ∙ all.0,
        apart,
      )
      by false ds later are apart = later ds are apart

  apart_since : (since : ℕ) (ts cs : List (Table H)) (ess : List (List Entry)) → AreApart ts → AreOf bytes_of ts ess
      → AreTablesSince bytes_of since ts cs → AreApart cs
  apart_since since [] [] ess apart are same = tt
  apart_since since [] (c ∷ cs) ess apart are same = absurd same
  apart_since since (t ∷ ts) cs [] apart are same = absurd are
  apart_since since (t ∷ ts) cs (es ∷ ess) apart are same =
      by (is_since since t) cs (λ ds. apart_since since ts ds ess (apart_rest bytes_of t ts apart) are.1) same
    where
      by : (b : Bool) (ds : List (Table H)) → ((fs : List (Table H)) → AreTablesSince bytes_of since ts fs → AreApart fs)
          → AreSameTables bytes_of (cond b (t ∷ tables_since since ts) (tables_since since ts)) ds → AreApart ds
      by true [] later are_same = tt
      by true (d ∷ ds) later are_same =
          first_behind since t d ts ds are_same.0
          (begin_above (footer_of t).last ts ess are.1 (later_above bytes_of t ts ess apart are.1)) are_same.1
          (later ds are_same.1)
      by false ds later are_same = later ds are_same

  deeper_apart : (since : ℕ) (levels copies : List (List (Table H))) (ess : List (List Entry)) → AreAllApart levels
      → AreOf bytes_of (all_tables levels) ess → AllZip (AreTablesSince bytes_of since) levels copies → AreAllApart copies
  deeper_apart since [] [] ess apart are same = tt
  deeper_apart since [] (c ∷ cs) ess apart are same = absurd same
  deeper_apart since (l ∷ ls) [] ess apart are same = absurd same
  deeper_apart since (l ∷ ls) (c ∷ cs) ess apart are same =
      let parts = both_of bytes_of l (all_tables ls) ess are in (
        apart_since since l c parts.front apart.0 parts.are same.0,
        deeper_apart since ls cs parts.back apart.1 parts.are_behind same.1,
      )

  pub in_order_since : (since : ℕ) (levels copies : Levels H) (ess : List (List Entry))
      → AreLevelsSince bytes_of since levels copies
      → AreInOrder levels → AreOf bytes_of (tables_of levels) ess → AreInOrder copies
  in_order_since since levels copies ess same in_order are =
      let parts = both_of bytes_of levels.newest.items (all_tables levels.deeper.items) ess are in
      deeper_apart since levels.deeper.items copies.deeper.items parts.back in_order parts.are_behind same.deeper

  -- ---- one table more

  pub since_passed : (since : ℕ) (before copies : List (Table H)) (t : Table H) → is_since since t ≡ false
      → AreTablesSince bytes_of since before copies → AreTablesSince bytes_of since (before ++ t ∷ []) copies
  since_passed since before copies t falls same =
      subst (λ (ts : List (Table H)). AreSameTables bytes_of ts copies)
      (sym (since-append since before (t ∷ [])
      ∙ ap (λ b. tables_since since before ++ cond b (t ∷ []) []) falls
      ∙ append-nil (tables_since since before))) same

  pub since_pushed : (since : ℕ) (before copies now : List (Table H)) (t u : Table H) → is_since since t ≡ true
      → AreTablesSince bytes_of since before copies → IsSameTable bytes_of t u → now ≡ copies ++ u ∷ []
      → AreTablesSince bytes_of since (before ++ t ∷ []) now
  since_pushed since before copies now t u counts_so same alike pushed =
      subst (λ (ts : List (Table H)). AreSameTables bytes_of ts now)
      (sym (since-append since before (t ∷ []) ∙ ap (λ b. tables_since since before ++ cond b (t ∷ []) []) counts_so))
      (same_pushed (IsSameTable bytes_of) (tables_since since before) copies now t u same alike pushed)

  -- ---- faults

  same_met : (span : Span) (name : Name) (P : Table H → Type 0) → ((t c : Table H) → IsSameTable bytes_of t c → P c → P t)
      → (ts cs : List (Table H)) → AreSameTables bytes_of ts cs → OneTable (IsMet bytes_of span name P) cs
      → OneTable (IsMet bytes_of span name P) ts
  same_met span name P back [] [] same one = one
  same_met span name P back [] (c ∷ cs) same one = absurd same
  same_met span name P back (t ∷ ts) [] same one = absurd one
  same_met span name P back (t ∷ ts) (c ∷ cs) same (inl met) = inl (record {
    named = met.named ∙ ap (λ (s : TableShape). table_name s.number) same.0.shape;
    meets = ap (meets span) (sym same.0.shape) ∙ met.meets;
    why = back t c same.0 met.why;
  })
  same_met span name P back (t ∷ ts) (c ∷ cs) same (inr later) = inr (same_met span name P back ts cs same.1 later)

  -- a fault of copies is one of the tables
  pub fault_since : (span : Span) (ts cs : List (Table H)) → AreSameTables bytes_of ts cs → (fault : ReadFault)
      → IsMetFault bytes_of span cs fault → IsMetFault bytes_of span ts fault
  fault_since span ts cs same NoMemory is = tt
  fault_since span ts cs same (Disk name) is = same_met span name (λ t. Unit {0}) (λ t c alike so. so) ts cs same is
  fault_since span ts cs same (Damaged name place) is =
      same_met span name (IsDamagedAt bytes_of place) (λ t c alike bad bytes told.
      subst (λ (s : TableShape). IsBadBlock s bytes place) alike.shape (bad bytes (alike.bytes ∙ told))) ts cs same is
