-- Cursors over tables as sources of a scan.
use Rattle.std.specs.declared.clone.Clone as Clone
use Rattle.vl_disk.specs.declared.reader.HeldFile as HeldFile
use Rattle.std.proofs.Common.{◌≡◌, ℕ, zero, suc, ◌+◌, ◌<◌, List, [], ◌∷◌, ◌++◌, length, take, drop, refl, ap, sym}
use Rattle.std.proofs.Common.{◌∙◌, subst, append-nil, append_assoc, arith}
use Rattle.std.proofs.Common.{Global, get_or, inl, inr}
use Rattle.std.proofs.lemmas.Bool.Decides.{nat_tests}
use Rattle.std.proofs.lemmas.List.Elements.{filter-append}
use Rattle.std.specs.Prelude.{true, false, ◌==◌, vec_len, Vec, Option, Some}
use Rattle.std.specs.List.{slice_get}
use Rattle.vl_model.specs.Cutting.{joined}
use Rattle.vl_disk.specs.declared.name.Name.{Name}
use Rattle.vl_model.specs.Reads.{is_in_span}
use Rattle.vl_model.specs.declared.entry.Entry.{Entry}
use Rattle.vl_model.specs.declared.span.Span.{Span}
use Rattle.vl_model.specs.declared.way.Way.{Way}
use Rattle.vl_model.specs.EntryOrder.{along, within}
use Rattle.vl_table.specs.CursorLeft.{cursor_left}
use Rattle.vl_table.specs.CursorParts.{MayFailOn}
use Rattle.vl_table.specs.CursorStops.{MayStop}
use Rattle.vl_table.specs.MayHold.{meets}
use Rattle.vl_table.specs.OfTables.{AreOf}
use Rattle.vl_table.specs.Tables.{AreSame, IsOf, number_of, shape_of}
use Rattle.vl_table.specs.declared.cursor.TableCursor.{TableCursor}
use Rattle.vl_disk.specs.declared.read_fault.ReadFault.{ReadFault}
use Rattle.vl_disk.specs.declared.read_fault.ReadFault.TheVariants as table
use Rattle.vl_table.specs.declared.table.Table.{Table}
use Rattle.vl_table.specs.laws.TrueBlocks.{no_bad_block}
use Rattle.vl_table.specs.body.Bytes.{table_bytes}
use Rattle.vl_table.specs.body.Shapes.{IsShapeOf}
use Rattle.vl_table.specs.declared.body.shape.TableShape.{TableShape}
use Rattle.vl_version.specs.Gathered.{Adds, HaveWithin}
use Rattle.vl_disk.specs.declared.read_fault.ReadFault.TheVariants.{Damaged}
use Rattle.vl_version.specs.declared.source.Source.{Source}
use Rattle.vl_version.specs.declared.source.Source.TheVariants.{Tables}
use Rattle.vl_version.specs.levels.LevelTables.{AreApart, all_tables}
use Rattle.vl_version.proofs.GatherLaws.{give_cut, give_nothing}
use Rattle.vl_version.proofs.RangesMet.{joined-rising, meets_none}
use Rattle.vl_version.proofs.Telling.{OneFails, adds_as, adds_more, adds_none, adds_then}
use Rattle.vl_version.proofs.looking.LookSteps.{both_of}
use Rattle.vl_version.proofs.looking.Parts.{take_next, tables-split}

module _ {H : Type 0} (bytes_of : H → Option (List ℕ)) where
  -- ---- those that meet the interval

  of_same : (size_of : H → ℕ) (name_of : H → Name) (t u : Table H) (es : List Entry) → AreSame bytes_of size_of name_of t u
      → IsOf bytes_of t es → IsOf bytes_of u es
  of_same size_of name_of t u es same is = record {
    shape = subst (λ (s : TableShape). IsShapeOf s.number es s) (sym same.shape) is.shape;
    told = same.bytes ∙ is.told ∙ ap (λ (s : TableShape). Some (table_bytes s.format s.number es)) (sym same.shape);
  }

  are_last : (ts : List (Table H)) (ess : List (List Entry)) (u : Table H) (es : List Entry) → AreOf bytes_of ts ess → IsOf bytes_of u es
      → AreOf bytes_of (ts ++ u ∷ []) (ess ++ es ∷ [])
  are_last [] [] u es are is = (is, tt)
  are_last [] (fs ∷ ess) u es are is = absurd are
  are_last (t ∷ ts) [] u es are is = absurd are
  are_last (t ∷ ts) (fs ∷ ess) u es are is = (are.0, are_last ts ess u es are.1 is)

  joined-last : (ess : List (List Entry)) (es : List Entry) → joined (ess ++ es ∷ []) ≡ joined ess ++ es
  joined-last [] es = append-nil es
  joined-last (fs ∷ ess) es = ap (λ (l : List Entry). fs ++ l) (joined-last ess es) ∙ sym (append_assoc fs (joined ess) es)

  pub have_none : (span : Span) → HaveWithin bytes_of span [] []
  have_none span = record { have = []; are = tt; same = refl }

  within_both : (span : Span) (es fs : List Entry) → within span (es ++ fs) ≡ within span es ++ within span fs
  within_both span es fs = filter-append (λ (e : Entry). is_in_span span e.key) es fs

  have_met : (span : Span) (es : List Entry) (ts : List (Table H)) (u : Table H) (fs : List Entry) → HaveWithin bytes_of span es ts
      → IsOf bytes_of u fs → HaveWithin bytes_of span (es ++ fs) (ts ++ u ∷ [])
  have_met span es ts u fs so is = record {
    have = so.have ++ fs ∷ [];
    are = are_last ts so.have u fs so.are is;
    same = ap (within span) (joined-last so.have fs) ∙ within_both span (joined so.have) fs
        ∙ ap (λ l. l ++ within span fs) so.same ∙ sym (within_both span es fs);
  }

  have_passed : (span : Span) (es : List Entry) (ts : List (Table H)) (fs : List Entry) → HaveWithin bytes_of span es ts
      → within span fs ≡ [] → HaveWithin bytes_of span (es ++ fs) ts
  have_passed span es ts fs so none = record {
    have = so.have;
    are = so.are;
    same = so.same ∙ sym (append-nil (within span es)) ∙ ap (λ l. within span es ++ l) (sym none) ∙ sym (within_both span es fs);
  }

  -- of tables up to a position and the next one
  abbrev pub HaveFirst : Span → List (Table H) → ℕ → List (Table H) → Type 0
  HaveFirst span ts i met = (tabled : List (List Entry)) → AreOf bytes_of (take i ts) tabled → HaveWithin bytes_of span (joined tabled) met

  pub have_first : (span : Span) (ts met : List (Table H)) → met ≡ [] → HaveFirst span ts 0 met
  have_first span ts met none [] are = subst (λ (l : List (Table H)). HaveWithin bytes_of span [] l) (sym none) (have_none span)
  have_first span ts met none (es ∷ ess) are = absurd are

  pub next_of : (span : Span) (ts met now : List (Table H)) (i : ℕ) (t : Table H) → i < length ts → t ≡ get_or ts i t
      → HaveFirst span ts i met
      → ((es fs : List Entry) → HaveWithin bytes_of span es met → IsOf bytes_of t fs → HaveWithin bytes_of span (es ++ fs) now)
      → HaveFirst span ts (i + 1) now
  next_of span ts met now i t inside is so next tabled are =
      let both = both_of bytes_of (take i ts) (t ∷ []) tabled
      (subst (λ (l : List (Table H)). AreOf bytes_of l tabled) (take_next ts i t inside is) are) in
      subst (λ (l : List Entry). HaveWithin bytes_of span l now) (sym both.whole) (by both.front both.back both.are both.are_behind)
    where
      by : (front back : List (List Entry)) → AreOf bytes_of (take i ts) front → AreOf bytes_of (t ∷ []) back
          → HaveWithin bytes_of span (joined front ++ joined back) now
      by front [] are behind = absurd behind
      by front (fs ∷ []) are behind =
          subst (λ (l : List Entry). HaveWithin bytes_of span (joined front ++ l) now) (sym (append-nil fs))
          (next (joined front) fs (so front are) behind.0)
      by front (fs ∷ gs ∷ more) are behind = absurd behind.1

  -- a table that is shared has the same entries
  pub have_shared : (size_of : H → ℕ) (name_of : H → Name) (span : Span) (t u : Table H) (met now : List (Table H))
      → AreSame bytes_of size_of name_of t u → now ≡ met ++ u ∷ [] → (es fs : List Entry) → HaveWithin bytes_of span es met
      → IsOf bytes_of t fs → HaveWithin bytes_of span (es ++ fs) now
  have_shared size_of name_of span t u met now same pushed es fs have of_t =
      subst (HaveWithin bytes_of span (es ++ fs)) (sym pushed)
      (have_met span es met u fs have (of_same size_of name_of t u fs same of_t))

  pub have_outside : (span : Span) (t : Table H) (met : List (Table H)) → meets span (shape_of t) ≡ false → (es fs : List Entry)
      → HaveWithin bytes_of span es met → IsOf bytes_of t fs → HaveWithin bytes_of span (es ++ fs) met
  have_outside span t met out es fs have of_t = have_passed span es met fs have (meets_none bytes_of span t fs of_t out)

  -- ---- a cursor over them

  of_get : (ts : List (Table H)) (ess : List (List Entry)) (i : ℕ) (t : Table H) → AreOf bytes_of ts ess → slice_get ts i ≡ Some t
      → (es : List Entry) × IsOf bytes_of t es
  of_get [] [] i t are found = absurd cc
  of_get [] (es ∷ ess) i t are found = absurd are
  of_get (u ∷ us) [] i t are found = absurd are
  of_get (u ∷ us) (es ∷ ess) zero t are found = let same : u ≡ t = cc in (es, subst (λ (v : Table H). IsOf bytes_of v es) same are.0)
  of_get (u ∷ us) (es ∷ ess) (suc i) t are found = of_get us ess i t are.1 found

  sound_tables : (ts : List (Table H)) (ess : List (List Entry)) (name : Name) (place : ℕ) (why : ReadFault) → AreOf bytes_of ts ess
      → MayFailOn bytes_of ts why → Damaged name place ≡ why → ⊥
  sound_tables ts ess name place table.NoMemory are may is = cc
  sound_tables ts ess name place (table.Disk file) are may is = cc
  sound_tables ts ess name place (table.Damaged file at) are may is =
      let one = of_get ts ess may.0 may.1 are may.2 in
      no_bad_block bytes_of may.1 one.0 at one.1 (may.4 (table_bytes (shape_of may.1).format (number_of may.1) one.0) one.1.told)

  module _ {R : Type 0} {g : HeldFile.Ghosts H} {k : Clone.Ghosts H} (span : Span) (way : Way) (ts met : List (Table H)) (tabled : List (List Entry)) (apart : AreApart ts)
      (are : AreOf bytes_of ts tabled) (within_met : HaveWithin bytes_of span (joined tabled) met) where
    pub adds_cursor : (cursor : TableCursor H R g k) (old now : List (Source H R g k))
        → ((ess : List (List Entry)) → AreOf bytes_of met ess → cursor_left bytes_of cursor ≡ Some (along way (within span (joined ess))))
        → ((why : ReadFault) → MayStop bytes_of cursor why → MayFailOn bytes_of met why)
        → now ≡ old ++ Tables cursor ∷ [] → Adds bytes_of span way (joined tabled) old now
    adds_cursor cursor old now left fails joined_is =
        adds_more bytes_of span way (joined tabled) old (Tables cursor ∷ []) now joined_is (record {
          left = along way (within span (joined tabled)) ∷ [];
          told = ap (λ l. l ∷ []) (left within_met.have within_met.are ∙ ap (λ (l : List Entry). Some (along way l)) within_met.same);
          give = give_cut span way (joined tabled) (joined-rising bytes_of ts tabled apart are);
          sound = λ name place one. by name place one;
        })
      where
        by : (name : Name) (place : ℕ) → OneFails bytes_of (Tables cursor ∷ []) (Damaged name place) → ⊥
        by name place (inl failed) = sound_tables met within_met.have name place failed.0 within_met.are (fails failed.0 failed.1) failed.2
        by name place (inr none) = none

    -- without any of them
    pub adds_without : (old : List (Source H R g k)) → met ≡ [] → Adds bytes_of span way (joined tabled) old old
    adds_without old none =
        adds_more bytes_of span way (joined tabled) old [] old (sym (append-nil old)) (record {
          left = [];
          told = refl;
          give = give_nothing span way (joined tabled) (by within_met.have
              (subst (λ (l : List (Table H)). AreOf bytes_of l within_met.have) none within_met.are) within_met.same);
          sound = λ name place one. one;
        })
      where
        by : (have : List (List Entry)) → AreOf bytes_of [] have → within span (joined have) ≡ within span (joined tabled)
            → within span (joined tabled) ≡ []
        by [] are same = sym same
        by (es ∷ ess) are same = absurd are

  -- ---- more tables

  module _ {R : Type 0} {g : HeldFile.Ghosts H} {k : Clone.Ghosts H} (span : Span) (way : Way) where
    -- what these tables add
    abbrev pub AddTables : List (Table H) → List (Source H R g k) → List (Source H R g k) → Type 0
    AddTables ts old now = (tabled : List (List Entry)) → AreOf bytes_of ts tabled → Adds bytes_of span way (joined tabled) old now

    pub adds_no_tables : (old : List (Source H R g k)) → AddTables [] old old
    adds_no_tables old [] are = adds_none bytes_of span way old
    adds_no_tables old (es ∷ ess) are = absurd are

    pub adds_next : (ts us : List (Table H)) (old mid now : List (Source H R g k)) → AddTables ts old mid → AddTables us mid now
        → AddTables (ts ++ us) old now
    adds_next ts us old mid now first second tabled are =
        let both = both_of bytes_of ts us tabled are in
        adds_as bytes_of span way (joined both.front ++ joined both.back) (joined tabled) old now (sym both.whole)
        (adds_then bytes_of span way (joined both.front) (joined both.back) old mid now (first both.front both.are)
        (second both.back both.are_behind))

    -- a table alone is apart
    pub adds_one : (t : Table H) (ts : List (Table H)) (old now : List (Source H R g k)) → ts ≡ t ∷ []
        → ((tabled : List (List Entry)) → AreOf bytes_of ts tabled → AreApart ts → Adds bytes_of span way (joined tabled) old now)
        → AddTables (t ∷ []) old now
    adds_one t ts old now alone adds tabled are =
        adds tabled (subst (λ (l : List (Table H)). AreOf bytes_of l tabled) (sym alone) are) (subst AreApart (sym alone) tt)

  -- ---- no tables

  pub no_back : (ts us : List (Table H)) → ts ++ us ≡ [] → us ≡ []
  no_back [] us is = is
  no_back (t ∷ ts) us is = absurd cc

  pub no_front : (ts us : List (Table H)) → ts ++ us ≡ [] → ts ≡ []
  no_front [] us is = refl
  no_front (t ∷ ts) us is = absurd cc

  pub no_level : (levels : List (List (Table H))) (i : ℕ) (level : List (Table H)) → i < length levels → level ≡ get_or levels i level
      → all_tables levels ≡ [] → level ≡ []
  no_level levels i level inside is none =
      no_back (all_tables (take i levels)) level
      (no_front (all_tables (take i levels) ++ level) (all_tables (drop (suc i) levels))
      (sym (tables-split levels i level inside is) ∙ none))

-- ---- lists without elements

-- the element with an index, and the slice of it alone
pub item_at : {T : Type 0} (xs : List T) (i : ℕ) → i < length xs → (x : T) × (x ≡ get_or xs i x)
item_at [] i inside = absurd (omega arith)
item_at (x ∷ xs) zero inside = (x, refl)
item_at (x ∷ xs) (suc i) inside = item_at xs i (omega arith)

pub one_at : {T : Type 0} (xs : List T) (i n : ℕ) (x : T) → i < length xs → x ≡ get_or xs i x → n ≡ 1 → take n (drop i xs) ≡ x ∷ []
one_at [] i n x inside is one = absurd (omega arith)
one_at (y ∷ ys) zero n x inside is one = ap (λ (k : ℕ). take k (y ∷ ys)) one ∙ ap (λ (z : _). z ∷ []) (sym is)
one_at (y ∷ ys) (suc i) n x inside is one = one_at ys i n x (omega arith) is one

pub no_items : {T : Type 0} (v : Vec T Global) → (vec_len v == 0) ≡ true → v.items ≡ []
no_items {T} v none = by v.items (ap (λ (n : ℕ). n == 0) (sym v.ok.0) ∙ none)
  where
    by : (xs : List T) → (length xs == 0) ≡ true → xs ≡ []
    by [] none = refl
    by (x ∷ xs) none = absurd (grind (arith, nat_tests, none))

pub some_items : {T : Type 0} (v : Vec T Global) → (vec_len v == 0) ≡ false → v.items ≡ [] → ⊥
some_items v some none =
    let same : (vec_len v == 0) ≡ true = ap (λ (n : ℕ). n == 0) (v.ok.0 ∙ ap length none) in
    let apart : true ≡ false = sym same ∙ some in
    cc
