-- Up to where a scan read the tables whole, source by source and row by row.
use Rattle.std.specs.declared.clone.Clone as Clone
use Rattle.vl_disk.specs.declared.reader.HeldFile as HeldFile
use Rattle.std.proofs.Common.{◌≡◌, ℕ, ◌+◌, ◌<◌, Bool, true, false, cond, not, List, [], ◌∷◌, ◌++◌, length, take, refl, ap, sym, ◌∙◌, subst}
use Rattle.std.proofs.Common.{Option, inl, inr, get_or}
use Rattle.std.proofs.lemmas.Cmp.{nat_list_cmp_total}
use Rattle.std.proofs.lemmas.List.Elements.{filter-append}
use Rattle.std.specs.Prelude.{◌⊎◌, Result, Ok, Err, IfOk, OnErr}
use Rattle.std.specs.Cmp.{IsTotalOrder, upto}
use Rattle.std.specs.List.{AllByRecursion, AllZip}
use Rattle.std.specs.Ordering.{is_gt, is_lt, nat_cmp, ordering_reverse, ordering_then}
use Rattle.std.specs.declared.cmp.Ordering.{Ordering}
use Rattle.std.specs.declared.cmp.Ordering.TheVariants.{Less, Equal, Greater}
use Rattle.vl_disk.specs.declared.name.Name.{Name}
use Rattle.vl_disk.specs.declared.read_fault.ReadFault.{ReadFault}
use Rattle.vl_disk.specs.declared.read_fault.ReadFault.TheVariants.{NoMemory, Disk, Damaged}
use Rattle.vl_merge.specs.Standing.{IsUpward, is_beyond}
use Rattle.vl_model.specs.Keys.{Row, Stored, key_cmp}
use Rattle.vl_model.specs.laws.WinnerLaws.{key_tied}
use Rattle.vl_model.specs.declared.entry.Entry.{Entry}
use Rattle.vl_model.specs.declared.span.Span.{Span}
use Rattle.vl_model.specs.declared.way.Way.{Way}
use Rattle.vl_model.specs.declared.way.Way.TheVariants.{Up, Down}
use Rattle.vl_table.specs.CursorParts.{blocks_over}
use Rattle.vl_table.specs.CursorStops.{MayStop, MayStopOn}
use Rattle.vl_table.specs.MayHold.{meets}
use Rattle.vl_table.specs.ReadTo.{AreReadTo, CursorStands, IsCopied, TablesReadTo}
use Rattle.vl_table.specs.Stretches.{on_way}
use Rattle.vl_table.specs.Tables.{AreSame, shape_of}
use Rattle.vl_table.specs.declared.cursor.TableCursor.{TableCursor}
use Rattle.vl_table.specs.declared.table.Table.{Table}
use Rattle.vl_table.specs.laws.SharedBlocks.{read_alike, stops_alike}
use Rattle.vl_version.proofs.Telling.{one-either}
use Rattle.vl_version.proofs.looking.Parts.{take_next}
use Rattle.vl_version.specs.Naming.{IsMetFault}
use Rattle.vl_version.specs.declared.levels.Levels.{Levels}
use Rattle.vl_version.specs.Whole.{AddReads, AddStops, AreMet, EachStops, LevelsStop, MetReadTo, MetStop, OneOf, OneStops, SourceStands, SourcesFail, SourcesStand}
use Rattle.vl_version.specs.Whole.{is_past, met_of}
use Rattle.vl_version.specs.declared.source.Source.{Source}
use Rattle.vl_version.specs.declared.source.Source.TheVariants.{Tables}

-- ---- keys on a way

turned : (r : Ordering) → is_lt (ordering_reverse r) ≡ is_gt r
turned Less = refl
turned Equal = refl
turned Greater = refl

not_true : (b : Bool) → not b ≡ true → b ≡ false
not_true true is = absurd cc
not_true false is = refl

-- of two orders one after the other the first isn't greater where both together aren't
first_not : (r s : Ordering) → is_gt (ordering_then r s) ≡ false → is_gt r ≡ false
first_not Less s is = refl
first_not Equal s is = refl
first_not Greater s is = is

keys : IsTotalOrder key_cmp
keys = nat_list_cmp_total

lt_is_gt : (a b : List ℕ) → is_lt (key_cmp a b) ≡ is_gt (key_cmp b a)
lt_is_gt a b = ap is_lt (keys.antisymm a b) ∙ turned (key_cmp b a)

-- what is at least a key that isn't below another isn't below it either; and so downward
not_below : (key a b : List ℕ) → is_lt (key_cmp a key) ≡ false → is_gt (key_cmp a b) ≡ false → is_lt (key_cmp b key) ≡ false
not_below key a b past le = lt_is_gt b key ∙ upto keys key a b (sym (lt_is_gt a key) ∙ past) le

not_above : (key a b : List ℕ) → is_gt (key_cmp a key) ≡ false → is_gt (key_cmp b a) ≡ false → is_gt (key_cmp b key) ≡ false
not_above key a b past le = upto keys b a key le past

-- with an entry that doesn't come before a key none does that comes behind it
pub past_upward : (way : Way) (key : List ℕ) → IsUpward way (is_past way key)
past_upward Up key e f met le =
    ap not (not_below key e.key f.key (not_true (is_lt (key_cmp e.key key)) met)
    (first_not (key_cmp e.key f.key) (nat_cmp f.version e.version) le))
past_upward Down key e f met le =
    ap not (not_above key e.key f.key (not_true (is_gt (key_cmp e.key key)) met)
    (first_not (key_cmp f.key e.key) (nat_cmp e.version f.version) le))

-- and so it is of keys that come behind another
pub beyond_upward : (way : Way) (key : List ℕ) → IsUpward way (is_beyond way key)
beyond_upward Up key e f met le = by (is_gt (key_cmp f.key key)) refl
  where
    by : (b : Bool) → is_gt (key_cmp f.key key) ≡ b → is_gt (key_cmp f.key key) ≡ true
    by true is = is
    by false is =
        let no = sym met ∙ upto keys e.key f.key key (first_not (key_cmp e.key f.key) (nat_cmp f.version e.version) le) is in absurd cc
beyond_upward Down key e f met le = by (is_lt (key_cmp f.key key)) refl
  where
    by : (b : Bool) → is_lt (key_cmp f.key key) ≡ b → is_lt (key_cmp f.key key) ≡ true
    by true is = is
    by false is =
        let no = sym met ∙ lt_is_gt e.key key ∙ upto keys key f.key e.key (sym (lt_is_gt f.key key) ∙ is)
        (first_not (key_cmp f.key e.key) (nat_cmp e.version f.version) le) in
        absurd cc

pub none_upward : (way : Way) → IsUpward way (λ _. false)
none_upward way e f met le = met

-- an entry doesn't come before its own key
pub past_itself : (way : Way) (e : Entry) → is_past way e.key e ≡ true
past_itself Up e = ap (λ r. not (is_lt r)) (key_tied e.key)
past_itself Down e = ap (λ r. not (is_gt r)) (key_tied e.key)

-- ---- lists

all_parts : {X : Type 0} (P : X → Type 0) (xs ys : List X) → AllByRecursion P (xs ++ ys) → AllByRecursion P xs × AllByRecursion P ys
all_parts P [] ys all = (tt, all)
all_parts P (x ∷ xs) ys all = let parts = all_parts P xs ys all.1 in ((all.0, parts.0), parts.1)

all_joined : {X : Type 0} (P : X → Type 0) (xs : List X) (y : X) → AllByRecursion P xs → P y → AllByRecursion P (xs ++ y ∷ [])
all_joined P [] y all here = (here, tt)
all_joined P (x ∷ xs) y all here = (all.0, all_joined P xs y all.1 here)

pub zip_none : {A B : Type 0} (R : A → B → Type 0) (xs : List A) (ys : List B) → ys ≡ [] → AllZip R xs ys → xs ≡ []
zip_none R [] ys none zip = refl
zip_none R (x ∷ xs) [] none zip = absurd zip
zip_none R (x ∷ xs) (y ∷ ys) none zip = absurd cc

zip_last : {A B : Type 0} (R : A → B → Type 0) (xs : List A) (ys : List B) (x : A) (y : B) → AllZip R xs ys → R x y
    → AllZip R (xs ++ x ∷ []) (ys ++ y ∷ [])
zip_last R [] [] x y zip here = (here, tt)
zip_last R [] (b ∷ ys) x y zip here = absurd zip
zip_last R (a ∷ xs) [] x y zip here = absurd zip
zip_last R (a ∷ xs) (b ∷ ys) x y zip here = (zip.0, zip_last R xs ys x y zip.1 here)

one_of_more : {X : Type 0} (P : X → Type 0) (xs ys : List X) → OneOf P xs → OneOf P (xs ++ ys)
one_of_more P [] ys one = absurd one
one_of_more P (x ∷ xs) ys (inl here) = inl here
one_of_more P (x ∷ xs) ys (inr later) = inr (one_of_more P xs ys later)

one_of_last : {X : Type 0} (P : X → Type 0) (xs : List X) (y : X) → P y → OneOf P (xs ++ y ∷ [])
one_of_last P [] y here = inl here
one_of_last P (x ∷ xs) y here = inr (one_of_last P xs y here)

module _ {H : Type 0} (bytes_of : H → Option (List ℕ)) where
  -- ---- those that meet the interval

  module _ (span : Span) where
    pub are_none : (met : List (Table H)) → met ≡ [] → AreMet bytes_of span [] met
    are_none met none = subst (AreMet bytes_of span []) (sym none) tt

    pub are_outside : (ts met : List (Table H)) (t : Table H) → meets span (shape_of t) ≡ false → AreMet bytes_of span ts met → AreMet bytes_of span (ts ++ t ∷ []) met
    are_outside ts met t out are =
        subst (λ (l : List (Table H)). AllZip (IsCopied bytes_of) l met)
        (sym (filter-append (λ (u : Table H). meets span (shape_of u)) ts (t ∷ [])
        ∙ ap (λ (b : Bool). met_of span ts ++ cond b (t ∷ []) []) out ∙ append-none (met_of span ts))) are
      where
        append-none : (l : List (Table H)) → l ++ [] ≡ l
        append-none [] = refl
        append-none (x ∷ l) = ap (λ (m : List (Table H)). x ∷ m) (append-none l)

    pub are_met : (size_of : H → ℕ) (name_of : H → Name) (ts met now : List (Table H)) (t u : Table H) → meets span (shape_of t) ≡ true
        → AreSame bytes_of size_of name_of t u → now ≡ met ++ u ∷ [] → AreMet bytes_of span ts met → AreMet bytes_of span (ts ++ t ∷ []) now
    are_met size_of name_of ts met now t u in_it same pushed are =
        subst (AreMet bytes_of span (ts ++ t ∷ [])) (sym pushed)
        (subst (λ (l : List (Table H)). AllZip (IsCopied bytes_of) l (met ++ u ∷ []))
        (sym (filter-append (λ (v : Table H). meets span (shape_of v)) ts (t ∷ [])
        ∙ ap (λ (b : Bool). met_of span ts ++ cond b (t ∷ []) []) in_it))
        (zip_last (IsCopied bytes_of) (met_of span ts) met t u are (record { shape = same.shape; bytes = same.bytes })))

    pub are_next : (ts met : List (Table H)) (i : ℕ) (t : Table H) → i < length ts → t ≡ get_or ts i t → AreMet bytes_of span (take i ts ++ t ∷ []) met
        → AreMet bytes_of span (take (i + 1) ts) met
    are_next ts met i t inside is are = subst (λ (l : List (Table H)). AreMet bytes_of span l met) (sym (take_next ts i t inside is)) are

  -- ---- sources

  module _ {R : Type 0} {g : HeldFile.Ghosts H} {k : Clone.Ghosts H} (span : Span) (way : Way) where
    pub adds_no_reads : (P : (Entry → Bool) → Type 0) (old : List (Source H R g k)) → ((is_met : Entry → Bool) → P is_met)
        → AddReads bytes_of P old old
    adds_no_reads P old so is_met stand = (stand, so is_met)

    -- a cursor over copies of those that meet the interval
    pub adds_cursor_reads : (ts met : List (Table H)) (cursor : TableCursor H R g k) (old now : List (Source H R g k))
        → AreMet bytes_of span ts met → ((is_met : Entry → Bool) → CursorStands bytes_of cursor is_met → TablesReadTo bytes_of span way is_met met)
        → now ≡ old ++ Tables cursor ∷ [] → AddReads bytes_of (λ is_met. MetReadTo bytes_of span way is_met ts) old now
    adds_cursor_reads ts met cursor old now are reads joined is_met stand =
        let parts = all_parts (λ (s : Source H R g k). SourceStands bytes_of s is_met) old (Tables cursor ∷ [])
        (subst (SourcesStand bytes_of is_met) joined stand) in
        (parts.0, read_alike bytes_of span way is_met (met_of span ts) met are (reads is_met parts.1.0))

    -- none of them meets it
    pub adds_unmet : (ts met : List (Table H)) (old : List (Source H R g k)) → AreMet bytes_of span ts met → met ≡ []
        → AddReads bytes_of (λ is_met. MetReadTo bytes_of span way is_met ts) old old
    adds_unmet ts met old are none = adds_no_reads (λ is_met. MetReadTo bytes_of span way is_met ts) old
        (λ is_met. subst (TablesReadTo bytes_of span way is_met) (sym (zip_none (IsCopied bytes_of) (met_of span ts) met none are))
        (λ rises. by way is_met))
      where
        by : (w : Way) (is_met : Entry → Bool) → AreReadTo bytes_of span w is_met (blocks_over span w (on_way w []))
        by Up is_met = record { read = []; rest = []; parts = refl; stood = tt; met = inl refl }
        by Down is_met = record { read = []; rest = []; parts = refl; stood = tt; met = inl refl }

    -- one more
    pub adds_next_read : {X : Type 0} (P : (Entry → Bool) → X → Type 0) (xs : List X) (i : ℕ) (x : X) (old mid now : List (Source H R g k))
        → i < length xs → x ≡ get_or xs i x
        → AddReads bytes_of (λ is_met. AllByRecursion (P is_met) (take i xs)) old mid → AddReads bytes_of (λ is_met. P is_met x) mid now
        → AddReads bytes_of (λ is_met. AllByRecursion (P is_met) (take (i + 1) xs)) old now
    adds_next_read P xs i x old mid now inside is first second is_met stand =
        let last = second is_met stand in
        let before = first is_met last.0 in
        (before.0, subst (AllByRecursion (P is_met)) (sym (take_next xs i x inside is)) (all_joined (P is_met) (take i xs) x before.1 last.1))

    -- ---- faults

    either : (xs ys : List (Source H R g k)) (fault : ReadFault) → SourcesFail bytes_of fault (xs ++ ys)
        → SourcesFail bytes_of fault xs ⊎ SourcesFail bytes_of fault ys
    either xs ys fault one = one-either bytes_of xs ys fault one

    pub adds_cursor_stops : (ts met : List (Table H)) (cursor : TableCursor H R g k) (old now : List (Source H R g k))
        → AreMet bytes_of span ts met → ((fault : ReadFault) → MayStop bytes_of cursor fault → MayStopOn bytes_of span way met fault)
        → now ≡ old ++ Tables cursor ∷ [] → AddStops bytes_of (λ fault. MetStop bytes_of span way fault ts) old now
    adds_cursor_stops ts met cursor old now are stops joined fault fails =
        by (either old (Tables cursor ∷ []) fault (subst (SourcesFail bytes_of fault) joined fails))
      where
        by : SourcesFail bytes_of fault old ⊎ SourcesFail bytes_of fault (Tables cursor ∷ [])
            → SourcesFail bytes_of fault old ⊎ MetStop bytes_of span way fault ts
        by (inl one) = inl one
        by (inr (inl failed)) = inr (subst (λ (f : ReadFault). MetStop bytes_of span way f ts) (sym failed.2)
            (stops_alike bytes_of span way failed.0 (met_of span ts) met are (stops failed.0 failed.1)))
        by (inr (inr none)) = absurd none

    pub adds_no_stops : (P : ReadFault → Type 0) (old : List (Source H R g k)) → AddStops bytes_of P old old
    adds_no_stops P old fault fails = inl fails

    pub adds_next_stop : {X : Type 0} (P : ReadFault → X → Type 0) (xs : List X) (i : ℕ) (x : X) (old mid now : List (Source H R g k))
        → i < length xs → x ≡ get_or xs i x
        → AddStops bytes_of (λ fault. OneOf (P fault) (take i xs)) old mid → AddStops bytes_of (λ fault. P fault x) mid now
        → AddStops bytes_of (λ fault. OneOf (P fault) (take (i + 1) xs)) old now
    adds_next_stop P xs i x old mid now inside is first second fault fails =
        subst (λ l. SourcesFail bytes_of fault old ⊎ OneOf (P fault) l) (sym (take_next xs i x inside is)) (by (second fault fails))
      where
        by : SourcesFail bytes_of fault mid ⊎ P fault x → SourcesFail bytes_of fault old ⊎ OneOf (P fault) (take i xs ++ x ∷ [])
        by (inl before) = elim (first fault before) [
          | inl was ↦ inl was
          | inr one ↦ inr (one_of_more (P fault) (take i xs) (x ∷ []) one)
        ]
        by (inr here) = inr (one_of_last (P fault) (take i xs) x here)

    pub adds_both_stops : (P Q : ReadFault → Type 0) (old mid now : List (Source H R g k)) → AddStops bytes_of P old mid
        → AddStops bytes_of Q mid now → AddStops bytes_of (λ fault. P fault ⊎ Q fault) old now
    adds_both_stops P Q old mid now first second fault fails = elim (second fault fails) [
      | inl before ↦ elim (first fault before) [ inl was ↦ inl was | inr one ↦ inr (inl one) ]
      | inr one ↦ inr (inr one)
    ]

-- what doesn't read may want memory
pub stops_memory : {H : Type 0} (bytes_of : H → Option (List ℕ)) (span : Span) (way : Way) (levels : Levels H) (fault : ReadFault)
    → IsMetFault bytes_of span [] fault → LevelsStop bytes_of span way levels fault
stops_memory bytes_of span way levels NoMemory is = tt
stops_memory bytes_of span way levels (Disk name) is = absurd is
stops_memory bytes_of span way levels (Damaged name place) is = absurd is

pub stops_levels : {H : Type 0} (bytes_of : H → Option (List ℕ)) (span : Span) (way : Way) (levels : Levels H) (fault : ReadFault)
    → EachStops bytes_of span way fault levels.newest.items ⊎ OneStops bytes_of span way fault levels.deeper.items
    → LevelsStop bytes_of span way levels fault
stops_levels bytes_of span way levels NoMemory one = tt
stops_levels bytes_of span way levels (Disk name) one = one
stops_levels bytes_of span way levels (Damaged name place) one = one

-- ---- rows

-- of an answer two facts together
pub if_ok_both : {T E : Type 0} (r : Result T E) (P Q S : T → Type 0) → ((x : T) → P x → Q x → S x) → IfOk r P → IfOk r Q → IfOk r S
if_ok_both (Ok x) P Q S both p q = both x p q
if_ok_both (Err e) P Q S both p q = tt

pub rows_next : (P : List ℕ → Type 0) (e : Entry) (old new : List Row) → AllByRecursion (λ (row : Row). P row.0) old → P e.key
    → (new ≡ old) ⊎ ((value : Stored) × (new ≡ old ++ (e.key, value) ∷ [])) → AllByRecursion (λ (row : Row). P row.0) new
rows_next P e old new all here (inl same) = subst (AllByRecursion (λ (row : Row). P row.0)) (sym same) all
rows_next P e old new all here (inr added) =
    subst (AllByRecursion (λ (row : Row). P row.0)) (sym added.1) (all_joined (λ (row : Row). P row.0) old (e.key, added.0) all here)

pub rows_weaker : (P Q : Row → Type 0) → ((row : Row) → P row → Q row) → (rows : List Row) → AllByRecursion P rows → AllByRecursion Q rows
rows_weaker P Q weaker [] all = tt
rows_weaker P Q weaker (row ∷ rows) all = (weaker row all.0, rows_weaker P Q weaker rows all.1)

-- what holds where an answer fails
pub on_err_so : {T E : Type 0} (r : Result T E) (P : Type 0) → P → OnErr r P
on_err_so (Ok x) P p = tt
on_err_so (Err e) P p = p
