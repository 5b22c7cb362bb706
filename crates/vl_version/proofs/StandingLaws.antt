-- Sources over the blocks that stand, also where tables aren't true, put together one behind the other.
use Rattle.std.specs.declared.clone.Clone as Clone
use Rattle.vl_disk.specs.declared.reader.HeldFile as HeldFile
use Rattle.std.proofs.Common.{◌≡◌, ℕ, ◌+◌, ◌<◌, Bool, true, false, cond, List, [], ◌∷◌, ◌++◌, length, map, take, refl, ap, sym, ◌∙◌, subst}
use Rattle.std.proofs.Common.{Option, Some, None, append-nil, append_assoc, get_or}
use Rattle.std.proofs.lemmas.List.Elements.{filter-append}
use Rattle.std.specs.Prelude.{Result, Ok, Err, IfOk}
use Rattle.std.specs.List.{AllZip}
use Rattle.std.specs.Option.{option_and_then, option_map}
use Rattle.vl_disk.specs.declared.name.Name.{Name}
use Rattle.vl_disk.specs.declared.read_fault.ReadFault.{ReadFault}
use Rattle.vl_disk.specs.declared.read_fault.ReadFault.TheVariants.{NoMemory, Disk, Damaged}
use Rattle.vl_model.specs.Cutting.{joined}
use Rattle.vl_model.specs.EntryOrder.{within}
use Rattle.vl_model.specs.Merging.{IsAlong}
use Rattle.vl_model.specs.Reads.{is_in_span}
use Rattle.vl_model.specs.Winners.{winner}
use Rattle.vl_model.specs.declared.entry.Entry.{Entry}
use Rattle.vl_model.specs.declared.span.Span.{Span}
use Rattle.vl_model.specs.declared.way.Way.{Way}
use Rattle.vl_model.specs.declared.way.Way.TheVariants.{Up, Down}
use Rattle.vl_table.specs.CursorLeft.{cursor_left}
use Rattle.vl_table.specs.CursorParts.{Block, blocks_over, entries_over, entries_told, rise_over}
use Rattle.vl_table.specs.ReadTo.{IsCopied}
use Rattle.vl_table.specs.Standing.{standing_entries}
use Rattle.vl_table.specs.Stretches.{on_way}
use Rattle.vl_table.specs.Tables.{number_of, shape_of}
use Rattle.vl_table.specs.declared.cursor.TableCursor.{TableCursor}
use Rattle.vl_table.specs.declared.table.Table.{Table}
use Rattle.vl_table.specs.laws.SharedBlocks.{told_alike}
use Rattle.vl_version.specs.Answers.{IsAnswer}
use Rattle.vl_version.specs.Gathered.{GiveWinners, TellWinners}
use Rattle.vl_version.specs.Gives.{left_in}
use Rattle.vl_version.specs.Standing.{AddsShown, IsStanding, ShowWinners}
use Rattle.vl_version.specs.Whole.{AreMet, met_of}
use Rattle.vl_version.specs.declared.source.Source.{Source}
use Rattle.vl_version.specs.declared.source.Source.TheVariants.{Tables}
use Rattle.vl_version.proofs.GatherLaws.{give_both}
use Rattle.vl_version.proofs.Telling.{map-both}
use Rattle.vl_version.proofs.WholeLaws.{zip_none}
use Rattle.vl_version.proofs.Winning.{winner-within}
use Rattle.vl_version.proofs.looking.Parts.{take_next}

-- ---- lists

joined_last : (fs : List (List Entry)) (es : List Entry) → joined (fs ++ es ∷ []) ≡ joined fs ++ es
joined_last [] es = append-nil es
joined_last (f ∷ fs) es = ap (λ (l : List Entry). f ++ l) (joined_last fs es) ∙ sym (append_assoc f (joined fs) es)

pub joined_both : (es fs : List (List Entry)) → joined (es ++ fs) ≡ joined es ++ joined fs
joined_both [] fs = refl
joined_both (e ∷ es) fs = ap (λ (l : List Entry). e ++ l) (joined_both es fs) ∙ sym (append_assoc e (joined es) (joined fs))

module _ {X : Type 0} (P : X → List Entry → Type 0) where
  -- the last one apart
  record HasLast (xs : List X) (x : X) (ess : List (List Entry)) : Type 0 where
    front : List (List Entry)
    last : List Entry
    is : ess ≡ front ++ last ∷ []
    before : AllZip P xs front
    so : P x last

  zip_end : (xs : List X) (x : X) (ess : List (List Entry)) → AllZip P (xs ++ x ∷ []) ess → HasLast xs x ess
  zip_end [] x [] zip = absurd zip
  zip_end [] x (es ∷ []) zip = record { front = []; last = es; is = refl; before = tt; so = zip.0 }
  zip_end [] x (es ∷ fs ∷ ess) zip = absurd zip.1
  zip_end (y ∷ xs) x [] zip = absurd zip
  zip_end (y ∷ xs) x (es ∷ ess) zip =
      let end = zip_end xs x ess zip.1 in
      record {
        front = es ∷ end.front;
        last = end.last;
        is = ap (λ l. es ∷ l) end.is;
        before = (zip.0, end.before);
        so = end.so;
      }

-- ---- entries of an interval

some_inside : (es fs : List Entry) → Some es ≡ Some fs → es ≡ fs
some_inside es fs is = cc

within_twice : (span : Span) (es : List Entry) → within span (within span es) ≡ within span es
within_twice span [] = refl
within_twice span (e ∷ es) = by (within_twice span es) (is_in_span span e.key) refl
  where
    by : within span (within span es) ≡ within span es → (t : Bool) → is_in_span span e.key ≡ t
        → within span (cond t (e ∷ within span es) (within span es)) ≡ cond t (e ∷ within span es) (within span es)
    by later true is =
        ap (λ (t : Bool). cond t (e ∷ within span (within span es)) (within span (within span es))) is
        ∙ ap (λ (l : List Entry). e ∷ l) later
    by later false is = later

module _ {H : Type 0} (bytes_of : H → Option (List ℕ)) (span : Span) (way : Way) where
  -- what is told of blocks is in the interval
  told_within : (bs : List (Block H)) (es : List Entry) → entries_told bytes_of span way bs ≡ Some es → within span es ≡ es
  told_within [] es told = subst (λ (l : List Entry). within span l ≡ l) (some_inside [] es told) refl
  told_within (b ∷ bs) es told = by (told_within bs) (bytes_of b.0.held) refl (entries_told bytes_of span way bs) refl
    where
      part : List ℕ → List Entry
      part bytes = within span (on_way way (standing_entries (shape_of b.0).format (number_of b.0) bytes b.1))

      whole : Option (List ℕ) → Option (List Entry) → Option (List Entry)
      whole o later = option_and_then (λ bytes. option_map (λ l. part bytes ++ l) later) o

      by : ((l : List Entry) → entries_told bytes_of span way bs ≡ Some l → within span l ≡ l) → (o : Option (List ℕ))
          → bytes_of b.0.held ≡ o → (later : Option (List Entry)) → entries_told bytes_of span way bs ≡ later → within span es ≡ es
      by rest None is later more =
          let gone : None ≡ Some es = sym (ap (λ x. whole x (entries_told bytes_of span way bs)) is) ∙ told in absurd cc
      by rest (Some bytes) is None more =
          let gone : None ≡ Some es = sym (ap (λ x. whole x (entries_told bytes_of span way bs)) is
          ∙ ap (λ x. whole (Some bytes) x) more) ∙ told in absurd cc
      by rest (Some bytes) is (Some l) more =
          let same : part bytes ++ l ≡ es = some_inside (part bytes ++ l) es
          (sym (ap (λ x. whole x (entries_told bytes_of span way bs)) is ∙ ap (λ x. whole (Some bytes) x) more) ∙ told) in
          let inside = within_twice span (on_way way (standing_entries (shape_of b.0).format (number_of b.0) bytes b.1)) in
          let behind = rest l more in
          subst (λ (k : List Entry). within span k ≡ k) same
          (filter-append (λ (e : Entry). is_in_span span e.key) (part bytes) l ∙ (λ i. inside i ++ behind i))

  over_within : (ts : List (Table H)) (es : List Entry) → entries_over bytes_of span way ts ≡ Some es → within span es ≡ es
  over_within ts es told = by (rise_over span ts) told
    where
      by : (t : Bool) → cond t (entries_told bytes_of span way (blocks_over span way (on_way way ts))) None ≡ Some es → within span es ≡ es
      by true told = told_within (blocks_over span way (on_way way ts)) es told
      by false told = absurd cc

  -- no table has no entries
  over_none : (ts : List (Table H)) (es : List Entry) → ts ≡ [] → entries_over bytes_of span way ts ≡ Some es → es ≡ []
  over_none ts es none told =
      sym (some_inside [] es (sym (of_none way) ∙ sym (ap (entries_over bytes_of span way) none) ∙ told))
    where
      of_none : (w : Way) → entries_over bytes_of span w [] ≡ Some []
      of_none Up = refl
      of_none Down = refl

  give_standing : (es : List Entry) → within span es ≡ es → IsAlong way es → GiveWinners span way es (es ∷ [])
  give_standing es inside along = record {
    along = (along, tt);
    winners = λ key n. ap (λ l. winner l key n) (append-nil es ∙ sym inside) ∙ winner-within key n span es;
  }

  -- ---- sources

  module _ {R : Type 0} {g : HeldFile.Ghosts H} {k : Clone.Ghosts H} where
    pub shows_of : (es : List Entry) (sources : List (Source H R g k)) → TellWinners bytes_of span way es sources
        → ShowWinners bytes_of span way es sources
    shows_of es sources tells = record { left = tells.left; told = tells.told; give = tells.give }

    pub shown_none : (old : List (Source H R g k)) → AddsShown bytes_of span way [] old old
    shown_none old before so = subst (λ (l : List Entry). ShowWinners bytes_of span way l old) (sym (append-nil before)) so

    pub shown_then : (es fs : List Entry) (old mid now : List (Source H R g k)) → AddsShown bytes_of span way es old mid
        → AddsShown bytes_of span way fs mid now → AddsShown bytes_of span way (es ++ fs) old now
    shown_then es fs old mid now first second before so =
        subst (λ (l : List Entry). ShowWinners bytes_of span way l now) (append_assoc before es fs)
        (second (before ++ es) (first before so))

    -- a cursor over copies of those that meet the interval
    pub shown_cursor : (ts met : List (Table H)) (cursor : TableCursor H R g k) (old now : List (Source H R g k))
        → AreMet bytes_of span ts met → cursor_left bytes_of cursor ≡ entries_over bytes_of span way met
        → now ≡ old ++ Tables cursor ∷ [] → (es : List Entry) → IsStanding bytes_of span way ts es
        → AddsShown bytes_of span way es old now
    shown_cursor ts met cursor old now are left joined_is es so before shows =
        subst (ShowWinners bytes_of span way (before ++ es)) (sym joined_is) (record {
          left = shows.left ++ es ∷ [];
          told = map-both (λ (s : Source H R g k). left_in bytes_of s) old (Tables cursor ∷ [])
              ∙ ap (λ l. l ++ cursor_left bytes_of cursor ∷ []) shows.told
              ∙ ap (λ o. map Some shows.left ++ o ∷ []) (left ∙ told_alike bytes_of span way (met_of span ts) met are ∙ so.told)
              ∙ sym (map-both Some shows.left (es ∷ []));
          give = give_both span way before es shows.left (es ∷ []) shows.give
              (give_standing es (over_within (met_of span ts) es so.told) so.along);
        })

    -- none of them meets it
    pub shown_unmet : (ts met : List (Table H)) (old : List (Source H R g k)) → AreMet bytes_of span ts met → met ≡ []
        → (es : List Entry) → IsStanding bytes_of span way ts es → AddsShown bytes_of span way es old old
    shown_unmet ts met old are none es so =
        subst (λ (l : List Entry). AddsShown bytes_of span way l old old)
        (sym (over_none (met_of span ts) es (zip_none (IsCopied bytes_of) (met_of span ts) met none are) so.told)) (shown_none old)

    -- ---- one more

    pub shown_first : {X : Type 0} (P : X → List Entry → Type 0) (old : List (Source H R g k)) (ess : List (List Entry)) → AllZip P [] ess
        → AddsShown bytes_of span way (joined ess) old old
    shown_first P old [] zip = shown_none old
    shown_first P old (es ∷ ess) zip = absurd zip

    pub shown_next : {X : Type 0} (P : X → List Entry → Type 0) (xs : List X) (i : ℕ) (x : X) (old mid now : List (Source H R g k))
        → i < length xs → x ≡ get_or xs i x
        → ((ess : List (List Entry)) → AllZip P (take i xs) ess → AddsShown bytes_of span way (joined ess) old mid)
        → ((es : List Entry) → P x es → AddsShown bytes_of span way es mid now)
        → (ess : List (List Entry)) → AllZip P (take (i + 1) xs) ess → AddsShown bytes_of span way (joined ess) old now
    shown_next P xs i x old mid now inside is first second ess zip =
        let end = zip_end P (take i xs) x ess (subst (λ l. AllZip P l ess) (take_next xs i x inside is) zip) in
        subst (λ (l : List Entry). AddsShown bytes_of span way l old now) (sym (ap joined end.is ∙ joined_last end.front end.last))
        (shown_then (joined end.front) end.last old mid now (first end.front end.before) (second end.last end.so))

-- ---- answers

-- what is answered for each of these entries
pub answer_each : {T : Type 0} (P : List Entry → Type 0) (good : List Entry → T → Type 0) (bad : List Entry → Name → ℕ → Type 0)
    (r : Result T ReadFault) → ((es : List Entry) → P es → IsAnswer (good es) (bad es) r)
    → IsAnswer (λ x. (es : List Entry) → P es → good es x) (λ name place. (es : List Entry) → P es → bad es name place) r
answer_each P good bad (Ok x) so = so
answer_each P good bad (Err NoMemory) so = tt
answer_each P good bad (Err (Disk name)) so = tt
answer_each P good bad (Err (Damaged name place)) so = so

-- what is answered well, and what holds of each good answer
pub answer_with : {T : Type 0} (good P both : T → Type 0) (bad : Name → ℕ → Type 0) (r : Result T ReadFault)
    → ((x : T) → good x → P x → both x) → IsAnswer good bad r → IfOk r P → IsAnswer both bad r
answer_with good P both bad (Ok x) join answer so = join x answer so
answer_with good P both bad (Err NoMemory) join answer so = tt
answer_with good P both bad (Err (Disk name)) join answer so = tt
answer_with good P both bad (Err (Damaged name place)) join answer so = answer
