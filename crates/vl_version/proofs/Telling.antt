-- Sources that tell what is left of them, put together one behind the other.
use Rattle.std.specs.declared.clone.Clone as Clone
use Rattle.vl_disk.specs.declared.reader.HeldFile as HeldFile
use Rattle.std.proofs.Common.{◌≡◌, ℕ, false, List, [], ◌∷◌, ◌++◌, map, refl, ap, sym, ◌∙◌, subst, append-nil, append_assoc, inl, inr}
use Rattle.std.specs.Prelude.{◌⊎◌, IsTrue, Option, Some}
use Rattle.std.specs.FinMap.{is_sorted}
use Rattle.std.specs.List.{filter}
use Rattle.vl_disk.specs.declared.name.Name.{Name}
use Rattle.vl_memtable.specs.Contents.{Contents, GiveWithin}
use Rattle.vl_merge.specs.MergeOf.{OneMayFail}
use Rattle.vl_model.specs.Keys.{key_cmp}
use Rattle.vl_model.specs.Reads.{is_within}
use Rattle.vl_model.specs.declared.entry.Entry.{Entry}
use Rattle.vl_model.specs.declared.span.Span.{Span}
use Rattle.vl_model.specs.declared.way.Way.{Way}
use Rattle.vl_model.specs.EntryOrder.{along}
use Rattle.vl_version.specs.Gathered.{Adds, GiveWinners, IsQuiet, TellWinners, span_of}
use Rattle.vl_version.specs.Gives.{SourceMayFail, is_disk_fault, left_in}
use Rattle.vl_version.specs.Own.{own_entries, own_left}
use Rattle.vl_disk.specs.declared.read_fault.ReadFault.{ReadFault}
use Rattle.vl_disk.specs.declared.read_fault.ReadFault.TheVariants.{NoMemory, Damaged}
use Rattle.vl_version.specs.declared.own.OwnCursor.{OwnCursor}
use Rattle.vl_version.specs.declared.source.Source.{Source}
use Rattle.vl_version.specs.declared.source.Source.TheVariants.{Own, Held}
use Rattle.vl_version.proofs.CutLaws.{Write}
use Rattle.vl_version.proofs.GatherLaws.{give_both, give_memtable, give_own}

pub map-both : {X Y : Type 0} (f : X → Y) (xs ys : List X) → map f (xs ++ ys) ≡ map f xs ++ map f ys
map-both f [] ys = refl
map-both f (x ∷ xs) ys = ap (λ l. f x ∷ l) (map-both f xs ys)

no_damage : (name : Name) (place : ℕ) → Damaged name place ≡ NoMemory → ⊥
no_damage name place is = cc

-- ---- runs in memory

module _ {H : Type 0} (R : Type 0) (g : HeldFile.Ghosts H) (k : Clone.Ghosts H) (bytes_of : H → Option (List ℕ)) where
  told_runs : (runs : List (List Entry)) → map (λ (s : Source H R g k). left_in bytes_of s) (map (λ run. Held run) runs) ≡ map Some runs
  told_runs [] = refl
  told_runs (run ∷ runs) = ap (λ l. Some run ∷ l) (told_runs runs)

  pub sound_runs : (runs : List (List Entry)) (fault : ReadFault)
      → OneMayFail (λ (source : Source H R g k) (why : ReadFault). SourceMayFail bytes_of source why) (map (λ run. Held run) runs) fault
      → fault ≡ NoMemory
  sound_runs [] fault one = absurd one
  sound_runs (run ∷ runs) fault (inl is) = is
  sound_runs (run ∷ runs) fault (inr later) = sound_runs runs fault later

module _ {H R : Type 0} {g : HeldFile.Ghosts H} {k : Clone.Ghosts H} (bytes_of : H → Option (List ℕ)) where
  abbrev pub OneFails : List (Source H R g k) → ReadFault → Type 0
  OneFails sources fault = OneMayFail (λ (source : Source H R g k) (why : ReadFault). SourceMayFail bytes_of source why) sources fault

  pub one-either : (xs ys : List (Source H R g k)) (fault : ReadFault) → OneFails (xs ++ ys) fault → OneFails xs fault ⊎ OneFails ys fault
  one-either [] ys fault one = inr one
  one-either (x ∷ xs) ys fault (inl here) = inl (inl here)
  one-either (x ∷ xs) ys fault (inr later) = by (one-either xs ys fault later)
    where
      by : OneFails xs fault ⊎ OneFails ys fault → OneFails (x ∷ xs) fault ⊎ OneFails ys fault
      by (inl one) = inl (inr one)
      by (inr one) = inr one

  -- ---- more sources

  module _ (span : Span) (way : Way) where
    pub tells_more : (es fs : List Entry) (old more : List (Source H R g k)) → TellWinners bytes_of span way es old
        → TellWinners bytes_of span way fs more → TellWinners bytes_of span way (es ++ fs) (old ++ more)
    tells_more es fs old more newer older = record {
      left = newer.left ++ older.left;
      told = map-both (λ (s : Source H R g k). left_in bytes_of s) old more
          ∙ ap (λ l. l ++ map (λ (s : Source H R g k). left_in bytes_of s) more) newer.told
          ∙ ap (λ l. map Some newer.left ++ l) older.told ∙ sym (map-both Some newer.left older.left);
      give = give_both span way es fs newer.left older.left newer.give older.give;
      sound = λ name place one. by name place (one-either old more (Damaged name place) one);
    }
      where
        by : (name : Name) (place : ℕ) → OneFails old (Damaged name place) ⊎ OneFails more (Damaged name place) → ⊥
        by name place (inl one) = newer.sound name place one
        by name place (inr one) = older.sound name place one

    pub adds_more : (fs : List Entry) (old more now : List (Source H R g k)) → now ≡ old ++ more
        → TellWinners bytes_of span way fs more → Adds bytes_of span way fs old now
    adds_more fs old more now joined tells = λ before so.
        subst (TellWinners bytes_of span way (before ++ fs)) (sym joined) (tells_more before fs old more so tells)

    pub adds_then : (es fs : List Entry) (old mid now : List (Source H R g k)) → Adds bytes_of span way es old mid
        → Adds bytes_of span way fs mid now → Adds bytes_of span way (es ++ fs) old now
    adds_then es fs old mid now first second = λ before so.
        subst (λ (l : List Entry). TellWinners bytes_of span way l now) (append_assoc before es fs)
        (second (before ++ es) (first before so))

    pub adds_none : (old : List (Source H R g k)) → Adds bytes_of span way [] old old
    adds_none old = λ before so. subst (λ (l : List Entry). TellWinners bytes_of span way l old) (sym (append-nil before)) so

    pub adds_as : (es fs : List Entry) (old now : List (Source H R g k)) → es ≡ fs → Adds bytes_of span way es old now
        → Adds bytes_of span way fs old now
    adds_as es fs old now same adds = subst (λ (l : List Entry). Adds bytes_of span way l old now) same adds

    -- ---- a memtable

    pub adds_memtable : (held : Contents) (runs : List (List Entry)) (old now : List (Source H R g k)) → GiveWithin span way held runs
        → now ≡ old ++ map (λ run. Held run) runs → Adds bytes_of span way held.entries old now
    adds_memtable held runs old now give joined = adds_more held.entries old (map (λ run. Held run) runs) now joined (record {
      left = runs;
      told = told_runs R g k bytes_of runs;
      give = give_memtable span way held runs give;
      sound = λ name place one. no_damage name place (sound_runs R g k bytes_of runs (Damaged name place) one);
    })

    pub quiet_memtable : (runs : List (List Entry)) (old now : List (Source H R g k)) → now ≡ old ++ map (λ run. Held run) runs
        → IsQuiet bytes_of old → IsQuiet bytes_of now
    quiet_memtable runs old now joined quiet = subst (IsQuiet bytes_of) (sym joined)
        (λ fault one. by fault (one-either old (map (λ run. Held run) runs) fault one))
      where
        by : (fault : ReadFault) → OneFails old fault ⊎ OneFails (map (λ run. Held run) runs) fault → is_disk_fault fault ≡ false
        by fault (inl one) = quiet fault one
        by fault (inr one) = ap is_disk_fault (sound_runs R g k bytes_of runs fault one)

  -- ---- own writes

  pub tells_own : (low high : List ℕ) (way : Way) (number : ℕ) (ws writes : List Write) (cursor : OwnCursor)
      (sources : List (Source H R g k)) → writes ≡ ws → IsTrue (is_sorted key_cmp writes)
      → own_left cursor ≡ along way (own_entries number (filter (λ (write : Write). is_within low high write.0) writes))
      → sources ≡ Own cursor ∷ [] → TellWinners bytes_of (span_of low high) way (own_entries number ws) sources
  tells_own low high way number ws writes cursor sources same sorted left_is is =
      subst (TellWinners bytes_of (span_of low high) way (own_entries number ws)) (sym is) (record {
        left = own_left cursor ∷ [];
        told = refl;
        give = subst (λ (l : List Entry). GiveWinners (span_of low high) way (own_entries number ws) (l ∷ [])) (sym left_is)
            (subst (λ (w : List Write). GiveWinners (span_of low high) way (own_entries number w)
            (along way (own_entries number (filter (λ (write : Write). is_within low high write.0) writes)) ∷ [])) same
            (give_own low high way number writes sorted));
        sound = λ name place one. by name place one;
      })
    where
      by : (name : Name) (place : ℕ) → OneFails (Own cursor ∷ []) (Damaged name place) → ⊥
      by name place (inl is) = no_damage name place is
      by name place (inr none) = none

  pub quiet_own : (cursor : OwnCursor) (sources : List (Source H R g k)) → sources ≡ Own cursor ∷ [] → IsQuiet bytes_of sources
  quiet_own cursor sources is = subst (IsQuiet bytes_of) (sym is) by
    where
      by : IsQuiet {R = R} {g = g} {k = k} bytes_of (Own cursor ∷ [])
      by fault (inl is) = ap is_disk_fault is
      by fault (inr none) = absurd none
