-- What a scan answers of all sources, from what is visible of them.
use Rattle.std.proofs.Common.{◌≡◌, ℕ, Bool, true, false, cond, List, [], ◌∷◌, ◌++◌, take, refl, ap, sym, ◌∙◌, subst}
use Rattle.std.proofs.Common.{Option, Some, None, Vec, Global}
use Rattle.std.specs.Prelude.{◌⊎◌, Ok, Err, Result}
use Rattle.std.proofs.Common.{inl, inr}
use Rattle.std.specs.FinMap.{entries, entries_sorted, find, get-entries}
use Rattle.std.specs.List.{AllByRecursion}
use Rattle.vl_disk.specs.declared.name.Name.{Name}
use Rattle.vl_model.specs.Merging.{IsAlong}
use Rattle.vl_merge.specs.declared.hides.Hides.TheVariants as hiding
use Rattle.vl_merge.specs.Visible.{shown}
use Rattle.vl_model.specs.Entries.{is_gone}
use Rattle.vl_model.specs.Keys.{Row, Writes, key_cmp}
use Rattle.vl_model.specs.Reads.{is_in_span}
use Rattle.vl_model.specs.Winners.{Logs, newest_of, resolved_at, winner}
use Rattle.vl_model.specs.laws.WinnerLaws.{winner-append}
use Rattle.vl_model.specs.declared.change.Change.{Change}
use Rattle.vl_model.specs.declared.change.Change.TheVariants.{Set, Delete}
use Rattle.vl_model.specs.declared.entry.Entry.{Entry}
use Rattle.vl_version.specs.Answers.{IsAnswer, IsAstray, LeadsTo}
use Rattle.vl_version.specs.Gathered.{span_of}
use Rattle.vl_version.specs.Near.{AreNear, IsNear, IsNearEntry}
use Rattle.vl_version.specs.Own.{own_entries, own_entry}
use Rattle.vl_version.specs.Rows.{AreRowsOf, IsKept, OneAstray}
use Rattle.vl_version.specs.Scans.{AreScanned, MayHave, SomeAstray}
use Rattle.vl_disk.specs.declared.read_fault.ReadFault.{ReadFault}
use Rattle.vl_disk.specs.declared.read_fault.ReadFault.TheVariants.{NoMemory, Disk, Damaged}
use Rattle.vl_version.specs.Sources.{HasEntries, LeadsIn, stored_in}
use Rattle.vl_version.specs.declared.version.Version.{Version}
use Rattle.vl_version.specs.declared.wanted.Wanted.{Wanted}
use Rattle.vl_version.proofs.OwnLaws.{entry_of, newest_of-own, winner-own}
use Rattle.vl_version.proofs.RowLaws.{all_by_key, of_key}
use Rattle.vl_version.proofs.ScanLaws.{rows_are_scanned}
use Rattle.vl_version.proofs.Winning.{winner-has, winner-version}

some_same : {e f : Entry} → Some e ≡ Some f → e ≡ f
some_same is = cc

kept_of : (w : Option Entry) → AllByRecursion IsKept (shown hiding.Gone w)
kept_of None = tt
kept_of (Some e) = by (is_gone e.body) refl
  where
    by : (b : Bool) → is_gone e.body ≡ b → AllByRecursion IsKept (cond b [] (e ∷ []))
    by true gone = tt
    by false kept = (kept, tt)

module _ (held logs : Logs) (es : List Entry) (number : ℕ) (own : Writes) (wanted : Wanted) (all seen : List Entry)
    (same_led : (key : List ℕ) → resolved_at held (winner es key number) ≡ resolved_at logs (winner es key number))
    (wins : (key : List ℕ) → winner all key number
    ≡ cond (is_in_span (span_of wanted.low.now wanted.high.now) key) (winner (own_entries number (entries own) ++ es) key number) None)
    (along : IsAlong wanted.way seen)
    (winners : (key : List ℕ) → of_key key seen ≡ shown hiding.Gone (winner all key number)) where
  -- nothing that is visible is a deletion
  pub all_kept : AllByRecursion IsKept seen
  all_kept = all_by_key IsKept seen (λ key. subst (AllByRecursion IsKept) (sym (winners key)) (kept_of (winner all key number)))

  -- ---- what leads into no log

  own_near : (writes : List (List ℕ × Change)) → AreNear (own_entries number writes)
  own_near [] = tt
  own_near ((key, Set value) ∷ writes) = (tt, own_near writes)
  own_near ((key, Delete) ∷ writes) = (tt, own_near writes)

  both_near : (xs ys : List Entry) → AreNear xs → AreNear ys → AreNear (xs ++ ys)
  both_near [] ys near too = too
  both_near (x ∷ xs) ys near too = (near.0, both_near xs ys near.1 too)

  near_shown : (w : Option Entry) → ((e : Entry) → w ≡ Some e → IsNear e.body) → AreNear (shown hiding.Gone w)
  near_shown None near = tt
  near_shown (Some e) near = by (is_gone e.body)
    where
      by : (b : Bool) → AreNear (cond b [] (e ∷ []))
      by true = tt
      by false = (near e refl, tt)

  -- Where no entry leads into a log, none that is visible does.
  pub all_near : AreNear es → AreNear seen
  all_near near = all_by_key IsNearEntry seen (λ key. subst AreNear (sym (winners key))
      (near_shown (winner all key number) (λ e is. won key e (is_in_span (span_of wanted.low.now wanted.high.now) key)
      (sym (wins key) ∙ is))))
    where
      won : (key : List ℕ) (e : Entry) (b : Bool)
          → cond b (winner (own_entries number (entries own) ++ es) key number) None ≡ Some e → IsNear e.body
      won key e true is = winner-has key number IsNearEntry (own_entries number (entries own) ++ es) e
          (both_near (own_entries number (entries own)) es (own_near (entries own)) near) is
      won key e false is = absurd cc

  -- ---- what is answered well

  scanned_so : (rows : List Row) → AreRowsOf held (take wanted.limit seen) rows → AreScanned logs es number wanted own rows
  scanned_so rows are pairs may =
      rows_are_scanned held number (entries own)
      es wanted.low.now wanted.high.now wanted.way wanted.limit all seen rows (entries pairs) wins along winners
      (entries_sorted pairs)
      (λ key. subst (λ led. MayHave led (find key_cmp key (entries pairs))) (sym (same_led key))
      (subst (MayHave (resolved_at logs (winner es key number))) (get-entries pairs key) (may key))) are

  -- ---- what leads astray

  abbrev Finds_astray : Entry → Type 0
  Finds_astray e = (name : Name) (place : ℕ) → IsAstray held (Some e) name place → SomeAstray logs es number name place

  own_leads : (key : List ℕ) (change : Change) (e : Entry) (name : Name) (place : ℕ)
      → own_entry number (key, change) ≡ e → LeadsTo (Some e) name place → ⊥
  own_leads key change e name place is leads = by change (subst (λ (f : Entry). LeadsTo (Some f) name place) (sym is) leads)
    where
      by : (c : Change) → LeadsTo (Some (own_entry number (key, c))) name place → ⊥
      by (Set v) leads = leads
      by Delete leads = leads

  of_sources : (key : List ℕ) (e : Entry) → winner es key number ≡ Some e → Finds_astray e
  of_sources key e win name place astray = (
    key,
    (sym (same_led key) ∙ ap (resolved_at held) win ∙ astray.0, subst (λ (w : Option Entry). LeadsTo w name place) (sym win) astray.1),
  )

  of_newest : (key : List ℕ) (e : Entry) (change : Option Change) (w : Option Entry) → winner es key number ≡ w
      → newest_of (entry_of number key change) w ≡ Some e → Finds_astray e
  of_newest key e None w is win name place astray = of_sources key e (is ∙ win) name place astray
  of_newest key e (Some c) w is win name place astray =
      let mine : own_entry number (key, c) ≡ e =
      some_same (sym (newest_of-own number (key, c) w (λ f found. winner-version key number es f (is ∙ found))) ∙ win) in
      absurd (own_leads key c e name place mine astray.1)

  of_winner : (key : List ℕ) (w : Option Entry) → winner all key number ≡ w → AllByRecursion Finds_astray (shown hiding.Gone w)
  of_winner key None is = tt
  of_winner key (Some e) is = by (is_gone e.body)
    where
      in_interval : (b : Bool) → cond b (winner (own_entries number (entries own) ++ es) key number) None ≡ Some e
          → winner (own_entries number (entries own) ++ es) key number ≡ Some e
      in_interval true win = win
      in_interval false win = absurd cc

      here : Finds_astray e
      here =
          of_newest key e (find key_cmp key (entries own)) (winner es key number) refl
          (ap (λ w. newest_of w (winner es key number)) (sym (winner-own number (entries own) key))
          ∙ sym (winner-append key number (own_entries number (entries own)) es)
          ∙ in_interval (is_in_span (span_of wanted.low.now wanted.high.now) key) (sym (wins key) ∙ is))

      by : (b : Bool) → AllByRecursion Finds_astray (cond b [] (e ∷ []))
      by true = tt
      by false = (here, tt)

  all_find : AllByRecursion Finds_astray seen
  all_find = all_by_key Finds_astray seen
      (λ key. subst (AllByRecursion Finds_astray) (sym (winners key)) (of_winner key (winner all key number) refl))

  one_finds : (fs : List Entry) → AllByRecursion Finds_astray fs → (name : Name) (place : ℕ)
      → OneAstray held fs name place → SomeAstray logs es number name place
  one_finds [] find name place one = absurd one
  one_finds (f ∷ fs) find name place (inl astray) = find.0 name place astray
  one_finds (f ∷ fs) find name place (inr later) = one_finds fs find.1 name place later

  -- ---- all answers

  pub scan_answers : (bad : Name → ℕ → Type 0) → ((name : Name) (place : ℕ) → bad name place → ⊥)
      → (result : Result (Vec Row Global) ReadFault)
      → IsAnswer (λ rows. AreRowsOf held (take wanted.limit seen) rows.items)
      (λ name place. bad name place ⊎ OneAstray held seen name place) result
      → IsAnswer (λ rows. AreScanned logs es number wanted own rows.items) (SomeAstray logs es number) result
  scan_answers bad never (Ok rows) answer = scanned_so rows.items answer
  scan_answers bad never (Err NoMemory) answer = tt
  scan_answers bad never (Err (Disk name)) answer = tt
  scan_answers bad never (Err (Damaged name place)) (inl wrong) = absurd (never name place wrong)
  scan_answers bad never (Err (Damaged name place)) (inr one) = one_finds seen all_find name place one

  -- the same where sources may be damaged too
  pub scan_answers_or : (bad worse : Name → ℕ → Type 0) → ((name : Name) (place : ℕ) → bad name place → worse name place)
      → (result : Result (Vec Row Global) ReadFault)
      → IsAnswer (λ rows. AreRowsOf held (take wanted.limit seen) rows.items)
      (λ name place. bad name place ⊎ OneAstray held seen name place) result
      → IsAnswer (λ rows. AreScanned logs es number wanted own rows.items)
      (λ name place. worse name place ⊎ SomeAstray logs es number name place) result
  scan_answers_or bad worse sends (Ok rows) answer = scanned_so rows.items answer
  scan_answers_or bad worse sends (Err NoMemory) answer = tt
  scan_answers_or bad worse sends (Err (Disk name)) answer = tt
  scan_answers_or bad worse sends (Err (Damaged name place)) (inl wrong) = inl (sends name place wrong)
  scan_answers_or bad worse sends (Err (Damaged name place)) (inr one) = inr (one_finds seen all_find name place one)

-- ---- of a version

module _ {H : Type 0} (bytes_of : H → Option (List ℕ)) (version : Version H) (es : List Entry) (logs : Logs)
    (has : HasEntries bytes_of version es logs) where
  pub same_led : (number : ℕ) (key : List ℕ)
      → resolved_at (stored_in bytes_of version.behind.logs.items) (winner es key number) ≡ resolved_at logs (winner es key number)
  same_led number key = by (winner es key number) refl
    where
      by : (w : Option Entry) → winner es key number ≡ w → resolved_at (stored_in bytes_of version.behind.logs.items) w ≡ resolved_at logs w
      by None is = refl
      by (Some e) is = winner-has key number (LeadsIn bytes_of version logs) es e has.leads is
