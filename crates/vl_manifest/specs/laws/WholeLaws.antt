-- A state is said by its whole edits.
use Rattle.std.specs.Prelude.{◌≡◌, ◌+◌, ◌==◌, ◌≤◌, ℕ, Bool, true, false, ◌&&◌, not, if◌then◌else◌, List, [], ◌∷◌}
use Rattle.std.specs.Prelude.{◌++◌, length, None, Some, refl}
use Rattle.std.specs.List.{AllByRecursion}
use Rattle.std.specs.Option.{option_map}
use Rattle.std.proofs.Common.{sym, ap, subst, ◌∙◌, arith, append_assoc, append-nil, length-append}
use Rattle.std.proofs.lemmas.Bool.{and_from}
use Rattle.std.proofs.lemmas.Bool.Decides.{nat_tests}
use Rattle.vl_manifest.specs.declared.version_builder.VersionBuilder.{VersionBuilder}
use Rattle.vl_manifest.specs.declared.edit.Edit.{Edit}
use Rattle.vl_manifest.specs.declared.edit.Edit.TheVariants.{Add, Gone, Head, Keep, Next}
use Rattle.vl_manifest.specs.declared.state.ManifestState.{ManifestState}
use Rattle.vl_manifest.specs.Levels.{all_tables, is_in, no_tables, put_at}
use Rattle.vl_manifest.specs.States.{adds_from, all_applied, applied, finish, first_draft, first_state, given_if}
use Rattle.vl_manifest.specs.States.{gone_edits, is_file_number, keep_edits, last_edits, level_adds, then_applied}
use Rattle.vl_manifest.specs.States.{whole_edits, with_levels}
use Rattle.vl_manifest.specs.laws.StateLaws.{IsInRange, gone_passes, head_passes, keep_passes, nexts_pass}
use Rattle.vl_manifest.specs.laws.TableLists.{AreOnce, all-parts, all_tables-append, all_tables-blank, blank, once_behind, put_at-end}

-- ---- the Adds

-- none of these is among the ones before it
abbrev AreFresh : List ℕ → List ℕ → Type 0
AreFresh seen [] = Unit {0}
AreFresh seen (t ∷ ts) = (is_in t seen ≡ false) × AreFresh (seen ++ t ∷ []) ts

once_fresh : (seen ts : List ℕ) → AreOnce (seen ++ ts) → AreFresh seen ts
once_fresh seen [] once = tt
once_fresh seen (t ∷ ts) once =
    (once_behind seen t ts once, once_fresh (seen ++ t ∷ []) ts (subst AreOnce (sym (append_assoc seen (t ∷ []) ts)) once))

module _ (d : VersionBuilder) where
  abbrev draft : List (List ℕ) → VersionBuilder
  draft levels = record d { levels = levels }

  -- a table that wasn't there is added
  pub adds_one : (front : List (List ℕ)) (ts : List ℕ) (back : List (List ℕ)) (table : ℕ)
      → is_file_number table ≡ true → is_in table (all_tables (front ++ ts ∷ back)) ≡ false
      → applied (Add (length front) (length ts) table) (draft (front ++ ts ∷ back))
      ≡ Some (draft (front ++ (ts ++ table ∷ []) ∷ back))
  adds_one front ts back table fits new =
      let passes : (is_file_number table && not (is_in table (all_tables (front ++ ts ∷ back)))) ≡ true =
      and_from (is_file_number table) (not (is_in table (all_tables (front ++ ts ∷ back)))) fits (ap not new) in
      ap (λ (b : Bool). if b then option_map (with_levels (draft (front ++ ts ∷ back)))
      (put_at (length front) (length ts) table (front ++ ts ∷ back)) else None) passes
      ∙ ap (option_map (with_levels (draft (front ++ ts ∷ back)))) (put_at-end front ts back table)

  tables_there : (front : List (List ℕ)) (ts : List ℕ) (levels : List (List ℕ))
      → all_tables (front ++ ts ∷ blank levels) ≡ all_tables front ++ ts
  tables_there front ts levels =
      all_tables-append front (ts ∷ blank levels)
      ∙ ap (λ (l : List ℕ). all_tables front ++ (ts ++ l)) (all_tables-blank levels)
      ∙ ap (λ (l : List ℕ). all_tables front ++ l) (append-nil ts)

  -- the tables of a level, behind those that are there
  pub adds_level : (front : List (List ℕ)) (ts more : List ℕ) (levels : List (List ℕ)) (es : List Edit)
      → AllByRecursion (λ (t : ℕ). is_file_number t ≡ true) more → AreFresh (all_tables front ++ ts) more
      → all_applied (level_adds (length front) (length ts) more ++ es) (draft (front ++ ts ∷ blank levels))
      ≡ all_applied es (draft (front ++ (ts ++ more) ∷ blank levels))
  adds_level front ts [] levels es fit fresh =
      ap (λ (l : List ℕ). all_applied es (draft (front ++ l ∷ blank levels))) (sym (append-nil ts))
  adds_level front ts (t ∷ more) levels es fit fresh =
      let new : is_in t (all_tables (front ++ ts ∷ blank levels)) ≡ false =
      ap (is_in t) (tables_there front ts levels) ∙ fresh.0 in
      let place : length (ts ++ t ∷ []) ≡ length ts + 1 = length-append ts (t ∷ []) in
      let seen : AreFresh (all_tables front ++ (ts ++ t ∷ [])) more =
      subst (λ (l : List ℕ). AreFresh l more) (append_assoc (all_tables front) ts (t ∷ [])) fresh.1 in
      let rest = adds_level front (ts ++ t ∷ []) more levels es fit.1 seen in
      ap (then_applied (all_applied (level_adds (length front) (length ts + 1) more ++ es))) (adds_one front ts (blank levels) t fit.0 new)
      ∙ ap (λ (n : ℕ). all_applied (level_adds (length front) n more ++ es) (draft (front ++ (ts ++ t ∷ []) ∷ blank levels))) (sym place)
      ∙ rest ∙ ap (λ (l : List ℕ). all_applied es (draft (front ++ l ∷ blank levels))) (append_assoc ts (t ∷ []) more)

  fresh_parts : (seen ts more : List ℕ) → AreFresh seen (ts ++ more) → AreFresh seen ts × AreFresh (seen ++ ts) more
  fresh_parts seen [] more fresh = (tt, subst (λ (l : List ℕ). AreFresh l more) (sym (append-nil seen)) fresh)
  fresh_parts seen (t ∷ ts) more fresh =
      let rest = fresh_parts (seen ++ t ∷ []) ts more fresh.1 in
      ((fresh.0, rest.0), subst (λ (l : List ℕ). AreFresh l more) (append_assoc seen (t ∷ []) ts) rest.1)

  -- all levels, behind those that are whole
  pub adds_all : (front levels : List (List ℕ)) (es : List Edit)
      → AllByRecursion (λ (t : ℕ). is_file_number t ≡ true) (all_tables levels) → AreFresh (all_tables front) (all_tables levels)
      → all_applied (adds_from (length front) levels ++ es) (draft (front ++ blank levels))
      ≡ all_applied es (draft (front ++ levels))
  adds_all front [] es fit fresh = refl
  adds_all front (ts ∷ levels) es fit fresh =
      let fits = all-parts (λ (t : ℕ). is_file_number t ≡ true) ts (all_tables levels) fit in
      let parts = fresh_parts (all_tables front) ts (all_tables levels) fresh in
      let place : length (front ++ ts ∷ []) ≡ length front + 1 = length-append front (ts ∷ []) in
      let seen : AreFresh (all_tables (front ++ ts ∷ [])) (all_tables levels) =
      subst (λ (l : List ℕ). AreFresh l (all_tables levels))
      (sym (all_tables-append front (ts ∷ []) ∙ ap (λ (l : List ℕ). all_tables front ++ l) (append-nil ts))) parts.1 in
      let none : AreFresh (all_tables front ++ []) ts = subst (λ (l : List ℕ). AreFresh l ts)
      (sym (append-nil (all_tables front))) parts.0 in
      let later = adds_from (length front + 1) levels ++ es in
      ap (λ (l : List Edit). all_applied l (draft (front ++ [] ∷ blank levels)))
      (append_assoc (level_adds (length front) 0 ts) (adds_from (length front + 1) levels) es)
      ∙ adds_level front [] ts levels later fits.0 none
      ∙ ap (λ (n : ℕ). all_applied (adds_from n levels ++ es) (draft (front ++ ts ∷ blank levels))) (sym place)
      ∙ ap (λ (l : List (List ℕ)). all_applied (adds_from (length (front ++ ts ∷ [])) levels ++ es) (draft l))
      (sym (append_assoc front (ts ∷ []) (blank levels)))
      ∙ adds_all (front ++ ts ∷ []) levels es fits.1 seen
      ∙ ap (λ (l : List (List ℕ)). all_applied es (draft l)) (append_assoc front (ts ∷ []) levels)

-- ---- the whole state

seven_blank : (levels : List (List ℕ)) → length levels ≡ 7 → no_tables ≡ blank levels
seven_blank (a ∷ b ∷ c ∷ d ∷ e ∷ f ∷ g ∷ []) is = refl
seven_blank [] is = absurd (omega (arith, is))
seven_blank (a ∷ []) is = absurd (omega (arith, is))
seven_blank (a ∷ b ∷ []) is = absurd (omega (arith, is))
seven_blank (a ∷ b ∷ c ∷ []) is = absurd (omega (arith, is))
seven_blank (a ∷ b ∷ c ∷ d ∷ []) is = absurd (omega (arith, is))
seven_blank (a ∷ b ∷ c ∷ d ∷ e ∷ []) is = absurd (omega (arith, is))
seven_blank (a ∷ b ∷ c ∷ d ∷ e ∷ f ∷ []) is = absurd (omega (arith, is))
seven_blank (a ∷ b ∷ c ∷ d ∷ e ∷ f ∷ g ∷ h ∷ ls) is = absurd (omega (arith, is))

-- ---- what stands behind the Adds

module _ (s : ManifestState) where
  -- the draft behind the Adds, and behind each edit after them
  abbrev added : VersionBuilder
  added = record first_draft { levels = s.levels }

  abbrev with_head : VersionBuilder
  with_head = record added { head = Some (s.head, s.covered) }

  abbrev with_next : VersionBuilder
  with_next = record with_head { next = Some (s.next_log, s.next_table) }

  abbrev with_keep : VersionBuilder
  with_keep = record with_next { keep = s.keep; since = s.since }

  abbrev with_gone : VersionBuilder
  with_gone = record with_keep { gone = s.gone }

  module _ (r : IsInRange s) where
    head_says : (es : List Edit) → all_applied (Head s.head s.covered ∷ es) added ≡ all_applied es with_head
    head_says es = ap (λ (b : Bool). then_applied (all_applied es) (given_if b with_head))
        (head_passes s.head s.covered r.head_first r.head_last r.covered)

    next_says : (es : List Edit) → all_applied (Next s.next_log s.next_table ∷ es) with_head ≡ all_applied es with_next
    next_says es = ap (λ (b : Bool). then_applied (all_applied es) (given_if b with_next))
        (nexts_pass s.next_log s.next_table r.log_first r.log_last r.table_first r.table_last)

    keep_says : (es : List Edit) → all_applied (keep_edits s.keep s.since ++ es) with_next ≡ all_applied es with_keep
    keep_says es = by (s.keep == 1 && s.since == 0) refl
      where
        by : (b : Bool) → (s.keep == 1 && s.since == 0) ≡ b
            → all_applied ((if b then [] else Keep s.keep s.since ∷ []) ++ es) with_next ≡ all_applied es with_keep
        by true is =
            let keep : 1 ≡ s.keep = grind (arith, nat_tests) in
            let since : 0 ≡ s.since = grind (arith, nat_tests) in
            ap (λ (k : ℕ). all_applied es (record with_next { keep = k; since = 0 })) keep
            ∙ ap (λ (n : ℕ). all_applied es (record with_next { keep = s.keep; since = n })) since
        by false is = ap (λ (b : Bool). then_applied (all_applied es) (given_if b with_keep))
            (keep_passes s.keep s.since r.keep_first r.keep_last r.since)

    gone_says : all_applied (gone_edits s.gone) with_keep ≡ Some with_gone
    gone_says = by (s.gone == 0) refl
      where
        by : (b : Bool) → (s.gone == 0) ≡ b
            → all_applied (if b then [] else Gone s.gone ∷ []) with_keep ≡ Some with_gone
        by true is =
            let none : 0 ≡ s.gone = grind (arith, nat_tests) in
            ap (λ (n : ℕ). Some (record with_keep { gone = n })) none
        by false is =
            let some : 1 ≤ s.gone = grind (arith, nat_tests) in
            ap (λ (b : Bool). then_applied (all_applied []) (given_if b with_gone)) (gone_passes s.gone some r.gone)

    -- The edits that say a whole state make it.
    pub whole_says : first_state (whole_edits s) ≡ Some s
    whole_says =
        ap (λ (l : List (List ℕ)). finish (all_applied (whole_edits s) (record first_draft { levels = l })))
        (seven_blank s.levels r.tables.seven)
        ∙ ap finish (adds_all first_draft [] s.levels (last_edits s) r.tables.numbers (once_fresh [] (all_tables s.levels) r.tables.once))
        ∙ ap finish (head_says (Next s.next_log s.next_table ∷ (keep_edits s.keep s.since ++ gone_edits s.gone)))
        ∙ ap finish (next_says (keep_edits s.keep s.since ++ gone_edits s.gone))
        ∙ ap finish (keep_says (gone_edits s.gone))
        ∙ ap finish gone_says
