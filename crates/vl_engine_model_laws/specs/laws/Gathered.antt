-- What an install leaves is gathered: of each key what the job keeps stands in its place.
use Rattle.std.proofs.Common.{◌≡◌, ◌⊎◌, inl, inr, ⊎_elim, ℕ, ◌-◌, Bool, true, false, cond, not, ◌&&◌, List, [], ◌∷◌}
use Rattle.std.proofs.Common.{◌++◌, map, refl, ap, sym, ◌∙◌, subst, arith, append_assoc}
use Rattle.std.proofs.lemmas.Bool.Decides.{nat_tests}
use Rattle.std.specs.Prelude.{◌==◌}
use Rattle.std.specs.List.{AllByRecursion, flat_map}
use Rattle.std.specs.Ordering.{eq_by_cmp}
use Rattle.vl_model.specs.Keys.{key_cmp}
use Rattle.vl_model.specs.declared.entry.Entry.{Entry}
use Rattle.vl_engine_model.specs.OpenJobs as spec
use Rattle.vl_engine_model.specs.Levels.{is_among, without, at_level, in_key_order, is_before}
use Rattle.vl_engine_model.specs.Merging.{Sourced, if_so}
use Rattle.vl_engine_model.specs.Rulings.Plan.{marked_as}
use Rattle.vl_engine_model.specs.laws.TableLaws.{kept_inputs}
use Rattle.vl_engine_model.specs.declared.table.Table.{Table}
use Rattle.vl_engine_model_laws.specs.laws.Keeps.{marked_tables}
use Rattle.vl_engine_model_laws.specs.laws.OpenJobs.{drops_at, head_mark, rest_preceded, marked_by}
use Rattle.vl_engine_model.specs.Marks.{Marked, kept_of}
use Rattle.vl_engine_model.specs.Shown.{of_key}
use Rattle.vl_engine_model.specs.OpenJobs.{Preceded}

abbrev pub entries_of : Table → List Entry
entries_of t = t.entries

abbrev pub all_entries : List Table → List Entry
all_entries ts = flat_map (λ (t : Table). t.entries) ts

pub nothing_more : {X : Type 0} (xs : List X) → xs ++ [] ≡ xs
nothing_more [] = refl
nothing_more (x ∷ xs) = ap (λ ys. x ∷ ys) (nothing_more xs)

-- ---- one key's entries

-- no entry is of the key
abbrev pub IsWithout : List ℕ → List Entry → Type 0
IsWithout key es = AllByRecursion (λ (e : Entry). eq_by_cmp key_cmp key e.key ≡ false) es

of_none : (key : List ℕ) (es : List Entry) → IsWithout key es → of_key key es ≡ []
of_none key [] out = refl
of_none key (e ∷ es) out = ap (λ b. cond b (e ∷ of_key key es) (of_key key es)) out.0 ∙ of_none key es out.1

pub of-append : (key : List ℕ) (es fs : List Entry) → of_key key (es ++ fs) ≡ of_key key es ++ of_key key fs
of-append key [] fs = refl
of-append key (e ∷ es) fs = elim (eq_by_cmp key_cmp key e.key) as
    (λ b. cond b (e ∷ of_key key (es ++ fs)) (of_key key (es ++ fs)) ≡ cond b (e ∷ of_key key es) (of_key key es) ++ of_key key fs) [
      | true ↦ ap (λ xs. e ∷ xs) (of-append key es fs)
      | false ↦ of-append key es fs
    ]

without_both : (key : List ℕ) (es fs : List Entry) → IsWithout key es → IsWithout key fs → IsWithout key (es ++ fs)
without_both key [] fs a b = b
without_both key (e ∷ es) fs a b = (a.0, without_both key es fs a.1 b)

-- ---- what is left of a table

module _ (keep : ℕ) (I O : List Entry) (floor : ℕ) (inputs : List ℕ) where
  -- what the plan's marks leave of some entries, and the preceded behind them
  left_of : List Preceded → List Sourced → List Entry
  left_of ps ss = kept_of (marked_by keep I O floor ps ss)

  abbrev pub rest_of : List Preceded → List Sourced → List Preceded
  rest_of ps [] = ps
  rest_of ps (s ∷ ss) = rest_of (rest_preceded s.0 ps) ss

  pub marked-append : (ps : List Preceded) (ss ts : List Sourced)
      → marked_by keep I O floor ps (ss ++ ts)
      ≡ marked_by keep I O floor ps ss ++ marked_by keep I O floor (rest_of ps ss) ts
  marked-append ps [] ts = refl
  marked-append ps (s ∷ ss) ts =
      ap (λ (ms : List Marked). head_mark keep I O floor s.0 ps s.1 ∷ ms) (marked-append (rest_preceded s.0 ps) ss ts)

  pub kept_of-append : (ms ns : List Marked) → kept_of (ms ++ ns) ≡ kept_of ms ++ kept_of ns
  kept_of-append [] ns = refl
  kept_of-append (m ∷ ms) ns = by m.kept (kept_of-append ms ns)
    where
      by : (b : Bool) → kept_of (ms ++ ns) ≡ kept_of ms ++ kept_of ns
          → if_so b m.entry (kept_of (ms ++ ns)) ≡ if_so b m.entry (kept_of ms) ++ kept_of ns
      by true later = ap (λ es. m.entry ∷ es) later
      by false later = later

  pub kept_inputs-append : (ms ns : List Marked) → kept_inputs (ms ++ ns) ≡ kept_inputs ms ++ kept_inputs ns
  kept_inputs-append [] ns = refl
  kept_inputs-append (m ∷ ms) ns = by (m.input && m.kept) (kept_inputs-append ms ns)
    where
      by : (b : Bool) → kept_inputs (ms ++ ns) ≡ kept_inputs ms ++ kept_inputs ns
          → if_so b m.entry (kept_inputs (ms ++ ns)) ≡ if_so b m.entry (kept_inputs ms) ++ kept_inputs ns
      by true later = ap (λ es. m.entry ∷ es) later
      by false later = later

  -- outside the inputs all is left
  pub outside_left : (ps : List Preceded) (es : List Entry)
      → kept_of (marked_by keep I O floor ps (marked_as false es)) ≡ es
  outside_left ps [] = refl
  outside_left ps (e ∷ es) = ap (λ xs. e ∷ xs) (outside_left ps es)

  pub outside_kept : (ps : List Preceded) (es : List Entry)
      → kept_inputs (marked_by keep I O floor ps (marked_as false es)) ≡ []
  outside_kept ps [] = refl
  outside_kept ps (e ∷ es) = outside_kept ps es

  pub outside_rest : (ps : List Preceded) (es : List Entry) → rest_of ps (marked_as false es) ≡ ps
  outside_rest ps [] = refl
  outside_rest ps (e ∷ es) = outside_rest ps es

  -- of an input what is left is what is kept
  input_left : (ps : List Preceded) (es : List Entry)
      → kept_inputs (marked_by keep I O floor ps (marked_as true es))
      ≡ kept_of (marked_by keep I O floor ps (marked_as true es))
  input_left ps [] = refl
  input_left [] (e ∷ es) = ap (λ xs. e ∷ xs) (input_left [] es)
  input_left (p ∷ ps) (e ∷ es) = ap (if_so (not (drops_at keep I O floor p)) e) (input_left ps es)

  left_without : (key : List ℕ) (ps : List Preceded) (b : Bool) (es : List Entry) → IsWithout key es
      → IsWithout key (kept_of (marked_by keep I O floor ps (marked_as b es)))
  left_without key ps b [] out = tt
  left_without key ps b (e ∷ es) out =
      by (head_mark keep I O floor b ps e).kept
      (subst (λ (x : Entry). eq_by_cmp key_cmp key x.key ≡ false) (sym (mark_entry b ps)) out.0)
      (left_without key (rest_preceded b ps) b es out.1)
    where
      mark_entry : (c : Bool) (qs : List Preceded) → (head_mark keep I O floor c qs e).entry ≡ e
      mark_entry true (p ∷ qs) = refl
      mark_entry true [] = refl
      mark_entry false qs = refl

      by : (k : Bool) → eq_by_cmp key_cmp key (head_mark keep I O floor b ps e).entry.key ≡ false
          → IsWithout key (kept_of (marked_by keep I O floor (rest_preceded b ps) (marked_as b es)))
          → IsWithout key (if_so k (head_mark keep I O floor b ps e).entry
          (kept_of (marked_by keep I O floor (rest_preceded b ps) (marked_as b es))))
      by true here later = (here, later)
      by false here later = later

  -- ---- of a list of tables

  abbrev pub left_level : List Preceded → List Table → List Entry
  left_level ps [] = []
  left_level ps (t ∷ ts) =
      kept_of (marked_by keep I O floor ps (marked_as (is_among inputs t) t.entries)) ++ left_level
      (rest_of ps (marked_as (is_among inputs t) t.entries)) ts

  abbrev pub kept_level : List Preceded → List Table → List Entry
  kept_level ps [] = []
  kept_level ps (t ∷ ts) =
      kept_inputs (marked_by keep I O floor ps (marked_as (is_among inputs t) t.entries)) ++ kept_level
      (rest_of ps (marked_as (is_among inputs t) t.entries)) ts

  abbrev pub rest_level : List Preceded → List Table → List Preceded
  rest_level ps [] = ps
  rest_level ps (t ∷ ts) = rest_level (rest_of ps (marked_as (is_among inputs t) t.entries)) ts

  pub left_is : (ps : List Preceded) (ts : List Table)
      → kept_of (marked_by keep I O floor ps (marked_tables inputs ts)) ≡ left_level ps ts
  left_is ps [] = refl
  left_is ps (t ∷ ts) =
      let ss = marked_as (is_among inputs t) t.entries in
      ap kept_of (marked-append ps ss (marked_tables inputs ts))
      ∙ kept_of-append (marked_by keep I O floor ps ss) (marked_by keep I O floor (rest_of ps ss) (marked_tables inputs ts))
      ∙ ap (λ xs. kept_of (marked_by keep I O floor ps ss) ++ xs) (left_is (rest_of ps ss) ts)

  pub kept_is : (ps : List Preceded) (ts : List Table)
      → kept_inputs (marked_by keep I O floor ps (marked_tables inputs ts)) ≡ kept_level ps ts
  kept_is ps [] = refl
  kept_is ps (t ∷ ts) =
      let ss = marked_as (is_among inputs t) t.entries in
      ap kept_inputs (marked-append ps ss (marked_tables inputs ts))
      ∙ kept_inputs-append (marked_by keep I O floor ps ss) (marked_by keep I O floor (rest_of ps ss) (marked_tables inputs ts))
      ∙ ap (λ xs. kept_inputs (marked_by keep I O floor ps ss) ++ xs) (kept_is (rest_of ps ss) ts)

  left-append : (ps : List Preceded) (ts us : List Table)
      → left_level ps (ts ++ us) ≡ left_level ps ts ++ left_level (rest_level ps ts) us
  left-append ps [] us = refl
  left-append ps (t ∷ ts) us =
      let ss = marked_as (is_among inputs t) t.entries in
      ap (λ xs. kept_of (marked_by keep I O floor ps ss) ++ xs) (left-append (rest_of ps ss) ts us)
      ∙ sym (append_assoc (kept_of (marked_by keep I O floor ps ss)) (left_level (rest_of ps ss) ts)
      (left_level (rest_level (rest_of ps ss) ts) us))

  kept-append : (ps : List Preceded) (ts us : List Table)
      → kept_level ps (ts ++ us) ≡ kept_level ps ts ++ kept_level (rest_level ps ts) us
  kept-append ps [] us = refl
  kept-append ps (t ∷ ts) us =
      let ss = marked_as (is_among inputs t) t.entries in
      ap (λ xs. kept_inputs (marked_by keep I O floor ps ss) ++ xs) (kept-append (rest_of ps ss) ts us)
      ∙ sym (append_assoc (kept_inputs (marked_by keep I O floor ps ss)) (kept_level (rest_of ps ss) ts)
      (kept_level (rest_level (rest_of ps ss) ts) us))

  -- none of these tables is an input
  abbrev pub IsIdle : List Table → Type 0
  IsIdle ts = spec.IsIdle inputs ts

  idle_left : (ps : List Preceded) (ts : List Table) → IsIdle ts → left_level ps ts ≡ all_entries ts
  idle_left ps [] idle = refl
  idle_left ps (t ∷ ts) idle =
      ap (λ (b : Bool). kept_of (marked_by keep I O floor ps (marked_as b t.entries)) ++ left_level
      (rest_of ps (marked_as b t.entries)) ts) idle.0
      ∙ ap (λ (xs : List Entry). xs ++ left_level (rest_of ps (marked_as false t.entries)) ts) (outside_left ps t.entries)
      ∙ ap (λ (qs : List Preceded). t.entries ++ left_level qs ts) (outside_rest ps t.entries)
      ∙ ap (λ (xs : List Entry). t.entries ++ xs) (idle_left ps ts idle.1)

  idle_kept : (ps : List Preceded) (ts : List Table) → IsIdle ts → kept_level ps ts ≡ []
  idle_kept ps [] idle = refl
  idle_kept ps (t ∷ ts) idle =
      ap (λ (b : Bool). kept_inputs (marked_by keep I O floor ps (marked_as b t.entries)) ++ kept_level
      (rest_of ps (marked_as b t.entries)) ts) idle.0
      ∙ ap (λ (xs : List Entry). xs ++ kept_level (rest_of ps (marked_as false t.entries)) ts) (outside_kept ps t.entries)
      ∙ idle_kept (rest_of ps (marked_as false t.entries)) ts idle.1

  idle_rest : (ps : List Preceded) (ts : List Table) → IsIdle ts → rest_level ps ts ≡ ps
  idle_rest ps [] idle = refl
  idle_rest ps (t ∷ ts) idle =
      ap (λ (b : Bool). rest_level (rest_of ps (marked_as b t.entries)) ts) idle.0
      ∙ ap (λ (qs : List Preceded). rest_level qs ts) (outside_rest ps t.entries)
      ∙ idle_rest ps ts idle.1

  idle_without : (ts : List Table) → IsIdle ts → without inputs ts ≡ ts
  idle_without [] idle = refl
  idle_without (t ∷ ts) idle =
      ap (λ b. cond (not b) (t ∷ without inputs ts) (without inputs ts)) idle.0
      ∙ ap (λ xs. t ∷ xs) (idle_without ts idle.1)

  module _ (key : List ℕ) where
    -- of the key nothing stands in a table that isn't an input
    abbrev pub IsClear : List Table → Type 0
    IsClear ts = spec.IsClear inputs key ts

    -- of the key nothing stands in an input
    abbrev pub IsUntouched : List Table → Type 0
    IsUntouched ts = spec.IsUntouched inputs key ts

    -- behind an input that has the key no other table has it
    abbrev pub IsParted : List Table → Type 0
    IsParted ts = spec.IsParted inputs key ts

    clear_without : (ts : List Table) → IsClear ts → IsWithout key (all_entries (without inputs ts))
    clear_without [] clear = tt
    clear_without (t ∷ ts) clear = by (is_among inputs t) refl (clear_without ts clear.1)
      where
        by : (b : Bool) → is_among inputs t ≡ b → IsWithout key (all_entries (without inputs ts))
            → IsWithout key (all_entries (cond (not b) (t ∷ without inputs ts) (without inputs ts)))
        by true is later = later
        by false is later = without_both key t.entries (all_entries (without inputs ts)) (clear.0 is) later

    untouched_kept : (ps : List Preceded) (ts : List Table) → IsUntouched ts → IsWithout key (kept_level ps ts)
    untouched_kept ps [] out = tt
    untouched_kept ps (t ∷ ts) out = by (is_among inputs t) refl
        (λ (b : Bool). untouched_kept (rest_of ps (marked_as b t.entries)) ts out.1)
      where
        by : (b : Bool) → is_among inputs t ≡ b
            → ((c : Bool) → IsWithout key (kept_level (rest_of ps (marked_as c t.entries)) ts))
            → IsWithout key (kept_inputs (marked_by keep I O floor ps (marked_as b t.entries)) ++ kept_level
            (rest_of ps (marked_as b t.entries)) ts)
        by true is later =
            without_both key (kept_inputs (marked_by keep I O floor ps (marked_as true t.entries)))
            (kept_level (rest_of ps (marked_as true t.entries)) ts)
            (subst (IsWithout key) (sym (input_left ps t.entries)) (left_without key ps true t.entries (out.0 is))) (later true)
        by false is later =
            subst (λ (xs : List Entry). IsWithout key (xs ++ kept_level (rest_of ps (marked_as false t.entries)) ts))
            (sym (outside_kept ps t.entries)) (later false)

    -- where it is parted, what is left of the key are the other tables' entries, and then what is kept
    parted_left : (ps : List Preceded) (ts : List Table) → IsParted ts
        → of_key key (left_level ps ts) ≡ of_key key (all_entries (without inputs ts)) ++ of_key key (kept_level ps ts)
    parted_left ps [] parted = refl
    parted_left ps (t ∷ ts) parted =
        by (is_among inputs t) refl (λ (b : Bool). parted_left (rest_of ps (marked_as b t.entries)) ts parted.1)
      where
        by : (b : Bool) → is_among inputs t ≡ b
            → ((c : Bool) → of_key key (left_level (rest_of ps (marked_as c t.entries)) ts) ≡ of_key key
            (all_entries (without inputs ts)) ++ of_key key (kept_level (rest_of ps (marked_as c t.entries)) ts))
            → of_key key (kept_of (marked_by keep I O floor ps (marked_as b t.entries)) ++ left_level
            (rest_of ps (marked_as b t.entries)) ts)
            ≡ of_key key (all_entries (cond (not b) (t ∷ without inputs ts) (without inputs ts))) ++ of_key key
            (kept_inputs (marked_by keep I O floor ps (marked_as b t.entries)) ++ kept_level (rest_of ps (marked_as b t.entries)) ts)
        by false is later =
            let rest = rest_of ps (marked_as false t.entries) in
            ap (λ (xs : List Entry). of_key key (xs ++ left_level rest ts)) (outside_left ps t.entries)
            ∙ of-append key t.entries (left_level rest ts)
            ∙ ap (λ (xs : List Entry). of_key key t.entries ++ xs) (later false)
            ∙ sym (append_assoc (of_key key t.entries) (of_key key (all_entries (without inputs ts))) (of_key key (kept_level rest ts)))
            ∙ ap (λ (xs : List Entry). xs ++ of_key key (kept_level rest ts))
            (sym (of-append key t.entries (all_entries (without inputs ts))))
            ∙ ap (λ (xs : List Entry). of_key key (t.entries ++ all_entries (without inputs ts)) ++ of_key key
            (xs ++ kept_level rest ts)) (sym (outside_kept ps t.entries))
        by true is later =
            let rest = rest_of ps (marked_as true t.entries) in
            let L = kept_of (marked_by keep I O floor ps (marked_as true t.entries)) in
            let N = of_key key (all_entries (without inputs ts)) in
            let K = of_key key (kept_level rest ts) in
            let start : of_key key (L ++ left_level rest ts) ≡ of_key key L ++ (N ++ K) =
            of-append key L (left_level rest ts)
            ∙ ap (λ (xs : List Entry). of_key key L ++ xs) (later true) in
            let middle : of_key key L ++ (N ++ K) ≡ N ++ (of_key key L ++ K) = ⊎_elim
            (λ (out : IsWithout key t.entries). let none = of_none key L (left_without key ps true t.entries out) in ap
            (λ (xs : List Entry). xs ++ (N ++ K)) none ∙ ap (λ (xs : List Entry). N ++ (xs ++ K)) (sym none))
            (λ (clear : IsClear ts). let none : N ≡ [] = of_none key (all_entries (without inputs ts))
            (clear_without ts clear) in ap (λ (xs : List Entry). of_key key L ++ (xs ++ K)) none
            ∙ ap (λ (xs : List Entry). xs ++ (of_key key L ++ K)) (sym none))
            (parted.0 is) in
            start ∙ middle
            ∙ ap (λ (xs : List Entry). N ++ xs) (sym (of-append key L (kept_level rest ts)))
            ∙ ap (λ (xs : List Entry). N ++ of_key key (xs ++ kept_level rest ts)) (sym (input_left ps t.entries))

    -- ---- of levels

    -- a merge of a level into the next one: the first is parted; of the key either nothing stands in an
    -- input, or nothing in another table of the second; and the deeper ones have no input
    abbrev pub IsPair : List Table → List Table → List (List Table) → Type 0
    IsPair first second deeper = spec.IsPair inputs key first second deeper

    abbrev pub IsShaped : ℕ → List (List Table) → Type 0
    IsShaped n levels = spec.IsShaped inputs key n levels

    module _ (new : List Table) (out : List Entry) (made : all_entries new ≡ out) where
      of_key_order : (ts : List Table)
          → IsWithout key (all_entries ts) ⊎ IsWithout key out
          → of_key key (all_entries (in_key_order new ts)) ≡ of_key key out ++ of_key key (all_entries ts)
      of_key_order [] one = ap (of_key key) made ∙ sym (nothing_more (of_key key out))
      of_key_order (t ∷ ts) one =
          by (is_before t new) (of_key_order ts
          (⊎_elim (λ (w : IsWithout key (t.entries ++ all_entries ts)). inl (behind t.entries (all_entries ts) w).1)
          (λ (w : IsWithout key out). inr w) one))
        where
          behind : (es fs : List Entry) → IsWithout key (es ++ fs) → IsWithout key es × IsWithout key fs
          behind [] fs w = (tt, w)
          behind (e ∷ es) fs w = let both = behind es fs w.1 in ((w.0, both.0), both.1)

          by : (b : Bool)
              → of_key key (all_entries (in_key_order new ts)) ≡ of_key key out ++ of_key key (all_entries ts)
              → of_key key (all_entries (cond b (t ∷ in_key_order new ts) (new ++ t ∷ ts)))
              ≡ of_key key out ++ of_key key (t.entries ++ all_entries ts)
          by true later =
              of-append key t.entries (all_entries (in_key_order new ts))
              ∙ ap (λ (xs : List Entry). of_key key t.entries ++ xs) later
              ∙ ⊎_elim
              (λ (w : IsWithout key (t.entries ++ all_entries ts)).
              let none = of_none key t.entries (behind t.entries (all_entries ts) w).0 in
              ap (λ (xs : List Entry). xs ++ (of_key key out ++ of_key key (all_entries ts))) none
              ∙ ap (λ (xs : List Entry). of_key key out ++ (xs ++ of_key key (all_entries ts))) (sym none))
              (λ (w : IsWithout key out).
              let none = of_none key out w in
              ap (λ (xs : List Entry). of_key key t.entries ++ (xs ++ of_key key (all_entries ts))) none
              ∙ ap (λ (xs : List Entry). xs ++ (of_key key t.entries ++ of_key key (all_entries ts))) (sym none))
              one
              ∙ ap (λ (xs : List Entry). of_key key out ++ xs) (sym (of-append key t.entries (all_entries ts)))
          by false later =
              ap (of_key key) (flat-append new (t ∷ ts) ∙ ap (λ (xs : List Entry). xs ++ (t.entries ++ all_entries ts)) made)
              ∙ of-append key out (t.entries ++ all_entries ts)
            where
              flat-append : (ts us : List Table) → all_entries (ts ++ us) ≡ all_entries ts ++ all_entries us
              flat-append [] us = refl
              flat-append (x ∷ xs) us =
                  ap (λ (es : List Entry). x.entries ++ es) (flat-append xs us)
                  ∙ sym (append_assoc x.entries (all_entries xs) (all_entries us))

      flat-append : (ts us : List Table) → all_entries (ts ++ us) ≡ all_entries ts ++ all_entries us
      flat-append [] us = refl
      flat-append (x ∷ xs) us =
          ap (λ (es : List Entry). x.entries ++ es) (flat-append xs us)
          ∙ sym (append_assoc x.entries (all_entries xs) (all_entries us))

      parted_by : (ts : List Table) → IsUntouched ts ⊎ IsClear ts → IsParted ts
      parted_by [] one = tt
      parted_by (t ∷ ts) (inl out) = ((λ is. inl (out.0 is)), parted_by ts (inl out.1))
      parted_by (t ∷ ts) (inr clear) = ((λ is. inr clear.1), parted_by ts (inr clear.1))

      -- of the key what is kept stands in one place, and what is made in its place
      pub record IsPlaced (before kept after : List Entry) : Type 0 where
        pub front : List Entry
        pub behind : List Entry
        pub apart : of_key key before ≡ front ++ (of_key key kept ++ behind)
        pub together : of_key key after ≡ front ++ (of_key key out ++ behind)

      deeper_idle : (deeper : List (List Table)) → IsIdle (flat_map (λ ts. ts) deeper)
          → all_entries (flat_map (λ ts. ts) (map (without inputs) deeper)) ≡ all_entries (flat_map (λ ts. ts) deeper)
      deeper_idle [] idle = refl
      deeper_idle (ts ∷ deeper) idle =
          let both = split ts (flat_map (λ xs. xs) deeper) idle in
          ap (λ (xs : List Table). all_entries (xs ++ flat_map (λ ys. ys) (map (without inputs) deeper))) (idle_without ts both.0)
          ∙ flat-append ts (flat_map (λ ys. ys) (map (without inputs) deeper))
          ∙ ap (λ (es : List Entry). all_entries ts ++ es) (deeper_idle deeper both.1)
          ∙ sym (flat-append ts (flat_map (λ ys. ys) deeper))
        where
          split : (xs ys : List Table) → IsIdle (xs ++ ys) → IsIdle xs × IsIdle ys
          split [] ys all = (tt, all)
          split (x ∷ xs) ys all = let both = split xs ys all.1 in ((all.0, both.0), both.1)

      pair_placed : (first second : List Table) (deeper : List (List Table)) (ps : List Preceded)
          → IsPair first second deeper
          → (IsWithout key (kept_level ps (first ++ (second ++ flat_map (λ ts. ts) deeper))) → IsWithout key out)
          → IsPlaced (left_level ps (first ++ (second ++ flat_map (λ ts. ts) deeper)))
          (kept_level ps (first ++ (second ++ flat_map (λ ts. ts) deeper)))
          (all_entries (without inputs first
          ++ (in_key_order new (without inputs second) ++ flat_map (λ ts. ts) (map (without inputs) deeper))))
      pair_placed first second deeper ps pair gone =
          let D = flat_map (λ ts. ts) deeper in
          let qs = rest_level ps first in
          let rs = rest_level qs second in
          let N = of_key key (all_entries (without inputs first)) in
          let M = of_key key (all_entries (without inputs second)) in
          let d = of_key key (all_entries D) in
          let k = of_key key (kept_level ps first) in
          let j = of_key key (kept_level qs second) in
          let o = of_key key out in
          let lefts : of_key key (left_level ps (first ++ (second ++ D))) ≡ (N ++ k) ++ ((M ++ j) ++ d) =
          ap (of_key key) (left-append ps first (second ++ D)
          ∙ ap (λ (xs : List Entry). left_level ps first ++ xs)
          (left-append qs second D ∙ ap (λ (xs : List Entry). left_level qs second ++ xs) (idle_left rs D pair.idle)))
          ∙ of-append key (left_level ps first) (left_level qs second ++ all_entries D)
          ∙ ap (λ (xs : List Entry). of_key key (left_level ps first) ++ xs) (of-append key (left_level qs second) (all_entries D))
          ∙ ap (λ (xs : List Entry). xs ++ (of_key key (left_level qs second) ++ d)) (parted_left ps first pair.parted)
          ∙ ap (λ (xs : List Entry). (N ++ k) ++ (xs ++ d))
          (parted_left qs second (parted_by second
          (⊎_elim (λ (u : IsUntouched first × IsUntouched second). inl u.1) (λ (c : IsClear second). inr c) pair.apart))) in
          let kepts : of_key key (kept_level ps (first ++ (second ++ D))) ≡ k ++ j =
          ap (of_key key) (kept-append ps first (second ++ D)
          ∙ ap (λ (xs : List Entry). kept_level ps first ++ xs)
          (kept-append qs second D ∙ ap (λ (xs : List Entry). kept_level qs second ++ xs) (idle_kept rs D pair.idle)
          ∙ nothing_more (kept_level qs second)))
          ∙ of-append key (kept_level ps first) (kept_level qs second) in
          let afters : of_key key (all_entries
          (without inputs first ++
          (in_key_order new (without inputs second) ++ flat_map (λ ts. ts) (map (without inputs) deeper)))) ≡ N
          ++ (of_key key (all_entries (in_key_order new (without inputs second))) ++ d) =
          ap (of_key key) (flat-append (without inputs first)
          (in_key_order new (without inputs second) ++ flat_map (λ ts. ts) (map (without inputs) deeper))
          ∙ ap (λ (xs : List Entry). all_entries (without inputs first) ++ xs)
          (flat-append (in_key_order new (without inputs second)) (flat_map (λ ts. ts) (map (without inputs) deeper))
          ∙ ap (λ (xs : List Entry). all_entries (in_key_order new (without inputs second)) ++ xs) (deeper_idle deeper pair.idle)))
          ∙ of-append key (all_entries (without inputs first)) (all_entries (in_key_order new (without inputs second)) ++ all_entries D)
          ∙ ap (λ (xs : List Entry). N ++ xs) (of-append key (all_entries (in_key_order new (without inputs second))) (all_entries D)) in
          ⊎_elim
          (λ (u : IsUntouched first × IsUntouched second).
          let k0 : k ≡ [] = of_none key (kept_level ps first) (untouched_kept ps first u.0) in
          let j0 : j ≡ [] = of_none key (kept_level qs second) (untouched_kept qs second u.1) in
          let K0 : of_key key (kept_level ps (first ++ (second ++ D))) ≡ [] =
          kepts ∙ ap (λ (xs : List Entry). xs ++ j) k0 ∙ j0 in
          let out0 : IsWithout key out = gone (back (kept_level ps (first ++ (second ++ D))) K0) in
          let o0 : o ≡ [] = of_none key out out0 in
          record {
            front = N ++ (M ++ d);
            behind = [];
            apart =
                lefts ∙ ap (λ (xs : List Entry). (N ++ xs) ++ ((M ++ j) ++ d)) k0
                ∙ ap (λ (xs : List Entry). xs ++ ((M ++ j) ++ d)) (nothing_more N)
                ∙ ap (λ (xs : List Entry). N ++ ((M ++ xs) ++ d)) j0
                ∙ ap (λ (xs : List Entry). N ++ (xs ++ d)) (nothing_more M)
                ∙ sym (nothing_more (N ++ (M ++ d)))
                ∙ ap (λ (xs : List Entry). (N ++ (M ++ d)) ++ (xs ++ [])) (sym K0);
            together =
                afters ∙ ap (λ (xs : List Entry). N ++ (xs ++ d)) (of_key_order (without inputs second) (inr out0))
                ∙ ap (λ (xs : List Entry). N ++ ((xs ++ M) ++ d)) o0
                ∙ sym (nothing_more (N ++ (M ++ d)))
                ∙ ap (λ (xs : List Entry). (N ++ (M ++ d)) ++ (xs ++ [])) (sym o0);
          })
          (λ (c : IsClear second).
          let M0 : M ≡ [] = of_none key (all_entries (without inputs second)) (clear_without second c) in
          record {
            front = N;
            behind = d;
            apart =
                lefts ∙ ap (λ (xs : List Entry). (N ++ k) ++ ((xs ++ j) ++ d)) M0
                ∙ append_assoc N k (j ++ d)
                ∙ ap (λ (xs : List Entry). N ++ xs) (sym (append_assoc k j d) ∙ ap (λ (xs : List Entry). xs ++ d) (sym kepts));
            together =
                afters ∙ ap (λ (xs : List Entry). N ++ (xs ++ d))
                (of_key_order (without inputs second) (inl (clear_without second c))
                ∙ ap (λ (xs : List Entry). o ++ xs) M0 ∙ nothing_more o);
          })
          pair.apart
        where
          back : (es : List Entry) → of_key key es ≡ [] → IsWithout key es
          back [] is = tt
          back (e ∷ es) is = by (eq_by_cmp key_cmp key e.key) refl is (λ later. back es later)
            where
              by : (b : Bool) → eq_by_cmp key_cmp key e.key ≡ b
                  → cond (eq_by_cmp key_cmp key e.key) (e ∷ of_key key es) (of_key key es) ≡ []
                  → (of_key key es ≡ [] → IsWithout key es) → (eq_by_cmp key_cmp key e.key ≡ false) × IsWithout key es
              by true at is later =
                  absurd (let some : e ∷ of_key key es ≡ [] = sym (ap (λ b. cond b (e ∷ of_key key es) (of_key key es)) at) ∙ is in cc)
              by false at is later =
                  (at, later (sym (ap (λ b. cond b (e ∷ of_key key es) (of_key key es)) at) ∙ is))

      pub levels_placed : (n : ℕ) (levels : List (List Table)) (ps : List Preceded) → IsShaped n levels
          → (IsWithout key (kept_level ps (flat_map (λ ts. ts) levels)) → IsWithout key out)
          → IsPlaced (left_level ps (flat_map (λ ts. ts) levels)) (kept_level ps (flat_map (λ ts. ts) levels))
          (all_entries (flat_map (λ ts. ts) (at_level n (in_key_order new) (map (without inputs) levels))))
      levels_placed n [] ps shaped gone = absurd shaped
      levels_placed n (first ∷ []) ps shaped gone = absurd shaped
      levels_placed n (first ∷ second ∷ deeper) ps (inl here) gone =
          subst (λ (m : ℕ). IsPlaced (left_level ps (first ++ (second ++ flat_map (λ ts. ts) deeper)))
          (kept_level ps (first ++ (second ++ flat_map (λ ts. ts) deeper)))
          (all_entries (flat_map (λ ts. ts)
          (at_level m (in_key_order new) (map (without inputs) (first ∷ second ∷ deeper)))))) (sym here.0)
          (pair_placed first second deeper ps here.1 gone)
      levels_placed n (first ∷ second ∷ deeper) ps (inr there) gone =
          let rest = flat_map (λ ts. ts) (second ∷ deeper) in
          let idle = there.1.0 in
          let same : kept_level ps (first ++ rest) ≡ kept_level ps rest =
          kept-append ps first rest
          ∙ ap (λ (xs : List Entry). xs ++ kept_level (rest_level ps first) rest) (idle_kept ps first idle)
          ∙ ap (λ (qs : List Preceded). kept_level qs rest) (idle_rest ps first idle) in
          let later = levels_placed (n - 1) (second ∷ deeper) ps there.1.1 (λ none. gone (subst (IsWithout key) (sym same) none)) in
          let X = of_key key (all_entries first) in
          let not_first : (n == 0) ≡ false = let above = there.0 in grind (arith, nat_tests) in
          record {
            front = X ++ later.front;
            behind = later.behind;
            apart =
                ap (of_key key) (left-append ps first rest
                ∙ ap (λ (xs : List Entry). xs ++ left_level (rest_level ps first) rest) (idle_left ps first idle)
                ∙ ap (λ (qs : List Preceded). all_entries first ++ left_level qs rest) (idle_rest ps first idle))
                ∙ of-append key (all_entries first) (left_level ps rest)
                ∙ ap (λ (xs : List Entry). X ++ xs) later.apart
                ∙ sym (append_assoc X later.front (of_key key (kept_level ps rest) ++ later.behind))
                ∙ ap (λ (xs : List Entry). (X ++ later.front) ++ (of_key key xs ++ later.behind)) (sym same);
            together =
                ap (λ (b : Bool). of_key key
                (all_entries (flat_map (λ ts. ts)
                (cond b (in_key_order new (without inputs first) ∷ map (without inputs) (second ∷ deeper))
                (without inputs first ∷ at_level (n - 1) (in_key_order new) (map (without inputs) (second ∷ deeper))))))) not_first
                ∙ ap (λ (xs : List Table). of_key key
                (all_entries (xs ++ flat_map (λ ts. ts)
                (at_level (n - 1) (in_key_order new) (map (without inputs) (second ∷ deeper)))))) (idle_without first idle)
                ∙ ap (of_key key) (flat-append first
                (flat_map (λ ts. ts) (at_level (n - 1) (in_key_order new) (map (without inputs) (second ∷ deeper)))))
                ∙ of-append key (all_entries first)
                (all_entries (flat_map (λ ts. ts) (at_level (n - 1) (in_key_order new) (map (without inputs) (second ∷ deeper)))))
                ∙ ap (λ (xs : List Entry). X ++ xs) later.together
                ∙ sym (append_assoc X later.front (of_key key out ++ later.behind));
          }

      -- in place of the one input that stands among these tables
      pub in_place_placed : (xs : List Table) (t : Table) (ys : List Table) (ps : List Preceded) → IsIdle xs
          → is_among inputs t ≡ true → IsIdle ys
          → IsPlaced (left_level ps (xs ++ t ∷ ys)) (kept_level ps (xs ++ t ∷ ys)) (all_entries (xs ++ (new ++ ys)))
      in_place_placed xs t ys ps before is after =
          let qs = rest_level ps xs in
          let rs = rest_of qs (marked_as (is_among inputs t) t.entries) in
          let L = kept_of (marked_by keep I O floor qs (marked_as (is_among inputs t) t.entries)) in
          let same : kept_inputs (marked_by keep I O floor qs (marked_as (is_among inputs t) t.entries)) ≡ L =
          ap (λ (b : Bool). kept_inputs (marked_by keep I O floor qs (marked_as b t.entries))) is
          ∙ input_left qs t.entries
          ∙ ap (λ (b : Bool). kept_of (marked_by keep I O floor qs (marked_as b t.entries))) (sym is) in
          let kepts : kept_level ps (xs ++ t ∷ ys) ≡ L =
          kept-append ps xs (t ∷ ys)
          ∙ ap (λ (es : List Entry). es ++ kept_level qs (t ∷ ys)) (idle_kept ps xs before)
          ∙ ap (λ (es : List Entry). es ++ kept_level rs ys) same
          ∙ ap (λ (es : List Entry). L ++ es) (idle_kept rs ys after) ∙ nothing_more L in
          record {
            front = of_key key (all_entries xs);
            behind = of_key key (all_entries ys);
            apart =
                ap (of_key key) (left-append ps xs (t ∷ ys)
                ∙ ap (λ (es : List Entry). es ++ left_level qs (t ∷ ys)) (idle_left ps xs before)
                ∙ ap (λ (es : List Entry). all_entries xs ++ (L ++ es)) (idle_left rs ys after))
                ∙ of-append key (all_entries xs) (L ++ all_entries ys)
                ∙ ap (λ (es : List Entry). of_key key (all_entries xs) ++ es) (of-append key L (all_entries ys))
                ∙ ap (λ (es : List Entry). of_key key (all_entries xs) ++ (of_key key es ++ of_key key (all_entries ys))) (sym kepts);
            together =
                ap (of_key key) (flat-append xs (new ++ ys)
                ∙ ap (λ (es : List Entry). all_entries xs ++ es)
                (flat-append new ys ∙ ap (λ (es : List Entry). es ++ all_entries ys) made))
                ∙ of-append key (all_entries xs) (out ++ all_entries ys)
                ∙ ap (λ (es : List Entry). of_key key (all_entries xs) ++ es) (of-append key out (all_entries ys));
          }
