-- How entries that are kept are added to a table, one by one, and which needless deletions lie behind it.
use Rattle.std.proofs.Common.{◌≡◌, ℕ, Bool, true, false, cond, not, List, [], ◌∷◌, ◌++◌, refl, ap, sym, subst, ◌∙◌}
use Rattle.std.proofs.Common.{append-nil, Option, Some, None}
use Rattle.std.proofs.lemmas.Bool.{and_parts}
use Rattle.std.proofs.lemmas.List.Elements.{filter-append}
use Rattle.std.specs.Arc.{arc_value}
use Rattle.std.specs.List.{AllByRecursion}
use Rattle.std.specs.Ordering.{eq_by_cmp, is_eq, is_gt, is_lt, nat_cmp, ordering_then}
use Rattle.std.specs.Prelude.{nat_le}
use Rattle.std.specs.declared.cmp.Ordering.{Ordering}
use Rattle.std.specs.declared.cmp.Ordering.TheVariants.{Less, Equal, Greater}
use Rattle.vl_model.specs.Cutting.{last_key}
use Rattle.vl_compact.specs.Filling.{Adds, Fills, IsWhole, IsWrittenTo, named_up_to}
use Rattle.vl_compact.specs.FirstTable.{closes, first_table, frames_length, table_and_rest}
use Rattle.vl_compact.specs.Keeps.{GivesNext, Stage, place_in, stage}
use Rattle.vl_compact.specs.Keys.{all_named, is_past, named_of, up_to}
use Rattle.vl_compact.specs.Walking.{is_behind, spent, walk}
use Rattle.vl_compact.specs.laws.BehindLaws.{all_spent, behind_later, not_greater}
use Rattle.vl_compact.specs.laws.FirstTableLaws.{last-append}
use Rattle.vl_compact.specs.declared.files.Lent.{Lent}
use Rattle.vl_compact.specs.declared.fill.Filled.{Filled}
use Rattle.vl_compact.specs.declared.last.Last.{Last}
use Rattle.vl_disk.specs.declared.writer.Writer.{Ghosts}
use Rattle.vl_engine_model.specs.Tables.{full_table_bytes}
use Rattle.vl_engine_model.specs.declared.job.Job.{Job}
use Rattle.vl_model.specs.Merging.{IsAlong, IsFirst}
use Rattle.vl_model.specs.Conflicts.{Named}
use Rattle.vl_model.specs.Entries.{entry_cmp}
use Rattle.vl_model.specs.Keys.{key_cmp}
use Rattle.vl_model.specs.declared.entry.Entry.{Entry}
use Rattle.vl_model.specs.declared.way.Way.TheVariants.{Up}
use Rattle.vl_table.specs.declared.writer.table_writer.TableWriter.{TableWriter}

-- ---- behind a key

-- an entry of another key, which doesn't come before one, is behind that one's key
apart_past : (k : List ℕ) (l e : Entry) → k ≡ l.key → not (eq_by_cmp key_cmp k e.key) ≡ true → is_gt (entry_cmp l e) ≡ false
    → is_behind (Some k) e ≡ true
apart_past k l e is apart later =
    by (key_cmp k e.key) apart (ap (λ x. is_gt (ordering_then (key_cmp x e.key) (nat_cmp e.version l.version))) is ∙ later)
  where
    by : (r : Ordering) → not (is_eq r) ≡ true → is_gt (ordering_then r (nat_cmp e.version l.version)) ≡ false → is_lt r ≡ true
    by Less apart later = refl
    by Equal apart later = absurd cc
    by Greater apart later = absurd cc

all_later : (at : Option (List ℕ)) (e : Entry) (es : List Entry) → IsFirst Up e es → is_behind at e ≡ true
    → AllByRecursion (λ (f : Entry). is_behind at f ≡ true) es
all_later at e [] first behind = tt
all_later at e (f ∷ fs) first behind = (behind_later at e f first.0 behind, all_later at e fs first.1 behind)

all_past : (k : List ℕ) (es : List Entry) → AllByRecursion (λ (f : Entry). is_behind (Some k) f ≡ true) es
    → AllByRecursion (λ (n : Named). is_past (Some k) n.0 ≡ true) (all_named es)
all_past k [] all = tt
all_past k (e ∷ es) all = (all.0, all_past k es all.1)

none_up_to : (k : List ℕ) (ns : List Named) → AllByRecursion (λ (n : Named). is_past (Some k) n.0 ≡ true) ns
    → named_up_to k ns ≡ []
none_up_to k [] all = refl
none_up_to k (n ∷ ns) all =
    ap (λ b. cond (not b) (n ∷ named_up_to k ns) (named_up_to k ns)) all.0 ∙ none_up_to k ns all.1

named_filtered : (k : List ℕ) (es : List Entry) → named_up_to k (all_named es) ≡ all_named (up_to (Some k) es)
named_filtered k [] = refl
named_filtered k (e ∷ es) = by (is_past (Some k) e.key) (named_filtered k es)
  where
    by : (b : Bool) → named_up_to k (all_named es) ≡ all_named (up_to (Some k) es)
        → cond (not b) (named_of e ∷ named_up_to k (all_named es)) (named_up_to k (all_named es))
        ≡ all_named (cond (not b) (e ∷ up_to (Some k) es) (up_to (Some k) es))
    by true later = later
    by false later = ap (λ l. named_of e ∷ l) later

-- ---- one by one

module _ {W : Type 0} (writer : Ghosts W) where
  -- Entries that are kept were added behind the first one, and nothing closed the table yet.
  pub record Adding {g : _} (j : Job) (first : Entry) (old : Stage) (lent : Lent W g) (table : TableWriter)
      (last : List ℕ) (at : Option Last)
      (left : Option (List Entry)) (found : List Named) : Type 0 where
    pub all : List Entry
    pub lastly : Entry
    pub rest : List Entry
    pub written : IsWrittenTo writer lent table all
    pub ends : last_key all ≡ lastly.key
    pub last_is : last ≡ lastly.key
    pub left_is : left ≡ Some rest
    pub cut : table_and_rest (first ∷ []) (walk j old.place old.left) ≡ table_and_rest all (walk j (place_in at) rest)
    pub found_are : old.found ++ all_named (spent j old.place old.left) ≡ found ++ all_named (spent j (place_in at) rest)
    pub along : IsAlong Up (lastly ∷ rest)

  pub adding_begins : {g : _} (j : Job) (first : Entry) (at : Option Last) (left : List Entry)
      (now : Option (List Entry)) (found : List Named)
      (lent : Lent W g) (table : TableWriter) → now ≡ Some left → IsAlong Up (first ∷ left)
      → IsWrittenTo writer lent table (first ∷ []) → Adding j first (stage at left found) lent table first.key at now found
  adding_begins j first at left now found lent table is along written = record {
    all = first ∷ [];
    lastly = first;
    rest = left;
    written = written;
    ends = refl;
    last_is = refl;
    left_is = is;
    cut = refl;
    found_are = refl;
    along = along;
  }

  module _ {g : _} (j : Job) (first : Entry) (old : Stage) (lent : Lent W g) (table : TableWriter) (last : List ℕ) (at : Option Last)
      (left : Option (List Entry)) (found : List Named) (so : Adding {g = g} j first old lent table last at left found)
      (at_now : Option Last) (left_now : Option (List Entry)) (found_now : List Named) where
    module _ (e : Entry) (n : GivesNext j (stage at so.rest found) at_now left_now found_now (Some e)) where
      abbrev kept_then : List Entry
      kept_then = walk j (place_in at_now) n.rest

      cut_here : table_and_rest (first ∷ []) (walk j old.place old.left)
          ≡ cond (closes so.all e) (so.all, e ∷ kept_then) (table_and_rest (so.all ++ e ∷ []) kept_then)
      cut_here = so.cut ∙ ap (table_and_rest so.all) n.goes.kept

      -- it is of no lesser key than the last one
      pub is_up : is_gt (key_cmp last e.key) ≡ false
      is_up = ap (λ k. is_gt (key_cmp k e.key)) so.last_is
          ∙ not_greater (key_cmp so.lastly.key e.key) (nat_cmp e.version so.lastly.version) (n.goes.from so.lastly so.along.0).0

      -- one more is added
      pub adding_goes : (lent_now : Lent W g) (table_now : TableWriter) → closes so.all e ≡ false
          → IsWrittenTo writer lent_now table_now (so.all ++ e ∷ []) → Adding j first old lent_now table_now e.key at_now left_now found_now
      adding_goes lent_now table_now going written = record {
        all = so.all ++ e ∷ [];
        lastly = e;
        rest = n.rest;
        written = written;
        ends = last-append so.all e;
        last_is = refl;
        left_is = n.left_is;
        cut = cut_here ∙ ap (λ b. cond b (so.all, e ∷ kept_then) (table_and_rest (so.all ++ e ∷ []) kept_then)) going;
        found_are = so.found_are ∙ n.goes.found_are;
        along = n.goes.along so.along.1;
      }

      past_it : closes so.all e ≡ true → is_behind (Some (last_key so.all)) e ≡ true
      past_it closed =
          apart_past (last_key so.all) so.lastly e so.ends
          (and_parts (not (eq_by_cmp key_cmp (last_key so.all) e.key)) (nat_le full_table_bytes (frames_length so.all)) closed).0
          (n.goes.from so.lastly so.along.0).0

      -- it closes the table
      pub adding_closes : closes so.all e ≡ true → Adds writer j first old found_now lent table
      adding_closes closed = record {
        all = so.all;
        others = e ∷ kept_then;
        later = all_named (spent j (place_in at_now) n.rest);
        written = so.written;
        cut = cut_here ∙ ap (λ b. cond b (so.all, e ∷ kept_then) (table_and_rest (so.all ++ e ∷ []) kept_then)) closed;
        found_are = so.found_are ∙ n.goes.found_are;
        behind =
            all_past (last_key so.all) (spent j (place_in at_now) n.rest)
            (all_spent (λ (f : Entry). is_behind (Some (last_key so.all)) f ≡ true) j (place_in at_now) n.rest
            (all_later (Some (last_key so.all)) e n.rest (n.goes.along so.along.1).0 (past_it closed)));
      }

    -- none is left
    pub adding_ends : GivesNext j (stage at so.rest found) at_now left_now found_now None → Adds writer j first old found_now lent table
    adding_ends n = record {
      all = so.all;
      others = [];
      later = [];
      written = so.written;
      cut = so.cut ∙ ap (table_and_rest so.all) (n.goes.kept ∙ ap (walk j (place_in at_now)) n.none);
      found_are = so.found_are ∙ n.goes.found_are ∙ ap (λ es. found_now ++ all_named (spent j (place_in at_now) es)) n.none;
      behind = tt;
    }

  -- ---- the first table

  pub filled_with : {g : _} (j : Job) (left : List Entry) (at : Option Last) (left_now : Option (List Entry))
      (found found_now : List Named) (e : Entry) (n : GivesNext j (stage None left []) at left_now found (Some e))
      → (lent : Lent W g) (table : TableWriter)
      → (a : Adds writer j e (stage at n.rest found) found_now lent table) → (lent_now : Lent W g) (filled : Filled)
      → IsWhole writer lent_now a.all (arc_value filled.shape) → filled.last ≡ last_key a.all
      → filled.found.items ≡ named_up_to filled.last found_now → Fills writer j left lent_now filled
  filled_with j left at left_now found found_now e n lent table a lent_now filled whole last found_are =
      let more : List Entry = walk j (place_in at) n.rest in
      let is_all : (first_table (e ∷ more)).0 ≡ a.all = ap (λ (p : List Entry × List Entry). p.0) a.cut in
      let needless : List Entry = spent j None left in
      let total : all_named needless ≡ found_now ++ a.later = n.goes.found_are ∙ a.found_are in
      record {
        first = e;
        more = more;
        kept = n.goes.kept;
        whole = subst (λ es. IsWhole writer lent_now es (arc_value filled.shape)) (sym is_all) whole;
        last = last ∙ ap last_key (sym is_all);
        found_are =
            found_are ∙ sym (append-nil (named_up_to filled.last found_now))
            ∙ ap (λ l. named_up_to filled.last found_now ++ l)
            (sym (none_up_to filled.last a.later
            (subst (λ k. AllByRecursion (λ (n : Named). is_past (Some k) n.0 ≡ true) a.later) (sym last) a.behind)))
            ∙ sym (filter-append (λ (n : Named). not (is_past (Some filled.last) n.0)) found_now a.later)
            ∙ ap (named_up_to filled.last) (sym total) ∙ named_filtered filled.last needless;
      }
