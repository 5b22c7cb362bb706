-- What edits can make: states whose numbers are in range, and in which each table stands once.
use Rattle.std.specs.Prelude.{◌≡◌, ◌+◌, ◌≤◌, ℕ, Bool, true, false, ◌&&◌, not, nat_le, if◌then◌else◌, List, [], ◌∷◌}
use Rattle.std.specs.Prelude.{length, Option, None, Some, Result, Ok, Err, IfSome, refl}
use Rattle.std.specs.List.{AllByRecursion}
use Rattle.std.specs.Option.{option_map}
use Rattle.std.proofs.Common.{sym, ap, subst, ◌∙◌, arith}
use Rattle.std.proofs.lemmas.Bool.{leb-true, le-leb, and_from, and_parts}
use Rattle.vl_model.specs.Limits.{max_commit_number, max_file_number}
use Rattle.vl_frame.specs.Begins.{Placed}
use Rattle.vl_manifest.specs.declared.version_builder.VersionBuilder.{VersionBuilder}
use Rattle.vl_manifest.specs.declared.edit.Edit.{Edit}
use Rattle.vl_manifest.specs.declared.edit.Edit.TheVariants.{Add, Drop, Gone, Head, Keep, Next}
use Rattle.vl_manifest.specs.declared.state.ManifestState.{ManifestState}
use Rattle.vl_manifest.specs.Formats.{gone_format}
use Rattle.vl_manifest.specs.Levels.{all_tables, is_in, is_other, put_at, taken_out}
use Rattle.vl_manifest.specs.States.{all_applied, applied, are_next, as_draft, as_read, finish, first_draft}
use Rattle.vl_manifest.specs.States.{first_state, given_if, is_file_number, is_gone, is_head, is_keep, is_next_number}
use Rattle.vl_manifest.specs.States.{manifest_state, max_keep, next_state, opened_state, read_in, state_behind}
use Rattle.vl_manifest.specs.States.{state_then, then_applied, with_both, with_levels}
use Rattle.vl_manifest.specs.laws.TableLists.{AreOnce, all-filter, all-more, once-filter, once_more, put_is}
use Rattle.vl_manifest.specs.laws.TableLists.{taken_out-count, taken_out-tables}

-- two states that are the same but for the numbers that may still be given
pub record SameState (a b : ManifestState) : Type 0 where
  pub levels : a.levels ≡ b.levels
  pub head : a.head ≡ b.head
  pub covered : a.covered ≡ b.covered
  pub keep : a.keep ≡ b.keep
  pub since : a.since ≡ b.since
  pub gone : a.gone ≡ b.gone

pub same_state : (s : ManifestState) → SameState s s
same_state s = record { levels = refl; head = refl; covered = refl; keep = refl; since = refl; gone = refl }

-- an opening changes the next numbers alone
pub opened_same : (log table : ℕ) (s : ManifestState) → SameState (opened_state log table s) s
opened_same log table s = record { levels = refl; head = refl; covered = refl; keep = refl; since = refl; gone = refl }

-- the tables of seven levels, each of which has a number that a table may have, and stands once
pub record AreTables (levels : List (List ℕ)) : Type 0 where
  pub seven : length levels ≡ 7
  pub once : AreOnce (all_tables levels)
  pub numbers : AllByRecursion (λ (t : ℕ). is_file_number t ≡ true) (all_tables levels)

-- each number is one that a store can have, and no table is named twice
pub record IsInRange (s : ManifestState) : Type 0 where
  pub tables : AreTables s.levels
  pub head_first : 1 ≤ s.head
  pub head_last : s.head ≤ max_file_number
  pub covered : s.covered ≤ max_commit_number
  pub log_first : 1 ≤ s.next_log
  pub log_last : s.next_log ≤ max_file_number + 1
  pub table_first : 1 ≤ s.next_table
  pub table_last : s.next_table ≤ max_file_number + 1
  pub keep_first : 1 ≤ s.keep
  pub keep_last : s.keep ≤ max_keep
  pub since : s.since ≤ max_commit_number
  pub gone : s.gone ≤ max_commit_number

-- next numbers above those that stand are in range
pub opened_in_range : (log table : ℕ) (s : ManifestState) → log ≤ max_file_number
    → table ≤ max_file_number
    → IsInRange s → IsInRange (opened_state log table s)
opened_in_range log table s log_fits table_fits r = record {
  tables = r.tables;
  head_first = r.head_first;
  head_last = r.head_last;
  covered = r.covered;
  log_first = omega (arith, r.log_first);
  log_last = omega (arith, r.log_last, log_fits);
  table_first = omega (arith, r.table_first);
  table_last = omega (arith, r.table_last, table_fits);
  keep_first = r.keep_first;
  keep_last = r.keep_last;
  since = r.since;
  gone = r.gone;
}

-- ---- the tests that edits are put to

pub head_passes : (segment number : ℕ) → 1 ≤ segment → segment ≤ max_file_number
    → number ≤ max_commit_number
    → is_head segment number ≡ true
head_passes segment number first last fits =
    and_from (is_file_number segment) (nat_le number max_commit_number)
    (and_from (nat_le 1 segment) (nat_le segment max_file_number) (le-leb 1 segment first) (le-leb segment max_file_number last))
    (le-leb number max_commit_number fits)

next_passes : (n : ℕ) → 1 ≤ n → n ≤ max_file_number + 1 → is_next_number n ≡ true
next_passes n first last =
    and_from (nat_le 1 n) (nat_le n (max_file_number + 1)) (le-leb 1 n first) (le-leb n (max_file_number + 1) last)

pub nexts_pass : (log table : ℕ) → 1 ≤ log → log ≤ max_file_number + 1 → 1 ≤ table → table ≤ max_file_number + 1
    → are_next log table ≡ true
nexts_pass log table log_first log_last table_first table_last =
    and_from (is_next_number log) (is_next_number table) (next_passes log log_first log_last) (next_passes table table_first table_last)

pub keep_passes : (versions since : ℕ) → 1 ≤ versions → versions ≤ max_keep → since ≤ max_commit_number
    → is_keep versions since ≡ true
keep_passes versions since first last fits =
    and_from (nat_le 1 versions && nat_le versions max_keep) (nat_le since max_commit_number)
    (and_from (nat_le 1 versions) (nat_le versions max_keep) (le-leb 1 versions first) (le-leb versions max_keep last))
    (le-leb since max_commit_number fits)

pub gone_passes : (number : ℕ) → 1 ≤ number → number ≤ max_commit_number → is_gone number ≡ true
gone_passes number first last =
    and_from (nat_le 1 number) (nat_le number max_commit_number) (le-leb 1 number first) (le-leb number max_commit_number last)

record HeadFits (segment number : ℕ) : Type 0 where
  first : 1 ≤ segment
  last : segment ≤ max_file_number
  covered : number ≤ max_commit_number

head_fits : (segment number : ℕ) → is_head segment number ≡ true → HeadFits segment number
head_fits segment number passes =
    let parts = and_parts (is_file_number segment) (nat_le number max_commit_number) passes in
    let log = and_parts (nat_le 1 segment) (nat_le segment max_file_number) parts.0 in
    record {
      first = leb-true 1 segment log.0;
      last = leb-true segment max_file_number log.1;
      covered = leb-true number max_commit_number parts.1;
    }

next_fits : (n : ℕ) → is_next_number n ≡ true → (1 ≤ n) × (n ≤ max_file_number + 1)
next_fits n passes =
    let parts = and_parts (nat_le 1 n) (nat_le n (max_file_number + 1)) passes in
    (leb-true 1 n parts.0, leb-true n (max_file_number + 1) parts.1)

record KeepFits (versions since : ℕ) : Type 0 where
  first : 1 ≤ versions
  last : versions ≤ max_keep
  since_fits : since ≤ max_commit_number

keep_fits : (versions since : ℕ) → is_keep versions since ≡ true → KeepFits versions since
keep_fits versions since passes =
    let parts = and_parts (nat_le 1 versions && nat_le versions max_keep) (nat_le since max_commit_number) passes in
    let versions_fit = and_parts (nat_le 1 versions) (nat_le versions max_keep) parts.0 in
    record {
      first = leb-true 1 versions versions_fit.0;
      last = leb-true versions max_keep versions_fit.1;
      since_fits = leb-true since max_commit_number parts.1;
    }

gone_fits : (number : ℕ) → is_gone number ≡ true → number ≤ max_commit_number
gone_fits number passes =
    let parts = and_parts (nat_le 1 number) (nat_le number max_commit_number) passes in
    leb-true number max_commit_number parts.1

-- ---- what edits make is in range

record DraftInRange (d : VersionBuilder) : Type 0 where
  tables : AreTables d.levels
  head : IfSome d.head (λ h. is_head h.0 h.1 ≡ true)
  next : IfSome d.next (λ n. are_next n.0 n.1 ≡ true)
  keep : is_keep d.keep d.since ≡ true
  gone : d.gone ≤ max_commit_number

first_in : DraftInRange first_draft
first_in = record {
  tables = record { seven = refl; once = tt; numbers = tt };
  head = tt;
  next = tt;
  keep = refl;
  gone = omega arith;
}

as_draft_in : (s : ManifestState) → IsInRange s → DraftInRange (as_draft s)
as_draft_in s r = record {
  tables = r.tables;
  head = head_passes s.head s.covered r.head_first r.head_last r.covered;
  next = nexts_pass s.next_log s.next_table r.log_first r.log_last r.table_first r.table_last;
  keep = keep_passes s.keep s.since r.keep_first r.keep_last r.since;
  gone = r.gone;
}

some_same : {X : Type 0} (a b : X) → Some a ≡ Some b → a ≡ b
some_same a b e = cc

none_some : {X : Type 0} (a : X) → None ≡ Some a → ⊥
none_some a e = cc

ok_same : (a b : ManifestState) → ◌≡◌ {A = Result ManifestState ℕ} (Ok a) (Ok b) → a ≡ b
ok_same a b e = cc

err_ok : (p : ℕ) (b : ManifestState) → ◌≡◌ {A = Result ManifestState ℕ} (Err p) (Ok b) → ⊥
err_ok p b e = cc

given : (b : Bool) (x d : VersionBuilder) → given_if b x ≡ Some d → (b ≡ true) × (x ≡ d)
given true x d e = (refl, some_same x d e)
given false x d e = absurd (none_some d e)

-- the tables behind an Add, and behind a Drop
put_tables : (level position table : ℕ) (before after : List (List ℕ)) → AreTables before → is_file_number table ≡ true
    → is_in table (all_tables before) ≡ false → put_at level position table before ≡ Some after → AreTables after
put_tables level position table before after tables fits new is =
    let put = put_is level position table before after is in
    let once = subst AreOnce put.were tables.once in
    let numbers = subst (AllByRecursion (λ (t : ℕ). is_file_number t ≡ true)) put.were tables.numbers in
    let apart = sym (ap (is_in table) put.were) ∙ new in
    record {
      seven = put.same_count ∙ tables.seven;
      once = subst AreOnce (sym put.are) (once_more put.front table put.back once apart);
      numbers = subst (AllByRecursion (λ (t : ℕ). is_file_number t ≡ true)) (sym put.are)
          (all-more (λ (t : ℕ). is_file_number t ≡ true) put.front table put.back numbers fits);
    }

taken_tables : (table : ℕ) (levels : List (List ℕ)) → AreTables levels → AreTables (taken_out table levels)
taken_tables table levels tables =
    let are = taken_out-tables table levels in
    record {
      seven = taken_out-count table levels ∙ tables.seven;
      once = subst AreOnce (sym are) (once-filter (is_other table) (all_tables levels) tables.once);
      numbers = subst (AllByRecursion (λ (t : ℕ). is_file_number t ≡ true)) (sym are)
          (all-filter (λ (t : ℕ). is_file_number t ≡ true) (is_other table) (all_tables levels) tables.numbers);
    }

not_true : (b : Bool) → not b ≡ true → b ≡ false
not_true true e = absurd (let no : false ≡ true = e in cc)
not_true false e = refl

with_tables : (d : VersionBuilder) (levels : List (List ℕ)) → DraftInRange d → AreTables levels → DraftInRange (with_levels d levels)
with_tables d levels inside tables =
    record { tables = tables; head = inside.head; next = inside.next; keep = inside.keep; gone = inside.gone }

added_in : (level position table : ℕ) (d x : VersionBuilder) → DraftInRange d → applied (Add level position table) d ≡ Some x
    → DraftInRange x
added_in level position table d x inside is = by (is_file_number table && not (is_in table (all_tables d.levels))) refl is
  where
    put : (o : Option (List (List ℕ))) → put_at level position table d.levels ≡ o → is_file_number table ≡ true
        → is_in table (all_tables d.levels) ≡ false → option_map (with_levels d) o ≡ Some x → DraftInRange x
    put None at fits new e = absurd (none_some x e)
    put (Some levels) at fits new e =
        subst DraftInRange (some_same (with_levels d levels) x e)
        (with_tables d levels inside (put_tables level position table d.levels levels inside.tables fits new at))

    by : (b : Bool) → (is_file_number table && not (is_in table (all_tables d.levels))) ≡ b
        → (if b then option_map (with_levels d) (put_at level position table d.levels) else None) ≡ Some x → DraftInRange x
    by false at e = absurd (none_some x e)
    by true at e =
        let parts = and_parts (is_file_number table) (not (is_in table (all_tables d.levels))) at in
        put (put_at level position table d.levels) refl parts.0 (not_true (is_in table (all_tables d.levels)) parts.1) e

applied_in : (e : Edit) (d x : VersionBuilder) → DraftInRange d → applied e d ≡ Some x → DraftInRange x
applied_in (Add level position table) d x inside is = added_in level position table d x inside is
applied_in (Drop table) d x inside is =
    let r = given (is_in table (all_tables d.levels)) (with_levels d (taken_out table d.levels)) x is in
    subst DraftInRange r.1
    (with_tables d (taken_out table d.levels) inside (taken_tables table d.levels inside.tables))
applied_in (Head segment number) d x inside is =
    let r = given (is_head segment number) (record d { head = Some (segment, number) }) x is in
    subst DraftInRange r.1
    (record { tables = inside.tables; head = r.0; next = inside.next; keep = inside.keep; gone = inside.gone })
applied_in (Next log table) d x inside is =
    let r = given (are_next log table) (record d { next = Some (log, table) }) x is in
    subst DraftInRange r.1
    (record { tables = inside.tables; head = inside.head; next = r.0; keep = inside.keep; gone = inside.gone })
applied_in (Keep versions since) d x inside is =
    let r = given (is_keep versions since) (record d { keep = versions; since = since }) x is in
    subst DraftInRange r.1
    (record { tables = inside.tables; head = inside.head; next = inside.next; keep = r.0; gone = inside.gone })
applied_in (Gone number) d x inside is =
    let r = given (is_gone number) (record d { gone = number }) x is in
    subst DraftInRange r.1
    (record { tables = inside.tables; head = inside.head; next = inside.next; keep = inside.keep; gone = gone_fits number r.0 })

all_in : (es : List Edit) (d x : VersionBuilder) → DraftInRange d → all_applied es d ≡ Some x → DraftInRange x
all_in [] d x inside is = subst DraftInRange (some_same d x is) inside
all_in (e ∷ es) d x inside is = by (λ y in_y goes. all_in es y x in_y goes) (applied e d) refl is
  where
    by : ((y : VersionBuilder) → DraftInRange y → all_applied es y ≡ Some x → DraftInRange x)
        → (o : Option VersionBuilder) → applied e d ≡ o → then_applied (all_applied es) o ≡ Some x → DraftInRange x
    by rest None at is = absurd (none_some x is)
    by rest (Some y) at is = rest y (applied_in e d y inside at) is

both_in : (d : VersionBuilder) (head next : Option (ℕ × ℕ)) (s : ManifestState) → DraftInRange d
    → IfSome head (λ h. is_head h.0 h.1 ≡ true) → IfSome next (λ n. are_next n.0 n.1 ≡ true)
    → with_both d head next ≡ Some s → IsInRange s
both_in d None next s inside h n is = absurd (none_some s is)
both_in d (Some p) None s inside h n is = absurd (none_some s is)
both_in d (Some p) (Some q) s inside h n is =
    let head = head_fits p.0 p.1 h in
    let parts = and_parts (is_next_number q.0) (is_next_number q.1) n in
    let log = next_fits q.0 parts.0 in
    let table = next_fits q.1 parts.1 in
    let keep = keep_fits d.keep d.since inside.keep in
    let made : ManifestState =
    record {
      levels = d.levels;
      head = p.0;
      covered = p.1;
      next_log = q.0;
      next_table = q.1;
      keep = d.keep;
      since = d.since;
      gone = d.gone;
    } in
    subst IsInRange (some_same made s is) (record {
      tables = inside.tables;
      head_first = head.first;
      head_last = head.last;
      covered = head.covered;
      log_first = log.0;
      log_last = log.1;
      table_first = table.0;
      table_last = table.1;
      keep_first = keep.first;
      keep_last = keep.last;
      since = keep.since_fits;
      gone = inside.gone;
    })

finish_in : (o : Option VersionBuilder) (s : ManifestState) → ((d : VersionBuilder) → o ≡ Some d → DraftInRange d)
    → finish o ≡ Some s → IsInRange s
finish_in None s inside is = absurd (none_some s is)
finish_in (Some d) s inside is =
    let i = inside d refl in both_in d d.head d.next s i i.head i.next is

stepped : (place : ℕ) (rest : ManifestState → Result ManifestState ℕ) (o : Option ManifestState) (s : ManifestState)
    → state_then place rest o ≡ Ok s → (t : ManifestState) × (o ≡ Some t) × (rest t ≡ Ok s)
stepped place rest None s is = absurd (err_ok place s is)
stepped place rest (Some t) s is = (t, refl, is)

behind_in : (fs : List (Placed (List Edit))) (s t : ManifestState) → IsInRange s
    → state_behind s fs ≡ Ok t → IsInRange t
behind_in [] s t inside is = subst IsInRange (ok_same s t is) inside
behind_in (f ∷ fs) s t inside is =
    let r = stepped f.place (λ u. state_behind u fs) (next_state f.item s) t is in
    behind_in fs r.0 t
    (finish_in (all_applied f.item (as_draft s)) r.0 (λ d e. all_in f.item (as_draft s) d (as_draft_in s inside) e) r.1) r.2

-- A state that frames make is in range.
pub state_in_range : (f : Placed (List Edit)) (fs : List (Placed (List Edit))) (s : ManifestState)
    → manifest_state f fs ≡ Ok s → IsInRange s
state_in_range f fs s is =
    let r = stepped f.place (λ u. state_behind u fs) (first_state f.item) s is in
    behind_in fs r.0 s
    (finish_in (all_applied f.item first_draft) r.0 (λ d e. all_in f.item first_draft d first_in e) r.1) r.2

-- So is what is read of them in a format.
pub read_in_range : (format : ℕ) (s : ManifestState) → IsInRange s → IsInRange (as_read format s)
read_in_range format s r = by (nat_le gone_format format)
  where
    by : (b : Bool) → IsInRange (if b then s else record s { gone = s.covered })
    by true = r
    by false = record {
      tables = r.tables;
      head_first = r.head_first;
      head_last = r.head_last;
      covered = r.covered;
      log_first = r.log_first;
      log_last = r.log_last;
      table_first = r.table_first;
      table_last = r.table_last;
      keep_first = r.keep_first;
      keep_last = r.keep_last;
      since = r.since;
      gone = r.covered;
    }

pub read_made : (format : ℕ) (made : Result ManifestState ℕ) (s : ManifestState) → read_in format made ≡ Ok s
    → (t : ManifestState) × (made ≡ Ok t) × (as_read format t ≡ s)
read_made format (Ok t) s is = (t, refl, ok_same (as_read format t) s is)
read_made format (Err place) s is = absurd (err_ok place s is)
