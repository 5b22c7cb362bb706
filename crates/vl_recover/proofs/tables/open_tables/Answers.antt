use Rattle.std.proofs.Common.{◌≡◌, ◌+◌, ◌<◌, ℕ, zero, suc, List, [], ◌∷◌, ap, arith, drop, get_or, inl, inr, length}
use Rattle.std.proofs.Common.{map, refl, subst, sym, ◌∙◌}
use Rattle.std.specs.Prelude.{Option, None, Ok, Err, true, false}
use Rattle.std.proofs.lemmas.List.{drop_all, drop_more, length_push}
use Rattle.vl_disk.specs.DiskState.{DiskState}
use Rattle.vl_recover.specs.opening.Finding.{IsReadTable}
use Rattle.vl_recover.specs.opening.FoundTables.{all_found, found_level}
use Rattle.vl_recover.specs.opening.HeldFiles.{AreReadTables, tables_of}
use Rattle.vl_recover.specs.opening.Opening.{FoundTable, IsAmong, IsNamed, NamedLevel, NamedLevels}
use Rattle.vl_recover.proofs.opening.FaultNames.{handed_on}
use Rattle.vl_recover.proofs.opening.HandedCalls.{disk_fault_handed, fault_answered, no_fault_handed}
use Rattle.vl_recover.proofs.opening.Handing.{as_handed, of_stage}
use Rattle.vl_recover.proofs.opening.NamingTables.{AreLevelsOpened, level_held, level_refused, levels_more}
use Rattle.vl_recover.proofs.opening.NamingTables.{levels_opened, no_held, no_levels, one_level}
use Rattle.vl_recover.proofs.opening.Unmoved.{no_call, then_call}
use Rattle.vl_recover.proofs.tables.open_tables.Goals as goal

-- the level that comes next
next_list : (levels : List (List ℕ)) (i : ℕ) (item ns : List ℕ) → i < length levels → item ≡ get_or levels i item → ns ≡ item
    → drop i levels ≡ ns ∷ drop (i + 1) levels
next_list levels i item ns inside is same = drop_more levels i item inside
    ∙ ap (λ (l : List ℕ). l ∷ drop (i + 1) levels) (sym is ∙ sym same)

-- where no level names a table none of them has one
unnamed_level : (levels : List (List ℕ)) (i : ℕ) (ns : List ℕ) (rest : List (List ℕ)) → drop i levels ≡ ns ∷ rest
    → ((n : ℕ) → IsNamed levels n → ⊥) → ns ≡ []
unnamed_level [] zero ns rest is none = absurd cc
unnamed_level [] (suc i) ns rest is none = absurd cc
unnamed_level (m ∷ levels) zero [] rest is none = refl
unnamed_level (m ∷ levels) zero (n ∷ ns) rest is none =
    let same : m ≡ n ∷ ns = cc in absurd (none n (inl (subst (λ (l : List ℕ). IsAmong l n) (sym same) (inl refl))))
unnamed_level (m ∷ levels) (suc i) ns rest is none = unnamed_level levels i ns rest is (λ n named. none n (inr named))

pub loop-list-init : goal.loop-list-init
loop-list-init g c =
    let levels = c.as_slice-list-items.result.now in
    record {
      still = no_call g.D.Watched c.args.disk.now;
      fresh = c.requires.fresh;
      steady = λ sure. sure;
      so_far = λ state read told is.
          subst (λ (ls : List _). AreLevelsOpened read levels (map found_level ls) false levels) (sym c.new-opened.ensures.items)
          (no_levels read levels);
      held = λ state read told is.
          subst (λ (ls : List _). AreReadTables g.D.Held.HeldFile.bytes read (tables_of ls))
          (sym c.new-opened.ensures.items) (no_held g.D.Held.HeldFile.bytes read);
      counted = ap (λ (ls : List _). length ls) c.new-opened.ensures.items;
    }

pub loop-list-preserved : goal.loop-list-preserved
loop-list-preserved g c =
    let levels = c.as_slice-list-items.result.now in
    let i = c.loop-list.list-index in
    let ns = c.as_slice.result.now in
    let so = c.loop-list.invariant in
    record {
      still = then_call g.D.Watched c.args.disk.now c.loop-list.disk c.open_level.new.disk ⊥ so.still c.in_ok-tables.ensures.no_change;
      fresh = c.in_ok-tables.ensures.fresh;
      steady = λ sure. c.open_level.ensures.steady (so.steady sure);
      so_far = λ state read told is.
          subst (λ (ls : List (List FoundTable)). AreLevelsOpened read levels ls true (drop (i + 1) levels))
          (levels_more c.loop-list.opened.items c.push.new.self.items c.in_ok-tables.tables c.in-Ok.ensures.items)
          (one_level read levels (all_found c.loop-list.opened) c.loop-list.is_deeper ns (drop (i + 1) levels)
          (found_level c.in_ok-tables.tables)
          (subst (AreLevelsOpened read levels (all_found c.loop-list.opened) c.loop-list.is_deeper)
          (next_list levels i c.list-item.result ns c.loop-list-test.true c.list-item.is c.as_slice.ensures) (so.so_far state read told is))
          (c.in_ok-tables.ensures.answer state read (so.still.told ∙ told) is));
      held = λ state read told is.
          level_held g.D.Held.HeldFile.bytes read c.loop-list.opened.items c.push.new.self.items c.in_ok-tables.tables c.in-Ok.ensures.items
          (so.held state read told is) (c.in_ok-tables.ensures.held state read (so.still.told ∙ told) is);
      counted = ap (λ (ls : List _). length ls) c.in-Ok.ensures.items
          ∙ length_push c.loop-list.opened.items c.in_ok-tables.tables ∙ ap (λ (n : ℕ). n + 1) so.counted;
    }

pub returns-clause-answer : goal.returns-clause-answer
returns-clause-answer g c = λ state read told is.
    let levels = c.as_slice-list-items.result.now in
    subst (λ (all : List (List ℕ)). NamedLevels false read all (Ok (all_found c.loop-list.opened))) c.as_slice-list-items.ensures
    (levels_opened read levels (all_found c.loop-list.opened) c.loop-list.is_deeper
    (subst (AreLevelsOpened read levels (all_found c.loop-list.opened) c.loop-list.is_deeper)
    (drop_all c.loop-list.list-index levels c.loop-list-test.false)
    (c.loop-list.invariant.so_far state read told is)))

pub returns-clause-seven : goal.returns-clause-seven
returns-clause-seven g c =
    let levels = c.as_slice-list-items.result.now in
    let count = c.loop-list.invariant.counted in
    let past = c.loop-list-test.false in
    let within = c.loop-list.auto in
    let all : length levels ≡ 7 = ap (λ (ls : List (List ℕ)). length ls) c.as_slice-list-items.ensures ∙ c.requires.seven in
    omega arith

pub returns-in_err-tables-clause-answer : goal.returns-in_err-tables-clause-answer
returns-in_err-tables-clause-answer g c = λ state read told is.
    let levels = c.as_slice-list-items.result.now in
    let i = c.loop-list.list-index in
    let ns = c.as_slice.result.now in
    let so = c.loop-list.invariant in
    as_handed all_found (NamedLevels false read c.args.levels.now) c.from_residual.result c.in_err-tables.field-0.0
    c.from_residual.ensures.0 c.from_residual.ensures.1
    (of_stage (NamedLevel c.loop-list.is_deeper read None ns) (NamedLevels false read c.args.levels.now)
    (λ why refused.
    subst (λ (all : List (List ℕ)). NamedLevels false read all (Err why)) c.as_slice-list-items.ensures
    (level_refused read levels (all_found c.loop-list.opened) c.loop-list.is_deeper ns (drop (i + 1) levels) why
    (subst (AreLevelsOpened read levels (all_found c.loop-list.opened) c.loop-list.is_deeper)
    (next_list levels i c.list-item.result ns c.loop-list-test.true c.list-item.is c.as_slice.ensures)
    (so.so_far state read told is)) refused))
    c.in_err-tables.field-0.0 (c.in_err-tables.ensures.answer state read (so.still.told ∙ told) is))

pub returns-in_err-tables-clause-at : goal.returns-in_err-tables-clause-at
returns-in_err-tables-clause-at g c =
    handed_on c.open_level.result c.in_err-tables.field-0.0 c.from_residual.result (IsReadTable (g.D.Watched.told c.loop-list.disk))
    (IsReadTable (g.D.Watched.told c.args.disk.now)) c.in_err-tables.was c.from_residual.ensures.0 c.from_residual.ensures.1
    (λ name is. subst (λ (told : Option DiskState). IsReadTable told name) c.loop-list.invariant.still.told is) c.open_level.ensures.at

pub returns-in_err-tables-clause-no_change : goal.returns-in_err-tables-clause-no_change
returns-in_err-tables-clause-no_change g c =
    disk_fault_handed g.D.Watched c.args.disk.now c.loop-list.disk c.open_level.new.disk c.loop-list.invariant.still
    _ c.in_err-tables.field-0.0 c.from_residual.result c.from_residual.ensures.0 c.from_residual.ensures.1 c.in_err-tables.ensures.no_change

pub returns-in-Err-clause-no_change : goal.returns-in-Err-clause-no_change
returns-in-Err-clause-no_change g c =
    no_fault_handed g.D.Watched c.args.disk.now c.loop-list.disk c.open_level.new.disk c.loop-list.invariant.still
    _ (λ e. e) c.in_ok-tables.ensures.no_change

pub returns-in_err-tables-clause-unread : goal.returns-in_err-tables-clause-unread
returns-in_err-tables-clause-unread g c none =
    let levels = c.as_slice-list-items.result.now in
    let i = c.loop-list.list-index in
    let ns = c.as_slice.result.now in
    c.in_err-tables.ensures.unread (unnamed_level levels i ns (drop (i + 1) levels)
    (next_list levels i c.list-item.result ns c.loop-list-test.true c.list-item.is c.as_slice.ensures)
    (λ n named. none n (subst (λ (all : List (List ℕ)). IsNamed all n) c.as_slice-list-items.ensures named)))

pub returns-in_err-tables-clause-read_fault : goal.returns-in_err-tables-clause-read_fault
returns-in_err-tables-clause-read_fault g c some =
    fault_answered c.in_err-tables.field-0.0 c.from_residual.result c.from_residual.ensures.0 c.from_residual.ensures.1
    (c.in_err-tables.ensures.read_fault some)
