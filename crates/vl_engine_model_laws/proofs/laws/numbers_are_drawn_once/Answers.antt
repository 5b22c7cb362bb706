use Rattle.std.proofs.Common.{◌≡◌, ℕ, ◌+◌, Bool, true, false, [], refl}
use Rattle.std.specs.Prelude.{Option, Some, None, if◌then◌else◌}
use Rattle.vl_model.specs.History.{History}
use Rattle.vl_model.specs.declared.counter.Counter.TheVariants as counter
use Rattle.vl_engine_model.specs.Ruling.{Ruling, leaving, has_no_number}
use Rattle.vl_engine_model.specs.Rulings.Fresh.{FreshAnswer, Drawn, Exhausted, drawn, fresh_unless}
use Rattle.vl_engine_model.specs.declared.file_name.FileName.{FileName}
use Rattle.vl_engine_model.specs.declared.layout.Layout.{Layout}
use Rattle.vl_engine_model_laws.specs.Calls.{Abandon, Begin, BeginView, Commit, Drain, EndPass, Flush, Forget, Fresh}
use Rattle.vl_engine_model_laws.specs.Calls.{Install, Keep, Pick, Plan, Release, Relocate, Rotate, Sweep, SweepTo}
use Rattle.vl_engine_model_laws.specs.laws.Numbers.{begin_rises, commit_rises, forget_rises, release_rises, rotate_rises}
use Rattle.vl_engine_model_laws.specs.laws.Numbers.{flush_rises, relocate_rises, plan_rises, drain_rises, fresh_rises}
use Rattle.vl_engine_model_laws.specs.laws.Numbers.{abandon_rises, install_rises, pick_rises, end_pass_rises, sweep_rises}
use Rattle.vl_engine_model_laws.specs.laws.Numbers.{sweep_to_rises, keep_rises}
use Rattle.vl_engine_model_laws.proofs.laws.numbers_are_drawn_once.Goals as goal

abbrev drawn_if : Layout → History → Bool → Ruling FreshAnswer
drawn_if l h b =
    if b then leaving (Exhausted counter.Table) h l
    else record { answer = Drawn l.next_table; history = h; layout = drawn l; calls = 1; gone = [] }

drawn_by : (l : Layout) (h : History) (n : ℕ) (b : Bool) → (drawn_if l h b).answer ≡ Drawn n
    → (n ≡ l.next_table) × ((drawn_if l h b).layout.next_table ≡ l.next_table + 1)
drawn_by l h n true is = absurd cc
drawn_by l h n false is = (cc, refl)

drawn_next : (l : Layout) (h : History) (n : ℕ) (halted : Option FileName) → (fresh_unless halted l h).answer ≡ Drawn n
    → (n ≡ l.next_table) × ((fresh_unless halted l h).layout.next_table ≡ l.next_table + 1)
drawn_next l h n (Some name) is = absurd cc
drawn_next l h n None is = drawn_by l h n (has_no_number l.next_table 1) is

pub returns-clause-each : goal.returns-clause-each
returns-clause-each c Begin l h = begin_rises l h
returns-clause-each c BeginView l h = begin_rises l h
returns-clause-each c (Commit t) l h = commit_rises l h t
returns-clause-each c (Forget t) l h = forget_rises l h t
returns-clause-each c (Release v) l h = release_rises l h v
returns-clause-each c Rotate l h = rotate_rises l h
returns-clause-each c Flush l h = flush_rises l h
returns-clause-each c (Relocate pass batch) l h = relocate_rises l h pass batch
returns-clause-each c Plan l h = plan_rises l h
returns-clause-each c (Drain segment) l h = drain_rises l h segment
returns-clause-each c Fresh l h = fresh_rises l h
returns-clause-each c (Abandon job made) l h = abandon_rises l h job made
returns-clause-each c (Install job made) l h = install_rises l h job made
returns-clause-each c (Pick percent) l h = pick_rises l h percent
returns-clause-each c (EndPass pass) l h = end_pass_rises l h pass
returns-clause-each c Sweep l h = sweep_rises l h
returns-clause-each c (SweepTo least) l h = sweep_to_rises l h least
returns-clause-each c (Keep v) l h = keep_rises l h v

pub returns-clause-drawn : goal.returns-clause-drawn
returns-clause-drawn c l h n is = drawn_next l h n l.halted is
