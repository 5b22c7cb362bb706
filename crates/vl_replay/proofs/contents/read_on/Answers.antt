use Rattle.std.proofs.Common.{◌≡◌, ℕ, ◌+◌, ◌-◌, List, [], ◌++◌, length, take, Some, ap, sym, ◌∙◌, subst, arith}
use Rattle.std.proofs.lemmas.Option.{slice_get_read}
use Rattle.std.specs.FinMap.{empty, entries, entries_sorted}
use Rattle.std.specs.List.{slice_get}
use Rattle.vl_reads.specs.Reading.{rows_under}
use Rattle.vl_model.specs.History.{contents_at}
use Rattle.vl_model.specs.Keys.{Row}
use Rattle.vl_model.specs.declared.way.Way.TheVariants.{Up}
use Rattle.vl_script_model.specs.Contents.{AreRead, rows_at_once}
use Rattle.vl_replay_laws.specs.laws.Lines.AllRows.{next_read, rows_are, rows_from}
use Rattle.vl_replay.proofs.contents.read_on.Goals as goal

pub returns-clause-rows : goal.returns-clause-rows
returns-clause-rows g c h read sees so_far =
    let number : ℕ = c.args.view.now.number in
    let all : List Row = entries (contents_at h number) in
    let rows : List Row = c.args.rows.now.items in
    let more : List Row = c.in_ok-more.more.items in
    let last : ℕ = c.len-last.result - 1 in
    let row : Row = c.index.result.now in
    let long : length rows ≡ last + 1 = omega (arith, c.len-last.ensures, c.requires) in
    let at : slice_get rows last ≡ Some row = slice_get_read rows (last + 1) last row (sym long) (omega arith) c.index.ensures in
    let more_is : more ≡ take rows_at_once (rows_from row.0 all) =
    c.in_ok-more.ensures.rows h sees ∙ ap (λ (low : List ℕ). rows_under empty h number low [] rows_at_once Up) c.as_slice.ensures
    ∙ rows_are h number row.0 rows_at_once in
    let left : c.pop.new.self.items ≡ take last rows = c.pop.ensures.rest ∙ ap (λ (n : ℕ). take n rows) (omega (arith, long)) in
    let joined : c.append.new.self.items ≡ take last rows ++ more = c.in_ok-append.ensures.items
    ∙ ap (λ (rs : List Row). rs ++ more) left in
    subst (λ (n : ℕ). AreRead all c.append.new.self.items n) (sym (c.len-read.ensures ∙ c.in_ok-more.more.ok.0))
    (subst (λ (rs : List Row). AreRead all rs (length more)) (sym joined)
    (next_read all rows more read last row (entries_sorted (contents_at h number)) so_far at long more_is))
