use Rattle.std.proofs.Common.{rules, ℕ, List, [], ap, sym, ◌∙◌, subst, arith}
use Rattle.std.specs.FinMap.{entries}
use Rattle.vl_reads.specs.declared.view.View.{View}
use Rattle.vl_model.specs.History.{contents_at}
use Rattle.vl_model.specs.Keys.{Row}
use Rattle.vl_script_model.specs.Contents.{AreRead, rows_at_once}
use Rattle.vl_replay_laws.specs.laws.Lines.AllRows.{first_read, rows_are}
use Rattle.vl_replay.proofs.contents.all_rows.Goals as goal

pub loop-read-init : goal.loop-read-init
loop-read-init g c = record {
  still = λ h sees. c.in_ok-rows.ensures.still h sees;
  number = ap (λ (v : View _ _). v.number) c.in_ok-rows.ensures.keeps;
  first = λ h sees.
      let all : List Row = entries (contents_at h c.args.view.now.number) in
      let rows : List Row = c.in_ok-rows.rows.items in
      subst (λ (n : ℕ). AreRead all rows n) (sym (c.len-read.ensures ∙ c.in_ok-rows.rows.ok.0))
      (first_read all rows (c.in_ok-rows.ensures.rows h sees ∙ rows_are h c.args.view.now.number [] rows_at_once));
  most = omega (arith, c.len-read.ensures);
  fits = search rules;
}

pub loop-read-preserved : goal.loop-read-preserved
loop-read-preserved g c =
    let i = c.loop-read.invariant in
    record {
      still = λ h sees. c.in_ok-read.ensures.still h (i.still h sees);
      number = ap (λ (v : View _ _). v.number) c.in_ok-read.ensures.keeps ∙ i.number;
      first = λ h sees.
          let rows_to = λ (n : ℕ) (rows : List Row) (read : ℕ). AreRead (entries (contents_at h n)) rows read in
          subst (λ (n : ℕ). rows_to n c.read_on.new.rows.items c.in_ok-read.read) i.number
          (c.in_ok-read.ensures.rows h c.loop-read.read (i.still h sees)
          (subst (λ (n : ℕ). rows_to n c.loop-read.rows.items c.loop-read.read) (sym i.number) (i.first h sees)));
      most = omega (arith, c.in_ok-read.ensures.longer, i.most, c.loop-read-test.true);
      fits = c.in_ok-read.ensures.fits;
    }
