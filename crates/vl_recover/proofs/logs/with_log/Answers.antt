use Rattle.std.proofs.Common.{◌≡◌, ◌++◌, Option, ap, map, subst, sym, ◌∙◌}
use Rattle.std.specs.Prelude.{ℕ, All, Some}
use Rattle.vl_recover.specs.opening.LogsSoFar.{number_before, waits_with}
use Rattle.vl_recover.specs.opening.Results.{IsOneRun, frozen_log}
use Rattle.vl_recover.specs.opening.Walk.{format_of, keeps_header}
use Rattle.vl_recover.proofs.opening.OneLog.{frozen_with, frozen_without}
use Rattle.vl_recover.proofs.logs.with_log.Goals as goal
use Rattle.vl_recover.proofs.logs.with_log.Goals.{then-log+in_ok-frozen, else-log}

pub returns-clause-one_more : goal.returns-clause-one_more
returns-clause-one_more g c = λ reading is.
    let log = c.args.log in
    let olds = map frozen_log c.args.so_far.frozen.items in
    let news = map frozen_log c.if-log.frozen.items in
    let before = number_before c.args.so_far.number in
    let header : c.keeps_header.result ≡ keeps_header reading.header reading.frames =
    c.keeps_header.ensures reading.frames is.some ∙ ap (λ (h : Option ℕ). keeps_header h reading.frames) is.format_is in
    let format : c.format_of.result ≡ format_of reading.header = c.format_of.ensures ∙ ap format_of is.format_is in
    record {
      number = c.number_with-number.ensures reading is;
      frozen = elim c.if-log.branch [
        | then-log+in_ok-frozen w ↦ frozen_with before log reading is olds news w.if-log.true
            (ap (λ (v : _). map frozen_log v.items) w.frozen-is ∙ w.in_ok-frozen.ensures.logs)
        | else-log w ↦ frozen_without before log reading is olds news w.if-log.false
            (ap (λ (v : _). map frozen_log v.items) w.frozen-is)
      ];
      waiting = c.in_ok-waiting.ensures reading.frames is.some
          ∙ ap (λ (n : ℕ). c.args.so_far.waiting.items ++ waits_with log.number n reading.frames) c.last_before.ensures;
      last = λ i. Some (record {
        number = log.number;
        length = log.length;
        format = format i;
        header = header i;
        end = is.end_is i;
        has_frames = is.some i;
      });
    }

pub returns-clause-runs : goal.returns-clause-runs
returns-clause-runs g c before = elim c.if-log.branch [
  | then-log+in_ok-frozen w ↦ subst (λ (v : _). All IsOneRun v.items) (sym w.frozen-is) (w.in_ok-frozen.ensures.runs before)
  | else-log w ↦ subst (λ (v : _). All IsOneRun v.items) (sym w.frozen-is) before
]
