use Rattle.std.specs.Prelude.{if◌then◌else◌}
use Rattle.std.specs.Ordering.{eq_by_cmp}
use Rattle.std.proofs.Common.{◌≡◌, ◌∷◌, ◌++◌, [], ℕ, List, ap, sym, subst, ◌∙◌, arith, length-append}
use Rattle.vl_filter.specs.Places.{hashes_of}
use Rattle.vl_model.specs.Keys.{key_cmp}
use Rattle.vl_model.specs.Cutting.{with_point}
use Rattle.vl_table.proofs.Behind.{last_version-push}
use Rattle.vl_table.proofs.PointLaws.{points_of-push}
use Rattle.vl_table.proofs.Written.{first_key-push, greatest-push, hashes-push, last_key-push}
use Rattle.vl_table.proofs.writer.summary.Summary.add.Goals as goal

pub returns : goal.returns
returns c = λ es some sums.
    let e = c.args.entry.now in
    record {
      first = sums.first ∙ sym (first_key-push es e some);
      last = c.in_ok-self.ensures ∙ sym (last_key-push es e);
      last_version = sym (last_version-push es e);
      count = omega (arith, sums.count, length-append es (e ∷ []));
      greatest = omega (arith, c.max-self.ensures, sums.greatest, greatest-push es e);
      keys = hashes-push es e c.as_slice.result.now c.args.self.now.keys.items c.note_key.new.keys.items some
          (c.as_slice.ensures ∙ sums.last) sums.keys
          (subst (λ (k : List ℕ). c.note_key.new.keys.items ≡
          (if eq_by_cmp key_cmp c.as_slice.result.now k then c.args.self.now.keys.items else
          c.args.self.now.keys.items ++ hashes_of k ∷ [])) c.as_slice-2.ensures c.in_ok-note_key.ensures);
      points = c.in_ok-note.ensures ∙ ap (with_point e.body) sums.points ∙ sym (points_of-push es e);
    }
