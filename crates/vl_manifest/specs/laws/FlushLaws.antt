-- What the frame of a flush makes of a state, and what one frame more makes of what was said before.
use Rattle.std.specs.Prelude.{◌≡◌, ◌+◌, ℕ, Bool, true, false, ◌&&◌, not, nat_le, if◌then◌else◌, List, [], ◌∷◌, ◌++◌}
use Rattle.std.specs.Prelude.{length, Option, None, Some, Result, Ok, Err}
use Rattle.std.specs.List.{insert}
use Rattle.std.specs.Option.{option_map}
use Rattle.std.proofs.Common.{ap, ◌∙◌, arith}
use Rattle.std.proofs.lemmas.Bool.{and_from, le-leb}
use Rattle.vl_frame.specs.Begins.{placed}
use Rattle.vl_frame.specs.Runs.{item_frame}
use Rattle.vl_manifest.specs.declared.version_builder.VersionBuilder.{VersionBuilder}
use Rattle.vl_manifest.specs.declared.edit.Edit.{Edit}
use Rattle.vl_manifest.specs.declared.edit.Edit.TheVariants.{Head, Next}
use Rattle.vl_manifest.specs.declared.state.ManifestState.{ManifestState}
use Rattle.vl_manifest.specs.Grammar.{edits_grammar}
use Rattle.vl_manifest.specs.Levels.{all_tables, is_in, put_at, put_in}
use Rattle.vl_manifest.specs.States.{all_applied, are_next, as_draft, finish, flush_edits, given_if, is_file_number}
use Rattle.vl_manifest.specs.States.{is_head, next_state, state_behind, state_then, then_applied, with_levels}

-- ---- a flush's frame

-- the state behind it
abbrev pub flushed_state : ManifestState → ℕ → ℕ → ℕ → ℕ → ℕ → List ℕ → List (List ℕ) → ManifestState
flushed_state s table head covered log next newest deeper = record s {
  levels = (table ∷ newest) ∷ deeper;
  head = head;
  covered = covered;
  next_log = log;
  next_table = next;
}

put_in-front : (tables : List ℕ) (table : ℕ) → put_in 0 table tables ≡ Some (table ∷ tables)
put_in-front tables table =
    let fits : nat_le 0 (length tables) ≡ true = le-leb 0 (length tables) (omega arith) in
    ap (λ (b : Bool). if b then Some (insert tables 0 table) else None) fits

-- What a flush's frame makes of a state whose numbers leave room for it.
pub flush_says : (s : ManifestState) (newest : List ℕ) (deeper : List (List ℕ)) (table head covered log next : ℕ)
    → s.levels ≡ newest ∷ deeper → is_file_number table ≡ true → is_in table (all_tables s.levels) ≡ false
    → is_head head covered ≡ true → are_next log next ≡ true
    → next_state (flush_edits table head covered log next) s ≡ Some (flushed_state s table head covered log next newest deeper)
flush_says s newest deeper table head covered log next are fits new h n =
    let passes : (is_file_number table && not (is_in table (all_tables s.levels))) ≡ true =
    and_from (is_file_number table) (not (is_in table (all_tables s.levels))) fits (ap not new) in
    let last : List Edit = Head head covered ∷ Next log next ∷ [] in
    let added : VersionBuilder = with_levels (as_draft s) ((table ∷ newest) ∷ deeper) in
    let headed : VersionBuilder = record added { head = Some (head, covered) } in
    ap (λ (b : Bool). finish
    (then_applied (all_applied last) (if b then option_map (with_levels (as_draft s)) (put_at 0 0 table s.levels) else None))) passes
    ∙ ap (λ (l : List (List ℕ)). finish (then_applied (all_applied last) (option_map (with_levels (as_draft s)) (put_at 0 0 table l)))) are
    ∙ ap (λ (o : Option (List ℕ)). finish
    (then_applied (all_applied last) (option_map (with_levels (as_draft s)) (option_map (λ l. l ∷ deeper) o))))
    (put_in-front newest table)
    ∙ ap (λ (b : Bool). finish (then_applied (all_applied (Next log next ∷ [])) (given_if b headed))) h
    ∙ ap (λ (b : Bool). finish (then_applied (all_applied []) (given_if b (record headed { next = Some (log, next) })))) n

-- ---- one frame more

ok_same : (a b : ManifestState) → ◌≡◌ {A = Result ManifestState ℕ} (Ok a) (Ok b) → a ≡ b
ok_same a b e = cc

err_ok : (p : ℕ) (t : ManifestState) → ◌≡◌ {A = Result ManifestState ℕ} (Err p) (Ok t) → ⊥
err_ok p t e = cc

module _ (format number : ℕ) where
  -- What later frames make of a state is made on by one more.
  pub behind_more : (at : ℕ) (s t u : ManifestState) (frames : List (List Edit)) (f : List Edit)
      → state_behind s (placed (edits_grammar format) number at frames) ≡ Ok t → next_state f t ≡ Some u
      → state_behind s (placed (edits_grammar format) number at (frames ++ f ∷ [])) ≡ Ok u
  behind_more at s t u [] f made one =
      ap (λ (x : ManifestState). state_then at (λ y. state_behind y []) (next_state f x)) (ok_same s t made)
      ∙ ap (state_then at (λ y. state_behind y [])) one
  behind_more at s t u (g ∷ frames) f made one = by (next_state g s) (λ x is. behind_more next x t u frames f is one) made
    where
      next : ℕ
      next = at + length (item_frame (edits_grammar format) number at g)

      by : (o : Option ManifestState)
          → ((x : ManifestState) → state_behind x (placed (edits_grammar format) number next frames) ≡ Ok t
          → state_behind x (placed (edits_grammar format) number next (frames ++ f ∷ [])) ≡ Ok u)
          → state_then at (λ x. state_behind x (placed (edits_grammar format) number next frames)) o ≡ Ok t
          → state_then at (λ x. state_behind x (placed (edits_grammar format) number next (frames ++ f ∷ []))) o ≡ Ok u
      by None rest is = absurd (err_ok at t is)
      by (Some x) rest is = rest x is
