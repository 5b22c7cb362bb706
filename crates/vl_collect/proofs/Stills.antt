-- What of a batch is moved, record by record.
use Rattle.std.proofs.Common.{◌≡◌, ℕ, zero, suc, ◌+◌, ◌<◌, List, [], ◌∷◌, ◌++◌, length, map, take, get_or, ap, sym, ◌∙◌, arith}
use Rattle.std.proofs.lemmas.List.{append-nil, map-append}
use Rattle.std.proofs.lemmas.List.Elements.{filter-append}
use Rattle.std.specs.List.{filter}
use Rattle.std.specs.Prelude.{Bool, true, false, if◌then◌else◌}
use Rattle.vl_collect.specs.Taking.{candidate_of, candidates}
use Rattle.vl_collect.specs.declared.batch.Found.{Found}
use Rattle.vl_engine_model.specs.Relocation.{Candidate, is_moved, moved_of}
use Rattle.vl_model.specs.declared.entry.Entry.{Entry}
use Rattle.vl_model.specs.declared.log_frame.Moved.{Moved}

suc_more : (i : ℕ) → suc i + 1 ≡ suc (i + 1)
suc_more i = omega arith

-- the first records and one more
taken_one : (xs : List Found) (i : ℕ) (x : Found) → i < length xs → x ≡ get_or xs i x
    → take (i + 1) (candidates xs) ≡ take i (candidates xs) ++ candidate_of x ∷ []
taken_one [] i x within is = absurd (omega (arith, within))
taken_one (y ∷ ys) zero x within is = ap (λ (f : Found). candidate_of f ∷ []) (sym is)
taken_one (y ∷ ys) (suc i) x within is =
    ap (λ (n : ℕ). take n (candidates (y ∷ ys))) (suc_more i)
    ∙ ap (λ (cs : List Candidate). candidate_of y ∷ cs) (taken_one ys i x (omega (arith, within)) is)

module _ (entries : List Entry) (segment last : ℕ) where
  moved_one : (cs : List Candidate) (c : Candidate)
      → moved_of entries segment last (cs ++ c ∷ []) ≡ moved_of entries segment last cs ++ moved_of entries segment last (c ∷ [])
  moved_one cs c =
      let test = is_moved entries segment last in
      ap (map (λ (d : Candidate). d.moved)) (filter-append test cs (c ∷ []))
      ∙ map-append (λ (d : Candidate). d.moved) (filter test cs) (filter test (c ∷ []))

  this_moved : (c : Candidate) → is_moved entries segment last c ≡ true → moved_of entries segment last (c ∷ []) ≡ c.moved ∷ []
  this_moved c is = ap (λ (b : Bool). map (λ (d : Candidate). d.moved) (if b then c ∷ [] else [])) is

  this_stays : (c : Candidate) → is_moved entries segment last c ≡ false → moved_of entries segment last (c ∷ []) ≡ []
  this_stays c is = ap (λ (b : Bool). map (λ (d : Candidate). d.moved) (if b then c ∷ [] else [])) is

  module _ (xs : List Found) (batch : List Candidate) (are : candidates xs ≡ batch) (i : ℕ) (x : Found) (within : i < length xs)
      (is : x ≡ get_or xs i x) (moved : List Moved) (so_far : moved ≡ moved_of entries segment last (take i batch)) where
    next_of : moved_of entries segment last (take (i + 1) batch)
        ≡ moved_of entries segment last (take i batch) ++ moved_of entries segment last (candidate_of x ∷ [])
    next_of =
        let one = ap (take (i + 1)) (sym are) ∙ taken_one xs i x within is
        ∙ ap (λ (cs : List Candidate). take i cs ++ candidate_of x ∷ []) are in
        ap (moved_of entries segment last) one ∙ moved_one (take i batch) (candidate_of x)

    pub one_moved : is_moved entries segment last (candidate_of x) ≡ true
        → moved ++ x.moved ∷ [] ≡ moved_of entries segment last (take (i + 1) batch)
    one_moved moves =
        ap (λ (ms : List Moved). ms ++ x.moved ∷ []) so_far
        ∙ ap (λ (ms : List Moved). moved_of entries segment last (take i batch) ++ ms) (sym (this_moved (candidate_of x) moves))
        ∙ sym next_of

    pub one_stays : is_moved entries segment last (candidate_of x) ≡ false → moved ≡ moved_of entries segment last (take (i + 1) batch)
    one_stays stays =
        so_far ∙ sym (append-nil (moved_of entries segment last (take i batch)))
        ∙ ap (λ (ms : List Moved). moved_of entries segment last (take i batch) ++ ms) (sym (this_stays (candidate_of x) stays))
        ∙ sym next_of
