use Rattle.std.proofs.Common.{◌≡◌, ℕ, List, [], ◌∷◌, length, All, Vec, Global, sym, ap, ◌∙◌, subst, refl, arith, vec_capacity}
use Rattle.std.proofs.lemmas.List.Elements.{All-tail}
use Rattle.std.specs.Vec.Iter.{into_iter_items}
use Rattle.vl_disk.specs.FaultPlan.{Plan}
use Rattle.vl_disk.specs.declared.name.Name.{Name}
use Rattle.vl_disk.specs.Name.{IsNumbered}
use Rattle.vl_disk.specs.Started.{Started}
use Rattle.vl_mem.specs.Event.{state_after}
use Rattle.vl_mem.specs.Kept.{image_of, with_found, starts}
use Rattle.vl_mem.proofs.Calls.{some_state}
use Rattle.vl_mem.proofs.Steps.{kept_at_first, none_fail_at_first}
use Rattle.vl_mem.proofs.mem_disk.MemDisk.started.Goals as goal

abbrev AreNumbered : List (Name × Vec ℕ Global) → Type 0
AreNumbered = All (λ file. IsNumbered file.0)

pub loop-name-init : goal.loop-name-init
loop-name-init c =
    let items : into_iter_items
    c.into_iter-name-iterator.result ≡ c.args.files.items = c.into_iter-name-iterator.ensures.into_iter_gives.0 in
    record {
      kept = kept_at_first c.new-entries.result c.new-events.result.items (vec_capacity c.new-events.result)
          c.new-entries.ensures.empty c.new-events.ensures.items;
      rest = ap (λ files. with_found files (state_after c.new-events.result.items)) items
          ∙ ap (λ es. with_found c.args.files.items (state_after es)) c.new-events.ensures.items;
      failing = none_fail_at_first c.new-entries.result c.new-entries.ensures.empty;
      numbered = subst AreNumbered (sym items) c.requires;
    }

pub found-requires : goal.found-requires
found-requires c = (subst AreNumbered c.in-Some.ensures.steps.0 c.loop-name.invariant.numbered) 0
    (c.in-Some.name, c.in-Some.bytes) (omega arith)

pub loop-name-preserved : goal.loop-name-preserved
loop-name-preserved c =
    let more : into_iter_items c.loop-name.name-iterator ≡ (c.in-Some.name, c.in-Some.bytes) ∷ into_iter_items
    c.next.new.self = c.in-Some.ensures.steps.0 in
    record {
      kept = c.in_ok-found.ensures.kept c.loop-name.invariant.kept;
      rest = ap (with_found (into_iter_items c.next.new.self)) c.in_ok-found.ensures.state
          ∙ ap (λ files. with_found files (state_after c.loop-name.events.items)) (sym more) ∙ c.loop-name.invariant.rest;
      failing = c.in_ok-found.ensures.failing c.loop-name.invariant.failing;
      numbered = All-tail (λ file. IsNumbered file.0) (c.in-Some.name, c.in-Some.bytes)
          (into_iter_items c.next.new.self) (subst AreNumbered more c.loop-name.invariant.numbered);
    }

pub invariant_of-result : goal.invariant_of-result
invariant_of-result c = record { kept = c.loop-name.invariant.kept }

ended : {X : Type 0} (xs : List X) → length xs ≡ 0 → xs ≡ []
ended [] none = refl
ended (x ∷ xs) none = absurd (omega arith)

pub returns-clause-started : goal.returns-clause-started
returns-clause-started c disk is =
    let none : into_iter_items c.loop-name.name-iterator ≡ [] = ended (into_iter_items c.loop-name.name-iterator)
    (sym c.loop-name.name-iterator.rest.ok.0 ∙ c.in-None.ensures.steps.0) in
    subst (Started (image_of c.args.files.items))
    (sym c.loop-name.invariant.rest ∙ ap (λ files. with_found files (state_after c.loop-name.events.items)) none
    ∙ some_state (state_after c.loop-name.events.items) disk is) (starts c.args.files.items)

pub returns-clause-steady : goal.returns-clause-steady
returns-clause-steady c none = record {
  reads = ap (λ (p : Plan). p.failing) c.new-2.ensures ∙ none;
  writers = c.new-3.ensures.items;
  ready = c.loop-name.invariant.failing;
}
