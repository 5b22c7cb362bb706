use Rattle.std.proofs.Common.{◌≡◌, ◌+◌, ◌-◌, length, take, get_or, sym, ◌∙◌, subst}
use Rattle.std.specs.Prelude.{List, ℕ, Contains, Some}
use Rattle.std.specs.FinMap.{get}
use Rattle.std.proofs.lemmas.List.Elements.{All-contains}
use Rattle.std.proofs.lemmas.Bool.{true≢false}
use Rattle.vl_disk.specs.Name.{IsNumbered}
use Rattle.vl_disk.specs.declared.name.Name.{Name}
use Rattle.vl_disk.specs.declared.name.Name.TheVariants as kinds
use Rattle.vl_disk.specs.declared.name.Name.TheVariants.{Log}
use Rattle.vl_recover.specs.opening.Finding.{greatest_of}
use Rattle.vl_manifest.specs.Manifest.{IsReadable}
use Rattle.vl_recover.specs.opening.Leading.{AnswersStage, IsNewestWith, heading_without}
use Rattle.vl_recover.specs.opening.Opening.{Led, Says}
use Rattle.vl_recover.proofs.opening.Looking.{as_read, given, is_current, is_headed, one_passed, says_current}
use Rattle.vl_recover.proofs.opening.Naming.{ManifestsLeft, last_of_front, next_left, no_front, none_left, not_left}
use Rattle.vl_recover.proofs.opening.ReadingLogs.{listed}
use Rattle.vl_recover.proofs.opening.Unmoved.{then_call}
use Rattle.vl_recover.proofs.current.current_state.Goals as goal

pub returns-then-branch-clause-says : goal.returns-then-branch-clause-says
returns-then-branch-clause-says g c = λ state read told is.
    let names = c.args.names.now in
    let next = next_left names c.loop-i.above (take (length names - (c.loop-i.i + 1)) names)
    (get_or names (length names - 1 - c.loop-i.i) (Log 0)) c.in-Some.number
    (subst (ManifestsLeft names c.loop-i.above) (last_of_front names c.loop-i.i (Log 0) c.loop-i-test.true)
    c.loop-i.invariant.left) (sym c.manifest_below.ensures ∙ c.in-Some.is) in
    let number = c.in-Some.number in
    let bytes = c.in_ok-bytes.bytes.items in
    let so = c.loop-i.invariant in
    let lists = c.requires.lists state told in
    let stands : get read (kinds.Manifest number) ≡ Some bytes =
    as_read read state (kinds.Manifest number) bytes is ((lists.all (kinds.Manifest number)).0 next.next.0.0)
    (c.in_ok-bytes.ensures.bytes state (so.still.told ∙ told)) in
    says_current read (Led number bytes)
    (is_current read names (listed read state names is lists) c.loop-i.above number bytes c.loop-i.newest
    (so.passed state read told is) next.next stands
    (subst (IsReadable number) c.deref.ensures.value (c.in_ok-is_readable.ensures.0 c.if-branch.true)))
    c.read_state.result
    (subst (λ (b : List ℕ). AnswersStage (Says (Led number b)) c.read_state.result) c.deref-then-branch.ensures.value
    c.read_state.ensures.says)

pub loop-i-preserved-in_default : goal.loop-i-preserved-in_default
loop-i-preserved-in_default g c =
    let names = c.args.names.now in
    let so = c.loop-i.invariant in
    record {
      still = so.still;
      left = not_left names c.loop-i.above (take (length names - (c.loop-i.i + 1)) names)
          (get_or names (length names - 1 - c.loop-i.i) (Log 0))
          (subst (ManifestsLeft names c.loop-i.above) (last_of_front names c.loop-i.i (Log 0) c.loop-i-test.true)
          so.left) (sym c.manifest_below.ensures ∙ c.in_default.is);
      passed = so.passed;
    }

pub loop-i-preserved : goal.loop-i-preserved
loop-i-preserved g c =
    let names = c.args.names.now in
    let next = next_left names c.loop-i.above (take (length names - (c.loop-i.i + 1)) names)
    (get_or names (length names - 1 - c.loop-i.i) (Log 0)) c.in-Some.number
    (subst (ManifestsLeft names c.loop-i.above) (last_of_front names c.loop-i.i (Log 0) c.loop-i-test.true)
    c.loop-i.invariant.left) (sym c.manifest_below.ensures ∙ c.in-Some.is) in
    let number = c.in-Some.number in
    let bytes = c.in_ok-bytes.bytes.items in
    let so = c.loop-i.invariant in
    record {
      still = then_call g.D.Watched c.args.disk.now c.loop-i.disk c.read_whole.new.disk ⊥ so.still c.in_ok-bytes.ensures.no_change;
      left = next.left;
      passed = λ state read told is.
          let lists = c.requires.lists state told in
          let stands : get read (kinds.Manifest number) ≡ Some bytes =
          as_read read state (kinds.Manifest number) bytes is ((lists.all (kinds.Manifest number)).0 next.next.0.0)
          (c.in_ok-bytes.ensures.bytes state (so.still.told ∙ told)) in
          one_passed read names (listed read state names is lists) c.loop-i.above number bytes c.loop-i.newest
          (so.passed state read told is) next.next stands
          (λ readable. true≢false (sym
          (c.in_ok-is_readable.ensures.1 (subst (IsReadable number) (sym c.deref.ensures.value) readable)) ∙ c.if-branch.false))
          c.newest_with-newest.result
          (subst (λ (b : List ℕ). IsNewestWith c.loop-i.newest number b c.newest_with-newest.result)
          c.deref-in-loop-i.ensures.value c.newest_with-newest.ensures);
    }

pub returns-clause-says : goal.returns-clause-says
returns-clause-says g c = λ state read told is.
    let names = c.args.names.now in
    let lists = c.requires.lists state told in
    says_current read (heading_without (greatest_of c.args.greatest) c.loop-i.newest)
    (is_headed read names (listed read state names is lists) (given read state names is lists)
    (λ (name : Name) (in_names : Contains names name). All-contains IsNumbered names name c.requires.numbered in_names)
    c.loop-i.above c.loop-i.newest (greatest_of c.args.greatest) c.requires.greatest (c.loop-i.invariant.passed state read told is)
    (none_left names c.loop-i.above
    (subst (ManifestsLeft names c.loop-i.above) (no_front names c.loop-i.i c.loop-i-test.false) c.loop-i.invariant.left)))
    c.without_current.result c.without_current.ensures.says
