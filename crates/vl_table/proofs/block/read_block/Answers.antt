use Rattle.std.proofs.Common.{◌≡◌, ◌++◌, ◌∙◌, ℕ, List, ap, sym, refl, subst, arith, drop, length, take}
use Rattle.std.proofs.lemmas.List.{take_at}
use Rattle.vl_table.specs.body.Blocks.{SpellsBlock, SpellsWalked}
use Rattle.vl_table.specs.body.Starts.{AreStarts}
use Rattle.vl_table.proofs.OpenSteps.{begins}
use Rattle.std.proofs.lemmas.List.{length-take-le}
use Rattle.vl_frame.specs.declared.kinds.FrameKind.TheVariants as kinds
use Rattle.vl_table.proofs.AnswerSteps.{and_then, gives, refuses}
use Rattle.vl_table.specs.Kept.{HasFrame}
use Rattle.vl_table.specs.Tested.{body_in}
use Rattle.vl_table.proofs.ReadSteps.{front_is, has_frame, not_block, says_block, stands_at}
use Rattle.vl_table.proofs.TestedSteps.{stands_block}
use Rattle.vl_table.proofs.block.read_block.Goals as goal

pub returns-then-not-lies_inside-clause-answers : goal.returns-then-not-lies_inside-clause-answers
returns-then-not-lies_inside-clause-answers g c =
    refuses _ c.args.id.number c.args.id.place _ _ _ c.damaged.result c.damaged.ensures
    (λ bytes told. (
      λ es stands. let yes = c.lies_inside.ensures.whole bytes es told stands in let none = c.if-not-lies_inside.true in cc,
      refl,
    ))

pub returns-in-None-clause-answers : goal.returns-in-None-clause-answers
returns-in-None-clause-answers g c =
    let id = c.args.id in
    let sized : length (take c.args.id.length c.args.frame.now) ≡ c.args.id.length =
    length-take-le c.args.id.length c.args.frame.now
    (omega (arith, c.requires.frame, c.lies_inside.ensures.short c.if-not-lies_inside.false)) in
    and_then _ _ _ id.number _ _ _ _ _ (λ bytes damage. damage ≡ c.args.id.place) _ c.in_ok-was_tested.was_tested _
    (λ bytes told read x good. good)
    (λ bytes told read damage bad. (
      not_block id bytes c.read_tested.new.frame c.args.frame.now read.0 _ sized read.1 read.2 c.body_of.result.now
          (c.body_of.ensures.framed id.number id.place kinds.Block read.0
          (front_is id bytes c.read_tested.new.frame c.args.frame.now read.0 _ sized read.1 read.2))
          c.in-None.ensures.none,
      bad,
    ))
    c.in_ok-was_tested.ensures.answers
    (refuses _ id.number id.place _ _ _ c.damaged-in-None.result c.damaged-in-None.ensures (λ bytes told. refl))

pub returns-in-Some-clause-answers : goal.returns-in-Some-clause-answers
returns-in-Some-clause-answers g c =
    let id = c.args.id in
    let sized : length (take c.args.id.length c.args.frame.now) ≡ c.args.id.length =
    length-take-le c.args.id.length c.args.frame.now
    (omega (arith, c.requires.frame, c.lies_inside.ensures.short c.if-not-lies_inside.false)) in
    let found = c.in-Some.ensures.found in
    and_then _ _ _ id.number _ _ (λ bytes n. n ≡ c.in-Some.count) _ _ (λ bytes damage. ⊥) _ c.in_ok-was_tested.was_tested _
    (λ bytes told read n is.
    let same = c.body_of.ensures.framed id.number id.place kinds.Block read.0
    (front_is id bytes c.read_tested.new.frame c.args.frame.now read.0 _ sized read.1 read.2) in (
      found.0,
      subst (λ (m : ℕ). HasFrame id bytes (take id.length (c.read_tested.new.frame ++ drop id.length c.args.frame.now))
          (take m c.find_starts.new.starts) found.0) (sym is)
          (has_frame id bytes c.read_tested.new.frame c.args.frame.now read.0 _ sized read.1 read.2 c.body_of.result.now
          (take c.in-Some.count c.find_starts.new.starts) found.0 same
          (says_block id bytes c.read_tested.new.frame c.args.frame.now read.0 _ sized read.1 read.2 c.in_ok-was_tested.was_tested
          c.body_of.result.now found.0 same found.1 read.3) found.2),
    ))
    (λ bytes told read damage none. absurd none)
    c.in_ok-was_tested.ensures.answers
    (gives _ id.number _ _ _ c.in-Some.count (λ bytes told. refl))

pub returns-in-Some-clause-begin : goal.returns-in-Some-clause-begin
returns-in-Some-clause-begin g c =
    let id = c.args.id in
    let written = c.read_tested.new.frame in
    let rest = drop id.length c.args.frame.now in
    let found = c.in-Some.ensures.found in
    let sized : length written ≡ id.length =
    c.read_tested.auto.frame ∙ length-take-le id.length c.args.frame.now
    (omega (arith, c.requires.frame, c.lies_inside.ensures.short c.if-not-lies_inside.false)) in
    let says : c.body_of.result.now ≡ body_in written =
    c.body_of.ensures.cut ∙ ap body_in (take_at written rest id.length sized) in
    begins c.in_ok-was_tested.was_tested id.format written rest found.0 (take c.in-Some.count c.find_starts.new.starts)
    (subst (λ (b : List ℕ). SpellsWalked c.in_ok-was_tested.was_tested id.format b found.0) says found.1)
    (subst (λ (b : List ℕ). AreStarts id.format (drop 4 b) (take c.in-Some.count c.find_starts.new.starts) found.0) says found.2)

pub note_if_new-requires : goal.note_if_new-requires
note_if_new-requires g c = λ fresh bytes told.
    let id = c.args.id in
    let read = c.in_ok-was_tested.ensures.answers.answer bytes told in
    let found = c.in-Some.ensures.found in
    let sized : length (take c.args.id.length c.args.frame.now) ≡ c.args.id.length =
    length-take-le c.args.id.length c.args.frame.now
    (omega (arith, c.requires.frame, c.lies_inside.ensures.short c.if-not-lies_inside.false)) in
    let same = c.body_of.ensures.framed id.number id.place kinds.Block read.0
    (front_is id bytes c.read_tested.new.frame c.args.frame.now read.0 _ sized read.1 read.2) in
    stands_block id bytes read.0 found.0
    (stands_at id bytes c.read_tested.new.frame c.args.frame.now read.0 _ sized read.1 read.2)
    (subst (λ (b : List ℕ). SpellsBlock id.format b found.0) same
    (says_block id bytes c.read_tested.new.frame c.args.frame.now read.0 _ sized read.1 read.2 c.in_ok-was_tested.was_tested
    c.body_of.result.now found.0 same found.1 read.3))
