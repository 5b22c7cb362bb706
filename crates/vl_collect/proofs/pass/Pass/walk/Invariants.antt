use Rattle.std.proofs.Common.{◌≡◌, ◌<◌, ◌≤◌, ℕ, ◌-◌, ◌^◌, []}
use Rattle.std.specs.List.{All}
use Rattle.vl_collect.specs.Batches.{IsLawful, Rise, found_place}
use Rattle.std.specs.Option.{ForSome}
use Rattle.vl_collect.proofs.Walking.{Walked}
use Rattle.vl_collect.proofs.pass.Pass.walk.Given as goal
use Rattle.vl_collect.specs.Faults.{NoneRose, counted}
use Rattle.vl_collect.specs.Passing.{EndAt, FramesTo, IsPass, IsRead}
use Rattle.vl_collect.specs.Taking.{candidate_of}
use Rattle.vl_engine_model.specs.Relocation as layout

abbrev pub invariant-loop-at : goal.invariant-loop-at
invariant-loop-at g l = record {
  walked : (p : layout.Pass) → g.V.Sources.fits l.self.base l.initial.looks → IsPass g.H.HeldFile.bytes g.V.Sources.has l.self p
      → Walked g.H.HeldFile.bytes l.self.log p l.initial.batch.items l.batch.items l.at;
  ends : ForSome (g.H.HeldFile.bytes l.self.log.held) (λ told. (end : ℕ)
      → EndAt l.self.log.format l.self.log.number told l.self.at.place end → EndAt l.self.log.format l.self.log.number told l.at.place end);
  leads : ForSome (g.H.HeldFile.bytes l.self.log.held) (λ told. (to : ℕ)
      → FramesTo l.self.log.format l.self.log.number told l.at.place to → FramesTo l.self.log.format l.self.log.number told l.self.at.place to);
  read : ForSome (g.H.HeldFile.bytes l.self.log.held) (λ told.
      All (λ x. IsRead l.self.log.format l.self.log.number told l.self.at.place (candidate_of x)) l.initial.batch.items
      → All (λ x. IsRead l.self.log.format l.self.log.number told l.self.at.place (candidate_of x)) l.batch.items);
  rises : l.initial.batch.items ≡ [] → (n : ℕ) × Rise found_place 0 l.batch.items n × (l.at.place ≤ n)
      × (l.at.place < 2 ^ 64 - 1 → n ≡ l.at.place);
  lawful : l.initial.batch.items ≡ [] → All IsLawful l.batch.items;
  fits : g.V.Sources.fits l.self.base l.initial.looks → g.V.Sources.fits l.self.base l.looks;
  steady : NoneRose (counted (g.V.Sources.faults l.initial.looks) (g.V.Sources.faults l.looks)
      (g.R.Reader.faults l.initial.files) (g.R.Reader.faults l.files));
}

abbrev pub decreases-loop-at : goal.decreases-loop-at
decreases-loop-at g l = 2 ^ 64 - l.at.place
