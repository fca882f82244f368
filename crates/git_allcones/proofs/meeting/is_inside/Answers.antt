use Rattle.std.proofs.Common.{List, sym, ◌∙◌, subst, arith, inl, inr, refl}
use Rattle.std.specs.Prelude.{pos, ◌≤ℤ◌}
use Rattle.std.proofs.lemmas.List.{take_all}
use Rattle.git_defs.specs.Vectors.{Vector, dot}
use Rattle.git_lemmas.specs.Members.{Member}
use Rattle.git_geometry.proofs.Cuts.{cut_of, side_at}
use Rattle.git_stages.proofs.Fronts.{member_more, member_at}
use Rattle.git_allcones.proofs.meeting.is_inside.Goals as goal

pub loop-n-init : goal.loop-n-init
loop-n-init c = λ n m. absurd m

pub loop-n-preserved : goal.loop-n-preserved
loop-n-preserved c = λ n m. elim (member_more c.args.facets.now c.loop-n.n-index c.n-item.result n (omega arith) m) [
  | inl l ↦ c.loop-n.invariant n l
  | inr e ↦ subst (λ (u : Vector). pos 0 ≤ℤ dot u c.args.x.now) (c.n-item.is ∙ e) (c.is_beside.ensures.0 c.if-not-is_beside.false)
]

pub returns-then-not-is_beside : goal.returns-then-not-is_beside
returns-then-not-is_beside c = (λ f. absurd (cc f), λ f. sym c.if-not-is_beside.true ∙ c.is_beside.ensures.1 (side_at f c.n-item.result (subst (λ (u : Vector). Member u c.args.facets.now) (sym c.n-item.is) (member_at c.args.facets.now c.loop-n.n-index c.n-item.result (omega arith)))))

pub returns : goal.returns
returns c = (λ f. cut_of c.requires.x.entries (subst (λ (u : List Vector). (n : Vector) → Member n u → pos 0 ≤ℤ dot n c.args.x.now) (take_all c.loop-n.n-index c.args.facets.now c.loop-n-test.false) c.loop-n.invariant), λ f. refl)
