use Rattle.std.proofs.Common.{◌≡◌, [], List, sym, ◌∙◌, subst, arith, inl, inr, refl}
use Rattle.std.proofs.lemmas.List.{take_all}
use Rattle.git_defs.specs.Vectors.{Vector}
use Rattle.git_geometry.specs.Zeros.{Dominates}
use Rattle.git_adjacency.proofs.Nexts.{vector_at, vectors_long}
use Rattle.git_adjacency.specs.Marks.{vectors}
use Rattle.git_canon.proofs.dropping.is_alone.Goals as goal
use Rattle.std.proofs.lemmas.List.Elements.{Contains-get_or}
use Rattle.git_stages.proofs.Fronts.{contains_more}
use Rattle.git_lemmas.proofs.Members.{as_member}
use Rattle.std.specs.Prelude.{Contains}

pub loop-s-init : goal.loop-s-init
loop-s-init c = λ s m d. absurd (as_member [] m)

pub loop-s-preserved : goal.loop-s-preserved
loop-s-preserved c =
    let A = c.args.inequalities.now in let V = vectors c.args.given.now in let i = c.loop-s.s-index in let t = c.s-item.result in let r = c.args.r.now.vector in
    let at = vector_at c.args.given.now i t (omega arith) c.s-item.is in
    let apart = c.stands_apart.ensures.0 c.if-not-stands_apart.false in
    λ s m d. elim (contains_more V i t.vector s (omega (arith, vectors_long c.args.given.now)) m) [
      | inl l ↦ c.loop-s.invariant s l d
      | inr e ↦ subst (λ (u : Vector). Dominates A u r → u ≡ r) (sym at ∙ e) apart d
    ]

pub returns-then-not-stands_apart : goal.returns-then-not-stands_apart
returns-then-not-stands_apart c =
    let V = vectors c.args.given.now in let i = c.loop-s.s-index in let t = c.s-item.result in
    let at = vector_at c.args.given.now i t (omega arith) c.s-item.is in
    (λ f. absurd (cc f), λ f. sym c.if-not-stands_apart.true ∙ c.stands_apart.ensures.1 (f t.vector (subst (Contains V) at (Contains-get_or V i t.vector (omega (arith, vectors_long c.args.given.now))))))

pub returns : goal.returns
returns c =
    let V = vectors c.args.given.now in let r = c.args.r.now.vector in
    (λ f. subst (λ (u : List Vector). (s : Vector) → Contains u s → Dominates c.args.inequalities.now s r → s ≡ r) (take_all c.loop-s.s-index V (omega (arith, vectors_long c.args.given.now, c.loop-s-test.false))) c.loop-s.invariant, λ f. refl)
