use Rattle.std.proofs.Common.{◌++◌, ◌∷◌, [], ◌+◌, ◌^◌, take, List, sym, ◌∙◌, ap, subst, arith}
use Rattle.std.proofs.lemmas.List.{take_more, take_all}
use Rattle.git_defs.specs.Vectors.{Vector}
use Rattle.git_ints.specs.Padded.{AreWithin}
use Rattle.git_stages.proofs.Least.{least_skip}
use Rattle.git_stages.specs.Wide.{IsLeastOf}
use Rattle.git_adjacency.proofs.Nexts.{vectors_long, vector_at}
use Rattle.git_adjacency.specs.Marks.{vectors}
use Rattle.git_dd.proofs.extending.least_large_ray.Goals.{then-not-is_small, else-not-is_small}
use Rattle.git_dd.proofs.extending.least_large_ray.Goals as goal

pub loop-r-init : goal.loop-r-init
loop-r-init c = λ v h. absurd (omega (arith, h.1))

pub loop-r-preserved : goal.loop-r-preserved
loop-r-preserved c =
    let R = c.args.rays.now in let V = vectors R in let i = c.loop-r.r-index in let r = c.r-item.result in
    let e = vector_at R i r (omega arith) c.r-item.is in
    elim c.if-not-is_small.branch [
      | then-not-is_small w ↦ subst (IsLeastOf (take (i + 1) V)) (sym w.least-is)
          (subst (λ (u : List Vector). IsLeastOf u w.lesser-least.result) (ap (λ (x : Vector). take i V ++ x ∷ []) (sym e) ∙ sym (take_more V i r.vector (omega (arith, vectors_long R))))
          (w.lesser-least.ensures (take i V) c.loop-r.invariant))
      | else-not-is_small w ↦ subst (IsLeastOf (take (i + 1) V)) (sym w.least-is)
          (least_skip [] V i r.vector c.loop-r.least (omega (arith, vectors_long R)) c.loop-r.invariant (subst (AreWithin (2 ^ 40)) (sym e) (c.is_small.ensures.0 w.if-not-is_small.false)))
    ]

pub returns : goal.returns
returns c = subst (λ (u : List Vector). IsLeastOf u c.loop-r.least) (take_all c.loop-r.r-index (vectors c.args.rays.now) (omega (arith, vectors_long c.args.rays.now, c.loop-r-test.false))) c.loop-r.invariant
