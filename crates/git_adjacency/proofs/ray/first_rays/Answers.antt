use Rattle.std.proofs.Common.{[], ◌∷◌, ◌++◌, sym, ◌∙◌, subst, arith}
use Rattle.std.proofs.lemmas.List.{take_more}
use Rattle.std.proofs.lemmas.List.Elements.{All-push, All-same}
use Rattle.git_stages.specs.Short.{IsShort}
use Rattle.git_adjacency.proofs.Nexts.{vectors_end}
use Rattle.git_adjacency.specs.Marks.{IsRay}
use Rattle.git_adjacency.specs.declared.ray.Ray.{Ray}
use Rattle.git_adjacency.proofs.ray.first_rays.Goals as goal

pub loop-x-preserved : goal.loop-x-preserved
loop-x-preserved c =
    let L = c.args.list.now in let i = c.loop-x.x-index in let x = c.x-item.result in
    let ray : Ray = record { vector = x; zeros = c.in_ok-zeros.zeros } in
    let P = IsRay c.args.k c.args.base.now c.args.width in
    let short : IsShort c.args.k x = subst (IsShort c.args.k) (sym c.x-item.is) (c.requires.list i x (omega arith)) in
    record {
      same = vectors_end c.loop-x.out.items c.add.new.out.items ray c.in_ok-add.ensures
          ∙ (λ j. c.loop-x.invariant.same j ++ c.x-item.is j ∷ []) ∙ sym (take_more L i x (omega arith));
      rays = All-same P c.add.new.out.items (c.loop-x.out.items ++ ray ∷ []) c.in_ok-add.ensures (All-push P c.loop-x.out.items ray c.loop-x.invariant.rays (record { short = short; marked = c.in_ok-zeros.ensures }));
    }
