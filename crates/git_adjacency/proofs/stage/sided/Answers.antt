use Rattle.std.proofs.Common.{◌≡◌, List, [], ◌∷◌, ◌++◌, sym, subst, arith, Some}
use Rattle.std.proofs.lemmas.List.Elements.{All-nil, All-same, All-pop}
use Rattle.std.proofs.lemmas.List.{nil_from_length}
use Rattle.git_adjacency.proofs.Nexts.{vectors_end, sided_more, sided_none, sided_all}
use Rattle.git_adjacency.specs.Making.{IsSidedTo}
use Rattle.git_adjacency.specs.Marks.{vectors, IsRay}
use Rattle.git_adjacency.specs.Sides.{IsMarkedRay}
use Rattle.git_adjacency.specs.declared.ray.Ray.{Ray}
use Rattle.git_adjacency.proofs.stage.sided.Goals as goal

pub moving-init : goal.moving-init
moving-init c =
    let R = vectors c.args.rays.items in let b = c.args.b.now in
    let P = IsMarkedRay (c.args.inequalities.now ++ b ∷ []) c.args.width in
    let s1 = subst (λ (u : List Ray). IsSidedTo b R R (vectors u) [] []) (sym c.new.ensures.items) (sided_none b R) in
    let s2 = subst (λ (u : List Ray). IsSidedTo b R R (vectors c.new.result.items) (vectors u) []) (sym c.new-2.ensures.items) s1 in
    record {
      sided = subst (λ (u : List Ray). IsSidedTo b R R (vectors c.new.result.items) (vectors c.new-2.result.items) (vectors u)) (sym c.new-3.ensures.items) s2;
      rays = c.requires.rays;
      marked = record {
        above = All-same P c.new.result.items [] c.new.ensures.items (All-nil P);
        level = All-same P c.new-2.result.items [] c.new-2.ensures.items (All-nil P);
        below = All-same P c.new-3.result.items [] c.new-3.ensures.items (All-nil P);
      };
    }

pub place-requires-clause-ray : goal.place-requires-clause-ray
place-requires-clause-ray c = (All-pop (IsRay c.args.k c.args.inequalities.now c.args.width) c.moving.left.items c.pop.new.self.items (Some c.in-Some.ray) c.in-Some.ensures.items c.moving.invariant.rays).1

pub moving-preserved : goal.moving-preserved
moving-preserved c =
    let s = c.moving.sides in let n = c.place.new.sides in
    record {
      sided = sided_more c.args.b.now c.in-Some.ray.vector (vectors c.args.rays.items) (vectors c.moving.left.items) (vectors c.pop.new.self.items)
          (vectors s.above.items) (vectors s.level.items) (vectors s.below.items) (vectors n.above.items) (vectors n.level.items) (vectors n.below.items)
          (vectors_end c.pop.new.self.items c.moving.left.items c.in-Some.ray c.in-Some.ensures.items) c.moving.invariant.sided c.in_ok-place-in-Some.ensures.placed;
      rays = (All-pop (IsRay c.args.k c.args.inequalities.now c.args.width) c.moving.left.items c.pop.new.self.items (Some c.in-Some.ray) c.in-Some.ensures.items c.moving.invariant.rays).0;
      marked = c.in_ok-place-in-Some.ensures.marked;
    }

pub returns-in-None-clause-sided : goal.returns-in-None-clause-sided
returns-in-None-clause-sided c =
    let empty : c.moving.left.items ≡ [] = nil_from_length c.moving.left.items (omega (arith, c.in-None.ensures.cases.0, c.moving.left.ok.0)) in
    let s = c.moving.sides in
    sided_all c.args.b.now (vectors c.args.rays.items) (vectors s.above.items) (vectors s.level.items) (vectors s.below.items)
    (subst (λ (u : List Ray). IsSidedTo c.args.b.now (vectors c.args.rays.items) (vectors u) (vectors s.above.items) (vectors s.level.items) (vectors s.below.items)) empty c.moving.invariant.sided)
