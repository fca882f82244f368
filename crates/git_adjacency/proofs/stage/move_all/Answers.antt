use Rattle.std.proofs.Common.{◌≡◌, List, [], subst, arith, inl, inr}
use Rattle.std.specs.Prelude.{Contains}
use Rattle.git_adjacency.specs.declared.ray.Ray.{Ray}
use Rattle.std.proofs.lemmas.List.{nil_from_length}
use Rattle.git_adjacency.proofs.Blending.{moved_more, iff_through}
use Rattle.git_adjacency.proofs.stage.move_all.Goals as goal

pub moving-init : goal.moving-init
moving-init c = λ x. (λ h. h, λ h. h)

pub moving-preserved : goal.moving-preserved
moving-preserved c = λ x. iff_through (moved_more c.moving.left.items c.pop.new.self.items c.moving.out.items c.add.new.out.items c.in-Some.ray c.in-Some.ensures.items c.in_ok-add-in-Some.ensures x) (c.moving.invariant x)

pub returns-in-None : goal.returns-in-None
returns-in-None c =
    let empty : c.moving.left.items ≡ [] = nil_from_length c.moving.left.items (omega (arith, c.in-None.ensures.cases.0, c.moving.left.ok.0)) in
    record {
      each = λ x. (
        λ h. (c.moving.invariant x).0 (inl h),
        λ h. elim ((c.moving.invariant x).1 h) [ inl o ↦ o | inr o ↦ absurd (let m = subst (λ (u : List Ray). Contains u x) empty o in omega (arith, m.1)) ],
      );
    }
