-- The list of edges after one inequality more.
use Rattle.std.proofs.Common.{◌∙◌, ◌∷◌, ◌↔◌, ◌*◌, List, ap, arith, inl, inr, refl, subst, sym, ℕ}
use Rattle.std.proofs.Math.IntN.{pos, pos-*ℤ-pos, ℤ}
use Rattle.std.proofs.lemmas.Int.{ints}
use Rattle.std.specs.Prelude.{◌<ℤ◌, ◌≤ℤ◌}
use borrow.Author.Differences.{up}
use Rattle.git_defs.specs.Cones.{IsClosed, Cut, InCone, IsEdge, IsExtreme, IsPointed, OnRay, SameSet}
use Rattle.git_defs.proofs.Closed.{cone_closed, cone_has}
use Rattle.git_lemmas.specs.Members.{Member}
use Rattle.git_defs.proofs.Lengths.{OfLength}
use Rattle.git_defs.proofs.Sums.{scale-one, scale-scale, scale-zero}
use Rattle.git_defs.specs.Vectors.{Vector, dot, scale}
use Rattle.git_geometry.proofs.Blends.{blend_cut, blend_some, one_more}
use Rattle.git_geometry.proofs.Cuts.{cut_closed, cut_more, cut_with, side_at}
use Rattle.git_geometry.proofs.Edges.{edges_generate}
use Rattle.git_geometry.proofs.Neighbours.{adjacent_edge, edge_near}
use Rattle.git_geometry.proofs.Rays.{Touches, edge_along, edge_on_ray, on_ray_back, primitive_of_ray, same_back, some_times, touches_closed, touches_end, touches_member}
use Rattle.git_geometry.specs.Generators.{Generates, RayOf}
use Rattle.git_geometry.specs.Stages.{Exact, IsBlended, IsNext, blend}
use Rattle.git_geometry.specs.Zeros.{Adjacent}
use Rattle.git_lemmas.proofs.Members.{as_member, contained}
use Rattle.git_geometry.proofs.Contained.{edge_at, primitive_at}

pub exact_of_length : (k : ℕ) (A R : List Vector) → Exact k A R → OfLength k R
exact_of_length k A R exact = record { each = λ r m. (edge_at exact r m).member.entries }

module _ (k : ℕ) (A : List Vector) (pointed : IsPointed k (Cut k A)) (R : List Vector) (exact : Exact k A R) where
  -- a closed set with all of R has the cone
  pub exact_generates : (D : Vector → Type 0) → IsClosed k D → ((r : Vector) → Member r R → D r) → (x : Vector) → Cut k A x → D x
  exact_generates D closed has x c = edges_generate k A pointed D closed along x c where
    along : (x : Vector) → IsEdge k (Cut k A) x → D x
    along x e =
        let r = exact.complete x e in let p = r.on.positive in
        closed.quotients (pos r.on.multiple) x (omega (arith, ints))
        (subst D (sym r.on.same) (closed.multiples (pos r.on.times) r.one (omega (arith, ints)) (has r.one (as_member R r.member))))

  have : OfLength k R
  have = exact_of_length k A R exact

  pub exact_generators : Generates k A R
  exact_generators = record {
    inside = λ r m. (exact.edges r m).member;
    all = exact_generates (InCone k R) (cone_closed k R have) (λ r m. cone_has k R r have m);
  }

  module _ (b : Vector) (S : List Vector) (next : IsNext A R b S) where
    edge_more : (x : Vector) → IsEdge k (Cut k A) x → pos 0 ≤ℤ dot b x → IsEdge k (Cut k (b ∷ A)) x
    edge_more x e up = record {
      member = cut_with b up e.member;
      nonzero = e.nonzero;
      alone = λ y z t cy cz. e.alone y z t (cut_more k A b y cy) (cut_more k A b z cz);
    }

    edge_made : (x : Vector) → IsBlended A R b x → IsEdge k (Cut k (b ∷ A)) x
    edge_made x m =
        let er = exact.edges m.over m.over_in in let es = exact.edges m.under m.under_in in
        let edge = adjacent_edge k A R exact_generators pointed b m.over m.under er.member es.member er.nonzero m.above m.below m.adjacent in
        let closed = cut_closed k (b ∷ A) in let p = m.positive in
        let o : OnRay x (blend b m.over m.under) = record {
          multiple = m.times;
          times = 1;
          positive = p;
          same = m.is ∙ sym (scale-one (blend b m.over m.under));
        } in
        let cx = closed.quotients (pos m.times) x (omega (arith, ints)) (subst (Cut k (b ∷ A)) (sym m.is) edge.member) in
        edge_on_ray k (Cut k (b ∷ A)) closed (blend b m.over m.under) x edge cx
        (λ z. edge.nonzero (sym m.is ∙ ap (scale (pos m.times)) z ∙ scale-zero (pos m.times) k)) o (omega arith)

    found : (x : Vector) → IsEdge k (Cut k (b ∷ A)) x → RayOf S x
    found x edge = touches_end k (Cut k (b ∷ A)) x (RayOf S x) closed edge
        (one_more k (Touches k (Cut k (b ∷ A)) x (RayOf S x)) (touches_closed k (Cut k (b ∷ A)) x (RayOf S x) closed) b R have kept made x
        (exact_generators.all x (cut_more k A b x edge.member)) (side_at edge.member b (inl refl))) where
          closed : IsClosed k (Cut k (b ∷ A))
          closed = cut_closed k (b ∷ A)

          kept : (r : Vector) → Member r R → pos 0 ≤ℤ dot b r → Touches k (Cut k (b ∷ A)) x (RayOf S x) r
          kept r m up =
              let e = edge_more r (edge_at exact r m) up in
              touches_member k (Cut k (b ∷ A)) x r (RayOf S x) closed edge e.member
              (λ o. record { one = r; member = next.kept r (contained R m) up; on = on_ray_back x r o (some_times k x r edge.member.entries e.nonzero o) })

          made : (r s : Vector) → Member r R → Member s R → pos 0 <ℤ dot b r → dot b s <ℤ pos 0
              → Touches k (Cut k (b ∷ A)) x (RayOf S x) (blend b r s)
          made r s m n above below =
              let er = edge_at exact r m in let es = edge_at exact s n in
              let inside = blend_cut k A b r s er.member es.member above below in
              let some = blend_some k A b r s er.member es.member above below pointed er.nonzero in
              touches_member k (Cut k (b ∷ A)) x (blend b r s) (RayOf S x) closed edge inside
              (λ o.
              let p = some_times k x (blend b r s) edge.member.entries some o in
              let eb = edge_on_ray k (Cut k (b ∷ A)) closed x (blend b r s) edge inside some o p in
              let adjacent : Adjacent A R r s = record {
                only = λ t l f. edge_near k A pointed b r s er es above below eb t (exact.edges t l) f
                    (primitive_at exact r m) (primitive_at exact s n) (exact.primitive t l);
              } in
              let w = next.made r s (contained R m) (contained R n) above below adjacent in
              record {
                one = w.vector;
                member = w.member;
                on = record {
                  multiple = o.times;
                  times = o.multiple * w.times;
                  positive = p;
                  same = sym o.same ∙ ap (scale (pos o.multiple)) (sym w.is) ∙ scale-scale (pos o.multiple) (pos w.times) w.vector
                      ∙ ap (λ (z : ℤ). scale z w.vector) (pos-*ℤ-pos o.multiple w.times);
                };
              })

    -- one stage of double description is right
    pub next_exact : Exact k (b ∷ A) S
    next_exact = record {
      edges = λ x m. elim (next.from x m) [ inl o ↦ edge_more x (exact.edges x o.0) o.1 | inr o ↦ edge_made x o ];
      primitive = λ x m. elim (next.from x m) [ inl o ↦ exact.primitive x o.0 | inr o ↦ o.primitive ];
      complete = found;
    }

-- ---- the list of extreme vectors
pub exact_each : (k : ℕ) (A R : List Vector) → Exact k A R → (x : Vector) → Member x R ↔ IsExtreme k (Cut k A) x
exact_each k A R exact x = (
  λ m. record { edge = edge_at exact x m; primitive = primitive_at exact x m },
  λ h.
      let r = exact.complete x h.edge in
      let er = exact.edges r.one r.member in
      subst (λ (u : Vector). Member u R) (sym
      (primitive_of_ray k r.one x er.member.entries h.edge.nonzero
      (exact.primitive r.one r.member) h.primitive r.on)) (as_member R r.member),
)

-- a list is exact for all inequalities that cut out the same
pub exact_along : (k : ℕ) (A B R : List Vector) → SameSet (Cut k A) (Cut k B) → Exact k A R → Exact k B R
exact_along k A B R same exact = record {
  edges = λ x m. edge_along k (Cut k A) (Cut k B) x same (exact.edges x m);
  primitive = exact.primitive;
  complete = λ x e. exact.complete x (edge_along k (Cut k B) (Cut k A) x (same_back (Cut k A) (Cut k B) same) e);
}
