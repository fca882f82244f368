use Rattle.std.proofs.Common.{◌∷◌, [], refl, subst, sym}
use Rattle.git_defs.specs.Vectors.{vector_sum}
use Rattle.git_cone_faces.specs.Faces.{on_wall}
use Rattle.git_orbit.specs.Orbits.{Fan}
use Rattle.git_orbit.specs.Signatures.{IsSignature}
use Rattle.git_chamber.specs.Chambers.{crossing}
use Rattle.git_bunch.proofs.Gathers.{lost_falling}
use Rattle.git_bunch.proofs.bunching.change.Goals as goal

pub returns : goal.returns
returns c =
    let s = c.args.set.now in
    let other = c.in_ok-other.other in
    let middle = c.in_ok-middle.middle in
    record {
      number = refl;
      change = λ F same is are. record {
        normal = refl;
        other = other;
        leads = subst (λ (f : Fan). IsSignature f (crossing f.k c.args.rays.now c.args.normal.now) other) (sym same) c.in_ok-other.ensures;
        middle = middle;
        at_wall = subst (λ (f : Fan). IsSignature f (vector_sum f.k (on_wall c.args.normal.now c.args.rays.now) ∷ []) middle) (sym same) c.in_ok-middle.ensures;
        lost = lost_falling F s other c.in_ok-lost.lost.items (c.in_ok-lost.ensures F is are);
        gained = lost_falling F other s c.in_ok-gained.gained.items (c.in_ok-gained.ensures F is are);
        wall = c.in_ok-wall.ensures F is are;
      };
    }
