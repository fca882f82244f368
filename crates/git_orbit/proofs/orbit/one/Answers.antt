use Rattle.std.proofs.Common.{◌≡◌, ℕ, List, length, get_or, ap, subst, sym, ◌∙◌, arith, refl}
use Rattle.std.specs.Prelude.{All}
use Rattle.git_defs.specs.Vectors.{Vector}
use Rattle.git_defs.specs.Cones.{InCone, IsPointed}
use Rattle.git_defs.specs.Faces.{SameCone}
use Rattle.git_ints.specs.Content.{IsPrimitivePart}
use Rattle.git_stages.proofs.Shorts.{short_length}
use Rattle.git_stages.specs.Short.{IsShort}
use Rattle.git_stages.specs.Wide.{NeverWide}
use Rattle.git_canon.specs.Canons.{IsCanonOf, Described}
use Rattle.git_orbit.proofs.Masks.{face_few, zip_long}
use Rattle.git_orbit.proofs.Sames.{face_short, face_pointed, same_of_key, key_of_same}
use Rattle.git_orbit.proofs.Sweeps.{swept_along}
use Rattle.git_orbit.specs.Keys.{AreZipped, Selects, HasKey, IsSwept}
use Rattle.git_orbit.proofs.orbit.one.Goals as goal

pub of_generators-requires-clause-short : goal.of_generators-requires-clause-short
of_generators-requires-clause-short c =
    let m = get_or c.args.masks.now c.args.i 0 in
    subst (λ (u : List Vector). All (IsShort c.args.k) u) (sym (c.deref.ensures.value ∙ c.in-Ok.ensures)) (face_short c.args.k c.args.columns.now m c.requires.short)

pub of_generators-requires-clause-few : goal.of_generators-requires-clause-few
of_generators-requires-clause-few c =
    let m = get_or c.args.masks.now c.args.i 0 in
    let e = ap length (c.deref.ensures.value ∙ c.in-Ok.ensures) in
    let f = face_few c.args.columns.now m in
    let g = c.requires.grading.matrix.few_columns in
    omega (arith, e, f, g)

pub of_generators-requires-clause-pointed : goal.of_generators-requires-clause-pointed
of_generators-requires-clause-pointed c =
    let k = c.args.k in
    let m = get_or c.args.masks.now c.args.i 0 in
    subst (λ (u : List Vector). IsPointed k (InCone k u)) (sym (c.deref.ensures.value ∙ c.in-Ok.ensures)) (face_pointed k c.args.columns.now m (short_length k c.args.columns.now c.requires.short) c.requires.grading)

pub alongs-requires : goal.alongs-requires
alongs-requires c =
    let e = zip_long IsPrimitivePart c.args.columns.now c.args.parts.now c.requires.parts in
    let g = c.requires.grading.matrix.few_columns in
    omega (arith, e, g)

pub returns-clause-one : goal.returns-clause-one
returns-clause-one c =
    let k = c.args.k in
    let Q = c.args.columns.now in
    let W = c.args.parts.now in
    let masks = c.args.masks.now in
    let i = c.args.i in
    let m = get_or masks i 0 in
    let F = c.in-Ok-of_generators.canon.facets in
    let R = c.in-Ok-of_generators.canon.rays in
    let hits = c.in-Ok-alongs.rays.items in
    let within = c.held-within.result in
    let is = c.deref.ensures.value ∙ c.in-Ok.ensures in
    let whole = subst (λ (u : List Vector). IsCanonOf k (InCone k u) c.in-Ok-of_generators.canon) is c.in-Ok-of_generators.ensures.canon in
    let canon = whole.canon in
    let held = c.held-within.ensures in
    let along_inside = subst (λ (u : List Vector). AreZipped (λ (r : Vector). Selects (λ (w : Vector). w ≡ r) W) u hits) c.deref-in-Ok-of_generators.ensures.value c.in-Ok-alongs.ensures in
    let along = subst (λ (d : Described). AreZipped (λ (r : Vector). Selects (λ (w : Vector). w ≡ r) W) d.rays hits) c.canon.view_is along_inside in
    let swept = subst (λ (u : List ℕ). IsSwept (λ p. HasKey within u (get_or masks p 0)) i c.args.seen.now.items c.sweep-best.new.seen.items c.sweep-best.result) c.deref-in-Ok-of_generators-2.ensures.value c.sweep-best.ensures in
    let have = short_length k Q c.requires.short in
    record {
      best = c.sweep-best.result;
      swept = swept_along (λ p. HasKey within hits (get_or masks p 0)) (λ p. SameCone k Q (get_or masks p 0) m) i c.args.seen.now.items c.sweep-best.new.seen.items c.sweep-best.result
          (λ p l. let h = c.requires.within in (
            same_of_key k Q W m within hits R F have c.requires.parts canon held along (get_or masks p 0),
            key_of_same k Q W m within hits R F have c.requires.parts canon held along (get_or masks p 0) (c.requires.faces.in_range p 0 (omega (arith, l, h))),
          )) swept;
      greatest = refl;
      least = refl;
      canon = whole;
      narrow = subst (NeverWide k) is c.in-Ok-of_generators.ensures.narrow;
    }
