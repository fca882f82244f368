-- The steps of a chamber, one after the other.
use Rattle.std.proofs.Common.{◌≡◌, ℕ, ◌+◌, List, Option, Ok, Err, refl}
use Rattle.std.specs.Prelude.{codes}
use Rattle.git_defs.specs.Vectors.{Vector}
use Rattle.git_lines.specs.declared.fault.FormFault.{FormFault}
use Rattle.git_lines.specs.Lines.{RestOfText}
use Rattle.git_strictlines.specs.declared.fault.ReadFault.{ReadFault}
use Rattle.git_strictlines.specs.declared.fault.ReadFault.TheVariants.{Form, NoMemory}
use Rattle.git_strictlines.specs.Faults.{Fails}
use Rattle.git_strictlines.specs.Reading.{next_by, number_line, some_at}
use Rattle.git_listing.specs.declared.limits.TheConstants.{LISTED}
use Rattle.git_listing.specs.Listings.{Facet}
use Rattle.git_listing.specs.ListingReading.{ray_line, weight_line, facet_line, mark_at, chamber_at}

-- what comes first in a chamber
pub record Begun (k p : ℕ) (t0 t1 t2 : RestOfText) (rays : List Vector) : Type 0 where
  pub number : ℕ
  pub numbered : next_by (number_line (codes "chamber") p p) t0 ≡ Ok (number, t1)
  pub has_rays : some_at (codes "ray") LISTED (ray_line k) t1 ≡ Ok (rays, t2)

pub no_weight : (version k p : ℕ) (t0 t1 t2 : RestOfText) (rays : List Vector) (f : FormFault) → Begun k p t0 t1 t2 rays → next_by (weight_line k) t2 ≡ Err f → chamber_at version k (record { number = p; text = t0 }) ≡ Err f
unfolding chamber_at
no_weight version k p t0 t1 t2 rays f b e = rw (b.numbered, b.has_rays, e) refl

pub no_mark : (version k p : ℕ) (t0 t1 t2 t3 : RestOfText) (rays : List Vector) (weight : Vector) (f : FormFault) → Begun k p t0 t1 t2 rays → next_by (weight_line k) t2 ≡ Ok (weight, t3)
    → mark_at version t3 ≡ Err f → chamber_at version k (record { number = p; text = t0 }) ≡ Err f
unfolding chamber_at
no_mark version k p t0 t1 t2 t3 rays weight f b w e = rw (b.numbered, b.has_rays, w, e) refl

pub no_facets : (version k p : ℕ) (t0 t1 t2 t3 t4 : RestOfText) (rays : List Vector) (weight : Vector) (mark : Option ℕ) (e : ReadFault) → Begun k p t0 t1 t2 rays → next_by (weight_line k) t2 ≡ Ok (weight, t3)
    → mark_at version t3 ≡ Ok (mark, t4) → Fails e (some_at (codes "facet") LISTED (facet_line version k) t4) → Fails e (chamber_at version k (record { number = p; text = t0 }))
unfolding chamber_at
no_facets version k p t0 t1 t2 t3 t4 rays weight mark NoMemory b w m h = tt
no_facets version k p t0 t1 t2 t3 t4 rays weight mark (Form f) b w m h = rw (b.numbered, b.has_rays, w, m, h) refl

pub chamber_is : (version k p : ℕ) (t0 t1 t2 t3 t4 t5 : RestOfText) (rays : List Vector) (weight : Vector) (mark : Option ℕ) (facets : List Facet) → Begun k p t0 t1 t2 rays → next_by (weight_line k) t2 ≡ Ok (weight, t3)
    → mark_at version t3 ≡ Ok (mark, t4) → some_at (codes "facet") LISTED (facet_line version k) t4 ≡ Ok (facets, t5)
    → chamber_at version k (record { number = p; text = t0 }) ≡ Ok (record { rays = rays; weight = weight; crossed = mark; facets = facets }, record { number = p + 1; text = t5 })
unfolding chamber_at
chamber_is version k p t0 t1 t2 t3 t4 t5 rays weight mark facets b w m f = rw (b.numbered, b.has_rays, w, m, f) refl
