-- What holds of the rays and the facets of a full cone, and of its faces.
use Rattle.std.proofs.Common.{◌≡◌, ◌↔◌, [], ◌∷◌, Contains, List, length, ℕ}
use Rattle.git_defs.specs.Cones.{AreRays, Cut, InCone, IsPointed, SameSet}
use Rattle.git_defs.specs.Vectors.{Vector, zero_vector}
use Rattle.git_defs.proofs.Lengths.{OfLength, of_length_all}
use Rattle.git_lemmas.specs.Members.{Member}
use Rattle.git_lemmas.proofs.Members.{member_contains}
use Rattle.git_geometry.proofs.Facets.{facets_generate, facets_same}
use Rattle.git_geometry.proofs.Independence.{rank_pointed}
use Rattle.git_geometry.proofs.Minkowski.{generators_of_length}
use Rattle.git_geometry.proofs.Rays.{pointed_along, same_back}
use Rattle.git_geometry.specs.Generators.{Generates, IsCutOut}
use Rattle.git_cone_faces.specs.Faces.{AreRaysOfFace, IsFullCone}
use Rattle.git_cone_faces.specs.Filters.{AreOnFacets, on_walls, one_pass}
use Rattle.git_cone_faces.proofs.Faces.{face_lists}
use Rattle.git_cone_faces.proofs.Filters.{all_filters, lists_filters}
use Rattle.git_cone_faces.proofs.Passes.{pass_filters}

pub rays_have : (k : ℕ) (C : Vector → Type 0) (rays : List Vector) → ((x : Vector) → C x → length x ≡ k) → AreRays k C rays → OfLength k rays
rays_have k C rays entries r = record { each = λ v m. entries v ((r.each v).0 (member_contains v rays m)).edge.member }

module _ {k : ℕ} {rays facets : List Vector} (full : IsFullCone k rays facets) where
  pub full_have : OfLength k rays
  full_have = rays_have k (InCone k rays) rays (λ x h. h.entries) full.are_rays

  pub full_generates : Generates k rays facets
  full_generates = facets_generate k rays facets full_have full.rays_rank full.are_facets

  pub full_facets_have : OfLength k facets
  full_facets_have = generators_of_length k rays facets full_generates

  pub full_same : SameSet (InCone k rays) (Cut k facets)
  full_same = facets_same k rays facets full_have full.rays_rank full.are_facets

  pub full_cut_out : IsCutOut k (InCone k rays)
  full_cut_out = record { inequalities = facets; entries = of_length_all k facets full_facets_have; same = full_same }

  pub full_pointed : IsPointed k (InCone k rays)
  full_pointed = pointed_along k (Cut k facets) (InCone k rays) (same_back (InCone k rays) (Cut k facets) full_same)
      (rank_pointed k facets full_facets_have full.facets_rank)

  pub full_nonzero : (x : Vector) → Member x rays → x ≡ zero_vector k → ⊥
  full_nonzero x m = ((full.are_rays.each x).0 (member_contains x rays m)).edge.nonzero

  pub full_filters : on_walls facets rays ≡ []
  full_filters = all_filters k rays facets full_have full_nonzero full_facets_have full.facets_rank

  -- its faces are what some of its facets leave of the rays
  pub full_faces : (list : List Vector) → AreRaysOfFace k (InCone k rays) list ↔ AreOnFacets facets rays list
  full_faces list =
      let a = face_lists k (InCone k rays) rays list (λ x h. h.entries) full.are_rays in
      let b = lists_filters k rays facets list full_have full_generates in
      (λ f. b.0 (a.0 f), λ f. a.1 (b.1 f))

  -- and what one pass through the facets finds
  pub full_pass : (list : List Vector) → Contains (one_pass facets (rays ∷ [])) list ↔ AreRaysOfFace k (InCone k rays) list
  full_pass list =
      let a = pass_filters facets rays list in
      let b = full_faces list in
      (λ c. b.1 (a.0 c), λ f. a.1 (b.0 f))
