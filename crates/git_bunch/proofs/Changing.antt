-- What changes at the facets of a chamber, one facet after the other, and that chambers that are named are those behind.
use Rattle.std.proofs.Common.{◌≡◌, ◌∙◌, ◌+◌, ◌<◌, ◌∷◌, [], ◌++◌, Bool, List, ap, append_assoc, arith, drop, get_or, inl, inr, length, map, refl, subst, sym, ℕ}
use Rattle.std.proofs.lemmas.List.{drop_more, get_or-map, length-map, map-append}
use Rattle.std.specs.Prelude.{All}
use Rattle.git_stages.specs.Short.{IsShort}
use Rattle.git_defs.specs.Vectors.{Vector}
use Rattle.git_machine.specs.Signatures.{Signature}
use Rattle.git_orbit.specs.Orbits.{Fan}
use Rattle.git_listing.specs.Listings.{Facet}
use Rattle.git_listing.specs.Views.{facet_of, side_of}
use Rattle.git_listing.specs.declared.listing.ListedFacet.{ListedFacet}
use Rattle.git_listing.specs.declared.listing.ListedSide.TheVariants as sides
use Rattle.git_bunch.specs.declared.groups.Group.{Group}
use Rattle.git_bunch.specs.declared.values.Step.{Step}
use Rattle.git_bunch.specs.Bunches.{StepValue}
use Rattle.git_bunch.specs.Changes.{AreChanges, IsChangeTo}
use Rattle.git_bunch.specs.Views.{step_of}

-- ---- one facet more
module _ (fan : Fan) (groups : List Group) (s : Signature) (rays : List Vector) (fs : List ListedFacet) (i : ℕ) (f : ListedFacet) (low : i < length fs) (at : f ≡ get_or fs i f) where
  from_here : map facet_of (drop i fs) ≡ facet_of f ∷ map facet_of (drop (i + 1) fs)
  from_here = ap (map facet_of) (drop_more fs i f low) ∙ ap (λ (g : ListedFacet). facet_of g ∷ map facet_of (drop (i + 1) fs)) (sym at)

  pub no_change : (steps : List Step) (rest : List StepValue) → f.side ≡ sides.Boundary → AreChanges fan groups s rays (map facet_of (drop (i + 1) fs)) rest
      → ((more : List StepValue) → AreChanges fan groups s rays (map facet_of (drop i fs)) more → AreChanges fan groups s rays (map facet_of fs) (map step_of steps ++ more))
      → AreChanges fan groups s rays (map facet_of fs) (map step_of steps ++ rest)
  no_change steps rest side later so_far =
      let here : AreChanges fan groups s rays (facet_of f ∷ map facet_of (drop (i + 1) fs)) rest = inl (ap side_of side, later) in
      so_far rest (subst (λ (l : List Facet). AreChanges fan groups s rays l rest) (sym from_here) here)

  pub one_change : (steps : List Step) (step : Step) (rest : List StepValue) (to : ℕ) (matched : Bool) → f.side ≡ sides.Inner to matched → IsChangeTo fan groups s rays f.normal to (step_of step)
      → AreChanges fan groups s rays (map facet_of (drop (i + 1) fs)) rest
      → ((more : List StepValue) → AreChanges fan groups s rays (map facet_of (drop i fs)) more → AreChanges fan groups s rays (map facet_of fs) (map step_of steps ++ more))
      → AreChanges fan groups s rays (map facet_of fs) (map step_of (steps ++ step ∷ []) ++ rest)
  one_change steps step rest to matched side change later so_far =
      let here : AreChanges fan groups s rays (facet_of f ∷ map facet_of (drop (i + 1) fs)) (step_of step ∷ rest) = inr (to, matched, step_of step, rest, ap side_of side, refl, change, later) in
      let joined : map step_of (steps ++ step ∷ []) ++ rest ≡ map step_of steps ++ step_of step ∷ rest = ap (λ (l : List StepValue). l ++ rest) (map-append step_of steps (step ∷ [])) ∙ append_assoc (map step_of steps) (step_of step ∷ []) rest in
      subst (AreChanges fan groups s rays (map facet_of fs)) (sym joined) (so_far (step_of step ∷ rest) (subst (λ (l : List Facet). AreChanges fan groups s rays l (step_of step ∷ rest)) (sym from_here) here))

-- ---- the normal of a facet
pub normal_short : (k : ℕ) (fs : List ListedFacet) (i : ℕ) (f : ListedFacet) → i < length fs → f ≡ get_or fs i f → All (IsShort k) (map (λ (g : Facet). g.normal) (map facet_of fs)) → IsShort k f.normal
normal_short k fs i f low at all =
    let normal = λ (g : Facet). g.normal in
    let a = length-map fs facet_of in
    let b = length-map (map facet_of fs) normal in
    let inner_low : i < length (map facet_of fs) = omega (arith, low, a) in
    let outer_low : i < length (map normal (map facet_of fs)) = omega (arith, inner_low, b) in
    let is = get_or-map normal (map facet_of fs) i (facet_of f) [] inner_low ∙ ap normal (get_or-map facet_of fs i f (facet_of f) low) ∙ ap (λ (g : ListedFacet). g.normal) (sym at) in
    subst (IsShort k) is (all i [] outer_low)
