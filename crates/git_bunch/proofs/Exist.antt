-- The chambers of a listing have bunches.
use Rattle.std.proofs.Common.{◌≡◌, ◌<◌, ◌∷◌, [], Bool, List, inl, inr, refl, subst, sym, ℕ}
use Rattle.std.specs.List.{AllZip}
use Rattle.std.specs.Prelude.{AllPairs, Contains}
use Rattle.git_defs.proofs.Lengths.{OfLength, all_of_length, more_of_length, none_of_length, of_length_all}
use Rattle.git_defs.specs.Vectors.{Vector, vector_sum}
use Rattle.git_cone_faces.proofs.Walls.{on_wall_of_length}
use Rattle.git_cone_faces.specs.Faces.{on_wall}
use Rattle.git_geometry.proofs.Inside.{length-vector_sum}
use Rattle.git_grading.specs.Gradings.{IsGrading}
use Rattle.git_lemmas.proofs.Members.{all_member, contains_member, member_contains}
use Rattle.git_lemmas.proofs.Sorting.{Ascends, ascends_of_pairs, pairs_of_ascends}
use Rattle.git_lemmas.specs.Members.{Member}
use Rattle.git_machine.specs.Signatures.{Signature}
use Rattle.git_orbit.proofs.Existence.{a_holding, a_signature}
use Rattle.git_orbit.proofs.Settled.{Decided}
use Rattle.git_listing.specs.Listings.{Chamber, Facet, Side, boundary, inner}
use Rattle.git_asked.proofs.Places.{all_at}
use Rattle.git_asked.specs.Asked.{KindFits, LeadsTo}
use Rattle.git_bunch.specs.Bunches.{AreBunches, AreCrossed, AreSteps, BunchValue, IsBunch, IsCrossedListing, IsSizedChamber, IsStep, StepValue}
use Rattle.git_bunch.specs.Stable.{AreDescending, Family, IsFamily, Lost, Minimal, Wall}
use Rattle.git_bunch.proofs.Minimals.{minimal_decided}
use Rattle.git_bunch.proofs.Numbered.{stable_decided}

-- ---- the falling list of those of a falling list of which P holds
module _ (P : ℕ → Type 0) (decide : (m : ℕ) → Decided (P m)) where
  record Kept (xs us : List ℕ) : Type 0 where
    falls : Ascends (λ (m n : ℕ). n < m) us
    to : (m : ℕ) → Member m us → Member m xs × P m
    back : (m : ℕ) → Member m xs → P m → Member m us

  kept : (xs : List ℕ) → Ascends (λ (m n : ℕ). n < m) xs → (us : List ℕ) × Kept xs us
  kept [] falls = ([], record { falls = tt; to = λ m o. absurd o; back = λ m o. absurd o })
  kept (x ∷ xs) falls =
      let rest = kept xs falls.1 in
      elim (decide x) [
        | inl is ↦ (
          x ∷ rest.0,
          record {
            falls = ((λ n o. falls.0 n (rest.1.to n o).0), rest.1.falls);
            to = λ m o. elim o [ inl e ↦ (inl e, subst P e is) | inr o ↦ (let t = rest.1.to m o in (inr t.0, t.1)) ];
            back = λ m o p. elim o [ inl e ↦ inl e | inr o ↦ inr (rest.1.back m o p) ];
          },
        )
        | inr out ↦ (
          rest.0,
          record {
            falls = rest.1.falls;
            to = λ m o. (let t = rest.1.to m o in (inr t.0, t.1));
            back = λ m o p. elim o [ inl e ↦ absurd (out (subst P (sym e) p)) | inr o ↦ rest.1.back m o p ];
          },
        )
      ]

  pub falling_within : (xs : List ℕ) → AllPairs (λ (m n : ℕ). n < m) xs → ((m : ℕ) → P m → Contains xs m) → (list : List ℕ) × AreDescending P list
  falling_within xs falls within =
      let k = kept xs (ascends_of_pairs (λ (m n : ℕ). n < m) xs falls) in (
        k.0,
        record {
          descending = pairs_of_ascends (λ (m n : ℕ). n < m) k.0 k.1.falls;
          each = λ m. (λ c. (k.1.to m (contains_member m k.0 c)).1, λ p. member_contains m k.0 (k.1.back m (contains_member m xs (within m p)) p));
        },
      )

module _ (F : Family) (g : IsGrading F.fan.k F.columns) (is : IsFamily F) where
  lost_decided : (s t : Signature) (m : ℕ) → Decided (Lost F s t m)
  lost_decided s t m = elim (stable_decided F g is s m) [
    | inr out ↦ inr (λ l. out l.before)
    | inl before ↦ elim (stable_decided F g is t m) [ inl after ↦ inr (λ l. l.after after) | inr after ↦ inl (record { before = before; after = after }) ]
  ]

  wall_decided : (s t middle : Signature) (m : ℕ) → Decided (Wall F s t middle m)
  wall_decided s t middle m = elim (stable_decided F g is middle m) [
    | inr out ↦ inr (λ w. out w.on)
    | inl on ↦ elim (stable_decided F g is s m) [
      | inl before ↦ inr (λ w. w.before before)
      | inr before ↦ elim (stable_decided F g is t m) [ inl after ↦ inr (λ w. w.after after) | inr after ↦ inl (record { on = on; before = before; after = after }) ]
    ]
  ]

  lost_list : (s t : Signature) → (list : List ℕ) × AreDescending (Lost F s t) list
  lost_list s t = falling_within (Lost F s t) (lost_decided s t) F.free is.faces.descending (λ m l. l.before.free)

  wall_list : (s t middle : Signature) → (list : List ℕ) × AreDescending (Wall F s t middle) list
  wall_list s t middle = falling_within (Wall F s t middle) (wall_decided s t middle) F.free is.faces.descending (λ m w. w.on.free)

  minimal_list : (s : Signature) → (list : List ℕ) × AreDescending (Minimal F s) list
  minimal_list s = falling_within (Minimal F s) (minimal_decided F g is s) F.free is.faces.descending (λ m p. p.stable.free)

  module _ (cs : List Chamber) (listing : IsCrossedListing F.fan cs) where
    chamber_long : (c : Chamber) → IsSizedChamber F.fan.k c → OfLength F.fan.k c.rays
    chamber_long c sized = all_of_length F.fan.k c.rays (λ i d low. (sized.rays i d low).entries)

    a_step : (s : Signature) (rays : List Vector) (f : Facet) (number : ℕ) (matched : Bool) → OfLength F.fan.k rays → f.side ≡ inner number matched → LeadsTo F.fan cs rays f.normal (inner number matched)
        → (step : StepValue) × IsStep F cs s rays f step
    a_step s rays f number matched long side leads =
        let d = leads.0 in
        let place = leads.1 in
        let far = a_holding F.fan d.rays (of_length_all F.fan.k d.rays (chamber_long d (all_at (IsSizedChamber F.fan.k) cs place.place d listing.sized place.there))) in
        let sum = vector_sum F.fan.k (on_wall f.normal rays) in
        let on = a_signature F.fan (sum ∷ []) (of_length_all F.fan.k (sum ∷ [])
        (more_of_length F.fan.k sum [] (length-vector_sum F.fan.k (on_wall f.normal rays) (on_wall_of_length F.fan.k f.normal rays long)) (none_of_length F.fan.k))) in
        let lost = lost_list s far.0 in
        let gained = lost_list far.0 s in
        let wall = wall_list s far.0 on.0 in (
          record { normal = f.normal; to = number; lost = lost.0; gained = gained.0; wall = wall.0 },
          record {
            change = record { normal = refl; other = far.0; leads = leads.2 far.0 far.1; middle = on.0; at_wall = on.1; lost = lost.1; gained = gained.1; wall = wall.1 };
            matched = matched;
            named = side;
            chamber = d;
            number = place;
            holding = far.1;
          },
        )

    some_steps : (s : Signature) (rays : List Vector) (fs : List Facet) → OfLength F.fan.k rays → ((f : Facet) → Member f fs → KindFits F.fan rays f.normal f.side × LeadsTo F.fan cs rays f.normal f.side)
        → (steps : List StepValue) × AreSteps F cs s rays fs steps
    some_steps s rays [] long crossed = ([], refl)
    some_steps s rays (f ∷ fs) long crossed =
        let here = crossed f (inl refl) in
        let rest = some_steps s rays fs long (λ h m. crossed h (inr m)) in
        by f.side refl here.0 here.1 rest
      where
        by : (side : Side) → f.side ≡ side → KindFits F.fan rays f.normal f.side → LeadsTo F.fan cs rays f.normal f.side → (steps : List StepValue) × AreSteps F cs s rays fs steps
            → (steps : List StepValue) × AreSteps F cs s rays (f ∷ fs) steps
        by boundary e kind leads rest = (rest.0, inl (subst (KindFits F.fan rays f.normal) e kind, rest.1))
        by (inner number matched) e kind leads rest =
            let step = a_step s rays f number matched long e (subst (LeadsTo F.fan cs rays f.normal) e leads) in
            (step.0 ∷ rest.0, inr (subst (KindFits F.fan rays f.normal) e kind, step.0, rest.0, refl, step.1, rest.1))

    a_bunch : (c : Chamber) → IsSizedChamber F.fan.k c → AreCrossed F.fan cs c.rays c.facets → (b : BunchValue) × IsBunch F cs c b
    a_bunch c sized crossed =
        let long = chamber_long c sized in
        let set = a_holding F.fan c.rays (of_length_all F.fan.k c.rays long) in
        let minimal = minimal_list set.0 in
        let steps = some_steps set.0 c.rays c.facets long (λ f m. (crossed.kind f (member_contains f c.facets m), crossed.neighbour f (member_contains f c.facets m))) in
        (record { minimal = minimal.0; steps = steps.0 }, record { set = set.0; holding = set.1; minimal = minimal.1; steps = steps.1 })

    some_bunches : (ds : List Chamber) → ((c : Chamber) → Member c ds → IsSizedChamber F.fan.k c × AreCrossed F.fan cs c.rays c.facets) → (bs : List BunchValue) × AllZip (IsBunch F cs) ds bs
    some_bunches [] each = ([], tt)
    some_bunches (d ∷ ds) each =
        let p = each d (inl refl) in
        let here = a_bunch d p.0 p.1 in
        let rest = some_bunches ds (λ c m. each c (inr m)) in
        (here.0 ∷ rest.0, (here.1, rest.1))

pub bunches_are : (F : Family) (cs : List Chamber) → IsGrading F.fan.k F.columns → IsFamily F → IsCrossedListing F.fan cs → (bunches : List BunchValue) × AreBunches F cs bunches
bunches_are F cs g is listing = some_bunches F g is cs listing cs
    (λ c m. (all_member (IsSizedChamber F.fan.k) c cs listing.sized m, all_member (λ (d : Chamber). AreCrossed F.fan cs d.rays d.facets) c cs listing.crossed m))
