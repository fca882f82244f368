-- The bunches of chambers beside each other: each step names the chamber behind its facet.
use Rattle.std.proofs.Common.{◌≡◌, ◌∙◌, ◌+◌, ◌<◌, ◌∷◌, [], ◌++◌, Bool, List, ap, arith, get_or, inl, inr, length, map, refl, subst, sym, take, ℕ}
use Rattle.std.specs.Prelude.{All}
use Rattle.std.specs.List.{AllZip}
use Rattle.std.proofs.lemmas.List.{get_or-map, length-map, map-append, take_more}
use Rattle.git_defs.specs.Vectors.{AllOfLength, Vector}
use Rattle.git_lemmas.proofs.Members.{member_contains}
use Rattle.git_lemmas.specs.Members.{Member}
use Rattle.git_machine.specs.Signatures.{Signature}
use Rattle.git_orbit.proofs.Existence.{a_holding}
use Rattle.git_orbit.proofs.Signatures.{one_signature}
use Rattle.git_orbit.specs.Signatures.{IsHolding, IsSignature}
use Rattle.git_listing.specs.Listings.{Chamber, Facet, inner}
use Rattle.git_listing.specs.Views.{chamber_of}
use Rattle.git_listing.specs.declared.listing.ListedChamber.{ListedChamber}
use Rattle.git_chamber.specs.Chambers.{crossing}
use Rattle.git_asked.proofs.Places.{all_at}
use Rattle.git_asked.specs.Asked.{IsNumber, KindFits, LeadsTo}
use Rattle.git_bunch.specs.declared.groups.Group.{Group}
use Rattle.git_bunch.specs.declared.values.Bunch.{Bunch}
use Rattle.git_bunch.specs.Bunches.{AreCrossed, AreSteps, BunchValue, IsBunch, IsSizedChamber, IsStep, StepValue}
use Rattle.git_bunch.specs.Changes.{AreChanges, IsBunchAlone, IsChangeTo}
use Rattle.git_bunch.specs.Groups.{AreGroups}
use Rattle.git_bunch.specs.Stable.{Family, IsFamily}
use Rattle.git_bunch.specs.Views.{bunch_of}

module _ (F : Family) (is : IsFamily F) (groups : List Group) (are : AreGroups F groups) (cs : List Chamber) (sized : All (IsSizedChamber F.fan.k) cs) where
  rays_long : (number : ℕ) (d : Chamber) → IsNumber cs number d → AllOfLength F.fan.k d.rays
  rays_long number d n i e low = ((all_at (IsSizedChamber F.fan.k) cs n.place d sized n.there).rays i e low).entries

  -- the cones behind the wall are those of the chamber that is named
  held_behind : (rays : List Vector) (n : Vector) (number : ℕ) (other : Signature) (d : Chamber) → IsNumber cs number d
      → ((s : Signature) → IsHolding F.fan d.rays s → IsSignature F.fan (crossing F.fan.k rays n) s) → IsSignature F.fan (crossing F.fan.k rays n) other → IsHolding F.fan d.rays other
  held_behind rays n number other d named leads behind =
      let h = a_holding F.fan d.rays (rays_long number d named) in
      subst (IsHolding F.fan d.rays) (one_signature F.fan (crossing F.fan.k rays n) h.0 other (leads h.0 h.1) behind) h.1

  module _ (s : Signature) (rays : List Vector) where
    step_named : (f : Facet) (to : ℕ) (matched : Bool) (step : StepValue) → f.side ≡ inner to matched → IsChangeTo F.fan groups s rays f.normal to step → LeadsTo F.fan cs rays f.normal f.side → IsStep F cs s rays f step
    step_named f to matched step side change leads =
        let c = change.change F refl is are in
        let lead = subst (LeadsTo F.fan cs rays f.normal) side leads in
        record {
          change = c;
          matched = matched;
          named = side ∙ ap (λ (n : ℕ). inner n matched) (sym change.number);
          chamber = lead.0;
          number = subst (λ (n : ℕ). IsNumber cs n lead.0) (sym change.number) lead.1;
          holding = held_behind rays f.normal to c.other lead.0 lead.1 lead.2 c.leads;
        }

    pub steps_named : (fs : List Facet) (steps : List StepValue) → ((f : Facet) → Member f fs → KindFits F.fan rays f.normal f.side × LeadsTo F.fan cs rays f.normal f.side)
        → AreChanges F.fan groups s rays fs steps → AreSteps F cs s rays fs steps
    steps_named [] steps crossed p = p
    steps_named (f ∷ fs) steps crossed p =
        let here = crossed f (inl refl) in
        let later = λ (g : Facet) (m : Member g fs). crossed g (inr m) in
        elim p [
          | inl q ↦ inl (subst (KindFits F.fan rays f.normal) q.0 here.0, steps_named fs steps later q.1)
          | inr q ↦ inr (subst (KindFits F.fan rays f.normal) q.4 here.0, q.2, q.3, q.5, step_named f q.0 q.1 q.2 q.4 q.6 here.1, steps_named fs q.3 later q.7)
        ]

  bunch_named : (c : Chamber) (b : BunchValue) → AreCrossed F.fan cs c.rays c.facets → IsBunchAlone F.fan groups c b → IsBunch F cs c b
  bunch_named c b crossed alone = record {
    set = alone.set;
    holding = alone.holding;
    minimal = alone.minimal F refl are;
    steps = steps_named alone.set c.rays c.facets b.steps (λ f m. (crossed.kind f (member_contains f c.facets m), crossed.neighbour f (member_contains f c.facets m))) alone.changes;
  }

  -- of all chambers
  pub bunches_named : (ds : List Chamber) (bs : List BunchValue) → ((c : Chamber) → Member c ds → AreCrossed F.fan cs c.rays c.facets) → AllZip (IsBunchAlone F.fan groups) ds bs → AllZip (IsBunch F cs) ds bs
  bunches_named [] [] crossed p = tt
  bunches_named [] (b ∷ bs) crossed p = absurd p
  bunches_named (c ∷ ds) [] crossed p = absurd p
  bunches_named (c ∷ ds) (b ∷ bs) crossed p = (bunch_named c b (crossed c (inl refl)) p.0, bunches_named ds bs (λ d m. crossed d (inr m)) p.1)

-- ---- one chamber more
zip_push : {A B : Type 0} (R : A → B → Type 0) (xs : List A) (ys : List B) (x : A) (y : B) → AllZip R xs ys → R x y → AllZip R (xs ++ x ∷ []) (ys ++ y ∷ [])
zip_push R [] [] x y z r = (r, tt)
zip_push R [] (b ∷ ys) x y z r = absurd z
zip_push R (a ∷ xs) [] x y z r = absurd z
zip_push R (a ∷ xs) (b ∷ ys) x y z r = (z.0, zip_push R xs ys x y z.1 r)

pub one_more_bunch : (R : Chamber → BunchValue → Type 0) (cs : List ListedChamber) (bs : List Bunch) (i : ℕ) (c : ListedChamber) (b : Bunch) → i < length cs → c ≡ get_or cs i c
    → AllZip R (map chamber_of (take i cs)) (map bunch_of bs) → R (chamber_of c) (bunch_of b) → AllZip R (map chamber_of (take (i + 1) cs)) (map bunch_of (bs ++ b ∷ []))
one_more_bunch R cs bs i c b low at before here =
    let front : map chamber_of (take (i + 1) cs) ≡ map chamber_of (take i cs) ++ chamber_of c ∷ [] =
    ap (map chamber_of) (take_more cs i c low) ∙ map-append chamber_of (take i cs) (get_or cs i c ∷ []) ∙ ap (λ (d : ListedChamber). map chamber_of (take i cs) ++ chamber_of d ∷ []) (sym at) in
    subst (λ (l : List Chamber). AllZip R l (map bunch_of (bs ++ b ∷ []))) (sym front)
    (subst (AllZip R (map chamber_of (take i cs) ++ chamber_of c ∷ [])) (sym (map-append bunch_of bs (b ∷ []))) (zip_push R (map chamber_of (take i cs)) (map bunch_of bs) (chamber_of c) (bunch_of b) before here))

pub sized_at : (k : ℕ) (cs : List ListedChamber) (i : ℕ) (c : ListedChamber) → i < length cs → c ≡ get_or cs i c → All (IsSizedChamber k) (map chamber_of cs) → IsSizedChamber k (chamber_of c)
sized_at k cs i c low at all =
    let long = length-map cs chamber_of in
    let is = get_or-map chamber_of cs i c (chamber_of c) low ∙ ap chamber_of (sym at) in
    subst (IsSizedChamber k) is (all i (chamber_of c) (omega (arith, low, long)))
