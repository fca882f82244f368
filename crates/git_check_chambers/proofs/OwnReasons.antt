-- What fails first of a chamber by itself.
use Rattle.std.proofs.Common.{◌≡◌, ◌∙◌, ◌≤◌, ◌<◌, ℕ, List, All, ap, refl, sym, subst, arith}
use Rattle.std.specs.Prelude.{◌↔◌, Some, None, Option}
use Rattle.git_lemmas.proofs.Members.{all_member}
use Rattle.git_defs.specs.Vectors.{HasRank, Vector, vector_sum}
use Rattle.git_defs.specs.Cones.{AreFacets, AreRays, Dual}
use Rattle.git_defs.proofs.Lengths.{OfLength}
use Rattle.git_geometry.proofs.Sorted.{rays_once}
use Rattle.git_machine.specs.Signatures.{Has, Signature}
use Rattle.git_stages.specs.Ranks.{IsRank}
use Rattle.git_stages.specs.Short.{IsShort}
use Rattle.git_stages.specs.Wide.{IsWideAt, NeverWide}
use Rattle.git_stages.specs.declared.wide.WideAt.{WideAt}
use Rattle.git_stages.proofs.Ranks.{rank_bound}
use Rattle.git_stages.proofs.Uniqueness.{wide_not_never}
use Rattle.git_dd.proofs.Finals.{rank_from}
use Rattle.git_orbit.specs.Orbits.{Fan}
use Rattle.git_orbit.specs.Signatures.{InChamber, IsHolding}
use Rattle.git_orbit.proofs.Signatures.{one_holding}
use Rattle.git_listing.specs.Listings.{Chamber, normals_of}
use Rattle.git_chamber.specs.Chambers.{AreWalls, IsCell, IsMark, IsNarrow, IsWideSignature}
use Rattle.git_chamber.specs.Views.{FanChamber}
use Rattle.git_chamber.specs.declared.cell.Cell.TheVariants.{Good}
use Rattle.git_chamber.proofs.Cells.{one_walls}
use Rattle.git_chamber.proofs.Uniqueness.{mark_is_one}
use Rattle.git_asked.specs.declared.finding.Reason.{Reason}
use Rattle.git_asked.specs.declared.finding.Reason.TheVariants.{Shape, VerdictMissing, CertRefused, Monomial, WideCone, ConeCount, Order, WideChamber, Rays, Weight, Mark, FacetSet, FacetKind, Neighbour, MatchKind, FirstMissing, NotReached}
use Rattle.git_asked.specs.Findings.{rank_of}
use Rattle.git_asked.specs.Asked.{AsksFacets, AsksMark, AsksNarrow, AsksOrder, AsksRays, AsksWeight, IsNamedFromFirst}
use Rattle.git_check_chambers.specs.Families.{FailsAt, IsFirstReason}
use Rattle.git_check_chambers.specs.Judged.{AsksChamber, AsksOwn}

-- ---- the rank
of_short : (k : ℕ) (vs : List Vector) → All (IsShort k) vs → OfLength k vs
of_short k vs h = record { each = λ v m. (all_member (IsShort k) v vs h m).entries }

pub rank_tells : (k n : ℕ) (vs : List Vector) → All (IsShort k) vs → IsRank k vs n → (k ≤ n) ↔ HasRank k vs
rank_tells k n vs h is = (
  λ le. rank_from k vs n (of_short k vs h) is le,
  λ r. rank_bound k vs n k (of_short k vs h) is (record { chosen = r.chosen; from = r.from; count = r.count; independent = r.independent }),
)

-- ---- wide or not
pub never_narrow : (fan : Fan) (sig : Signature) (walls : List Vector) → AreWalls fan sig walls → NeverWide fan.k walls → IsNarrow fan sig
never_narrow fan sig walls are never at w =
    wide_not_never fan.k walls at.stage at.what (subst (λ (vs : List Vector). IsWideAt fan.k vs at.stage at.what) (one_walls fan sig w.walls walls w.are are) w.wide) never

-- ---- the reasons
module _ (fan : Fan) (c : Chamber) where
  -- what is asked for reasons below a place in the order
  below : (n : ℕ) → (7 < n → AsksNarrow fan c) → (8 < n → AsksRays fan c) → (9 < n → AsksWeight fan c) → (10 < n → AsksMark fan c) → (11 < n → AsksFacets fan c)
      → (q : Reason) → rank_of q < n → AsksOwn fan c q
  below n a b d e f Shape lt = tt
  below n a b d e f VerdictMissing lt = tt
  below n a b d e f CertRefused lt = tt
  below n a b d e f Monomial lt = tt
  below n a b d e f WideCone lt = tt
  below n a b d e f ConeCount lt = tt
  below n a b d e f Order lt = tt
  below n a b d e f WideChamber lt = a lt
  below n a b d e f Rays lt = b lt
  below n a b d e f Weight lt = d lt
  below n a b d e f Mark lt = e lt
  below n a b d e f FacetSet lt = f lt
  below n a b d e f FacetKind lt = tt
  below n a b d e f Neighbour lt = tt
  below n a b d e f MatchKind lt = tt
  below n a b d e f FirstMissing lt = tt
  below n a b d e f NotReached lt = tt

  all_asked : AsksNarrow fan c → AsksRays fan c → AsksWeight fan c → AsksMark fan c → AsksFacets fan c → (q : Reason) → AsksOwn fan c q
  all_asked a b d e f Shape = tt
  all_asked a b d e f VerdictMissing = tt
  all_asked a b d e f CertRefused = tt
  all_asked a b d e f Monomial = tt
  all_asked a b d e f WideCone = tt
  all_asked a b d e f ConeCount = tt
  all_asked a b d e f Order = tt
  all_asked a b d e f WideChamber = a
  all_asked a b d e f Rays = b
  all_asked a b d e f Weight = d
  all_asked a b d e f Mark = e
  all_asked a b d e f FacetSet = f
  all_asked a b d e f FacetKind = tt
  all_asked a b d e f Neighbour = tt
  all_asked a b d e f MatchKind = tt
  all_asked a b d e f FirstMissing = tt
  all_asked a b d e f NotReached = tt

  module _ (s : Signature) (holds : IsHolding fan c.rays s) where
    same : (t : Signature) → IsHolding fan c.rays t → t ≡ s
    same t h = one_holding fan c.rays t s h holds

    -- no cone holds the rays
    pub none_holds : ((n : ℕ) × Has s n → ⊥) → FailsAt (AsksOwn fan c) Rays
    none_holds never = record {
      fails = λ a. never (a.2.0, subst (λ (t : Signature). Has t a.2.0) (same a.0 a.1) a.2.1);
      before = below 8 (λ lt t member h has. absurd (never (member, subst (λ (u : Signature). Has u member) (same t h) has))) (λ lt. absurd (omega (arith, lt))) (λ lt. absurd (omega (arith, lt))) (λ lt. absurd (omega (arith, lt))) (λ lt. absurd (omega (arith, lt)));
    }

    pub is_wide : (n : ℕ) × Has s n → (at : WideAt) × IsWideSignature fan s at → FailsAt (AsksOwn fan c) WideChamber
    is_wide m w = record {
      fails = λ a. a s m.0 holds m.1 w.0 w.1;
      before = below 7 (λ lt. absurd (omega (arith, lt))) (λ lt. absurd (omega (arith, lt))) (λ lt. absurd (omega (arith, lt))) (λ lt. absurd (omega (arith, lt))) (λ lt. absurd (omega (arith, lt)));
    }

    narrow : IsNarrow fan s → AsksNarrow fan c
    narrow never t member h has = subst (IsNarrow fan) (sym (same t h)) never

    -- the rays have no full rank
    pub is_flat : IsNarrow fan s → (HasRank fan.k c.rays → ⊥) → FailsAt (AsksOwn fan c) Rays
    is_flat never flat = record {
      fails = λ a. flat a.4;
      before = below 8 (λ lt. narrow never) (λ lt. absurd (omega (arith, lt))) (λ lt. absurd (omega (arith, lt))) (λ lt. absurd (omega (arith, lt))) (λ lt. absurd (omega (arith, lt)));
    }

    module _ (m : (n : ℕ) × Has s n) (rank : HasRank fan.k c.rays) (own : FanChamber) (cell : IsCell fan s (Good own)) where
      pub rays_differ : (c.rays ≡ own.rays → ⊥) → FailsAt (AsksOwn fan c) Rays
      rays_differ never = record {
        fails = λ a. never (rays_once fan.k (InChamber fan s) c.rays own.rays (subst (λ (t : Signature). AreRays fan.k (InChamber fan t) c.rays) (same a.0 a.1) a.3) cell.1.chamber.rays_are);
        before = below 8 (λ lt. narrow cell.0) (λ lt. absurd (omega (arith, lt))) (λ lt. absurd (omega (arith, lt))) (λ lt. absurd (omega (arith, lt))) (λ lt. absurd (omega (arith, lt)));
      }

      module _ (rays : c.rays ≡ own.rays) where
        asks_rays : AsksRays fan c
        asks_rays = (s, holds, m, subst (AreRays fan.k (InChamber fan s)) (sym rays) cell.1.chamber.rays_are, rank)

        own_sum : own.weight ≡ vector_sum fan.k c.rays
        own_sum = cell.1.chamber.weight_is ∙ ap (vector_sum fan.k) (sym rays)

        pub weight_differs : (c.weight ≡ own.weight → ⊥) → FailsAt (AsksOwn fan c) Weight
        weight_differs never = record {
          fails = λ a. never (a ∙ sym own_sum);
          before = below 9 (λ lt. narrow cell.0) (λ lt. asks_rays) (λ lt. absurd (omega (arith, lt))) (λ lt. absurd (omega (arith, lt))) (λ lt. absurd (omega (arith, lt)));
        }

        module _ (weight : c.weight ≡ own.weight) where
          own_mark : IsMark fan s (vector_sum fan.k c.rays) own.crossed
          own_mark = subst (λ (w : Vector). IsMark fan s w own.crossed) own_sum cell.1.mark

          pub mark_differs : (c.crossed ≡ own.crossed → ⊥) → FailsAt (AsksOwn fan c) Mark
          mark_differs never = record {
            fails = λ a. never (mark_is_one fan s (vector_sum fan.k c.rays) c.crossed own.crossed (a s holds) own_mark);
            before = below 10 (λ lt. narrow cell.0) (λ lt. asks_rays) (λ lt. weight ∙ own_sum) (λ lt. absurd (omega (arith, lt))) (λ lt. absurd (omega (arith, lt)));
          }

          module _ (mark : c.crossed ≡ own.crossed) where
            asks_mark : AsksMark fan c
            asks_mark t h = subst (λ (u : Signature). IsMark fan u (vector_sum fan.k c.rays) c.crossed) (sym (same t h)) (subst (IsMark fan s (vector_sum fan.k c.rays)) (sym mark) own_mark)

            pub facets_differ : (normals_of c ≡ own.facets → ⊥) → FailsAt (AsksOwn fan c) FacetSet
            facets_differ never = record {
              fails = λ a. never (rays_once fan.k (Dual fan.k (InChamber fan s)) (normals_of c) own.facets (a s holds) cell.1.chamber.facets_are);
              before = below 11 (λ lt. narrow cell.0) (λ lt. asks_rays) (λ lt. weight ∙ own_sum) (λ lt. asks_mark) (λ lt. absurd (omega (arith, lt)));
            }

            pub none_differs : normals_of c ≡ own.facets → (q : Reason) → AsksOwn fan c q
            none_differs facets = all_asked (narrow cell.0) asks_rays (weight ∙ own_sum) asks_mark
                (λ t h. subst (λ (u : Signature). AreFacets fan.k (InChamber fan u) (normals_of c)) (sym (same t h)) (subst (AreFacets fan.k (InChamber fan s)) (sym facets) cell.1.chamber.facets_are))

-- ---- with its place in the list
module _ (fan : Fan) (start : Signature) (cs : List Chamber) (i : ℕ) (c : Chamber) where
  pub out_of_order : (AsksOrder cs i → ⊥) → FailsAt (AsksChamber fan start cs i c) Order
  out_of_order never = record { fails = never; before = before_order } where
    before_order : (q : Reason) → rank_of q < 6 → AsksChamber fan start cs i c q
    before_order Shape lt = tt
    before_order VerdictMissing lt = tt
    before_order CertRefused lt = tt
    before_order Monomial lt = tt
    before_order WideCone lt = tt
    before_order ConeCount lt = tt
    before_order Order lt = absurd (omega (arith, lt))
    before_order WideChamber lt = absurd (omega (arith, lt))
    before_order Rays lt = absurd (omega (arith, lt))
    before_order Weight lt = absurd (omega (arith, lt))
    before_order Mark lt = absurd (omega (arith, lt))
    before_order FacetSet lt = absurd (omega (arith, lt))
    before_order FacetKind lt = tt
    before_order Neighbour lt = tt
    before_order MatchKind lt = tt
    before_order FirstMissing lt = tt
    before_order NotReached lt = absurd (omega (arith, lt))

  -- what is asked of the chamber by itself is asked of it in the list
  own_there : AsksOrder cs i → (q : Reason) → rank_of q < 16 → AsksOwn fan c q → AsksChamber fan start cs i c q
  own_there o Shape lt h = tt
  own_there o VerdictMissing lt h = tt
  own_there o CertRefused lt h = tt
  own_there o Monomial lt h = tt
  own_there o WideCone lt h = tt
  own_there o ConeCount lt h = tt
  own_there o Order lt h = o
  own_there o WideChamber lt h = h
  own_there o Rays lt h = h
  own_there o Weight lt h = h
  own_there o Mark lt h = h
  own_there o FacetSet lt h = h
  own_there o FacetKind lt h = tt
  own_there o Neighbour lt h = tt
  own_there o MatchKind lt h = tt
  own_there o FirstMissing lt h = tt
  own_there o NotReached lt h = absurd (omega (arith, lt))

  pub own_fails : AsksOrder cs i → (q : Reason) → FailsAt (AsksOwn fan c) q → FailsAt (AsksChamber fan start cs i c) q
  own_fails o Shape h = absurd (h.fails tt)
  own_fails o VerdictMissing h = absurd (h.fails tt)
  own_fails o CertRefused h = absurd (h.fails tt)
  own_fails o Monomial h = absurd (h.fails tt)
  own_fails o WideCone h = absurd (h.fails tt)
  own_fails o ConeCount h = absurd (h.fails tt)
  own_fails o Order h = absurd (h.fails tt)
  own_fails o WideChamber h = record { fails = h.fails; before = λ p lt. own_there o p (omega (arith, lt)) (h.before p lt) }
  own_fails o Rays h = record { fails = h.fails; before = λ p lt. own_there o p (omega (arith, lt)) (h.before p lt) }
  own_fails o Weight h = record { fails = h.fails; before = λ p lt. own_there o p (omega (arith, lt)) (h.before p lt) }
  own_fails o Mark h = record { fails = h.fails; before = λ p lt. own_there o p (omega (arith, lt)) (h.before p lt) }
  own_fails o FacetSet h = record { fails = h.fails; before = λ p lt. own_there o p (omega (arith, lt)) (h.before p lt) }
  own_fails o FacetKind h = absurd (h.fails tt)
  own_fails o Neighbour h = absurd (h.fails tt)
  own_fails o MatchKind h = absurd (h.fails tt)
  own_fails o FirstMissing h = absurd (h.fails tt)
  own_fails o NotReached h = absurd (h.fails tt)

  pub reach_fails : AsksOrder cs i → ((q : Reason) → AsksOwn fan c q) → (IsNamedFromFirst fan start cs i → ⊥) → FailsAt (AsksChamber fan start cs i c) NotReached
  reach_fails o h never = record { fails = never; before = λ p lt. own_there o p lt (h p) }

  pub nothing_fails : AsksOrder cs i → ((q : Reason) → AsksOwn fan c q) → IsNamedFromFirst fan start cs i → (q : Reason) → AsksChamber fan start cs i c q
  nothing_fails o h w Shape = tt
  nothing_fails o h w VerdictMissing = tt
  nothing_fails o h w CertRefused = tt
  nothing_fails o h w Monomial = tt
  nothing_fails o h w WideCone = tt
  nothing_fails o h w ConeCount = tt
  nothing_fails o h w Order = o
  nothing_fails o h w WideChamber = h WideChamber
  nothing_fails o h w Rays = h Rays
  nothing_fails o h w Weight = h Weight
  nothing_fails o h w Mark = h Mark
  nothing_fails o h w FacetSet = h FacetSet
  nothing_fails o h w FacetKind = tt
  nothing_fails o h w Neighbour = tt
  nothing_fails o h w MatchKind = tt
  nothing_fails o h w FirstMissing = tt
  nothing_fails o h w NotReached = w

  pub with_own : AsksOrder cs i → (o : Option Reason) (q : Reason) → o ≡ Some q → IsFirstReason (AsksOwn fan c) o → FailsAt (AsksChamber fan start cs i c) q
  with_own order o q e h = own_fails order q (subst (IsFirstReason (AsksOwn fan c)) e h)

  pub with_none : (o : Option Reason) → o ≡ None → IsFirstReason (AsksOwn fan c) o → (q : Reason) → AsksOwn fan c q
  with_none o e h = subst (IsFirstReason (AsksOwn fan c)) e h

pub none_is : {A : Type 0} (o : Option A) → ((x : A) → o ≡ Some x → ⊥) → o ≡ None
none_is None h = refl
none_is (Some x) h = absurd (h x refl)
