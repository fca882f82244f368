-- Tests of marks, of normals, and of what is reached.
use Rattle.std.proofs.Common.{◌≡◌, ◌∙◌, ◌∷◌, [], ◌<◌, ℕ, All, Bool, true, false, Contains, List, length, map, get_or, ap, refl, sym, subst, arith, nat_eq}
use Rattle.std.specs.Prelude.{◌↔◌, Option, Some, None, IsTrue, not, slice_get}
use mathlib.Core.Bool.{beq}
use Rattle.std.specs.Option.{option_eq}
use Rattle.std.proofs.lemmas.Bool.Decides.{nat_tests}
use Rattle.git_lemmas.proofs.Options.{some_is}
use Rattle.git_defs.specs.Vectors.{Vector}
use Rattle.git_machine.specs.Signatures.{Signature}
use Rattle.git_orbit.specs.Orbits.{Fan}
use Rattle.git_orbit.specs.Signatures.{IsHolding}
use Rattle.git_orbit.proofs.Signatures.{one_holding}
use Rattle.git_listing.specs.Listings.{Chamber, Facet}
use Rattle.git_listing.specs.Views.{facet_of}
use Rattle.git_listing.specs.declared.listing.ListedFacet.{ListedFacet}
use Rattle.git_asked.specs.Asked.{IsFirstPlace, Names}
use Rattle.git_asked.specs.Ways.{LedTo}
use Rattle.git_asked.proofs.Places.{all_at, got, map_at, within, zipped_at, zipped_length}
use Rattle.git_walk.specs.Walks.{AreLed, Marked}
use Rattle.git_walk.proofs.WalkLemmas.{got_is}
use Rattle.git_check_chambers.specs.Judged.{AreHoldings, AreReached}

-- ---- marks of chambers
same_number : (m n : ℕ) → nat_eq m n ≡ true → m ≡ n
same_number m n t = grind (arith, nat_tests)

number_same : (m n : ℕ) → m ≡ n → nat_eq m n ≡ true
number_same m n e = grind (arith, nat_tests)

mark_tells : (a b : Option ℕ) → (option_eq nat_eq a b ≡ true) ↔ (a ≡ b)
mark_tells None None = (λ t. refl, λ e. refl)
mark_tells None (Some n) = (λ t. absurd (cc t), λ e. absurd (cc e))
mark_tells (Some m) None = (λ t. absurd (cc t), λ e. absurd (cc e))
mark_tells (Some m) (Some n) = (λ t. ap (λ (i : ℕ). Some i) (same_number m n t), λ e. number_same m n (some_is m n e))

pub marks_differ : (a b : Option ℕ) (t : Bool) → t ≡ not (option_eq nat_eq a b) → t ≡ true → a ≡ b → ⊥
marks_differ a b t e f g = let h : true ≡ false = sym f ∙ e ∙ ap not ((mark_tells a b).1 g) in cc h

not_false : (b : Bool) → not b ≡ false → b ≡ true
not_false true e = refl
not_false false e = sym e

pub marks_same : (a b : Option ℕ) (t : Bool) → t ≡ not (option_eq nat_eq a b) → t ≡ false → a ≡ b
marks_same a b t e f = (mark_tells a b).0 (not_false (option_eq nat_eq a b) (sym e ∙ f))

-- ---- normals
pub normals_seen : (fs : List ListedFacet) → map (λ (f : Facet). f.normal) (map facet_of fs) ≡ map (λ (f : ListedFacet). f.normal) fs
normals_seen [] = refl
normals_seen (f ∷ fs) = λ i. f.normal ∷ normals_seen fs i

pub has_tells : (fs ds : List ListedFacet) (n u : Vector) (b : Bool) → ds ≡ fs → u ≡ n → IsTrue b ↔ Contains (map (λ (f : ListedFacet). f.normal) ds) u → IsTrue b ↔ Contains (map (λ (f : Facet). f.normal) (map facet_of fs)) n
has_tells fs ds n u b e g h =
    subst (λ (vs : List Vector). IsTrue b ↔ Contains vs n) (sym (normals_seen fs))
    (subst (λ (v : Vector). IsTrue b ↔ Contains (map (λ (f : ListedFacet). f.normal) fs) v) g (subst (λ (l : List ListedFacet). IsTrue b ↔ Contains (map (λ (f : ListedFacet). f.normal) l) u) e h))

pub facet_at : (fs : List ListedFacet) (j : ℕ) (x : ListedFacet) → j < length fs → x ≡ get_or fs j x → slice_get (map facet_of fs) j ≡ Some (facet_of x)
facet_at fs j x low is = map_at facet_of fs j x (got_is fs j x low is)

pub normal_at : (P : Vector → Type 0) (fs : List ListedFacet) (j : ℕ) (x : ListedFacet) → j < length fs → x ≡ get_or fs j x → All P (map (λ (f : Facet). f.normal) (map facet_of fs)) → P x.normal
normal_at P fs j x low is all = all_at P (map (λ (f : Facet). f.normal) (map facet_of fs)) j x.normal all (map_at (λ (f : Facet). f.normal) (map facet_of fs) j (facet_of x) (facet_at fs j x low is))

-- ---- the cones around the rays of each
pub held_at : (fan : Fan) (cs : List Chamber) (sigs : List Signature) (i : ℕ) (s : Signature) (d : Chamber) → AreHoldings fan cs sigs → s ≡ get_or sigs i s → slice_get cs i ≡ Some d → IsHolding fan d.rays s
held_at fan cs sigs i s d are is there =
    let low : i < length sigs = (let n = zipped_length (λ (c : Chamber) (t : Signature). IsHolding fan c.rays t) cs sigs are in let w = within cs i d there in omega (arith, n, w)) in
    zipped_at (λ (c : Chamber) (t : Signature). IsHolding fan c.rays t) cs sigs i d s are there (got_is sigs i s low is)

pub as_many : (fan : Fan) (cs : List Chamber) (sigs : List Signature) → AreHoldings fan cs sigs → length cs ≡ length sigs
as_many fan cs sigs are = zipped_length (λ (c : Chamber) (t : Signature). IsHolding fan c.rays t) cs sigs are

module _ (fan : Fan) (start : Signature) (cs : List Chamber) (sigs : List Signature) (are : AreHoldings fan cs sigs) (starts : List Bool)
    (tells : (i : ℕ) → Marked starts i ↔ (slice_get sigs i ≡ Some start)) where
  abbrev R : Chamber → Signature → Type 0
  R c t = IsHolding fan c.rays t

  pub starts_tell : (b : ℕ) → Marked starts b ↔ IsFirstPlace fan start cs b
  starts_tell b = (
    λ m.
        let at = (tells b).0 m in
        let low : b < length cs = (let n = zipped_length R cs sigs are in let w = within sigs b start at in omega (arith, n, w)) in
        let d = got cs b low in
        record { chamber = d.0; there = d.1; holding = zipped_at R cs sigs b d.0 start are d.1 at },
    λ p.
        let low : b < length sigs = (let n = zipped_length R cs sigs are in let w = within cs b p.chamber p.there in omega (arith, n, w)) in
        let s = got sigs b low in
        let same : s.0 ≡ start = one_holding fan p.chamber.rays s.0 start (zipped_at R cs sigs b p.chamber s.0 are p.there s.1) p.holding in
        (tells b).1 (s.1 ∙ ap (λ (t : Signature). Some t) same),
  )

  pub reached_marks : (marks : List Bool) → AreLed cs starts marks → AreReached fan start cs marks
  reached_marks marks led = (
    led.same,
    λ i low. (
      λ m. let x = (led.each i low).0 m in moved i x.0 x.1 x.2,
      λ p. let x = p in (led.each i low).1 (back i x.0 x.1 x.2),
    ),
  ) where
    moved : (i b : ℕ) → Marked starts b → LedTo (Names cs) b i → (a : ℕ) × IsFirstPlace fan start cs a × LedTo (Names cs) a i
    moved i b m w = (b, (starts_tell b).0 m, w)

    back : (i b : ℕ) → IsFirstPlace fan start cs b → LedTo (Names cs) b i → (a : ℕ) × Marked starts a × LedTo (Names cs) a i
    back i b m w = (b, (starts_tell b).1 m, w)

  pub some_start : (t : Bool) → IsTrue t ↔ ((i : ℕ) × Marked starts i) → IsTrue t ↔ ((b : ℕ) × IsFirstPlace fan start cs b)
  some_start t h = (
    λ e. let x = h.0 e in (x.0, (starts_tell x.0).0 x.1),
    λ p. h.1 (p.0, (starts_tell p.0).1 p.1),
  )

-- ---- counts
pub counts_tell : (m n k : ℕ) → n ≡ k → IsTrue (nat_eq m n) ↔ (m ≡ k)
counts_tell m n k e = (λ t. same_number m n t ∙ e, λ f. number_same m n (f ∙ sym e))

-- ---- tests that agree
pub tests_agree : (a b : Bool) → not (beq a b) ≡ false → a ≡ b
tests_agree true true e = refl
tests_agree true false e = absurd (cc e)
tests_agree false true e = absurd (cc e)
tests_agree false false e = refl

pub tests_differ : (a b : Bool) → not (beq a b) ≡ true → a ≡ b → ⊥
tests_differ true true e f = absurd (cc e)
tests_differ true false e f = absurd (cc f)
tests_differ false true e f = absurd (cc f)
tests_differ false false e f = absurd (cc e)
