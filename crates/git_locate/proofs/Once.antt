-- A weight has one place at most, or is wide in one way.
use Rattle.std.proofs.Common.{◌≡◌, ◌∙◌, ◌<◌, ◌++◌, ◌∷◌, [], List, ap, arith, inl, inr, length, refl, subst, suc, sym, ℕ}
use Rattle.std.proofs.Math.IntN.{pos}
use Rattle.std.proofs.lemmas.Int.{ints}
use Rattle.std.specs.Prelude.{◌≤ℤ◌, ◌<ℤ◌}
use Rattle.git_defs.proofs.Lengths.{OfLength}
use Rattle.git_defs.specs.Cones.{AreRays}
use Rattle.git_defs.specs.Vectors.{Vector, dot}
use Rattle.git_geometry.proofs.Sorted.{rays_once}
use Rattle.git_lemmas.specs.Members.{Member}
use Rattle.git_lemmas.proofs.Members.{all_member, member_contains}
use Rattle.git_listing.specs.Listings.{Listing}
use Rattle.git_machine.specs.Signatures.{Signature}
use Rattle.git_orbit.specs.Orbits.{Fan}
use Rattle.git_orbit.specs.Signatures.{cone_in, facets_at}
use Rattle.git_orbit.proofs.Signatures.{one_signature}
use Rattle.git_stages.specs.Ranks.{IsRank}
use Rattle.git_stages.specs.declared.wide.WideAt.{WideAt}
use Rattle.git_stages.proofs.Once.{same_number}
use Rattle.git_stages.proofs.Ranks.{rank_bound}
use Rattle.git_chamber.specs.Chambers.{IsWideSignature}
use Rattle.git_chamber.specs.declared.cell.Cell.{Cell}
use Rattle.git_chamber.specs.declared.cell.Cell.TheVariants.{Good, Wide}
use Rattle.git_chamber.proofs.Uniqueness.{one_cell}
use Rattle.git_locate.specs.Places.{Place, Position, inside, outside}
use Rattle.git_locate.specs.Positions.{InAllAround, IsAround, IsFirstBelow, IsListedAround, IsPlace, IsPosition, IsWideAround}
use Rattle.git_locate.proofs.Numbers.{numbers_once}

-- ---- the first of which something holds
abbrev head_or : {X : Type 0} → X → List X → X
head_or d [] = d
head_or d (x ∷ xs) = x

abbrev tail_of : {X : Type 0} → List X → List X
tail_of [] = []
tail_of (x ∷ xs) = xs

pub first_once : {X : Type 0} (P : X → Type 0) (b c d e : List X) (x y : X) → b ++ x ∷ d ≡ c ++ y ∷ e → ((z : X) → Member z b → P z → ⊥) → ((z : X) → Member z c → P z → ⊥)
    → P x → P y → (length b ≡ length c) × (x ≡ y)
first_once P [] [] d e x y same f g p q = (refl, ap (head_or x) same)
first_once P [] (v ∷ c) d e x y same f g p q = absurd (g v (inl refl) (subst P (ap (head_or x) same) p))
first_once P (u ∷ b) [] d e x y same f g p q = absurd (f u (inl refl) (subst P (sym (ap (head_or u) same)) q))
first_once P (u ∷ b) (v ∷ c) d e x y same f g p q =
    let r = first_once P b c d e x y (ap tail_of same) (λ z m. f z (inr m)) (λ z m. g z (inr m)) p q in
    (ap suc r.0, r.1)

abbrev is_below : Vector → Vector → Type 0
is_below w n = dot n w <ℤ pos 0

pub one_below : (normals : List Vector) (w m n : Vector) → IsFirstBelow normals w m → IsFirstBelow normals w n → m ≡ n
one_below normals w m n p q =
    let beside : (vs : List Vector) → ((v : Vector) → Member v vs → pos 0 ≤ℤ dot v w) → (v : Vector) → Member v vs → is_below w v → ⊥ =
    (λ vs all v o below. let side = all v o in omega (arith, ints, side, below)) in
    (first_once (is_below w) p.before q.before p.after q.after m n (sym p.is ∙ q.is)
    (beside p.before (λ v o. all_member (λ (u : Vector). pos 0 ≤ℤ dot u w) v p.before p.none o))
    (beside q.before (λ v o. all_member (λ (u : Vector). pos 0 ≤ℤ dot u w) v q.before q.none o)) p.negative q.negative).1

-- ---- ranks
pub one_rank : (k : ℕ) (given : List Vector) (m n : ℕ) → OfLength k given → IsRank k given m → IsRank k given n → m ≡ n
one_rank k given m n have p q =
    let few = rank_bound k given n m have q p.reached in
    let back = rank_bound k given m n have p q.reached in
    same_number m n (λ h. omega (arith, h, back)) (λ h. omega (arith, h, few))

-- ---- wide in one way
abbrev at_of : WideAt → Cell → WideAt
at_of at (Wide a) = a
at_of at (Good c) = at

pub one_wide : (fan : Fan) (w : Vector) (at other : WideAt) → IsWideAround fan w at → IsWideAround fan w other → at ≡ other
one_wide fan w at other p q =
    let here = subst (λ (s : Signature). IsWideSignature fan s at) (one_signature fan (w ∷ []) p.sig q.sig p.signature q.signature) p.wide in
    ap (at_of at) (one_cell fan q.sig (Wide at) (Wide other) here q.wide)

-- ---- one place
module _ (fan : Fan) (l : Listing) (w : Vector) (some : 0 < length fan.list) where
  -- the rays lie in cone 0
  around_have : cone_in fan 0 w → (rays : List Vector) → AreRays fan.k (InAllAround fan w) rays → OfLength fan.k rays
  around_have within rays r = record { each = λ v m. (((r.each v).0 (member_contains v rays m)).edge.member 0 (record { in_range = some; holds = within })).entries }

  pub one_position : (p q : Position) → IsPosition fan l w p → IsPosition fan l w q → p ≡ q
  one_position p q a b =
      let c = numbers_once (IsAround fan w) p.cones q.cones a.cones b.cones in
      let r = rays_once fan.k (InAllAround fan w) p.rays q.rays a.rays b.rays in
      let d = one_rank fan.k q.rays p.dimension q.dimension (around_have b.within q.rays b.rays) (subst (λ (vs : List Vector). IsRank fan.k vs p.dimension) r a.dimension) b.dimension in
      let h = numbers_once (IsListedAround fan.k l.chambers w) p.chambers q.chambers a.chambers b.chambers in
      λ i. record { cones = c i; rays = r i; dimension = d i; chambers = h i }

  pub one_place : (p q : Place) → IsPlace fan l w p → IsPlace fan l w q → p ≡ q
  one_place (outside m) (outside n) a b = ap outside (one_below (facets_at fan 0) w m n a.1 b.1)
  one_place (outside m) (inside q) a b = absurd (a.0 b.within)
  one_place (inside p) (outside n) a b = absurd (b.0 a.within)
  one_place (inside p) (inside q) a b = ap inside (one_position p q a b)

pub place_not_wide : (fan : Fan) (l : Listing) (w : Vector) (p : Place) (at : WideAt) → IsPlace fan l w p → IsWideAround fan w at → ⊥
place_not_wide fan l w (outside n) at a wide = a.0 wide.within
place_not_wide fan l w (inside p) at a wide = a.narrow at wide
