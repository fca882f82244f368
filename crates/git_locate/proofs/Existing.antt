-- Each weight has a place, or is wide.
use Rattle.std.proofs.Common.{◌≡◌, ◌⊎◌, ◌+◌, ◌<◌, ◌∷◌, [], List, All, ap, arith, get_or, inl, inr, length, map, refl, subst, suc, zero, ℕ}
use Rattle.std.proofs.Math.IntN.{pos}
use Rattle.std.proofs.lemmas.Bool.{cases_lt}
use Rattle.std.proofs.lemmas.List.{get_or-map, length-map}
use Rattle.std.proofs.lemmas.List.Elements.{All-cons, All-nil, All-get_or}
use Rattle.std.specs.Prelude.{◌≤ℤ◌}
use Rattle.git_defs.specs.Cones.{AreRays, Cut, InCone}
use Rattle.git_defs.specs.Vectors.{Vector, dot}
use Rattle.git_defs.proofs.Closed.{sign_of}
use Rattle.git_defs.proofs.Lengths.{more_of_length, none_of_length, of_length_all}
use Rattle.git_lemmas.proofs.Members.{all_member}
use Rattle.git_geometry.proofs.Cuts.{cut_of}
use Rattle.git_geometry.proofs.Rays.{rays_along}
use Rattle.git_cone_faces.specs.Families.{Cone}
use Rattle.git_cone_faces.proofs.Full.{full_same}
use Rattle.git_machine.specs.Signatures.{Has, Signature}
use Rattle.git_stages.specs.Wide.{NeverWide}
use Rattle.git_stages.specs.declared.wide.WideAt.{WideAt}
use Rattle.git_stages.proofs.Decided.{rank_exists, wide_decided}
use Rattle.git_stages.proofs.Exist.{rays_exist}
use Rattle.git_orbit.specs.Orbits.{Fan, IsFan}
use Rattle.git_orbit.specs.Signatures.{InChamber, IsSignature, cone_in, facets_at}
use Rattle.git_orbit.proofs.Existence.{a_signature}
use Rattle.git_listing.specs.Listings.{Chamber, Listing, normals_of}
use Rattle.git_chamber.specs.Chambers.{AreWalls, IsNumbers}
use Rattle.git_chamber.specs.Listings.{no_chamber}
use Rattle.git_chamber.specs.Nexts.{rays_have}
use Rattle.git_chamber.proofs.Cells.{narrow_signature}
use Rattle.git_chamber.proofs.Facets.{walls_cut, walls_have, walls_rank}
use Rattle.git_chamber.proofs.Gatherings.{has_or_not, walls_exist}
use Rattle.git_allcones.specs.Cones.{AreShortCones, IsShortCone, cone_of_chamber, cones_of}
use Rattle.git_locate.specs.Places.{Place, inside, outside}
use Rattle.git_locate.specs.Positions.{IsFirstBelow, IsListedAround, IsPlace, IsWideAround}
use Rattle.git_locate.proofs.Gathered.{at_position, numbers}
use Rattle.git_locate.proofs.Listed.{all_listed}
use Rattle.git_locate.proofs.Numbers.{SomeNumbers, numbers_below}
use Rattle.git_locate.proofs.Sides.{first_refuses}

-- ---- the first normal that is negative, if there is one
abbrev Beside : List Vector → Vector → Type 0
Beside normals w = All (λ n. pos 0 ≤ℤ dot n w) normals

first_or_none : (normals : List Vector) (w : Vector) → Beside normals w ⊎ ((n : Vector) × IsFirstBelow normals w n)
first_or_none [] w = inl (All-nil (λ n. pos 0 ≤ℤ dot n w))
first_or_none (n ∷ normals) w = elim (sign_of (dot n w)) [
  | inr below ↦ inr (n, record { before = []; after = normals; is = refl; none = All-nil (λ m. pos 0 ≤ℤ dot m w); negative = below })
  | inl side ↦ elim (first_or_none normals w) [
    | inl all ↦ inl (All-cons (λ (m : Vector). pos 0 ≤ℤ dot m w) n normals side all)
    | inr f ↦ inr (
      f.0,
      record {
        before = n ∷ f.1.before;
        after = f.1.after;
        is = ap (λ (vs : List Vector). n ∷ vs) f.1.is;
        none = All-cons (λ (m : Vector). pos 0 ≤ℤ dot m w) n f.1.before side f.1.none;
        negative = f.1.negative;
      },
    )
  ]
]

cut_or_first : (k : ℕ) (normals : List Vector) (w : Vector) → length w ≡ k → Cut k normals w ⊎ ((n : Vector) × IsFirstBelow normals w n)
cut_or_first k normals w long = elim (first_or_none normals w) [
  | inl all ↦ inl (cut_of long (λ n m. all_member (λ (v : Vector). pos 0 ≤ℤ dot v w) n normals all m))
  | inr f ↦ inr f
]

-- ---- the listed chambers that hold a weight
abbrev no_cone : Cone
no_cone = record { rays = []; facets = [] }

module _ (k : ℕ) (chambers : List Chamber) (w : Vector) (short : All (IsShortCone k) (map cone_of_chamber chambers)) (long : length w ≡ k) where
  short_at : (i : ℕ) → i < length chambers → IsShortCone k (cone_of_chamber (get_or chambers i no_chamber))
  short_at i low = subst (IsShortCone k) (get_or-map cone_of_chamber chambers i no_chamber no_cone low)
      (All-get_or (IsShortCone k) (map cone_of_chamber chambers) i no_cone (omega (arith, low, length-map chambers cone_of_chamber)) short)

  held_or_not : (i : ℕ) → i < length chambers → InCone k (get_or chambers i no_chamber).rays w ⊎ (InCone k (get_or chambers i no_chamber).rays w → ⊥)
  held_or_not i low =
      let same = full_same (short_at i low).full w in
      elim (cut_or_first k (normals_of (get_or chambers i no_chamber)) w long) [
        | inl c ↦ inl (same.1 c)
        | inr f ↦ inr (λ h. first_refuses k (normals_of (get_or chambers i no_chamber)) w f.0 f.1 (same.0 h))
      ]

  listed_or_not : (n : ℕ) → IsListedAround k chambers w n ⊎ (IsListedAround k chambers w n → ⊥)
  listed_or_not zero = inr (λ a. let e = a.is in omega (arith, e))
  listed_or_not (suc i) = elim (cases_lt i (length chambers)) [
    | inr past ↦ inr (λ a. let e = a.is in let l = a.in_range in omega (arith, e, l, past))
    | inl low ↦ elim (held_or_not i low) [
      | inl h ↦ inl (record { place = i; in_range = low; is = omega arith; holds = h })
      | inr out ↦ inr (λ a. out (subst (λ (j : ℕ). InCone k (get_or chambers j no_chamber).rays w) (let e = a.is in omega (arith, e)) a.holds))
    ]
  ]

  listed_exist : SomeNumbers (IsListedAround k chambers w)
  listed_exist =
      let n = numbers_below (IsListedAround k chambers w) listed_or_not (length chambers + 1) in
      record { numbers = n.numbers; are = all_listed k chambers w (length chambers) n.numbers (omega arith) n.are }

-- ---- the place
abbrev Told : Fan → Listing → Vector → Type 0
Told fan l w = ((p : Place) × IsPlace fan l w p) ⊎ ((at : WideAt) × IsWideAround fan w at)

module _ (fan : Fan) (l : Listing) (w : Vector) (is : IsFan fan.k fan.list) (some : 0 < length fan.list) (short : AreShortCones fan.k (cones_of l)) (long : length w ≡ fan.k) where
  module _ (within : cone_in fan 0 w) (sig : Signature) (own : IsSignature fan (w ∷ []) sig) where
    members : IsNumbers fan sig
    members = numbers fan w sig long own some within

    narrow_place : (walls : List Vector) → AreWalls fan sig walls → NeverWide fan.k walls → (p : Place) × IsPlace fan l w p
    narrow_place walls are never =
        let r = rays_exist fan.k walls in
        let rays : AreRays fan.k (InChamber fan sig) r.list = rays_along fan.k (Cut fan.k walls) (InChamber fan sig) r.list (walls_cut fan sig is members walls are) r.rays in
        let rank = rank_exists fan.k r.list (of_length_all fan.k r.list (rays_have fan sig r.list members rays)) in
        let around = numbers_below (Has sig) (has_or_not sig) (length fan.list) in
        let listed = listed_exist fan.k l.chambers w short.each long in (
          inside (record { cones = around.numbers; rays = r.list; dimension = rank.0; chambers = listed.numbers }),
          at_position fan w sig long own l (length fan.list) around.numbers r.list rank.0 listed.numbers within (narrow_signature fan sig is members walls are never) refl around.are rays rank.1 listed.are,
        )

    told_within : Told fan l w
    told_within =
        let walls = walls_exist fan sig is members in
        elim (wide_decided fan.k walls.0 (of_length_all fan.k walls.0 (walls_have fan sig is members walls.0 walls.1)) (walls_rank fan sig is members walls.0 walls.1)) [
          | inl never ↦ inl (narrow_place walls.0 walls.1 never)
          | inr wide ↦ inr (
            record { stage = wide.0; what = wide.1 },
            record { within = within; sig = sig; signature = own; wide = record { walls = walls.0; are = walls.1; wide = wide.2 } },
          )
        ]

  pub told : Told fan l w
  told = elim (cut_or_first fan.k (facets_at fan 0) w long) [
    | inr f ↦ inl (outside f.0, (first_refuses fan.k (facets_at fan 0) w f.0 f.1, f.1))
    | inl within ↦
        (let own = a_signature fan (w ∷ []) (of_length_all fan.k (w ∷ []) (more_of_length fan.k w [] long (none_of_length fan.k))) in
        told_within within own.0 own.1)
  ]
