-- When a weight is inside of the chamber of its own signature.
use Rattle.std.proofs.Common.{◌≡◌, ◌∙◌, ◌⊎◌, ◌∷◌, [], List, All, ap, arith, inl, inr, length, map, refl, subst, suc, sym, zero, ℕ}
use Rattle.std.proofs.Math.IntN.{pos, ℤ}
use Rattle.std.proofs.lemmas.Int.{ints}
use Rattle.std.specs.Prelude.{◌↔◌, ◌≤ℤ◌, ◌<ℤ◌}
use Rattle.git_defs.specs.Cones.{Cut, Dual, InCone, SameSet}
use Rattle.git_defs.specs.Vectors.{Vector, combination, dot, plus, scale, zero_vector}
use Rattle.git_defs.proofs.Closed.{closed_cone}
use Rattle.git_defs.proofs.Lengths.{OfLength, first_of_length, more_of_length, none_of_length, of_length_all, rest_of_length}
use Rattle.git_defs.proofs.Linear.{combination_beside, dot-comm, dot-plus, dot-scale, dot-zero, length-combination, length-scale, length-zero}
use Rattle.git_defs.proofs.Sums.{plus-zero, scale_none}
use Rattle.git_lemmas.specs.Members.{Member}
use Rattle.git_lemmas.proofs.Integers.{mul_pos, pos_of_mul}
use Rattle.git_lemmas.proofs.Members.{all_member, contains_member, member_all, member_contains}
use Rattle.git_geometry.proofs.Cuts.{cut_closed, cut_of, side_at}
use Rattle.git_geometry.proofs.Facets.{dual_of_dual}
use Rattle.git_geometry.proofs.Primitive.{vanish}
use Rattle.git_geometry.proofs.Rays.{dual_along, dual_cut, same_back}
use Rattle.git_cone_faces.specs.Faces.{IsFullCone}
use Rattle.git_cone_faces.proofs.Full.{full_generates, full_have}
use Rattle.git_machine.specs.Signatures.{Has, Signature}
use Rattle.git_orbit.specs.Orbits.{Fan, IsFan}
use Rattle.git_orbit.specs.Signatures.{InChamber, IsLegal, IsSignature, cone_in, facets_at}
use Rattle.git_orbit.proofs.Existence.{a_signature}
use Rattle.git_orbit.proofs.Signatures.{around_is_member, same_set}
use Rattle.git_orbit.proofs.Walls.{weight_in}
use Rattle.git_chamber.specs.Chambers.{AreWalls, IsChamber, IsFullSet}
use Rattle.git_chamber.proofs.Facets.{cone_facets, walls_cut, walls_have}
use Rattle.git_chamber.proofs.Fulls.{legal_is_full}
use Rattle.git_chamber.proofs.Gatherings.{walls_exist}
use Rattle.git_chamber.proofs.Inner.{cut_out, generated}
use Rattle.git_covering.proofs.Listed.{full_chamber}
use Rattle.git_locate.specs.Laws.{IsInside}
use Rattle.git_locate.specs.Positions.{IsAround}
use Rattle.git_locate.proofs.Gathered.{around_has, has_around}

-- ---- a vector of a cone is positive where the generators are
module _ (k : ℕ) (w : Vector) where
  some_term : (n : ℕ) (v y : Vector) → length v ≡ length y → pos 0 <ℤ dot w v → pos 0 ≤ℤ dot w y → pos 0 <ℤ dot w (plus (scale (pos (suc n)) v) y)
  some_term n v y same more beside =
      let s = dot-plus w (scale (pos (suc n)) v) y (length-scale (pos (suc n)) v ∙ same) in
      let t = dot-scale w (pos (suc n)) v in
      let m = mul_pos (pos (suc n)) (dot w v) (omega (arith, ints)) more in
      omega (arith, ints, s, t, m, beside)

  above : (ns : List ℕ) (vs : List Vector) → OfLength k vs → ((v : Vector) → Member v vs → pos 0 <ℤ dot w v)
      → (pos 0 <ℤ dot w (combination k (map pos ns) vs)) ⊎ (combination k (map pos ns) vs ≡ zero_vector k)
  above [] vs have all = inr refl
  above (n ∷ ns) [] have all = inr refl
  above (zero ∷ ns) (v ∷ vs) have all =
      let here = first_of_length k v vs have in
      let rest = rest_of_length k v vs have in
      let y = combination k (map pos ns) vs in
      elim (above ns vs rest (λ u m. all u (inr m))) [
        | inr e ↦ inr ((λ i. plus (scale_none v k here i) (e i)) ∙ plus-zero (zero_vector k) k (length-zero k))
        | inl more ↦ inl (
            let s = dot-plus w (scale (pos 0) v) y (length-scale (pos 0) v ∙ here ∙ sym (length-combination k (map pos ns) vs rest)) in
            let t : dot w (scale (pos 0) v) ≡ pos 0 = ap (dot w) (scale_none v k here) ∙ dot-zero w k in
            omega (arith, ints, s, t, more))
      ]
  above (suc n ∷ ns) (v ∷ vs) have all =
      let here = first_of_length k v vs have in
      let rest = rest_of_length k v vs have in
      inl (some_term n v (combination k (map pos ns) vs) (here ∙ sym (length-combination k (map pos ns) vs rest)) (all v (inl refl))
      (combination_beside k w ns vs rest (λ u m. let p = all u (inr m) in omega (arith, ints, p))))

  pub above_cone : (vs : List Vector) (x : Vector) → OfLength k vs → ((v : Vector) → Member v vs → pos 0 <ℤ dot w v) → InCone k vs x → (x ≡ zero_vector k → ⊥) → pos 0 <ℤ dot w x
  above_cone vs x have all h some = elim (above h.weights vs have all) [
    | inl more ↦ (let p = h.positive in pos_of_mul (pos h.multiple) (dot w x) (omega (arith, ints, p))
        (subst (λ (z : ℤ). pos 0 <ℤ z) (ap (dot w) (sym h.sum) ∙ dot-scale w (pos h.multiple) x) more))
    | inr e ↦ absurd (some (vanish k h.multiple x h.positive (h.sum ∙ e)))
  ]

-- so is a normal that is negative nowhere on a cone, where the facets are
normal_above : (k : ℕ) (vs : List Vector) (w n : Vector) → OfLength k vs → IsInside vs w → InCone k vs n → (n ≡ zero_vector k → ⊥) → pos 0 <ℤ dot n w
normal_above k vs w n have all inside some = subst (λ (z : ℤ). pos 0 <ℤ z) (dot-comm w n) (above_cone k w vs n have
    (λ v m. subst (λ (z : ℤ). pos 0 <ℤ z) (dot-comm v w) (all_member (λ (u : Vector). pos 0 <ℤ dot u w) v vs all m)) inside some)

module _ (fan : Fan) (sig : Signature) (rays facets : List Vector) (weight w : Vector) (is : IsFan fan.k fan.list) (legal : IsLegal fan sig)
    (c : IsChamber fan sig rays facets weight) (long : length w ≡ fan.k) where
  whole : IsFullSet fan sig
  whole = legal_is_full fan sig is legal

  same : SameSet (InChamber fan sig) (InCone fan.k rays)
  same = generated fan sig is whole rays facets weight c

  full : IsFullCone fan.k rays facets
  full = full_chamber fan is sig rays facets weight legal c

  facets_long : OfLength fan.k facets
  facets_long = record { each = λ v m. ((c.facets_are.each v).0 (member_contains v facets m)).edge.member.entries }

  -- ---- from the chamber to its cones
  in_chamber : IsInside facets w → InChamber fan sig w
  in_chamber all = (cut_out fan sig is whole rays facets weight c w).1 (cut_of long (λ n m. let p = all_member (λ (v : Vector). pos 0 <ℤ dot v w) n facets all m in omega (arith, ints, p)))

  inside_cone : IsInside facets w → (i : ℕ) → Has sig i → IsInside (facets_at fan i) w
  inside_cone all i has =
      let f = cone_facets fan is i (whole.numbers.in_range i has) in
      member_all (λ (n : Vector). pos 0 <ℤ dot n w) (facets_at fan i) (λ n m.
      let dual : Dual fan.k (InChamber fan sig) n = record { entries = (f.short n m).entries; sides = λ x inside. side_at (inside i has) n m } in
      let cut = (dual_cut fan.k rays (full_have full) n).0 ((dual_along fan.k (InChamber fan sig) (InCone fan.k rays) same n).0 dual) in
      normal_above fan.k facets w n facets_long all ((full_generates full).all n cut) (f.nonzero n m))

  contains_has : (i : ℕ) → IsAround fan w i → All (cone_in fan i) rays → Has sig i
  contains_has i a all = (around_is_member fan legal.germ sig i legal.is a.in_range
      (λ x inside. closed_cone fan.k (cone_in fan i) rays x (cut_closed fan.k (facets_at fan i)) (λ v m. all_member (cone_in fan i) v rays all m) ((same x).0 inside))).1

  own_signature : IsInside facets w → ((i : ℕ) → IsAround fan w i → All (cone_in fan i) rays) → IsSignature fan (w ∷ []) sig
  own_signature all around =
      let own = a_signature fan (w ∷ []) (of_length_all fan.k (w ∷ []) (more_of_length fan.k w [] long (none_of_length fan.k))) in
      let e : sig ≡ own.0 = same_set fan legal.germ (w ∷ []) sig own.0 legal.is own.1 (λ i. (
        λ has. (weight_in fan w own.0 long own.1 i).1 (whole.numbers.in_range i has, in_chamber all i has),
        λ has. let a = has_around fan w own.0 long own.1 i has in contains_has i a (around i a),
      )) in
      subst (IsSignature fan (w ∷ [])) (sym e) own.1

  -- ---- and back
  walls_above : (walls : List Vector) → AreWalls fan sig walls → IsSignature fan (w ∷ []) sig → ((i : ℕ) → IsAround fan w i → IsInside (facets_at fan i) w) → IsInside walls w
  walls_above walls are own strict = member_all (λ (n : Vector). pos 0 <ℤ dot n w) walls (λ n m.
      let p = (are.each n).0 (member_contains n walls m) in
      all_member (λ (v : Vector). pos 0 <ℤ dot v w) n (facets_at fan p.0) (strict p.0 (has_around fan w sig long own p.0 p.1)) (contains_member n (facets_at fan p.0) p.2))

  facets_above : IsSignature fan (w ∷ []) sig → ((i : ℕ) → IsAround fan w i → IsInside (facets_at fan i) w) → IsInside facets w
  facets_above own strict =
      let k = fan.k in
      let walls = (walls_exist fan sig is whole.numbers).0 in
      let are = (walls_exist fan sig is whole.numbers).1 in
      let have = walls_have fan sig is whole.numbers walls are in
      let cut = walls_cut fan sig is whole.numbers walls are in
      member_all (λ (n : Vector). pos 0 <ℤ dot n w) facets (λ n m.
      let edge = ((c.facets_are.each n).0 (member_contains n facets m)).edge in
      let of_cut : Dual k (Cut k walls) n = (dual_along k (InChamber fan sig) (Cut k walls) (same_back (Cut k walls) (InChamber fan sig) cut) n).0 edge.member in
      let of_dual = (dual_along k (Cut k walls) (Dual k (InCone k walls)) (same_back (Dual k (InCone k walls)) (Cut k walls) (dual_cut k walls have)) n).0 of_cut in
      normal_above k walls w n have (walls_above walls are own strict) ((dual_of_dual k walls have n).0 of_dual) edge.nonzero)

  rays_in : IsSignature fan (w ∷ []) sig → (i : ℕ) → IsAround fan w i → All (cone_in fan i) rays
  rays_in own i a = member_all (cone_in fan i) rays (λ v m. ((c.rays_are.each v).0 (member_contains v rays m)).edge.member i (around_has fan w sig long own i a))

  pub inside_where_own : (IsInside facets w × ((i : ℕ) → IsAround fan w i → All (cone_in fan i) rays))
      ↔ (IsSignature fan (w ∷ []) sig × ((i : ℕ) → IsAround fan w i → IsInside (facets_at fan i) w))
  inside_where_own = (
    λ p. (own_signature p.0 p.1, λ i a. inside_cone p.0 i (contains_has i a (p.1 i a))),
    λ q. (facets_above q.0 q.1, rays_in q.0),
  )
