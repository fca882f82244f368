-- Cofactors of 1 over a face's start give an accepted monomial certificate.
use Rattle.std.proofs.Common.{ℕ, zero, suc, ◌+◌, ◌-◌, ◌*◌, ◌<◌, ◌≤◌, ◌≡◌, refl, List, [], ◌∷◌, ◌++◌, All, map, length, get_or, take, Option, Some, None, IsTrue, sym, ◌∙◌, ap, subst, arith, inl, inr}
use Rattle.std.proofs.lemmas.Bool.{cases_eq}
use Rattle.std.proofs.lemmas.Nat.{mul-le}
use Rattle.git_algebra.specs.Exponents.{Exponents, exponent, power, degree, in_face, Divides}
use Rattle.git_algebra.specs.Sums.{Sum, product, unit, Alike}
use Rattle.git_algebra.specs.Polynomials.{Polynomial, normal}
use Rattle.git_algebra.specs.Operations.{zero_polynomial, plus, multiplied, restricted, lead_of, total_degree, IsInFace}
use Rattle.git_algebra.proofs.Monomials.{degree-times, degree-one, divides_exactly, power-zero, power-suc}
use Rattle.git_algebra.proofs.Values.{value-append}
use Rattle.git_algebra.proofs.Congruence.{mod_is, alike_refl, alike_sym, alike_trans, alike-append, alike-product_right}
use Rattle.git_algebra.proofs.Normal.{same_from_alike}
use Rattle.git_algebra.proofs.Ring.{zero-plus, zero-multiplied}
use Rattle.git_algebra.proofs.Every.{Every, every-normal, every_from_all, all_from_every}
use Rattle.git_ideals.specs.Ideals.{combination, monomial, clearing}
use Rattle.git_ideals.specs.Division.{member}
use Rattle.git_ideals.specs.Faces.{face_monomial}
use Rattle.git_ideals.proofs.SumIdeals.{sum_combination}
use Rattle.git_ideals.proofs.Conversions.{terms_of, combination_alike, monomial_alike, one_alike, clearing_alike}
use Rattle.git_ideals.specs.Extra.{extra, without_extra, traded, mapped}
use Rattle.git_ideals.proofs.ExtraExponents.{without_there, without_elsewhere}
use Rattle.git_ideals.proofs.ExtraVariable.{clear}
use Rattle.git_ideals.proofs.FaceProofs.{power_in_face, place_le}
use Rattle.git_facecert.specs.Certificates.{IsCofactor, IsAcceptedMonomial}
use Rattle.git_facecert.proofs.FacePowers.{power_one, power_whole, degree_small}
use Rattle.git_basis.specs.Units.{IsUnitSum}
use Rattle.git_algebra.proofs.Degrees.{every_degree, degree_every}
use Rattle.git_algebra.proofs.Faces.{both_in, restricted_in_face}
use Rattle.git_saturate.specs.Starts.{kept_by, nonzero_part, start_of}
use Rattle.git_saturate.specs.Traded.{traded_polynomial, greatest_extra, greatest_extra_of, spread_here, spread}
use Rattle.git_saturate.specs.Laws.{HasMonomialCertificate}
use Rattle.git_saturate.proofs.StartLists.{one_longer}
use Rattle.git_saturate.proofs.Variables.{less_face, extra_face, no_extra_in_face}
use Rattle.git_saturate.proofs.Free.{part_all, member_restricted, length-restricted, start_in_face}
use Rattle.git_saturate.proofs.Powers.{EveryAll, every_weaker, power_sums, all_bounds}

-- the last one apart
pub record Parted (cs : List Polynomial) (n : ℕ) : Type 0 where
  pub front : List Polynomial
  pub last : Polynomial
  pub is : cs ≡ front ++ last ∷ []
  pub count : length front ≡ n

parted : (cs : List Polynomial) (n : ℕ) → length cs ≡ suc n → Parted cs n
parted [] n e = absurd (omega arith)
parted (c ∷ []) n e = record { front = []; last = c; is = refl; count = omega arith }
parted (c ∷ (d ∷ cs)) zero e = absurd (omega arith)
parted (c ∷ (d ∷ cs)) (suc n) e =
    let k = parted (d ∷ cs) n (omega arith) in
    record { front = c ∷ k.front; last = k.last; is = ap (λ ds. c ∷ ds) k.is; count = ap suc k.count }

combination_last : (hs : List Polynomial) (h : Polynomial) (fs : List Polynomial) (c : Polynomial) → length hs ≡ length fs → Alike (sum_combination (terms_of (hs ++ h ∷ [])) (terms_of (fs ++ c ∷ []))) (product h.terms c.terms ++ sum_combination (terms_of hs) (terms_of fs))
combination_last [] h [] c e = alike_refl _
combination_last [] h (f ∷ fs) c e = absurd (omega arith)
combination_last (k ∷ hs) h [] c e = absurd (omega arith)
combination_last (k ∷ hs) h (f ∷ fs) c e =
    alike_trans (alike-append (alike_refl (product k.terms f.terms)) (combination_last hs h fs c (omega arith)))
    (record { values = λ g. mod_is (omega (arith, value-append g (product k.terms f.terms) (product h.terms c.terms ++ sum_combination (terms_of hs) (terms_of fs)), value-append g (product h.terms c.terms) (sum_combination (terms_of hs) (terms_of fs)), value-append g (product h.terms c.terms) (product k.terms f.terms ++ sum_combination (terms_of hs) (terms_of fs)), value-append g (product k.terms f.terms) (sum_combination (terms_of hs) (terms_of fs)))) })

-- each list by each of its polynomials
every_all : (P : Exponents → Type 0) (ps : List Polynomial) → All (λ p. Every P p.terms) ps → EveryAll P ps
every_all P [] u = tt
every_all P (p ∷ ps) u = (u 0 p (omega arith), every_all P ps (λ k d h. u (suc k) d (omega arith)))

pub all_front : (P : Polynomial → Type 0) (ps : List Polynomial) (p : Polynomial) → All P (ps ++ p ∷ []) → All P ps
all_front P [] p u = λ k d h. absurd (omega arith)
all_front P (q ∷ ps) p u = by (all_front P ps p (λ k d h. u (suc k) d (omega arith)))
  where
    by : All P ps → (k : ℕ) (d : Polynomial) → k < length (q ∷ ps) → P (get_or (q ∷ ps) k d)
    by ih zero d h = u 0 d (omega arith)
    by ih (suc k) d h = ih k d (omega arith)

all_both : (P Q R : Polynomial → Type 0) (g : Polynomial → Polynomial) → ((p : Polynomial) → P p → Q p → R (g p)) → (ps : List Polynomial) → All P ps → All Q ps → All R (map g ps)
all_both P Q R g f [] u v = λ k d h. absurd (omega arith)
all_both P Q R g f (p ∷ ps) u v = by (all_both P Q R g f ps (λ k d h. u (suc k) d (omega arith)) (λ k d h. v (suc k) d (omega arith)))
  where
    by : All R (map g ps) → (k : ℕ) (d : Polynomial) → k < length (g p ∷ map g ps) → R (get_or (g p ∷ map g ps) k d)
    by ih zero d h = f p (u 0 p (omega arith)) (v 0 p (omega arith))
    by ih (suc k) d h = ih k d (omega arith)

pub length-map : (g : Polynomial → Polynomial) (ps : List Polynomial) → length (map g ps) ≡ length ps
length-map g [] = refl
length-map g (p ∷ ps) = ap suc (length-map g ps)

-- degrees
degree-without_extra : (a : Exponents) → degree (without_extra a) ≤ degree a
degree-without_extra a =
    let d : Divides (without_extra a) a = (divides_exactly (without_extra a) a).1 (λ i h. elim (cases_eq i 16) [
      | inl is ↦ omega (arith, without_there a, ap (exponent (without_extra a)) is)
      | inr other ↦ omega (arith, without_elsewhere a i h other)
    ]) in
    omega (arith, degree-times (without_extra a) d.cofactor, ap degree d.product)

degree-power : (e : Exponents) (n : ℕ) → degree (power e n) ≡ n * degree e
degree-power e zero = ap degree (power-zero e) ∙ degree-one ∙ omega arith
degree-power e (suc n) = ap degree (power-suc e n) ∙ degree-times e (power e n) ∙ (let ih : degree (power e n) ≡ n * degree e = degree-power e n in omega arith)

pub face_degree : (mask : ℕ) → mask < 65536 → degree (face_monomial mask) ≤ 17
face_degree mask small = omega (arith, ap degree (power_one (face_monomial mask)), ap degree (power_whole mask 1 small), degree_small mask 1 16)

pub degree-traded : (e : Exponents) (n : ℕ) (a : Exponents) → n ≤ 1048576 → degree e ≤ 17 → degree a ≤ 1048576 → degree (traded e n a) ≤ 33554432
unfolding traded
degree-traded e n a small few le =
    let p : (n - extra a) * degree e ≤ 1048576 * 17 = mul-le (n - extra a) (degree e) 1048576 17 (omega arith) few in
    omega (arith, degree-times (without_extra a) (power e (n - extra a)), degree-without_extra a, degree-power e (n - extra a))

every_mapped : (P R : Exponents → Type 0) (g : Exponents → Exponents) → ((a : Exponents) → P a → R (g a)) → (p : Sum) → Every P p → Every R (mapped g p)
every_mapped P R g f [] u = tt
every_mapped P R g f (t ∷ p) u = (f t.0 u.0, every_mapped P R g f p u.1)

traded_in : (mask n : ℕ) (a : Exponents) → mask < 65536 → IsTrue (in_face (mask + 65536) a) → IsTrue (in_face mask (traded (face_monomial mask) n a))
unfolding traded
traded_in mask n a small u = both_in mask (without_extra a) (power (face_monomial mask) (n - extra a)) (less_face mask a small u) (power_in_face mask (n - extra a))

-- a cofactor that was traded
traded_cofactor : (mask n : ℕ) (h : Polynomial) → mask < 65536 → n ≤ 1048576 → total_degree h ≤ 1048576 → IsInFace (mask + 65536) h → IsCofactor mask (traded_polynomial (face_monomial mask) n h)
traded_cofactor mask n h small few low inside = record {
  variables = all_from_every (λ a. IsTrue (in_face mask a)) (traded_polynomial (face_monomial mask) n h).terms (every-normal (λ a. IsTrue (in_face mask a)) (mapped (traded (face_monomial mask) n) h.terms)
      (every_mapped (λ a. IsTrue (in_face (mask + 65536) a)) (λ a. IsTrue (in_face mask a)) (traded (face_monomial mask) n) (λ a u. traded_in mask n a small u) h.terms (every_from_all (λ a. IsTrue (in_face (mask + 65536) a)) h.terms inside)));
  small = degree_every 33554432 (traded_polynomial (face_monomial mask) n h).terms (every-normal (λ a. degree a ≤ 33554432) (mapped (traded (face_monomial mask) n) h.terms)
      (every_mapped (λ a. degree a ≤ 1048576) (λ a. degree a ≤ 33554432) (traded (face_monomial mask) n) (λ a u. degree-traded (face_monomial mask) n a few (face_degree mask small) u) h.terms (every_degree 1048576 h.terms low)));
}

spread_sum : (mask : ℕ) (fs cs : List Polynomial) → length cs ≡ length (nonzero_part (map (restricted mask) fs)) → combination (spread mask fs cs) (map (restricted mask) fs) ≡ combination cs (nonzero_part (map (restricted mask) fs))
spread_sum mask [] [] e = refl
spread_sum mask [] (c ∷ cs) e = absurd (omega arith)
spread_sum mask (f ∷ fs) cs e = by (lead_of (restricted mask f)) cs e (spread_sum mask fs)
  where
    rs : List Polynomial
    rs = map (restricted mask) fs

    by : (o : Option (Exponents × ℕ)) (cs : List Polynomial) → length cs ≡ length (kept_by o (restricted mask f) (nonzero_part (map (restricted mask) fs)))
        → ((ds : List Polynomial) → length ds ≡ length (nonzero_part (map (restricted mask) fs)) → combination (spread mask fs ds) (map (restricted mask) fs) ≡ combination ds (nonzero_part (map (restricted mask) fs)))
        → combination (spread_here o cs (spread mask fs)) (restricted mask f ∷ map (restricted mask) fs) ≡ combination cs (kept_by o (restricted mask f) (nonzero_part (map (restricted mask) fs)))
    by None cs e ih = (λ i. plus (zero-multiplied (restricted mask f) i) (combination (spread mask fs cs) (map (restricted mask) fs))) ∙ zero-plus (combination (spread mask fs cs) (map (restricted mask) fs)) ∙ ih cs e
    by (Some t) [] e ih = absurd (omega arith)
    by (Some t) (c ∷ cs) e ih = ap (plus (multiplied c (restricted mask f))) (ih cs (omega arith))

length-spread : (mask : ℕ) (fs cs : List Polynomial) → length (spread mask fs cs) ≡ length fs
length-spread mask [] cs = refl
length-spread mask (f ∷ fs) cs = by (lead_of (restricted mask f)) cs (length-spread mask fs)
  where
    by : (o : Option (Exponents × ℕ)) (cs : List Polynomial) → ((ds : List Polynomial) → length (spread mask fs ds) ≡ length fs) → length (spread_here o cs (spread mask fs)) ≡ suc (length fs)
    by None cs ih = ap suc (ih cs)
    by (Some t) [] ih = ap suc (ih [])
    by (Some t) (c ∷ cs) ih = ap suc (ih cs)

all_cons : (P : Polynomial → Type 0) (p : Polynomial) (ps : List Polynomial) → P p → All P ps → All P (p ∷ ps)
all_cons P p ps h all zero d lt = h
all_cons P p ps h all (suc k) d lt = all k d (omega arith)

all_spread : (P : Polynomial → Type 0) (mask : ℕ) (fs cs : List Polynomial) → P zero_polynomial → All P cs → All P (spread mask fs cs)
all_spread P mask [] cs z all = λ k d h. absurd (omega arith)
all_spread P mask (f ∷ fs) cs z all = by (lead_of (restricted mask f)) cs all (λ ds u. all_spread P mask fs ds z u)
  where
    by : (o : Option (Exponents × ℕ)) (cs : List Polynomial) → All P cs → ((ds : List Polynomial) → All P ds → All P (spread mask fs ds)) → All P (spread_here o cs (spread mask fs))
    by None cs all ih = all_cons P zero_polynomial (spread mask fs cs) z (ih cs all)
    by (Some t) [] all ih = all_cons P zero_polynomial (spread mask fs []) z (ih [] all)
    by (Some t) (c ∷ cs) all ih = all_cons P c (spread mask fs cs) (all 0 c (omega arith)) (ih cs (λ k d h. all (suc k) d (omega arith)))

zero_cofactor : (mask : ℕ) → IsCofactor mask zero_polynomial
unfolding zero_polynomial normal
zero_cofactor mask = record { variables = λ k d h. absurd (omega arith); small = omega arith }

top_small : (p : Sum) → Every (λ a. degree a ≤ 1048576) p → greatest_extra p ≤ 1048576
top_small [] u = omega arith
top_small (t ∷ p) u = omega (arith, place_le t.0 16 (omega arith), top_small p u.1, u.0)

pub all_top_small : (ps : List Polynomial) → All (λ p. total_degree p ≤ 1048576) ps → greatest_extra_of ps ≤ 1048576
all_top_small [] u = omega arith
all_top_small (p ∷ ps) u = omega (arith, top_small p.terms (every_degree 1048576 p.terms (u 0 p (omega arith))), all_top_small ps (λ k d h. u (suc k) d (omega arith)))

part_no_extra : (mask : ℕ) (fs : List Polynomial) → mask < 65536 → All (λ p. Every (λ a. extra a ≡ 0) p.terms) (nonzero_part (map (restricted mask) fs))
part_no_extra mask fs small = part_all (λ p. Every (λ a. extra a ≡ 0) p.terms) (map (restricted mask) fs) (λ k h some.
    let lt : k < length fs = omega (arith, h, length-restricted mask fs) in
    subst (λ (p : Polynomial). Every (λ a. extra a ≡ 0) p.terms) (sym (member_restricted mask fs k zero_polynomial lt))
    (every_weaker (λ a. IsTrue (in_face mask a)) (λ a. extra a ≡ 0) (λ a u. no_extra_in_face mask a small u) (restricted mask (member fs k)).terms (restricted_in_face mask (member fs k))))

-- the cofactors of 1, but for the last one, as cofactors of a power
pub accepted_monomial : (generators : List Polynomial) (mask : ℕ) (cs : List Polynomial) → mask < 65536 → IsUnitSum (start_of generators mask) cs → (k : Parted cs (length (nonzero_part (map (restricted mask) generators))))
    → IsAcceptedMonomial generators mask (greatest_extra_of k.front) (spread mask generators (map (traded_polynomial (face_monomial mask) (greatest_extra_of k.front)) k.front))
accepted_monomial generators mask cs small u = from
  where
    part : List Polynomial
    part = nonzero_part (map (restricted mask) generators)

    e : Exponents
    e = face_monomial mask

    unit_sums : Alike (sum_combination (terms_of cs) (terms_of (nonzero_part (map (restricted mask) generators) ++ clearing (face_monomial mask) ∷ []))) unit
    unit_sums = alike_trans (alike_sym (combination_alike cs (start_of generators mask))) (subst (λ (q : Polynomial). Alike q.terms unit) (sym u.sum) one_alike)

    from : (k : Parted cs (length (nonzero_part (map (restricted mask) generators)))) → IsAcceptedMonomial generators mask (greatest_extra_of k.front) (spread mask generators (map (traded_polynomial (face_monomial mask) (greatest_extra_of k.front)) k.front))
    from k =
        let n : ℕ = greatest_extra_of k.front in
        let low : All (λ p. total_degree p ≤ 1048576) k.front = all_front (λ p. total_degree p ≤ 1048576) k.front k.last (subst (λ (ds : List Polynomial). All (λ p. total_degree p ≤ 1048576) ds) k.is u.small) in
        let few : greatest_extra_of k.front ≤ 1048576 = all_top_small k.front low in
        let inside : All (IsInFace (mask + 65536)) k.front = all_front (IsInFace (mask + 65536)) k.front k.last (subst (All (IsInFace (mask + 65536))) k.is (u.variables (mask + 65536) (start_in_face generators mask small))) in
        let sums : Alike (product k.last.terms (clear (face_monomial mask)) ++ sum_combination (terms_of k.front) (terms_of (nonzero_part (map (restricted mask) generators)))) unit =
        alike_trans (alike-append (alike-product_right k.last.terms (alike_sym (clearing_alike (face_monomial mask)))) (alike_refl (sum_combination (terms_of k.front) (terms_of (nonzero_part (map (restricted mask) generators))))))
        (alike_trans (alike_sym (combination_last k.front k.last (nonzero_part (map (restricted mask) generators)) (clearing (face_monomial mask)) k.count))
        (subst (λ (ds : List Polynomial). Alike (sum_combination (terms_of ds) (terms_of (nonzero_part (map (restricted mask) generators) ++ clearing (face_monomial mask) ∷ []))) unit) k.is unit_sums)) in
        let hs : List Polynomial = map (traded_polynomial (face_monomial mask) (greatest_extra_of k.front)) k.front in
        let powers = power_sums (face_monomial mask) (greatest_extra_of k.front) k.last k.front (nonzero_part (map (restricted mask) generators)) (extra_face mask small) (all_bounds (greatest_extra_of k.front) k.front (omega arith))
        (every_all (λ a. extra a ≡ 0) (nonzero_part (map (restricted mask) generators)) (part_no_extra mask generators small)) sums in
        record {
          one_each = length-spread mask generators (map (traded_polynomial (face_monomial mask) (greatest_extra_of k.front)) k.front);
          cofactors_are = all_spread (IsCofactor mask) mask generators (map (traded_polynomial (face_monomial mask) (greatest_extra_of k.front)) k.front) (zero_cofactor mask)
              (all_both (λ p. total_degree p ≤ 1048576) (IsInFace (mask + 65536)) (IsCofactor mask) (traded_polynomial (face_monomial mask) (greatest_extra_of k.front)) (λ p a b. traded_cofactor mask (greatest_extra_of k.front) p small few a b) k.front low inside);
          small = few;
          sum = spread_sum mask generators (map (traded_polynomial (face_monomial mask) (greatest_extra_of k.front)) k.front) (length-map (traded_polynomial (face_monomial mask) (greatest_extra_of k.front)) k.front ∙ k.count)
              ∙ same_from_alike (combination (map (traded_polynomial (face_monomial mask) (greatest_extra_of k.front)) k.front) (nonzero_part (map (restricted mask) generators))) (monomial (power (face_monomial mask) (greatest_extra_of k.front)))
              (alike_trans (combination_alike (map (traded_polynomial (face_monomial mask) (greatest_extra_of k.front)) k.front) (nonzero_part (map (restricted mask) generators))) (alike_trans powers (alike_sym (monomial_alike (power (face_monomial mask) (greatest_extra_of k.front))))));
        }

pub parted_unit : (generators : List Polynomial) (mask : ℕ) (cs : List Polynomial) → IsUnitSum (start_of generators mask) cs → Parted cs (length (nonzero_part (map (restricted mask) generators)))
parted_unit generators mask cs u = parted cs (length (nonzero_part (map (restricted mask) generators))) (u.one_each ∙ one_longer (nonzero_part (map (restricted mask) generators)) (clearing (face_monomial mask)))

pub monomial_certificate : (generators : List Polynomial) (mask : ℕ) (cs : List Polynomial) → mask < 65536 → IsUnitSum (start_of generators mask) cs → HasMonomialCertificate generators mask
monomial_certificate generators mask cs small u = record { exponent = _; cofactors = _; accepted = accepted_monomial generators mask cs small u (parted_unit generators mask cs u) }

-- the parts, by number
whole_last : (cs : List Polynomial) (n : ℕ) → length cs ≡ suc n → cs ≡ take n cs ++ get_or cs n zero_polynomial ∷ []
whole_last [] n e = absurd (omega arith)
whole_last (c ∷ []) zero e = refl
whole_last (c ∷ (d ∷ cs)) zero e = absurd (omega arith)
whole_last (c ∷ cs) (suc n) e = ap (λ (ds : List Polynomial). c ∷ ds) (whole_last cs n (omega arith))

length-front : (cs : List Polynomial) (n : ℕ) → n ≤ length cs → length (take n cs) ≡ n
length-front cs zero h = taken_none cs
  where
    taken_none : (cs : List Polynomial) → length (take 0 cs) ≡ 0
    taken_none [] = refl
    taken_none (c ∷ cs) = refl
length-front [] (suc n) h = absurd (omega arith)
length-front (c ∷ cs) (suc n) h = ap suc (length-front cs n (omega arith))

pub unit_parts : (generators : List Polynomial) (mask : ℕ) (cs : List Polynomial) → IsUnitSum (start_of generators mask) cs → Parted cs (length (nonzero_part (map (restricted mask) generators)))
unit_parts generators mask cs u =
    let n : ℕ = length (nonzero_part (map (restricted mask) generators)) in
    let long : length cs ≡ suc (length (nonzero_part (map (restricted mask) generators))) = u.one_each ∙ one_longer (nonzero_part (map (restricted mask) generators)) (clearing (face_monomial mask)) in
    record {
      front = take (length cs - 1) cs;
      last = get_or cs (length cs - 1) zero_polynomial;
      is = whole_last cs (length cs - 1) (omega (arith, long));
      count = length-front cs (length cs - 1) (omega arith) ∙ omega (arith, long);
    }

pub power_small : (generators : List Polynomial) (mask : ℕ) (cs : List Polynomial) (u : IsUnitSum (start_of generators mask) cs) → greatest_extra_of (take (length cs - 1) cs) ≤ 1048576
unfolding unit_parts
power_small generators mask cs u =
    let k = unit_parts generators mask cs u in
    all_top_small (take (length cs - 1) cs) (all_front (λ p. total_degree p ≤ 1048576) (take (length cs - 1) cs) k.last (subst (λ (ds : List Polynomial). All (λ p. total_degree p ≤ 1048576) ds) k.is u.small))

pub made_monomial : (generators : List Polynomial) (mask : ℕ) (cs : List Polynomial) (power : ℕ) (cofactors : List Polynomial) → mask < 65536 → IsUnitSum (start_of generators mask) cs → power ≡ greatest_extra_of (take (length cs - 1) cs)
    → cofactors ≡ spread mask generators (map (traded_polynomial (face_monomial mask) power) (take (length cs - 1) cs)) → IsAcceptedMonomial generators mask power cofactors
unfolding unit_parts
made_monomial generators mask cs power cofactors small u e is =
    subst (λ (hs : List Polynomial). IsAcceptedMonomial generators mask power hs) (sym is)
    (subst (λ n. IsAcceptedMonomial generators mask n (spread mask generators (map (traded_polynomial (face_monomial mask) n) (take (length cs - 1) cs)))) (sym e) (accepted_monomial generators mask cs small u (unit_parts generators mask cs u)))
