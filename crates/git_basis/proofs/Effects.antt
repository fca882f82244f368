-- The polynomials of Take and Cancel are those of the criterion and of division.
use Rattle.std.proofs.Common.{ℕ, ◌*◌, ◌%◌, ◌≡◌, refl, Some, sym, ◌∙◌, ap, arith}
use Rattle.std.specs.Prelude.{◌≢◌}
use Rattle.std.proofs.lemmas.Nat.{mul-mod_first}
use Rattle.git_field.proofs.Inverses.{inverse_of, product-inverse_of}
use Rattle.git_algebra.specs.Exponents.{Exponents, quotient}
use Rattle.git_algebra.specs.Polynomials.{Polynomial}
use Rattle.git_algebra.specs.Operations.{zero_polynomial, minus, times_term, lead_of}
use Rattle.git_algebra.proofs.Monomials.{times_comm, times-quotient}
use Rattle.git_ideals.specs.Division.{IsSPolynomial}
use Rattle.git_ideals.proofs.Cancelling.{number_of_lead}
use Rattle.git_ideals.proofs.SPolynomials.{s_of_is}
use Rattle.git_basis.specs.Elements.{Element}
use Rattle.git_basis.specs.Run.{State, CancelsBy, element_at, or_nothing, or_unit, polynomials, s_element, cancelled}
use Rattle.git_basis.specs.Laws.{IsOneDivision}
use Rattle.git_basis.proofs.Numbers.{top_of, cancelled_from}
use Rattle.git_basis.proofs.MemberLeads.{got_member}
use Rattle.git_basis.proofs.Kept.{current_is}
use Rattle.git_basis.proofs.Good.{numbers_cancel}

pub pair_gives : (a b : Element) → a.polynomial ≢ zero_polynomial → b.polynomial ≢ zero_polynomial → IsSPolynomial a.polynomial b.polynomial (s_element a b).polynomial
pair_gives a b some other = s_of_is a.polynomial b.polynomial (or_unit (lead_of a.polynomial)) (or_unit (lead_of b.polynomial)) (top_of a.polynomial some) (top_of b.polynomial other)

pub cancelling_leaves : (s : State) (l : ℕ) → CancelsBy s l → IsOneDivision (polynomials s.members) l (or_nothing s.current).polynomial (cancelled (or_nothing s.current) (element_at s l)).polynomial
cancelling_leaves s l h =
    let t : Exponents × ℕ = h.top in
    let u : Exponents × ℕ = h.divides.divides.lead in
    let is_t : lead_of (or_nothing s.current).polynomial ≡ Some h.top = ap (λ (e : Element). lead_of e.polynomial) (current_is h.current) ∙ h.is_lead in
    let is_u : lead_of (element_at s l).polynomial ≡ Some h.divides.divides.lead = ap lead_of (sym (got_member s.members l)) ∙ h.divides.divides.is_lead in
    let a = number_of_lead (or_nothing s.current).polynomial h.top is_t in
    let b = number_of_lead (element_at s l).polynomial h.divides.divides.lead is_u in
    record {
      step = record { place = l; factor = quotient t.0 u.0; number = (t.1 * inverse_of u.1) % 32003 };
      of_member = refl;
      reaches = (
        record {
          lead = t;
          is_lead = is_t;
          other = u;
          is_other = h.divides.divides.is_lead;
          monomials = times_comm (quotient t.0 u.0) u.0 ∙ times-quotient u.0 t.0 h.divides.divides.divides;
          numbers = mul-mod_first (t.1 * inverse_of u.1) u.1 32003 ∙ numbers_cancel t.1 u.1 b.0 b.1 a.1;
          small = omega arith;
          first = h.divides.first;
        },
        ap (λ (q : Polynomial). minus (or_nothing s.current).polynomial (times_term (quotient t.0 u.0) ((t.1 * inverse_of u.1) % 32003) q)) (got_member s.members l)
            ∙ ap (λ (e : Element). e.polynomial) (cancelled_from (or_nothing s.current) (element_at s l) t u (quotient t.0 u.0) (inverse_of u.1) ((t.1 * inverse_of u.1) % 32003) is_t is_u refl (product-inverse_of u.1 b.0 b.1) refl),
      );
    }
