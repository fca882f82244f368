-- A division of polynomials, as a sum of monic members times terms.
use Rattle.std.proofs.Common.{ℕ, suc, ◌*◌, ◌<◌, ◌≡◌, refl, List, [], ◌∷◌, ◌++◌, Some, sym, ◌∙◌, ap, subst, arith}
use Rattle.git_field.proofs.Inverses.{inverse_of, product-inverse_of}
use Rattle.git_algebra.specs.Exponents.{Exponents, times, one}
use Rattle.git_algebra.specs.Order.{rank}
use Rattle.git_algebra.specs.Sums.{Sum, value, shift, Mod, Alike}
use Rattle.git_algebra.specs.Polynomials.{Polynomial}
use Rattle.git_algebra.specs.Operations.{lead_of}
use Rattle.git_algebra.proofs.Monomials.{one-times}
use Rattle.git_algebra.proofs.Values.{value-append, value-shift}
use Rattle.git_algebra.proofs.Congruence.{mod_refl, mod_is, mod_sym, mod_trans, mod_mul, alike_refl, alike_trans, alike-append}
use Rattle.git_algebra.proofs.Leads.{Below, below-shift}
use Rattle.git_algebra.proofs.Ring.{value-shift_one}
use Rattle.git_ideals.specs.Division.{Step, member, TakesLead, after, Reaches}
use Rattle.git_ideals.proofs.Criterion.{Member, Reps, reps_nil, reps-append}
use Rattle.git_ideals.proofs.Reductions.{reps_more}
use Rattle.git_ideals.proofs.Cancelling.{number_of_lead, lead_below, height, height_of_lead, step_lower, monic_sum, monic_number, less_undone}

unfoldable pub member_of : (g : Polynomial) (t : Exponents × ℕ) → lead_of g ≡ Some t → Member
member_of g t e = record {
  sum = monic_sum g t.1;
  lead = t.0;
  is_lead = record {
    some = λ h. absurd (let two : Mod 0 1 = mod_trans (mod_sym h) (monic_number g t e) in omega (arith, two.same));
    above = subst (λ (m : Exponents). Below (suc (rank m)) (monic_sum g t.1)) (one-times t.0) (below-shift one (inverse_of t.1) g.terms t.0 (lead_below g t e));
  };
  monic = monic_number g t e;
}

-- the monic members of a list
pub record MemberOf (basis : List Polynomial) (m : Member) : Type 0 where
  pub place : ℕ
  pub lead : Exponents × ℕ
  pub is_lead : lead_of (member basis place) ≡ Some lead
  pub same : m ≡ member_of (member basis place) lead is_lead

-- one member times a term
pub one_item : {basis : List Polynomial} (n place : ℕ) (u : Exponents × ℕ) (w : Exponents) (c : ℕ) → lead_of (member basis place) ≡ Some u → rank (times w u.0) < n → Reps (MemberOf basis) n (shift w c (monic_sum (member basis place) u.1))
unfolding member_of
one_item {basis} n place u w c is_lead lt = record {
  items = record {
    member = member_of (member basis place) u is_lead;
    inside = record { place = place; lead = u; is_lead = is_lead; same = refl };
    factor = w;
    number = c;
  } ∷ [];
  under = (lt, tt);
  sums = record { values = λ f. mod_is (value-append f (shift w c (monic_sum (member basis place) u.1)) [] ∙ omega arith) };
}

-- a multiple of a member is one of the monic member
pub multiple_is : (g : Polynomial) (u : Exponents × ℕ) (w : Exponents) (c : ℕ) → lead_of g ≡ Some u → Alike (shift w (c * u.1) (monic_sum g u.1)) (shift w c g.terms)
multiple_is g u w c is_lead = record {
  values = λ f.
      let k = number_of_lead g u is_lead in
      mod_trans (mod_is (value-shift f w (c * u.1) (monic_sum g u.1) ∙ ap (λ m. c * u.1 * m) (value-shift_one (λ b. f (times w b)) (inverse_of u.1) g.terms)))
      (mod_trans (numbers c u.1 (inverse_of u.1) (value (λ b. f (times w b)) g.terms) (record { same = product-inverse_of u.1 k.0 k.1 }))
      (mod_is (sym (value-shift f w c g.terms))));
}
  where
    numbers : (c d i v : ℕ) → Mod (d * i) 1 → Mod (c * d * (i * v)) (c * v)
    numbers c d i v is_one =
        mod_trans (mod_is (let a : c * d * (i * v) ≡ d * i * (c * v) = omega arith in a)) (mod_trans (mod_mul is_one (mod_refl (c * v))) (mod_is (omega arith)))

-- what was divided is what is left and a sum of members times terms, whose leads rank below the height at the start
pub record Left (basis : List Polynomial) (f r : Polynomial) : Type 0 where
  pub taken : Sum
  pub reps : Reps (MemberOf basis) (height f) taken
  pub whole : Alike f.terms (r.terms ++ taken)

alike_regroup : (a b c : Sum) → Alike ((a ++ b) ++ c) (a ++ (c ++ b))
alike_regroup a b c = record { values = λ g. mod_is (omega (arith, value-append g (a ++ b) c, value-append g a b, value-append g a (c ++ b), value-append g c b)) }

pub left_from : (basis : List Polynomial) (f : Polynomial) (ss : List Step) (r : Polynomial) → Reaches basis f ss r → Left basis f r
left_from basis f [] r e = record {
  taken = [];
  reps = reps_nil _;
  whole = record { values = λ g. mod_is (omega (arith, value-append g r.terms [], ap (λ (p : Polynomial). value g p.terms) e)) };
}
left_from basis f (s ∷ ss) r h =
    let k : TakesLead basis f s = h.0 in
    let rest : Left basis (after basis f s) r = left_from basis (after basis f s) ss r h.1 in
    let low : height (after basis f s) < height f = step_lower basis f s h.0 in
    let here : rank (times s.factor k.other.0) < height f = omega (arith, ap rank k.monomials, height_of_lead f k.lead k.is_lead) in
    let x : Sum = shift s.factor (s.number * k.other.1) (monic_sum (member basis s.place) k.other.1) in
    record {
      taken = shift s.factor (s.number * h.0.other.1) (monic_sum (member basis s.place) h.0.other.1) ++ rest.taken;
      reps = reps-append (one_item (height f) s.place h.0.other s.factor (s.number * h.0.other.1) h.0.is_other here) (reps_more (omega (arith, low)) rest.reps);
      whole = alike_trans (less_undone f (member basis s.place) s.factor s.number h.0.other h.0.is_other)
          (alike_trans (alike-append rest.whole (alike_refl (shift s.factor (s.number * h.0.other.1) (monic_sum (member basis s.place) h.0.other.1))))
          (alike_regroup r.terms rest.taken (shift s.factor (s.number * h.0.other.1) (monic_sum (member basis s.place) h.0.other.1))));
    }
