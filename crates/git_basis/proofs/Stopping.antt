-- How a run stops, step by step.
use Rattle.std.proofs.Common.{ℕ, suc, ◌+◌, ◌≤◌, ◌≡◌, refl, List, [], ◌∷◌, ◌++◌, length, Some, sym, ◌∙◌, ap, subst, arith, inl}
use Rattle.git_basis.specs.Elements.{Element}
use Rattle.git_basis.specs.Run.{State, IsMade, IsRun, HasUnit, after, effect, or_nothing}
use Rattle.git_basis.specs.declared.step.Step.{Step}
use Rattle.git_basis.specs.declared.step.Step.TheVariants.{Take, Cancel, Keep, Drop}

pub run-more : (s : State) (ts : List Step) (t : Step) → IsRun s ts → IsMade (after s ts) t → IsRun s (ts ++ t ∷ [])
run-more s [] t r m = (m, tt)
run-more s (u ∷ ts) t r m = (r.0, run-more (effect s u) ts t r.1 m)

pub after-more : (s : State) (ts : List Step) (t : Step) → after s (ts ++ t ∷ []) ≡ effect (after s ts) t
after-more s [] t = refl
after-more s (u ∷ ts) t = after-more (effect s u) ts t

length_one_more : {A : Type 0} (xs : List A) (x : A) → length (xs ++ x ∷ []) ≡ suc (length xs)
length_one_more [] x = refl
length_one_more (y ∷ xs) x = ap suc (length_one_more xs x)

pub members_more : (s : State) (t : Step) → length (effect s t).members ≤ length s.members + 1
members_more s (Take i j) = omega arith
members_more s (Cancel l) = omega arith
members_more s Keep = omega (arith, length_one_more s.members (or_nothing s.current))
members_more s Drop = omega arith

-- what the loop keeps
pub record IsMadeSoFar (start now : State) (steps : List Step) (made : ℕ) : Type 0 where
  pub is_run : IsRun start steps
  pub now_is : now ≡ after start steps
  pub count : length steps ≡ made
  pub members : length now.members ≤ length start.members + made

pub one_more_made : (start now next : State) (steps more : List Step) (t : Step) (made : ℕ) → IsMadeSoFar start now steps made → IsMade now t → next ≡ effect now t → more ≡ steps ++ t ∷ [] → IsMadeSoFar start next more (made + 1)
one_more_made start now next steps more t made k m e d =
    let there : IsMade (after start steps) t = subst (λ s. IsMade s t) k.now_is m in
    record {
      is_run = subst (IsRun start) (sym d) (run-more start steps t k.is_run there);
      now_is = e ∙ ap (λ s. effect s t) k.now_is ∙ sym (after-more start steps t) ∙ ap (after start) (sym d);
      count = omega (arith, ap (λ (ts : List Step). length ts) d, length_one_more steps t, k.count);
      members = omega (arith, k.members, members_more now t, ap (λ (s : State). length s.members) e);
    }

-- a step that leaves a polynomial current leaves no lead 1
none_is_one : (s : State) (t : Step) → IsMade s t → (e : Element) → (effect s t).current ≡ Some e → HasUnit (effect s t) → ⊥
none_is_one s (Take i j) m e c u = m.goes_on (inl (record { place = u.place; within = u.within; is_one = u.is_one; nonzero = u.nonzero }))
none_is_one s (Cancel l) m e c u = m.goes_on (inl (record { place = u.place; within = u.within; is_one = u.is_one; nonzero = u.nonzero }))
none_is_one s Keep m e c u = absurd cc
none_is_one s Drop m e c u = absurd cc

-- so does a run
pub busy_run : (s : State) (ts : List Step) → ((e : Element) → s.current ≡ Some e → HasUnit s → ⊥) → IsRun s ts → (e : Element) → (after s ts).current ≡ Some e → HasUnit (after s ts) → ⊥
busy_run s [] none r e c u = none e c u
busy_run s (t ∷ ts) none r e c u = busy_run (effect s t) ts (none_is_one s t r.0) r.1 e c u
